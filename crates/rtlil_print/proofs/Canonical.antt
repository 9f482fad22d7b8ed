-- The tokens of the line that a statement is printed as, and what has to fit in it.
use Rattle.std.proofs.Common.{ℕ, ℤ, pos, negsuc, ◌<◌, ◌^◌, Bool, true, false, List, [], ◌∷◌, ◌++◌, Option, Some, None}
use Rattle.std.specs.Prelude.{◌==◌, if◌then◌else◌}
use Rattle.std.specs.List.{flat_map}
use Rattle.rtlil_lex.specs.declared.token.Token.{Token}
use Rattle.rtlil_lex.specs.declared.token.Token.TheVariants as token
use Rattle.rtlil_lex.specs.declared.token.Word.TheVariants as word
use Rattle.rtlil_lex.specs.Spelling.{IsIdentifier, Fits}
use Rattle.rtlil_lex.proofs.Pieces.{AllOf}
use Rattle.rtlil_text.specs.declared.doc.DocConst.{DocConst}
use Rattle.rtlil_text.specs.declared.doc.DocMem.{DocMem}
use Rattle.rtlil_text.specs.declared.doc.DocWire.{DocWire}
use Rattle.rtlil_text.specs.declared.doc.Part.{Part}
use Rattle.rtlil_text.specs.declared.doc.Part.TheVariants as part
use Rattle.rtlil_text.specs.declared.place.Statement.{Statement}
use Rattle.rtlil_text.specs.declared.place.Statement.TheVariants as says
use Rattle.rtlil_print.specs.WellFormed.{IsWire, IsMemory}
use Rattle.rtlil_text.specs.Grammar as grammar
use Rattle.rtlil_text.specs.Grammar.{const_token, flag_tokens, value_tokens, WireOption, wire_option_tokens, MemOption, mem_option_tokens, Says}

-- ---- signals

abbrev pub slice_tokens : ℕ → ℕ → List Token
slice_tokens h l =
    if h == l then token.OpenBracket ∷ token.Number (pos h) ∷ token.CloseBracket ∷ []
    else token.OpenBracket ∷ token.Number (pos h) ∷ token.Colon ∷ token.Number (pos l) ∷ token.CloseBracket ∷ []

abbrev pub part_tokens : Part → List Token
part_tokens (part.Fixed c) = const_token c ∷ []
part_tokens (part.Wire n) = token.Id n ∷ []
part_tokens (part.Slice h l) = slice_tokens h l
part_tokens part.Begin = token.OpenBrace ∷ []
part_tokens part.End = token.CloseBrace ∷ []

abbrev pub signal_tokens : List Part → List Token
signal_tokens ps = flat_map part_tokens ps

abbrev pub PartFits : Part → Type 0
PartFits (part.Fixed c) = Fits (const_token c)
PartFits (part.Wire n) = IsIdentifier n
PartFits (part.Slice h l) = (h < 2 ^ 31) × (l < 2 ^ 31)
PartFits part.Begin = Unit {0}
PartFits part.End = Unit {0}

abbrev pub ValueFits : Option DocConst → Type 0
ValueFits None = Unit {0}
ValueFits (Some c) = Fits (const_token c)

-- ---- options

abbrev pub width_list : ℕ → List WireOption
width_list n = if n == 1 then [] else grammar.width n ∷ []

abbrev pub offset_list : ℤ → List WireOption
offset_list (pos n) = if n == 0 then [] else grammar.offset (pos n) ∷ []
offset_list (negsuc n) = grammar.offset (negsuc n) ∷ []

abbrev pub port_list : Bool → Bool → ℕ → List WireOption
port_list true true n = grammar.inout n ∷ []
port_list true false n = grammar.input n ∷ []
port_list false true n = grammar.output n ∷ []
port_list false false n = []

abbrev pub flag_list : WireOption → Bool → List WireOption
flag_list o b = if b then o ∷ [] else []

abbrev pub wire_list : DocWire → List WireOption
wire_list w = width_list w.width ++ offset_list w.offset ++ port_list w.input w.output w.port ++ flag_list grammar.upto w.upto ++ flag_list grammar.signed w.signed

abbrev pub mem_list_of : (ℕ → MemOption) → ℕ → ℕ → List MemOption
mem_list_of o n without = if n == without then [] else o n ∷ []

abbrev pub mem_list : DocMem → List MemOption
mem_list m = mem_list_of grammar.mem_width m.width 1 ++ mem_list_of grammar.mem_size m.size 0 ++ mem_list_of grammar.mem_offset m.offset 0

-- ---- statements

abbrev pub printed_tokens : Statement → List Token
printed_tokens says.Blank = []
printed_tokens says.Autoidx = token.Word word.Autoidx ∷ token.Number (pos 0) ∷ []
printed_tokens (says.Attribute a) = token.Word word.Attribute ∷ token.Id a.name ∷ const_token a.value ∷ []
printed_tokens (says.Module n) = token.Word word.Module ∷ token.Id n ∷ []
printed_tokens (says.Parameter p) = token.Word word.Parameter ∷ (flag_tokens p.flag ++ token.Id p.name ∷ value_tokens p.value)
printed_tokens (says.Wire w) = token.Word word.Wire ∷ (flat_map wire_option_tokens (wire_list w) ++ token.Id w.name ∷ [])
printed_tokens (says.Memory m) = token.Word word.Memory ∷ (flat_map mem_option_tokens (mem_list m) ++ token.Id m.name ∷ [])
printed_tokens (says.Cell k n) = token.Word word.Cell ∷ token.Id k ∷ token.Id n ∷ []
printed_tokens (says.Connect l r) = token.Word word.Connect ∷ (signal_tokens l ++ signal_tokens r)
printed_tokens (says.CellParameter p) = token.Word word.Parameter ∷ (flag_tokens p.flag ++ token.Id p.name ∷ value_tokens p.value)
printed_tokens (says.Pin n v) = token.Word word.Connect ∷ token.Id n ∷ signal_tokens v
printed_tokens says.End = token.Word word.End ∷ []

abbrev pub StatementFits : Statement → Type 0
StatementFits says.Blank = Unit {0}
StatementFits says.Autoidx = Unit {0}
StatementFits (says.Attribute a) = IsIdentifier a.name × Fits (const_token a.value)
StatementFits (says.Module n) = IsIdentifier n
StatementFits (says.Parameter p) = IsIdentifier p.name × ValueFits p.value
StatementFits (says.Wire w) = IsIdentifier w.name × IsWire w
StatementFits (says.Memory m) = IsIdentifier m.name × IsMemory m
StatementFits (says.Cell k n) = IsIdentifier k × IsIdentifier n
StatementFits (says.Connect l r) = AllOf PartFits l × AllOf PartFits r
StatementFits (says.CellParameter p) = IsIdentifier p.name × ValueFits p.value
StatementFits (says.Pin n v) = IsIdentifier n × AllOf PartFits v
StatementFits says.End = Unit {0}

-- the line that the statement is printed as says it
pub record Printable (s : Statement) : Type 0 where
  pub says : Says s (printed_tokens s)
  pub fits : StatementFits s
