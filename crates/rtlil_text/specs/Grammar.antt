-- Which lines of tokens are a document: the grammar of RTLIL text, as the Yosys manual gives it in its section on the text representation of RTLIL, without processes and within what the kinds of statements say here.
use Rattle.std.specs.Prelude.{◌≡◌, ℕ, ℤ, pos, zero, suc, ◌≤◌, Bool, true, false, List, [], ◌∷◌, ◌++◌, map, Option, Some, None}
use Rattle.std.specs.List.{flat_map, list_any}
use Rattle.std.specs.Str.{bytes_eq}
use Rattle.rtlil_lex.specs.declared.token.Token.{Token}
use Rattle.rtlil_lex.specs.declared.token.Token.TheVariants as token
use Rattle.rtlil_lex.specs.declared.token.Word.TheVariants as word
use Rattle.rtlil_text.specs.declared.doc.CellLine.{CellLine}
use Rattle.rtlil_text.specs.declared.doc.CellLine.TheVariants as line
use Rattle.rtlil_text.specs.declared.doc.Doc.{Doc}
use Rattle.rtlil_text.specs.declared.doc.DocAttr.{DocAttr}
use Rattle.rtlil_text.specs.declared.doc.DocCell.{DocCell}
use Rattle.rtlil_text.specs.declared.doc.DocConst.{DocConst}
use Rattle.rtlil_text.specs.declared.doc.DocConst.TheVariants as const
use Rattle.rtlil_text.specs.declared.doc.DocFlag.{DocFlag}
use Rattle.rtlil_text.specs.declared.doc.DocFlag.TheVariants as flag
use Rattle.rtlil_text.specs.declared.doc.DocMem.{DocMem}
use Rattle.rtlil_text.specs.declared.doc.DocModule.{DocModule}
use Rattle.rtlil_text.specs.declared.doc.DocParam.{DocParam}
use Rattle.rtlil_text.specs.declared.doc.DocWire.{DocWire}
use Rattle.rtlil_text.specs.declared.doc.Item.{Item}
use Rattle.rtlil_text.specs.declared.doc.Item.TheVariants as item
use Rattle.rtlil_text.specs.declared.doc.Part.{Part}
use Rattle.rtlil_text.specs.declared.doc.Part.TheVariants as part
use Rattle.rtlil_text.specs.declared.place.Statement.{Statement}
use Rattle.rtlil_text.specs.declared.place.Statement.TheVariants as says

-- ---- signals

abbrev pub const_token : DocConst → Token
const_token (const.Digits ds) = token.Digits ds
const_token (const.Number n) = token.Number n
const_token (const.Text t) = token.Text t

-- a slice in brackets; where both ends are equal, one of them may stand alone
pub data IsSlice : ℕ → ℕ → List Token → Type 0 where
  alone : (n : ℕ) → IsSlice n n (token.OpenBracket ∷ token.Number (pos n) ∷ token.CloseBracket ∷ [])
  range : (high low : ℕ) → low ≤ high → IsSlice high low (token.OpenBracket ∷ token.Number (pos high) ∷ token.Colon ∷ token.Number (pos low) ∷ token.CloseBracket ∷ [])

mutual
  -- one signal
  pub data IsSignal : List Part → List Token → Type 0 where
    fixed : (c : DocConst) → IsSignal (part.Fixed c ∷ []) (const_token c ∷ [])
    wire : (n : List ℕ) → IsSignal (part.Wire n ∷ []) (token.Id n ∷ [])
    slice : {ps : List Part} {ts us : List Token} {high low : ℕ} → IsSignal ps ts → IsSlice high low us → IsSignal (ps ++ part.Slice high low ∷ []) (ts ++ us)
    group : {ps : List Part} {ts : List Token} → AreSignals ps ts → IsSignal (part.Begin ∷ (ps ++ part.End ∷ [])) (token.OpenBrace ∷ (ts ++ token.CloseBrace ∷ []))

  -- signals, one behind the other
  pub data AreSignals : List Part → List Token → Type 0 where
    none : AreSignals [] []
    more : {ps qs : List Part} {ts us : List Token} → IsSignal ps ts → AreSignals qs us → AreSignals (ps ++ qs) (ts ++ us)

-- braces stand at most this deep
abbrev pub NestsWithin : ℕ → List Part → Type 0
NestsWithin room [] = Unit {0}
NestsWithin zero (part.Begin ∷ ps) = ⊥
NestsWithin (suc room) (part.Begin ∷ ps) = NestsWithin room ps
NestsWithin room (part.End ∷ ps) = NestsWithin (suc room) ps
NestsWithin room (part.Fixed c ∷ ps) = NestsWithin room ps
NestsWithin room (part.Wire n ∷ ps) = NestsWithin room ps
NestsWithin room (part.Slice high low ∷ ps) = NestsWithin room ps

-- ---- wires and memories

pub data WireOption : Type 0 where
  width : ℕ → WireOption
  offset : ℤ → WireOption
  input : ℕ → WireOption
  output : ℕ → WireOption
  inout : ℕ → WireOption
  upto : WireOption
  signed : WireOption

abbrev pub wire_option_tokens : WireOption → List Token
wire_option_tokens (width n) = token.Word word.Width ∷ token.Number (pos n) ∷ []
wire_option_tokens (offset z) = token.Word word.Offset ∷ token.Number z ∷ []
wire_option_tokens (input n) = token.Word word.Input ∷ token.Number (pos n) ∷ []
wire_option_tokens (output n) = token.Word word.Output ∷ token.Number (pos n) ∷ []
wire_option_tokens (inout n) = token.Word word.Inout ∷ token.Number (pos n) ∷ []
wire_option_tokens upto = token.Word word.Upto ∷ []
wire_option_tokens signed = token.Word word.Signed ∷ []

abbrev pub with_wire_option : WireOption → DocWire → DocWire
with_wire_option (width n) w = record w { width = n }
with_wire_option (offset z) w = record w { offset = z }
with_wire_option (input n) w = record w { port = n; input = true }
with_wire_option (output n) w = record w { port = n; output = true }
with_wire_option (inout n) w = record w { port = n; input = true; output = true }
with_wire_option upto w = record w { upto = true }
with_wire_option signed w = record w { signed = true }

-- an option that repeats counts by its last use
abbrev pub with_wire_options : DocWire → List WireOption → DocWire
with_wire_options w [] = w
with_wire_options w (o ∷ os) = with_wire_options (with_wire_option o w) os

-- a wire before its options
unfoldable pub plain_wire : DocWire
plain_wire = record { attrs = []; name = []; width = 1; offset = pos 0; port = 0; input = false; output = false; upto = false; signed = false }

abbrev pub named_wire : List ℕ → DocWire → DocWire
named_wire n w = record w { name = n }

pub data MemOption : Type 0 where
  mem_width : ℕ → MemOption
  mem_size : ℕ → MemOption
  mem_offset : ℕ → MemOption

abbrev pub mem_option_tokens : MemOption → List Token
mem_option_tokens (mem_width n) = token.Word word.Width ∷ token.Number (pos n) ∷ []
mem_option_tokens (mem_size n) = token.Word word.Size ∷ token.Number (pos n) ∷ []
mem_option_tokens (mem_offset n) = token.Word word.Offset ∷ token.Number (pos n) ∷ []

abbrev pub with_mem_option : MemOption → DocMem → DocMem
with_mem_option (mem_width n) m = record m { width = n }
with_mem_option (mem_size n) m = record m { size = n }
with_mem_option (mem_offset n) m = record m { offset = n }

abbrev pub with_mem_options : DocMem → List MemOption → DocMem
with_mem_options m [] = m
with_mem_options m (o ∷ os) = with_mem_options (with_mem_option o m) os

unfoldable pub plain_mem : DocMem
plain_mem = record { attrs = []; name = []; width = 1; size = 0; offset = 0 }

abbrev pub named_mem : List ℕ → DocMem → DocMem
named_mem n m = record m { name = n }

-- ---- statements, each on a line of its own

abbrev pub flag_tokens : DocFlag → List Token
flag_tokens flag.Plain = []
flag_tokens flag.Signed = token.Word word.Signed ∷ []
flag_tokens flag.Real = token.Word word.Real ∷ []

abbrev pub value_tokens : Option DocConst → List Token
value_tokens None = []
value_tokens (Some c) = const_token c ∷ []

abbrev pub param : DocFlag → List ℕ → Option DocConst → DocParam
param f n v = record { flag = f; name = n; value = v }

-- a statement, and the tokens of its line
pub data Says : Statement → List Token → Type 0 where
  autoidx : (z : ℤ) → Says says.Autoidx (token.Word word.Autoidx ∷ token.Number z ∷ [])
  attribute : (a : DocAttr) → Says (says.Attribute a) (token.Word word.Attribute ∷ token.Id a.name ∷ const_token a.value ∷ [])
  module_line : (n : List ℕ) → Says (says.Module n) (token.Word word.Module ∷ token.Id n ∷ [])
  parameter : (n : List ℕ) (v : Option DocConst) → Says (says.Parameter (param flag.Plain n v)) (token.Word word.Parameter ∷ token.Id n ∷ value_tokens v)
  wire_line : (os : List WireOption) (n : List ℕ) → Says (says.Wire (named_wire n (with_wire_options plain_wire os))) (token.Word word.Wire ∷ (flat_map wire_option_tokens os ++ token.Id n ∷ []))
  memory : (os : List MemOption) (n : List ℕ) → Says (says.Memory (named_mem n (with_mem_options plain_mem os))) (token.Word word.Memory ∷ (flat_map mem_option_tokens os ++ token.Id n ∷ []))
  cell : (k n : List ℕ) → Says (says.Cell k n) (token.Word word.Cell ∷ token.Id k ∷ token.Id n ∷ [])
  connect : {l r : List Part} {ts us : List Token} → IsSignal l ts → IsSignal r us → Says (says.Connect l r) (token.Word word.Connect ∷ (ts ++ us))
  cell_parameter : (f : DocFlag) (n : List ℕ) (c : DocConst) → Says (says.CellParameter (param f n (Some c))) (token.Word word.Parameter ∷ (flag_tokens f ++ token.Id n ∷ const_token c ∷ []))
  pin : {v : List Part} {ts : List Token} (n : List ℕ) → IsSignal v ts → Says (says.Pin n v) (token.Word word.Connect ∷ token.Id n ∷ ts)
  end : Says says.End (token.Word word.End ∷ [])

-- ---- the statements of a document, in file order

abbrev pub attributes : List DocAttr → List Statement
attributes attrs = map (λ a. says.Attribute a) attrs

abbrev pub line_statement : CellLine → Statement
line_statement (line.Param p) = says.CellParameter p
line_statement (line.Pin n v) = says.Pin n v

abbrev pub cell_begin : DocCell → List Statement
cell_begin c = attributes c.attrs ++ says.Cell c.kind c.name ∷ []

-- attributes stand before their object
abbrev pub item_statements : Item → List Statement
item_statements (item.Param p) = says.Parameter p ∷ []
item_statements (item.Wire w) = attributes w.attrs ++ says.Wire (record w { attrs = [] }) ∷ []
item_statements (item.Mem m) = attributes m.attrs ++ says.Memory (record m { attrs = [] }) ∷ []
item_statements (item.Cell c) = cell_begin c ++ (map line_statement c.lines ++ says.End ∷ [])
item_statements (item.Connect l r) = says.Connect l r ∷ []

abbrev pub module_begin : DocModule → List Statement
module_begin m = attributes m.attrs ++ says.Module m.name ∷ []

abbrev pub module_statements : DocModule → List Statement
module_statements m = module_begin m ++ (flat_map item_statements m.items ++ says.End ∷ [])

-- modules, among which one line `autoidx` may stand
pub data IsFile : Bool → List DocModule → List Statement → Type 0 where
  modules_alone : (ms : List DocModule) → IsFile false ms (flat_map module_statements ms)
  with_autoidx : (before behind : List DocModule) → IsFile true (before ++ behind) (flat_map module_statements before ++ (says.Autoidx ∷ flat_map module_statements behind))

-- ---- names that have to be new

-- a name is among others
unfoldable pub has : List (List ℕ) → List ℕ → Bool
has ns n = list_any (λ m. bytes_eq n m) ns

-- none is equal to one before it
abbrev pub AreNew : List (List ℕ) → List (List ℕ) → Type 0
AreNew before [] = Unit {0}
AreNew before (n ∷ ns) = (has before n ≡ false) × AreNew (before ++ n ∷ []) ns

abbrev pub AreDistinct : List (List ℕ) → Type 0
AreDistinct ns = AreNew [] ns

abbrev pub wire_name : Item → List (List ℕ)
wire_name (item.Wire w) = w.name ∷ []
wire_name i = []

abbrev pub memory_name : Item → List (List ℕ)
memory_name (item.Mem m) = m.name ∷ []
memory_name i = []

abbrev pub cell_name : Item → List (List ℕ)
cell_name (item.Cell c) = c.name ∷ []
cell_name i = []

abbrev pub parameter_name : CellLine → List (List ℕ)
parameter_name (line.Param p) = p.name ∷ []
parameter_name (line.Pin n v) = []

abbrev pub pin_name : CellLine → List (List ℕ)
pin_name (line.Param p) = []
pin_name (line.Pin n v) = n ∷ []

abbrev pub module_name : DocModule → List ℕ
module_name m = m.name

abbrev pub All : {X : Type 0} → (X → Type 0) → List X → Type 0
All P [] = Unit {0}
All P (x ∷ xs) = P x × All P xs

-- the parameters of a cell, and its pins
pub record HasNewLines (ls : List CellLine) : Type 0 where
  pub parameters : AreDistinct (flat_map parameter_name ls)
  pub pins : AreDistinct (flat_map pin_name ls)

abbrev pub HasNewNames : Item → Type 0
HasNewNames (item.Cell c) = HasNewLines c.lines
HasNewNames i = Unit {0}

-- the wires of a module, its memories and its cells, each kind by itself
pub record HasNewItems (is : List Item) : Type 0 where
  pub wires : AreDistinct (flat_map wire_name is)
  pub memories : AreDistinct (flat_map memory_name is)
  pub cells : AreDistinct (flat_map cell_name is)
  pub inside : All HasNewNames is

pub record HasNewModules (ms : List DocModule) : Type 0 where
  pub modules : AreDistinct (map module_name ms)
  pub inside : All (λ m. HasNewItems m.items) ms

-- ---- documents

-- each line says its statement
pub data EachSays : List Statement → List (List Token) → Type 0 where
  no_lines : EachSays [] []
  more_lines : {s : Statement} {ss : List Statement} {ts : List Token} {tss : List (List Token)} → Says s ts → EachSays ss tss → EachSays (s ∷ ss) (ts ∷ tss)

-- a line counts where it has a token
abbrev pub nonblank : List Token → List (List Token)
nonblank [] = []
nonblank (t ∷ ts) = (t ∷ ts) ∷ []

abbrev pub written : List (List Token) → List (List Token)
written tss = flat_map nonblank tss

-- the lines are the document
pub record Spells (d : Doc) (tss : List (List Token)) : Type 0 where
  pub autoidx : Bool
  pub statements : List Statement
  pub lines : EachSays statements (written tss)
  pub order : IsFile autoidx d.modules statements
  pub names : HasNewModules d.modules

-- the signals of a statement nest within this depth
abbrev pub StatementNests : ℕ → Statement → Type 0
StatementNests depth (says.Connect l r) = NestsWithin depth l × NestsWithin depth r
StatementNests depth (says.Pin n v) = NestsWithin depth v
StatementNests depth s = Unit {0}

abbrev pub DocNests : ℕ → Doc → Type 0
DocNests depth d = All (StatementNests depth) (flat_map module_statements d.modules)
