-- Each statement of a document that some text reads as is well formed, and a well-formed statement can be printed.
use Rattle.std.proofs.Common.{◌≡◌, ℕ, pos, Bool, List, [], ◌∷◌, ◌++◌, Option, Some, None, refl, sym, ap, subst}
use Rattle.std.specs.List.{flat_map}
use Rattle.std.proofs.lemmas.List.Concat.{flat_map-append}
use Rattle.rtlil_lex.specs.declared.token.Token.{Token}
use Rattle.rtlil_lex.specs.declared.token.Token.TheVariants as token
use Rattle.rtlil_lex.specs.declared.token.Word.TheVariants as word
use Rattle.rtlil_lex.specs.Lines.{token_lines}
use Rattle.rtlil_lex.specs.Spelling.{KnownFit, AllKnownFit, IsIdentifier}
use Rattle.rtlil_lex.proofs.Fitting.{text_fits}
use Rattle.rtlil_lex.proofs.Pieces.{AllOf}
use Rattle.rtlil_text.specs.declared.doc.Doc.{Doc}
use Rattle.rtlil_text.specs.declared.doc.DocConst.{DocConst}
use Rattle.rtlil_text.specs.declared.doc.DocFlag.{DocFlag}
use Rattle.rtlil_text.specs.declared.doc.DocFlag.TheVariants as flag
use Rattle.rtlil_text.specs.declared.doc.DocMem.{DocMem}
use Rattle.rtlil_text.specs.declared.doc.DocModule.{DocModule}
use Rattle.rtlil_text.specs.declared.doc.DocParam.{DocParam}
use Rattle.rtlil_text.specs.declared.doc.DocWire.{DocWire}
use Rattle.rtlil_text.specs.declared.place.Statement.{Statement}
use Rattle.rtlil_text.specs.declared.place.Statement.TheVariants as says
use Rattle.rtlil_text.specs.Grammar.{All, param, const_token, flag_tokens, value_tokens, wire_option_tokens, with_wire_options, plain_wire, named_wire, mem_option_tokens, with_mem_options, plain_mem, named_mem, Says, autoidx, attribute, module_line, parameter, wire_line, memory, cell, connect, cell_parameter, pin, end, module_statements, IsFile, modules_alone, with_autoidx, EachSays, no_lines, more_lines, written}
use Rattle.rtlil_text.specs.Reads.{Reads}
use Rattle.rtlil_print.specs.WellFormed.{IsWire, IsMemory, MayHaveConst, HasConst, IsStatement, IsWellFormed}
use Rattle.rtlil_print.proofs.Canonical.{ValueFits, wire_list, mem_list, printed_tokens, Printable}
use Rattle.rtlil_print.proofs.PrintedOptions.{wire_fits, wire_again, mem_fits, mem_again}
use Rattle.rtlil_print.proofs.PrintedSignals.{known_append, const_is, const_fits, signal_whole, whole_fits, whole_says}

-- ---- what a line says is well formed

may_have : (v : Option DocConst) → KnownFit (value_tokens v) → MayHaveConst v
may_have None k = tt
may_have (Some c) k = const_is c [] k

named_wire_is : (n : List ℕ) (w : DocWire) → IsWire w → IsWire (named_wire n w)
named_wire_is n w f = record { attrs = f.attrs; width = f.width; offset = f.offset; port = f.port; number = f.number }

named_memory_is : (n : List ℕ) (m : DocMem) → IsMemory m → IsMemory (named_mem n m)
named_memory_is n m f = record { attrs = f.attrs; width = f.width; size = f.size; offset = f.offset }

pub stated : (s : Statement) (ts : List Token) → Says s ts → KnownFit ts → IsStatement s
stated s ts (autoidx z) k = tt
stated s ts (attribute a) k = (k.1.0 tt, const_is a.value [] k.1.1)
stated s ts (module_line n) k = k.1.0 tt
stated s ts (parameter n v) k = (refl, k.1.0 tt, may_have v k.1.1)
stated s ts (wire_line os n) k =
    let r = known_append (flat_map wire_option_tokens os) (token.Id n ∷ []) k.1 in
    (r.1.0 tt, named_wire_is n (with_wire_options plain_wire os) (wire_fits os r.0))
stated s ts (memory os n) k =
    let r = known_append (flat_map mem_option_tokens os) (token.Id n ∷ []) k.1 in
    (r.1.0 tt, named_memory_is n (with_mem_options plain_mem os) (mem_fits os r.0))
stated s ts (cell a n) k = (k.1.0 tt, k.1.1.0 tt)
stated s ts (connect {l = l} {r = r} {ts = us} {us = vs} p q) k =
    let b = known_append us vs k.1 in
    (signal_whole l us p b.0, signal_whole r vs q b.1)
stated s ts (cell_parameter f n c) k =
    -- the flag says nothing of what fits
    let b = (known_append (flag_tokens f) (token.Id n ∷ const_token c ∷ []) k.1).1 in
    (b.0 tt, const_is c [] b.1)
stated s ts (pin {v = v} {ts = us} n p) k = (k.1.0 tt, signal_whole v us p k.1.1)
stated s ts end k = tt

-- ---- what is well formed can be printed

value_fits : (v : Option DocConst) → MayHaveConst v → ValueFits v
value_fits None f = tt
value_fits (Some c) f = const_fits c f

wire_printable : (w : DocWire) → IsIdentifier w.name × IsWire w → Printable (says.Wire w)
wire_printable w f =
    let bare : DocWire = named_wire [] w in
    let is : Says (says.Wire (named_wire w.name bare)) (token.Word word.Wire ∷ (flat_map wire_option_tokens (wire_list w) ++ token.Id w.name ∷ [])) =
    subst (λ (x : DocWire). Says (says.Wire (named_wire w.name x)) (token.Word word.Wire ∷ (flat_map wire_option_tokens (wire_list w) ++ token.Id w.name ∷ []))) (wire_again bare (named_wire_is [] w f.1) refl) (wire_line (wire_list w) w.name) in
    record { says = is; fits = f }

memory_printable : (m : DocMem) → IsIdentifier m.name × IsMemory m → Printable (says.Memory m)
memory_printable m f =
    let bare : DocMem = named_mem [] m in
    let is : Says (says.Memory (named_mem m.name bare)) (token.Word word.Memory ∷ (flat_map mem_option_tokens (mem_list m) ++ token.Id m.name ∷ [])) =
    subst (λ (x : DocMem). Says (says.Memory (named_mem m.name x)) (token.Word word.Memory ∷ (flat_map mem_option_tokens (mem_list m) ++ token.Id m.name ∷ []))) (mem_again bare (named_memory_is [] m f.1) refl) (memory (mem_list m) m.name) in
    record { says = is; fits = f }

parameter_printable : (p : DocParam) → (p.flag ≡ flag.Plain) × IsIdentifier p.name × MayHaveConst p.value → Printable (says.Parameter p)
parameter_printable p f =
    let plain : p ≡ record p { flag = flag.Plain } = ap (λ (x : DocFlag). record p { flag = x }) f.0 in
    record {
      says = subst (λ (q : DocParam). Says (says.Parameter q) (printed_tokens (says.Parameter q))) (sym plain) (parameter p.name p.value);
      fits = (f.1, value_fits p.value f.2);
    }

cell_parameter_printable : (f : DocFlag) (n : List ℕ) (v : Option DocConst) → IsIdentifier n → HasConst v → Printable (says.CellParameter (param f n v))
cell_parameter_printable f n None i h = absurd h
cell_parameter_printable f n (Some c) i h = record { says = cell_parameter f n c; fits = (i, const_fits c h) }

pub printable : (s : Statement) → IsStatement s → Printable s
printable says.Blank f = absurd f
printable says.Autoidx f = record { says = autoidx (pos 0); fits = tt }
printable (says.Attribute a) f = record { says = attribute a; fits = (f.0, const_fits a.value f.1) }
printable (says.Module n) f = record { says = module_line n; fits = f }
printable (says.Parameter p) f = parameter_printable p f
printable (says.Wire w) f = wire_printable w f
printable (says.Memory m) f = memory_printable m f
printable (says.Cell k n) f = record { says = cell k n; fits = f }
printable (says.Connect l r) f = record { says = connect (whole_says l f.0) (whole_says r f.1); fits = (whole_fits l f.0, whole_fits r f.1) }
printable (says.CellParameter p) f = cell_parameter_printable p.flag p.name p.value f.0 f.1
printable (says.Pin n v) f = record { says = pin n (whole_says v f.1); fits = (f.0, whole_fits v f.1) }
printable says.End f = record { says = end; fits = tt }

-- ---- all statements

known_written : (tss : List (List Token)) → AllKnownFit tss → AllKnownFit (written tss)
known_written [] k = tt
known_written ([] ∷ tss) k = known_written tss k.1
known_written ((t ∷ ts) ∷ tss) k = (k.0, known_written tss k.1)

all_stated : (ss : List Statement) (tss : List (List Token)) → EachSays ss tss → AllKnownFit tss → All IsStatement ss
all_stated ss tss no_lines k = tt
all_stated ss tss (more_lines {s = s} {ss = us} {ts = ts} {tss = vs} h hs) k = (stated s ts h k.0, all_stated us vs hs k.1)

all_but_one : (ss us : List Statement) (s : Statement) → All IsStatement (ss ++ (s ∷ us)) → All IsStatement (ss ++ us)
all_but_one [] us s h = h.1
all_but_one (u ∷ ss) us s h = (h.0, all_but_one ss us s h.1)

in_file : (b : Bool) (ms : List DocModule) (ss : List Statement) → IsFile b ms ss → All IsStatement ss → All IsStatement (flat_map module_statements ms)
in_file b ms ss (modules_alone xs) h = h
in_file b ms ss (with_autoidx before behind) h =
    subst (λ (x : List Statement). All IsStatement x) (sym (flat_map-append module_statements before behind))
    (all_but_one (flat_map module_statements before) (flat_map module_statements behind) says.Autoidx h)

-- what some text reads as is well formed
pub read_well_formed : (bs : List ℕ) (d : Doc) → Reads bs d → IsWellFormed d
read_well_formed bs d h =
    let s = h.spelled in
    record {
      statements = in_file s.autoidx d.modules s.statements s.order (all_stated s.statements (written (token_lines bs)) s.lines (known_written (token_lines bs) (text_fits bs)));
      names = s.names;
    }

pub all_printable : (ss : List Statement) → All IsStatement ss → AllOf Printable ss
all_printable [] h = tt
all_printable (s ∷ ss) h = (printable s h.0, all_printable ss h.1)
