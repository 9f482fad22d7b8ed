-- The modules of a text are no more than its lines, and have different names.
use Rattle.std.proofs.Common.{◌≡◌, ℕ, suc, ◌+◌, ◌≤◌, ◌<◌, ◌^◌, Bool, true, false, List, [], ◌∷◌, ◌++◌, length, refl, ap, arith}
use Rattle.std.specs.Prelude.{if◌then◌else◌, ◌==◌}
use Rattle.std.specs.List.{flat_map}
use Rattle.std.proofs.lemmas.List.{length-append}
use Rattle.std.proofs.lemmas.List.Concat.{flat_map-append}
use Rattle.rtlil_lex.specs.declared.token.Token.{Token}
use Rattle.rtlil_lex.specs.Lex.{tokens}
use Rattle.rtlil_lex.specs.Lines.{lines, onto_first, token_lines}
use Rattle.rtlil_text.specs.declared.doc.Doc.{Doc}
use Rattle.rtlil_text.specs.declared.doc.DocModule.{DocModule}
use Rattle.rtlil_text.specs.declared.place.Statement.{Statement}
use Rattle.rtlil_text.specs.declared.place.Statement.TheVariants as says
use Rattle.rtlil_text.specs.Grammar.{attributes, EachSays, IsFile, item_statements, modules_alone, module_statements, more_lines, no_lines, with_autoidx, written}
use Rattle.rtlil_text.specs.Reads.{Reads}
use Rattle.rtlil_text.specs.Text.{IsWithinLimits}
use Rattle.net_fits.specs.Texts.{ReadIsWritten}
use Rattle.net_fits.proofs.Lists.{length_map}
use Rattle.build_valid.specs.Documents.{IsWrittenDoc}

as_many : (ss : List Statement) (tss : List (List Token)) → EachSays ss tss → length ss ≡ length tss
as_many ss tss no_lines = refl
as_many ss tss (more_lines {s = s} {ss = us} {ts = ts} {tss = vs} h hs) = ap (λ k. suc k) (as_many us vs hs)

written_few : (tss : List (List Token)) → length (written tss) ≤ length tss
written_few [] = omega arith
written_few ([] ∷ tss) = (let rest = written_few tss in omega (arith, rest))
written_few ((t ∷ ts) ∷ tss) = (let rest = written_few tss in omega (arith, rest))

first_few : (b : ℕ) (ls : List (List ℕ)) (k : ℕ) → 1 ≤ k → length ls ≤ k → length (onto_first b ls) ≤ k
first_few b [] k some h = some
first_few b (l ∷ ls) k some h = h

line_case : (t : Bool) (b : ℕ) (ls : List (List ℕ)) (k : ℕ) → length ls ≤ k + 1 → length (if t then [] ∷ ls else onto_first b ls) ≤ suc k + 1
line_case true b ls k h = omega (arith, h)
line_case false b ls k h = (let few : length ls ≤ suc k + 1 = omega (arith, h) in first_few b ls (suc k + 1) (omega arith) few)

lines_few : (bs : List ℕ) → length (lines bs) ≤ length bs + 1
unfolding lines
lines_few [] = omega arith
lines_few (b ∷ bs) = line_case (b == 10) b (lines bs) (length bs) (lines_few bs)

fewer : (b : Bool) (ms : List DocModule) (ss : List Statement) → IsFile b ms ss → length (flat_map module_statements ms) ≤ length ss
fewer b ms ss (modules_alone xs) = omega arith
fewer b ms ss (with_autoidx before behind) =
    let joined : length (flat_map module_statements (before ++ behind)) ≡ length (flat_map module_statements before ++ flat_map module_statements behind) = ap length (flat_map-append module_statements before behind) in
    let short = length-append (flat_map module_statements before) (flat_map module_statements behind) in
    let long = length-append (flat_map module_statements before) (says.Autoidx ∷ flat_map module_statements behind) in
    omega (arith, joined, short, long)

-- each module has a statement
module_some : (m : DocModule) → 1 ≤ length (module_statements m)
module_some m =
    let a = length-append (attributes m.attrs) (says.Module m.name ∷ []) in
    let b = length-append (attributes m.attrs ++ says.Module m.name ∷ []) (flat_map item_statements m.items ++ says.End ∷ []) in
    omega (arith, a, b)

modules_few : (ms : List DocModule) → length ms ≤ length (flat_map module_statements ms)
modules_few [] = omega arith
modules_few (m ∷ ms) =
    let here = module_some m in
    let rest = modules_few ms in
    let all = length-append (module_statements m) (flat_map module_statements ms) in
    omega (arith, here, rest, all)

pub read_doc_written : ReadIsWritten → (bs : List ℕ) (d : Doc) → Reads bs d → IsWithinLimits bs d → length bs + 1 < 2 ^ 31 → IsWrittenDoc d
read_doc_written reads bs d r w few =
    let s = r.spelled in
    let tss = token_lines bs in
    let a = fewer s.autoidx d.modules s.statements s.order in
    let b = as_many s.statements (written tss) s.lines in
    let c = written_few tss in
    let e : length tss ≡ length (lines bs) = length_map tokens (lines bs) in
    let f = lines_few bs in
    let g = modules_few d.modules in
    record { modules = reads bs d r w few; names = s.names.modules; count = omega (arith, a, b, c, e, f, g, few) }
