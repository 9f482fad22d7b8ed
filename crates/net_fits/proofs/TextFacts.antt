-- The modules of a text within the limits of a reader are written.
use Rattle.std.proofs.Common.{◌≡◌, ℕ, suc, ◌+◌, ◌≤◌, ◌<◌, ◌^◌, Bool, true, false, List, [], ◌∷◌, ◌++◌, map, length, Option, Some, None, refl, sym, ap, subst, arith}
use Rattle.std.specs.Prelude.{if◌then◌else◌, nat_lt, ◌==◌}
use Rattle.std.specs.List.{flat_map}
use Rattle.std.proofs.lemmas.Bool.Decides.{nat_tests}
use Rattle.std.proofs.lemmas.List.{length-append}
use Rattle.std.proofs.lemmas.List.Concat.{flat_map-append}
use Rattle.rtlil_lex.specs.declared.token.Digit.{Digit}
use Rattle.rtlil_lex.specs.declared.token.Token.{Token}
use Rattle.rtlil_lex.specs.declared.token.Token.TheVariants as token
use Rattle.rtlil_lex.specs.Lex.{tokens}
use Rattle.rtlil_lex.specs.Limits.{limited, widest_constant}
use Rattle.rtlil_lex.specs.Lines.{lines, onto_first, token_lines}
use Rattle.rtlil_text.specs.declared.doc.Doc.{Doc}
use Rattle.rtlil_text.specs.declared.doc.DocConst.{DocConst}
use Rattle.rtlil_text.specs.declared.doc.DocConst.TheVariants as const
use Rattle.rtlil_text.specs.declared.doc.DocFlag.{DocFlag}
use Rattle.rtlil_text.specs.declared.doc.DocFlag.TheVariants as flag
use Rattle.rtlil_text.specs.declared.doc.DocModule.{DocModule}
use Rattle.rtlil_text.specs.declared.place.Statement.{Statement}
use Rattle.rtlil_text.specs.declared.place.Statement.TheVariants as says
use Rattle.rtlil_text.specs.Grammar.{All, attribute, autoidx, cell, cell_parameter, connect, const_token, EachSays, end, flag_tokens, HasNewItems, IsFile, memory, modules_alone, module_line, module_statements, more_lines, no_lines, parameter, pin, Says, value_tokens, wire_line, with_autoidx, written}
use Rattle.rtlil_text.specs.Reads.{Reads}
use Rattle.rtlil_text.specs.Text.{IsWithinLimits, limited_lines}
use Rattle.rtlil_print.specs.WellFormed.{IsStatement}
use Rattle.rtlil_print.proofs.Statements.{read_well_formed}
use Rattle.net_fits.specs.Written.{HasShortConst, IsShort, IsWritten, MayBeShort}
use Rattle.net_fits.proofs.Lists.{all_left, all_right, length_map}

-- ---- constants

abbrev Kept : Token → Type 0
Kept t = limited t ≡ t

not_below : (a b : ℕ) → nat_lt a b ≡ false → b ≤ a
not_below a b e = grind (arith, nat_tests)

digits_case : (t : Bool) (seen : ℕ) (ds : List Digit) → (if t then token.Over seen else token.Digits ds) ≡ token.Digits ds → t ≡ false
digits_case true seen ds e = absurd cc
digits_case false seen ds e = refl

const_short : (c : DocConst) → Kept (const_token c) → IsShort c
const_short (const.Digits ds) k = (let few : length ds ≤ widest_constant = not_below widest_constant (length ds) (digits_case (nat_lt widest_constant (length ds)) (widest_constant + 1) ds k) in omega (arith, few))
const_short (const.Number z) k = tt
const_short (const.Text t) k = tt

value_short : (v : Option DocConst) → All Kept (value_tokens v) → MayBeShort v
value_short None k = tt
value_short (Some c) k = const_short c k.0

parameter_short : (f : DocFlag) (n : List ℕ) (c : DocConst) → All Kept (flag_tokens f ++ token.Id n ∷ const_token c ∷ []) → IsShort c
parameter_short flag.Plain n c k = const_short c k.1.0
parameter_short flag.Signed n c k = const_short c k.1.1.0
parameter_short flag.Real n c k = const_short c k.1.1.0

says_short : (s : Statement) (ts : List Token) → Says s ts → All Kept ts → HasShortConst s
says_short s ts (autoidx z) k = tt
says_short s ts (attribute a) k = const_short a.value k.1.1.0
says_short s ts (module_line n) k = tt
says_short s ts (parameter n v) k = value_short v k.1.1
says_short s ts (wire_line os n) k = tt
says_short s ts (memory os n) k = tt
says_short s ts (cell kind n) k = tt
says_short s ts (connect l r) k = tt
says_short s ts (cell_parameter f n c) k = parameter_short f n c k.1
says_short s ts (pin n v) k = tt
says_short s ts end k = tt

-- ---- lines

heads_same : {X : Type 0} (x y : X) (xs ys : List X) → x ∷ xs ≡ y ∷ ys → x ≡ y
heads_same x y xs ys e = cc

tails_same : {X : Type 0} (x y : X) (xs ys : List X) → x ∷ xs ≡ y ∷ ys → xs ≡ ys
tails_same x y xs ys e = cc

line_kept : (ts : List Token) → map limited ts ≡ ts → All Kept ts
line_kept [] e = tt
line_kept (t ∷ ts) e = (heads_same (limited t) t (map limited ts) ts e, line_kept ts (tails_same (limited t) t (map limited ts) ts e))

lines_kept : (tss : List (List Token)) → limited_lines tss ≡ tss → All (All Kept) tss
lines_kept [] e = tt
lines_kept (ts ∷ tss) e = (line_kept ts (heads_same (map limited ts) ts (limited_lines tss) tss e), lines_kept tss (tails_same (map limited ts) ts (limited_lines tss) tss e))

written_kept : (tss : List (List Token)) → All (All Kept) tss → All (All Kept) (written tss)
written_kept [] k = tt
written_kept ([] ∷ tss) k = written_kept tss k.1
written_kept ((t ∷ ts) ∷ tss) k = (k.0, written_kept tss k.1)

each_short : (ss : List Statement) (tss : List (List Token)) → EachSays ss tss → All (All Kept) tss → All HasShortConst ss
each_short ss tss no_lines k = tt
each_short ss tss (more_lines {s = s} {ss = us} {ts = ts} {tss = vs} h hs) k = (says_short s ts h k.0, each_short us vs hs k.1)

-- ---- statements and lines, counted

as_many : (ss : List Statement) (tss : List (List Token)) → EachSays ss tss → length ss ≡ length tss
as_many ss tss no_lines = refl
as_many ss tss (more_lines {s = s} {ss = us} {ts = ts} {tss = vs} h hs) = ap (λ k. suc k) (as_many us vs hs)

written_few : (tss : List (List Token)) → length (written tss) ≤ length tss
written_few [] = omega arith
written_few ([] ∷ tss) = (let rest = written_few tss in omega (arith, rest))
written_few ((t ∷ ts) ∷ tss) = (let rest = written_few tss in omega (arith, rest))

first_few : (b : ℕ) (ls : List (List ℕ)) (k : ℕ) → 1 ≤ k → length ls ≤ k → length (onto_first b ls) ≤ k
first_few b [] k some h = some
first_few b (l ∷ ls) k some h = h

line_case : (t : Bool) (b : ℕ) (ls : List (List ℕ)) (k : ℕ) → length ls ≤ k + 1 → length (if t then [] ∷ ls else onto_first b ls) ≤ suc k + 1
line_case true b ls k h = omega (arith, h)
line_case false b ls k h = (let few : length ls ≤ suc k + 1 = omega (arith, h) in first_few b ls (suc k + 1) (omega arith) few)

lines_few : (bs : List ℕ) → length (lines bs) ≤ length bs + 1
unfolding lines
lines_few [] = omega arith
lines_few (b ∷ bs) = line_case (b == 10) b (lines bs) (length bs) (lines_few bs)

-- ---- modules

all_but_one : (P : Statement → Type 0) (ss us : List Statement) (s : Statement) → All P (ss ++ (s ∷ us)) → All P (ss ++ us)
all_but_one P [] us s h = h.1
all_but_one P (u ∷ ss) us s h = (h.0, all_but_one P ss us s h.1)

in_file : (P : Statement → Type 0) (b : Bool) (ms : List DocModule) (ss : List Statement) → IsFile b ms ss → All P ss → All P (flat_map module_statements ms)
in_file P b ms ss (modules_alone xs) h = h
in_file P b ms ss (with_autoidx before behind) h = subst (All P) (sym (flat_map-append module_statements before behind)) (all_but_one P (flat_map module_statements before) (flat_map module_statements behind) says.Autoidx h)

fewer : (b : Bool) (ms : List DocModule) (ss : List Statement) → IsFile b ms ss → length (flat_map module_statements ms) ≤ length ss
fewer b ms ss (modules_alone xs) = omega arith
fewer b ms ss (with_autoidx before behind) =
    let joined : length (flat_map module_statements (before ++ behind)) ≡ length (flat_map module_statements before ++ flat_map module_statements behind) = ap length (flat_map-append module_statements before behind) in
    let short = length-append (flat_map module_statements before) (flat_map module_statements behind) in
    let long = length-append (flat_map module_statements before) (says.Autoidx ∷ flat_map module_statements behind) in
    omega (arith, joined, short, long)

each_written : (ms : List DocModule) → All IsStatement (flat_map module_statements ms) → All HasShortConst (flat_map module_statements ms) → All (λ (m : DocModule). HasNewItems m.items) ms → length (flat_map module_statements ms) < 2 ^ 31 → All IsWritten ms
each_written [] s c n few = tt
each_written (m ∷ ms) s c n few =
    let sum : length (module_statements m ++ flat_map module_statements ms) ≡ length (module_statements m) + length (flat_map module_statements ms) = length-append (module_statements m) (flat_map module_statements ms) in
    let here : length (module_statements m) < 2 ^ 31 = omega (arith, sum, few) in
    let rest : length (flat_map module_statements ms) < 2 ^ 31 = omega (arith, sum, few) in (
      record {
        statements = all_left IsStatement (module_statements m) (flat_map module_statements ms) s;
        names = n.0;
        short = all_left HasShortConst (module_statements m) (flat_map module_statements ms) c;
        count = here;
      },
      each_written ms (all_right IsStatement (module_statements m) (flat_map module_statements ms) s) (all_right HasShortConst (module_statements m) (flat_map module_statements ms) c) n.1 rest,
    )

pub read_is_written : (bs : List ℕ) (d : Doc) → Reads bs d → IsWithinLimits bs d → length bs + 1 < 2 ^ 31 → All IsWritten d.modules
read_is_written bs d r w few =
    let s = r.spelled in
    let well = read_well_formed bs d r in
    let tss = token_lines bs in
    let short : All HasShortConst s.statements = each_short s.statements (written tss) s.lines (written_kept tss (lines_kept tss w.short)) in
    let a = fewer s.autoidx d.modules s.statements s.order in
    let b = as_many s.statements (written tss) s.lines in
    let c = written_few tss in
    let e : length tss ≡ length (lines bs) = length_map tokens (lines bs) in
    let f = lines_few bs in
    each_written d.modules well.statements (in_file HasShortConst s.autoidx d.modules s.statements s.order short) well.names.inside (omega (arith, a, b, c, e, f, few))
