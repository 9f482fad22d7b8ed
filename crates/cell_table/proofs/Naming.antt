-- Looking a name up among the names of a list of things.
use Rattle.std.proofs.Common.{◌≡◌, ℕ, zero, suc, ◌+◌, ◌<◌, ◌≤◌, Bool, true, false, ◌&&◌, ◌||◌, cond, List, [], ◌∷◌, length, drop, get_or, refl, ap, ◌∙◌, sym, arith, Option, Some, None}
use Rattle.std.specs.Prelude.{◌↔◌, nat_eq}
use Rattle.std.specs.List.{find, list_any, Contains}
use Rattle.std.specs.Bool.{IsTrue}
use Rattle.net_core.specs.declared.cells.CombKind.{CombKind}
use Rattle.net_core.specs.declared.cells.CombKind.TheVariants as comb
use Rattle.net_core.specs.declared.cells.FfKind.{FfKind}
use Rattle.net_core.specs.declared.cells.FfKind.TheVariants as ff
use Rattle.cell_table.specs.declared.names.TheConstants.{COMB_KINDS, FF_KINDS}
use Rattle.cell_table.specs.Names.{comb_type, ff_type}
use Rattle.std.specs.Cmp.Lexicographic.{pointwise}
use Rattle.std.proofs.lemmas.List.{at_drop_more, at_drop_all}
use Rattle.std.proofs.lemmas.Bool.Decides.{nat_tests}

-- the texts are alike
abbrev pub same_text : List ℕ → List ℕ → Bool
same_text xs ys = pointwise nat_eq xs ys

and_left : (a b : Bool) → (a && b) ≡ true → a ≡ true
and_left true b h = refl
and_left false b h = h

and_right : (a b : Bool) → (a && b) ≡ true → b ≡ true
and_right true b h = h
and_right false b h = absurd (cc)

nat_eq_true : (x y : ℕ) → nat_eq x y ≡ true → x ≡ y
nat_eq_true x y h = grind (arith, nat_tests)

nat_eq_self : (x : ℕ) → nat_eq x x ≡ true
nat_eq_self x = grind (arith, nat_tests)

equal_text : (xs ys : List ℕ) → same_text xs ys ≡ true → xs ≡ ys
equal_text [] [] h = refl
equal_text [] (y ∷ ys) h = absurd (cc)
equal_text (x ∷ xs) [] h = absurd (cc)
equal_text (x ∷ xs) (y ∷ ys) h =
    let first = nat_eq_true x y (and_left (nat_eq x y) (same_text xs ys) h) in
    let rest = equal_text xs ys (and_right (nat_eq x y) (same_text xs ys) h) in
    ap (λ z. z ∷ xs) first ∙ ap (λ zs. y ∷ zs) rest

text_itself : (xs : List ℕ) → same_text xs xs ≡ true
text_itself [] = refl
text_itself (x ∷ xs) = ap (λ b. b && same_text xs xs) (nat_eq_self x) ∙ text_itself xs

-- the first thing that has the name
abbrev pub named : {K : Type 0} → (K → List ℕ) → List K → List ℕ → Option K
named name_of things name = find (λ thing. same_text (name_of thing) name) things

named_turn : {K : Type 0} (name_of : K → List ℕ) (things : List K) (name here text : List ℕ) (i : ℕ) (d : K) (test : Bool) → i < length things → here ≡ name_of (get_or things i d) → text ≡ name → test ≡ same_text here text → named name_of (drop i things) name ≡ cond test (Some (get_or things i d)) (named name_of (drop (i + 1) things) name)
named_turn name_of things name here text i d test within is same tested =
    let e : same_text (name_of (get_or things i d)) name ≡ test = sym (tested ∙ ap (λ t. same_text t text) is ∙ ap (same_text (name_of (get_or things i d))) same) in
    at_drop_more (λ ts. named name_of ts name) things i d within ∙ ap (λ b. cond b (Some (get_or things i d)) (named name_of (drop (i + 1) things) name)) e

-- the thing at a place has the name
pub named_here : {K : Type 0} (name_of : K → List ℕ) (things : List K) (name here text : List ℕ) (i : ℕ) (d : K) (test : Bool) (answer : Option K) → i < length things → here ≡ name_of (get_or things i d) → text ≡ name → test ≡ same_text here text → test ≡ true → named name_of (drop i things) name ≡ answer → Some (get_or things i d) ≡ answer
named_here name_of things name here text i d test answer within is same tested set before =
    sym (named_turn name_of things name here text i d test within is same tested ∙ ap (λ b. cond b (Some (get_or things i d)) (named name_of (drop (i + 1) things) name)) set) ∙ before

-- the thing at a place has another name
pub named_later : {K : Type 0} (name_of : K → List ℕ) (things : List K) (name here text : List ℕ) (i : ℕ) (d : K) (test : Bool) (answer : Option K) → i < length things → here ≡ name_of (get_or things i d) → text ≡ name → test ≡ same_text here text → test ≡ false → named name_of (drop i things) name ≡ answer → named name_of (drop (i + 1) things) name ≡ answer
named_later name_of things name here text i d test answer within is same tested clear before =
    sym (named_turn name_of things name here text i d test within is same tested ∙ ap (λ b. cond b (Some (get_or things i d)) (named name_of (drop (i + 1) things) name)) clear) ∙ before

-- no thing is left
pub named_nowhere : {K : Type 0} (name_of : K → List ℕ) (things : List K) (name : List ℕ) (i : ℕ) (answer : Option K) → length things ≤ i → named name_of (drop i things) name ≡ answer → None ≡ answer
named_nowhere name_of things name i answer past before = sym (at_drop_all (λ ts. named name_of ts name) things i past) ∙ before

found_step : {K : Type 0} (name_of : K → List ℕ) (t thing : K) (name : List ℕ) (test : Bool) (rest : Option K) → same_text (name_of t) name ≡ test → (rest ≡ Some thing → name ≡ name_of thing) → cond test (Some t) rest ≡ Some thing → name ≡ name_of thing
found_step name_of t thing name true rest e later h = let same : t ≡ thing = cc in sym (equal_text (name_of t) name e) ∙ ap name_of same
found_step name_of t thing name false rest e later h = later h

found_has : {K : Type 0} (name_of : K → List ℕ) (things : List K) (name : List ℕ) (thing : K) → named name_of things name ≡ Some thing → name ≡ name_of thing
found_has name_of [] name thing h = absurd (cc)
found_has name_of (t ∷ ts) name thing h = found_step name_of t thing name (same_text (name_of t) name) (named name_of ts name) refl (found_has name_of ts name thing) h

-- what is found has the name, and where each thing is found by its name, whatever has the name is found
pub named_exactly : {K : Type 0} (name_of : K → List ℕ) (things : List K) → ((thing : K) → named name_of things (name_of thing) ≡ Some thing) → (name : List ℕ) (result : Option K) → result ≡ named name_of things name → (thing : K) → (result ≡ Some thing) ↔ (name ≡ name_of thing)
named_exactly name_of things own name result is thing = (λ found. found_has name_of things name thing (sym is ∙ found), λ has. is ∙ ap (named name_of things) has ∙ own thing)

-- whether a text is among others
abbrev pub listed : {T : Type 0} → (T → List ℕ) → List T → List ℕ → Bool
listed text_of texts name = list_any (λ text. same_text (text_of text) name) texts

listed_turn : {T : Type 0} (text_of : T → List ℕ) (texts : List T) (name here text : List ℕ) (i : ℕ) (d : T) (test : Bool) → i < length texts → here ≡ text_of (get_or texts i d) → text ≡ name → test ≡ same_text here text → listed text_of (drop i texts) name ≡ (test || listed text_of (drop (i + 1) texts) name)
listed_turn text_of texts name here text i d test within is same tested =
    let e : same_text (text_of (get_or texts i d)) name ≡ test = sym (tested ∙ ap (λ t. same_text t text) is ∙ ap (same_text (text_of (get_or texts i d))) same) in
    at_drop_more (λ ts. listed text_of ts name) texts i d within ∙ ap (λ b. b || listed text_of (drop (i + 1) texts) name) e

pub listed_here : {T : Type 0} (text_of : T → List ℕ) (texts : List T) (name here text : List ℕ) (i : ℕ) (d : T) (test answer : Bool) → i < length texts → here ≡ text_of (get_or texts i d) → text ≡ name → test ≡ same_text here text → test ≡ true → listed text_of (drop i texts) name ≡ answer → true ≡ answer
listed_here text_of texts name here text i d test answer within is same tested set before =
    sym (listed_turn text_of texts name here text i d test within is same tested ∙ ap (λ b. b || listed text_of (drop (i + 1) texts) name) set) ∙ before

pub listed_later : {T : Type 0} (text_of : T → List ℕ) (texts : List T) (name here text : List ℕ) (i : ℕ) (d : T) (test answer : Bool) → i < length texts → here ≡ text_of (get_or texts i d) → text ≡ name → test ≡ same_text here text → test ≡ false → listed text_of (drop i texts) name ≡ answer → listed text_of (drop (i + 1) texts) name ≡ answer
listed_later text_of texts name here text i d test answer within is same tested clear before =
    sym (listed_turn text_of texts name here text i d test within is same tested ∙ ap (λ b. b || listed text_of (drop (i + 1) texts) name) clear) ∙ before

pub listed_nowhere : {T : Type 0} (text_of : T → List ℕ) (texts : List T) (name : List ℕ) (i : ℕ) (answer : Bool) → length texts ≤ i → listed text_of (drop i texts) name ≡ answer → false ≡ answer
listed_nowhere text_of texts name i answer past before = sym (at_drop_all (λ ts. listed text_of ts name) texts i past) ∙ before

contains_later : (t : List ℕ) (ts : List (List ℕ)) (name : List ℕ) → Contains ts name → Contains (t ∷ ts) name
contains_later t ts name h = (suc h.0, omega (arith, h.1), h.2)

contained : (texts : List (List ℕ)) (name : List ℕ) → listed (λ t. t) texts name ≡ true → Contains texts name
contained [] name h = absurd (cc)
contained (t ∷ ts) name h = first (same_text t name) refl h (contained ts name)
  where
    first : (test : Bool) → same_text t name ≡ test → (test || listed (λ t. t) ts name) ≡ true → (listed (λ t. t) ts name ≡ true → Contains ts name) → Contains (t ∷ ts) name
    first true e g later = (0, omega arith, equal_text t name e)
    first false e g later = contains_later t ts name (later g)

or_right : (a b : Bool) → b ≡ true → (a || b) ≡ true
or_right true b h = refl
or_right false b h = h

containing : (texts : List (List ℕ)) (name : List ℕ) (k : ℕ) → k < length texts → get_or texts k name ≡ name → listed (λ t. t) texts name ≡ true
containing [] name k h e = absurd (omega arith)
containing (t ∷ ts) name zero h e = ap (λ b. b || listed (λ t. t) ts name) (ap (λ x. same_text x name) e ∙ text_itself name)
containing (t ∷ ts) name (suc k) h e = or_right (same_text t name) _ (containing ts name k (omega arith) e)

-- the answer is whether the text is contained
pub listed_exactly : (texts : List (List ℕ)) (name : List ℕ) (result : Bool) → result ≡ listed (λ t. t) texts name → IsTrue result ↔ Contains texts name
listed_exactly texts name result is = (λ found. contained texts name (sym is ∙ found), λ h. is ∙ containing texts name h.0 h.1 h.2)

-- each kind is found by its name
pub ff_found : (kind : FfKind) → named ff_type FF_KINDS (ff_type kind) ≡ Some kind
ff_found ff.Dff = refl
ff_found ff.Dffe = refl
ff_found ff.Adff = refl
ff_found ff.Adffe = refl
ff_found ff.Sdff = refl
ff_found ff.Sdffe = refl
ff_found ff.Sdffce = refl

pub comb_found : (kind : CombKind) → named comb_type COMB_KINDS (comb_type kind) ≡ Some kind
comb_found comb.Not = refl
comb_found comb.And = refl
comb_found comb.Or = refl
comb_found comb.Xor = refl
comb_found comb.Xnor = refl
comb_found comb.ReduceAnd = refl
comb_found comb.ReduceOr = refl
comb_found comb.ReduceBool = refl
comb_found comb.ReduceXor = refl
comb_found comb.ReduceXnor = refl
comb_found comb.LogicNot = refl
comb_found comb.LogicAnd = refl
comb_found comb.LogicOr = refl
comb_found comb.Eq = refl
comb_found comb.Ne = refl
comb_found comb.Lt = refl
comb_found comb.Le = refl
comb_found comb.Gt = refl
comb_found comb.Ge = refl
comb_found comb.Add = refl
comb_found comb.Sub = refl
comb_found comb.Shl = refl
comb_found comb.Shr = refl
comb_found comb.Mux = refl
comb_found comb.Pmux = refl
