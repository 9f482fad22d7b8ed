-- Names in front of others: whether all are new, step by step.
use Rattle.std.proofs.Common.{◌≡◌, ℕ, ◌-◌, ◌≤◌, ◌<◌, Bool, true, false, List, [], ◌∷◌, ◌++◌, length, get_or, map, refl, sym, ap, ◌∙◌, append-nil, append_assoc, arith}
use Rattle.std.specs.Prelude.{not, ◌&&◌, ◌||◌, take, drop, if◌then◌else◌}
use Rattle.std.specs.List.{list_any}
use Rattle.std.specs.Str.{bytes_eq}
use Rattle.std.proofs.Math.Seq.{take-length}
use Rattle.rtlil_text.specs.declared.doc.DocCell.{DocCell}
use Rattle.rtlil_text.specs.declared.doc.DocMem.{DocMem}
use Rattle.rtlil_text.specs.declared.doc.DocWire.{DocWire}
use Rattle.rtlil_text.specs.declared.doc.Item.{Item}
use Rattle.rtlil_text.specs.declared.doc.Item.TheVariants as item
use Rattle.rtlil_text.specs.Grammar.{has, wire_name, memory_name, cell_name}
use Rattle.doc_fits.specs.Tests.{are_new}

and_assoc : (x y z : Bool) → (x && (y && z)) ≡ (x && y && z)
and_assoc true y z = refl
and_assoc false y z = refl

parted : (t a b : List (List ℕ)) → are_new t (a ++ b) ≡ (are_new t a && are_new (t ++ a) b)
unfolding are_new
parted t [] b = ap (λ u. are_new u b) (sym (append-nil t))
parted t (n ∷ a) b =
    ap (λ z. not (has t n) && z) (parted (t ++ n ∷ []) a b ∙ ap (λ u. are_new (t ++ n ∷ []) a && are_new u b) (append_assoc t (n ∷ []) a))
    ∙ and_assoc (not (has t n)) (are_new (t ++ n ∷ []) a) (are_new (t ++ n ∷ a) b)

-- the front is new, and then the rest counts; or it is not
pub taken : (t u a b : List (List ℕ)) (r : Bool) → r ≡ are_new t a → r ≡ true → u ≡ t ++ a → are_new u b ≡ are_new t (a ++ b)
taken t u a b r e s h = rw (parted t a b, ← e, s, h) refl

pub refused : (t a b : List (List ℕ)) (r : Bool) → r ≡ are_new t a → r ≡ false → are_new t (a ++ b) ≡ false
refused t a b r e s = rw (parted t a b, ← e, s) refl

pub one_is : (t : List (List ℕ)) (n : List ℕ) → are_new t (n ∷ []) ≡ not (has t n)
unfolding are_new
one_is t n = ends (not (has t n))
  where
    ends : (x : Bool) → (x && true) ≡ x
    ends true = refl
    ends false = refl

pub none_is : (t : List (List ℕ)) → are_new t [] ≡ true
unfolding are_new
none_is t = refl

-- ---- sets of names

pub has_mapped : {K : Type 0} (v : K → List ℕ) (n : List ℕ) (ks : List K) → list_any (λ k. bytes_eq n (v k)) ks ≡ has (map v ks) n
unfolding has
has_mapped v n [] = refl
has_mapped v n (k ∷ ks) = ap (λ (b : Bool). bytes_eq n (v k) || b) (has_mapped v n ks)

mapped_push : {K : Type 0} (v : K → List ℕ) (ks : List K) (k : K) → map v (ks ++ k ∷ []) ≡ map v ks ++ v k ∷ []
mapped_push v [] k = refl
mapped_push v (x ∷ ks) k = ap (λ (zs : List (List ℕ)). v x ∷ zs) (mapped_push v ks k)

pushed_by : {K : Type 0} (v : K → List ℕ) (ks : List K) (k : K) (b : Bool) → not b ≡ true → map v (if b then ks else ks ++ k ∷ []) ≡ map v ks ++ v k ∷ []
pushed_by v ks k true e = absurd cc
pushed_by v ks k false e = mapped_push v ks k

-- a key that is new goes last
pub pushed : {K : Type 0} (v : K → List ℕ) (ks new : List K) (k : K) (found b : Bool) (names : List (List ℕ))
    → new ≡ (if found then ks else ks ++ k ∷ []) → b ≡ not found → b ≡ true → map v ks ≡ names → map v new ≡ names ++ v k ∷ []
pushed v ks new k found b names e is h view =
    ap (map v) e ∙ pushed_by v ks k found (sym is ∙ h) ∙ ap (λ (zs : List (List ℕ)). zs ++ v k ∷ []) view

-- ---- loops over what has names

-- a list with an item is its first one and the others
pub front : {X : Type 0} (xs : List X) (x : X) → 1 ≤ length xs → x ≡ get_or xs 0 x → xs ≡ x ∷ take (length xs - 1) (drop 1 xs)
front [] x h e = absurd (omega (arith, h))
front (y ∷ ys) x h e =
    let k : length (y ∷ ys) - 1 ≡ length ys = omega arith in
    ap (λ (z : _). z ∷ ys) (sym e) ∙ ap (λ (zs : List _). x ∷ zs) (sym (ap (λ n. take n ys) k ∙ take-length ys))

-- `f` gives the names of an item, and `names` those of all
module _ {X : Type 0} (f : X → List (List ℕ)) (names : List X → List (List ℕ)) (step : (x : X) (xs : List X) → names (x ∷ xs) ≡ f x ++ names xs) (t : List (List ℕ)) (rest : List X) (x : X) (long : 1 ≤ length rest) (first : x ≡ get_or rest 0 x) where
  begun : are_new t (names rest) ≡ are_new t (f x ++ names (take (length rest - 1) (drop 1 rest)))
  begun = ap (λ (xs : List X). are_new t (names xs)) (front rest x long first) ∙ ap (are_new t) (step x (take (length rest - 1) (drop 1 rest)))

  pub turn : (u : List (List ℕ)) (r all : Bool) → r ≡ are_new t (f x) → (r ≡ true → u ≡ t ++ f x) → r ≡ true → are_new t (names rest) ≡ all → are_new u (names (take (length rest - 1) (drop 1 rest))) ≡ all
  turn u r all is put new so_far = taken t u (f x) (names (take (length rest - 1) (drop 1 rest))) r is new (put new) ∙ sym begun ∙ so_far

  pub stop : (r all : Bool) → r ≡ are_new t (f x) → r ≡ false → are_new t (names rest) ≡ all → false ≡ all
  stop r all is old so_far = sym (refused t (f x) (names (take (length rest - 1) (drop 1 rest))) r is old) ∙ sym begun ∙ so_far

pub done : {X : Type 0} (names : List X → List (List ℕ)) (t : List (List ℕ)) (rest : List X) (all : Bool) → names [] ≡ [] → length rest < 1 → are_new t (names rest) ≡ all → true ≡ all
done names t [] all none h so_far = sym (none_is t) ∙ sym (ap (are_new t) none) ∙ so_far
done names t (x ∷ xs) all none h so_far = absurd (omega arith)

-- ---- names of items that are none of the kind

pub no_name : (t ns : List (List ℕ)) → ns ≡ [] → true ≡ are_new t ns
no_name t ns e = sym (none_is t) ∙ ap (are_new t) (sym e)

pub no_more : (t ns : List (List ℕ)) → ns ≡ [] → t ≡ t ++ ns
no_more t ns e = sym (append-nil t) ∙ ap (λ (z : List (List ℕ)). t ++ z) (sym e)

pub no_wire : (i : Item) → ((w : DocWire) → i ≡ item.Wire w → ⊥) → wire_name i ≡ []
no_wire (item.Param p) h = refl
no_wire (item.Wire w) h = absurd (h w refl)
no_wire (item.Mem m) h = refl
no_wire (item.Cell c) h = refl
no_wire (item.Connect l r) h = refl

pub no_memory : (i : Item) → ((m : DocMem) → i ≡ item.Mem m → ⊥) → memory_name i ≡ []
no_memory (item.Param p) h = refl
no_memory (item.Wire w) h = refl
no_memory (item.Mem m) h = absurd (h m refl)
no_memory (item.Cell c) h = refl
no_memory (item.Connect l r) h = refl

pub no_cell : (i : Item) → ((c : DocCell) → i ≡ item.Cell c → ⊥) → cell_name i ≡ []
no_cell (item.Param p) h = refl
no_cell (item.Wire w) h = refl
no_cell (item.Mem m) h = refl
no_cell (item.Cell c) h = absurd (h c refl)
no_cell (item.Connect l r) h = refl
