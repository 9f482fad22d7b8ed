-- Names that are looked up by a set, and names that stand twice.
use Rattle.std.proofs.Common.{◌≡◌, ℕ, ◌+◌, cond, not, Bool, true, false, List, [], ◌∷◌, ◌++◌, refl, sym, ◌∙◌, ap, ◌||◌, if◌then◌else◌, Option, Some, None, append_assoc, append-nil}
use Rattle.std.proofs.lemmas.List.Folds.{list_any-append}
use Rattle.std.proofs.lemmas.Slice.Eq.{bytes_eq-Decides}
use Rattle.std.proofs.Math.Bool.{or-false}
use Rattle.std.specs.List.{list_any, position_or_len}
use Rattle.std.specs.Str.{bytes_eq}
use Rattle.lib_judge.specs.Names.{distinct_from, names_repeat, place_of, with_name}
use Rattle.lib_judge.specs.Variants.{has_name}

turned_by : (a b : List ℕ) (x y : Bool) → bytes_eq a b ≡ x → bytes_eq b a ≡ y → x ≡ y
turned_by a b true true p q = refl
turned_by a b false false p q = refl
turned_by a b true false p q = sym ((bytes_eq-Decides b a).1 (sym ((bytes_eq-Decides a b).0 p))) ∙ q
turned_by a b false true p q = sym p ∙ (bytes_eq-Decides a b).1 (sym ((bytes_eq-Decides b a).0 q))

pub turned : (a b : List ℕ) → bytes_eq a b ≡ bytes_eq b a
turned a b = turned_by a b (bytes_eq a b) (bytes_eq b a) refl refl

-- the set asks whether the name is equal to one of its own
pub has_is : (ns : List (List ℕ)) (n : List ℕ) → list_any (bytes_eq n) ns ≡ has_name ns n
has_is [] n = refl
has_is (m ∷ ns) n = ap (λ (b : Bool). b || list_any (bytes_eq n) ns) (turned n m) ∙ ap (λ (b : Bool). bytes_eq m n || b) (has_is ns n)

place_by : (b : Bool) (k j : ℕ) → k ≡ j → cond (not b) (1 + k) 0 ≡ (if b then 0 else 1 + j)
place_by true k j h = refl
place_by false k j h = ap (λ (n : ℕ). 1 + n) h

pub place_is : (ns : List (List ℕ)) (n : List ℕ) → position_or_len (bytes_eq n) ns ≡ place_of ns n
unfolding place_of
place_is [] n = refl
place_is (m ∷ ns) n = place_by (bytes_eq n m) (position_or_len (bytes_eq n) ns) (place_of ns n) (place_is ns n)

pub or_neither : (a b c : Bool) → c ≡ false → (a || b || c) ≡ (a || b)
or_neither a b c h = ap (λ (x : Bool). a || b || x) h ∙ or-false (a || b)

-- ---- names that stand twice

any_has : List (List ℕ) → List (List ℕ) → Bool
any_has seen [] = false
any_has seen (n ∷ ns) = has_name seen n || any_has seen ns

none_has : (ns : List (List ℕ)) → any_has [] ns ≡ false
unfolding any_has
none_has [] = refl
none_has (n ∷ ns) = none_has ns

shuffled : (a b c d : Bool) → ((a || b) || (c || d)) ≡ ((a || c) || (b || d))
shuffled true b c d = refl
shuffled false true true d = refl
shuffled false true false d = refl
shuffled false false true d = refl
shuffled false false false d = refl

has_more : (seen : List (List ℕ)) (n m : List ℕ) → has_name (seen ++ n ∷ []) m ≡ (has_name seen m || bytes_eq m n)
has_more seen n m =
    list_any-append (λ (k : List ℕ). bytes_eq k m) seen (n ∷ [])
    ∙ ap (λ (b : Bool). has_name seen m || b) (or-false (bytes_eq n m) ∙ turned n m)

any_more : (seen : List (List ℕ)) (n : List ℕ) (ns : List (List ℕ)) → any_has (seen ++ n ∷ []) ns ≡ (any_has seen ns || has_name ns n)
unfolding any_has
any_more seen n [] = refl
any_more seen n (m ∷ ns) =
    ap (λ (b : Bool). b || any_has (seen ++ n ∷ []) ns) (has_more seen n m)
    ∙ ap (λ (b : Bool). (has_name seen m || bytes_eq m n) || b) (any_more seen n ns)
    ∙ shuffled (has_name seen m) (bytes_eq m n) (any_has seen ns) (has_name ns n)

-- all names, unless one stands twice
unless : Bool → List (List ℕ) → Option (List (List ℕ))
unless true ns = None
unless false ns = Some ns

joined : (a h r : Bool) → ((a || h) || r) ≡ (a || (h || r))
joined true h r = refl
joined false h r = refl

with_new : (seen : List (List ℕ)) (n : List ℕ) → has_name seen n ≡ false → with_name seen n ≡ seen ++ n ∷ []
unfolding with_name
with_new seen n h = ap (λ (b : Bool). if b then seen else seen ++ n ∷ []) h

picked : (b : Bool) (o : Option (List (List ℕ))) (c : Bool) (ns : List (List ℕ)) → (b ≡ false → o ≡ unless c ns) → (if b then None else o) ≡ unless (b || c) ns
unfolding unless
picked true o c ns h = refl
picked false o c ns h = h refl

same_some : (ns ms : List (List ℕ)) → ns ≡ ms → ◌≡◌ {A = Option (List (List ℕ))} (Some ns) (Some ms)
same_some ns ms e = ap (λ (x : List (List ℕ)). Some x) e

distinct_by : (seen ns : List (List ℕ)) → distinct_from seen ns ≡ unless (any_has seen ns || names_repeat ns) (seen ++ ns)
unfolding distinct_from any_has names_repeat unless
distinct_by seen [] = same_some seen (seen ++ []) (sym (append-nil seen))
distinct_by seen (n ∷ ns) =
    picked (has_name seen n) (distinct_from (with_name seen n) ns) (any_has seen ns || (has_name ns n || names_repeat ns)) (seen ++ n ∷ ns) (λ new.
    distinct_by (with_name seen n) ns
    ∙ ap (λ (xs : List (List ℕ)). unless (any_has xs ns || names_repeat ns) (xs ++ ns)) (with_new seen n new)
    ∙ ap (λ (b : Bool). unless b ((seen ++ n ∷ []) ++ ns)) (ap (λ (b : Bool). b || names_repeat ns) (any_more seen n ns) ∙ joined (any_has seen ns) (has_name ns n) (names_repeat ns))
    ∙ ap (λ (xs : List (List ℕ)). unless (any_has seen ns || (has_name ns n || names_repeat ns)) xs) (append_assoc seen (n ∷ []) ns))
    ∙ ap (λ (b : Bool). unless b (seen ++ n ∷ ns)) (sym (joined (has_name seen n) (any_has seen ns) (has_name ns n || names_repeat ns)))

distinct_are : (ns : List (List ℕ)) → distinct_from [] ns ≡ unless (names_repeat ns) ns
unfolding unless
distinct_are ns = distinct_by [] ns ∙ ap (λ (b : Bool). unless (b || names_repeat ns) ns) (none_has ns)

none_by : (b : Bool) (ns : List (List ℕ)) → None ≡ unless b ns → b ≡ true
unfolding unless
none_by true ns h = refl
none_by false ns h = absurd (cc)

some_by : (b : Bool) (ns ms : List (List ℕ)) → Some ms ≡ unless b ns → (b ≡ false) × (ms ≡ ns)
unfolding unless
some_by true ns ms h = absurd (cc)
some_by false ns ms h = (refl, cc)

pub repeats : (ns : List (List ℕ)) → None ≡ distinct_from [] ns → names_repeat ns ≡ true
repeats ns h = none_by (names_repeat ns) ns (h ∙ distinct_are ns)

pub are_distinct : (ns ms : List (List ℕ)) → Some ms ≡ distinct_from [] ns → (names_repeat ns ≡ false) × (ms ≡ ns)
are_distinct ns ms h = some_by (names_repeat ns) ns ms (h ∙ distinct_are ns)
