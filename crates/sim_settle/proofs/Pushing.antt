-- Places that are put at the end.
use Rattle.std.proofs.Common.{◌≡◌, ℕ, zero, suc, ◌+◌, ◌<◌, List, [], ◌∷◌, ◌++◌, length, map, take, drop, get_or, Some, sym, ap, add-one, drop-cons, append_assoc, ◌∙◌, arith}
use Rattle.std.specs.Prelude.{slice_get}
use Rattle.std.proofs.lemmas.List.FromFn.{map-range_with_len_more}
use Rattle.std.proofs.lemmas.Option.{slice_get-get_or}
use Rattle.sim_settle.specs.declared.places.NodePlace.{NodePlace}
use Rattle.sim_settle.specs.Places.{each_place, all_places}

pub item_get : {X : Type 0} (xs : List X) (i : ℕ) (x : X) → i < length xs → x ≡ get_or xs i x → slice_get xs i ≡ Some x
item_get xs i x lt is = slice_get-get_or xs i x lt ∙ ap Some (sym is)

pub each_more : (f : ℕ → NodePlace) (old done next : List NodePlace) (n : ℕ) → done ≡ old ++ each_place f n → next ≡ done ++ f n ∷ [] → next ≡ old ++ each_place f (n + 1)
each_more f old done next n was pushed =
    pushed ∙ ap (λ l. l ++ f n ∷ []) was ∙ append_assoc old (each_place f n) (f n ∷ []) ∙ ap (λ l. old ++ l) (sym (map-range_with_len_more f 0 n n (omega arith)))

pub all_more : {X : Type 0} (f : ℕ → X → List NodePlace) (xs : List X) (i : ℕ) (x : X) (done next whole : List NodePlace) → i < length xs → x ≡ get_or xs i x → next ≡ done ++ f i x → done ++ all_places f i (drop i xs) ≡ whole → next ++ all_places f (i + 1) (drop (i + 1) xs) ≡ whole
all_more f xs i x done next whole lt is e h =
    let split : drop i xs ≡ x ∷ drop (suc i) xs = drop-cons xs i x lt ∙ ap (λ y. y ∷ drop (suc i) xs) (sym is) in
    let place : drop (i + 1) xs ≡ drop (suc i) xs = ap (λ k. drop k xs) (add-one i) in
    ap (λ l. l ++ all_places f (i + 1) (drop (i + 1) xs)) e ∙ ap (λ r. (done ++ f i x) ++ all_places f (i + 1) r) place ∙ append_assoc done (f i x) (all_places f (i + 1) (drop (suc i) xs)) ∙ ap (λ r. done ++ all_places f i r) (sym split) ∙ h

map_take_suc : {X Y : Type 0} (f : X → Y) (xs : List X) (k : ℕ) (x : X) → k < length xs → x ≡ get_or xs k x → map f (take (suc k) xs) ≡ map f (take k xs) ++ f x ∷ []
map_take_suc f [] k x h e = absurd (omega (arith, h))
map_take_suc f (y ∷ xs) zero x h e = ap (λ z. f z ∷ []) (sym e)
map_take_suc f (y ∷ xs) (suc k) x h e = ap (λ t. f y ∷ t) (map_take_suc f xs k x (omega (arith, h)) e)

pub map_take_more : {X Y : Type 0} (f : X → Y) (xs : List X) (k : ℕ) (x : X) → k < length xs → x ≡ get_or xs k x → map f (take (k + 1) xs) ≡ map f (take k xs) ++ f x ∷ []
map_take_more f xs k x h e = ap (λ n. map f (take n xs)) (add-one k) ∙ map_take_suc f xs k x h e
