-- Bits that are put at the end, item by item.
use Rattle.std.proofs.Common.{◌≡◌, ℕ, suc, ◌+◌, ◌<◌, List, [], ◌∷◌, ◌++◌, length, get_or, drop, refl, sym, ap, add-one, drop-cons, append_assoc, ◌∙◌}
use Rattle.std.specs.List.{flat_map}
use Rattle.net_core.specs.declared.bits.Bit.{Bit}

pub flat_more : {X : Type 0} (f : X → List Bit) (xs : List X) (i : ℕ) (x : X) (done next whole : List Bit) → i < length xs → x ≡ get_or xs i x → next ≡ done ++ f x → done ++ flat_map f (drop i xs) ≡ whole → next ++ flat_map f (drop (i + 1) xs) ≡ whole
flat_more f xs i x done next whole lt is e h =
    let split : drop i xs ≡ x ∷ drop (suc i) xs = drop-cons xs i x lt ∙ ap (λ y. y ∷ drop (suc i) xs) (sym is) in
    let place : drop (i + 1) xs ≡ drop (suc i) xs = ap (λ k. drop k xs) (add-one i) in
    ap (λ l. l ++ flat_map f (drop (i + 1) xs)) e ∙ ap (λ r. (done ++ f x) ++ flat_map f r) place ∙ append_assoc done (f x) (flat_map f (drop (suc i) xs)) ∙ ap (λ r. done ++ flat_map f r) (sym split) ∙ h
