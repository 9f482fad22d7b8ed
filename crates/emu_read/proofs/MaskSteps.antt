-- Steps of the loops that make masks.
use Rattle.std.proofs.Common.{◌≡◌, ℕ, ◌+◌, Bool, not, ◌&&◌, ◌||◌, List, [], ◌∷◌, ◌++◌, sym, ap, ◌∙◌, append_assoc, append-nil, add-one}
use Rattle.rewriting.specs.Reads.{is_listed, mask_without, mask_with}

pub none_left : (mask whole : List Bool) (m : List Bool) → m ≡ [] → mask ++ m ≡ whole → mask ≡ whole
none_left mask whole m e h = sym (append-nil mask) ∙ ap (λ l. mask ++ l) (sym e) ∙ h

pub without_step : (writes : List ℕ) (place : ℕ) (b : Bool) (rest mask whole : List Bool) → mask ++ mask_without writes place (b ∷ rest) ≡ whole → (mask ++ (b && not (is_listed writes place)) ∷ []) ++ mask_without writes (place + 1) rest ≡ whole
without_step writes place b rest mask whole h = append_assoc mask ((b && not (is_listed writes place)) ∷ []) (mask_without writes (place + 1) rest) ∙ ap (λ n. mask ++ ((b && not (is_listed writes place)) ∷ mask_without writes n rest)) (add-one place) ∙ h

pub with_step : (writes : List ℕ) (place : ℕ) (b : Bool) (rest mask whole : List Bool) → mask ++ mask_with writes place (b ∷ rest) ≡ whole → (mask ++ (b || is_listed writes place) ∷ []) ++ mask_with writes (place + 1) rest ≡ whole
with_step writes place b rest mask whole h = append_assoc mask ((b || is_listed writes place) ∷ []) (mask_with writes (place + 1) rest) ∙ ap (λ n. mask ++ ((b || is_listed writes place) ∷ mask_with writes n rest)) (add-one place) ∙ h
