-- What stands at a place of the states of cells.
use Rattle.std.proofs.Common.{◌≡◌, ℕ, zero, suc, ◌+◌, ◌<◌, List, [], ◌∷◌, length, get_or, Some, refl, sym, ap, ◌∙◌, arith}
use Rattle.std.specs.Prelude.{slice_get}
use Rattle.std.proofs.lemmas.Option.{same_Some}
use Rattle.picked_run.specs.States.{each_cell, each_state}

pub length_cells : {X Y : Type 0} (f : ℕ → X → Y) (from : ℕ) (xs : List X) → length (each_cell f from xs) ≡ length xs
length_cells f from [] = refl
length_cells f from (x ∷ xs) = ap suc (length_cells f (from + 1) xs)

pub length_states : {X S : Type 0} (f : ℕ → X → S → S) (from : ℕ) (xs : List X) (ss : List S) → length ss ≡ length xs → length (each_state f from xs ss) ≡ length xs
length_states f from [] ss e = refl
length_states f from (x ∷ xs) [] e = absurd (omega (arith, e))
length_states f from (x ∷ xs) (s ∷ ss) e = ap suc (length_states f (from + 1) xs ss (omega (arith, e)))

cell_from : {X Y : Type 0} (f : ℕ → X → Y) (from : ℕ) (xs : List X) (i : ℕ) (x : X) (d : Y) → slice_get xs i ≡ Some x → get_or (each_cell f from xs) i d ≡ f (from + i) x
cell_from f from [] i x d e = cc
cell_from f from (y ∷ xs) zero x d e = ap (f from) (same_Some y x e) ∙ ap (λ m. f m x) (let z : from ≡ from + 0 = omega arith in z)
cell_from f from (y ∷ xs) (suc i) x d e = cell_from f (from + 1) xs i x d e ∙ ap (λ m. f m x) (let z : from + 1 + i ≡ from + suc i = omega arith in z)

pub cell_at : {X Y : Type 0} (f : ℕ → X → Y) (xs : List X) (i : ℕ) (x : X) (d : Y) → slice_get xs i ≡ Some x → get_or (each_cell f 0 xs) i d ≡ f i x
cell_at f xs i x d e = cell_from f 0 xs i x d e ∙ ap (λ m. f m x) (let z : 0 + i ≡ i = omega arith in z)

state_from : {X S : Type 0} (f : ℕ → X → S → S) (from : ℕ) (xs : List X) (ss : List S) (i : ℕ) (x : X) (d : S) → length ss ≡ length xs → slice_get xs i ≡ Some x → get_or (each_state f from xs ss) i d ≡ f (from + i) x (get_or ss i d)
state_from f from [] ss i x d h e = cc
state_from f from (y ∷ xs) [] i x d h e = absurd (omega (arith, h))
state_from f from (y ∷ xs) (s ∷ ss) zero x d h e = ap (λ z. f from z s) (same_Some y x e) ∙ ap (λ m. f m x s) (let z : from ≡ from + 0 = omega arith in z)
state_from f from (y ∷ xs) (s ∷ ss) (suc i) x d h e = state_from f (from + 1) xs ss i x d (omega (arith, h)) e ∙ ap (λ m. f m x (get_or ss i d)) (let z : from + 1 + i ≡ from + suc i = omega arith in z)

pub state_at : {X S : Type 0} (f : ℕ → X → S → S) (xs : List X) (ss : List S) (i : ℕ) (x : X) (d : S) → length ss ≡ length xs → slice_get xs i ≡ Some x → get_or (each_state f 0 xs ss) i d ≡ f i x (get_or ss i d)
state_at f xs ss i x d h e = state_from f 0 xs ss i x d h e ∙ ap (λ m. f m x (get_or ss i d)) (let z : 0 + i ≡ i = omega arith in z)

pub earlier : {X : Type 0} (xs : List X) (t : ℕ) (x : X) → slice_get xs (suc t) ≡ Some x → (y : X) × (slice_get xs t ≡ Some y)
earlier [] t x e = cc
earlier (y ∷ ys) zero x e = (y, refl)
earlier (y ∷ ys) (suc t) x e = earlier ys t x e
