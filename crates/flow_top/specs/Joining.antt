-- Texts put together from pieces.
use Rattle.std.specs.Prelude.{ℕ, List, [], ◌∷◌, ◌++◌}
use Rattle.std.specs.Borrow.{Bor}

abbrev pub joined : List (List ℕ) → List ℕ
joined [] = []
joined (piece ∷ pieces) = piece ++ joined pieces

-- the pieces that slices show
abbrev pub contents : List (Bor (List ℕ)) → List (List ℕ)
contents [] = []
contents (piece ∷ pieces) = piece.now ∷ contents pieces
