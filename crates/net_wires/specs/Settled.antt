-- Digits without a value that get places of their own.
use Rattle.std.specs.Prelude.{ℕ, ◌+◌, List, [], ◌∷◌}
use Rattle.net_wires.specs.declared.source.Source.{Source}
use Rattle.net_wires.specs.declared.source.Source.TheVariants as source

-- in order, from the place next on
abbrev pub settled : ℕ → List Source → List Source
settled next [] = []
settled next (source.Loose ∷ ss) = source.At next ∷ settled (next + 1) ss
settled next (source.Zero ∷ ss) = source.Zero ∷ settled next ss
settled next (source.One ∷ ss) = source.One ∷ settled next ss
settled next (source.At p ∷ ss) = source.At p ∷ settled next ss

abbrev pub loose_count : List Source → ℕ
loose_count [] = 0
loose_count (source.Loose ∷ ss) = 1 + loose_count ss
loose_count (source.Zero ∷ ss) = loose_count ss
loose_count (source.One ∷ ss) = loose_count ss
loose_count (source.At p ∷ ss) = loose_count ss
