-- Nodes that depend on one bit.
use Rattle.std.specs.Prelude.{ℕ, List, [], ◌∷◌}
use Rattle.net_core.specs.declared.bits.Bit.{Bit}
use Rattle.net_core.specs.Nodes.{Node}

abbrev pub one_need : List ℕ → Bit → Node
one_need drives b = record { drives = drives; needs = b ∷ [] }
