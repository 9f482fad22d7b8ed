-- What the writes come to at a place of the words, by the bits that they reach.
use Rattle.std.specs.Prelude.{ℕ, Bool, List, Option, None, slice_index_or}
use Rattle.lib_core.specs.declared.library.Tri.{Tri}
use Rattle.net_core.specs.declared.mems.Mem.{Mem}
use Rattle.net_core.specs.Values.{Valuation}
use Rattle.net_core.specs.Memory.{winner, tri_or_any}
use Rattle.sim_cells.specs.Places.{base_hits}

-- what one of the writes puts there
unfoldable pub own_hit : Mem → Valuation → ℕ → List (Option ℕ) → ℕ → Option Bool
own_hit x v place bases own = slice_index_or (base_hits x v place x.writes bases) own None

-- what the one that has priority puts there
unfoldable pub won_at : Mem → Valuation → ℕ → List (Option ℕ) → Tri
won_at x v place bases = tri_or_any (winner (base_hits x v place x.writes bases) 0 x.writes (base_hits x v place x.writes bases))
