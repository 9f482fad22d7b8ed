use Rattle.std.proofs.Common.{◌≡◌, ℕ, ◌<◌, [], Some}
use Rattle.std.specs.Prelude.{slice_get}
use Rattle.net_core.specs.declared.search.Mark.TheVariants.{New}
use Rattle.net_core.specs.Search.{Searching}
use Rattle.net_core.proofs.order.order_of.Given as goal

abbrev pub invariant-loop-start : goal.invariant-loop-start
invariant-loop-start l =
    Searching l.graph l.search.marks.items l.search.left.items l.search.stack.items l.search.order.items
    × (l.search.stack.items ≡ [])
    × ((i : ℕ) → i < l.start → slice_get l.search.marks.items i ≡ Some New → ⊥)
