use Rattle.std.proofs.Common.{◌≡◌, drop}
use Rattle.net_core.specs.Logic.{set_places}
use Rattle.cell_table.specs.Selection.{selection_of}
use Rattle.cell_table.proofs.Selecting.{joined}
use Rattle.cell_table.proofs.selector.select.Given as goal

abbrev pub invariant-loop-place : goal.invariant-loop-place
invariant-loop-place l = joined l.selection (set_places (drop l.place l.selectors) l.place) ≡ selection_of (set_places l.selectors 0)
