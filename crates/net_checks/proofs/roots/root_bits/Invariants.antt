use Rattle.std.proofs.Common.{◌≡◌, ◌++◌, take}
use Rattle.std.specs.List.{flat_map}
use Rattle.net_checks.specs.ClockPins.{cell_roots}
use Rattle.net_checks.specs.Marks.{port_bits}
use Rattle.net_checks.specs.declared.marking.Port.TheVariants.{Input}
use Rattle.net_checks.proofs.roots.root_bits.Given as goal

abbrev pub invariant-loop-cell : goal.invariant-loop-cell
invariant-loop-cell l = l.bits.items ≡ port_bits Input 0 l.items ++ flat_map cell_roots (take l.cell-index l.cells)
