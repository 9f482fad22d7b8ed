use Rattle.std.proofs.Common.{◌≡◌, ◌++◌, take}
use Rattle.std.specs.List.{flat_map}
use Rattle.net_checks.specs.Inouts.{cell_inouts}
use Rattle.net_checks.specs.Marks.{port_bits}
use Rattle.net_checks.specs.declared.marking.Port.TheVariants.{Inout}
use Rattle.net_checks.proofs.inout_pins.inout_bits.Given as goal

abbrev pub invariant-loop-cell : goal.invariant-loop-cell
invariant-loop-cell l = l.bits.items ≡ port_bits Inout 0 l.items ++ flat_map (cell_inouts l.inouts) (take l.cell-index l.cells)
