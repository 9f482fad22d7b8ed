use Rattle.std.proofs.Common.{◌≡◌, ◌++◌, length}
use Rattle.std.specs.List.{flat_map}
use Rattle.net_core.specs.Ports.{driving_bits}
use Rattle.stim_text.specs.Inputs.{with_cells}
use Rattle.stim_text.proofs.tables.add_cells.Given as goal

abbrev pub invariant-loop-rest : goal.invariant-loop-rest
invariant-loop-rest l = record {
  bits : l.bits.items ++ flat_map driving_bits l.rest ≡ l.initial.bits.items ++ flat_map driving_bits l.cells;
  pins : with_cells (length l.bits.items) l.pins l.rest ≡ with_cells (length l.initial.bits.items) l.initial.pins l.cells;
}

abbrev pub decreases-loop-rest : goal.decreases-loop-rest
decreases-loop-rest l = length l.rest
