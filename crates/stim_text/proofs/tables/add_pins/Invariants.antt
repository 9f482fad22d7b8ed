use Rattle.std.proofs.Common.{◌≡◌, ◌++◌, length}
use Rattle.std.specs.Prelude.{filter}
use Rattle.net_core.specs.Ports.{bits_of_pins}
use Rattle.stim_text.specs.Inputs.{with_pins}
use Rattle.stim_text.proofs.tables.add_pins.Given as goal

abbrev pub invariant-loop-rest : goal.invariant-loop-rest
invariant-loop-rest l = record {
  bits : l.bits.items ++ bits_of_pins (filter (λ p. p.drives) l.rest) ≡ l.initial.bits.items ++ bits_of_pins (filter (λ p. p.drives) l.of_cell);
  pins : with_pins (length l.bits.items) l.pins l.cell l.rest ≡ with_pins (length l.initial.bits.items) l.initial.pins l.cell l.of_cell;
}

abbrev pub decreases-loop-rest : goal.decreases-loop-rest
decreases-loop-rest l = length l.rest
