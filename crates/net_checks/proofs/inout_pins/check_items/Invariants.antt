use Rattle.std.proofs.Common.{◌≡◌, length}
use Rattle.net_checks.specs.Inouts.{inout_faults}
use Rattle.net_checks.specs.Marks.{is_source_marked}
use Rattle.net_checks.proofs.inout_pins.check_items.Given as goal

abbrev pub invariant-loop-rest : goal.invariant-loop-rest
invariant-loop-rest l = inout_faults (is_source_marked l.marks) l.names l.cells l.rest ≡ inout_faults (is_source_marked l.marks) l.names l.fn.cells l.items

abbrev pub decreases-loop-rest : goal.decreases-loop-rest
decreases-loop-rest l = length l.rest
