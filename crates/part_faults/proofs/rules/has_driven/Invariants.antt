use Rattle.std.proofs.Common.{◌≡◌, length}
use Rattle.std.specs.List.{list_any}
use Rattle.part_faults.specs.Driven.{is_driven, is_driven_bit}
use Rattle.part_faults.specs.Tables.{module_of}
use Rattle.part_faults.proofs.rules.has_driven.Given as goal

abbrev pub invariant-loop-rest : goal.invariant-loop-rest
invariant-loop-rest l = list_any (is_driven_bit (is_driven (module_of l.tables))) l.rest ≡ list_any (is_driven_bit (is_driven (module_of l.tables))) l.bits

abbrev pub decreases-loop-rest : goal.decreases-loop-rest
decreases-loop-rest l = length l.rest
