use Rattle.std.proofs.Common.{◌≡◌, drop}
use Rattle.ram_rows.specs.RamRows.{least_from}
use Rattle.ram_rows.proofs.slots.least_from.Given as goal

abbrev pub invariant-loop-other : goal.invariant-loop-other
invariant-loop-other l = least_from l.least (drop l.other-index l.levels) ≡ least_from l.level l.levels
