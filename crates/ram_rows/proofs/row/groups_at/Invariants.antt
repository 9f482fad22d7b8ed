use Rattle.std.proofs.Common.{◌≡◌, drop}
use Rattle.ram_rows.specs.RamRows.{groups_at, behind}
use Rattle.ram_rows.proofs.row.groups_at.Given as goal

abbrev pub invariant-loop-group : goal.invariant-loop-group
invariant-loop-group l = behind l.slots.items (groups_at l.variant l.level l.params (drop l.group-index l.groups)) ≡ groups_at l.variant l.level l.params l.groups
