use Rattle.std.proofs.Common.{◌≡◌, drop}
use Rattle.ram_rows.specs.RamRows.{names_at, behind}
use Rattle.ram_rows.proofs.row.push_names.Given as goal

abbrev pub invariant-loop-name : goal.invariant-loop-name
invariant-loop-name l = behind l.slots.items (names_at l.variant l.group l.level l.params (drop l.name-index l.group.names)) ≡ behind l.initial.slots.items (names_at l.variant l.group l.level l.params l.group.names)
