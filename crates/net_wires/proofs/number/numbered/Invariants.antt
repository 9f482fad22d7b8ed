use Rattle.std.proofs.Common.{◌≡◌, ◌≤◌, [], length, take}
use Rattle.net_wires.specs.Numbers.{appear, Numbered, Table}
use Rattle.net_wires.proofs.number.numbered.Given as goal

abbrev pub invariant-loop-link : goal.invariant-loop-link
invariant-loop-link l = (length l.table.items ≡ length l.ends) × Numbered (take l.link-index l.ends) l.bits.items l.count × Table l.table.items (appear [] (take l.link-index l.ends)) × (l.count ≤ l.link-index)
