use Rattle.std.proofs.Common.{◌≡◌, take}
use Rattle.net_gather.specs.OpenPins.{table_pins}
use Rattle.net_gather.proofs.open_pin.table_pins.Given as goal

abbrev pub invariant-loop-row : goal.invariant-loop-row
invariant-loop-row l = l.list.items ≡ table_pins l.pins (take l.row-index l.table)
