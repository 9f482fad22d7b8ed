use Rattle.std.proofs.Common.{◌≡◌, ◌+◌, ◌++◌, length}
use Rattle.net_gather.specs.OpenPins.{open_count, raw_pins}
use Rattle.net_gather.proofs.bits.raw_pins.Given as goal

abbrev pub invariant-loop-rest : goal.invariant-loop-rest
invariant-loop-rest l = (l.raws.items ++ raw_pins l.next l.rest ≡ raw_pins l.from l.pins) × (l.next + open_count l.rest ≡ l.from + open_count l.pins)

abbrev pub decreases-loop-rest : goal.decreases-loop-rest
decreases-loop-rest l = length l.rest
