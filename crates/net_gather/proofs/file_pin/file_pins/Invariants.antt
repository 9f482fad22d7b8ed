use Rattle.std.proofs.Common.{◌≡◌, ◌++◌, length}
use Rattle.net_gather.specs.FilePins.{file_breaches, file_pins}
use Rattle.net_gather.proofs.file_pin.file_pins.Given as goal

abbrev pub invariant-loop-rest : goal.invariant-loop-rest
invariant-loop-rest l = (file_breaches l.names l.table l.rest ≡ file_breaches l.names l.table l.lines) × (l.pins.items ++ file_pins l.names l.rest ≡ file_pins l.names l.lines)

abbrev pub decreases-loop-rest : goal.decreases-loop-rest
decreases-loop-rest l = length l.rest
