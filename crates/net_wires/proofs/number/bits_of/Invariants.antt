use Rattle.std.proofs.Common.{◌≡◌, map, take}
use Rattle.net_wires.specs.Nets.{bit_of}
use Rattle.net_wires.proofs.number.bits_of.Given as goal

abbrev pub invariant-loop-source : goal.invariant-loop-source
invariant-loop-source l = l.found.items ≡ map (bit_of l.bits) (take l.source-index l.sources)
