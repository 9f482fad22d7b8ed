use Rattle.std.proofs.Common.{◌≡◌, ◌++◌, drop}
use Rattle.net_core.specs.Ports.{nets_of}
use Rattle.net_core.proofs.ports.push_nets.Given as goal

abbrev pub invariant-loop-bit : goal.invariant-loop-bit
invariant-loop-bit l = l.nets.items ++ nets_of (drop l.bit-index l.bits) ≡ l.initial.nets.items ++ nets_of l.bits
