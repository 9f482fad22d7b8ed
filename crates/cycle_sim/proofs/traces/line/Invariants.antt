use Rattle.std.proofs.Common.{◌≡◌, Bool, List, Some, take}
use Rattle.net_core.specs.Values.{values_of}
use Rattle.ram_step.specs.Moments.{valuation}
use Rattle.cycle_sim.proofs.traces.line.Given as goal

abbrev pub invariant-loop-bit : goal.invariant-loop-bit
invariant-loop-bit l = (values : List Bool) → l.sim.values ≡ Some values → l.line.items ≡ values_of (valuation values) (take l.bit-index l.bits)
