use Rattle.std.proofs.Common.{◌≡◌, length, true}
use Rattle.net_core.specs.Values.{bit_at}
use Rattle.sim_settle.proofs.Writing.{Filled}
use Rattle.sim_settle.proofs.schedules.mark.Given as goal

abbrev pub invariant-loop-net : goal.invariant-loop-net
invariant-loop-net l = (length l.marks ≡ length l.initial.marks) × Filled l.net-index l.nets (λ n. true) (bit_at l.initial.marks) (bit_at l.marks)
