use Rattle.std.proofs.Common.{append_assoc, arith}
use Rattle.std.proofs.lemmas.Grind.{common_steps}
use Rattle.mem_pack.proofs.Steps.{addresses_step}
use Rattle.mem_pack.proofs.numbers.push_addresses.Goals as goal

pub loop-place-preserved : goal.loop-place-preserved
loop-place-preserved c = grind (arith, common_steps, append_assoc, addresses_step)
