use Rattle.std.proofs.Common.{arith}
use Rattle.sim_state.specs.Cells.{reg_begins}
use Rattle.sim_state.proofs.Listing.{element}
use Rattle.sim_state.proofs.Kept.{kept_pushed}
use Rattle.sim_state.proofs.registers.start_registers.Goals as goal

pub loop-index-preserved : goal.loop-index-preserved
loop-index-preserved c =
    let reg = c.index-regs-index.result in
    kept_pushed (reg_begins c.args.first c.args.seed) c.args.regs.now c.loop-index.index reg c.loop-index.kept.items c.push.new.self.items c.in_ok-bits.bits
    (element c.args.regs.now c.loop-index.index reg (omega arith) c.index-regs-index.is)
    c.loop-index.invariant c.in_ok-push.ensures.items c.in_ok-bits.ensures
