use Rattle.net_core.proofs.Basics.{get_below}
use Rattle.emu_read.proofs.Placing.{freed}
use Rattle.emu_read.proofs.enable.free.Goals as goal

pub returns : goal.returns
returns c = λ x p is.
    freed c.args.edit.now c.replace_mem.new.self c.args.mem c.args.read c.args.quiet.now c.args.q c.memory_at.result.now c.in_ok-memory.memory c.put_read.new.memory c.port_at.result.now c.in_ok-port.port c.in_ok-list.list x p c.memory_at.ensures c.in_ok-memory.ensures c.port_at.ensures c.in_ok-port.ensures c.put_read.ensures c.in_ok-list.ensures (get_below _ _ _ c.memory_at.ensures) c.in_ok-replace_mem.ensures.ok is
