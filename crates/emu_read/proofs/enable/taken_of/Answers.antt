use Rattle.std.proofs.Common.{length, ap, ◌∙◌}
use Rattle.emu_read.proofs.Outside.{outlined}
use Rattle.emu_read.proofs.enable.taken_of.Goals as goal

pub returns : goal.returns
returns c = outlined c.args.edit.now.netlist c.args.mem c.args.read c.requires c.memory_at-memory.result.now c.port_at-port.result.now c.memory_at-memory.ensures c.port_at-port.ensures c.clock_of-clock.result c.in_ok-out.out c.width_of-width.result c.clock_of-clock.ensures c.in_ok-out.ensures (c.width_of-width.ensures ∙ ap length c.as_slice.ensures)
