use Rattle.std.proofs.Common.{length, ap, arith}
use Rattle.lib_core.specs.Rams.{tri_at}
use Rattle.net_core.proofs.Basics.{get_within}
use Rattle.sim_cells.specs.Memories.{port_bits}
use Rattle.sim_cells.proofs.ReadLists.{read_pushed}
use Rattle.sim_cells.proofs.mems.start_reads.Goals as goal

pub loop-port-preserved : goal.loop-port-preserved
loop-port-preserved c =
    let long = ap length c.as_slice-count.ensures in
    let w = get_within c.args.mem.now.reads c.loop-port.port (omega (arith, long, c.loop-port-test.true)) in
    read_pushed (λ port r. port_bits c.start_key-start.result port r (tri_at r.init_value)) c.args.mem.now.reads c.loop-port.port w.0 c.loop-port.kept.items c.push.new.self.items c.in_ok-start_read.field-0 w.1 c.loop-port.invariant c.in_ok-push.ensures.items (c.in_ok-start_read.ensures w.0 w.1)
