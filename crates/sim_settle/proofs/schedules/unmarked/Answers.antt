use Rattle.std.proofs.Common.{slice_index_or, false}
use Rattle.sim_settle.proofs.Writing.{bit_at_is}
use Rattle.sim_settle.proofs.Marking.{unmarked_more}
use Rattle.sim_settle.proofs.schedules.unmarked.Goals as goal

pub loop-net-preserved : goal.loop-net-preserved
loop-net-preserved c =
    unmarked_more c.args.marks.now c.loop-net.nets.items c.push_unmarked.new.nets.items c.loop-net.net (slice_index_or c.args.marks.now c.loop-net.net false) (bit_at_is c.args.marks.now c.loop-net.net) c.in_ok-push_unmarked.ensures c.loop-net.invariant
