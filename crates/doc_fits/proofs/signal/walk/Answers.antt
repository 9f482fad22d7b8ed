use Rattle.std.proofs.Common.{◌≤◌, false, ◌+◌, ◌∙◌, length, arith}
use Rattle.doc_fits.specs.Tests.{walk, spot}
use Rattle.doc_fits.proofs.Walking.{walks_on, is_deep}
use Rattle.doc_fits.proofs.signal.walk.Goals as goal

pub loop-rest-preserved : goal.loop-rest-preserved
loop-rest-preserved c =
    let rest = c.loop-rest.rest.now in
    let there = c.in_ok-spot.was in record {
      whole = walks_on c.loop-rest.spot c.in_ok-spot.spot c.step.result rest c.part-item.result (walk (spot 0 false) c.args.parts.now) c.in-len1-up.len_at_least c.part-item.is c.step.ensures there c.loop-rest.invariant.whole;
      deep = is_deep c.loop-rest.spot c.in_ok-spot.spot c.step.result rest c.part-item.result (length c.args.parts.now) c.in-len1-up.len_at_least c.step.ensures there c.loop-rest.invariant.deep;
    }
