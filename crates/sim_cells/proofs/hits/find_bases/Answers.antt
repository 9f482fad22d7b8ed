use Rattle.std.proofs.Common.{Some, None, length, ap, arith}
use Rattle.std.proofs.lemmas.Option.{get_or_from_slice_get}
use Rattle.net_core.proofs.Basics.{get_below}
use Rattle.ram_step.specs.Moments.{valuation}
use Rattle.sim_cells.specs.Places.{write_base}
use Rattle.sim_cells.proofs.Writing.{bases_listed}
use Rattle.sim_cells.proofs.hits.find_bases.Goals as goal

pub returns-clause-value : goal.returns-clause-value
returns-clause-value c =
    let inv = c.loop-own.invariant in
    let long = ap length c.as_slice-writes.ensures in
    bases_listed (write_base c.args.mem.now (valuation c.args.values.now) c.args.event.now) c.args.mem.now.writes c.loop-own.bases inv.0
    (λ i w found. let below = get_below c.args.mem.now.writes i w found in inv.1 i (omega (arith, below, long, c.loop-own-test.false)) w found)

pub returns-clause-bases : goal.returns-clause-bases
returns-clause-bases c =
    let inv = c.loop-own.invariant in
    let long = ap length c.as_slice-writes.ensures in
    record {
      count = inv.0;
      small = λ i b found.
          let below = get_below c.loop-own.bases i (Some b) found in
          inv.2 i (omega (arith, below, inv.0, long, c.loop-own-test.false)) b (get_or_from_slice_get c.loop-own.bases i (Some b) None found);
    }
