use Rattle.std.proofs.Common.{◌++◌, length, ap, ◌∙◌}
use Rattle.sim_settle.specs.declared.places.NodePlace.TheVariants as place
use Rattle.sim_settle.specs.Places.{each_place, read_places}
use Rattle.sim_settle.proofs.Pushing.{item_get, all_more}
use Rattle.sim_settle.proofs.places.push_mems.Goals as goal

pub push_reads-requires : goal.push_reads-requires
push_reads-requires c = rw c.as_slice.ensures (c.requires.reads c.loop-index.index c.index-mems-index.result (item_get c.args.mems.now c.loop-index.index c.index-mems-index.result c.loop-index-test.true c.index-mems-index.is))

pub loop-index-preserved : goal.loop-index-preserved
loop-index-preserved c =
    let pushed = c.in_ok-push_reads.ensures ∙ ap (λ xs. c.loop-index.places.items ++ each_place (place.Read c.loop-index.index) (length xs)) c.as_slice.ensures in
    all_more read_places c.args.mems.now c.loop-index.index c.index-mems-index.result c.loop-index.places.items c.push_reads.new.places.items _ c.loop-index-test.true c.index-mems-index.is pushed c.loop-index.invariant
