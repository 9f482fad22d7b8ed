use Rattle.std.proofs.Common.{◌++◌, length, ap, ◌∙◌}
use Rattle.sim_settle.specs.declared.places.NodePlace.TheVariants as place
use Rattle.sim_settle.specs.Places.{each_place, slot_places}
use Rattle.sim_settle.proofs.Pushing.{item_get, all_more}
use Rattle.sim_settle.proofs.places.push_rams.Goals as goal

pub push_slots-requires : goal.push_slots-requires
push_slots-requires c = rw c.as_slice.ensures (c.requires.slots c.loop-index.index c.index-rams-index.result (item_get c.args.rams.now c.loop-index.index c.index-rams-index.result c.loop-index-test.true c.index-rams-index.is))

pub loop-index-preserved : goal.loop-index-preserved
loop-index-preserved c =
    let pushed = c.in_ok-push_slots.ensures ∙ ap (λ xs. c.loop-index.places.items ++ each_place (place.Slot c.loop-index.index) (length xs)) c.as_slice.ensures in
    all_more slot_places c.args.rams.now c.loop-index.index c.index-rams-index.result c.loop-index.places.items c.push_slots.new.places.items _ c.loop-index-test.true c.index-rams-index.is pushed c.loop-index.invariant
