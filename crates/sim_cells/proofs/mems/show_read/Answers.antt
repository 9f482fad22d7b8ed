use Rattle.std.proofs.Common.{arith, ap, ◌∙◌}
use Rattle.ram_step.specs.Moments.{valuation}
use Rattle.ram_step.specs.Picks.{pick_number}
use Rattle.sim_cells.specs.Choices.{taken}
use Rattle.sim_cells.specs.Memories.{picked_bit, shown_tri}
use Rattle.sim_cells.proofs.Filling.{filled_more}
use Rattle.sim_cells.proofs.mems.show_read.Goals as goal

pub loop-place-preserved : goal.loop-place-preserved
loop-place-preserved c =
    let bits = shown_tri c.args.words.now c.args.mem.now (valuation c.args.values.now) c.args.kept.now c.args.read.now in
    filled_more (picked_bit c.args.key.now c.args.port bits) c.loop-place.out c.loop-place.place c.take.result (omega arith)
    (c.take.ensures ∙ ap (λ n. taken c.args.key.now n c.shown_tri-tri.result) c.pick_number.ensures ∙ ap (taken c.args.key.now (pick_number c.args.port c.loop-place.place)) c.shown_tri-tri.ensures)
    c.loop-place.invariant
