use Rattle.std.proofs.Common.{length, ap, sym, ◌∙◌, arith}
use Rattle.cycle_sim.proofs.Placed.{fits_room, part_length, needs_within, drives_within, nets_apart, place_steps}
use Rattle.cycle_sim.proofs.settling.work_place.Goals as goal

pub slice_bounds-out-end : goal.slice_bounds-out-end
slice_bounds-out-end c = fits_room c.args.«module».now c.args.at c.requires.node c.nets_at-nets.result.now c.nets_at-nets.ensures c.args.shown.now c.requires.shown

pub slice_bounds-out-end-2 : goal.slice_bounds-out-end-2
slice_bounds-out-end-2 c = part_length c.args.«module».now c.args.at c.requires.node c.nets_at-nets.result.now c.nets_at-nets.ensures c.args.shown.now c.requires.shown

pub slice_bounds-show-end : goal.slice_bounds-show-end
slice_bounds-show-end c = fits_room c.args.«module».now c.args.at c.requires.node c.nets_at-nets.result.now c.nets_at-nets.ensures c.args.picks.now c.requires.picks

pub slice_bounds-show-end-2 : goal.slice_bounds-show-end-2
slice_bounds-show-end-2 c = part_length c.args.«module».now c.args.at c.requires.node c.nets_at-nets.result.now c.nets_at-nets.ensures c.args.picks.now c.requires.picks

pub show-requires-clause-nets : goal.show-requires-clause-nets
show-requires-clause-nets c = λ p hp. needs_within c.args.«module».now c.requires.nets c.args.at p hp c.args.values.now c.requires.values

pub show-requires-clause-picks : goal.show-requires-clause-picks
show-requires-clause-picks c = λ p hp.
    sym (part_length c.args.«module».now c.args.at c.requires.node c.nets_at-nets.result.now c.nets_at-nets.ensures c.args.picks.now c.requires.picks) ∙ ap length (c.nets_at-nets.ensures p hp)

pub show-requires-clause-out : goal.show-requires-clause-out
show-requires-clause-out c = λ p hp.
    sym (part_length c.args.«module».now c.args.at c.requires.node c.nets_at-nets.result.now c.nets_at-nets.ensures c.args.shown.now c.requires.shown) ∙ ap length (c.nets_at-nets.ensures p hp)

pub write_nets-requires-clause-nets : goal.write_nets-requires-clause-nets
write_nets-requires-clause-nets c = drives_within c.args.«module».now c.requires.nets c.args.at c.requires.node c.nets_at-nets.result.now c.nets_at-nets.ensures c.args.values.now c.requires.values

pub write_nets-requires-clause-apart : goal.write_nets-requires-clause-apart
write_nets-requires-clause-apart c = nets_apart c.args.«module».now c.requires.driven c.args.at c.requires.node c.nets_at-nets.result.now c.nets_at-nets.ensures

pub write_nets-requires-clause-bits : goal.write_nets-requires-clause-bits
write_nets-requires-clause-bits c =
    let long = part_length c.args.«module».now c.args.at c.requires.node c.nets_at-nets.result.now c.nets_at-nets.ensures c.args.shown.now c.requires.shown in
    omega (arith, long)

pub returns : goal.returns
returns c =
    let long = part_length c.args.«module».now c.args.at c.requires.node c.nets_at-nets.result.now c.nets_at-nets.ensures c.args.shown.now c.requires.shown in
    place_steps c.args.«module».now c.args.seed c.args.number c.args.state.now c.args.at c.nets_at-nets.result.now c.show.new.out _ _ c.nets_at-nets.ensures (omega (arith, long)) c.show.ensures c.write_nets.ensures
