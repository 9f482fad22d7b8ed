use Rattle.std.proofs.Common.{sym, subst, ◌∙◌}
use Rattle.sim_settle.specs.Nets.{AreApart}
use Rattle.cycle_sim.proofs.Counts.{inputs_apart}
use Rattle.cycle_sim.proofs.Placed.{begins_so}
use Rattle.cycle_sim.proofs.settling.begin.Goals as goal

pub write_nets-requires-clause-apart : goal.write_nets-requires-clause-apart
write_nets-requires-clause-apart c = subst AreApart (sym (c.as_slice-2.ensures ∙ c.requires.schedule.inputs)) (inputs_apart c.args.«module».now c.requires.driven)

pub returns : goal.returns
returns c =
    begins_so c.args.«module».now c.args.seed c.args.number c.args.event.now c.args.schedule.now c.as_slice.result.now c.as_slice-2.result.now c.as_slice-3.result.now _ _ _ c.requires.schedule c.as_slice.ensures c.as_slice-2.ensures c.as_slice-3.ensures c.pick_nets.ensures c.write_nets.ensures
