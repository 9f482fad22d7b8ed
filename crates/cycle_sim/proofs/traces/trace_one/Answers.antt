use Rattle.std.proofs.Common.{ap, subst, ◌∙◌}
use Rattle.net_core.specs.Nodes.{HasNet}
use Rattle.cycle_sim.specs.Views.{SimView}
use Rattle.cycle_sim.proofs.Running.{lines_shown, below_like}
use Rattle.cycle_sim.proofs.traces.trace_one.Goals as goal

pub run_all-requires-clause-nets : goal.run_all-requires-clause-nets
run_all-requires-clause-nets c = λ n h.
    below_like c.args.«module».now c.in_ok-sim.sim.unit n (ap (λ (s : SimView). s.unit) c.in_ok-sim.ensures)
    (c.requires.runs.outputs n (subst (λ bits. HasNet bits n) (c.as_slice.ensures.value ∙ c.in_ok-outputs.ensures) h))

pub returns : goal.returns
returns c =
    lines_shown c.args.library.now c.args.«module».now c.args.seed c.in_ok-sim.sim c.args.events.now c.as_slice-2.result.now c.in_ok-lines.lines c.in_ok-sim.ensures c.as_slice-2.ensures c.in_ok-lines.ensures
