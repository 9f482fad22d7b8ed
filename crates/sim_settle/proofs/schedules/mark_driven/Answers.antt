use Rattle.std.proofs.Common.{◌∙◌}
use Rattle.sim_settle.proofs.Marking.{free_undriven, free_inputs}
use Rattle.sim_settle.proofs.schedules.mark_driven.Goals as goal

pub returns : goal.returns
returns c = λ n free.
    c.mark_work.ensures n (free_undriven c.args.«module».now n free) ∙ c.mark.ensures n (free_inputs c.args.«module».now n free c.args.inputs.now c.requires.all_inputs)
