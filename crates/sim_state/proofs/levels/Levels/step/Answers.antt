use Rattle.std.proofs.Common.{sym, ap, ◌∙◌}
use Rattle.ram_step.specs.Moments.{valuation}
use Rattle.ram_step.specs.States.{RamLook, stepped}
use Rattle.sim_state.specs.Looks.{level_look}
use Rattle.sim_state.proofs.levels.Levels.step.Goals as goal

pub returns-in-One-clause-value : goal.returns-in-One-clause-value
returns-in-One-clause-value g c =
    c.step.ensures.value ∙ ap (λ (a : RamLook). stepped a c.args.cell.now (valuation c.args.values.now) c.args.event.now c.args.picks.now) (sym (ap level_look c.in-One.is))

pub returns-in-Two-clause-value : goal.returns-in-Two-clause-value
returns-in-Two-clause-value g c =
    c.step-in-Two.ensures.value ∙ ap (λ (a : RamLook). stepped a c.args.cell.now (valuation c.args.values.now) c.args.event.now c.args.picks.now) (sym (ap level_look c.in-Two.is))

pub returns-in-Three-clause-value : goal.returns-in-Three-clause-value
returns-in-Three-clause-value g c =
    c.step-in-Three.ensures.value ∙ ap (λ (a : RamLook). stepped a c.args.cell.now (valuation c.args.values.now) c.args.event.now c.args.picks.now) (sym (ap level_look c.in-Three.is))

pub returns-in-Four-clause-value : goal.returns-in-Four-clause-value
returns-in-Four-clause-value g c =
    c.step-in-Four.ensures.value ∙ ap (λ (a : RamLook). stepped a c.args.cell.now (valuation c.args.values.now) c.args.event.now c.args.picks.now) (sym (ap level_look c.in-Four.is))

pub returns-in-Five-clause-value : goal.returns-in-Five-clause-value
returns-in-Five-clause-value g c =
    c.step-in-Five.ensures.value ∙ ap (λ (a : RamLook). stepped a c.args.cell.now (valuation c.args.values.now) c.args.event.now c.args.picks.now) (sym (ap level_look c.in-Five.is))

pub returns-in-Six-clause-value : goal.returns-in-Six-clause-value
returns-in-Six-clause-value g c =
    c.step-in-Six.ensures.value ∙ ap (λ (a : RamLook). stepped a c.args.cell.now (valuation c.args.values.now) c.args.event.now c.args.picks.now) (sym (ap level_look c.in-Six.is))

pub returns-in-Seven-clause-value : goal.returns-in-Seven-clause-value
returns-in-Seven-clause-value g c =
    c.step-in-Seven.ensures.value ∙ ap (λ (a : RamLook). stepped a c.args.cell.now (valuation c.args.values.now) c.args.event.now c.args.picks.now) (sym (ap level_look c.in-Seven.is))

pub returns-in-Eight-clause-value : goal.returns-in-Eight-clause-value
returns-in-Eight-clause-value g c =
    c.step-in-Eight.ensures.value ∙ ap (λ (a : RamLook). stepped a c.args.cell.now (valuation c.args.values.now) c.args.event.now c.args.picks.now) (sym (ap level_look c.in-Eight.is))
