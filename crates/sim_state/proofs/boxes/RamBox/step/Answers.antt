use Rattle.std.proofs.Common.{sym, ap, ◌∙◌}
use Rattle.ram_step.specs.Moments.{valuation}
use Rattle.ram_step.specs.States.{RamLook, stepped}
use Rattle.sim_state.specs.Looks.{limb_look}
use Rattle.sim_state.proofs.boxes.RamBox.step.Goals as goal
use Rattle.sim_state.proofs.boxes.RamBox.step.Goals.{in-Narrow, in-Middle, in-Wide}

pub returns-clause-value : goal.returns-clause-value
returns-clause-value c =
    elim c.match-self.branch [
      | in-Narrow w ↦ (
          ap (λ z. limb_look z.limbs) w.self-inside-is ∙ w.step.ensures.value
          ∙ ap (λ (a : RamLook). stepped a c.args.cell.now (valuation c.args.values.now) c.args.event.now c.args.picks.now) (sym (ap limb_look w.in-Narrow.is) ∙ c.self.view_is)
          )
      | in-Middle w ↦ (
          ap (λ z. limb_look z.limbs) w.self-inside-is ∙ w.step-in-Middle.ensures.value
          ∙ ap (λ (a : RamLook). stepped a c.args.cell.now (valuation c.args.values.now) c.args.event.now c.args.picks.now) (sym (ap limb_look w.in-Middle.is) ∙ c.self.view_is)
          )
      | in-Wide w ↦ (
          ap (λ z. limb_look z.limbs) w.self-inside-is ∙ w.step-in-Wide.ensures.value
          ∙ ap (λ (a : RamLook). stepped a c.args.cell.now (valuation c.args.values.now) c.args.event.now c.args.picks.now) (sym (ap limb_look w.in-Wide.is) ∙ c.self.view_is)
          )
    ]
