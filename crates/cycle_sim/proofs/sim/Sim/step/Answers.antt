use Rattle.cycle_sim.proofs.sim.Sim.step.Goals as goal

pub invariant_of-self : goal.invariant_of-self
invariant_of-self c =
    let inv = c.self.invariant in
    record {
      can = inv.can;
      schedule = inv.schedule;
      state = c.step.ensures.state c.self.inside.library inv.state;
      values = inv.values;
      picks = inv.picks;
      shown = inv.shown;
    }
