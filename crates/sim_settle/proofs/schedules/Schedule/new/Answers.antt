use Rattle.std.proofs.Common.{ap, ◌∙◌}
use Rattle.std.specs.Prelude.{slice_get}
use Rattle.sim_settle.proofs.schedules.Schedule.new.Goals as goal

pub returns : goal.returns
returns c = record {
  inputs = c.in_ok-inputs.ensures;
  free = c.in_ok-free.ensures.all;
  free_nets = c.in_ok-free.ensures.within;
  order = c.in_ok-work.ensures;
  width = λ at p hp.
      let a = c.in_ok-work.ensures.every at (p, hp) in
      c.width-width.ensures a.0 at p (ap (λ l. slice_get l a.0) c.as_slice.ensures ∙ a.1) hp;
}
