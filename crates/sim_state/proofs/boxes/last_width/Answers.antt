use Rattle.std.proofs.Common.{ℕ, ◌-◌, List, length, ap, ◌∙◌}
use Rattle.lib_core.specs.Rams.{width_at}
use Rattle.sim_state.proofs.boxes.last_width.Goals as goal

pub returns : goal.returns
returns c = c.last_of.ensures ∙ ap (λ (l : List ℕ). width_at l (length l - 1)) c.as_slice.ensures
