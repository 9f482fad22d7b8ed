use Rattle.std.proofs.Common.{ap, ◌∙◌}
use Rattle.stim_text.specs.Inputs.{with_net}
use Rattle.stim_text.proofs.Rooting.{root_added}
use Rattle.stim_text.proofs.roots.Roots.add.Goals as goal

pub returns-in_ok-insert : goal.returns-in_ok-insert
returns-in_ok-insert c =
    c.in_ok-insert.ensures.keys ∙ ap (λ t. with_net t c.in-Root.net) c.self.view_is ∙ root_added c.args.self.now c.args.clock c.in-Root.net c.in-Root.rising c.in-Root.is
