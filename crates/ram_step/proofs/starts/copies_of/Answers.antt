use Rattle.std.proofs.Common.{◌++◌, ◌∷◌, [], ap, ◌∙◌}
use Rattle.ram_step.proofs.Starting.{replicate_more}
use Rattle.ram_step.proofs.starts.copies_of.Goals as goal

pub loop-preserved : goal.loop-preserved
loop-preserved c = c.in_ok-push.ensures.items ∙ ap (λ l. l ++ c.args.tri ∷ []) c.loop.invariant ∙ replicate_more c.loop.counter c.args.tri
