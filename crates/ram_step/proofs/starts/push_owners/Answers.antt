use Rattle.std.proofs.Common.{◌++◌, ◌∷◌, [], ap, ◌∙◌}
use Rattle.ram_step.specs.Owners.{so_many}
use Rattle.ram_step.proofs.Starting.{so_many_more, append_assoc'}
use Rattle.ram_step.proofs.starts.push_owners.Goals as goal

pub loop-preserved : goal.loop-preserved
loop-preserved c =
    c.in_ok-push.ensures.items ∙ ap (λ l. l ++ c.args.number ∷ []) c.loop.invariant ∙ append_assoc' c.args.list.now.items (so_many c.loop.counter c.args.number) (c.args.number ∷ [])
    ∙ ap (λ l. c.args.list.now.items ++ l) (so_many_more c.loop.counter c.args.number)
