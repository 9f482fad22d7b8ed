use Rattle.std.proofs.Common.{sym, subst, ◌∙◌}
use Rattle.net_core.specs.Valid.{Each, MemFits}
use Rattle.plain_bind.specs.Bound.{made_by}
use Rattle.plain_bind.proofs.Cells.{bound_as}
use Rattle.plain_bind.proofs.binding.bind_module.Goals as goal

pub bind_mems-requires-clause-memories : goal.bind_mems-requires-clause-memories
bind_mems-requires-clause-memories c = subst (λ l. Each l MemFits) (sym c.as_slice.ensures) c.requires.memories

pub returns : goal.returns
returns c =
    let made = c.in_ok-nets.ensures ∙ (λ i. made_by c.args.lib.now (c.in_ok-front.ensures i) (record { nets = c.args.module.nets; rams = c.args.module.rams }) (c.as_slice.ensures i) c.args.plans.now) in
    bound_as c.args.lib.now c.args.module c.args.plans.now c.in_ok-nets.field-0 c.from_vec.result c.requires.plain made (c.from_vec.ensures ∙ c.new.ensures.items)
