use Rattle.std.proofs.Common.{rules, ◌≡◌, ◌++◌, ◌∷◌, [], length, ap, subst}
use Rattle.std.specs.Vec.Iter.{into_iter_items}
use Rattle.plain_bind.proofs.Bounding.{Bounding, begin_bounding, first_fits, next_bounding}
use Rattle.plain_bind.proofs.binding.bind_plain.Goals as goal

pub loop-module-init : goal.loop-module-init
loop-module-init c =
    let all : into_iter_items c.into_iter-module-iterator.result ≡ c.args.design.modules = search rules in
    begin_bounding c.args.lib.now c.args.design c.args.plans.now c.new-bound.result.items (into_iter_items c.into_iter-module-iterator.result) c.new-bound.ensures.items all c.requires.fits c.requires.plain

pub bind_module-requires-clause-memories : goal.bind_module-requires-clause-memories
bind_module-requires-clause-memories c =
    let next : into_iter_items c.loop-module.module-iterator ≡ c.in-Some.module ∷ into_iter_items c.next.new.self = search rules in
    let left = subst (λ l. Bounding c.args.lib.now c.args.design c.args.plans.now c.loop-module.bound.items l c.loop-module.rest.now) next c.loop-module.invariant in
    first_fits c.args.lib.now c.args.design c.args.plans.now c.loop-module.bound.items c.in-Some.module (into_iter_items c.next.new.self) c.loop-module.rest.now left

pub loop-module-preserved : goal.loop-module-preserved
loop-module-preserved c =
    let next : into_iter_items c.loop-module.module-iterator ≡ c.in-Some.module ∷ into_iter_items c.next.new.self = search rules in
    let left = subst (λ l. Bounding c.args.lib.now c.args.design c.args.plans.now c.loop-module.bound.items l c.loop-module.rest.now) next c.loop-module.invariant in
    let put : c.push.new.self.items ≡ c.loop-module.bound.items ++ c.in_ok-bind_module.field-0 ∷ [] = search rules in
    next_bounding c.args.lib.now c.args.design c.args.plans.now c.loop-module.bound.items c.push.new.self.items c.in-Some.module c.in_ok-bind_module.field-0 (into_iter_items c.next.new.self) c.loop-module.rest.now c.split_at.result.1.now
    (length c.as_slice-count.result.now) c.in_ok-bind_module.ensures put (ap length c.as_slice-count.ensures) c.split_at.ensures.back left
