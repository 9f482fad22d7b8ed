use Rattle.std.proofs.Common.{◌≡◌, true, rules, refl, sym, subst}
use Rattle.net_core.specs.Valid.{Each}
use Rattle.net_live.specs.Sound.{IsTestable}
use Rattle.net_live.proofs.Sounding.{each_none, each_step, behind_each, design_sound}
use Rattle.net_live.proofs.sound.design_is_sound.Goals as goal

pub loop-rest-init : goal.loop-rest-init
loop-rest-init c = (λ h. subst (λ ms. Each ms (IsTestable c.args.lib.now)) c.as_slice-rest.ensures h, λ h. subst (λ ms. Each ms (IsTestable c.args.lib.now)) (sym c.as_slice-rest.ensures) h)

pub loop-rest-preserved : goal.loop-rest-preserved
loop-rest-preserved c =
    let is : c.in_ok-sound.sound ≡ true = search rules in
    let first = c.in_ok-sound.ensures.exact.0 is in
    let P = IsTestable c.args.lib.now in
    let some = c.in-len1-up.len_at_least in
    (λ h. c.loop-rest.invariant.0 (each_step P c.loop-rest.rest.now c.module-item.result some c.module-item.is first h), λ h. behind_each P c.loop-rest.rest.now some (c.loop-rest.invariant.1 h))

pub returns-clause-exact : goal.returns-clause-exact
returns-clause-exact c = (λ e. c.loop-rest.invariant.0 (each_none (IsTestable c.args.lib.now) c.loop-rest.rest.now c.in_default.len_below), λ h. refl)

pub returns-clause-says : goal.returns-clause-says
returns-clause-says c = λ e. design_sound c.args.lib.now c.args.design.now (c.loop-rest.invariant.0 (each_none (IsTestable c.args.lib.now) c.loop-rest.rest.now c.in_default.len_below))
