use Rattle.std.proofs.Common.{rules}
use Rattle.net_live.proofs.Sounding.{testable_told}
use Rattle.net_live.proofs.sound.is_sound.Goals as goal

pub returns-clause-exact : goal.returns-clause-exact
returns-clause-exact c =
    let formed = c.is_formed.ensures.exact.0 (search rules) in
    let wired = c.in_ok-is_wired.ensures.0 (search rules) in
    testable_told c.args.lib.now c.args.module.now c.in_ok-ordered.ordered formed wired c.in_ok-ordered.ensures

pub returns-clause-says : goal.returns-clause-says
returns-clause-says c =
    let formed = c.is_formed.ensures.exact.0 (search rules) in
    let wired = c.in_ok-is_wired.ensures.0 (search rules) in
    λ is. ((testable_told c.args.lib.now c.args.module.now c.in_ok-ordered.ordered formed wired c.in_ok-ordered.ensures).0 is).sound
