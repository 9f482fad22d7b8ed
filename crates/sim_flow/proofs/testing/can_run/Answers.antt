use Rattle.std.proofs.Common.{rules}
use Rattle.sim_flow.proofs.Tested.{runs_told}
use Rattle.sim_flow.proofs.testing.can_run.Goals as goal

pub returns-clause-exact : goal.returns-clause-exact
returns-clause-exact c =
    let counts = c.has_counts.ensures.0 (search rules) in
    let outs = c.in_ok-outputs_within.ensures.0 (search rules) in
    runs_told c.args.library.now c.args.module.now c.in_ok-sound.sound (search rules) (search rules) counts outs c.in_ok-sound.ensures.exact

pub returns-clause-says : goal.returns-clause-says
returns-clause-says c =
    let counts = c.has_counts.ensures.0 (search rules) in
    let outs = c.in_ok-outputs_within.ensures.0 (search rules) in
    λ is. ((runs_told c.args.library.now c.args.module.now c.in_ok-sound.sound (search rules) (search rules) counts outs c.in_ok-sound.ensures.exact).0 is).1
