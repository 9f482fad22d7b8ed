use Rattle.std.proofs.Common.{rules}
use Rattle.net_loops.proofs.walk.Walk.run.Goals as goal

pub returns-then-branch-clause-kept : goal.returns-then-branch-clause-kept
returns-then-branch-clause-kept c = λ i y h low. c.in_ok-step.ensures.kept i y (c.loop-node.invariant.2 i y h low) low

pub loop-node-preserved : goal.loop-node-preserved
loop-node-preserved c = (search rules, search rules, λ i y h low. c.in_ok-step.ensures.kept i y (c.loop-node.invariant.2 i y h low) low)
