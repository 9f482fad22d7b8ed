use Rattle.std.proofs.Common.{arith, []}
use Rattle.fit_rules.proofs.Copies.{copies_some}
use Rattle.fit_rules.proofs.shapes.copies.Goals as goal

pub loop-at-init : goal.loop-at-init
loop-at-init c = (omega arith, (omega (arith, copies_some c.args.variant.now c.args.groups.now [] c.args.places.now)))
