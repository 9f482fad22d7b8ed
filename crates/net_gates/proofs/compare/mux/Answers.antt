use Rattle.std.proofs.Common.{refl}
use Rattle.net_gates.proofs.Numbers.{mux_made}
use Rattle.net_gates.proofs.compare.mux.Goals as goal

pub returns-clause-adds : goal.returns-clause-adds
returns-clause-adds c =
    mux_made c.args.edit.now c.logic.new.edit c.args.select c.args.low.now c.args.high.now c.in_ok-ys.ys c.in_ok-left.left c.in_ok-right.right c.in_ok-selector.selector _ c.in_ok-left.ensures c.in_ok-right.ensures c.in_ok-selector.ensures c.requires.even refl c.in_ok-ys.ensures.bits c.in_ok-ys.ensures.cell c.requires.ready
