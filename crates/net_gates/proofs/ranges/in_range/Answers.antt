use Rattle.net_gates.proofs.Ranging.{ready_still, ready_pair, in_range_adds}
use Rattle.net_gates.proofs.Growing.{grows_on}
use Rattle.net_gates.proofs.Leaving.{left_grows, left_behind, on_any}
use Rattle.net_gates.proofs.ranges.in_range.Goals as goal

pub less_const-requires-2 : goal.less_const-requires-2
less_const-requires-2 c = ready_still _ _ _ _ c.args.addr.now _ c.in_ok-reached.ensures.adds (ready_still _ _ _ _ c.args.addr.now _ c.in_ok-below.ensures.adds c.requires)

pub and_gate-requires : goal.and_gate-requires
and_gate-requires c = ready_pair _ _ _ _ _ c.in_ok-reached.reached c.in_ok-before.before _ _ c.in_ok-reached.ensures.adds c.in_ok-before.ensures.adds

pub returns-clause-adds : goal.returns-clause-adds
returns-clause-adds c =
    in_range_adds c.args.edit.now c.less_const.new.edit c.not_gate.new.edit c.less_const-2.new.edit c.and_gate.new.edit c.args.addr.now c.args.first c.args.end c.in_ok-below.below c.in_ok-reached.reached c.in_ok-before.before c.in_ok-y.y c.requires c.in_ok-below.ensures.adds c.in_ok-reached.ensures.adds c.in_ok-before.ensures.adds c.in_ok-y.ensures.adds

pub returns-in_err-below-clause-left : goal.returns-in_err-below-clause-left
returns-in_err-below-clause-left c = on_any _ (left_grows _ _ _ _ c.in_err-below.ensures.left)

pub returns-in_err-before-clause-left : goal.returns-in_err-before-clause-left
returns-in_err-before-clause-left c =
    on_any _ (left_behind _ c.args.edit.now c.not_gate.new.edit c.less_const-2.new.edit 1 (grows_on _ _ _ c.in_ok-below.ensures.adds.extends.grows c.in_ok-reached.ensures.adds.extends.grows) c.in_err-before.ensures.left)

pub returns-in_err-y-clause-left : goal.returns-in_err-y-clause-left
returns-in_err-y-clause-left c =
    let first = grows_on _ _ _ c.in_ok-below.ensures.adds.extends.grows c.in_ok-reached.ensures.adds.extends.grows in
    on_any _ (left_behind _ c.args.edit.now c.less_const-2.new.edit c.and_gate.new.edit 1 (grows_on _ _ _ first c.in_ok-before.ensures.adds.extends.grows) c.in_err-y.ensures.left)
