use Rattle.edit_tests.proofs.Ready.{next_ready}
use Rattle.edit_tests.proofs.gates.list_gates.Goals as goal

pub or_all-requires : goal.or_all-requires
or_all-requires c = next_ready _ _ _ _ _ c.in_ok-first.ensures.adds

pub equal_const-requires : goal.equal_const-requires
equal_const-requires c = next_ready _ _ _ _ _ c.in_ok-second.ensures.adds

pub less_const-requires : goal.less_const-requires
less_const-requires c = next_ready _ _ _ _ _ c.in_ok-third.ensures.adds

pub returns : goal.returns
returns c = next_ready _ _ _ _ _ c.in_ok-last.ensures.adds
