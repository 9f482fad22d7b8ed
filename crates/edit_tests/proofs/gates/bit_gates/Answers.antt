use Rattle.edit_tests.proofs.Ready.{next_ready}
use Rattle.edit_tests.proofs.gates.bit_gates.Goals as goal

pub and_gate-requires : goal.and_gate-requires
and_gate-requires c = next_ready _ _ _ _ _ c.in_ok-first.ensures.adds

pub or_gate-requires : goal.or_gate-requires
or_gate-requires c = next_ready _ _ _ _ _ c.in_ok-second.ensures.adds

pub xor_gate-requires : goal.xor_gate-requires
xor_gate-requires c = next_ready _ _ _ _ _ c.in_ok-third.ensures.adds

pub returns : goal.returns
returns c = next_ready _ _ _ _ _ c.in_ok-last.ensures.adds
