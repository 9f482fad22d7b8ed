use Rattle.edit_tests.proofs.Ready.{next_ready, chosen_ready}
use Rattle.edit_tests.proofs.gates.choices.Goals as goal

pub mux-requires-clause-ready : goal.mux-requires-clause-ready
mux-requires-clause-ready c = chosen_ready _ _ (next_ready _ _ _ _ _ c.in_ok-inside.ensures.adds)
