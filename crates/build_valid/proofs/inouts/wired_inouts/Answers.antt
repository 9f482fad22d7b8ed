use Rattle.build_valid.proofs.InoutsHeld as held
use Rattle.build_valid.proofs.inouts.wired_inouts.Goals as goal

pub returns : goal.returns
returns c = held.inouts_apart c.gathered_is_sound.ensures c.shown_inouts.ensures
