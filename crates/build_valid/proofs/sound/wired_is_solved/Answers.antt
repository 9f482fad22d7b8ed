use Rattle.build_valid.proofs.Wiring as wiring
use Rattle.build_valid.proofs.sound.wired_is_solved.Goals as goal

pub returns : goal.returns
returns c = wiring.wired_solved c.gathered_is_sound.ensures
