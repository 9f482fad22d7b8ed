use Rattle.build_valid.proofs.Faultless as faultless
use Rattle.build_valid.proofs.sound.faultless_is_sound.Goals as goal

pub returns : goal.returns
returns c = faultless.faultless_sound
