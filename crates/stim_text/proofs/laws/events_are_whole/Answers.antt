use Rattle.stim_text.proofs.Wholeness.{events_are_whole}
use Rattle.stim_text.proofs.laws.events_are_whole.Goals as goal

pub returns : goal.returns
returns c = events_are_whole
