use Rattle.build_valid.proofs.Ranks as ranks
use Rattle.build_valid.proofs.sound.meant_is_ordered.Goals as goal

pub returns : goal.returns
returns c = ranks.meant_ordered c.ranks_agree.ensures
