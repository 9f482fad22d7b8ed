use Rattle.net_fits.proofs.Knowing as knowing
use Rattle.net_fits.proofs.modules.context_knows.Goals as goal

pub returns : goal.returns
returns c = knowing.context_knows c.shown_drive.ensures
