use Rattle.net_gather.proofs.Interfaces as interfaces
use Rattle.net_gather.proofs.laws.shown_drive.Goals as goal

pub returns : goal.returns
returns c = interfaces.shown_drive
