use Rattle.net_fits.proofs.Items as items
use Rattle.net_fits.proofs.names.head_fits.Goals as goal

pub returns : goal.returns
returns c = items.head_known
