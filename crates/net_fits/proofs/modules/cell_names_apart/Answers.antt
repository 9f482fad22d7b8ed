use Rattle.net_fits.proofs.NamesApart as names
use Rattle.net_fits.proofs.modules.cell_names_apart.Goals as goal

pub returns : goal.returns
returns c = names.cell_names_apart
