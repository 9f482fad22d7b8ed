use Rattle.net_fits.proofs.Naming as naming
use Rattle.net_fits.proofs.names.identifiers_are_names.Goals as goal

pub returns : goal.returns
returns c = naming.identifier_is_name
