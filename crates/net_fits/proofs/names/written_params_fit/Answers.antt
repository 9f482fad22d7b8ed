use Rattle.net_fits.proofs.Attrs as attrs
use Rattle.net_fits.proofs.names.written_params_fit.Goals as goal

pub returns : goal.returns
returns c = attrs.params_fit
