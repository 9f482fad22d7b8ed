use Rattle.net_fits.proofs.NamedPins as pins
use Rattle.net_fits.proofs.rams.named_driven_once.Goals as goal

pub returns : goal.returns
returns c = pins.named_driven_once
