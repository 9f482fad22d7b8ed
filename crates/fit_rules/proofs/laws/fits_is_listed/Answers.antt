use Rattle.fit_rules.proofs.Listed.{fits_is_listed}
use Rattle.fit_rules.proofs.laws.fits_is_listed.Goals as goal

pub returns : goal.returns
returns c = fits_is_listed
