use Rattle.std.proofs.Common.{sym}
use Rattle.fit_rules.proofs.Chosen.{limits_of_variant}
use Rattle.fit_rules.proofs.fitting.fits_ram.Goals as goal

pub fits_variant-requires-clause-limits : goal.fits_variant-requires-clause-limits
fits_variant-requires-clause-limits c = limits_of_variant c.args.ram.now c.args.choice.now.variant c.in-Some.variant.now c.requires.limits (sym c.in-Some.ensures)
