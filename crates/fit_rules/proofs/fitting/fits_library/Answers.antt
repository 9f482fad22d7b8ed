use Rattle.std.proofs.Common.{sym}
use Rattle.fit_rules.proofs.Chosen.{limits_of_ram}
use Rattle.fit_rules.proofs.fitting.fits_library.Goals as goal

pub fits_ram-requires-clause-limits : goal.fits_ram-requires-clause-limits
fits_ram-requires-clause-limits c = limits_of_ram c.args.lib.now c.args.choice.now.ram c.in-Some.ram.now c.requires.library (sym c.in-Some.ensures)
