use Rattle.ram_emit.proofs.Agreeing.{plain_cell_fits}
use Rattle.ram_emit.proofs.laws.plain_cell_fits.Goals as goal

-- src/laws.rt
pub returns : goal.returns
returns c = plain_cell_fits
