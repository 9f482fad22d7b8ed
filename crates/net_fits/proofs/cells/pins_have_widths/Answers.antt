use Rattle.net_fits.proofs.Tables as tables
use Rattle.net_fits.proofs.cells.pins_have_widths.Goals as goal

pub returns : goal.returns
returns c = tables.pin_width
