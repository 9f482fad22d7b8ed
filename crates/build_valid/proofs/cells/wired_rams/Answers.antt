use Rattle.build_valid.proofs.RamCells as rams
use Rattle.build_valid.proofs.cells.wired_rams.Goals as goal

pub returns : goal.returns
returns c = rams.wired_rams c.tables_fit.ensures c.ram_shows_once.ensures c.ram_has_parts.ensures
