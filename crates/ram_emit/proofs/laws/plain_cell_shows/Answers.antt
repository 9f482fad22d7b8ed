use Rattle.ram_emit.proofs.Shows.{plain_cell_shows}
use Rattle.ram_emit.proofs.laws.plain_cell_shows.Goals as goal

-- src/laws.rt:5:1
pub returns : goal.returns
returns c = plain_cell_shows
