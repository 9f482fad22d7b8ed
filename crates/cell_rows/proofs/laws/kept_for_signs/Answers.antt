use Rattle.cell_rows.proofs.Signs.{kept_for_signs}
use Rattle.cell_rows.proofs.laws.kept_for_signs.Goals as goal

pub returns : goal.returns
returns c = kept_for_signs
