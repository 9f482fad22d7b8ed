use Rattle.cell_rows.proofs.ReadsBack.{comb_reads_back}
use Rattle.cell_rows.proofs.laws.comb_reads_back.Goals as goal

pub returns : goal.returns
returns c = comb_reads_back
