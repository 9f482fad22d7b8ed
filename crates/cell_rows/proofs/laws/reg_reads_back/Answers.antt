use Rattle.cell_rows.proofs.ReadsBack.{reg_reads_back}
use Rattle.cell_rows.proofs.laws.reg_reads_back.Goals as goal

pub returns : goal.returns
returns c = reg_reads_back
