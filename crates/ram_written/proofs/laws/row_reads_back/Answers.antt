use Rattle.ram_written.proofs.Rows.{row_reads_back}
use Rattle.ram_written.proofs.laws.row_reads_back.Goals as goal

pub returns : goal.returns
returns c = row_reads_back
