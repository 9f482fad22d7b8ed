use Rattle.doc_params.proofs.ReadsBack.{attr_reads_back}
use Rattle.doc_params.proofs.laws.attr_reads_back.Goals as goal

pub returns : goal.returns
returns c = attr_reads_back
