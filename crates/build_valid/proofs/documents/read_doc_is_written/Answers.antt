use Rattle.build_valid.proofs.Counted as counted
use Rattle.build_valid.proofs.documents.read_doc_is_written.Goals as goal

pub returns : goal.returns
returns c = counted.read_doc_written c.read_is_written.ensures
