use Rattle.doc_params.proofs.ReadsBack.{attr_is_plain}
use Rattle.doc_params.proofs.laws.attr_is_plain.Goals as goal

pub returns : goal.returns
returns c = attr_is_plain
