use Rattle.trace_text.proofs.Texts.{text_has_bytes}
use Rattle.trace_text.proofs.laws.text_has_bytes.Goals as goal

pub returns : goal.returns
returns c = text_has_bytes
