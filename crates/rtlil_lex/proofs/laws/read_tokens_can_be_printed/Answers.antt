use Rattle.rtlil_lex.proofs.Fitting.{text_fits}
use Rattle.rtlil_lex.proofs.laws.read_tokens_can_be_printed.Goals as goal

pub returns : goal.returns
returns c = text_fits c.args.text.now
