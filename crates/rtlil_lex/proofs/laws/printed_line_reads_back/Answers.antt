use Rattle.rtlil_lex.proofs.Pieces.{line_lexes}
use Rattle.rtlil_lex.proofs.laws.printed_line_reads_back.Goals as goal

pub returns : goal.returns
returns c = line_lexes c.args.line.now c.requires
