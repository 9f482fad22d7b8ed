use Rattle.rtlil_lex.proofs.Lexical.{lexes, tokens_are}
use Rattle.rtlil_lex.proofs.lex.tokens.Goals as goal

pub returns-clause-lexes : goal.returns-clause-lexes
returns-clause-lexes c = lexes c.args.line.now

pub returns-clause-only : goal.returns-clause-only
returns-clause-only c = λ ts k. tokens_are c.args.line.now ts k
