use Rattle.rtlil_lex.specs.Lines.{token_lines}
use Rattle.rtlil_text.specs.Text.{limited_lines}
use Rattle.rtlil_text.proofs.Documents.{is_found, only_gives}
use Rattle.rtlil_text.proofs.TextFaults.{is_first_fault}
use Rattle.rtlil_text.proofs.text.read_doc.Goals as goal

pub returns-clause-found : goal.returns-clause-found
returns-clause-found c = is_found c.args.bytes.now c.read_all.result c.read_all.ensures

pub returns-clause-only : goal.returns-clause-only
returns-clause-only c = λ d reads within. only_gives c.args.bytes.now c.read_all.result d c.read_all.ensures reads within

pub returns-clause-first : goal.returns-clause-first
returns-clause-first c = is_first_fault (limited_lines (token_lines c.args.bytes.now)) c.read_all.result c.read_all.ensures
