use Rattle.lib_tree.proofs.FirstFault.{is_first, is_found, only_gives}
use Rattle.lib_tree.proofs.LineTokens.{are_tokens}
use Rattle.lib_tree.proofs.text.read_statements.Goals as goal

pub returns-clause-found : goal.returns-clause-found
returns-clause-found c = is_found c.args.bytes.now c.read.result c.read.ensures

pub returns-clause-only : goal.returns-clause-only
returns-clause-only c = λ ss s. only_gives c.args.bytes.now c.read.result ss c.read.ensures s

pub returns-clause-first : goal.returns-clause-first
returns-clause-first c = is_first c.args.bytes.now c.read.result c.read.ensures

pub returns-clause-lexical : goal.returns-clause-lexical
returns-clause-lexical c = λ line bs. are_tokens line bs
