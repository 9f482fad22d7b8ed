use Rattle.std.proofs.Common.{◌≡◌, ◌++◌, map, length}
use Rattle.rtlil_text.specs.declared.doc.CellLine.TheVariants as line
use Rattle.doc_params.specs.Docs.{doc_param}
use Rattle.net_draft.proofs.cells.push_params.Given as goal

abbrev pub invariant-loop-rest : goal.invariant-loop-rest
invariant-loop-rest l = l.lines.items ++ map (λ a. line.Param (doc_param a)) l.rest ≡ l.initial.lines.items ++ map (λ a. line.Param (doc_param a)) l.fn.params

abbrev pub decreases-loop-rest : goal.decreases-loop-rest
decreases-loop-rest l = length l.rest
