use Rattle.std.proofs.Common.{◌≡◌, take}
use Rattle.doc_params.specs.Docs.{params_of}
use Rattle.doc_params.proofs.kept.params_of.Given as goal

abbrev pub invariant-loop-line : goal.invariant-loop-line
invariant-loop-line l = l.list.items ≡ params_of (take l.line-index l.lines)
