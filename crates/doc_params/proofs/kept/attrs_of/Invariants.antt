use Rattle.std.proofs.Common.{◌≡◌, take}
use Rattle.doc_params.specs.Docs.{attrs_of}
use Rattle.doc_params.proofs.kept.attrs_of.Given as goal

abbrev pub invariant-loop-attr : goal.invariant-loop-attr
invariant-loop-attr l = l.list.items ≡ attrs_of (take l.attr-index l.attrs)
