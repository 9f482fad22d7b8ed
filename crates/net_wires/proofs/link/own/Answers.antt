use Rattle.std.proofs.Common.{◌++◌, ◌∷◌, [], List, sym, ap, ◌∙◌, arith}
use Rattle.std.proofs.lemmas.List.FromFn.{map-range_with_len_more}
use Rattle.net_wires.specs.declared.link.Link.{Link}
use Rattle.net_wires.specs.declared.link.Link.TheVariants.{End}
use Rattle.net_wires.proofs.link.own.Goals as goal

pub loop-i-preserved : goal.loop-i-preserved
loop-i-preserved c = c.in_ok-push.ensures.items ∙ ap (λ (xs : List Link). xs ++ End c.loop-i.i ∷ []) c.loop-i.invariant ∙ sym (map-range_with_len_more End 0 c.loop-i.i c.loop-i.i (omega arith))
