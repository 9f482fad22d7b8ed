use Rattle.std.proofs.Common.{◌≡◌, [], ◌∷◌, ◌+◌, length, ap, ◌∙◌, arith}
use Rattle.std.proofs.lemmas.List.{length-append}
use Rattle.part_faults.proofs.Numbering.{none_pushed}
use Rattle.part_faults.proofs.ids.no_ids.Goals as goal

pub loop-preserved : goal.loop-preserved
loop-preserved c = (
  (let e : length c.push.new.self.items ≡ length c.loop.rows.items + 1 = ap length c.in_ok-push.ensures.items ∙ length-append c.loop.rows.items (c.from_vec.result ∷ []) in omega (arith, e, c.loop.invariant.0)),
  none_pushed c.loop.rows.items c.push.new.self.items c.from_vec.result c.in_ok-push.ensures.items (c.from_vec.ensures ∙ c.new.ensures.items) c.loop.invariant.1,
)
