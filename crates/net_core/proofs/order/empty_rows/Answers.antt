use Rattle.std.proofs.Common.{◌≡◌, [], ◌∷◌, ◌+◌, length, ap, ◌∙◌, arith}
use Rattle.std.proofs.lemmas.List.{length-append}
use Rattle.net_core.proofs.Wired.{none_pushed}
use Rattle.net_core.proofs.order.empty_rows.Goals as goal

pub loop-preserved : goal.loop-preserved
loop-preserved c = (
  (let e : length c.push.new.self.items ≡ length c.loop.table.items + 1 = ap length c.in_ok-push.ensures.items ∙ length-append c.loop.table.items (c.new.result ∷ []) in omega (arith, e, c.loop.invariant.0)),
  none_pushed c.loop.table.items c.push.new.self.items c.new.result c.in_ok-push.ensures.items c.new.ensures.items c.loop.invariant.1,
)
