use Rattle.std.proofs.Common.{◌≡◌, ◌<◌, Some, length, get_or, ◌∙◌, arith}
use Rattle.std.specs.Prelude.{slice_get}
use Rattle.std.proofs.lemmas.Option.{slice_get-get_or}
use Rattle.std.proofs.lemmas.List.{length-set}
use Rattle.net_core.specs.Wiring.{rows}
use Rattle.net_core.proofs.Wired.{table_step, driver_all}
use Rattle.net_core.proofs.order.add_driver.Goals as goal

pub loop-net-preserved : goal.loop-net-preserved
loop-net-preserved c =
    let at = c.loop-net.net-index in
    let net = get_or c.args.nets.now at 0 in
    let is_net : slice_get c.args.nets.now at ≡ Some net = slice_get-get_or c.args.nets.now at 0 (omega arith) in
    let low = c.requires at net is_net in
    let within : net < length c.loop-net.table.items = omega (arith, low, c.loop-net.invariant.0) in (
      length-set c.loop-net.table.items net c.push.new.self ∙ c.loop-net.invariant.0,
      table_step (rows c.args.table.now.items) c.loop-net.table.items c.index_mut.result.now c.push.new.self c.args.nets.now c.args.node at net within c.index_mut.ensures.value c.in_ok-push.ensures.items is_net c.loop-net.invariant.1,
    )

pub returns-clause-leads : goal.returns-clause-leads
returns-clause-leads c = driver_all (rows c.args.table.now.items) (rows c.loop-net.table.items) c.args.nets.now c.args.node c.loop-net.net-index (omega arith) c.loop-net.invariant.1
