use Rattle.std.proofs.Common.{◌≡◌, Some, length, sym, ap, ◌∙◌, refl, arith}
use Rattle.std.specs.Prelude.{slice_get}
use Rattle.std.proofs.lemmas.Option.{slice_get_read}
use Rattle.net_core.specs.Wiring.{rows}
use Rattle.net_core.proofs.Wired.{tells_none, tells_more, tells_all}
use Rattle.net_core.proofs.order.drivers.Goals as goal

pub loop-node-init : goal.loop-node-init
loop-node-init c = (c.in_ok-table.ensures.len, tells_none c.args.nodes.now (rows c.in_ok-table.table.items) c.in_ok-table.ensures.empty)

pub add_driver-requires : goal.add_driver-requires
add_driver-requires c = λ k n h.
    let at : slice_get c.args.nodes.now c.loop-node.node ≡ Some c.index-nodes-node.result = slice_get_read c.args.nodes.now (length c.args.nodes.now) c.loop-node.node c.index-nodes-node.result refl (omega arith) c.index-nodes-node.is in
    let low = c.requires.within c.loop-node.node k n c.index-nodes-node.result at (ap (λ l. slice_get l k) (sym c.as_slice.ensures) ∙ h) in
    omega (arith, low, c.loop-node.invariant.0)

pub loop-node-preserved : goal.loop-node-preserved
loop-node-preserved c =
    let at : slice_get c.args.nodes.now c.loop-node.node ≡ Some c.index-nodes-node.result = slice_get_read c.args.nodes.now (length c.args.nodes.now) c.loop-node.node c.index-nodes-node.result refl (omega arith) c.index-nodes-node.is in (
      c.in_ok-add_driver.ensures.len ∙ c.loop-node.invariant.0,
      tells_more c.args.nodes.now (rows c.loop-node.table.items) (rows c.add_driver.new.table.items) c.loop-node.node _ c.index-nodes-node.result c.as_slice.result.now refl at c.as_slice.ensures c.in_ok-add_driver.ensures.leads c.loop-node.invariant.1,
    )

pub returns-clause-tells : goal.returns-clause-tells
returns-clause-tells c = tells_all c.args.nodes.now (rows c.loop-node.table.items) c.loop-node.node (omega arith) c.loop-node.invariant.1
