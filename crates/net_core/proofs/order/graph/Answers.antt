use Rattle.std.proofs.Common.{◌≡◌, List, [], ◌∷◌, ◌++◌, ℕ, ap, ◌∙◌, arith}
use Rattle.net_core.specs.declared.nodes.NodeNets.{NodeNets}
use Rattle.net_core.specs.Wiring.{rows, drivers_of}
use Rattle.net_core.proofs.Wired.{map_more}
use Rattle.net_core.proofs.order.graph.Goals as goal

pub loop-node-preserved : goal.loop-node-preserved
loop-node-preserved c =
    let Row : NodeNets → List ℕ = λ p. drivers_of (rows c.args.table.now) p.needs in
    let row : c.in_ok-drivers_of.field-0 ≡ Row c.node-item.result = c.in_ok-drivers_of.ensures ∙ ap (drivers_of (rows c.args.table.now)) c.as_slice.ensures in
    let pushed : c.push.new.self.items ≡ c.loop-node.graph.items ++ Row c.node-item.result ∷ [] = c.in_ok-push.ensures.items ∙ ap (λ r. c.loop-node.graph.items ++ r ∷ []) row in
    map_more Row c.args.nodes.now c.loop-node.node-index c.node-item.result c.loop-node.graph.items c.push.new.self.items _ (omega arith) c.node-item.is pushed c.loop-node.invariant
