use Rattle.std.proofs.Common.{ℕ, [], sym, subst}
use Rattle.net_wires.specs.Numbers.{nets}
use Rattle.net_wires.specs.Nets.{InOrder}
use Rattle.net_wires.proofs.Saying.{says}
use Rattle.net_wires.proofs.Ordering.{in_order}
use Rattle.net_wires.proofs.laws.resolved_in_order.Goals as goal

pub returns : goal.returns
returns c = λ t bits count r.
    subst (λ (k : ℕ). InOrder 0 bits k) (sym r.numbered.all)
    (in_order [] r.ends bits r.numbered.long (λ k e at. (r.leads k e at).2) (λ k e b he hb. says (nets r.ends) e b (r.numbered.each k e b he hb)))
