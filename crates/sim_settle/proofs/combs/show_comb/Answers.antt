use Rattle.std.proofs.Common.{◌<◌, length, ◌∙◌, arith}
use Rattle.net_core.specs.Values.{values_of, bit_at}
use Rattle.ram_step.specs.Moments.{valuation}
use Rattle.sim_settle.proofs.Showing.{shown_bit}
use Rattle.sim_settle.proofs.combs.show_comb.Goals as goal

pub returns : goal.returns
returns c = λ k lt.
    let d = c.args.comb.now in
    let v = valuation c.args.values.now in
    let inside : k < length d.y = omega (arith, lt) in
    c.eval.ensures k inside ∙ shown_bit d.kind d.signed (values_of v d.a) (values_of v d.b) (values_of v d.s) (length d.y) k (bit_at c.prepare.new.picks k) c.args.key.now (λ free. c.prepare.ensures free k (omega arith))
