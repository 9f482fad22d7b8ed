use Rattle.std.proofs.Common.{◌≡◌, ℕ, ◌<◌, ◌≤◌, ◌^◌, sym, subst, arith}
use Rattle.fit_rules.proofs.Powers.{bits_to_is}
use Rattle.fit_rules.proofs.bits.bits_to.Goals as goal

pub returns-then-from-two_to-clause-value : goal.returns-then-from-two_to-clause-value
returns-then-from-two_to-clause-value c =
    let enough : c.args.number ≤ 2 ^ c.loop-bits.bits = omega (arith, c.if-from-two_to.true, c.from.ensures, c.two_to.ensures) in
    sym (bits_to_is c.args.number c.loop-bits.bits enough c.loop-bits.invariant)

pub returns-clause-value : goal.returns-clause-value
returns-clause-value c =
    let enough : c.args.number ≤ 2 ^ 32 = omega (arith, c.ranges.number) in
    let last : c.loop-bits.bits ≡ 32 = omega (arith, c.loop-bits-test.false, c.loop-bits.auto.bits-end) in
    sym (bits_to_is c.args.number 32 enough (subst (λ n. (k : ℕ) → k < n → 2 ^ k < c.args.number) last c.loop-bits.invariant))
