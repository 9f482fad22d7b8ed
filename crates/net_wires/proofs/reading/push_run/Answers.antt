use Rattle.std.proofs.Common.{◌+◌, ℕ, arith, refl}
use Rattle.net_wires.specs.declared.source.Source.TheVariants.{At}
use Rattle.net_wires.proofs.Bits.{down_turn}
use Rattle.net_wires.proofs.reading.push_run.Goals as goal

pub loop-left-preserved : goal.loop-left-preserved
loop-left-preserved c = (
  down_turn (λ (k : ℕ). At (c.args.run.base + k)) c.loop-left.left _ c.loop-left.bits.items c.push.new.self.items _ c.loop-left-test.true c.loop-left.invariant.0 refl c.in_ok-push.ensures.items,
  omega (arith, c.loop-left.invariant.1),
)
