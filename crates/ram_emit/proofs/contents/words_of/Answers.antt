use Rattle.std.proofs.Common.{rules, ◌≡◌, ◌/◌, ◌%◌, ◌++◌, ◌∷◌, []}
use Rattle.ram_emit.specs.Cell as spec
use Rattle.ram_emit.proofs.Padding.{range_turn}
use Rattle.ram_emit.proofs.contents.words_of.Goals as goal

pub loop-place-preserved : goal.loop-place-preserved
loop-place-preserved c =
    let put : c.push.new.self.items ≡ c.loop-place.bits.items ++ c.start_bit.result ∷ [] = search rules in
    range_turn (λ p. spec.start_bit c.args.variant.now c.args.mem.now (p / c.args.width) (p % c.args.width)) c.loop-place.place c.loop-place.bits.items c.push.new.self.items c.start_bit.result c.loop-place.invariant c.start_bit.ensures put
