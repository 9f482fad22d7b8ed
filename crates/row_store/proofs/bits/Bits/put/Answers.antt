use Rattle.std.proofs.Common.{◌≡◌, ◌∙◌, ap, sym, arith, length, true, false}
use Rattle.std.specs.Prelude.{slice_set}
use Rattle.row_store.specs.Limbs.{bit_in}
use Rattle.row_store.proofs.BitLists.{length_seen, put_seen, set_as_put}
use Rattle.row_store.proofs.bits.Bits.put.Goals as goal

pub set_bit-requires : goal.set_bit-requires
set_bit-requires g c =
    let count : c.self.inside.width ≡ length c.args.self.now = length_seen c.self.inside.limbs c.self.inside.width c.args.self.now c.self.view_is in
    (omega (arith, c.self.invariant.1), omega (arith, c.self.invariant.0, count))

pub clear_bit-requires : goal.clear_bit-requires
clear_bit-requires g c =
    let count : c.self.inside.width ≡ length c.args.self.now = length_seen c.self.inside.limbs c.self.inside.width c.args.self.now c.self.view_is in
    (omega (arith, c.self.invariant.1), omega (arith, c.self.invariant.0, count))

pub returns-then-bit : goal.returns-then-bit
returns-then-bit g c =
    put_seen c.self.inside.limbs c.set_bit.new.limbs c.self.inside.width c.args.self.now c.args.place true c.self.view_is c.requires (λ k. set_as_put k c.args.place (bit_in c.self.inside.limbs k) (bit_in c.set_bit.new.limbs k) (c.set_bit.ensures k))
    ∙ ap (λ b. slice_set c.args.self.now c.args.place b) (sym c.if-bit.true)

pub returns-else-bit : goal.returns-else-bit
returns-else-bit g c =
    put_seen c.self.inside.limbs c.clear_bit.new.limbs c.self.inside.width c.args.self.now c.args.place false c.self.view_is c.requires c.clear_bit.ensures
    ∙ ap (λ b. slice_set c.args.self.now c.args.place b) (sym c.if-bit.false)
