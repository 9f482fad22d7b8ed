use Rattle.std.proofs.Common.{◌≡◌, ◌∙◌, arith, length}
use Rattle.row_store.proofs.BitLists.{length_seen, bit_at_seen}
use Rattle.row_store.proofs.bits.Bits.get.Goals as goal

pub has_bit-requires : goal.has_bit-requires
has_bit-requires g c =
    let count : c.self.inside.width ≡ length c.args.self.now = length_seen c.self.inside.limbs c.self.inside.width c.args.self.now c.self.view_is in
    (omega (arith, c.self.invariant.1), omega (arith, c.self.invariant.0, count))

pub returns : goal.returns
returns g c = c.has_bit.ensures ∙ bit_at_seen c.self.inside.limbs c.self.inside.width c.args.self.now c.args.place c.self.view_is c.requires
