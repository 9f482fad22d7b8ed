use Rattle.std.proofs.Common.{◌+◌, sym, ◌∙◌, arith, subst, List, take}
use Rattle.net_core.specs.declared.bits.Bit.{Bit}
use Rattle.net_wires.specs.declared.link.Link.TheVariants.{Zero}
use Rattle.net_wires.specs.Numbers.{Numbered, nets}
use Rattle.net_wires.proofs.Joins.{numbered_turn}
use Rattle.net_wires.proofs.number.numbered.Goals as goal

pub loop-link-preserved : goal.loop-link-preserved
loop-link-preserved c =
    let i = c.loop-link.link-index in
    let inv = c.loop-link.invariant in
    let j = c.bit_at.ensures.joined (nets (take i c.args.ends.now)) inv.2 inv.1.all in
    let t = numbered_turn c.args.ends.now i c.loop-link.bits.items c.loop-link.count c.bit_at.new.count c.bit_at.new.table.items c.bit_at.result Zero c.loop-link-test.true inv.1 j in
    (c.bit_at.ensures.long ∙ inv.0, subst (λ (bs : List Bit). Numbered (take (i + 1) c.args.ends.now) bs c.bit_at.new.count) (sym c.in_ok-push.ensures.items) t.0, t.1, omega (arith, c.bit_at.ensures.few, inv.3))
