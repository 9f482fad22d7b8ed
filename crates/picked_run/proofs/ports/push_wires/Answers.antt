use Rattle.std.proofs.Common.{◌++◌, ap, ◌∙◌, sym, drop, ◌+◌, arith}
use Rattle.net_core.proofs.Netlists.{refs_flat}
use Rattle.picked_run.proofs.Pushing.{flat_more}
use Rattle.picked_run.proofs.ports.push_wires.Goals as goal

pub loop-wire-preserved : goal.loop-wire-preserved
loop-wire-preserved c =
    let i = c.loop-wire.wire-index in
    let rs = c.args.wires.now in
    let pushed = c.in_ok-extend_from_slice.ensures.items ∙ ap (λ bs. c.loop-wire.bits.items ++ bs) c.as_slice.ensures in
    let before = ap (λ bs. c.loop-wire.bits.items ++ bs) (sym (refs_flat (drop i rs))) ∙ c.loop-wire.invariant in
    ap (λ bs. c.extend_from_slice.new.self.items ++ bs) (refs_flat (drop (i + 1) rs)) ∙ flat_more (λ r. r.now.bits) rs i c.wire-item.result c.loop-wire.bits.items c.extend_from_slice.new.self.items _ (omega arith) c.wire-item.is pushed before
