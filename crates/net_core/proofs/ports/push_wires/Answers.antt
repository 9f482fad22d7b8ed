use Rattle.std.proofs.Common.{◌++◌, ap, ◌∙◌, sym, drop, ◌+◌, arith}
use Rattle.net_core.specs.Ports.{nets_of}
use Rattle.net_core.proofs.Netlists.{flat_more, refs_flat}
use Rattle.net_core.proofs.ports.push_wires.Goals as goal

pub loop-wire-preserved : goal.loop-wire-preserved
loop-wire-preserved c =
    let i = c.loop-wire.wire-index in
    let rs = c.args.wires.now in
    let pushed = c.in_ok-push_nets.ensures ∙ ap (λ bs. c.loop-wire.nets.items ++ nets_of bs) c.as_slice.ensures in
    let before = ap (λ bs. c.loop-wire.nets.items ++ nets_of bs) (sym (refs_flat (drop i rs))) ∙ c.loop-wire.invariant in
    ap (λ bs. c.push_nets.new.nets.items ++ nets_of bs) (refs_flat (drop (i + 1) rs)) ∙ flat_more (λ r. r.now.bits) rs i c.wire-item.result c.loop-wire.nets.items c.push_nets.new.nets.items _ (omega arith) c.wire-item.is pushed before
