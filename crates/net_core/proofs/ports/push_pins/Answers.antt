use Rattle.std.proofs.Common.{◌≡◌, ◌++◌, ap, ◌∙◌, sym, drop, ◌+◌, arith}
use Rattle.net_core.specs.Ports.{nets_of}
use Rattle.net_core.proofs.Netlists.{flat_more, pins_flat, driven, driven_pushed, idle_left}
use Rattle.net_core.proofs.ports.push_pins.Goals as goal
use Rattle.net_core.proofs.ports.push_pins.Goals.{then-pin+in_ok-push_nets, else-pin}

pub loop-pin-preserved : goal.loop-pin-preserved
loop-pin-preserved c =
    let i = c.loop-pin.pin-index in
    let ps = c.args.pins.now in
    let item = c.pin-item.result in
    let done = c.loop-pin.nets.items in
    let pushed : c.if-pin.nets.items ≡ done ++ nets_of (driven item) = elim c.if-pin.branch [
      | then-pin+in_ok-push_nets w ↦ driven_pushed item w.as_slice.result.now done c.if-pin.nets.items w.if-pin.true w.as_slice.ensures (ap (λ v. v.items) w.nets-is ∙ w.in_ok-push_nets.ensures)
      | else-pin w ↦ idle_left item done c.if-pin.nets.items w.if-pin.false (ap (λ v. v.items) w.nets-is)
    ] in
    let before = ap (λ bs. done ++ nets_of bs) (sym (pins_flat (drop i ps))) ∙ c.loop-pin.invariant in
    ap (λ bs. c.if-pin.nets.items ++ nets_of bs) (pins_flat (drop (i + 1) ps)) ∙ flat_more driven ps i item done c.if-pin.nets.items _ (omega arith) c.pin-item.is pushed before
