use Rattle.std.proofs.Common.{◌≡◌, ◌+◌, ◌-◌, ◌/◌, ◌||◌, ap, sym, ◌∙◌, arith}
use Rattle.std.specs.List.{list_any, range_with_len}
use Rattle.lib_core.specs.Rams.{lane_width}
use Rattle.net_core.specs.Ram.{lane_enabled, slot_width}
use Rattle.ram_step.specs.Ports.{slot_of}
use Rattle.ram_step.specs.Moments.{valuation}
use Rattle.ram_step.specs.Nexts.{lane_at}
use Rattle.ram_step.proofs.Keeping.{any_step, any_end}
use Rattle.ram_step.proofs.nexts.has_lane.Goals as goal

pub loop-place-init : goal.loop-place-init
loop-place-init g c =
    let test = lane_at c.args.ports.now.variant (valuation c.args.values.now) (slot_of c.args.port.now) in
    let z : c.width-width.result - 0 ≡ slot_width c.args.ports.now.variant (slot_of c.args.port.now) = omega (arith, c.width-width.ensures) in
    ap (λ n. list_any test (range_with_len 0 n)) z

pub loop-place-preserved : goal.loop-place-preserved
loop-place-preserved g c =
    let x = c.args.ports.now.variant in
    let v = valuation c.args.values.now in
    let s = slot_of c.args.port.now in
    let place = c.loop-place.place in
    let width = c.width-width.result in
    let test = lane_at x v s in
    let here = c.lane_enabled.ensures ∙ ap (lane_enabled v s) (c.lane.ensures ∙ ap (λ w. place / lane_width x.byte w) c.width-width.ensures) in
    sym (any_step test place width c.loop-place-test.true ∙ ap (λ t. t || list_any test (range_with_len (place + 1) (width - (place + 1)))) (sym here ∙ c.if-lane_enabled.false)) ∙ c.loop-place.invariant

pub returns-then-lane_enabled : goal.returns-then-lane_enabled
returns-then-lane_enabled g c =
    let x = c.args.ports.now.variant in
    let v = valuation c.args.values.now in
    let s = slot_of c.args.port.now in
    let place = c.loop-place.place in
    let width = c.width-width.result in
    let test = lane_at x v s in
    let here = c.lane_enabled.ensures ∙ ap (lane_enabled v s) (c.lane.ensures ∙ ap (λ w. place / lane_width x.byte w) c.width-width.ensures) in
    sym (any_step test place width c.loop-place-test.true ∙ ap (λ t. t || list_any test (range_with_len (place + 1) (width - (place + 1)))) (sym here ∙ c.if-lane_enabled.true)) ∙ c.loop-place.invariant

pub returns : goal.returns
returns g c =
    sym (any_end (lane_at c.args.ports.now.variant (valuation c.args.values.now) (slot_of c.args.port.now)) c.loop-place.place c.width-width.result c.loop-place-test.false) ∙ c.loop-place.invariant
