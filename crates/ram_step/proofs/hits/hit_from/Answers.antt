use Rattle.std.proofs.Common.{◌≡◌, ℕ, ◌+◌, ◌-◌, ◌/◌, ◌&&◌, ◌||◌, nat_eq, ap, ◌∙◌, arith, refl}
use Rattle.lib_core.specs.Rams.{lane_width}
use Rattle.net_core.specs.Values.{bit_at, values_of}
use Rattle.net_core.specs.Ram.{lane_enabled, slot_width}
use Rattle.row_store.specs.Limbs.{bit_in}
use Rattle.row_store.proofs.Tables.{no_bit}
use Rattle.ram_step.specs.Ports.{slot_of}
use Rattle.ram_step.specs.Hits.{lane_bit}
use Rattle.ram_step.specs.Moments.{valuation}
use Rattle.ram_step.proofs.HitBits.{no_lanes, no_values, lane_more, value_more}
use Rattle.ram_step.proofs.hits.hit_from.Goals as goal

pub loop-place-init : goal.loop-place-init
loop-place-init g c = (λ k. no_lanes g.row.LIMBS c.args.from k _, λ k. no_values g.row.LIMBS k _ _ (no_bit g.row.LIMBS k))

pub loop-place-preserved : goal.loop-place-preserved
loop-place-preserved g c =
    let x = c.args.ports.now.variant in
    let v = valuation c.args.values.now in
    let s = slot_of c.args.port.now in
    let p = c.loop-place.place in
    let from = c.args.from in
    let bits = values_of v c.args.port.now.pins.now.value in
    let place = λ (k : ℕ) (same : k ≡ from + p). let z : p ≡ k - from = omega arith in z in
    let enabled = λ (k : ℕ) (same : k ≡ from + p).
    c.lane_enabled-enabled.ensures ∙ ap (lane_enabled v s) (c.lane.ensures ∙ ap (λ w. p / lane_width x.byte w) c.width-width.ensures ∙ ap (λ n. n / lane_width x.byte (slot_width x s)) (place k same)) in (
      λ k. lane_more from p k _ _ c.lane_enabled-enabled.result _ (c.loop-place.invariant.0 k) (enabled k) (c.mark.ensures k),
      λ k. value_more from p k _ _ _ _ c.lane_enabled-enabled.result (bit_at bits p) _ (c.loop-place.invariant.1 k) (λ same. ap (bit_at bits) (place k same)) (c.mark.ensures k)
          (c.mark-in-loop-place.ensures k ∙ ap (λ t. (nat_eq k (from + p) && t) || bit_in c.loop-place.value k) c.enabled_bit-bit.ensures),
    )

pub returns : goal.returns
returns g c =
    let x = c.args.ports.now.variant in
    let v = valuation c.args.values.now in
    let s = slot_of c.args.port.now in
    let end : c.loop-place.place ≡ slot_width x s = omega (arith, c.width-width.ensures) in
    record {
      row = refl;
      mask = λ k. c.loop-place.invariant.0 k ∙ ap (λ n. lane_bit x v s c.args.from n k) end;
      value = c.loop-place.invariant.1;
    }
