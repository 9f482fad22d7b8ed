use Rattle.std.proofs.Common.{ℕ, false, map, length, ap, ◌∙◌, arith}
use Rattle.std.specs.List.{range_with_len}
use Rattle.std.proofs.lemmas.List.FromFn.{fill_by_all, length-map-range_with_len}
use Rattle.lib_core.specs.Rams.{filled}
use Rattle.ram_step.specs.Picks.{resolved, start_key}
use Rattle.ram_step.proofs.starts.start_bits.Goals as goal

pub loop-place-init : goal.loop-place-init
loop-place-init g c = (ap length c.new-bits.ensures ∙ length-map-range_with_len (λ k. false) 0 c.kept_width-width.result, λ k h. absurd (omega arith))

pub returns : goal.returns
returns g c =
    let f = λ (k : ℕ). resolved (start_key c.args.key) c.args.port.now.number k (filled c.args.port.now.kind.now.start c.args.port.now.pins.now.init_value k) in
    fill_by_all f c.loop-place.bits c.kept_width-width.result false c.loop-place.invariant.0 (λ k h. c.loop-place.invariant.1 k (omega arith))
    ∙ ap (λ n. map f (range_with_len 0 n)) c.kept_width-width.ensures.value
