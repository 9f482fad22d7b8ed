use Rattle.std.proofs.Common.{◌≡◌, ◌+◌, ◌*◌, ◌%◌, ◌<◌, ◌≤◌, length, get_or, sym, ◌∙◌, arith, rules}
use Rattle.lib_core.specs.Rams.{width_at}
use Rattle.net_core.proofs.Numbers.{width_at_is}
use Rattle.geom_core.proofs.Lifting.{place_above_step, next_bit, next_word}
use Rattle.geom_core.proofs.geometry.Geometry.lift.Goals as goal

pub overflow_add-place : goal.overflow_add-place
overflow_add-place g c =
    let widths = c.args.self.now.widths in
    let level = c.loop-level.level in
    let inside : level < length widths = search rules in
    let width : width_at widths level ≡ get_or widths level 0 = width_at_is widths level in
    let few = c.args.self.now.growing.few_bits level inside in
    let next = next_bit c.loop-level.place.word (width_at widths level) c.loop-level.place.bit (2 * width_at widths level) c.loop-level.invariant.1 (omega arith) in
    rw (← width_at_is widths level) (omega (arith, few, next))

pub loop-level-preserved : goal.loop-level-preserved
loop-level-preserved g c =
    let widths = c.args.self.now.widths in
    let level = c.loop-level.level in
    let inside : level + 1 < length widths = search rules in
    let doubled = c.args.self.now.growing.doubled level inside in
    let step = place_above_step widths c.args.high level c.loop-level.place.word c.loop-level.place.bit c.loop-level-test.true in
    rw (← width_at_is widths level) (
      sym step ∙ c.loop-level.invariant.0,
      next_bit c.loop-level.place.word (width_at widths level) c.loop-level.place.bit (width_at widths (level + 1)) c.loop-level.invariant.1 doubled,
      rw c.loop-level.invariant.2 (next_word c.args.word c.args.low level (omega arith)),
    )
