use Rattle.std.proofs.Common.{suc, arith, refl, ap, ◌∙◌}
use Rattle.trace_text.specs.Lengths.{capped}
use Rattle.trace_text.proofs.Digits.{sum_first, sum_next, sum_all, power_more}
use Rattle.trace_text.proofs.length.digits_below.Goals as goal

pub loop-power-init : goal.loop-power-init
loop-power-init c = record { low = omega arith; so_far = (0, (refl, omega (arith, sum_first c.args.limit))) }

pub loop-power-preserved : goal.loop-power-preserved
loop-power-preserved c =
    let (k, (power, digits)) = c.loop-power.invariant.so_far in
    record {
      low = omega arith;
      so_far = (suc k, (omega (arith, power, power_more k), omega (arith, digits, sum_next k c.args.limit, power, c.saturating_add-digits.ensures)));
    }

pub returns : goal.returns
returns c =
    let (k, (power, digits)) = c.loop-power.invariant.so_far in
    digits ∙ ap capped (sum_all k c.args.limit (omega (arith, power)) (omega arith))
