use Rattle.std.proofs.Common.{◌≡◌, ℕ, ◌<◌, Option, Some, None, length, ap, sym, subst, ◌∙◌, arith}
use Rattle.std.specs.Prelude.{slice_get}
use Rattle.std.proofs.lemmas.List.{length-set}
use Rattle.std.proofs.lemmas.Option.{same_Some, get_or_from_slice_get}
use Rattle.lib_core.specs.Rams.{last_words}
use Rattle.net_core.specs.Ram.{Slot, slot_hit}
use Rattle.net_core.proofs.Basics.{get_below}
use Rattle.ram_step.specs.declared.hits.Hit.{Hit}
use Rattle.ram_step.specs.Hits.{hit_bit, InRow}
use Rattle.ram_step.specs.Moments.{inputs_alone, moment_of, valuation}
use Rattle.ram_step.proofs.Stepping.{set_more, hits_listed}
use Rattle.ram_step.proofs.steps.find_hits.Goals as goal

pub loop-number-preserved : goal.loop-number-preserved
loop-number-preserved g c =
    let n = c.loop-number.number in
    let hits = c.loop-number.hits in
    let inv = c.loop-number.invariant in
    let all = c.args.ports.now.all in
    let x = c.args.ports.now.variant in
    let e = c.args.event.now in
    let v = valuation c.args.values.now in
    let P : ℕ → Option (Hit g.row.LIMBS) → Type 0 = λ i h. (s : Slot) → slice_get all i ≡ Some s → (word k : ℕ) → hit_bit word k h ≡ slot_hit (inputs_alone e) x (moment_of e) v word k s in
    let inside : n < length hits = omega (arith, inv.0, c.len-number-end.ensures) in (
      length-set hits n c.hit_of.result ∙ inv.0,
      λ i s h found. set_more P hits n c.hit_of.result None inside (λ t at word k. c.hit_of.ensures.bits word k ∙ ap (λ z. slot_hit (inputs_alone e) x (moment_of e) v word k z) (same_Some _ _ (sym c.get-port.ensures.found ∙ at))) (λ j below t at. inv.1 j t below at) i h s found,
      set_more (λ i h. InRow (last_words x) h) hits n c.hit_of.result None inside c.hit_of.ensures.row inv.2,
    )

pub returns-clause-hits : goal.returns-clause-hits
returns-clause-hits g c =
    let inv = c.loop-number.invariant in
    let e = c.args.event.now in
    record {
      count = inv.0;
      bits = λ word k. hits_listed (inputs_alone e) c.args.ports.now.variant (moment_of e) (valuation c.args.values.now) word k c.args.ports.now.all c.loop-number.hits inv.0
          (λ i s found. let below = get_below c.args.ports.now.all i s found in inv.1 i s (omega (arith, below, c.len-number-end.ensures)) found word k);
    }

pub returns-clause-rows : goal.returns-clause-rows
returns-clause-rows g c = λ i h found.
    let inv = c.loop-number.invariant in
    let below = get_below c.loop-number.hits i h found in
    subst (InRow (last_words c.args.ports.now.variant)) (get_or_from_slice_get c.loop-number.hits i h None found) (inv.2 i (omega (arith, below, inv.0, c.len-number-end.ensures)))
