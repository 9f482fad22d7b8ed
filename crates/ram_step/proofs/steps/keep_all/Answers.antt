use Rattle.std.proofs.Common.{◌≡◌, ℕ, ◌<◌, List, [], Bool, Some, length, get_or, ap, sym, ◌∙◌, arith}
use Rattle.std.specs.Prelude.{slice_get}
use Rattle.std.proofs.lemmas.List.{length-set}
use Rattle.std.proofs.lemmas.Option.{get_or_from_slice_get}
use Rattle.net_core.specs.Values.{bit_at}
use Rattle.net_core.specs.Ram.{Slot}
use Rattle.net_core.proofs.Basics.{get_below}
use Rattle.ram_step.specs.Moments.{valuation}
use Rattle.ram_step.specs.Picks.{resolved}
use Rattle.ram_step.specs.States.{kept_by}
use Rattle.ram_step.specs.Nexts.{next_of}
use Rattle.ram_step.proofs.Gathering.{element}
use Rattle.ram_step.proofs.Stepping.{set_more, set_above}
use Rattle.ram_step.proofs.steps.keep_all.Goals as goal

pub loop-number-preserved : goal.loop-number-preserved
loop-number-preserved g c =
    let n = c.loop-number.number in
    let kept = c.loop-number.kept in
    let old = c.args.kept.now in
    let inv = c.loop-number.invariant in
    let all = c.args.ports.now.all in
    let x = c.args.ports.now.variant in
    let v = valuation c.args.values.now in
    let P : ℕ → List Bool → Type 0 = λ i z. (s : Slot) → slice_get all i ≡ Some s → z ≡ kept_by x s (λ k. resolved c.args.key s.number k (next_of c.args.ports.now v c.args.event.now c.args.rows.now s (bit_at (get_or old i [])) k)) in
    let inside : n < length kept = omega (arith, inv.0, c.requires.count, c.len-number-end.ensures) in
    let here : c.index-kept-number.result ≡ get_or old n [] = sym (get_or_from_slice_get kept n c.index-kept-number.result [] (element kept n c.index-kept-number.result inside c.index-kept-number.is)) ∙ inv.2 n (omega arith) in
    let made : (s : Slot) → slice_get all n ≡ Some s → c.keep_slot.new.kept ≡ kept_by x s (λ k. resolved c.args.key s.number k (next_of c.args.ports.now v c.args.event.now c.args.rows.now s (bit_at (get_or kept n c.index-kept-number.result)) k)) = c.keep_slot.ensures in (
      length-set kept n c.keep_slot.new.kept ∙ inv.0,
      λ i s h found. set_more P kept n c.keep_slot.new.kept [] inside
          (λ t at. made t at ∙ ap (λ (z : List Bool). kept_by x t (λ k. resolved c.args.key t.number k (next_of c.args.ports.now v c.args.event.now c.args.rows.now t (bit_at z) k))) (sym c.index-kept-number.is ∙ here))
          (λ j below t at. inv.1 j t below at) i h s found,
      set_above old kept n c.keep_slot.new.kept [] inv.2,
    )

pub returns-clause-bits : goal.returns-clause-bits
returns-clause-bits g c = λ i s found.
    let below = get_below c.args.ports.now.all i s found in
    c.loop-number.invariant.1 i s (omega (arith, below, c.len-number-end.ensures)) found
