use Rattle.std.proofs.Common.{◌≡◌, ◌<◌, length, false, get_or, slice_index, slice_index_or, ap, sym, ◌∙◌, arith}
use Rattle.std.proofs.lemmas.List.{length-set}
use Rattle.std.proofs.lemmas.List.FromFn.{fill_by_all}
use Rattle.net_core.specs.declared.bits.Bit.TheVariants.{Zero as Low}
use Rattle.net_core.specs.Values.{bit_at}
use Rattle.ram_step.specs.Moments.{inputs_alone, moment_of, valuation}
use Rattle.sim_cells.specs.Choices.{taken}
use Rattle.sim_cells.specs.Registers.{reg_next_tri}
use Rattle.sim_cells.proofs.Filling.{put_more, put_above, bit_at_is}
use Rattle.sim_cells.proofs.Moving.{reg_next_same}
use Rattle.sim_cells.proofs.registers.step_register.Goals as goal

pub loop-place-preserved : goal.loop-place-preserved
loop-place-preserved c =
    let r = c.args.reg.now in
    let v = valuation c.args.values.now in
    let e = c.args.event.now in
    let old = c.args.kept.now in
    let kept = c.loop-place.kept in
    let p = c.loop-place.place in
    let inv = c.loop-place.invariant in
    let bit = c.take.result in
    let inside : p < length kept = omega (arith, inv.0) in
    let here : get_or kept p false ≡ bit_at old p = inv.2 p (omega arith) ∙ sym (bit_at_is old p) in
    let chosen : bit ≡ taken c.args.key.now p (reg_next_tri r v e old p) =
    c.take.ensures ∙ ap (taken c.args.key.now p) (c.next_tri-tri.ensures ∙ reg_next_same (inputs_alone e) r (moment_of e) v (λ k. get_or kept p false) (bit_at old) p (slice_index r.q p) (slice_index_or r.d p Low) here) in (
      length-set kept p bit ∙ inv.0,
      put_more (λ j. taken c.args.key.now j (reg_next_tri r v e old j)) kept p bit inside chosen inv.1,
      put_above old kept p bit inv.2,
    )

pub returns : goal.returns
returns c =
    let inv = c.loop-place.invariant in
    fill_by_all (λ k. taken c.args.key.now k (reg_next_tri c.args.reg.now (valuation c.args.values.now) c.args.event.now c.args.kept.now k)) c.loop-place.kept (length c.args.reg.now.q) false (inv.0 ∙ c.requires)
    (λ k h. inv.1 k (omega (arith, inv.0, c.requires)))
