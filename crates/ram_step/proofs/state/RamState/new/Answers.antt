use Rattle.std.proofs.Common.{◌≡◌, ◌*◌, ◌≤◌, map, ap, sym, subst, ◌∙◌, arith, length}
use Rattle.lib_core.specs.Rams.{last_width}
use Rattle.geom_core.specs.Places.{IsSized}
use Rattle.ram_step.specs.Owners.{owners_of}
use Rattle.ram_step.specs.States.{RamLook, IsStateOf, start_of, start_kept}
use Rattle.ram_step.proofs.SlotsAt.{length-owners}
use Rattle.ram_step.proofs.Stated.{start_is_state}
use Rattle.ram_step.proofs.state.RamState.new.Goals as goal

pub invariant_of-result : goal.invariant_of-result
invariant_of-result g c =
    let x = c.args.variant.now in
    let v = c.in_ok-variant.ensures in
    let owners = c.in_ok-owners.ensures ∙ ap owners_of c.as_slice.ensures in
    let count = ap length owners ∙ length-owners x c.args.cell.now c.requires.fits in (
      c.new-geometry.ensures.widths ∙ ap (λ z. z.widths) (sym v),
      c.new-geometry.ensures.abits ∙ ap (λ z. z.abits) (sym v),
      ap (λ z. length z.widths) v ∙ c.requires.levels,
      subst (λ z. IsSized z) (sym v) c.requires.sized,
      owners ∙ ap (λ z. owners_of z.groups) (sym v),
      omega (arith, count, c.requires.few_slots),
      c.in_ok-hits.ensures ∙ c.len.ensures ∙ sym c.as_slice-2.ensures.len ∙ ap length c.as_slice-2.ensures.value,
      subst (λ z. last_width z ≤ 64 * g.row.LIMBS) (sym v) c.requires.few_bits,
      c.requires.few_limbs,
    )

pub returns-clause-state : goal.returns-clause-state
returns-clause-state g c =
    let x = c.args.variant.now in
    let cell = c.args.cell.now in
    let key = c.args.picks.now in
    let kept = c.in_ok-kept.ensures ∙ ap (λ z. map (start_kept z key) c.new-ports.result.all) c.new-ports.ensures.variant ∙ ap (map (start_kept x key)) c.new-ports.ensures.slots in
    let made : record { variant = c.in_ok-variant.variant; words = c.in_ok-rows.rows; kept = c.in_ok-kept.kept.items } ≡ start_of x cell key = λ j. record { variant = c.in_ok-variant.ensures j; words = c.in_ok-rows.ensures j; kept = kept j } in
    subst (λ (z : RamLook). IsStateOf z cell) (sym made) (start_is_state x cell key c.requires.fits)
