use Rattle.std.proofs.Common.{◌≡◌, List, Bool, [], ◌*◌, ◌<◌, ◌≤◌, ◌^◌, ap, sym, subst, ◌∙◌, arith, rules, length, get_or}
use Rattle.std.specs.Prelude.{slice_get}
use Rattle.lib_core.specs.Rams.{last_width, last_words}
use Rattle.net_core.specs.Ram.{slots_of, slots_written}
use Rattle.row_store.specs.Rows.{bit_of}
use Rattle.ram_step.specs.Hits.{hit_bits}
use Rattle.ram_step.specs.Moments.{valuation}
use Rattle.ram_step.specs.Nexts.{AreHits, AreWords}
use Rattle.ram_step.specs.Steps.{AreRows, IsKept}
use Rattle.ram_step.specs.States.{RamLook, IsStateOf, kept_width, stepped}
use Rattle.ram_step.proofs.SlotsAt.{length-owners, length-slots_of}
use Rattle.ram_step.proofs.Stated.{slots_in, are_words, kept_at, step_words, step_kept, step_state, front}
use Rattle.ram_step.proofs.state.RamState.step.Goals as goal

pub new-ports-requires : goal.new-ports-requires
new-ports-requires g c =
    let i = c.self.inside in
    let n = c.self.invariant in
    let cell = c.args.cell.now in
    let a : RamLook = record { variant = i.variant; words = i.rows; kept = i.kept.items } in
    let st : IsStateOf a cell = subst (λ z. IsStateOf z cell) (sym c.self.view_is) c.requires in
    let owners = length-owners i.variant cell st.fits in
    let same = ap length n.4 in
    let few : g.row.LEVELS ≤ 21 = omega (arith, n.3.levels, n.3.abits, n.2) in
    (search rules, (search rules, (n.0, (n.1, (n.2, (n.3, (st.fits, (c.as_slice.ensures.value ∙ n.4, omega (arith, owners, same, n.5)))))))))

pub find_hits-requires : goal.find_hits-requires
find_hits-requires g c =
    let i = c.self.inside in
    let n = c.self.invariant in
    let cell = c.args.cell.now in
    let a : RamLook = record { variant = i.variant; words = i.rows; kept = i.kept.items } in
    let st : IsStateOf a cell = subst (λ z. IsStateOf z cell) (sym c.self.view_is) c.requires in
    let slots : c.new-ports.result ≡ slots_in a cell = λ j. record { variant = c.new-ports.ensures.variant j; all = c.new-ports.ensures.slots j } in
    let many : length i.hits.items ≡ length (slots_of i.variant cell) = n.6 ∙ ap length n.4 ∙ length-owners i.variant cell st.fits ∙ sym (length-slots_of i.variant cell st.fits) in
    let few : g.row.LIMBS < 2 ^ 26 = omega (arith, n.8) in
    (search rules, (search rules, (ap length c.as_mut_slice.ensures.value ∙ many ∙ ap (λ z. length z.all) (sym slots), (subst (λ z. last_width z.variant ≤ 64 * g.row.LIMBS) (sym slots) n.7, n.8))))

pub keep_all-requires : goal.keep_all-requires
keep_all-requires g c =
    let i = c.self.inside in
    let n = c.self.invariant in
    let cell = c.args.cell.now in
    let a : RamLook = record { variant = i.variant; words = i.rows; kept = i.kept.items } in
    let st : IsStateOf a cell = subst (λ z. IsStateOf z cell) (sym c.self.view_is) c.requires in
    let slots : c.new-ports.result ≡ slots_in a cell = λ j. record { variant = c.new-ports.ensures.variant j; all = c.new-ports.ensures.slots j } in
    let many : length i.hits.items ≡ length (slots_of i.variant cell) = n.6 ∙ ap length n.4 ∙ length-owners i.variant cell st.fits ∙ sym (length-slots_of i.variant cell st.fits) in
    let few : g.row.LIMBS < 2 ^ 26 = omega (arith, n.8) in
    let long : length c.find_hits.new.hits ≡ i.hits.len = c.find_hits.ensures.hits.count ∙ ap (λ z. length z.all) slots ∙ sym many ∙ sym (ap length c.as_mut_slice.ensures.value) ∙ c.as_mut_slice.ensures.len in
    let now = c.as_slice-2.ensures.value ∙ front i.hits.len c.find_hits.new.hits _ long in (
      search rules,
      (
        search rules,
        (
          search rules,
          (
            search rules,
            (
              ap length c.as_mut_slice-2.ensures.value ∙ st.kept ∙ ap (λ z. length z.all) (sym slots),
              (
                λ at s found. ap (λ (l : List (List Bool)). length (get_or l at [])) c.as_mut_slice-2.ensures.value ∙ kept_at a cell st at s (ap (λ z. slice_get z.all at) (sym slots) ∙ found) ∙ ap (λ z. kept_width z.variant s) (sym slots),
                (
                  subst (λ hs. AreHits c.new-ports.result (valuation c.args.values.now) c.args.event.now hs) (sym now) c.find_hits.ensures.hits,
                  (
                    subst (λ z. AreWords z.variant i.rows) (sym slots) (are_words a cell st),
                    (subst (λ z. last_width z.variant ≤ 64 * g.row.LIMBS) (sym slots) n.7, n.8),
                  ),
                ),
              ),
            ),
          ),
        ),
      ),
    )

pub write_all-requires : goal.write_all-requires
write_all-requires g c =
    let i = c.self.inside in
    let n = c.self.invariant in
    let cell = c.args.cell.now in
    let a : RamLook = record { variant = i.variant; words = i.rows; kept = i.kept.items } in
    let st : IsStateOf a cell = subst (λ z. IsStateOf z cell) (sym c.self.view_is) c.requires in
    let slots : c.new-ports.result ≡ slots_in a cell = λ j. record { variant = c.new-ports.ensures.variant j; all = c.new-ports.ensures.slots j } in
    let many : length i.hits.items ≡ length (slots_of i.variant cell) = n.6 ∙ ap length n.4 ∙ length-owners i.variant cell st.fits ∙ sym (length-slots_of i.variant cell st.fits) in
    let few : g.row.LIMBS < 2 ^ 26 = omega (arith, n.8) in
    let long : length c.find_hits.new.hits ≡ i.hits.len = c.find_hits.ensures.hits.count ∙ ap (λ z. length z.all) slots ∙ sym many ∙ sym (ap length c.as_mut_slice.ensures.value) ∙ c.as_mut_slice.ensures.len in
    let now = c.as_slice-3.ensures.value ∙ front i.hits.len c.find_hits.new.hits _ long in (
      search rules,
      (
        search rules,
        (
          search rules,
          (
            ap length now ∙ c.find_hits.ensures.hits.count,
            (
              subst (λ z. AreWords z.variant i.rows) (sym slots) (are_words a cell st),
              subst (λ hs. AreRows (last_words c.new-ports.result.variant) hs) (sym now) c.find_hits.ensures.rows,
            ),
          ),
        ),
      ),
    )

pub returns-clause-value : goal.returns-clause-value
returns-clause-value g c =
    let i = c.self.inside in
    let n = c.self.invariant in
    let cell = c.args.cell.now in
    let a : RamLook = record { variant = i.variant; words = i.rows; kept = i.kept.items } in
    let st : IsStateOf a cell = subst (λ z. IsStateOf z cell) (sym c.self.view_is) c.requires in
    let slots : c.new-ports.result ≡ slots_in a cell = λ j. record { variant = c.new-ports.ensures.variant j; all = c.new-ports.ensures.slots j } in
    let many : length i.hits.items ≡ length (slots_of i.variant cell) = n.6 ∙ ap length n.4 ∙ length-owners i.variant cell st.fits ∙ sym (length-slots_of i.variant cell st.fits) in
    let few : g.row.LIMBS < 2 ^ 26 = omega (arith, n.8) in
    let long : length c.find_hits.new.hits ≡ i.hits.len = c.find_hits.ensures.hits.count ∙ ap (λ z. length z.all) slots ∙ sym many ∙ sym (ap length c.as_mut_slice.ensures.value) ∙ c.as_mut_slice.ensures.len in
    let v = valuation c.args.values.now in
    let e = c.args.event.now in
    let key = c.args.picks.now in
    let now = c.as_slice-3.ensures.value ∙ front i.hits.len c.find_hits.new.hits _ long in
    let kept_now = front i.kept.len c.keep_all.new.kept _ (c.keep_all.ensures.count ∙ c.as_mut_slice-2.ensures.len) in
    let words = step_words a cell v e c.find_hits.new.hits c.write_all.new.rows
    (subst (λ z. AreHits z v e c.find_hits.new.hits) slots c.find_hits.ensures.hits)
    (subst (λ z. AreWords z.variant c.write_all.new.rows) slots c.write_all.ensures.words)
    (λ word k below within.
    c.write_all.ensures.bits word k (subst (λ z. word < last_words z.variant) (sym slots) below) (subst (λ z. k < last_width z.variant) (sym slots) within)
    ∙ ap (λ hs. slots_written c.new-ports.result.all (hit_bits hs word k) (bit_of i.rows word k)) now
    ∙ ap (λ z. slots_written z.all (hit_bits c.find_hits.new.hits word k) (bit_of i.rows word k)) slots) in
    let kept = step_kept a cell v e key c.keep_all.new.kept st (c.keep_all.ensures.count ∙ ap length c.as_mut_slice-2.ensures.value)
    (λ at s found. subst (λ (l : List (List Bool)). IsKept (slots_in a cell) v e i.rows key s at l c.keep_all.new.kept) c.as_mut_slice-2.ensures.value
    (subst (λ z. IsKept z v e i.rows key s at c.as_mut_slice-2.result.now c.keep_all.new.kept) slots (c.keep_all.ensures.bits at s (ap (λ z. slice_get z.all at) slots ∙ found)))) in
    let made : record { variant = i.variant; words = c.write_all.new.rows; kept = _ } ≡ stepped a cell v e key = λ j. record { variant = i.variant; words = words j; kept = (kept_now ∙ kept) j } in
    made ∙ ap (λ z. stepped z cell v e key) c.self.view_is

pub returns-clause-state : goal.returns-clause-state
returns-clause-state g c =
    let i = c.self.inside in
    let n = c.self.invariant in
    let cell = c.args.cell.now in
    let a : RamLook = record { variant = i.variant; words = i.rows; kept = i.kept.items } in
    let st : IsStateOf a cell = subst (λ z. IsStateOf z cell) (sym c.self.view_is) c.requires in
    let slots : c.new-ports.result ≡ slots_in a cell = λ j. record { variant = c.new-ports.ensures.variant j; all = c.new-ports.ensures.slots j } in
    let many : length i.hits.items ≡ length (slots_of i.variant cell) = n.6 ∙ ap length n.4 ∙ length-owners i.variant cell st.fits ∙ sym (length-slots_of i.variant cell st.fits) in
    let few : g.row.LIMBS < 2 ^ 26 = omega (arith, n.8) in
    let long : length c.find_hits.new.hits ≡ i.hits.len = c.find_hits.ensures.hits.count ∙ ap (λ z. length z.all) slots ∙ sym many ∙ sym (ap length c.as_mut_slice.ensures.value) ∙ c.as_mut_slice.ensures.len in
    let v = valuation c.args.values.now in
    let e = c.args.event.now in
    let key = c.args.picks.now in
    let kept_now = front i.kept.len c.keep_all.new.kept _ (c.keep_all.ensures.count ∙ c.as_mut_slice-2.ensures.len) in
    subst (λ (l : List (List Bool)). IsStateOf (record { variant = i.variant; words = c.write_all.new.rows; kept = l }) cell) (sym kept_now)
    (step_state a cell v e key c.write_all.new.rows c.keep_all.new.kept st
    (subst (λ z. AreWords z.variant c.write_all.new.rows) slots c.write_all.ensures.words)
    (c.keep_all.ensures.count ∙ ap length c.as_mut_slice-2.ensures.value)
    (λ at s found. subst (λ (l : List (List Bool)). IsKept (slots_in a cell) v e i.rows key s at l c.keep_all.new.kept) c.as_mut_slice-2.ensures.value
    (subst (λ z. IsKept z v e i.rows key s at c.as_mut_slice-2.result.now c.keep_all.new.kept) slots (c.keep_all.ensures.bits at s (ap (λ z. slice_get z.all at) slots ∙ found)))))
