use Rattle.std.proofs.Common.{◌≡◌, List, Bool, [], ◌<◌, ◌≤◌, ◌^◌, Some, ap, sym, subst, ◌∙◌, arith, rules, length, get_or}
use Rattle.std.specs.Prelude.{slice_get}
use Rattle.std.proofs.lemmas.Option.{same_Some}
use Rattle.net_core.specs.Ram.{slots_of, slot_width}
use Rattle.ram_step.specs.Ports.{slot_of}
use Rattle.ram_step.specs.Moments.{valuation}
use Rattle.ram_step.specs.Picks.{resolved}
use Rattle.ram_step.specs.Nexts.{AreWords}
use Rattle.ram_step.specs.States.{RamLook, IsStateOf, IsPlaceOf, kept_width, shown_tri}
use Rattle.ram_step.proofs.SlotsAt.{length-owners, length-slots_of, number_is}
use Rattle.ram_step.proofs.Stated.{slots_in, are_words, kept_at}
use Rattle.ram_step.proofs.state.RamState.output.Goals as goal

pub new-ports-requires : goal.new-ports-requires
new-ports-requires g c =
    let i = c.self.inside in
    let n = c.self.invariant in
    let cell = c.args.cell.now in
    let a : RamLook = record { variant = i.variant; words = i.rows; kept = i.kept.items } in
    let st : IsStateOf a cell = subst (λ z. IsStateOf z cell) (sym c.self.view_is) c.requires.state in
    let owners = length-owners i.variant cell st.fits in
    let same = ap length n.4 in
    let few : g.row.LEVELS ≤ 21 = omega (arith, n.3.levels, n.3.abits, n.2) in
    (search rules, (search rules, (n.0, (n.1, (n.2, (n.3, (st.fits, (c.as_slice.ensures.value ∙ n.4, omega (arith, owners, same, n.5)))))))))

pub get-port-requires : goal.get-port-requires
get-port-requires g c =
    let i = c.self.inside in
    let n = c.self.invariant in
    let cell = c.args.cell.now in
    let a : RamLook = record { variant = i.variant; words = i.rows; kept = i.kept.items } in
    let st : IsStateOf a cell = subst (λ z. IsStateOf z cell) (sym c.self.view_is) c.requires.state in
    let slots : c.new-ports.result ≡ slots_in a cell = λ j. record { variant = c.new-ports.ensures.variant j; all = c.new-ports.ensures.slots j } in
    let many = ap (λ z. length z.all) slots ∙ length-slots_of i.variant cell st.fits in
    (search rules, omega (arith, many, c.requires.slot))

pub shown-tri-requires : goal.shown-tri-requires
shown-tri-requires g c =
    let i = c.self.inside in
    let n = c.self.invariant in
    let cell = c.args.cell.now in
    let a : RamLook = record { variant = i.variant; words = i.rows; kept = i.kept.items } in
    let st : IsStateOf a cell = subst (λ z. IsStateOf z cell) (sym c.self.view_is) c.requires.state in
    let slots : c.new-ports.result ≡ slots_in a cell = λ j. record { variant = c.new-ports.ensures.variant j; all = c.new-ports.ensures.slots j } in
    let few : g.row.LIMBS < 2 ^ 26 = omega (arith, n.8) in
    let own = slot_of c.get-port.result in
    let found : slice_get (slots_of i.variant cell) c.args.slot ≡ Some own = ap (λ z. slice_get z.all c.args.slot) (sym slots) ∙ c.get-port.ensures.found in
    let many = length-slots_of i.variant cell st.fits in
    let long = ap length c.as_slice-2.ensures.value ∙ st.kept in (
      search rules,
      (
        search rules,
        (
          search rules,
          (
            c.get-port.ensures.fits,
            (
              subst (λ z. AreWords z.variant i.rows) (sym slots) (are_words a cell st),
              (
                ap (λ (l : List (List Bool)). length (get_or l c.get-port.result.number [])) c.as_slice-2.ensures.value ∙ ap (λ m. length (get_or i.kept.items m [])) c.get-port.ensures.number ∙ kept_at a cell st c.args.slot own found ∙ ap (λ z. kept_width z.variant own) (sym slots),
                (
                  omega (arith, long, many, c.requires.slot, c.get-port.ensures.number),
                  subst (λ z. c.args.bit < slot_width z.variant own) (sym slots) (subst (λ z. IsPlaceOf z cell c.args.slot c.args.bit) (sym c.self.view_is) c.requires.bit own found),
                ),
              ),
            ),
          ),
        ),
      ),
    )

pub returns : goal.returns
returns g c = λ s at.
    let i = c.self.inside in
    let cell = c.args.cell.now in
    let v = valuation c.args.values.now in
    let key = c.args.picks.now in
    let k = c.args.bit in
    let a : RamLook = record { variant = i.variant; words = i.rows; kept = i.kept.items } in
    let st : IsStateOf a cell = subst (λ z. IsStateOf z cell) (sym c.self.view_is) c.requires.state in
    let slots : c.new-ports.result ≡ slots_in a cell = λ j. record { variant = c.new-ports.ensures.variant j; all = c.new-ports.ensures.slots j } in
    let own = slot_of c.get-port.result in
    let here : slice_get (slots_of i.variant cell) c.args.slot ≡ Some s = subst (λ z. slice_get (slots_of z.variant cell) c.args.slot ≡ Some s) (sym c.self.view_is) at in
    let same : own ≡ s = same_Some own s (sym (ap (λ z. slice_get z.all c.args.slot) (sym slots) ∙ c.get-port.ensures.found) ∙ here) in
    let number : s.number ≡ c.args.slot = number_is i.variant cell c.args.slot s st.fits here in
    let tri = c.shown-tri.ensures
    ∙ ap (λ z. shown_tri (record { variant = z; words = i.rows; kept = c.as_slice-2.result.now }) v own k) c.new-ports.ensures.variant
    ∙ ap (λ (l : List (List Bool)). shown_tri (record { variant = i.variant; words = i.rows; kept = l }) v own k) c.as_slice-2.ensures.value
    ∙ ap (λ z. shown_tri a v z k) same
    ∙ ap (λ z. shown_tri z v s k) c.self.view_is in
    c.resolve.ensures ∙ ap (resolved key c.args.slot k) tri ∙ ap (λ m. resolved key m k (shown_tri c.args.self.now v s k)) (sym number)
