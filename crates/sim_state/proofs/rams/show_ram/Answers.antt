use Rattle.std.proofs.Common.{sym, subst, ◌∙◌, arith}
use Rattle.net_core.proofs.Basics.{get_within}
use Rattle.std.proofs.lemmas.Option.{same_Some}
use Rattle.ram_step.specs.Moments.{valuation}
use Rattle.ram_step.specs.States.{RamLook}
use Rattle.sim_state.specs.Shows.{ShowsSlot}
use Rattle.sim_state.proofs.Widths.{slot_use, few_outputs}
use Rattle.sim_state.proofs.rams.show_ram.Goals as goal

pub show-requires-clause-state : goal.show-requires-clause-state
show-requires-clause-state c = c.requires.state.state c.in-Some.ram c.in-Some.is

pub show-requires-clause-few : goal.show-requires-clause-few
show-requires-clause-few c =
    let a = c.in-Some.ram in
    let fit = (c.requires.state.state a c.in-Some.is).fits in
    let p = get_within c.args.cell.now.slots c.args.slot c.requires.slot in
    let few = few_outputs a.variant c.args.cell.now c.args.slot p.0 fit (c.requires.state.sized a c.in-Some.is) p.1 in
    let room = c.requires.room p.0 p.1 in
    omega (arith, few, room)

pub show-requires-clause-room : goal.show-requires-clause-room
show-requires-clause-room c = λ s found.
    let a = c.in-Some.ram in
    let fit = (c.requires.state.state a c.in-Some.is).fits in
    let w = slot_use a.variant c.args.cell.now c.args.slot s fit found in
    let room = c.requires.room s.pins w.0 in
    let wide = w.1 in
    omega (arith, room, wide)

pub returns-in-None-clause-bits : goal.returns-in-None-clause-bits
returns-in-None-clause-bits c = λ a e. absurd (let h = c.in-None.is in cc)

pub returns-in-Some-clause-bits : goal.returns-in-Some-clause-bits
returns-in-Some-clause-bits c = λ a e.
    subst (λ (z : RamLook). ShowsSlot z c.args.cell.now (valuation c.args.values.now) c.args.key.now c.args.slot c.show.new.out) (same_Some c.in-Some.ram a (sym c.in-Some.is ∙ e)) c.show.ensures.bits
