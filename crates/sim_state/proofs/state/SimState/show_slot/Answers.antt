use Rattle.std.proofs.Common.{◌≡◌, Some, sym, ap, subst, ◌∙◌, arith}
use Rattle.std.specs.Prelude.{slice_get}
use Rattle.std.proofs.lemmas.Option.{same_Some}
use Rattle.net_core.specs.declared.rams.RamCell.{RamCell}
use Rattle.ram_step.specs.Moments.{valuation}
use Rattle.picked_run.specs.States.{SimLook}
use Rattle.sim_state.specs.Shows.{ShowsSlot}
use Rattle.sim_state.proofs.Listing.{element_of}
use Rattle.sim_state.proofs.state.SimState.show_slot.Goals as goal

pub show_ram-requires-clause-state : goal.show_ram-requires-clause-state
show_ram-requires-clause-state c =
    let cell = c.index-as_slice-index.result in
    let state = c.index-state.result.now in
    let same = ap (λ (s : SimLook). s.rams) c.self.view_is in
    let count = c.requires.state.rams.count in
    c.requires.state.rams.each c.args.index cell state
    (element_of c.as_slice.result.now c.args.«module».now.rams c.args.index cell c.as_slice.ensures c.requires.index c.index-as_slice-index.is)
    (element_of c.self.inside.rams.items c.args.self.now.rams c.args.index state same (omega (arith, count, c.requires.index)) c.index-state.ensures)

pub show_ram-requires-clause-slot : goal.show_ram-requires-clause-slot
show_ram-requires-clause-slot c =
    let cell = c.index-as_slice-index.result in
    c.requires.slot cell (element_of c.as_slice.result.now c.args.«module».now.rams c.args.index cell c.as_slice.ensures c.requires.index c.index-as_slice-index.is)

pub show_ram-requires-clause-room : goal.show_ram-requires-clause-room
show_ram-requires-clause-room c = λ p at.
    let cell = c.index-as_slice-index.result in
    c.requires.room cell p (element_of c.as_slice.result.now c.args.«module».now.rams c.args.index cell c.as_slice.ensures c.requires.index c.index-as_slice-index.is) at

pub returns-clause-bits : goal.returns-clause-bits
returns-clause-bits c = λ x a at_x at_a.
    let cell = c.index-as_slice-index.result in
    let state = c.index-state.result.now in
    let views = ap (λ (s : SimLook). s.rams) c.self.view_is in
    let count = c.requires.state.rams.count in
    let found : slice_get c.args.«module».now.rams c.args.index ≡ Some cell = element_of c.as_slice.result.now c.args.«module».now.rams c.args.index cell c.as_slice.ensures c.requires.index c.index-as_slice-index.is in
    let there : slice_get c.args.self.now.rams c.args.index ≡ Some state = element_of c.self.inside.rams.items c.args.self.now.rams c.args.index state views (omega (arith, count, c.requires.index)) c.index-state.ensures in
    let same_x : cell ≡ x = same_Some cell x (sym found ∙ at_x) in
    let same_a : state ≡ Some a = same_Some state (Some a) (sym there ∙ at_a) in
    subst (λ (z : RamCell). ShowsSlot a z (valuation c.args.values.now) c.args.key.now c.args.slot c.show_ram.new.out) same_x (c.show_ram.ensures.bits a same_a)
