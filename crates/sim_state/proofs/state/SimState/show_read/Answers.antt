use Rattle.std.proofs.Common.{◌≡◌, Some, sym, ap, subst, ◌∙◌, arith}
use Rattle.std.specs.Prelude.{slice_get}
use Rattle.net_core.specs.declared.mems.Mem.{Mem}
use Rattle.net_core.proofs.Basics.{get_within}
use Rattle.std.proofs.lemmas.Option.{same_Some}
use Rattle.ram_step.specs.Moments.{valuation}
use Rattle.sim_cells.specs.Memories.{MemLook, read_shown}
use Rattle.picked_run.specs.States.{SimLook}
use Rattle.sim_state.proofs.Listing.{element_of}
use Rattle.sim_state.proofs.Widths.{read_width}
use Rattle.sim_state.proofs.state.SimState.show_read.Goals as goal

pub show-requires-clause-fits : goal.show-requires-clause-fits
show-requires-clause-fits c =
    let mem = c.index-as_slice-index.result in
    c.requires.state.fit c.args.index mem (element_of c.as_slice.result.now c.args.«module».now.mems c.args.index mem c.as_slice.ensures c.requires.index c.index-as_slice-index.is)

pub show-requires-clause-state : goal.show-requires-clause-state
show-requires-clause-state c =
    let mem = c.index-as_slice-index.result in
    let state = c.index-state.result.now in
    let same = ap (λ (s : SimLook). s.mems) c.self.view_is in
    let count = c.requires.state.mems.count in
    c.requires.state.mems.each c.args.index mem state
    (element_of c.as_slice.result.now c.args.«module».now.mems c.args.index mem c.as_slice.ensures c.requires.index c.index-as_slice-index.is)
    (element_of c.self.inside.mems.items c.args.self.now.mems c.args.index state same (omega (arith, count, c.requires.index)) c.index-state.ensures)

pub show-requires-clause-port : goal.show-requires-clause-port
show-requires-clause-port c =
    let mem = c.index-as_slice-index.result in
    c.requires.port mem (element_of c.as_slice.result.now c.args.«module».now.mems c.args.index mem c.as_slice.ensures c.requires.index c.index-as_slice-index.is)

pub show-requires-clause-out : goal.show-requires-clause-out
show-requires-clause-out c =
    let mem = c.index-as_slice-index.result in
    let found : slice_get c.args.«module».now.mems c.args.index ≡ Some mem = element_of c.as_slice.result.now c.args.«module».now.mems c.args.index mem c.as_slice.ensures c.requires.index c.index-as_slice-index.is in
    let r = get_within mem.reads c.args.port (c.requires.port mem found) in
    let few = read_width mem (c.requires.state.fit c.args.index mem found) c.args.port r.0 r.1 in
    let room = c.requires.room mem r.0 found r.1 in
    omega (arith, few, room)

pub returns-clause-bits : goal.returns-clause-bits
returns-clause-bits c = λ x a r at_x at_a at_r k h.
    let mem = c.index-as_slice-index.result in
    let state = c.index-state.result.now in
    let v = valuation c.args.values.now in
    let key = c.args.key.now in
    let views = ap (λ (s : SimLook). s.mems) c.self.view_is in
    let count = c.requires.state.mems.count in
    let found : slice_get c.args.«module».now.mems c.args.index ≡ Some mem = element_of c.as_slice.result.now c.args.«module».now.mems c.args.index mem c.as_slice.ensures c.requires.index c.index-as_slice-index.is in
    let there : slice_get c.args.self.now.mems c.args.index ≡ Some state = element_of c.self.inside.mems.items c.args.self.now.mems c.args.index state views (omega (arith, count, c.requires.index)) c.index-state.ensures in
    let same_x : mem ≡ x = same_Some mem x (sym found ∙ at_x) in
    let same_a : state ≡ a = same_Some state a (sym there ∙ at_a) in
    c.show.ensures.bits r (subst (λ (z : Mem). slice_get z.reads c.args.port ≡ Some r) (sym same_x) at_r) k h
    ∙ ap (λ (z : Mem). read_shown state z v key c.args.port r k) same_x
    ∙ ap (λ (z : MemLook). read_shown z x v key c.args.port r k) same_a
