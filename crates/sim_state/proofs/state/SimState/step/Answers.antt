use Rattle.std.proofs.Common.{sym, ap, subst, ◌∙◌}
use Rattle.net_core.specs.Valid.{Each, MemFits}
use Rattle.ram_step.specs.Moments.{valuation}
use Rattle.sim_cells.specs.KeptBits.{bit_lists}
use Rattle.picked_run.specs.States.{SimLook, each_state, sim_stepped}
use Rattle.sim_state.specs.Cells.{AreStates, IsKept, IsKeptByMem, IsKeptByRam, reg_goes, mem_goes, ram_goes}
use Rattle.sim_state.proofs.Filling.{front}
use Rattle.sim_state.proofs.Whole.{went, step_cells, step_variants}
use Rattle.sim_state.proofs.state.SimState.step.Goals as goal

pub step_memories-requires-clause-fit : goal.step_memories-requires-clause-fit
step_memories-requires-clause-fit c = subst (λ l. Each l MemFits) (sym c.as_slice-2.ensures) c.requires.fit

pub returns-clause-value : goal.returns-clause-value
returns-clause-value c =
    let i = c.self.inside in
    let m = c.args.«module».now in
    let v = valuation c.args.values.now in
    let e = c.args.event.now in
    let t = c.args.number in
    let seed = c.args.seed in
    let first = c.first_numbers-first in
    let kept = c.step_registers.new.kept in
    let mems = c.step_memories.new.states in
    let rams = c.step_rams.new.states in
    let old : SimLook = record { regs = bit_lists i.regs.items; mems = i.mems.items; rams = i.rams.items } in
    went m seed t e v old first.result.reg first.result.mem first.result.ram c.as_slice.result.now c.as_slice-2.result.now c.as_slice-3.result.now _ _ _
    (record { reg_is = first.ensures.reg; mem_is = first.ensures.mem; ram_is = first.ensures.ram; regs_are = c.as_slice.ensures; mems_are = c.as_slice-2.ensures; rams_are = c.as_slice-3.ensures })
    (ap bit_lists (front i.regs.len kept _ (c.step_registers.ensures.count ∙ c.as_mut_slice.ensures.len)) ∙ c.step_registers.ensures.value
    ∙ ap (λ l. each_state (reg_goes first.result.reg seed t e v) 0 c.as_slice.result.now (bit_lists l)) c.as_mut_slice.ensures.value)
    (front i.mems.len mems _ (c.step_memories.ensures.count ∙ c.as_mut_slice-2.ensures.len) ∙ c.step_memories.ensures.value
    ∙ ap (each_state (mem_goes first.result.mem seed t e v) 0 c.as_slice-2.result.now) c.as_mut_slice-2.ensures.value)
    (front i.rams.len rams _ (c.step_rams.ensures.count ∙ c.as_mut_slice-3.ensures.len) ∙ c.step_rams.ensures.value
    ∙ ap (each_state (ram_goes first.result.ram seed t e v) 0 c.as_slice-3.result.now) c.as_mut_slice-3.ensures.value)
    ∙ ap (λ (s : SimLook). sim_stepped m seed t e v s) c.self.view_is

pub returns-clause-cells : goal.returns-clause-cells
returns-clause-cells c =
    let i = c.self.inside in
    let first = c.first_numbers-first in
    let kept = c.step_registers.new.kept in
    let mems = c.step_memories.new.states in
    let rams = c.step_rams.new.states in
    step_cells c.args.«module».now c.args.self.now first.result.reg first.result.mem first.result.ram c.as_slice.result.now c.as_slice-2.result.now c.as_slice-3.result.now _ _ _ c.requires
    (record { reg_is = first.ensures.reg; mem_is = first.ensures.mem; ram_is = first.ensures.ram; regs_are = c.as_slice.ensures; mems_are = c.as_slice-2.ensures; rams_are = c.as_slice-3.ensures })
    (subst (λ l. AreStates IsKept c.as_slice.result.now (bit_lists l)) (sym (front i.regs.len kept _ (c.step_registers.ensures.count ∙ c.as_mut_slice.ensures.len))) c.step_registers.ensures.kept)
    (subst (AreStates IsKeptByMem c.as_slice-2.result.now) (sym (front i.mems.len mems _ (c.step_memories.ensures.count ∙ c.as_mut_slice-2.ensures.len))) c.step_memories.ensures.state)
    (subst (AreStates IsKeptByRam c.as_slice-3.result.now) (sym (front i.rams.len rams _ (c.step_rams.ensures.count ∙ c.as_mut_slice-3.ensures.len))) c.step_rams.ensures.state)

pub returns-clause-state : goal.returns-clause-state
returns-clause-state c = λ lib was.
    step_variants lib c.args.«module».now c.args.seed c.args.number c.args.event.now (valuation c.args.values.now) c.args.self.now _ (returns-clause-value c) (returns-clause-cells c) was
