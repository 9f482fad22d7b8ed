use Rattle.std.proofs.Common.{sym, subst}
use Rattle.net_core.specs.Valid.{Each, MemFits}
use Rattle.picked_run.specs.Conditions.{RamRuns}
use Rattle.sim_cells.specs.KeptBits.{bit_lists}
use Rattle.sim_state.proofs.Whole.{start_state}
use Rattle.sim_state.proofs.state.SimState.new.Goals as goal

pub start_memories-requires-clause-fit : goal.start_memories-requires-clause-fit
start_memories-requires-clause-fit c = subst (λ l. Each l MemFits) (sym c.as_slice-2.ensures) c.requires.mems

pub start_rams-requires-clause-runs : goal.start_rams-requires-clause-runs
start_rams-requires-clause-runs c = subst (λ l. Each l (RamRuns c.args.library.now)) (sym c.as_slice-3.ensures) c.requires.rams

pub returns-clause-state : goal.returns-clause-state
returns-clause-state c =
    let first = c.first_numbers-first in
    start_state c.args.library.now c.args.«module».now c.args.seed first.result.reg first.result.mem first.result.ram c.as_slice.result.now c.as_slice-2.result.now c.as_slice-3.result.now
    (bit_lists c.in_ok-regs.regs.items) c.in_ok-mems.mems.items c.in_ok-rams.rams.items c.requires
    (record { reg_is = first.ensures.reg; mem_is = first.ensures.mem; ram_is = first.ensures.ram; regs_are = c.as_slice.ensures; mems_are = c.as_slice-2.ensures; rams_are = c.as_slice-3.ensures })
    c.in_ok-regs.ensures c.in_ok-mems.ensures.state c.in_ok-rams.ensures.value c.in_ok-rams.ensures.state
