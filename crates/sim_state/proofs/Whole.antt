-- What all cells of a module keep, put together from the cells of each kind.
use Rattle.std.proofs.Common.{◌≡◌, ℕ, ◌+◌, ◌++◌, ◌<◌, ◌^◌, Bool, List, map, length, Option, Some, refl, sym, ap, subst, ◌∙◌, arith}
use Rattle.std.specs.List.{flat_map}
use Rattle.std.proofs.lemmas.List.{length-append, length-map}
use Rattle.std.proofs.lemmas.List.FromFn.{length-map-range_with_len}
use Rattle.lib_core.specs.declared.library.Library.{Library}
use Rattle.net_core.specs.declared.bits.Event.{Event}
use Rattle.net_core.specs.declared.cells.Reg.{Reg}
use Rattle.net_core.specs.declared.mems.Mem.{Mem}
use Rattle.net_core.specs.declared.rams.RamCell.{RamCell}
use Rattle.net_core.specs.declared.modules.Module.{Module}
use Rattle.net_core.specs.Values.{Valuation}
use Rattle.net_core.specs.Nodes.{Node, comb_node, reg_node, mem_nodes, ram_nodes}
use Rattle.ram_step.specs.States.{RamLook, start_of, stepped}
use Rattle.sim_cells.specs.Memories.{MemLook}
use Rattle.picked_run.specs.Conditions.{CanRun}
use Rattle.picked_run.specs.States.{SimLook, each_cell, each_state, key_of, on_some, sim_start, sim_stepped}
use Rattle.sim_state.specs.Cells.{AreStates, IsKept, IsKeptByMem, IsKeptByRam, reg_begins, reg_goes, mem_begins, mem_goes, ram_begins, ram_goes}
use Rattle.sim_state.specs.SimStates.{HasFewCells, IsStateOfCells, HaveVariants, IsSimState}
use Rattle.sim_state.proofs.Listing.{cell_at, state_at, states_begin}

pub few_cells : (lib : Library) (m : Module) → CanRun lib m → HasFewCells m
few_cells lib m run =
    let rest : List Node = flat_map mem_nodes m.mems ++ flat_map ram_nodes m.rams in
    let a = length-append (map comb_node m.combs) (map reg_node m.regs ++ rest) in
    let b = length-append (map reg_node m.regs) rest in
    let c = length-map m.combs comb_node in
    let d = length-map m.regs reg_node in
    let nodes : length (map comb_node m.combs ++ (map reg_node m.regs ++ rest)) < 2 ^ 32 = run.few_nodes in
    let mems : length m.mems < 2 ^ 32 = run.few_mems in
    let rams : length m.rams < 2 ^ 32 = run.few_rams in
    omega (arith, a, b, c, d, nodes, mems, rams)

-- the numbers of the first cells, and the cells
pub record AreFirst (m : Module) (reg mem ram : ℕ) (regs : List Reg) (mems : List Mem) (rams : List RamCell) : Type 0 where
  pub reg_is : reg ≡ 1 + length m.combs
  pub mem_is : mem ≡ 1 + length m.combs + length m.regs
  pub ram_is : ram ≡ 1 + length m.combs + length m.regs + length m.mems
  pub regs_are : regs ≡ m.regs
  pub mems_are : mems ≡ m.mems
  pub rams_are : rams ≡ m.rams

pub started : (lib : Library) (m : Module) (seed reg mem ram : ℕ) (regs : List Reg) (mems : List Mem) (rams : List RamCell) (a : List (List Bool)) (b : List MemLook) (c : List (Option RamLook)) → AreFirst m reg mem ram regs mems rams → a ≡ each_cell (reg_begins reg seed) 0 regs → b ≡ each_cell (mem_begins mem seed) 0 mems → c ≡ each_cell (ram_begins lib ram seed) 0 rams → record { regs = a; mems = b; rams = c } ≡ sim_start lib m seed
started lib m seed reg mem ram regs mems rams a b c are ea eb ec =
    let pa : a ≡ (sim_start lib m seed).regs = ea ∙ ap (λ f. each_cell (reg_begins f seed) 0 regs) are.reg_is ∙ ap (each_cell (reg_begins (1 + length m.combs) seed) 0) are.regs_are in
    let pb : b ≡ (sim_start lib m seed).mems = eb ∙ ap (λ f. each_cell (mem_begins f seed) 0 mems) are.mem_is ∙ ap (each_cell (mem_begins (1 + length m.combs + length m.regs) seed) 0) are.mems_are in
    let pc : c ≡ (sim_start lib m seed).rams = ec ∙ ap (λ f. each_cell (ram_begins lib f seed) 0 rams) are.ram_is ∙ ap (each_cell (ram_begins lib (1 + length m.combs + length m.regs + length m.mems) seed) 0) are.rams_are in
    λ i. record { regs = pa i; mems = pb i; rams = pc i }

pub went : (m : Module) (seed t : ℕ) (e : Event) (v : Valuation) (old : SimLook) (reg mem ram : ℕ) (regs : List Reg) (mems : List Mem) (rams : List RamCell) (a : List (List Bool)) (b : List MemLook) (c : List (Option RamLook)) → AreFirst m reg mem ram regs mems rams → a ≡ each_state (reg_goes reg seed t e v) 0 regs old.regs → b ≡ each_state (mem_goes mem seed t e v) 0 mems old.mems → c ≡ each_state (ram_goes ram seed t e v) 0 rams old.rams → record { regs = a; mems = b; rams = c } ≡ sim_stepped m seed t e v old
went m seed t e v old reg mem ram regs mems rams a b c are ea eb ec =
    let pa : a ≡ (sim_stepped m seed t e v old).regs = ea ∙ ap (λ f. each_state (reg_goes f seed t e v) 0 regs old.regs) are.reg_is ∙ ap (λ l. each_state (reg_goes (1 + length m.combs) seed t e v) 0 l old.regs) are.regs_are in
    let pb : b ≡ (sim_stepped m seed t e v old).mems = eb ∙ ap (λ f. each_state (mem_goes f seed t e v) 0 mems old.mems) are.mem_is ∙ ap (λ l. each_state (mem_goes (1 + length m.combs + length m.regs) seed t e v) 0 l old.mems) are.mems_are in
    let pc : c ≡ (sim_stepped m seed t e v old).rams = ec ∙ ap (λ f. each_state (ram_goes f seed t e v) 0 rams old.rams) are.ram_is ∙ ap (λ l. each_state (ram_goes (1 + length m.combs + length m.regs + length m.mems) seed t e v) 0 l old.rams) are.rams_are in
    λ i. record { regs = pa i; mems = pb i; rams = pc i }

variants_begin : (lib : Library) (first seed : ℕ) (cells : List RamCell) → HaveVariants lib cells (each_cell (ram_begins lib first seed) 0 cells)
variants_begin lib first seed cells = λ i c x at is.
    (start_of x c (key_of seed 0 (first + i)), cell_at (ram_begins lib first seed) cells i c at ∙ ap (λ o. Some (on_some (λ y. start_of y c (key_of seed 0 (first + i))) o)) is, refl)

variants_go : (lib : Library) (first seed t : ℕ) (e : Event) (v : Valuation) (cells : List RamCell) (old : List (Option RamLook)) → HaveVariants lib cells old → HaveVariants lib cells (each_state (ram_goes first seed t e v) 0 cells old)
variants_go lib first seed t e v cells old has = λ i c x at is.
    let w = has i c x at is in
    (stepped w.0 c v e (key_of seed t (first + i)), state_at (ram_goes first seed t e v) cells old i c (Some w.0) at w.1, w.2)

pub start_state : (lib : Library) (m : Module) (seed : ℕ) (reg mem ram : ℕ) (regs : List Reg) (mems : List Mem) (rams : List RamCell) (a : List (List Bool)) (b : List MemLook) (c : List (Option RamLook)) → CanRun lib m → AreFirst m reg mem ram regs mems rams → a ≡ each_cell (reg_begins reg seed) 0 regs → AreStates IsKeptByMem mems b → c ≡ each_cell (ram_begins lib ram seed) 0 rams → AreStates IsKeptByRam rams c → IsSimState lib m (record { regs = a; mems = b; rams = c })
start_state lib m seed reg mem ram regs mems rams a b c run are ea sb ec sc =
    let sa : AreStates IsKept regs a = subst (AreStates IsKept regs) (sym ea) (states_begin IsKept (reg_begins reg seed) regs (λ i r. length-map-range_with_len _ 0 (length r.q))) in
    record {
      cells = record {
        regs = subst (λ l. AreStates IsKept l a) are.regs_are sa;
        mems = subst (λ l. AreStates IsKeptByMem l b) are.mems_are sb;
        rams = subst (λ l. AreStates IsKeptByRam l c) are.rams_are sc;
        fit = run.mems;
        few = few_cells lib m run;
      };
      variants = subst (λ l. HaveVariants lib l c) are.rams_are (subst (HaveVariants lib rams) (sym ec) (variants_begin lib ram seed rams));
    }

pub step_cells : (m : Module) (old : SimLook) (reg mem ram : ℕ) (regs : List Reg) (mems : List Mem) (rams : List RamCell) (a : List (List Bool)) (b : List MemLook) (c : List (Option RamLook)) → IsStateOfCells m old → AreFirst m reg mem ram regs mems rams → AreStates IsKept regs a → AreStates IsKeptByMem mems b → AreStates IsKeptByRam rams c → IsStateOfCells m (record { regs = a; mems = b; rams = c })
step_cells m old reg mem ram regs mems rams a b c st are sa sb sc = record {
  regs = subst (λ l. AreStates IsKept l a) are.regs_are sa;
  mems = subst (λ l. AreStates IsKeptByMem l b) are.mems_are sb;
  rams = subst (λ l. AreStates IsKeptByRam l c) are.rams_are sc;
  fit = st.fit;
  few = st.few;
}

pub step_variants : (lib : Library) (m : Module) (seed t : ℕ) (e : Event) (v : Valuation) (old new : SimLook) → new ≡ sim_stepped m seed t e v old → IsStateOfCells m new → IsSimState lib m old → IsSimState lib m new
step_variants lib m seed t e v old new made st was = record {
  cells = st;
  variants = subst (λ (s : SimLook). HaveVariants lib m.rams s.rams) (sym made) (variants_go lib (1 + length m.combs + length m.regs + length m.mems) seed t e v m.rams old.rams was.variants);
}
