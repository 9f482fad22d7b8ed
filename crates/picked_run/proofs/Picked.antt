-- The picked run of a module is a run of the module, cell by cell.
use Rattle.std.proofs.Common.{◌≡◌, ℕ, zero, suc, ◌+◌, ◌<◌, Bool, true, List, [], ◌∷◌, map, length, get_or, Option, Some, None, refl, sym, ap, subst, ◌∙◌, arith}
use Rattle.std.specs.Prelude.{slice_get}
use Rattle.std.proofs.lemmas.Option.{same_Some, slice_get-get_or}
use Rattle.lib_core.specs.declared.library.Library.{Library}
use Rattle.lib_core.specs.declared.library.Variant.{Variant}
use Rattle.net_core.specs.declared.bits.Event.{Event}
use Rattle.net_core.specs.declared.cells.Comb.{Comb}
use Rattle.net_core.specs.declared.cells.Reg.{Reg}
use Rattle.net_core.specs.declared.mems.Mem.{Mem}
use Rattle.net_core.specs.declared.rams.RamCell.{RamCell}
use Rattle.net_core.specs.declared.modules.Module.{Module}
use Rattle.net_core.specs.Values.{Wave, Happening}
use Rattle.net_core.specs.Logic.{comb_shows}
use Rattle.net_core.specs.Cells.{RegAllows}
use Rattle.net_core.specs.Memory.{MemAllows}
use Rattle.net_core.specs.Ram.{RamAllows}
use Rattle.net_core.specs.Ports.{inputs_of, happening_of}
use Rattle.net_core.specs.Runs.{Run, variant_of}
use Rattle.net_core.specs.Shape.{fits_library, fits_variant}
use Rattle.net_core.proofs.Basics.{get_below}
use Rattle.ram_step.specs.declared.picks.PickKey.{PickKey}
use Rattle.ram_step.specs.Runs as rams
use Rattle.ram_step.specs.Runs.{EdgesAreInputs, PickedRunIsAllowed}
use Rattle.ram_step.specs.States.{RamLook, start_of, stepped}
use Rattle.sim_cells.specs.Registers.{reg_start, reg_stepped}
use Rattle.sim_cells.specs.Memories.{MemLook, mem_start, mem_stepped}
use Rattle.sim_cells.specs.RegisterRuns.{RegisterRun, RegisterRunIsAllowed}
use Rattle.sim_cells.specs.MemoryRuns.{MemoryRun, MemoryRunIsAllowed}
use Rattle.sim_cells.proofs.Seeing.{agrees_along, back}
use Rattle.picked_run.specs.States.{SimLook, comb_number, reg_number, mem_number, ram_number, key_of, on_some, sim_start, sim_stepped}
use Rattle.picked_run.specs.PickedRuns.{PickedRun, PickedRunIsRun, ShownIsTrace}
use Rattle.picked_run.proofs.Listed.{length_cells, length_states, cell_at, state_at, earlier}

abbrev look_or : RamLook → Option RamLook → RamLook
look_or d None = d
look_or d (Some a) = a

abbrev no_mem : MemLook
no_mem = record { words = []; kept = []; ports = 0 }

module _ (lib : Library) (m : Module) (seed : ℕ) (events : List Event) (v : Wave) (run : PickedRun lib m seed events v) where
  count_regs : (t : ℕ) (e : Event) → slice_get events t ≡ Some e → length (run.state t).regs ≡ length m.regs
  count_regs zero e at = ap (λ (s : SimLook). length s.regs) run.starts ∙ length_cells (λ i r. reg_start r (key_of seed 0 (reg_number m i))) 0 m.regs
  count_regs (suc t) e at =
      let w = earlier events t e at in
      ap (λ (s : SimLook). length s.regs) (run.steps t w.0 w.1) ∙ length_states (λ i r kept. reg_stepped r (v t) w.0 (key_of seed t (reg_number m i)) kept) 0 m.regs (run.state t).regs (count_regs t w.0 w.1)

  count_mems : (t : ℕ) (e : Event) → slice_get events t ≡ Some e → length (run.state t).mems ≡ length m.mems
  count_mems zero e at = ap (λ (s : SimLook). length s.mems) run.starts ∙ length_cells (λ i x. mem_start x (key_of seed 0 (mem_number m i))) 0 m.mems
  count_mems (suc t) e at =
      let w = earlier events t e at in
      ap (λ (s : SimLook). length s.mems) (run.steps t w.0 w.1) ∙ length_states (λ i x a. mem_stepped a x (v t) w.0 (key_of seed t (mem_number m i))) 0 m.mems (run.state t).mems (count_mems t w.0 w.1)

  count_rams : (t : ℕ) (e : Event) → slice_get events t ≡ Some e → length (run.state t).rams ≡ length m.rams
  count_rams zero e at = ap (λ (s : SimLook). length s.rams) run.starts ∙ length_cells (λ i c. on_some (λ x. start_of x c (key_of seed 0 (ram_number m i))) (variant_of lib c)) 0 m.rams
  count_rams (suc t) e at =
      let w = earlier events t e at in
      ap (λ (s : SimLook). length s.rams) (run.steps t w.0 w.1) ∙ length_states (λ i c o. on_some (λ a. stepped a c (v t) w.0 (key_of seed t (ram_number m i))) o) 0 m.rams (run.state t).rams (count_rams t w.0 w.1)

  register_run : (i : ℕ) (r : Reg) → slice_get m.regs i ≡ Some r → RegisterRun r (λ t. key_of seed t (reg_number m i)) events v
  register_run i r found = record {
    state = λ t. get_or (run.state t).regs i [];
    starts = ap (λ (s : SimLook). get_or s.regs i []) run.starts ∙ cell_at (λ j y. reg_start y (key_of seed 0 (reg_number m j))) m.regs i r [] found;
    steps = λ t e at. ap (λ (s : SimLook). get_or s.regs i []) (run.steps t e at) ∙ state_at (λ j y kept. reg_stepped y (v t) e (key_of seed t (reg_number m j)) kept) m.regs (run.state t).regs i r [] (count_regs t e at) found;
    shows = λ t e at k n there.
        let count = count_regs t e at in
        let below = get_below m.regs i r found in
        (run.settled t e at).regs i r (get_or (run.state t).regs i []) found (slice_get-get_or (run.state t).regs i [] (omega (arith, count, below))) k n there;
  }

  memory_run : (i : ℕ) (x : Mem) → slice_get m.mems i ≡ Some x → MemoryRun x (λ t. key_of seed t (mem_number m i)) events v
  memory_run i x found = record {
    state = λ t. get_or (run.state t).mems i no_mem;
    starts = ap (λ (s : SimLook). get_or s.mems i no_mem) run.starts ∙ cell_at (λ j y. mem_start y (key_of seed 0 (mem_number m j))) m.mems i x no_mem found;
    steps = λ t e at. ap (λ (s : SimLook). get_or s.mems i no_mem) (run.steps t e at) ∙ state_at (λ j y a. mem_stepped a y (v t) e (key_of seed t (mem_number m j))) m.mems (run.state t).mems i x no_mem (count_mems t e at) found;
    shows = λ t e at port r read k n there.
        let count = count_mems t e at in
        let below = get_below m.mems i x found in
        (run.settled t e at).reads i x (get_or (run.state t).mems i no_mem) found (slice_get-get_or (run.state t).mems i no_mem (omega (arith, count, below))) port r read k n there;
  }

  ram_key : ℕ → ℕ → PickKey
  ram_key i t = key_of seed t (ram_number m i)

  -- a RAM cell with a variant keeps something
  ram_starts : (i : ℕ) (c : RamCell) (x : Variant) → slice_get m.rams i ≡ Some c → variant_of lib c ≡ Some x → get_or (run.state 0).rams i None ≡ Some (start_of x c (key_of seed 0 (ram_number m i)))
  ram_starts i c x found fits =
      ap (λ (s : SimLook). get_or s.rams i None) run.starts
      ∙ cell_at (λ j y. on_some (λ z. start_of z y (key_of seed 0 (ram_number m j))) (variant_of lib y)) m.rams i c None found
      ∙ ap (on_some (λ z. start_of z c (key_of seed 0 (ram_number m i)))) fits

  ram_steps : (i : ℕ) (c : RamCell) (t : ℕ) (e : Event) → slice_get m.rams i ≡ Some c → slice_get events t ≡ Some e → get_or (run.state (suc t)).rams i None ≡ on_some (λ a. stepped a c (v t) e (key_of seed t (ram_number m i))) (get_or (run.state t).rams i None)
  ram_steps i c t e found at =
      ap (λ (s : SimLook). get_or s.rams i None) (run.steps t e at)
      ∙ state_at (λ j y o. on_some (λ a. stepped a y (v t) e (key_of seed t (ram_number m j))) o) m.rams (run.state t).rams i c None (count_rams t e at) found

  ram_there : (i : ℕ) (c : RamCell) (x : Variant) → slice_get m.rams i ≡ Some c → variant_of lib c ≡ Some x → (t : ℕ) (e : Event) → slice_get events t ≡ Some e → (a : RamLook) × (get_or (run.state t).rams i None ≡ Some a)
  ram_there i c x found fits zero e at = (start_of x c (key_of seed 0 (ram_number m i)), ram_starts i c x found fits)
  ram_there i c x found fits (suc t) e at =
      let w = earlier events t e at in
      let before = ram_there i c x found fits t w.0 w.1 in
      (stepped before.0 c (v t) w.0 (key_of seed t (ram_number m i)), ram_steps i c t w.0 found w.1 ∙ ap (on_some (λ a. stepped a c (v t) w.0 (key_of seed t (ram_number m i)))) before.1)

  ram_run : (i : ℕ) (c : RamCell) (x : Variant) → slice_get m.rams i ≡ Some c → variant_of lib c ≡ Some x → rams.PickedRun x c (λ t. key_of seed t (ram_number m i)) events v
  ram_run i c x found fits =
      let first = start_of x c (key_of seed 0 (ram_number m i)) in
      record {
        state = λ t. look_or first (get_or (run.state t).rams i None);
        starts = ap (look_or first) (ram_starts i c x found fits);
        steps = λ t e at.
            let w = ram_there i c x found fits t e at in
            let old : look_or first (get_or (run.state t).rams i None) ≡ w.0 = ap (look_or first) w.1 in
            ap (look_or first) (ram_steps i c t e found at ∙ ap (on_some (λ a. stepped a c (v t) e (key_of seed t (ram_number m i)))) w.1)
            ∙ ap (λ a. stepped a c (v t) e (key_of seed t (ram_number m i))) (sym old);
        shows = λ t e at j slot there k n driven.
            let w = ram_there i c x found fits t e at in
            let count = count_rams t e at in
            let below = get_below m.rams i c found in
            let kept : slice_get (run.state t).rams i ≡ Some (Some w.0) = slice_get-get_or (run.state t).rams i None (omega (arith, count, below)) ∙ ap Some w.1 in
            let old : w.0 ≡ look_or first (get_or (run.state t).rams i None) = sym (ap (look_or first) w.1) in
            (run.settled t e at).slots i c x (look_or first (get_or (run.state t).rams i None)) found fits (subst (λ a. slice_get (run.state t).rams i ≡ Some (Some a)) old kept) j slot there k n driven;
      }

pub is_run : RegisterRunIsAllowed → MemoryRunIsAllowed → PickedRunIsAllowed → PickedRunIsRun
is_run registers memories cells lib m seed events v can edges run = record {
  inputs = λ t h at k n b there value.
      let w = back (happening_of (inputs_of m)) events t h at in
      (run.settled t w.0 w.1.0).inputs k n b there (ap (λ (z : Happening). slice_get z.values k) w.1.1 ∙ value);
  combs = λ i c found t h at k n there.
      let w = back (happening_of (inputs_of m)) events t h at in
      agrees_along (key_of seed t (comb_number i)) k (comb_shows c (v t) k) (v t n) ((run.settled t w.0 w.1.0).combs i c found k n there);
  regs = λ i r found. registers (inputs_of m) r (λ t. key_of seed t (reg_number m i)) events v edges (register_run lib m seed events v run i r found);
  mems = λ i x found. memories (inputs_of m) x (λ t. key_of seed t (mem_number m i)) events v (can.mems i x found) edges (memory_run lib m seed events v run i x found);
  rams = λ i c found x fits. cells (inputs_of m) x c (λ t. key_of seed t (ram_number m i)) events v (ap (fits_variant c) (sym fits) ∙ (can.rams i c found).fits) edges (ram_run lib m seed events v run i c x found fits);
}

pub is_trace : PickedRunIsRun → ShownIsTrace
is_trace law lib m seed events outs can edges is = record { wave = is.wave; run = law lib m seed events is.wave can edges is.run; shows = is.shows }
