-- The module with the cell of a plain choice in a memory's place does only what the module may.
use Rattle.std.proofs.Common.{◌≡◌, ℕ, ◌+◌, ◌⊎◌, inl, inr, Bool, true, false, cond, List, [], ◌∷◌, ◌++◌, map, length, Some, None, refl, sym, ap, ◌∙◌, subst, arith, nat_eq}
use Rattle.std.specs.Prelude.{slice_get}
use Rattle.std.specs.List.{flat_map, remove}
use Rattle.std.proofs.lemmas.Bool.{eqb-true, eq-eqb}
use Rattle.std.proofs.lemmas.Option.{same_Some}
use Rattle.lib_core.specs.declared.library.Library.{Library}
use Rattle.lib_core.specs.declared.library.Variant.{Variant}
use Rattle.net_core.specs.declared.bits.Clock.TheVariants.{Root, Never}
use Rattle.net_core.specs.declared.cells.Reg.{Reg}
use Rattle.net_core.specs.declared.mems.Mem.{Mem}
use Rattle.net_core.specs.declared.mems.MemJob.{MemJob}
use Rattle.net_core.specs.declared.mems.RdPort.{RdPort}
use Rattle.net_core.specs.declared.mems.WrPort.{WrPort}
use Rattle.net_core.specs.declared.modules.Module.{Module}
use Rattle.net_core.specs.declared.rams.RamCell.{RamCell}
use Rattle.net_core.specs.declared.rams.SlotUse.{SlotUse}
use Rattle.net_core.specs.Values.{Wave, Happening}
use Rattle.net_core.specs.Memory.{MemAllows}
use Rattle.net_core.specs.Ports.{Interface, inputs_of, mem_clocks, read_clock, ram_clocks, clocks_of}
use Rattle.net_core.specs.Runs.{variant_of, Run, SameFrame}
use Rattle.net_core.specs.Simulation.{Simulated, Simulates, SimulationRefines}
use Rattle.net_core.specs.Valid.{MemFits}
use Rattle.net_core.proofs.Basics.{get_left}
use Rattle.geom_core.specs.declared.candidates.RamChoice.{RamChoice}
use Rattle.fit_rules.specs.Fits.{variant_at}
use Rattle.ram_emit.specs.Cell.{write_in, uses_from, nets_from, cell_of, cell_in, plain_cell}
use Rattle.ram_emit.specs.Placing.{in_place, CanPlace, PlacedSimulates, PlacedRefines}
use Rattle.ram_emit.proofs.Given.{PlainParts, plain_parts, chosen_variant, some_plain}
use Rattle.ram_emit.proofs.Agreeing.{all_stand}
use Rattle.ram_emit.proofs.Shows.{plain_cell_shows}
use Rattle.ram_emit.proofs.Uses.{EachKind, every_use}
use Rattle.ram_emit.proofs.Placed.{Has, has_left, has_right, has_either, has_none, has_first, flat_has, has_flat, map_has, has_map, removed_has, kept, last_at}

-- a write that stands in a group is the one write
pub one_write : (ws : List WrPort) (gs : List ℕ) (w p : WrPort) (n own : ℕ) → ws ≡ w ∷ [] → gs ≡ own ∷ [] → write_in n ws gs ≡ Some p → w ≡ p
one_write ws gs w p n own e f h = one_if (nat_eq own n) w p ((λ i. write_in n (sym e i) (sym f i)) ∙ h)
  where
    one_if : (b : Bool) (w p : WrPort) → cond b (Some w) None ≡ Some p → w ≡ p
    one_if true w p h = same_Some w p h
    one_if false w p h = cc

-- ---- the clocks of the cell

never_root : (net : ℕ) (rising : Bool) → Never ≡ Root net rising → ⊥
never_root net rising e = cc

module _ (m : Mem) (c : RamChoice) (x : Variant) (parts : PlainParts m c x) (valid : MemFits m) (first : ℕ) where
  abbrev IsOld : SlotUse → Type 0
  IsOld s = (s.clock ≡ Never) ⊎ (s.clock ≡ parts.write.clock)

  clock_kinds : EachKind x parts.variant.byte m c first (first + nets_from x m c 0 x.groups) IsOld
  clock_kinds = record {
    idle = λ g next met lower upper. inl refl;
    write = λ g next n p r stands h lower upper. inr (ap (λ (w : WrPort). w.clock) (sym (one_write m.writes c.writes parts.write p n parts.own parts.writes parts.groups h)));
    read = λ g next n p stands h lower upper. inl refl;
  }

  slot_clocks : (j : ℕ) (s : SlotUse) → slice_get (uses_from x m c 0 x.groups first) j ≡ Some s → IsOld s
  slot_clocks = every_use x parts.variant.byte m c first (first + nets_from x m c 0 x.groups) IsOld clock_kinds x.groups 0 first (all_stand m c x parts valid) (omega arith) (omega arith)

  pub cell_clock : (name : List ℕ) (net : ℕ) (rising : Bool) → Has (ram_clocks (cell_of x m c name first)) (Root net rising) → Has (mem_clocks m) (Root net rising)
  cell_clock name net rising h =
      let (s, (j, at), is) = map_has (λ (s : SlotUse). s.clock) (uses_from x m c 0 x.groups first) (Root net rising) h in
      elim (slot_clocks j s at) [
        | inl never ↦ absurd (never_root net rising (sym never ∙ is))
        | inr own ↦
            let w : Has (map (λ (w : WrPort). w.clock) m.writes) parts.write.clock = has_map (λ (w : WrPort). w.clock) m.writes parts.write (0, ap (λ ws. slice_get ws 0) parts.writes) in
            subst (Has (mem_clocks m)) (sym own ∙ is) (has_right (flat_map (λ (r : RdPort). read_clock r.clock) m.reads) (map (λ (w : WrPort). w.clock) m.writes) parts.write.clock w)
      ]

-- ---- the new module

module _ (lib : Library) (m : Module) (i : ℕ) (job : MemJob) (c : RamChoice) (name : List ℕ) (can : CanPlace lib m i job c) where
  pub placed_variant : (x : Variant) × (variant_at lib c.ram c.variant ≡ Some x)
  placed_variant = some_plain (variant_at lib c.ram c.variant) can.plain.variant

  abbrev pub new : Module
  new = in_place lib m i job.mem c name

  abbrev pub cell : RamCell
  cell = plain_cell lib job.mem c name m.nets

  -- a clock of the new module is one of the old
  pub old_clock : (net : ℕ) (rising : Bool) → Has (clocks_of new) (Root net rising) → Has (clocks_of m) (Root net rising)
  old_clock net rising h =
      let regs = map (λ (r : Reg). r.clock) m.regs in
      let mems = flat_map mem_clocks m.mems in
      let rams = flat_map ram_clocks m.rams in
      let left_mems = flat_map mem_clocks (remove m.mems i) in
      let more_rams = flat_map ram_clocks (m.rams ++ cell ∷ []) in
      let (x, there) = placed_variant in
      let parts = plain_parts lib job c x can.limits can.valid can.plain there in
      let here : Has m.mems job.mem = (i, can.there) in
      elim (has_either regs (left_mems ++ more_rams) (Root net rising) h) [
        | inl a ↦ has_left regs (mems ++ rams) (Root net rising) a
        | inr b ↦ has_right regs (mems ++ rams) (Root net rising) (elim (has_either left_mems more_rams (Root net rising) b) [
          | inl d ↦
              let (y, at, inside) = flat_has mem_clocks (remove m.mems i) (Root net rising) d in
              has_left mems rams (Root net rising) (has_flat mem_clocks m.mems y (Root net rising) (removed_has m.mems i y at) inside)
          | inr d ↦
              let (y, at, inside) = flat_has ram_clocks (m.rams ++ cell ∷ []) (Root net rising) d in
              elim (has_either m.rams (cell ∷ []) y at) [
                | inl old ↦ has_right mems rams (Root net rising) (has_flat ram_clocks m.rams y (Root net rising) old inside)
                | inr own ↦
                    let same : cell ≡ y = elim (has_first cell y [] own) [ inl e ↦ e | inr g ↦ absurd (has_none y g) ] in
                    let made : cell ≡ cell_of x job.mem c name m.nets = ap (λ o. cell_in o job.mem c name m.nets) there in
                    let clock = cell_clock job.mem c x parts can.valid m.nets name net rising (subst (λ (r : RamCell). Has (ram_clocks r) (Root net rising)) (sym same ∙ made) inside) in
                    has_left mems rams (Root net rising) (has_flat mem_clocks m.mems job.mem (Root net rising) here clock)
              ]
        ])
      ]

  new_frame : (modules : List Interface) → SameFrame modules m new
  new_frame modules = record {
    name = refl;
    attrs = refl;
    ports = refl;
    carried = refl;
    joins = λ a b. refl;
    roots = λ place r. let (k, at) = old_clock r.net r.rising (r.clock, r.used) in record { net = r.net; rising = r.rising; clock = k; input = r.input; used = at };
  }

  module _ (events : List Happening) (v : Wave) (run : Run lib new events v) where
    own_mem : MemAllows (inputs_of m) job.mem events v
    own_mem =
        let (x, there) = placed_variant in
        let h : variant_of lib cell ≡ Some x = chosen_variant lib job.mem c name m.nets ∙ there in
        plain_cell_shows lib job c name m.nets can.limits can.valid can.plain x h (inputs_of m) events v (run.rams (length m.rams) cell (last_at m.rams cell) x h)

    old_mem : (j : ℕ) (y : Mem) → slice_get m.mems j ≡ Some y → (b : Bool) → nat_eq j i ≡ b → MemAllows (inputs_of m) y events v
    old_mem j y at true e = subst (λ (z : Mem). MemAllows (inputs_of m) z events v) (same_Some job.mem y (sym can.there ∙ ap (slice_get m.mems) (sym (eqb-true j i e)) ∙ at)) own_mem
    old_mem j y at false e =
        let (k, there, below, above) = kept m.mems i j y at (λ q. absurd (let z : nat_eq j i ≡ true = eq-eqb j i q in cc)) in
        run.mems k y there

    pub new_simulated : Simulated lib [] m new events v
    new_simulated = record {
      wave = v;
      run = record {
        inputs = run.inputs;
        combs = run.combs;
        regs = run.regs;
        mems = λ j y at. old_mem j y at (nat_eq j i) refl;
        rams = λ j r at. run.rams j r (get_left m.rams (cell ∷ []) j r at);
      };
      same = λ t n h. refl;
      shows = λ t e at. refl;
    }

  pub new_simulates : (modules : List Interface) → Simulates lib modules [] m new
  new_simulates modules = record { frame = new_frame modules; runs = new_simulated }

pub placed_simulates : PlacedSimulates
placed_simulates lib modules m i job c name can = new_simulates lib m i job c name can modules

-- what is simulated is refined
pub placed_refines : SimulationRefines → PlacedRefines
placed_refines law lib modules m i job c name can = law lib modules [] m (in_place lib m i job.mem c name) (placed_simulates lib modules m i job c name can)
