-- A module with more logic: its inputs, outputs and clocks, and its runs.
use Rattle.std.proofs.Common.{◌≡◌, ℕ, inl, inr, Bool, List, [], ◌++◌, map, filter, refl, sym, ap, ◌∙◌, subst, arith, append_assoc}
use Rattle.std.specs.Prelude.{slice_get}
use Rattle.std.specs.List.{flat_map}
use Rattle.lib_core.specs.declared.library.Library.{Library}
use Rattle.net_core.specs.declared.bits.Clock.{Clock}
use Rattle.net_core.specs.declared.bits.Clock.TheVariants.{Root, Never}
use Rattle.net_core.specs.declared.cells.Reg.{Reg}
use Rattle.net_core.specs.declared.modules.Module.{Module}
use Rattle.net_core.specs.Cells.{RegAllows}
use Rattle.net_core.specs.Memory.{MemAllows}
use Rattle.net_core.specs.Ram.{RamAllows}
use Rattle.net_core.specs.Ports.{Interface, is_input_wire, is_output_wire, is_inout, is_port, by_port, wire_bits, driving_bits, reading_bits, nets_of, inputs_of, outputs_of, face_of, carried_face, inout_pin_bits, inout_bits, are_joined, mem_clocks, ram_clocks, clocks_of, IsClockRoot}
use Rattle.net_core.specs.Runs.{Run}
use Rattle.net_core.specs.Simulation.{Simulates}
use Rattle.net_core.specs.Values.{Wave, Happening, values_of}
use Rattle.net_core.proofs.Basics.{get_left}
use Rattle.net_edit.specs.Laws.{IsKnownClock}
use Rattle.net_edit.proofs.Lists.{Has, has_left, has_right, has_either, map_has, has_map}
use Rattle.net_gates.specs.Adds.{Grows}
use Rattle.net_gates.specs.Laws.{GrownSimulates}

module _ (old new : Module) (g : Grows old new) where
  pub inputs_same : inputs_of new ≡ inputs_of old
  inputs_same = λ i. nets_of (wire_bits (by_port (filter is_input_wire (g.wires i))) ++ flat_map driving_bits (g.carried i))

  pub outputs_same : outputs_of new ≡ outputs_of old
  outputs_same = λ i. wire_bits (by_port (filter is_output_wire (g.wires i))) ++ flat_map reading_bits (g.carried i)

  joins_same : (modules : List Interface) → inout_bits modules new ≡ inout_bits modules old
  joins_same modules = λ i. wire_bits (filter is_inout (g.wires i)) ++ flat_map (inout_pin_bits modules) (g.carried i)

  abbrev other_clocks : List Clock
  other_clocks = flat_map mem_clocks old.mems ++ flat_map ram_clocks old.rams

  clocks_are : clocks_of new ≡ map (λ (r : Reg). r.clock) (old.regs ++ g.more_regs) ++ other_clocks
  clocks_are = λ i. map (λ (r : Reg). r.clock) (g.regs i) ++ (flat_map mem_clocks (g.mems i) ++ flat_map ram_clocks (g.rams i))

  known_old : (net : ℕ) (edge : Bool) → Has (clocks_of old) (Root net edge) → IsKnownClock old (Root net edge)
  known_old net edge (k, at) = (k, edge, at)

  -- a clock of the new module is known to the old one
  pub known_root : (net : ℕ) (edge : Bool) → Has (clocks_of new) (Root net edge) → IsKnownClock old (Root net edge)
  known_root net edge h = elim (has_either (map (λ (r : Reg). r.clock) (old.regs ++ g.more_regs)) other_clocks (Root net edge) (subst (λ l. Has l (Root net edge)) clocks_are h)) [
    | inl a ↦
        let (y, at, e) = map_has (λ (r : Reg). r.clock) (old.regs ++ g.more_regs) (Root net edge) a in
        elim (has_either old.regs g.more_regs y at) [
          | inl there ↦ known_old net edge (has_left (map (λ (r : Reg). r.clock) old.regs) other_clocks (Root net edge) (subst (Has (map (λ (r : Reg). r.clock) old.regs)) e (has_map (λ (r : Reg). r.clock) old.regs y there)))
          | inr (j, there) ↦ subst (IsKnownClock old) e (g.clocks j y there)
        ]
    | inr b ↦ known_old net edge (has_right (map (λ (r : Reg). r.clock) old.regs) other_clocks (Root net edge) b)
  ]

  edge_known : (net : ℕ) (edge rising : Bool) → IsKnownClock old (Root net edge) → IsKnownClock old (Root net rising)
  edge_known net edge rising (k, e, at) = (k, e, at)

  pub known_clock : (c : Clock) → IsKnownClock new c → IsKnownClock old c
  known_clock Never h = tt
  known_clock (Root net rising) (k, edge, at) = edge_known net edge rising (known_root net edge (k, at))

  root_before : (place : ℕ) → IsClockRoot new place → IsClockRoot old place
  root_before place root =
      let (k, edge, at) = known_root root.net root.rising (root.clock, root.used) in
      record { net = root.net; rising = edge; clock = k; input = ap (λ l. slice_get l place) (sym inputs_same) ∙ root.input; used = at }

  -- a run of the new module is one of the old
  pub run_before : (lib : Library) (events : List Happening) (v : Wave) → Run lib new events v → Run lib old events v
  run_before lib events v run = record {
    inputs = λ t e at k n b hn hb. run.inputs t e at k n b (ap (λ l. slice_get l k) inputs_same ∙ hn) hb;
    combs = λ i c at. run.combs i c (ap (λ l. slice_get l i) g.combs ∙ get_left old.combs g.more_combs i c at);
    regs = λ i r at. subst (λ ins. RegAllows ins r events v) inputs_same (run.regs i r (ap (λ l. slice_get l i) g.regs ∙ get_left old.regs g.more_regs i r at));
    mems = λ i x at. subst (λ ins. MemAllows ins x events v) inputs_same (run.mems i x (ap (λ l. slice_get l i) g.mems ∙ at));
    rams = λ i c at x is. subst (λ ins. RamAllows ins x c events v) inputs_same (run.rams i c (ap (λ l. slice_get l i) g.rams ∙ at) x is);
  }

  pub simulates : (lib : Library) (modules : List Interface) → Simulates lib modules [] old new
  simulates lib modules = record {
    frame = record {
      name = g.name;
      attrs = g.attrs;
      ports = ap (λ ws. map face_of (filter is_port ws)) g.wires;
      carried = ap (map carried_face) g.carried;
      joins = λ i j. ap (λ bits. are_joined bits i j) (joins_same modules);
      roots = root_before;
    };
    runs = λ events v run. record {
      wave = v;
      run = run_before lib events v run;
      same = λ t n off. refl;
      shows = λ t e at. ap (values_of (v t)) outputs_same;
    };
  }

pub grown_simulates : GrownSimulates
grown_simulates lib modules old new g = simulates old new g lib modules

pub grows_on : (a b c : Module) → Grows a b → Grows b c → Grows a c
grows_on a b c g h = record {
  more_combs = g.more_combs ++ h.more_combs;
  more_regs = g.more_regs ++ h.more_regs;
  combs = h.combs ∙ ap (λ l. l ++ h.more_combs) g.combs ∙ append_assoc a.combs g.more_combs h.more_combs;
  regs = h.regs ∙ ap (λ l. l ++ h.more_regs) g.regs ∙ append_assoc a.regs g.more_regs h.more_regs;
  clocks = λ i r at. elim (has_either g.more_regs h.more_regs r (i, at)) [ inl (j, there) ↦ g.clocks j r there | inr (j, there) ↦ known_clock a b g r.clock (h.clocks j r there) ];
  nets = omega (arith, g.nets, h.nets);
  name = h.name ∙ g.name;
  attrs = h.attrs ∙ g.attrs;
  wires = h.wires ∙ g.wires;
  declared = h.declared ∙ g.declared;
  parts = h.parts ∙ g.parts;
  mems = h.mems ∙ g.mems;
  rams = h.rams ∙ g.rams;
  carried = h.carried ∙ g.carried;
}
