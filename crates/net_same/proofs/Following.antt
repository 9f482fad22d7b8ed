-- What follows for modules and designs that are the same.
use Rattle.std.proofs.Common.{◌≡◌, ℕ, zero, suc, List, [], ◌∷◌, ◌++◌, map, length, Some, None, refl, sym, ap, ◌∙◌, subst}
use Rattle.std.specs.Prelude.{slice_get}
use Rattle.std.specs.List.{filter, flat_map}
use Rattle.std.proofs.lemmas.Option.{same_Some}
use Rattle.lib_core.specs.declared.library.Library.{Library}
use Rattle.net_core.specs.declared.cells.Reg.{Reg}
use Rattle.net_core.specs.declared.cells.Carried.{Carried}
use Rattle.net_core.specs.declared.mems.Mem.{Mem}
use Rattle.net_core.specs.declared.rams.RamCell.{RamCell}
use Rattle.net_core.specs.declared.modules.Module.{Module}
use Rattle.net_core.specs.Values.{Wave, Happening}
use Rattle.net_core.specs.Cells.{RegAllows}
use Rattle.net_core.specs.Memory.{MemAllows}
use Rattle.net_core.specs.Ram.{RamAllows}
use Rattle.net_core.specs.Nodes.{Ordered}
use Rattle.net_core.specs.Ports.{Interface, is_input_wire, is_output_wire, is_inout, by_port, wire_bits, driving_bits, reading_bits, carried_face, mem_clocks, ram_clocks, nets_of, inputs_of, outputs_of, ports_of, inout_pin_bits, inout_bits, are_joined, clocks_of, IsClockRoot}
use Rattle.net_core.specs.Runs.{Run, SameFrame, RefinesModule, shown, interfaces}
use Rattle.net_core.specs.Renaming.{renamed}
use Rattle.net_core.proofs.Refining.{frames_compose}
use Rattle.net_core.proofs.RenamedNets.{renaming_keeps_runs}
use Rattle.net_core.proofs.RenamedFrame.{renaming_refines, renaming_keeps_order}
use Rattle.net_same.specs.Same.{IsSame, AllSame}
use Rattle.net_same.specs.Laws.{SameRefines, SameIsOrdered, SameIsLive, SameHasPorts, SameDesignsRefine, SameDesignsLive, SameNames}
use Rattle.net_same.proofs.Near.{input_bits_same, output_bits_same, inout_bits_same, faces_same}

-- the modules show the same and have the same cells
record Close (a b : Module) : Type 0 where
  name : b.name ≡ a.name
  attrs : b.attrs ≡ a.attrs
  inputs : inputs_of b ≡ inputs_of a
  outputs : outputs_of b ≡ outputs_of a
  ports : ports_of b ≡ ports_of a
  inouts : (modules : List Interface) → inout_bits modules b ≡ inout_bits modules a
  mems : b.mems ≡ a.mems
  combs : b.combs ≡ a.combs
  regs : b.regs ≡ a.regs
  rams : b.rams ≡ a.rams
  carried : b.carried ≡ a.carried

close_turned : (a b : Module) → Close a b → Close b a
close_turned a b c = record { name = sym c.name; attrs = sym c.attrs; inputs = sym c.inputs; outputs = sym c.outputs; ports = sym c.ports; inouts = λ modules. sym (c.inouts modules); mems = sym c.mems; combs = sym c.combs; regs = sym c.regs; rams = sym c.rams; carried = sym c.carried }

-- the new module is close to the old one with its nets renamed
close_same : (old new : Module) (s : IsSame old new) → Close (renamed s.f old) new
close_same old new s =
    let f = s.f in
    let R = renamed f old in
    let w = s.wires in
    let cells : new.carried ≡ R.carried = s.cells.carried in
    record {
      name = s.heads.name;
      attrs = s.heads.attrs;
      inputs = ap (λ bs. nets_of (bs ++ flat_map driving_bits new.carried)) (input_bits_same f old.wires new.wires w) ∙ ap (λ (cs : List Carried). nets_of (wire_bits (by_port (filter is_input_wire R.wires)) ++ flat_map driving_bits cs)) cells;
      outputs = ap (λ bs. bs ++ flat_map reading_bits new.carried) (output_bits_same f old.wires new.wires w) ∙ ap (λ (cs : List Carried). wire_bits (by_port (filter is_output_wire R.wires)) ++ flat_map reading_bits cs) cells;
      ports = faces_same f old.wires new.wires w;
      inouts = λ modules. ap (λ bs. bs ++ flat_map (inout_pin_bits modules) new.carried) (inout_bits_same f old.wires new.wires w) ∙ ap (λ (cs : List Carried). wire_bits (filter is_inout R.wires) ++ flat_map (inout_pin_bits modules) cs) cells;
      mems = s.cells.mems;
      combs = s.cells.combs;
      regs = s.cells.regs;
      rams = s.cells.rams;
      carried = cells;
    }

clocks_close : (a b : Module) → Close a b → clocks_of b ≡ clocks_of a
clocks_close a b c =
    ap (λ (rs : List Reg). map (λ (r : Reg). r.clock) rs ++ (flat_map mem_clocks b.mems ++ flat_map ram_clocks b.rams)) c.regs
    ∙ ap (λ (xs : List Mem). map (λ (r : Reg). r.clock) a.regs ++ (flat_map mem_clocks xs ++ flat_map ram_clocks b.rams)) c.mems
    ∙ ap (λ (cs : List RamCell). map (λ (r : Reg). r.clock) a.regs ++ (flat_map mem_clocks a.mems ++ flat_map ram_clocks cs)) c.rams

root_close : (a b : Module) → Close a b → (place : ℕ) → IsClockRoot b place → IsClockRoot a place
root_close a b c place r = record {
  net = r.net;
  rising = r.rising;
  clock = r.clock;
  input = ap (λ ns. slice_get ns place) (sym c.inputs) ∙ r.input;
  used = ap (λ cs. slice_get cs r.clock) (sym (clocks_close a b c)) ∙ r.used;
}

frame_close : (modules : List Interface) (a b : Module) → Close a b → SameFrame modules a b
frame_close modules a b c = record {
  name = c.name;
  attrs = c.attrs;
  ports = c.ports;
  carried = ap (map carried_face) c.carried;
  joins = λ i j. ap (λ bs. are_joined bs i j) (c.inouts modules);
  roots = root_close a b c;
}

run_close : (lib : Library) (a b : Module) → Close a b → (events : List Happening) (v : Wave) → Run lib b events v → Run lib a events v
run_close lib a b c events v r = record {
  inputs = λ t e at k n x hn hb. r.inputs t e at k n x (ap (λ ns. slice_get ns k) c.inputs ∙ hn) hb;
  combs = λ i x h. r.combs i x (ap (λ xs. slice_get xs i) c.combs ∙ h);
  regs = λ i x h. subst (λ ns. RegAllows ns x events v) c.inputs (r.regs i x (ap (λ xs. slice_get xs i) c.regs ∙ h));
  mems = λ i x h. subst (λ ns. MemAllows ns x events v) c.inputs (r.mems i x (ap (λ xs. slice_get xs i) c.mems ∙ h));
  rams = λ i x h k hk. subst (λ ns. RamAllows ns k x events v) c.inputs (r.rams i x (ap (λ xs. slice_get xs i) c.rams ∙ h) k hk);
}

refines_close : (lib : Library) (modules : List Interface) (a b : Module) → Close a b → RefinesModule lib modules a b
refines_close lib modules a b c = record {
  frame = frame_close modules a b c;
  traces = λ events outs h. record { wave = h.wave; run = run_close lib a b c events h.wave h.run; shows = h.shows ∙ ap (λ bs. shown bs h.wave 0 events) c.outputs };
}

refines_through : (lib : Library) (modules : List Interface) (a b c : Module) → RefinesModule lib modules a b → RefinesModule lib modules b c → RefinesModule lib modules a c
refines_through lib modules a b c f g = record {
  frame = frames_compose modules a b c f.frame g.frame;
  traces = λ events outs h. f.traces events outs (g.traces events outs h);
}

pub same_refines : SameRefines
same_refines lib modules old new s =
    let R = renamed s.f old in
    let close = close_same old new s in
    let both = renaming_refines lib modules old s.f s.g s.told in (
      refines_through lib modules old R new both.0 (refines_close lib modules R new close),
      refines_through lib modules new R old (refines_close lib modules new R (close_turned R new close)) both.1,
    )

order_close : (a b : Module) → Close a b → Ordered a → Ordered b
order_close a b c o = record {
  rank = o.rank;
  combs = λ i x h. o.combs i x (ap (λ xs. slice_get xs i) (sym c.combs) ∙ h);
  regs = λ i x h. o.regs i x (ap (λ xs. slice_get xs i) (sym c.regs) ∙ h);
  reads = λ i x h. o.reads i x (ap (λ xs. slice_get xs i) (sym c.mems) ∙ h);
  slots = λ i x h. o.slots i x (ap (λ xs. slice_get xs i) (sym c.rams) ∙ h);
}

pub same_is_ordered : SameIsOrdered
same_is_ordered old new s o = order_close (renamed s.f old) new (close_same old new s) ((renaming_keeps_order old s.f s.g s.told).0 o)

pub same_is_live : SameIsLive
same_is_live lib old new s live events =
    let f = s.f in
    let g = s.g in
    let R = renamed f old in
    let run = live events in
    let v : Wave = run.0 in
    let forth : Wave = λ t n. v t (g n) in
    let back : (λ (t n : ℕ). forth t (f n)) ≡ v = λ i t n. v t (s.told n i) in
    let old_run : Run lib old events (λ t n. forth t (f n)) = subst (Run lib old events) (sym back) run.1 in
    let mid : Run lib R events forth = (renaming_keeps_runs lib old f g s.told events forth).1 old_run in
    (forth, run_close lib new R (close_turned R new (close_same old new s)) events forth mid)

pub same_has_ports : SameHasPorts
same_has_ports old new s =
    let frame = (same_refines (record { rams = []; budget = None }) [] old new s).0.frame in
    λ i. record { name = frame.name i; ports = frame.ports i }

-- ---- designs
all_count : (xs ys : List Module) → AllSame xs ys → length ys ≡ length xs
all_count [] [] h = refl
all_count [] (y ∷ ys) h = absurd h
all_count (x ∷ xs) [] h = absurd h
all_count (x ∷ xs) (y ∷ ys) h = ap suc (all_count xs ys h.1)

-- the old module of a new one
all_at : (xs ys : List Module) → AllSame xs ys → (i : ℕ) (y : Module) → slice_get ys i ≡ Some y → (x : Module) × (slice_get xs i ≡ Some x) × IsSame x y
all_at [] [] h i y hy = absurd (cc)
all_at [] (z ∷ ys) h i y hy = absurd h
all_at (x ∷ xs) [] h i y hy = absurd h
all_at (x ∷ xs) (z ∷ ys) h zero y hy = (x, refl, subst (IsSame x) (same_Some z y hy) h.0)
all_at (x ∷ xs) (z ∷ ys) h (suc i) y hy = all_at xs ys h.1 i y hy

same_at : (xs ys : List Module) → AllSame xs ys → (i : ℕ) (x y : Module) → slice_get xs i ≡ Some x → slice_get ys i ≡ Some y → IsSame x y
same_at xs ys h i x y hx hy =
    let a = all_at xs ys h i y hy in
    subst (λ z. IsSame z y) (same_Some a.0 x (sym a.1 ∙ hx)) a.2

pub same_designs_refine : SameDesignsRefine
same_designs_refine lib old new s = (
  record {
    count = all_count old.modules new.modules s.modules;
    modules = λ i a b ha hb. (same_refines lib (interfaces old) a b (same_at old.modules new.modules s.modules i a b ha hb)).0;
  },
  record {
    count = sym (all_count old.modules new.modules s.modules);
    modules = λ i b a hb ha. (same_refines lib (interfaces new) a b (same_at old.modules new.modules s.modules i a b ha hb)).1;
  },
)

pub same_designs_live : SameDesignsLive
same_designs_live lib old new s live i y hy =
    let a = all_at old.modules new.modules s.modules i y hy in
    same_is_live lib a.0 y a.2 (live i a.0 a.1)

names_same : (xs ys : List Module) → AllSame xs ys → map (λ (m : Module). m.name) ys ≡ map (λ (m : Module). m.name) xs
names_same [] [] h = refl
names_same [] (y ∷ ys) h = absurd h
names_same (x ∷ xs) [] h = absurd h
names_same (x ∷ xs) (y ∷ ys) h =
    let s : IsSame x y = h.0 in
    ap (λ n. n ∷ map (λ (m : Module). m.name) ys) s.heads.name ∙ ap (λ ns. x.name ∷ ns) (names_same xs ys h.1)

pub same_names : SameNames
same_names old new s = names_same old.modules new.modules s.modules
