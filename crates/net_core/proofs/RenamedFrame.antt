-- A module with its nets renamed is to those around it what it was, and has the same orders.
use Rattle.std.proofs.Common.{◌≡◌, ℕ, zero, suc, ◌<◌, Bool, true, false, cond, List, [], ◌∷◌, ◌++◌, map, length, Option, Some, None, refl, sym, ap, ◌∙◌, subst}
use Rattle.std.specs.Prelude.{slice_get}
use Rattle.std.specs.List.{filter, flat_map}
use Rattle.net_core.specs.declared.bits.Bit.{Bit}
use Rattle.net_core.specs.declared.bits.Bit.TheVariants.{Zero, One, Net}
use Rattle.net_core.specs.declared.bits.Clock.{Clock}
use Rattle.net_core.specs.declared.bits.Clock.TheVariants.{Root, Never}
use Rattle.net_core.specs.declared.cells.Comb.{Comb}
use Rattle.net_core.specs.declared.cells.Reg.{Reg}
use Rattle.net_core.specs.declared.cells.Pin.{Pin}
use Rattle.net_core.specs.declared.cells.Carried.{Carried}
use Rattle.net_core.specs.declared.mems.Mem.{Mem}
use Rattle.net_core.specs.declared.mems.RdPort.{RdPort}
use Rattle.net_core.specs.declared.mems.WrPort.{WrPort}
use Rattle.net_core.specs.declared.rams.SlotUse.{SlotUse}
use Rattle.net_core.specs.declared.rams.RamCell.{RamCell}
use Rattle.net_core.specs.declared.modules.Wire.{Wire}
use Rattle.net_core.specs.declared.modules.Module.{Module}
use Rattle.net_core.specs.Nodes.{Node, comb_node, reg_node, read_needs, read_node, slot_node, HasNet, Rises, Ordered}
use Rattle.net_core.specs.Ports.{Interface, is_port, is_inout, is_inout_pin, face_of, pin_face, carried_face, ports_of, carried_of, wire_bits, bits_of_pins, inout_pin_bits, inout_bits, same_bit, both_same, are_joined, read_clock, mem_clocks, ram_clocks, clocks_of, inputs_of, IsClockRoot}
use Rattle.net_core.specs.Renaming.{renamed_bit, renamed_bits, renamed_clock, renamed_read_clock, renamed_comb, renamed_reg, renamed_read, renamed_write, renamed_mem, renamed_slot, renamed_ram, renamed_pin, renamed_carried, renamed_wire, renamed, IsTold, RenamingRefines, RenamingKeepsOrder}
use Rattle.net_core.proofs.Ordering.{map_at, map_get}
use Rattle.net_core.proofs.RenamedNets.{map_joined, filter_map_same, net_test, bits_joined, wire_bits_renamed, pins_renamed, inputs_renamed, renaming_keeps_traces}

map_length : {X Y : Type 0} (h : X → Y) (xs : List X) → length (map h xs) ≡ length xs
map_length h [] = refl
map_length h (x ∷ xs) = ap suc (map_length h xs)

map_through : {X Y : Type 0} (v : X → Y) (h : X → X) → ((x : X) → v (h x) ≡ v x) → (xs : List X) → map v (map h xs) ≡ map v xs
map_through v h e [] = refl
map_through v h e (x ∷ xs) =
    let one = e x in
    let rest = map_through v h e xs in
    cc

module _ (f g : ℕ → ℕ) (told : IsTold f g) where
  face_kept : (w : Wire) → face_of (renamed_wire f w) ≡ face_of w
  face_kept w =
      let width = map_length (renamed_bit f) w.bits in
      λ i. record (face_of w) { width = width i }

  pin_kept : (p : Pin) → pin_face (renamed_pin f p) ≡ pin_face p
  pin_kept p =
      let width = map_length (renamed_bit f) p.bits in
      λ i. record (pin_face p) { width = width i }

  carried_kept : (c : Carried) → carried_face (renamed_carried f c) ≡ carried_face c
  carried_kept c =
      let pins = map_through pin_face (renamed_pin f) pin_kept c.pins in
      λ i. record (carried_face c) { pins = pins i }

  ports_kept : (m : Module) → ports_of (renamed f m) ≡ ports_of m
  ports_kept m = ap (map face_of) (filter_map_same is_port (renamed_wire f) (λ w. refl) m.wires) ∙ map_through face_of (renamed_wire f) face_kept (filter is_port m.wires)

  inout_pins_renamed : (modules : List Interface) (cs : List Carried) → flat_map (inout_pin_bits modules) (map (renamed_carried f) cs) ≡ renamed_bits f (flat_map (inout_pin_bits modules) cs)
  inout_pins_renamed modules [] = refl
  inout_pins_renamed modules (c ∷ cs) =
      let one = ap bits_of_pins (filter_map_same (λ (p : Pin). is_inout_pin modules c.kind p.name) (renamed_pin f) (λ p. refl) c.pins) ∙ pins_renamed f g told (filter (λ (p : Pin). is_inout_pin modules c.kind p.name) c.pins) in
      ap (λ r. r ++ flat_map (inout_pin_bits modules) (map (renamed_carried f) cs)) one ∙ ap (λ r. renamed_bits f (inout_pin_bits modules c) ++ r) (inout_pins_renamed modules cs) ∙ sym (bits_joined f g told (inout_pin_bits modules c) (flat_map (inout_pin_bits modules) cs))

  inouts_renamed : (modules : List Interface) (m : Module) → inout_bits modules (renamed f m) ≡ renamed_bits f (inout_bits modules m)
  inouts_renamed modules m =
      let wires = ap wire_bits (filter_map_same is_inout (renamed_wire f) (λ w. refl) m.wires) ∙ wire_bits_renamed f g told (filter is_inout m.wires) in
      ap (λ r. r ++ flat_map (inout_pin_bits modules) (map (renamed_carried f) m.carried)) wires ∙ ap (λ r. renamed_bits f (wire_bits (filter is_inout m.wires)) ++ r) (inout_pins_renamed modules m.carried) ∙ sym (bits_joined f g told (wire_bits (filter is_inout m.wires)) (flat_map (inout_pin_bits modules) m.carried))

  same_renamed : (a b : Bit) → same_bit (renamed_bit f a) (renamed_bit f b) ≡ same_bit a b
  same_renamed Zero Zero = refl
  same_renamed Zero One = refl
  same_renamed Zero (Net n) = refl
  same_renamed One Zero = refl
  same_renamed One One = refl
  same_renamed One (Net n) = refl
  same_renamed (Net n) Zero = refl
  same_renamed (Net n) One = refl
  same_renamed (Net n) (Net k) = net_test f g told n k

  abbrev renamed_option : Option Bit → Option Bit
  renamed_option None = None
  renamed_option (Some b) = Some (renamed_bit f b)

  get_renamed : (bs : List Bit) (i : ℕ) → slice_get (renamed_bits f bs) i ≡ renamed_option (slice_get bs i)
  get_renamed [] i = refl
  get_renamed (b ∷ bs) zero = refl
  get_renamed (b ∷ bs) (suc i) = get_renamed bs i

  both_renamed : (a b : Option Bit) → both_same (renamed_option a) (renamed_option b) ≡ both_same a b
  both_renamed None b = refl
  both_renamed (Some a) None = refl
  both_renamed (Some a) (Some b) = same_renamed a b

  joined_renamed : (bs : List Bit) (i j : ℕ) → are_joined (renamed_bits f bs) i j ≡ are_joined bs i j
  joined_renamed bs i j =
      let a = get_renamed bs i in
      let b = get_renamed bs j in
      ap (λ x. both_same x (slice_get (renamed_bits f bs) j)) a ∙ ap (both_same (renamed_option (slice_get bs i))) b ∙ both_renamed (slice_get bs i) (slice_get bs j)

  joins_kept : (modules : List Interface) (m : Module) (i j : ℕ) → are_joined (inout_bits modules (renamed f m)) i j ≡ are_joined (inout_bits modules m) i j
  joins_kept modules m i j = ap (λ bs. are_joined bs i j) (inouts_renamed modules m) ∙ joined_renamed (inout_bits modules m) i j

  -- the clocks are renamed
  clocks_map : {X : Type 0} (v : X → List Clock) (h : X → X) → ((x : X) → v (h x) ≡ map (renamed_clock f) (v x)) → (xs : List X) → flat_map v (map h xs) ≡ map (renamed_clock f) (flat_map v xs)
  clocks_map v h e [] = refl
  clocks_map v h e (x ∷ xs) = ap (λ r. r ++ flat_map v (map h xs)) (e x) ∙ ap (λ r. map (renamed_clock f) (v x) ++ r) (clocks_map v h e xs) ∙ sym (map_joined (renamed_clock f) (v x) (flat_map v xs))

  clock_map : {X : Type 0} (v : X → Clock) (h : X → X) → ((x : X) → v (h x) ≡ renamed_clock f (v x)) → (xs : List X) → map v (map h xs) ≡ map (renamed_clock f) (map v xs)
  clock_map v h e [] = refl
  clock_map v h e (x ∷ xs) =
      let one = e x in
      let rest = clock_map v h e xs in
      cc

  read_clock_renamed : (c : Option Clock) → read_clock (renamed_read_clock f c) ≡ map (renamed_clock f) (read_clock c)
  read_clock_renamed None = refl
  read_clock_renamed (Some c) = refl

  mem_clocks_renamed : (x : Mem) → mem_clocks (renamed_mem f x) ≡ map (renamed_clock f) (mem_clocks x)
  mem_clocks_renamed x =
      let reads = clocks_map (λ (r : RdPort). read_clock r.clock) (renamed_read f) (λ r. read_clock_renamed r.clock) x.reads in
      let writes = clock_map (λ (w : WrPort). w.clock) (renamed_write f) (λ w. refl) x.writes in
      ap (λ r. r ++ map (λ (w : WrPort). w.clock) (map (renamed_write f) x.writes)) reads ∙ ap (λ r. map (renamed_clock f) (flat_map (λ (p : RdPort). read_clock p.clock) x.reads) ++ r) writes ∙ sym (map_joined (renamed_clock f) (flat_map (λ (p : RdPort). read_clock p.clock) x.reads) (map (λ (w : WrPort). w.clock) x.writes))

  clocks_renamed : (m : Module) → clocks_of (renamed f m) ≡ map (renamed_clock f) (clocks_of m)
  clocks_renamed m =
      let a = map (λ (r : Reg). r.clock) m.regs in
      let b = flat_map mem_clocks m.mems in
      let c = flat_map ram_clocks m.rams in
      let regs : map (λ (r : Reg). r.clock) (map (renamed_reg f) m.regs) ≡ map (renamed_clock f) a = clock_map (λ (r : Reg). r.clock) (renamed_reg f) (λ r. refl) m.regs in
      let mems : flat_map mem_clocks (map (renamed_mem f) m.mems) ≡ map (renamed_clock f) b = clocks_map mem_clocks (renamed_mem f) mem_clocks_renamed m.mems in
      let rams : flat_map ram_clocks (map (renamed_ram f) m.rams) ≡ map (renamed_clock f) c = clocks_map ram_clocks (renamed_ram f) (λ x. clock_map (λ (s : SlotUse). s.clock) (renamed_slot f) (λ s. refl) x.slots) m.rams in
      let later = map_joined (renamed_clock f) b c in
      let all = map_joined (renamed_clock f) a (b ++ c) in
      cc

  root_net : (c : Clock) (net : ℕ) (rising : Bool) → renamed_clock f c ≡ Root net rising → (n : ℕ) × (c ≡ Root n rising) × (f n ≡ net)
  root_net Never net rising h = cc
  root_net (Root n r) net rising h = (n, cc, cc)

  one_net : (a b : ℕ) → f a ≡ f b → a ≡ b
  one_net a b e = sym (told a) ∙ ap g e ∙ told b

  roots_back : (m : Module) (place : ℕ) → IsClockRoot (renamed f m) place → IsClockRoot m place
  roots_back m place r =
      let at = map_at f (inputs_of m) place r.net (ap (λ ns. slice_get ns place) (sym (inputs_renamed f g told m)) ∙ r.input) in
      let c = map_at (renamed_clock f) (clocks_of m) r.clock (Root r.net r.rising) (ap (λ cs. slice_get cs r.clock) (sym (clocks_renamed m)) ∙ r.used) in
      let n = root_net c.0 r.net r.rising c.2 in
      let same = one_net n.0 at.0 (n.2 ∙ sym at.2) in
      record { net = at.0; rising = r.rising; clock = r.clock; input = at.1; used = c.1 ∙ ap Some (n.1 ∙ ap (λ k. Root k r.rising) same) }

  roots_forth : (m : Module) (place : ℕ) → IsClockRoot m place → IsClockRoot (renamed f m) place
  roots_forth m place r = record {
    net = f r.net;
    rising = r.rising;
    clock = r.clock;
    input = ap (λ ns. slice_get ns place) (inputs_renamed f g told m) ∙ map_get f (inputs_of m) place r.net r.input;
    used = ap (λ cs. slice_get cs r.clock) (clocks_renamed m) ∙ map_get (renamed_clock f) (clocks_of m) r.clock (Root r.net r.rising) r.used;
  }

  carried_all : (m : Module) → carried_of (renamed f m) ≡ carried_of m
  carried_all m = map_through carried_face (renamed_carried f) carried_kept m.carried

  -- a node with its nets renamed
  abbrev renamed_node : Node → Node
  renamed_node p = record { drives = map f p.drives; needs = renamed_bits f p.needs }

  net_of_renamed : (b : Bit) (n : ℕ) → renamed_bit f b ≡ Net n → (k : ℕ) × (b ≡ Net k) × (f k ≡ n)
  net_of_renamed Zero n h = cc
  net_of_renamed One n h = cc
  net_of_renamed (Net k) n h = (k, refl, cc)

  needs_back : (bs : List Bit) (n : ℕ) → HasNet (renamed_bits f bs) n → (k : ℕ) × HasNet bs k × (f k ≡ n)
  needs_back bs n (at, h) =
      let b = map_at (renamed_bit f) bs at (Net n) h in
      let k = net_of_renamed b.0 n b.2 in
      (k.0, (at, b.1 ∙ ap Some k.1), k.2)

  rises_forth : (rank : ℕ → ℕ) (p : Node) → Rises rank p → Rises (λ n. rank (g n)) (renamed_node p)
  rises_forth rank p rise n x (a, hd) needs =
      let d = map_at f p.drives a n hd in
      let k = needs_back p.needs x needs in
      let low : rank (g x) ≡ rank k.0 = ap (λ y. rank (g y)) (sym k.2) ∙ ap rank (told k.0) in
      let high : rank (g n) ≡ rank d.0 = ap (λ y. rank (g y)) (sym d.2) ∙ ap rank (told d.0) in
      subst (λ y. rank (g x) < y) (sym high) (subst (λ y. y < rank d.0) (sym low) (rise d.0 k.0 (a, d.1) k.1))

  rises_back : (rank : ℕ → ℕ) (p : Node) → Rises rank (renamed_node p) → Rises (λ n. rank (f n)) p
  rises_back rank p rise n x (a, hd) (b, hx) = rise (f n) (f x) (a, map_get f p.drives a n hd) (b, map_get (renamed_bit f) p.needs b (Net x) hx)

  comb_renamed : (c : Comb) → comb_node (renamed_comb f c) ≡ renamed_node (comb_node c)
  comb_renamed c =
      let needs = sym (bits_joined f g told (c.a ++ c.b) c.s ∙ ap (λ r. r ++ renamed_bits f c.s) (bits_joined f g told c.a c.b)) in
      λ i. record { drives = map f c.y; needs = needs i }

  read_needs_renamed : (c : Option Clock) (r : RdPort) → read_needs (renamed_read_clock f c) (renamed_read f r) ≡ renamed_bits f (read_needs c r)
  read_needs_renamed None r = refl
  read_needs_renamed (Some c) r = refl

  read_renamed : (r : RdPort) → read_node (renamed_read f r) ≡ renamed_node (read_node r)
  read_renamed r =
      let needs = read_needs_renamed r.clock r in
      λ i. record { drives = map f r.out; needs = needs i }

  slot_needs_renamed : (now : Bool) (s : SlotUse) → cond now (renamed_bits f s.addr) (renamed_bit f s.arst ∷ []) ≡ renamed_bits f (cond now s.addr (s.arst ∷ []))
  slot_needs_renamed true s = refl
  slot_needs_renamed false s = refl

  slot_renamed : (s : SlotUse) → slot_node (renamed_slot f s) ≡ renamed_node (slot_node s)
  slot_renamed s =
      let needs = slot_needs_renamed s.reads_now s in
      λ i. record { drives = map f s.out; needs = needs i }

  order_forth : (m : Module) → Ordered m → Ordered (renamed f m)
  order_forth m o = record {
    rank = λ n. o.rank (g n);
    combs = λ i c h.
        let a = map_at (renamed_comb f) m.combs i c h in
        subst (λ d. Rises (λ n. o.rank (g n)) (comb_node d)) a.2 (subst (Rises (λ n. o.rank (g n))) (sym (comb_renamed a.0)) (rises_forth o.rank (comb_node a.0) (o.combs i a.0 a.1)));
    regs = λ i r h.
        let a = map_at (renamed_reg f) m.regs i r h in
        subst (λ d. Rises (λ n. o.rank (g n)) (reg_node d)) a.2 (rises_forth o.rank (reg_node a.0) (o.regs i a.0 a.1));
    reads = λ i x hx j r hr.
        let a = map_at (renamed_mem f) m.mems i x hx in
        let b = map_at (renamed_read f) a.0.reads j r (subst (λ (y : Mem). slice_get y.reads j ≡ Some r) (sym a.2) hr) in
        subst (λ d. Rises (λ n. o.rank (g n)) (read_node d)) b.2 (subst (Rises (λ n. o.rank (g n))) (sym (read_renamed b.0)) (rises_forth o.rank (read_node b.0) (o.reads i a.0 a.1 j b.0 b.1)));
    slots = λ i c hc j s hs.
        let a = map_at (renamed_ram f) m.rams i c hc in
        let b = map_at (renamed_slot f) a.0.slots j s (subst (λ (y : RamCell). slice_get y.slots j ≡ Some s) (sym a.2) hs) in
        subst (λ d. Rises (λ n. o.rank (g n)) (slot_node d)) b.2 (subst (Rises (λ n. o.rank (g n))) (sym (slot_renamed b.0)) (rises_forth o.rank (slot_node b.0) (o.slots i a.0 a.1 j b.0 b.1)));
  }

  order_back : (m : Module) → Ordered (renamed f m) → Ordered m
  order_back m o = record {
    rank = λ n. o.rank (f n);
    combs = λ i c h. rises_back o.rank (comb_node c) (subst (Rises o.rank) (comb_renamed c) (o.combs i (renamed_comb f c) (map_get (renamed_comb f) m.combs i c h)));
    regs = λ i r h. rises_back o.rank (reg_node r) (o.regs i (renamed_reg f r) (map_get (renamed_reg f) m.regs i r h));
    reads = λ i x hx j r hr. rises_back o.rank (read_node r) (subst (Rises o.rank) (read_renamed r) (o.reads i (renamed_mem f x) (map_get (renamed_mem f) m.mems i x hx) j (renamed_read f r) (map_get (renamed_read f) x.reads j r hr)));
    slots = λ i c hc j s hs. rises_back o.rank (slot_node s) (subst (Rises o.rank) (slot_renamed s) (o.slots i (renamed_ram f c) (map_get (renamed_ram f) m.rams i c hc) j (renamed_slot f s) (map_get (renamed_slot f) c.slots j s hs)));
  }

pub renaming_refines : RenamingRefines
renaming_refines lib modules m f g told = (
  record {
    frame = record { name = refl; attrs = refl; ports = ports_kept f g told m; carried = carried_all f g told m; joins = joins_kept f g told modules m; roots = roots_back f g told m };
    traces = λ events outs. (renaming_keeps_traces lib m f g told events outs).0;
  },
  record {
    frame = record { name = refl; attrs = refl; ports = sym (ports_kept f g told m); carried = sym (carried_all f g told m); joins = λ i j. sym (joins_kept f g told modules m i j); roots = roots_forth f g told m };
    traces = λ events outs. (renaming_keeps_traces lib m f g told events outs).1;
  },
)

pub renaming_keeps_order : RenamingKeepsOrder
renaming_keeps_order m f g told = (order_forth f g told m, order_back f g told m)
