-- Each run of a module whose readers read other bits is one of the module.
use Rattle.std.proofs.Common.{◌≡◌, ℕ, suc, Bool, true, false, cond, not, ◌&&◌, List, [], ◌∷◌, ◌++◌, map, length, Option, Some, None, refl, sym, ap, ◌∙◌, subst, leb}
use Rattle.std.specs.Prelude.{slice_get}
use Rattle.std.specs.List.{filter, flat_map}
use Rattle.lib_core.specs.declared.library.Library.{Library}
use Rattle.net_core.specs.declared.bits.Bit.{Bit}
use Rattle.net_core.specs.declared.bits.Bit.TheVariants.{Zero, One, Net}
use Rattle.net_core.specs.declared.bits.Clock.{Clock}
use Rattle.net_core.specs.declared.cells.Comb.{Comb}
use Rattle.net_core.specs.declared.cells.Reg.{Reg}
use Rattle.net_core.specs.declared.cells.Pin.{Pin}
use Rattle.net_core.specs.declared.cells.Carried.{Carried}
use Rattle.net_core.specs.declared.mems.Mem.{Mem}
use Rattle.net_core.specs.declared.mems.RdPort.{RdPort}
use Rattle.net_core.specs.declared.mems.WrPort.{WrPort}
use Rattle.net_core.specs.declared.rams.RamCell.{RamCell}
use Rattle.net_core.specs.declared.rams.SlotUse.{SlotUse}
use Rattle.net_core.specs.declared.modules.Wire.{Wire}
use Rattle.net_core.specs.declared.modules.Module.{Module}
use Rattle.net_core.specs.Values.{Wave, Happening, value_of, values_of}
use Rattle.net_core.specs.Cells.{RegAllows}
use Rattle.net_core.specs.Memory.{MemAllows}
use Rattle.net_core.specs.Ram.{RamAllows}
use Rattle.net_core.specs.Nodes.{HasNet}
use Rattle.net_core.specs.Ports.{Interface, is_input_wire, is_output_wire, is_inout, is_port, insert_port, by_port, wire_bits, bits_of_pins, driving_bits, reading_bits, nets_of, inputs_of, outputs_of, face_of, pin_face, carried_face, is_inout_pin, inout_pin_bits, inout_bits, are_joined, clocks_of, mem_clocks, ram_clocks, read_clock, IsClockRoot}
use Rattle.net_core.specs.Runs.{Run}
use Rattle.net_core.specs.Alike.{SameBit, SameBits, SameNets, SamePlaces, SameClock, SameReadClock, CombsAlike, RegsAlike, ReadsAlike, WritesAlike, MemsAlike, UsesAlike}
use Rattle.net_core.proofs.AlikeCells.{comb_alike, reg_alike, mem_alike}
use Rattle.net_core.proofs.AlikeRams.{ram_alike}
use Rattle.net_core.proofs.Basics.{has_left, has_right}
use Rattle.net_core.proofs.Ordering.{map_get, comb_place, reg_place, read_place, slot_place}
use Rattle.net_core.proofs.RenamedNets.{map_joined}
use Rattle.net_edit.specs.Aliases.{IsOwn, IsRedirection, RedirectedSimulates}
use Rattle.net_edit.specs.Redirect.{bit_read, bits_read, redirected_comb, redirected_reg, redirected_read, redirected_write, redirected_mem, redirected_slot, redirected_ram, redirected_pin, redirected_carried, redirected_wire, redirected}

-- ---- lists

filter_as : {X : Type 0} (p : X → Bool) (h j : X → X) → ((x : X) → p (h x) ≡ p x) → ((x : X) → p x ≡ true → h x ≡ j x) → (xs : List X) → filter p (map h xs) ≡ map j (filter p xs)
filter_as p h j e same [] = refl
filter_as p h j e same (x ∷ xs) =
    let rest = filter_as p h j e same xs in
    ap (λ b. cond b (h x ∷ filter p (map h xs)) (filter p (map h xs))) (e x) ∙ by_test (p x) (same x) rest
  where
    by_test : (b : Bool) → (b ≡ true → h x ≡ j x) → filter p (map h xs) ≡ map j (filter p xs) → cond b (h x ∷ filter p (map h xs)) (filter p (map h xs)) ≡ map j (cond b (x ∷ filter p xs) (filter p xs))
    by_test true s rest = (λ i. s refl i ∷ rest i)
    by_test false s rest = rest

map_same : {X : Type 0} (xs : List X) → map (λ x. x) xs ≡ xs
map_same [] = refl
map_same (x ∷ xs) = ap (λ l. x ∷ l) (map_same xs)

-- items that are kept by a test are as they were
filter_kept : {X : Type 0} (p : X → Bool) (h : X → X) → ((x : X) → p (h x) ≡ p x) → ((x : X) → p x ≡ true → h x ≡ x) → (xs : List X) → filter p (map h xs) ≡ filter p xs
filter_kept p h e same xs = filter_as p h (λ x. x) e same xs ∙ map_same (filter p xs)

and_first : (a b : Bool) → (a && b) ≡ true → a ≡ true
and_first true b h = refl
and_first false b h = h

and_second : (a b : Bool) → (a && b) ≡ true → b ≡ true
and_second true b h = h
and_second false b h = cc

not_false : (b : Bool) → not b ≡ true → b ≡ false
not_false true h = cc
not_false false h = refl

length_bits : (reads : List Bit) (bits : List Bit) → length (bits_read reads bits) ≡ length bits
length_bits reads [] = refl
length_bits reads (b ∷ bs) = ap suc (length_bits reads bs)

-- bits that are read as themselves
own_bits : (reads : List Bit) (bits : List Bit) → ((n : ℕ) → HasNet bits n → IsOwn reads n) → bits_read reads bits ≡ bits
own_bits reads [] h = refl
own_bits reads (b ∷ bs) h =
    let rest = own_bits reads bs (λ n (k, at). h n (suc k, at)) in
    let first = one b (λ n e. h n (0, ap Some e)) in
    (λ i. first i ∷ rest i)
  where
    one : (b : Bit) → ((n : ℕ) → b ≡ Net n → IsOwn reads n) → bit_read reads b ≡ b
    one Zero g = refl
    one One g = refl
    one (Net n) g = g n refl

-- ---- wires and pins

module _ (reads : List Bit) where
  abbrev read_wire : Wire → Wire
  read_wire w = record w { bits = bits_read reads w.bits }

  abbrev read_pin : Pin → Pin
  read_pin p = record p { bits = bits_read reads p.bits }

  kept_wire : (w : Wire) → w.input ≡ true → redirected_wire reads w ≡ w
  kept_wire w e = ap (λ (b : Bool). record w { bits = cond b w.bits (bits_read reads w.bits) }) e

  changed_wire : (w : Wire) → w.input ≡ false → redirected_wire reads w ≡ read_wire w
  changed_wire w e = ap (λ (b : Bool). record w { bits = cond b w.bits (bits_read reads w.bits) }) e

  kept_pin : (p : Pin) → p.drives ≡ true → redirected_pin reads p ≡ p
  kept_pin p e = ap (λ (b : Bool). record p { bits = cond b p.bits (bits_read reads p.bits) }) e

  changed_pin : (p : Pin) → p.drives ≡ false → redirected_pin reads p ≡ read_pin p
  changed_pin p e = ap (λ (b : Bool). record p { bits = cond b p.bits (bits_read reads p.bits) }) e

  input_wires : (ws : List Wire) → filter is_input_wire (map (redirected_wire reads) ws) ≡ filter is_input_wire ws
  input_wires ws = filter_kept is_input_wire (redirected_wire reads) (λ w. refl) (λ w h. kept_wire w (and_first w.input (not w.output) h)) ws

  inout_wires : (ws : List Wire) → filter is_inout (map (redirected_wire reads) ws) ≡ filter is_inout ws
  inout_wires ws = filter_kept is_inout (redirected_wire reads) (λ w. refl) (λ w h. kept_wire w (and_first w.input w.output h)) ws

  output_wires : (ws : List Wire) → filter is_output_wire (map (redirected_wire reads) ws) ≡ map read_wire (filter is_output_wire ws)
  output_wires ws = filter_as is_output_wire (redirected_wire reads) read_wire (λ w. refl) (λ w h. changed_wire w (not_false w.input (and_second w.output (not w.input) h))) ws

  insert_read : (x : Wire) (xs : List Wire) → insert_port (read_wire x) (map read_wire xs) ≡ map read_wire (insert_port x xs)
  insert_read x [] = refl
  insert_read x (y ∷ ys) =
      let P : Bool → Type 0 = λ b. cond b (read_wire x ∷ map read_wire (y ∷ ys)) (read_wire y ∷ insert_port (read_wire x) (map read_wire ys)) ≡ map read_wire (cond b (x ∷ y ∷ ys) (y ∷ insert_port x ys)) in
      elim (leb x.port y.port) as P [ true ↦ refl | false ↦ ap (λ r. read_wire y ∷ r) (insert_read x ys) ]

  ports_read : (xs : List Wire) → by_port (map read_wire xs) ≡ map read_wire (by_port xs)
  ports_read [] = refl
  ports_read (x ∷ xs) = ap (insert_port (read_wire x)) (ports_read xs) ∙ insert_read x (by_port xs)

  joined : (xs ys : List Bit) → bits_read reads (xs ++ ys) ≡ bits_read reads xs ++ bits_read reads ys
  joined xs ys = map_joined (bit_read reads) xs ys

  wires_read : (ws : List Wire) → wire_bits (map read_wire ws) ≡ bits_read reads (wire_bits ws)
  wires_read [] = refl
  wires_read (x ∷ xs) = ap (λ r. bits_read reads x.bits ++ r) (wires_read xs) ∙ sym (joined x.bits (wire_bits xs))

  pins_read : (ps : List Pin) → bits_of_pins (map read_pin ps) ≡ bits_read reads (bits_of_pins ps)
  pins_read [] = refl
  pins_read (p ∷ ps) = ap (λ r. bits_read reads p.bits ++ r) (pins_read ps) ∙ sym (joined p.bits (bits_of_pins ps))

  driving_kept : (cs : List Carried) → flat_map driving_bits (map (redirected_carried reads) cs) ≡ flat_map driving_bits cs
  driving_kept [] = refl
  driving_kept (c ∷ cs) =
      let one = ap bits_of_pins (filter_kept (λ (p : Pin). p.drives) (redirected_pin reads) (λ p. refl) (λ p h. kept_pin p h) c.pins) in
      let rest = driving_kept cs in
      (λ i. one i ++ rest i)

  reading_read : (cs : List Carried) → flat_map reading_bits (map (redirected_carried reads) cs) ≡ bits_read reads (flat_map reading_bits cs)
  reading_read [] = refl
  reading_read (c ∷ cs) =
      let one = ap bits_of_pins (filter_as (λ (p : Pin). not p.drives) (redirected_pin reads) read_pin (λ p. refl) (λ p h. changed_pin p (not_false p.drives h)) c.pins) ∙ pins_read (filter (λ (p : Pin). not p.drives) c.pins) in
      let rest = reading_read cs in
      (λ i. one i ++ rest i) ∙ sym (joined (reading_bits c) (flat_map reading_bits cs))

  pub inputs_kept : (m : Module) → inputs_of (redirected reads m) ≡ inputs_of m
  inputs_kept m =
      let wires = input_wires m.wires in
      let cells = driving_kept m.carried in
      (λ i. nets_of (wire_bits (by_port (wires i)) ++ cells i))

  outputs_read : (m : Module) → outputs_of (redirected reads m) ≡ bits_read reads (outputs_of m)
  outputs_read m =
      let outs = filter is_output_wire m.wires in
      let wires = ap (λ ws. wire_bits (by_port ws)) (output_wires m.wires) ∙ ap wire_bits (ports_read outs) ∙ wires_read (by_port outs) in
      let cells = reading_read m.carried in
      (λ i. wires i ++ cells i) ∙ sym (joined (wire_bits (by_port outs)) (flat_map reading_bits m.carried))

  -- ---- what surrounds the module

  same_width : (b : Bool) (bits : List Bit) → length (cond b bits (bits_read reads bits)) ≡ length bits
  same_width true bits = refl
  same_width false bits = length_bits reads bits

  faces_kept : (ws : List Wire) → map face_of (filter is_port (map (redirected_wire reads) ws)) ≡ map face_of (filter is_port ws)
  faces_kept [] = refl
  faces_kept (w ∷ ws) =
      let rest = faces_kept ws in
      let P : Bool → Type 0 = λ b. map face_of (cond b (redirected_wire reads w ∷ filter is_port (map (redirected_wire reads) ws)) (filter is_port (map (redirected_wire reads) ws))) ≡ map face_of (cond b (w ∷ filter is_port ws) (filter is_port ws)) in
      let one = same_width w.input w.bits in
      elim (is_port w) as P [
        | true ↦ (λ i. record { name = w.name; port = w.port; input = w.input; output = w.output; offset = w.offset; upto = w.upto; signed = w.signed; width = one i } ∷ rest i)
        | false ↦ rest
      ]

  pin_faces : (ps : List Pin) → map pin_face (map (redirected_pin reads) ps) ≡ map pin_face ps
  pin_faces [] = refl
  pin_faces (p ∷ ps) =
      let rest = pin_faces ps in
      let one = same_width p.drives p.bits in
      (λ i. record { name = p.name; drives = p.drives; width = one i } ∷ rest i)

  cell_faces : (cs : List Carried) → map carried_face (map (redirected_carried reads) cs) ≡ map carried_face cs
  cell_faces [] = refl
  cell_faces (c ∷ cs) =
      let rest = cell_faces cs in
      let one = pin_faces c.pins in
      (λ i. record { name = c.name; kind = c.kind; attrs = c.attrs; params = c.params; pins = one i } ∷ rest i)

  inout_pins : (test : Pin → Bool) → ((p : Pin) → test (redirected_pin reads p) ≡ test p) → (ps : List Pin) → ((n : ℕ) → HasNet (bits_of_pins (filter test ps)) n → IsOwn reads n) → bits_of_pins (filter test (map (redirected_pin reads) ps)) ≡ bits_of_pins (filter test ps)
  inout_pins test e [] own = refl
  inout_pins test e (p ∷ ps) own =
      ap (λ b. bits_of_pins (cond b (redirected_pin reads p ∷ filter test (map (redirected_pin reads) ps)) (filter test (map (redirected_pin reads) ps)))) (e p)
      ∙ by_test (test p) own (λ more. inout_pins test e ps more)
    where
      either_bits : (b : Bool) (bits : List Bit) → ((n : ℕ) → HasNet bits n → IsOwn reads n) → cond b bits (bits_read reads bits) ≡ bits
      either_bits true bits h = refl
      either_bits false bits h = own_bits reads bits h

      by_test : (b : Bool) → ((n : ℕ) → HasNet (bits_of_pins (cond b (p ∷ filter test ps) (filter test ps))) n → IsOwn reads n) → (((n : ℕ) → HasNet (bits_of_pins (filter test ps)) n → IsOwn reads n) → bits_of_pins (filter test (map (redirected_pin reads) ps)) ≡ bits_of_pins (filter test ps)) → bits_of_pins (cond b (redirected_pin reads p ∷ filter test (map (redirected_pin reads) ps)) (filter test (map (redirected_pin reads) ps))) ≡ bits_of_pins (cond b (p ∷ filter test ps) (filter test ps))
      by_test true h rest =
          let one = either_bits p.drives p.bits (λ n at. h n (has_left p.bits (bits_of_pins (filter test ps)) n at)) in
          let more = rest (λ n at. h n (has_right p.bits (bits_of_pins (filter test ps)) n at)) in
          (λ i. one i ++ more i)
      by_test false h rest = rest h

  inout_cells : (modules : List Interface) (cs : List Carried) → ((n : ℕ) → HasNet (flat_map (inout_pin_bits modules) cs) n → IsOwn reads n) → flat_map (inout_pin_bits modules) (map (redirected_carried reads) cs) ≡ flat_map (inout_pin_bits modules) cs
  inout_cells modules [] own = refl
  inout_cells modules (c ∷ cs) own =
      let one = inout_pins (λ (p : Pin). is_inout_pin modules c.kind p.name) (λ p. refl) c.pins (λ n at. own n (has_left (inout_pin_bits modules c) (flat_map (inout_pin_bits modules) cs) n at)) in
      let rest = inout_cells modules cs (λ n at. own n (has_right (inout_pin_bits modules c) (flat_map (inout_pin_bits modules) cs) n at)) in
      (λ i. one i ++ rest i)

  joins_kept : (modules : List Interface) (m : Module) → ((n : ℕ) → HasNet (inout_bits modules m) n → IsOwn reads n) → inout_bits modules (redirected reads m) ≡ inout_bits modules m
  joins_kept modules m own =
      let wires = inout_wires m.wires in
      let cells = inout_cells modules m.carried (λ n at. own n (has_right (wire_bits (filter is_inout m.wires)) (flat_map (inout_pin_bits modules) m.carried) n at)) in
      (λ i. wire_bits (wires i) ++ cells i)

  -- ---- clocks

  maps_same : {X Y : Type 0} (f : X → Y) (h : X → X) → ((x : X) → f (h x) ≡ f x) → (xs : List X) → map f (map h xs) ≡ map f xs
  maps_same f h e [] = refl
  maps_same f h e (x ∷ xs) = (λ i. e x i ∷ maps_same f h e xs i)

  flats_same : {X Y : Type 0} (f : X → List Y) (h : X → X) → ((x : X) → f (h x) ≡ f x) → (xs : List X) → flat_map f (map h xs) ≡ flat_map f xs
  flats_same f h e [] = refl
  flats_same f h e (x ∷ xs) = (λ i. e x i ++ flats_same f h e xs i)

  mem_clocks_kept : (x : Mem) → mem_clocks (redirected_mem reads x) ≡ mem_clocks x
  mem_clocks_kept x =
      let a = flats_same (λ (r : RdPort). read_clock r.clock) (redirected_read reads) (λ r. refl) x.reads in
      let b = maps_same (λ (w : WrPort). w.clock) (redirected_write reads) (λ w. refl) x.writes in
      (λ i. a i ++ b i)

  ram_clocks_kept : (c : RamCell) → ram_clocks (redirected_ram reads c) ≡ ram_clocks c
  ram_clocks_kept c = maps_same (λ (s : SlotUse). s.clock) (redirected_slot reads) (λ s. refl) c.slots

  clocks_kept : (m : Module) → clocks_of (redirected reads m) ≡ clocks_of m
  clocks_kept m =
      let a = maps_same (λ (r : Reg). r.clock) (redirected_reg reads) (λ r. refl) m.regs in
      let b = flats_same mem_clocks (redirected_mem reads) mem_clocks_kept m.mems in
      let c = flats_same ram_clocks (redirected_ram reads) ram_clocks_kept m.rams in
      (λ i. a i ++ (b i ++ c i))

  root_kept : (m : Module) (place : ℕ) → IsClockRoot (redirected reads m) place → IsClockRoot m place
  root_kept m place root = record {
    net = root.net;
    rising = root.rising;
    clock = root.clock;
    input = ap (λ l. slice_get l place) (sym (inputs_kept m)) ∙ root.input;
    used = ap (λ l. slice_get l root.clock) (sym (clocks_kept m)) ∙ root.used;
  }

  -- ---- runs

  module _ (v : Wave) where
    -- the wave as the old readers see it
    abbrev seen : Wave
    seen t n = value_of (v t) (bit_read reads (Net n))

    bit_same : (b : Bit) → SameBit v seen (bit_read reads b) b
    bit_same Zero t = refl
    bit_same One t = refl
    bit_same (Net n) t = refl

    bits_same : (bs : List Bit) → SameBits v seen (bits_read reads bs) bs
    bits_same [] t = refl
    bits_same (b ∷ bs) t = (λ i. bit_same b t i ∷ bits_same bs t i)

    places_same : (bs : List Bit) → SamePlaces v seen (bits_read reads bs) bs
    places_same bs k c h = (bit_read reads c, map_get (bit_read reads) bs k c h, bit_same c)

    nets_same : (ns : List ℕ) → ((k n : ℕ) → slice_get ns k ≡ Some n → IsOwn reads n) → SameNets v seen ns ns
    nets_same ns own k o h = (o, h, λ t. ap (value_of (v t)) (own k o h))

    clock_same : (ins : List ℕ) (c : Clock) → SameClock ins ins c c
    clock_same ins c e = refl

    read_clock_same : (ins : List ℕ) (c : Option Clock) → SameReadClock ins ins c c
    read_clock_same ins None = tt
    read_clock_same ins (Some c) = clock_same ins c

    comb_same : (c : Comb) → ((k n : ℕ) → slice_get c.y k ≡ Some n → IsOwn reads n) → CombsAlike v seen (redirected_comb reads c) c
    comb_same c own = record { kind = refl; signed = refl; a = bits_same c.a; b = bits_same c.b; s = bits_same c.s; width = refl; y = nets_same c.y own }

    reg_same : (ins : List ℕ) (r : Reg) → ((k n : ℕ) → slice_get r.q k ≡ Some n → IsOwn reads n) → RegsAlike ins ins v seen (redirected_reg reads r) r
    reg_same ins r own = record { kind = refl; clock = clock_same ins r.clock; en = bit_same r.en; en_high = refl; arst = bit_same r.arst; arst_high = refl; arst_value = refl; srst = bit_same r.srst; srst_high = refl; srst_value = refl; init = refl; d = places_same r.d; q = nets_same r.q own }

    read_same : (ins : List ℕ) (r : RdPort) → ((k n : ℕ) → slice_get r.out k ≡ Some n → IsOwn reads n) → ReadsAlike ins ins v seen (redirected_read reads r) r
    read_same ins r own = record { clock = read_clock_same ins r.clock; en = bit_same r.en; addr = bits_same r.addr; out = nets_same r.out own; arst = bit_same r.arst; srst = bit_same r.srst; arst_value = refl; srst_value = refl; init_value = refl; ce_over_srst = refl; trans = refl; coll = refl }

    writes_same : (ins : List ℕ) (ps : List WrPort) → WritesAlike ins ins v seen (map (redirected_write reads) ps) ps
    writes_same ins [] = tt
    writes_same ins (p ∷ ps) = (record { wide = refl; prio = refl; clock = clock_same ins p.clock; en = bits_same p.en; addr = bits_same p.addr; value = bits_same p.value }, writes_same ins ps)

    mem_same : (ins : List ℕ) (x : Mem) → ((j : ℕ) (r : RdPort) → slice_get x.reads j ≡ Some r → (k n : ℕ) → slice_get r.out k ≡ Some n → IsOwn reads n) → MemsAlike ins ins v seen (redirected_mem reads x) x
    mem_same ins x own = record {
      width = refl;
      size = refl;
      offset = refl;
      init = refl;
      writes = writes_same ins x.writes;
      reads = λ j p h. (redirected_read reads p, map_get (redirected_read reads) x.reads j p h, read_same ins p (own j p h));
    }

    uses_same : (ins : List ℕ) (ss : List SlotUse) → ((j : ℕ) (s : SlotUse) → slice_get ss j ≡ Some s → (k n : ℕ) → slice_get s.out k ≡ Some n → IsOwn reads n) → UsesAlike ins ins v seen (map (redirected_slot reads) ss) ss
    uses_same ins [] own = tt
    uses_same ins (s ∷ ss) own = (record { used = refl; level = refl; clock = clock_same ins s.clock; clken = bit_same s.clken; addr = bits_same s.addr; rden = bit_same s.rden; srst = bit_same s.srst; arst = bit_same s.arst; out = nets_same s.out (own 0 s refl); value = bits_same s.value; wren = bits_same s.wren; wrbe = bits_same s.wrbe; srst_value = refl; arst_value = refl; init_value = refl }, uses_same ins ss (λ j p h. own (suc j) p h))

    run_seen : (lib : Library) (modules : List Interface) (m : Module) (events : List Happening) → IsRedirection modules m reads → Run lib (redirected reads m) events v → Run lib m events seen
    run_seen lib modules m events own run =
        let ins = inputs_of m in
        record {
          inputs = λ t e at k n b hn hb. ap (value_of (v t)) (own.inputs k n hn) ∙ run.inputs t e at k n b (ap (λ l. slice_get l k) (inputs_kept m) ∙ hn) hb;
          combs = λ i c at. let (j, there) = comb_place m i c at in comb_alike events v seen (redirected_comb reads c) c (comb_same c (λ k n h. own.nodes j _ there n (k, h))) (run.combs i (redirected_comb reads c) (map_get (redirected_comb reads) m.combs i c at));
          regs = λ i r at. let (j, there) = reg_place m i r at in reg_alike ins ins events v seen (redirected_reg reads r) r (reg_same ins r (λ k n h. own.nodes j _ there n (k, h))) (subst (λ ns. RegAllows ns (redirected_reg reads r) events v) (inputs_kept m) (run.regs i (redirected_reg reads r) (map_get (redirected_reg reads) m.regs i r at)));
          mems = λ i x at. mem_alike ins ins events v seen (redirected_mem reads x) x (mem_same ins x (λ j r here k n h. let (a, there) = read_place m i x at j r here in own.nodes a _ there n (k, h))) (subst (λ ns. MemAllows ns (redirected_mem reads x) events v) (inputs_kept m) (run.mems i (redirected_mem reads x) (map_get (redirected_mem reads) m.mems i x at)));
          rams = λ i c at x is. ram_alike ins ins v seen events x (redirected_ram reads c) c (record { slots = uses_same ins c.slots (λ j s here k n h. let (a, there) = slot_place m i c at j s here in own.nodes a _ there n (k, h)); init = refl }) (subst (λ ns. RamAllows ns x (redirected_ram reads c) events v) (inputs_kept m) (run.rams i (redirected_ram reads c) (map_get (redirected_ram reads) m.rams i c at) x is));
        }

pub redirected_simulates : RedirectedSimulates
redirected_simulates lib modules m reads hidden own but = record {
  frame = record {
    name = refl;
    attrs = refl;
    ports = faces_kept reads m.wires;
    carried = cell_faces reads m.carried;
    joins = λ i j. ap (λ bits. are_joined bits i j) (joins_kept reads modules m own.inouts);
    roots = root_kept reads m;
  };
  runs = λ events v run. record {
    wave = seen reads v;
    run = run_seen reads v lib modules m events own run;
    same = λ t n off. sym (ap (value_of (v t)) (but n off));
    shows = λ t e at. ap (values_of (v t)) (outputs_read reads m) ∙ sym (bits_same reads v (outputs_of m) t);
  };
}
