-- A module with its nets renamed allows a wave exactly where the module allows the renamed wave, and has the same traces.
use Rattle.std.proofs.Common.{◌≡◌, ℕ, zero, suc, Bool, true, false, cond, not, ◌&&◌, inl, inr, List, [], ◌∷◌, ◌++◌, map, length, Option, Some, None, refl, sym, ap, ◌∙◌, subst, eqb, leb}
use Rattle.std.specs.Prelude.{slice_get}
use Rattle.std.specs.List.{filter, flat_map}
use Rattle.std.proofs.lemmas.Bool.{eq-eqb, ne_eqb, cases_eq}
use Rattle.lib_core.specs.declared.library.Library.{Library}
use Rattle.net_core.specs.declared.bits.Bit.{Bit}
use Rattle.net_core.specs.declared.bits.Bit.TheVariants.{Zero, One, Net}
use Rattle.net_core.specs.declared.bits.Clock.{Clock}
use Rattle.net_core.specs.declared.bits.Clock.TheVariants.{Root, Never}
use Rattle.net_core.specs.declared.cells.Comb.{Comb}
use Rattle.net_core.specs.declared.cells.Reg.{Reg}
use Rattle.net_core.specs.declared.cells.Pin.{Pin}
use Rattle.net_core.specs.declared.cells.Carried.{Carried}
use Rattle.net_core.specs.declared.mems.Mem.{Mem}
use Rattle.net_core.specs.declared.mems.RdPort.{RdPort}
use Rattle.net_core.specs.declared.mems.WrPort.{WrPort}
use Rattle.net_core.specs.declared.rams.SlotUse.{SlotUse}
use Rattle.net_core.specs.declared.modules.Wire.{Wire}
use Rattle.net_core.specs.declared.modules.Module.{Module}
use Rattle.net_core.specs.Values.{Wave, Happening, value_of, is_input, same_bool, has_edge}
use Rattle.net_core.specs.Cells.{CombAllows, RegAllows}
use Rattle.net_core.specs.Memory.{MemAllows}
use Rattle.net_core.specs.Ram.{RamAllows}
use Rattle.net_core.specs.Ports.{is_input_wire, is_output_wire, insert_port, by_port, wire_bits, bits_of_pins, driving_bits, reading_bits, nets_of, input_bits, inputs_of, outputs_of}
use Rattle.net_core.specs.Runs.{variant_of, Run, shown}
use Rattle.net_core.specs.Alike.{SameBit, SameBits, SameNets, SamePlaces, SameClock, SameReadClock, CombsAlike, RegsAlike, ReadsAlike, WritesAlike, MemsAlike, UsesAlike}
use Rattle.net_core.specs.Renaming.{renamed_bit, renamed_bits, renamed_clock, renamed_read_clock, renamed_comb, renamed_reg, renamed_read, renamed_write, renamed_mem, renamed_slot, renamed_ram, renamed_pin, renamed_carried, renamed_wire, renamed, IsTold, RenamingKeepsRuns, RenamingKeepsTraces}
use Rattle.net_core.proofs.Ordering.{map_at, map_get}
use Rattle.net_core.proofs.AlikeCells.{comb_alike, reg_alike, mem_alike}
use Rattle.net_core.proofs.AlikeRams.{ram_alike}

pub map_joined : {X Y : Type 0} (h : X → Y) (xs ys : List X) → map h (xs ++ ys) ≡ map h xs ++ map h ys
map_joined h [] ys = refl
map_joined h (x ∷ xs) ys = ap (λ r. h x ∷ r) (map_joined h xs ys)

pub filter_map_same : {X : Type 0} (p : X → Bool) (h : X → X) → ((x : X) → p (h x) ≡ p x) → (xs : List X) → filter p (map h xs) ≡ map h (filter p xs)
filter_map_same p h e [] = refl
filter_map_same p h e (x ∷ xs) =
    let P : Bool → Type 0 = λ b. cond b (h x ∷ filter p (map h xs)) (filter p (map h xs)) ≡ map h (cond b (x ∷ filter p xs) (filter p xs)) in
    let rest = filter_map_same p h e xs in
    let f : P (p x) = elim (p x) as P [ true ↦ ap (λ r. h x ∷ r) rest | false ↦ rest ] in
    ap (λ b. cond b (h x ∷ filter p (map h xs)) (filter p (map h xs))) (e x) ∙ f

module _ (f g : ℕ → ℕ) (told : IsTold f g) where
  pub net_test : (n k : ℕ) → eqb (f n) (f k) ≡ eqb n k
  net_test n k =
      elim (cases_eq n k) [
        | inl e ↦ eq-eqb (f n) (f k) (ap f e) ∙ sym (eq-eqb n k e)
        | inr ne ↦ ne_eqb (f n) (f k) (λ e. ne (sym (told n) ∙ ap g e ∙ told k)) ∙ sym (ne_eqb n k ne)
      ]

  input_renamed : (ns : List ℕ) (place net : ℕ) → is_input (map f ns) place (f net) ≡ is_input ns place net
  input_renamed [] place net = refl
  input_renamed (n ∷ ns) zero net = net_test n net
  input_renamed (n ∷ ns) (suc place) net = input_renamed ns place net

  edge_renamed : (ns : List ℕ) (c : Clock) (e : Option (ℕ × Bool)) → has_edge (map f ns) e (renamed_clock f c) ≡ has_edge ns e c
  edge_renamed ns Never None = refl
  edge_renamed ns Never (Some e) = refl
  edge_renamed ns (Root net rising) None = refl
  edge_renamed ns (Root net rising) (Some e) = ap (λ b. b && same_bool e.1 rising) (input_renamed ns e.0 net)

  module _ (w : Wave) (ns : List ℕ) where
    -- the wave as the module sees it
    abbrev back : Wave
    back t n = w t (f n)

    bit_same : (b : Bit) → SameBit back w b (renamed_bit f b)
    bit_same Zero t = refl
    bit_same One t = refl
    bit_same (Net n) t = refl

    bits_same : (bs : List Bit) → SameBits back w bs (renamed_bits f bs)
    bits_same [] t = refl
    bits_same (b ∷ bs) t =
        let one = bit_same b t in
        let rest = bits_same bs t in
        cc

    nets_to : (os : List ℕ) → SameNets back w os (map f os)
    nets_to os k o h = let a = map_at f os k o h in (a.0, a.1, λ t. ap (w t) (sym a.2))

    nets_from : (os : List ℕ) → SameNets w back (map f os) os
    nets_from os k o h = (f o, map_get f os k o h, λ t. refl)

    places_to : (bs : List Bit) → SamePlaces back w bs (renamed_bits f bs)
    places_to bs k c h = let a = map_at (renamed_bit f) bs k c h in (a.0, a.1, λ t. ap (value_of (w t)) (sym a.2) ∙ bit_same a.0 t)

    places_from : (bs : List Bit) → SamePlaces w back (renamed_bits f bs) bs
    places_from bs k c h = (renamed_bit f c, map_get (renamed_bit f) bs k c h, λ t. sym (bit_same c t))

    bit_from : (b : Bit) → SameBit w back (renamed_bit f b) b
    bit_from b t = sym (bit_same b t)

    bits_from : (bs : List Bit) → SameBits w back (renamed_bits f bs) bs
    bits_from bs t = sym (bits_same bs t)

    clock_to : (c : Clock) → SameClock ns (map f ns) c (renamed_clock f c)
    clock_to c e = edge_renamed ns c e

    clock_from : (c : Clock) → SameClock (map f ns) ns (renamed_clock f c) c
    clock_from c e = sym (edge_renamed ns c e)

    read_clock_to : (c : Option Clock) → SameReadClock ns (map f ns) c (renamed_read_clock f c)
    read_clock_to None = tt
    read_clock_to (Some c) = clock_to c

    read_clock_from : (c : Option Clock) → SameReadClock (map f ns) ns (renamed_read_clock f c) c
    read_clock_from None = tt
    read_clock_from (Some c) = clock_from c

    length_map : (os : List ℕ) → length (map f os) ≡ length os
    length_map [] = refl
    length_map (o ∷ os) = ap suc (length_map os)

    comb_to : (c : Comb) → CombsAlike back w c (renamed_comb f c)
    comb_to c = record { kind = refl; signed = refl; a = bits_same c.a; b = bits_same c.b; s = bits_same c.s; width = length_map c.y; y = nets_to c.y }

    comb_from : (c : Comb) → CombsAlike w back (renamed_comb f c) c
    comb_from c = record { kind = refl; signed = refl; a = bits_from c.a; b = bits_from c.b; s = bits_from c.s; width = sym (length_map c.y); y = nets_from c.y }

    reg_to : (r : Reg) → RegsAlike ns (map f ns) back w r (renamed_reg f r)
    reg_to r = record { kind = refl; clock = clock_to r.clock; en = bit_same r.en; en_high = refl; arst = bit_same r.arst; arst_high = refl; arst_value = refl; srst = bit_same r.srst; srst_high = refl; srst_value = refl; init = refl; d = places_to r.d; q = nets_to r.q }

    reg_from : (r : Reg) → RegsAlike (map f ns) ns w back (renamed_reg f r) r
    reg_from r = record { kind = refl; clock = clock_from r.clock; en = bit_from r.en; en_high = refl; arst = bit_from r.arst; arst_high = refl; arst_value = refl; srst = bit_from r.srst; srst_high = refl; srst_value = refl; init = refl; d = places_from r.d; q = nets_from r.q }

    read_to : (r : RdPort) → ReadsAlike ns (map f ns) back w r (renamed_read f r)
    read_to r = record { clock = read_clock_to r.clock; en = bit_same r.en; addr = bits_same r.addr; out = nets_to r.out; arst = bit_same r.arst; srst = bit_same r.srst; arst_value = refl; srst_value = refl; init_value = refl; ce_over_srst = refl; trans = refl; coll = refl }

    read_from : (r : RdPort) → ReadsAlike (map f ns) ns w back (renamed_read f r) r
    read_from r = record { clock = read_clock_from r.clock; en = bit_from r.en; addr = bits_from r.addr; out = nets_from r.out; arst = bit_from r.arst; srst = bit_from r.srst; arst_value = refl; srst_value = refl; init_value = refl; ce_over_srst = refl; trans = refl; coll = refl }

    writes_to : (ps : List WrPort) → WritesAlike ns (map f ns) back w ps (map (renamed_write f) ps)
    writes_to [] = tt
    writes_to (p ∷ ps) = (record { wide = refl; prio = refl; clock = clock_to p.clock; en = bits_same p.en; addr = bits_same p.addr; value = bits_same p.value }, writes_to ps)

    writes_from : (ps : List WrPort) → WritesAlike (map f ns) ns w back (map (renamed_write f) ps) ps
    writes_from [] = tt
    writes_from (p ∷ ps) = (record { wide = refl; prio = refl; clock = clock_from p.clock; en = bits_from p.en; addr = bits_from p.addr; value = bits_from p.value }, writes_from ps)

    mem_to : (x : Mem) → MemsAlike ns (map f ns) back w x (renamed_mem f x)
    mem_to x = record {
      width = refl;
      size = refl;
      offset = refl;
      init = refl;
      writes = writes_to x.writes;
      reads = λ j p h. let a = map_at (renamed_read f) x.reads j p h in (a.0, a.1, subst (ReadsAlike ns (map f ns) back w a.0) a.2 (read_to a.0));
    }

    mem_from : (x : Mem) → MemsAlike (map f ns) ns w back (renamed_mem f x) x
    mem_from x = record {
      width = refl;
      size = refl;
      offset = refl;
      init = refl;
      writes = writes_from x.writes;
      reads = λ j p h. (renamed_read f p, map_get (renamed_read f) x.reads j p h, read_from p);
    }

    uses_to : (ss : List SlotUse) → UsesAlike ns (map f ns) back w ss (map (renamed_slot f) ss)
    uses_to [] = tt
    uses_to (s ∷ ss) = (record { used = refl; level = refl; clock = clock_to s.clock; clken = bit_same s.clken; addr = bits_same s.addr; rden = bit_same s.rden; srst = bit_same s.srst; arst = bit_same s.arst; out = nets_to s.out; value = bits_same s.value; wren = bits_same s.wren; wrbe = bits_same s.wrbe; srst_value = refl; arst_value = refl; init_value = refl }, uses_to ss)

    uses_from : (ss : List SlotUse) → UsesAlike (map f ns) ns w back (map (renamed_slot f) ss) ss
    uses_from [] = tt
    uses_from (s ∷ ss) = (record { used = refl; level = refl; clock = clock_from s.clock; clken = bit_from s.clken; addr = bits_from s.addr; rden = bit_from s.rden; srst = bit_from s.srst; arst = bit_from s.arst; out = nets_from s.out; value = bits_from s.value; wren = bits_from s.wren; wrbe = bits_from s.wrbe; srst_value = refl; arst_value = refl; init_value = refl }, uses_from ss)

  -- the inputs and outputs are renamed
  pub bits_joined : (xs ys : List Bit) → renamed_bits f (xs ++ ys) ≡ renamed_bits f xs ++ renamed_bits f ys
  bits_joined xs ys = map_joined (renamed_bit f) xs ys

  nets_renamed : (bs : List Bit) → nets_of (renamed_bits f bs) ≡ map f (nets_of bs)
  nets_renamed [] = refl
  nets_renamed (Zero ∷ bs) = nets_renamed bs
  nets_renamed (One ∷ bs) = nets_renamed bs
  nets_renamed (Net n ∷ bs) = ap (λ r. f n ∷ r) (nets_renamed bs)

  pub wire_bits_renamed : (ws : List Wire) → wire_bits (map (renamed_wire f) ws) ≡ renamed_bits f (wire_bits ws)
  wire_bits_renamed [] = refl
  wire_bits_renamed (x ∷ xs) = ap (λ r. renamed_bits f x.bits ++ r) (wire_bits_renamed xs) ∙ sym (bits_joined x.bits (wire_bits xs))

  insert_renamed : (x : Wire) (xs : List Wire) → insert_port (renamed_wire f x) (map (renamed_wire f) xs) ≡ map (renamed_wire f) (insert_port x xs)
  insert_renamed x [] = refl
  insert_renamed x (y ∷ ys) =
      let P : Bool → Type 0 = λ b. cond b (renamed_wire f x ∷ map (renamed_wire f) (y ∷ ys)) (renamed_wire f y ∷ insert_port (renamed_wire f x) (map (renamed_wire f) ys)) ≡ map (renamed_wire f) (cond b (x ∷ y ∷ ys) (y ∷ insert_port x ys)) in
      elim (leb x.port y.port) as P [ true ↦ refl | false ↦ ap (λ r. renamed_wire f y ∷ r) (insert_renamed x ys) ]

  by_port_renamed : (xs : List Wire) → by_port (map (renamed_wire f) xs) ≡ map (renamed_wire f) (by_port xs)
  by_port_renamed [] = refl
  by_port_renamed (x ∷ xs) = ap (insert_port (renamed_wire f x)) (by_port_renamed xs) ∙ insert_renamed x (by_port xs)

  pub pins_renamed : (ps : List Pin) → bits_of_pins (map (renamed_pin f) ps) ≡ renamed_bits f (bits_of_pins ps)
  pins_renamed [] = refl
  pins_renamed (p ∷ ps) = ap (λ r. renamed_bits f p.bits ++ r) (pins_renamed ps) ∙ sym (bits_joined p.bits (bits_of_pins ps))

  driving_renamed : (cs : List Carried) → flat_map driving_bits (map (renamed_carried f) cs) ≡ renamed_bits f (flat_map driving_bits cs)
  driving_renamed [] = refl
  driving_renamed (c ∷ cs) =
      let one = ap bits_of_pins (filter_map_same (λ (p : Pin). p.drives) (renamed_pin f) (λ p. refl) c.pins) ∙ pins_renamed (filter (λ (p : Pin). p.drives) c.pins) in
      ap (λ r. r ++ flat_map driving_bits (map (renamed_carried f) cs)) one ∙ ap (λ r. renamed_bits f (driving_bits c) ++ r) (driving_renamed cs) ∙ sym (bits_joined (driving_bits c) (flat_map driving_bits cs))

  reading_renamed : (cs : List Carried) → flat_map reading_bits (map (renamed_carried f) cs) ≡ renamed_bits f (flat_map reading_bits cs)
  reading_renamed [] = refl
  reading_renamed (c ∷ cs) =
      let one = ap bits_of_pins (filter_map_same (λ (p : Pin). not p.drives) (renamed_pin f) (λ p. refl) c.pins) ∙ pins_renamed (filter (λ (p : Pin). not p.drives) c.pins) in
      ap (λ r. r ++ flat_map reading_bits (map (renamed_carried f) cs)) one ∙ ap (λ r. renamed_bits f (reading_bits c) ++ r) (reading_renamed cs) ∙ sym (bits_joined (reading_bits c) (flat_map reading_bits cs))

  ports_renamed : (p : Wire → Bool) → ((x : Wire) → p (renamed_wire f x) ≡ p x) → (xs : List Wire) → wire_bits (by_port (filter p (map (renamed_wire f) xs))) ≡ renamed_bits f (wire_bits (by_port (filter p xs)))
  ports_renamed p e xs =
      ap (λ r. wire_bits (by_port r)) (filter_map_same p (renamed_wire f) e xs) ∙ ap wire_bits (by_port_renamed (filter p xs)) ∙ wire_bits_renamed (by_port (filter p xs))

  pub inputs_renamed : (m : Module) → inputs_of (renamed f m) ≡ map f (inputs_of m)
  inputs_renamed m =
      let wires = ports_renamed is_input_wire (λ x. refl) m.wires in
      let cells = driving_renamed m.carried in
      ap (λ r. nets_of (r ++ flat_map driving_bits (map (renamed_carried f) m.carried))) wires ∙ ap (λ r. nets_of (renamed_bits f (wire_bits (by_port (filter is_input_wire m.wires))) ++ r)) cells ∙ ap nets_of (sym (bits_joined (wire_bits (by_port (filter is_input_wire m.wires))) (flat_map driving_bits m.carried))) ∙ nets_renamed (input_bits m)

  outputs_renamed : (m : Module) → outputs_of (renamed f m) ≡ renamed_bits f (outputs_of m)
  outputs_renamed m =
      let wires = ports_renamed is_output_wire (λ x. refl) m.wires in
      let cells = reading_renamed m.carried in
      ap (λ r. r ++ flat_map reading_bits (map (renamed_carried f) m.carried)) wires ∙ ap (λ r. renamed_bits f (wire_bits (by_port (filter is_output_wire m.wires))) ++ r) cells ∙ sym (bits_joined (wire_bits (by_port (filter is_output_wire m.wires))) (flat_map reading_bits m.carried))

  module _ (lib : Library) (m : Module) (events : List Happening) (w : Wave) where
    abbrev ins : List ℕ
    ins = inputs_of m

    run_back : Run lib (renamed f m) events w → Run lib m events (back w ins)
    run_back r = record {
      inputs = λ t e at k n b hn hb. r.inputs t e at k (f n) b (ap (λ ns. slice_get ns k) (inputs_renamed m) ∙ map_get f ins k n hn) hb;
      combs = λ i c hc. comb_alike events w (back w ins) (renamed_comb f c) c (comb_from w ins c) (r.combs i (renamed_comb f c) (map_get (renamed_comb f) m.combs i c hc));
      regs = λ i c hc. reg_alike (map f ins) ins events w (back w ins) (renamed_reg f c) c (reg_from w ins c) (subst (λ ns. RegAllows ns (renamed_reg f c) events w) (inputs_renamed m) (r.regs i (renamed_reg f c) (map_get (renamed_reg f) m.regs i c hc)));
      mems = λ i c hc. mem_alike (map f ins) ins events w (back w ins) (renamed_mem f c) c (mem_from w ins c) (subst (λ ns. MemAllows ns (renamed_mem f c) events w) (inputs_renamed m) (r.mems i (renamed_mem f c) (map_get (renamed_mem f) m.mems i c hc)));
      rams = λ i c hc x hx. ram_alike (map f ins) ins w (back w ins) events x (renamed_ram f c) c (record { slots = uses_from w ins c.slots; init = refl }) (subst (λ ns. RamAllows ns x (renamed_ram f c) events w) (inputs_renamed m) (r.rams i (renamed_ram f c) (map_get (renamed_ram f) m.rams i c hc) x hx));
    }

    run_forth : Run lib m events (back w ins) → Run lib (renamed f m) events w
    run_forth r = record {
      inputs = λ t e at k n b hn hb.
          let a = map_at f ins k n (sym (ap (λ ns. slice_get ns k) (inputs_renamed m)) ∙ hn) in
          ap (w t) (sym a.2) ∙ r.inputs t e at k a.0 b a.1 hb;
      combs = λ i c hc.
          let a = map_at (renamed_comb f) m.combs i c hc in
          subst (λ d. CombAllows d events w) a.2 (comb_alike events (back w ins) w a.0 (renamed_comb f a.0) (comb_to w ins a.0) (r.combs i a.0 a.1));
      regs = λ i c hc.
          let a = map_at (renamed_reg f) m.regs i c hc in
          subst (λ ns. RegAllows ns c events w) (sym (inputs_renamed m)) (subst (λ d. RegAllows (map f ins) d events w) a.2 (reg_alike ins (map f ins) events (back w ins) w a.0 (renamed_reg f a.0) (reg_to w ins a.0) (r.regs i a.0 a.1)));
      mems = λ i c hc.
          let a = map_at (renamed_mem f) m.mems i c hc in
          subst (λ ns. MemAllows ns c events w) (sym (inputs_renamed m)) (subst (λ d. MemAllows (map f ins) d events w) a.2 (mem_alike ins (map f ins) events (back w ins) w a.0 (renamed_mem f a.0) (mem_to w ins a.0) (r.mems i a.0 a.1)));
      rams = λ i c hc x hx.
          let a = map_at (renamed_ram f) m.rams i c hc in
          let variant = ap (variant_of lib) a.2 ∙ hx in
          subst (λ ns. RamAllows ns x c events w) (sym (inputs_renamed m)) (subst (λ d. RamAllows (map f ins) x d events w) a.2 (ram_alike ins (map f ins) (back w ins) w events x a.0 (renamed_ram f a.0) (record { slots = uses_to w ins a.0.slots; init = refl }) (r.rams i a.0 a.1 x variant)));
    }

  shown_renamed : (bs : List Bit) (w : Wave) (t : ℕ) (events : List Happening) → shown (renamed_bits f bs) w t events ≡ shown bs (back w []) t events
  shown_renamed bs w t [] = refl
  shown_renamed bs w t (e ∷ es) =
      let one = bits_same w [] bs t in
      let rest = shown_renamed bs w (suc t) es in
      cc

pub renaming_keeps_runs : RenamingKeepsRuns
renaming_keeps_runs lib m f g told events v = (run_back f g told lib m events v, run_forth f g told lib m events v)

pub renaming_keeps_traces : RenamingKeepsTraces
renaming_keeps_traces lib m f g told events outs = (
  λ h. record {
    wave = λ t n. h.wave t (f n);
    run = run_back f g told lib m events h.wave h.run;
    shows = h.shows ∙ ap (λ bs. shown bs h.wave 0 events) (outputs_renamed f g told m) ∙ shown_renamed f g told (outputs_of m) h.wave 0 events;
  },
  λ h.
      let forth : Wave = λ t n. h.wave t (g n) in
      let same : (λ (t n : ℕ). forth t (f n)) ≡ h.wave = λ i t n. h.wave t (told n i) in
      record {
        wave = forth;
        run = run_forth f g told lib m events forth (subst (Run lib m events) (sym same) h.run);
        shows = h.shows ∙ sym (ap (λ bs. shown bs forth 0 events) (outputs_renamed f g told m) ∙ shown_renamed f g told (outputs_of m) forth 0 events ∙ ap (λ v. shown (outputs_of m) v 0 events) same);
      },
)
