-- A module with another read in the place of one is valid where the module is.
use Rattle.std.proofs.Common.{◌≡◌, ℕ, zero, suc, ◌^◌, ◌<◌, ◌⊎◌, inl, inr, cond, List, [], ◌∷◌, ◌++◌, map, length, set, Option, Some, None, refl, sym, ap, ◌∙◌, subst, arith, nat_eq, append-nil}
use Rattle.std.specs.Prelude.{slice_get, count_by}
use Rattle.std.specs.List.{flat_map, sum_by}
use Rattle.std.proofs.lemmas.Option.{same_Some}
use Rattle.std.proofs.lemmas.List.Sums.{sum_by-cons}
use Rattle.lib_core.specs.declared.library.Library.{Library}
use Rattle.net_core.specs.declared.bits.Bit.TheVariants.{Net}
use Rattle.net_core.specs.declared.bits.Clock.{Clock}
use Rattle.net_core.specs.declared.bits.Clock.TheVariants.{Root}
use Rattle.net_core.specs.declared.cells.Reg.{Reg}
use Rattle.net_core.specs.declared.mems.Mem.{Mem}
use Rattle.net_core.specs.declared.mems.RdPort.{RdPort}
use Rattle.net_core.specs.declared.mems.WrPort.{WrPort}
use Rattle.net_core.specs.declared.modules.MemPart.{MemPart}
use Rattle.net_core.specs.declared.modules.Module.{Module}
use Rattle.net_core.specs.Drivers.{Driver, Input, CombOut, RegOut, ReadOut, SlotOut, HasOneDriver}
use Rattle.net_core.specs.Nodes.{Node, comb_node, reg_node, read_node, slot_node, mem_nodes, nodes_of, HasNet, Drives}
use Rattle.net_core.specs.Pins.{comb_bits, reg_bits, read_bits, write_bits, mem_bits, ram_bits, carried_bits, inner_bits, all_bits}
use Rattle.net_core.specs.Ports.{Interface, wire_bits, bits_of_pins, read_clock, mem_clocks, ram_clocks, clocks_of}
use Rattle.net_core.specs.Valid.{AreApart, ReadFits, WriteFits, MemFits, silent_nodes, IsValid}
use Rattle.net_core.proofs.Basics.{get_below}
use Rattle.net_core.proofs.Ordering.{comb_place, reg_place, read_place, slot_place, each_node}
use Rattle.net_core.proofs.Searching.{get_of_set}
use Rattle.net_edit.specs.Laws.{IsUndriven}
use Rattle.net_edit.proofs.Lists.{Has, has_left, has_right, has_either, flat_has, has_flat}
use Rattle.net_edit.proofs.Places.{place_of, place_found, place_missing}
use Rattle.rewriting.specs.Reads.{with_read, IsRead}
use Rattle.emu_read.specs.Joining.{AreFreeNets, ReadJoins, with_port, OtherReadIsValid}
use Rattle.emu_read.proofs.Joined.{count_join, is_silent, wire_inout, pin_inout, same_ram}

-- ---- a list with another item at a place

pub set_has : {X : Type 0} (xs : List X) (i : ℕ) (x y z : X) → slice_get xs i ≡ Some x → Has (set xs i y) z → (y ≡ z) ⊎ Has xs z
set_has xs i x y z at (k, h) = elim (get_of_set xs i k y z (get_below xs i x at) h) [ inl (e, is) ↦ inl is | inr (ne, old) ↦ inr (k, old) ]

-- what the new item gives, the old one gave
pub set_flat : {X Y : Type 0} (f : X → List Y) (xs : List X) (i : ℕ) (x y : X) (b : Y) → slice_get xs i ≡ Some x → (Has (f y) b → Has (f x) b) → Has (flat_map f (set xs i y)) b → Has (flat_map f xs) b
set_flat f xs i x y b at fewer h =
    let (z, there, inside) = flat_has f (set xs i y) b h in
    elim (set_has xs i x y z at there) [
      | inl e ↦ has_flat f xs x b (i, at) (fewer (subst (λ w. Has (f w) b) (sym e) inside))
      | inr old ↦ has_flat f xs z b old inside
    ]

set_length : {X : Type 0} (xs : List X) (i : ℕ) (y : X) → length (set xs i y) ≡ length xs
set_length [] i y = refl
set_length (x ∷ xs) zero y = refl
set_length (x ∷ xs) (suc i) y = ap suc (set_length xs i y)

pub set_map : {X Y : Type 0} (f : X → Y) (xs : List X) (i : ℕ) (x y : X) → slice_get xs i ≡ Some x → f y ≡ f x → map f (set xs i y) ≡ map f xs
set_map f [] i x y at same = refl
set_map f (z ∷ xs) zero x y at same = ap (λ w. w ∷ map f xs) (same ∙ sym (ap f (same_Some z x at)))
set_map f (z ∷ xs) (suc i) x y at same = ap (λ l. f z ∷ l) (set_map f xs i x y at same)

pub set_sum : {X : Type 0} (f : X → ℕ) (xs : List X) (i : ℕ) (x y : X) → slice_get xs i ≡ Some x → f y ≡ f x → sum_by f (set xs i y) ≡ sum_by f xs
set_sum f [] i x y at same = refl
set_sum f (z ∷ xs) zero x y at same =
    let e : f y ≡ f z = same ∙ sym (ap f (same_Some z x at)) in
    let a = sum_by-cons f y xs in
    let b = sum_by-cons f z xs in
    omega (arith, e, a, b)
set_sum f (z ∷ xs) (suc i) x y at same =
    let r = set_sum f xs i x y at same in
    let a = sum_by-cons f z (set xs i y) in
    let b = sum_by-cons f z xs in
    omega (arith, r, a, b)

pub set_count : {X : Type 0} (f : X → List Node) (xs : List X) (i : ℕ) (x y : X) → slice_get xs i ≡ Some x → count_by is_silent (f y) ≡ count_by is_silent (f x) → count_by is_silent (flat_map f (set xs i y)) ≡ count_by is_silent (flat_map f xs)
set_count f [] i x y at same = refl
set_count f (z ∷ xs) zero x y at same =
    let e : count_by is_silent (f y) ≡ count_by is_silent (f z) = same ∙ sym (ap (λ w. count_by is_silent (f w)) (same_Some z x at)) in
    let a = count_join is_silent (f y) (flat_map f xs) in
    let b = count_join is_silent (f z) (flat_map f xs) in
    omega (arith, e, a, b)
set_count f (z ∷ xs) (suc i) x y at same =
    let r = set_count f xs i x y at same in
    let a = count_join is_silent (f z) (flat_map f (set xs i y)) in
    let b = count_join is_silent (f z) (flat_map f xs) in
    omega (arith, r, a, b)

-- ---- drivers

abbrev chosen : (ℕ → Driver) → Option ℕ → Driver → Driver
chosen f None d = d
chosen f (Some k) d = f k

module _ (modules : List Interface) (m : Module) (k j : ℕ) (x : Mem) (p q : RdPort) (is : IsRead m k j x p) where
  abbrev port : Mem
  port = with_read x j q

  abbrev new : Module
  new = with_port m k x j q

  mem_there : k < length m.mems
  mem_there = get_below m.mems k x is.mem

  read_there : j < length x.reads
  read_there = get_below x.reads j p is.read

  -- the reads of the new module are the new one and old ones
  pub port_cases : (P : ℕ → ℕ → RdPort → Type 0) → P k j q → ((i : ℕ) (y : Mem) → slice_get m.mems i ≡ Some y → (a : ℕ) (r : RdPort) → slice_get y.reads a ≡ Some r → P i a r) → (i : ℕ) (y : Mem) → slice_get new.mems i ≡ Some y → (a : ℕ) (r : RdPort) → slice_get y.reads a ≡ Some r → P i a r
  port_cases P own old i y at a r here = elim (get_of_set m.mems k i port y mem_there at) [
    | inl (e, same) ↦ elim (get_of_set x.reads j a q r read_there (ap (λ (z : Mem). slice_get z.reads a) same ∙ here)) [
      | inl (f, own_read) ↦ subst (λ z. P i a z) own_read (subst (λ z. P i z q) (sym f) (subst (λ z. P z j q) (sym e) own))
      | inr (ne, there) ↦ subst (λ z. P z a r) (sym e) (old k x is.mem a r there)
    ]
    | inr (ne, there) ↦ old i y there a r here
  ]

  pub node_cases : (P : Node → Type 0) → ((l : ℕ) (s : Node) → slice_get (nodes_of m) l ≡ Some s → P s) → P (read_node q) → (l : ℕ) (s : Node) → slice_get (nodes_of new) l ≡ Some s → P s
  node_cases P old own = each_node new P
      (λ i c at. let (l, there) = comb_place m i c at in old l (comb_node c) there)
      (λ i r at. let (l, there) = reg_place m i r at in old l (reg_node r) there)
      (port_cases (λ i a r. P (read_node r)) own (λ i y at a r here. let (l, there) = read_place m i y at a r here in old l (read_node r) there))
      (λ i c at a s here. let (l, there) = slot_place m i c at a s here in old l (slot_node s) there)

  -- the nets that the read drove are free
  pub left_undriven : HasOneDriver m → (n : ℕ) → Has p.out n → (Has q.out n → ⊥) → IsUndriven new n
  left_undriven one n (b, at) off =
      record {
        inputs = λ a h. no_input a (sym (one.inputs a n h) ∙ told);
        nodes = each_node new (λ s. Drives s n → ⊥)
            (λ i c there (a, h). no_comb i a (sym (one.combs i c there a n h) ∙ told))
            (λ i r there (a, h). no_reg i a (sym (one.regs i r there a n h) ∙ told))
            reads_off
            (λ i c there l s here (a, h). no_slot i l a (sym (one.slots i c there l s here a n h) ∙ told));
      }
    where
      told : one.driver n ≡ ReadOut k j b
      told = one.reads k x is.mem j p is.read b n at

      no_input : (a : ℕ) → Input a ≡ ReadOut k j b → ⊥
      no_input a e = cc

      no_comb : (i a : ℕ) → CombOut i a ≡ ReadOut k j b → ⊥
      no_comb i a e = cc

      no_reg : (i a : ℕ) → RegOut i a ≡ ReadOut k j b → ⊥
      no_reg i a e = cc

      no_slot : (i l a : ℕ) → SlotOut i l a ≡ ReadOut k j b → ⊥
      no_slot i l a e = cc

      same_mem : (i l a : ℕ) → ReadOut i l a ≡ ReadOut k j b → i ≡ k
      same_mem i l a e = cc

      same_read : (i l a : ℕ) → ReadOut i l a ≡ ReadOut k j b → l ≡ j
      same_read i l a e = cc

      reads_off : (i : ℕ) (y : Mem) → slice_get new.mems i ≡ Some y → (l : ℕ) (r : RdPort) → slice_get y.reads l ≡ Some r → Drives (read_node r) n → ⊥
      reads_off i y there l r here (a, h) = elim (get_of_set m.mems k i port y mem_there there) [
        | inl (e, same) ↦ elim (get_of_set x.reads j l q r read_there (ap (λ (z : Mem). slice_get z.reads l) same ∙ here)) [
          | inl (f, own) ↦ off (a, ap (λ (z : RdPort). slice_get z.out a) own ∙ h)
          | inr (ne, old) ↦ ne (same_read k l a (sym (one.reads k x is.mem l r old a n h) ∙ told))
        ]
        | inr (ne, old) ↦ ne (same_mem i l a (sym (one.reads i y old l r here a n h) ∙ told))
      ]

  pub still_undriven : (n : ℕ) → IsUndriven m n → (Has q.out n → ⊥) → IsUndriven new n
  still_undriven n free off = record { inputs = free.inputs; nodes = node_cases (λ s. Drives s n → ⊥) (λ l s at. free.nodes l s at) off }

  module _ (old : HasOneDriver m) (free : AreFreeNets modules m q.out) where
    abbrev driver : ℕ → Driver
    driver n = chosen (λ b. ReadOut k j b) (place_of q.out n) (old.driver n)

    still : (n : ℕ) (d : Driver) → (Has q.out n → ⊥) → old.driver n ≡ d → driver n ≡ d
    still n d off told = ap (λ o. chosen (λ b. ReadOut k j b) o (old.driver n)) (place_missing q.out n off) ∙ told

    one_driver : HasOneDriver new
    one_driver = record {
      driver = driver;
      inputs = λ a n at. still n (Input a) (λ (b, g). (free.undriven b n g).inputs a at) (old.inputs a n at);
      combs = λ i c at a n h. still n (CombOut i a) (λ (b, g). let (l, there) = comb_place m i c at in (free.undriven b n g).nodes l (comb_node c) there (a, h)) (old.combs i c at a n h);
      regs = λ i r at a n h. still n (RegOut i a) (λ (b, g). let (l, there) = reg_place m i r at in (free.undriven b n g).nodes l (reg_node r) there (a, h)) (old.regs i r at a n h);
      reads = port_cases (λ i l r. (a n : ℕ) → slice_get r.out a ≡ Some n → driver n ≡ ReadOut i l a)
          (λ a n h. ap (λ o. chosen (λ b. ReadOut k j b) o (old.driver n)) (place_found q.out free.apart a n h))
          (λ i y at l r here a n h. still n (ReadOut i l a) (λ (b, g). let (s, there) = read_place m i y at l r here in (free.undriven b n g).nodes s (read_node r) there (a, h)) (old.reads i y at l r here a n h));
      slots = λ i c at l s here a n h. still n (SlotOut i l a) (λ (b, g). let (t, there) = slot_place m i c at l s here in (free.undriven b n g).nodes t (slot_node s) there (a, h)) (old.slots i c at l s here a n h);
    }

-- ---- clocks

module _ (m : Module) (k j : ℕ) (x : Mem) (p q : RdPort) (is : IsRead m k j x p) (kept : (c : Clock) → q.clock ≡ Some c → p.clock ≡ Some c) where
  clock_kept : (o now : Option Clock) (c : Clock) → ((d : Clock) → now ≡ Some d → o ≡ Some d) → Has (read_clock now) c → Has (read_clock o) c
  clock_kept o None c keeps (l, h) = cc
  clock_kept o (Some d) c keeps h = subst (λ z. Has (read_clock z) c) (sym (keeps d refl)) h

  mem_clock : (c : Clock) → Has (mem_clocks (with_read x j q)) c → Has (mem_clocks x) c
  mem_clock c h =
      let reads = flat_map (λ (r : RdPort). read_clock r.clock) x.reads in
      let writes = map (λ (w : WrPort). w.clock) x.writes in
      elim (has_either (flat_map (λ (r : RdPort). read_clock r.clock) (set x.reads j q)) writes c h) [
        | inl a ↦ has_left reads writes c (set_flat (λ (r : RdPort). read_clock r.clock) x.reads j p q c is.read (clock_kept p.clock q.clock c kept) a)
        | inr a ↦ has_right reads writes c a
      ]

  pub old_clock : (c : Clock) → Has (clocks_of (with_port m k x j q)) c → Has (clocks_of m) c
  old_clock c h =
      let regs = map (λ (r : Reg). r.clock) m.regs in
      let rams = flat_map ram_clocks m.rams in
      let before = flat_map mem_clocks m.mems in
      let now = flat_map mem_clocks (set m.mems k (with_read x j q)) in
      elim (has_either regs (now ++ rams) c h) [
        | inl a ↦ has_left regs (before ++ rams) c a
        | inr a ↦ has_right regs (before ++ rams) c (elim (has_either now rams c a) [
          | inl b ↦ has_left before rams c (set_flat mem_clocks m.mems k x (with_read x j q) c is.mem (mem_clock c) b)
          | inr b ↦ has_right before rams c b
        ])
      ]

-- ---- silent nodes

reads_counted : (rs : List RdPort) → count_by is_silent (map read_node rs) ≡ sum_by (λ (r : RdPort). cond {A = ℕ} (is_silent (read_node r)) 1 0) rs
reads_counted [] = refl
reads_counted (r ∷ rs) =
    let rest = reads_counted rs in
    let a = sum_by-cons (λ (s : Node). cond {A = ℕ} (is_silent s) 1 0) (read_node r) (map read_node rs) in
    let b = sum_by-cons (λ (s : RdPort). cond {A = ℕ} (is_silent (read_node s)) 1 0) r rs in
    omega (arith, rest, a, b)

pub port_silent : (m : Module) (k j : ℕ) (x : Mem) (p q : RdPort) → IsRead m k j x p → length q.out ≡ length p.out → count_by is_silent (flat_map mem_nodes (set m.mems k (with_read x j q))) ≡ count_by is_silent (flat_map mem_nodes m.mems)
port_silent m k j x p q is long =
    let f : RdPort → ℕ = λ r. cond {A = ℕ} (is_silent (read_node r)) 1 0 in
    let one : f q ≡ f p = ap (λ l. cond {A = ℕ} (nat_eq l 0) 1 0) long in
    set_count mem_nodes m.mems k x (with_read x j q) is.mem (reads_counted (set x.reads j q) ∙ set_sum f x.reads j p q is.read one ∙ sym (reads_counted x.reads))

-- ---- validity

module _ (lib : Library) (modules : List Interface) (m : Module) (k j : ℕ) (x : Mem) (p q : RdPort) (joins : ReadJoins modules m k j x p q) where
  abbrev next : Mem
  next = with_read x j q

  abbrev made : Module
  made = with_port m k x j q

  mem_inside : (n : ℕ) → HasNet (mem_bits next) n → HasNet (mem_bits x) n
  mem_inside n h = elim (has_either (flat_map read_bits (set x.reads j q)) (flat_map write_bits x.writes) (Net n) h) [
    | inl a ↦ has_left (flat_map read_bits x.reads) (flat_map write_bits x.writes) (Net n) (set_flat read_bits x.reads j p q (Net n) joins.is.read (joins.reads n) a)
    | inr a ↦ has_right (flat_map read_bits x.reads) (flat_map write_bits x.writes) (Net n) a
  ]

  inner_inside : (n : ℕ) → HasNet (inner_bits made) n → HasNet (inner_bits m) n
  inner_inside n h =
      let combs = flat_map comb_bits m.combs in
      let regs = flat_map reg_bits m.regs in
      let rest = flat_map ram_bits m.rams ++ flat_map (λ (z : MemPart). bits_of_pins z.pins) m.parts in
      let before = flat_map mem_bits m.mems in
      let now = flat_map mem_bits made.mems in
      elim (has_either combs (regs ++ (now ++ rest)) (Net n) h) [
        | inl a ↦ has_left combs (regs ++ (before ++ rest)) (Net n) a
        | inr a ↦ has_right combs (regs ++ (before ++ rest)) (Net n) (elim (has_either regs (now ++ rest) (Net n) a) [
          | inl b ↦ has_left regs (before ++ rest) (Net n) b
          | inr b ↦ has_right regs (before ++ rest) (Net n) (elim (has_either now rest (Net n) b) [
            | inl c ↦ has_left before rest (Net n) (set_flat mem_bits m.mems k x next (Net n) joins.is.mem (mem_inside n) c)
            | inr c ↦ has_right before rest (Net n) c
          ])
        ])
      ]

  all_inside : (n : ℕ) → HasNet (all_bits made) n → HasNet (all_bits m) n
  all_inside n h =
      let wires = wire_bits m.wires in
      let carried = flat_map carried_bits m.carried in
      elim (has_either wires (carried ++ inner_bits made) (Net n) h) [
        | inl a ↦ has_left wires (carried ++ inner_bits m) (Net n) a
        | inr a ↦ has_right wires (carried ++ inner_bits m) (Net n) (elim (has_either carried (inner_bits made) (Net n) a) [
          | inl b ↦ has_left carried (inner_bits m) (Net n) b
          | inr b ↦ has_right carried (inner_bits m) (Net n) (inner_inside n b)
        ])
      ]

  silent_same : silent_nodes made ≡ silent_nodes m
  silent_same =
      let combs = map comb_node m.combs in
      let regs = map reg_node m.regs in
      let before = flat_map mem_nodes m.mems in
      let now = flat_map mem_nodes made.mems in
      let a = count_join is_silent combs (regs ++ now) in
      let b = count_join is_silent combs (regs ++ before) in
      let c = count_join is_silent regs now in
      let d = count_join is_silent regs before in
      let e = port_silent m k j x p q joins.is joins.long in
      omega (arith, a, b, c, d, e)

  read_fits : (r : RdPort) → ReadFits x r → ReadFits next r
  read_fits r h = record { addr = h.addr; out = h.out; arst_value = h.arst_value; srst_value = h.srst_value; init_value = h.init_value; trans = h.trans; coll = h.coll; one_mask = h.one_mask; at_once = h.at_once }

  write_fits : (own : ℕ) (w : WrPort) → WriteFits x own w → WriteFits next own w
  write_fits own w h = record { addr = h.addr; en = h.en; value = h.value; prio = h.prio; lower = h.lower }

  mem_fits : MemFits x → MemFits next
  mem_fits h = record {
    sizes = record { name = h.sizes.name; origin = h.sizes.origin; attrs = h.sizes.attrs; words = h.sizes.words; width = h.sizes.width; bits = h.sizes.bits; addresses = h.sizes.addresses; abits = h.sizes.abits };
    init = h.init;
    reads = λ a r at. elim (set_has x.reads j p q r joins.is.read (a, at)) [ inl e ↦ subst (ReadFits next) e (read_fits q joins.fits) | inr (l, old) ↦ read_fits r (h.reads l r old) ];
    writes = λ a w at. write_fits a w (h.writes a w at);
    read_words = let e = set_sum (λ (r : RdPort). 2 ^ r.wide) x.reads j p q joins.is.read (ap (λ w. 2 ^ w) joins.wide) in let l = h.read_words in omega (arith, e, l);
    write_words = h.write_words;
  }

  made_valid : IsValid lib modules m → IsValid lib modules made
  made_valid valid = record {
    name = valid.name;
    attrs = valid.attrs;
    wires = valid.wires;
    declared = valid.declared;
    parts = valid.parts;
    mems = λ a y at. elim (set_has m.mems k x next y joins.is.mem (a, at)) [ inl e ↦ subst MemFits e (mem_fits (valid.mems k x joins.is.mem)) | inr (l, old) ↦ valid.mems l y old ];
    combs = valid.combs;
    regs = valid.regs;
    rams = λ a y at. same_ram m made [] (sym (append-nil m.combs)) lib y (valid.rams a y at);
    reads_agree = valid.reads_agree;
    carried = valid.carried;
    wire_names = valid.wire_names;
    mem_names = subst AreApart (sym (set_map (λ (y : Mem). y.name) m.mems k x next joins.is.mem refl)) valid.mem_names;
    cell_names = valid.cell_names;
    nets = λ n h. valid.nets n (all_inside n h);
    driven = one_driver modules m k j x p q joins.is valid.driven joins.drives;
    driven_nets = λ l s at n d. node_cases modules m k j x p q joins.is (λ z. Drives z n → n < m.nets) (λ a z there g. valid.driven_nets a z there n g) (λ (a, g). (joins.drives.inside a n g).below) l s at d;
    inouts = record {
      nets = valid.inouts.nets;
      wires = valid.inouts.wires;
      pins = valid.inouts.pins;
      undriven_wires = λ n l s h at d. node_cases modules m k j x p q joins.is (λ z. Drives z n → ⊥) (λ a z there. valid.inouts.undriven_wires n a z h there) (λ (a, g). (joins.drives.inside a n g).apart (wire_inout modules m n h)) l s at d;
      undriven_pins = λ n l s h at d. node_cases modules m k j x p q joins.is (λ z. Drives z n → ⊥) (λ a z there. valid.inouts.undriven_pins n a z h there) (λ (a, g). (joins.drives.inside a n g).apart (pin_inout modules m n h)) l s at d;
      wires_inside = λ n h g. valid.inouts.wires_inside n h (inner_inside n g);
      pins_inside = λ n h g. valid.inouts.pins_inside n h (inner_inside n g);
    };
    clocks = λ a net rising at. let (l, old) = old_clock m k j x p q joins.is joins.clock (Root net rising) (a, at) in valid.clocks l net rising old;
    net_count = valid.net_count;
    silent = let e = silent_same in let l = valid.silent in omega (arith, e, l);
    counted = record { wires = valid.counted.wires; declared = valid.counted.declared; parts = valid.counted.parts; mems = let l = valid.counted.mems in let e = set_length m.mems k next in omega (arith, l, e); combs = valid.counted.combs; regs = valid.counted.regs; rams = valid.counted.rams; carried = valid.counted.carried };
  }

pub other_read_is_valid : OtherReadIsValid
other_read_is_valid lib modules m k j x p q joins valid = made_valid lib modules m k j x p q joins valid
