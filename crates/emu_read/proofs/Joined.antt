-- A module with more nets, or with one more cell, is valid where the module is.
use Rattle.std.proofs.Common.{◌≡◌, ℕ, zero, suc, ◌+◌, ◌<◌, ◌⊎◌, inl, inr, Bool, true, false, cond, List, [], ◌∷◌, ◌++◌, map, length, Option, Some, None, refl, sym, ap, ◌∙◌, subst, arith, nat_eq, append_assoc, append-nil}
use Rattle.std.specs.Prelude.{slice_get, count_by, filter}
use Rattle.std.specs.List.{flat_map}
use Rattle.std.proofs.lemmas.Option.{same_Some}
use Rattle.std.proofs.lemmas.Bool.{ne_eqb}
use Rattle.std.proofs.lemmas.List.{length-append, map-append}
use Rattle.std.proofs.lemmas.List.Sums.{sum_by-append, sum_by-cons}
use Rattle.lib_core.specs.declared.library.EdgeKind.{EdgeKind}
use Rattle.lib_core.specs.declared.library.EdgeKind.TheVariants.{Pos, Neg, Either}
use Rattle.lib_core.specs.declared.library.Library.{Library}
use Rattle.net_core.specs.declared.bits.Bit.{Bit}
use Rattle.net_core.specs.declared.bits.Bit.TheVariants.{Net}
use Rattle.net_core.specs.declared.bits.Clock.{Clock}
use Rattle.net_core.specs.declared.bits.Clock.TheVariants.{Root, Never}
use Rattle.net_core.specs.declared.cells.Carried.{Carried}
use Rattle.net_core.specs.declared.cells.Comb.{Comb}
use Rattle.net_core.specs.declared.cells.Reg.{Reg}
use Rattle.net_core.specs.declared.modules.MemPart.{MemPart}
use Rattle.net_core.specs.declared.modules.Module.{Module}
use Rattle.net_core.specs.declared.rams.RamCell.{RamCell}
use Rattle.net_core.specs.Nodes.{Node, comb_node, reg_node, mem_nodes, nodes_of, HasNet, Drives}
use Rattle.net_core.specs.Pins.{comb_bits, reg_bits, mem_bits, ram_bits, carried_bits, inner_bits, all_bits}
use Rattle.net_core.specs.Ports.{Interface, is_inout, wire_bits, bits_of_pins, inout_pin_bits, inout_bits, inputs_of, mem_clocks, ram_clocks, clocks_of}
use Rattle.net_core.specs.Valid.{AreApart, CombFits, RegFits, EdgeFits, HasInverter, RamFits, InoutsApart, cell_names, silent_nodes, IsValid}
use Rattle.net_core.proofs.Basics.{get_left}
use Rattle.net_core.proofs.Searching.{get_pushed}
use Rattle.net_edit.specs.Edits.{with_nets, with_comb, with_reg}
use Rattle.net_edit.specs.Laws.{IsKnownClock}
use Rattle.net_edit.proofs.Adding.{comb_nodes, reg_nodes, added_comb_has_one_driver, added_reg_has_one_driver}
use Rattle.net_edit.proofs.Lists.{Has, has_left, has_right, has_either, flat_has, has_flat, pushed_has, map_has, has_map}
use Rattle.emu_read.specs.Joining.{AreFreeNets, AreInside, CombJoins, RegJoins, AddedNetsIsValid, AddedCombIsValid, AddedRegIsValid}

-- ---- a name more

tail_apart : {X : Type 0} (x : X) (xs : List X) → AreApart (x ∷ xs) → AreApart xs
tail_apart x xs apart a b y h g = let e = apart (suc a) (suc b) y h g in omega (arith, e)

without_it : {X : Type 0} (xs ys : List X) (n y : X) → Has (xs ++ (n ∷ ys)) y → (n ≡ y) ⊎ Has (xs ++ ys) y
without_it [] ys n y (zero, h) = inl (same_Some n y h)
without_it [] ys n y (suc k, h) = inr (k, h)
without_it (x ∷ xs) ys n y (zero, h) = inr (0, h)
without_it (x ∷ xs) ys n y (suc k, h) = elim (without_it xs ys n y (k, h)) [ inl e ↦ inl e | inr (j, g) ↦ inr (suc j, g) ]

first_apart : {X : Type 0} (x : X) (xs : List X) (b : ℕ) (y : X) → AreApart (x ∷ xs) → x ≡ y → slice_get xs b ≡ Some y → ⊥
first_apart x xs b y apart e h = let q = apart 0 (suc b) x refl (h ∙ ap Some (sym e)) in omega (arith, q)

insert_apart : {X : Type 0} (xs ys : List X) (n : X) → AreApart (xs ++ ys) → (Has (xs ++ ys) n → ⊥) → AreApart (xs ++ (n ∷ ys))
insert_apart [] ys n apart fresh zero zero y h g = refl
insert_apart [] ys n apart fresh zero (suc b) y h g = absurd (fresh (b, g ∙ ap Some (sym (same_Some n y h))))
insert_apart [] ys n apart fresh (suc a) zero y h g = absurd (fresh (a, h ∙ ap Some (sym (same_Some n y g))))
insert_apart [] ys n apart fresh (suc a) (suc b) y h g = ap suc (apart a b y h g)
insert_apart (x ∷ xs) ys n apart fresh zero zero y h g = refl
insert_apart (x ∷ xs) ys n apart fresh zero (suc b) y h g =
    let e : x ≡ y = same_Some x y h in
    absurd (elim (without_it xs ys n y (b, g)) [ inl q ↦ fresh (0, ap Some (e ∙ sym q)) | inr (k, at) ↦ first_apart x (xs ++ ys) k y apart e at ])
insert_apart (x ∷ xs) ys n apart fresh (suc a) zero y h g =
    let e : x ≡ y = same_Some x y g in
    absurd (elim (without_it xs ys n y (a, h)) [ inl q ↦ fresh (0, ap Some (e ∙ sym q)) | inr (k, at) ↦ first_apart x (xs ++ ys) k y apart e at ])
insert_apart (x ∷ xs) ys n apart fresh (suc a) (suc b) y h g = ap suc (insert_apart xs ys n (tail_apart x (xs ++ ys) apart) (λ (k, at). fresh (suc k, at)) a b y h g)

-- a name between lists of names
names_more : (old new before behind : List (List ℕ)) (name : List ℕ) → old ≡ before ++ behind → new ≡ before ++ (name ∷ behind) → AreApart old → (Has old name → ⊥) → AreApart new
names_more old new before behind name e f apart fresh = subst AreApart (sym f) (insert_apart before behind name (subst AreApart e apart) (λ h. fresh (subst (λ l. Has l name) (sym e) h)))

-- ---- bits

bits_more : (front inner new bits : List Bit) (n : ℕ) → (HasNet new n → HasNet inner n ⊎ HasNet bits n) → HasNet (front ++ new) n → HasNet (front ++ inner) n ⊎ HasNet bits n
bits_more front inner new bits n cases h = elim (has_either front new (Net n) h) [
  | inl a ↦ inl (has_left front inner (Net n) a)
  | inr b ↦ elim (cases b) [ inl a ↦ inl (has_right front inner (Net n) a) | inr a ↦ inr a ]
]

-- one more item among what gives bits
flat_more : {X : Type 0} (f : X → List Bit) (xs : List X) (x : X) (rest : List Bit) (n : ℕ) → HasNet (flat_map f (xs ++ x ∷ []) ++ rest) n → HasNet (flat_map f xs ++ rest) n ⊎ HasNet (f x) n
flat_more f xs x rest n h = elim (has_either (flat_map f (xs ++ x ∷ [])) rest (Net n) h) [
  | inl a ↦
      let (y, at, inside) = flat_has f (xs ++ x ∷ []) (Net n) a in
      elim (pushed_has xs x y at) [
        | inl old ↦ inl (has_left (flat_map f xs) rest (Net n) (has_flat f xs y (Net n) old inside))
        | inr e ↦ inr (subst (λ z. HasNet (f z) n) (sym e) inside)
      ]
  | inr b ↦ inl (has_right (flat_map f xs) rest (Net n) b)
]

abbrev pub inout_wires : Module → List Bit
inout_wires m = wire_bits (filter is_inout m.wires)

abbrev pub inout_pins : List Interface → Module → List Bit
inout_pins modules m = flat_map (inout_pin_bits modules) m.carried

pub wire_inout : (modules : List Interface) (m : Module) (n : ℕ) → HasNet (inout_wires m) n → HasNet (inout_bits modules m) n
wire_inout modules m n h = has_left (inout_wires m) (inout_pins modules m) (Net n) h

pub pin_inout : (modules : List Interface) (m : Module) (n : ℕ) → HasNet (inout_pins modules m) n → HasNet (inout_bits modules m) n
pin_inout modules m n h = has_right (inout_wires m) (inout_pins modules m) (Net n) h

-- ---- counts

pub count_join : {X : Type 0} (p : X → Bool) (xs ys : List X) → count_by p (xs ++ ys) ≡ count_by p xs + count_by p ys
count_join p xs ys = sum_by-append (λ x. cond (p x) 1 0) xs ys

abbrev pub is_silent : Node → Bool
is_silent p = nat_eq (length p.drives) 0

-- a node that drives something is not counted
one_more : {X : Type 0} (f : X → Node) (xs : List X) (x : X) → 0 < length (f x).drives → count_by is_silent (map f (xs ++ x ∷ [])) ≡ count_by is_silent (map f xs)
one_more f xs x some =
    let no : nat_eq (length (f x).drives) 0 ≡ false = ne_eqb (length (f x).drives) 0 (λ e. omega (arith, some, e)) in
    let none : cond (is_silent (f x)) 1 0 ≡ 0 = ap (λ b. cond {A = ℕ} b 1 0) no in
    let one = sum_by-cons (λ (q : Node). cond (is_silent q) 1 0) (f x) [] in
    let split = ap (count_by is_silent) (map-append f xs (x ∷ [])) ∙ count_join is_silent (map f xs) (f x ∷ []) in
    omega (arith, none, one, split)

-- ---- the edges of slots

module _ (m new : Module) (more : List Comb) (combs : new.combs ≡ m.combs ++ more) where
  same_inverter : (net : ℕ) → HasInverter m net → HasInverter new net
  same_inverter net h = record {
    number = h.number;
    cell = h.cell;
    place = h.place;
    stands = ap (λ l. slice_get l h.number) combs ∙ get_left m.combs more h.number h.cell h.stands;
    inverts = h.inverts;
    read = h.read;
    within = h.within;
  }

  same_edge : (e : Option EdgeKind) (c : Clock) → EdgeFits m e c → EdgeFits new e c
  same_edge None c h = tt
  same_edge (Some Pos) Never h = tt
  same_edge (Some Pos) (Root n true) h = tt
  same_edge (Some Pos) (Root n false) h = same_inverter n h
  same_edge (Some Neg) Never h = tt
  same_edge (Some Neg) (Root n true) h = same_inverter n h
  same_edge (Some Neg) (Root n false) h = tt
  same_edge (Some Either) c h = tt

  pub same_ram : (lib : Library) (y : RamCell) → RamFits lib m y → RamFits lib new y
  same_ram lib y h = record {
    name = h.name;
    shape = h.shape;
    slots = h.slots;
    init = h.init;
    edges = λ x v j s at. same_edge s.kind.edge s.pins.clock (h.edges x v j s at);
  }

-- ---- more nets

pub added_nets_is_valid : AddedNetsIsValid
added_nets_is_valid lib modules m count room valid = record {
  name = valid.name;
  attrs = valid.attrs;
  wires = valid.wires;
  declared = valid.declared;
  parts = valid.parts;
  mems = valid.mems;
  combs = valid.combs;
  regs = valid.regs;
  rams = λ k y at. same_ram m (with_nets m count) [] (sym (append-nil m.combs)) lib y (valid.rams k y at);
  reads_agree = valid.reads_agree;
  carried = valid.carried;
  wire_names = valid.wire_names;
  mem_names = valid.mem_names;
  cell_names = valid.cell_names;
  nets = λ n h. let l = valid.nets n h in omega (arith, l);
  driven = record { driver = valid.driven.driver; inputs = valid.driven.inputs; combs = valid.driven.combs; regs = valid.driven.regs; reads = valid.driven.reads; slots = valid.driven.slots };
  driven_nets = λ k p at n d. let l = valid.driven_nets k p at n d in omega (arith, l);
  inouts = record {
    nets = valid.inouts.nets;
    wires = valid.inouts.wires;
    pins = valid.inouts.pins;
    undriven_wires = valid.inouts.undriven_wires;
    undriven_pins = valid.inouts.undriven_pins;
    wires_inside = valid.inouts.wires_inside;
    pins_inside = valid.inouts.pins_inside;
  };
  clocks = valid.clocks;
  net_count = room;
  silent = valid.silent;
  counted = record { wires = valid.counted.wires; declared = valid.counted.declared; parts = valid.counted.parts; mems = valid.counted.mems; combs = valid.counted.combs; regs = valid.counted.regs; rams = valid.counted.rams; carried = valid.counted.carried };
}

-- ---- a cell more

module _ (modules : List Interface) (m new : Module) (bits : List Bit) (drives : List ℕ) (old : InoutsApart modules m) (reads : AreInside modules m bits) (free : AreFreeNets modules m drives) (inside : (n : ℕ) → HasNet (inner_bits new) n → HasNet (inner_bits m) n ⊎ HasNet bits n) (nodes : (P : Node → Type 0) → ((k : ℕ) (p : Node) → slice_get (nodes_of m) k ≡ Some p → P p) → ((q : Node) → q.drives ≡ drives → P q) → (k : ℕ) (p : Node) → slice_get (nodes_of new) k ≡ Some p → P p) where
  no_wire : (n k : ℕ) (p : Node) → HasNet (inout_wires m) n → slice_get (nodes_of new) k ≡ Some p → Drives p n → ⊥
  no_wire n k p h at d = nodes (λ q. Drives q n → ⊥) (λ l q there. old.undriven_wires n l q h there) (λ q e (a, g). (free.inside a n (ap (λ l. slice_get l a) (sym e) ∙ g)).apart (wire_inout modules m n h)) k p at d

  no_pin : (n k : ℕ) (p : Node) → HasNet (inout_pins modules m) n → slice_get (nodes_of new) k ≡ Some p → Drives p n → ⊥
  no_pin n k p h at d = nodes (λ q. Drives q n → ⊥) (λ l q there. old.undriven_pins n l q h there) (λ q e (a, g). (free.inside a n (ap (λ l. slice_get l a) (sym e) ∙ g)).apart (pin_inout modules m n h)) k p at d

  wire_not_inside : (n : ℕ) → HasNet (inout_wires m) n → HasNet (inner_bits new) n → ⊥
  wire_not_inside n h g = elim (inside n g) [ inl a ↦ old.wires_inside n h a | inr a ↦ (reads n a).apart (wire_inout modules m n h) ]

  pin_not_inside : (n : ℕ) → HasNet (inout_pins modules m) n → HasNet (inner_bits new) n → ⊥
  pin_not_inside n h g = elim (inside n g) [ inl a ↦ old.pins_inside n h a | inr a ↦ (reads n a).apart (pin_inout modules m n h) ]

module _ (lib : Library) (modules : List Interface) (m : Module) (c : Comb) (joins : CombJoins modules m c) (valid : IsValid lib modules m) where
  abbrev comb_rest : List Bit
  comb_rest = flat_map reg_bits m.regs ++ (flat_map mem_bits m.mems ++ (flat_map ram_bits m.rams ++ flat_map (λ (p : MemPart). bits_of_pins p.pins) m.parts))

  comb_inside : (n : ℕ) → HasNet (inner_bits (with_comb m c)) n → HasNet (inner_bits m) n ⊎ HasNet (comb_bits c) n
  comb_inside n h = flat_more comb_bits m.combs c comb_rest n h

  comb_all : (n : ℕ) → HasNet (all_bits (with_comb m c)) n → n < m.nets
  comb_all n h =
      let front = flat_map carried_bits m.carried in
      elim (bits_more (wire_bits m.wires) (front ++ inner_bits m) (front ++ inner_bits (with_comb m c)) (comb_bits c) n (bits_more front (inner_bits m) (inner_bits (with_comb m c)) (comb_bits c) n (comb_inside n)) h) [
        | inl a ↦ valid.nets n a
        | inr a ↦ (joins.reads n a).below
      ]

  comb_cases : (P : Node → Type 0) → ((k : ℕ) (p : Node) → slice_get (nodes_of m) k ≡ Some p → P p) → ((q : Node) → q.drives ≡ c.y → P q) → (k : ℕ) (p : Node) → slice_get (nodes_of (with_comb m c)) k ≡ Some p → P p
  comb_cases P old own = comb_nodes m c P old (own (comb_node c) refl)

  comb_names : AreApart (cell_names (with_comb m c))
  comb_names =
      let combs = map (λ (z : Comb). z.name) m.combs in
      let rest = map (λ (r : Reg). r.name) m.regs ++ (map (λ (z : RamCell). z.name) m.rams ++ (map (λ (z : Carried). z.name) m.carried ++ map (λ (p : MemPart). p.name) m.parts)) in
      let after : cell_names (with_comb m c) ≡ combs ++ (c.name ∷ rest) = ap (λ l. l ++ rest) (map-append (λ (z : Comb). z.name) m.combs (c ∷ [])) ∙ append_assoc combs (c.name ∷ []) rest in
      names_more (cell_names m) (cell_names (with_comb m c)) combs rest c.name refl after valid.cell_names (λ (k, at). joins.fresh k at)

  comb_silent : silent_nodes (with_comb m c) ≡ silent_nodes m
  comb_silent =
      let rest = map reg_node m.regs ++ flat_map mem_nodes m.mems in
      let a = count_join is_silent (map comb_node (m.combs ++ c ∷ [])) rest in
      let b = count_join is_silent (map comb_node m.combs) rest in
      let d = one_more comb_node m.combs c joins.some in
      omega (arith, a, b, d)

  comb_valid : IsValid lib modules (with_comb m c)
  comb_valid = record {
    name = valid.name;
    attrs = valid.attrs;
    wires = valid.wires;
    declared = valid.declared;
    parts = valid.parts;
    mems = valid.mems;
    combs = λ k y at. elim (get_pushed m.combs c y k at) [ inl old ↦ valid.combs k y old | inr (e, is) ↦ subst CombFits is joins.fits ];
    regs = valid.regs;
    rams = λ k y at. same_ram m (with_comb m c) (c ∷ []) refl lib y (valid.rams k y at);
    reads_agree = valid.reads_agree;
    carried = valid.carried;
    wire_names = valid.wire_names;
    mem_names = valid.mem_names;
    cell_names = comb_names;
    nets = comb_all;
    driven = added_comb_has_one_driver m c valid.driven joins.drives.undriven joins.drives.apart;
    driven_nets = λ k p at n d. comb_cases (λ q. Drives q n → n < m.nets) (λ l q there g. valid.driven_nets l q there n g) (λ q e (a, g). (joins.drives.inside a n (ap (λ l. slice_get l a) (sym e) ∙ g)).below) k p at d;
    inouts = record {
      nets = valid.inouts.nets;
      wires = valid.inouts.wires;
      pins = valid.inouts.pins;
      undriven_wires = no_wire modules m (with_comb m c) (comb_bits c) c.y valid.inouts joins.reads joins.drives comb_inside comb_cases;
      undriven_pins = no_pin modules m (with_comb m c) (comb_bits c) c.y valid.inouts joins.reads joins.drives comb_inside comb_cases;
      wires_inside = wire_not_inside modules m (with_comb m c) (comb_bits c) c.y valid.inouts joins.reads joins.drives comb_inside comb_cases;
      pins_inside = pin_not_inside modules m (with_comb m c) (comb_bits c) c.y valid.inouts joins.reads joins.drives comb_inside comb_cases;
    };
    clocks = valid.clocks;
    net_count = valid.net_count;
    silent = let e = comb_silent in let l = valid.silent in omega (arith, e, l);
    counted = record { wires = valid.counted.wires; declared = valid.counted.declared; parts = valid.counted.parts; mems = valid.counted.mems; combs = let l = joins.counted in omega (arith, l, length-append m.combs (c ∷ [])); regs = valid.counted.regs; rams = valid.counted.rams; carried = valid.counted.carried };
  }

pub added_comb_is_valid : AddedCombIsValid
added_comb_is_valid lib modules m c joins valid = comb_valid lib modules m c joins valid

-- ---- a register more

module _ (lib : Library) (modules : List Interface) (m : Module) (r : Reg) (joins : RegJoins modules m r) (valid : IsValid lib modules m) where
  abbrev reg_rest : List Bit
  reg_rest = flat_map mem_bits m.mems ++ (flat_map ram_bits m.rams ++ flat_map (λ (p : MemPart). bits_of_pins p.pins) m.parts)

  reg_inside : (n : ℕ) → HasNet (inner_bits (with_reg m r)) n → HasNet (inner_bits m) n ⊎ HasNet (reg_bits r) n
  reg_inside n h = bits_more (flat_map comb_bits m.combs) (flat_map reg_bits m.regs ++ reg_rest) (flat_map reg_bits (m.regs ++ r ∷ []) ++ reg_rest) (reg_bits r) n (flat_more reg_bits m.regs r reg_rest n) h

  reg_all : (n : ℕ) → HasNet (all_bits (with_reg m r)) n → n < m.nets
  reg_all n h =
      let front = flat_map carried_bits m.carried in
      elim (bits_more (wire_bits m.wires) (front ++ inner_bits m) (front ++ inner_bits (with_reg m r)) (reg_bits r) n (bits_more front (inner_bits m) (inner_bits (with_reg m r)) (reg_bits r) n (reg_inside n)) h) [
        | inl a ↦ valid.nets n a
        | inr a ↦ (joins.reads n a).below
      ]

  reg_cases : (P : Node → Type 0) → ((k : ℕ) (p : Node) → slice_get (nodes_of m) k ≡ Some p → P p) → ((q : Node) → q.drives ≡ r.q → P q) → (k : ℕ) (p : Node) → slice_get (nodes_of (with_reg m r)) k ≡ Some p → P p
  reg_cases P old own = reg_nodes m r P old (own (reg_node r) refl)

  reg_names : AreApart (cell_names (with_reg m r))
  reg_names =
      let combs = map (λ (z : Comb). z.name) m.combs in
      let regs = map (λ (z : Reg). z.name) m.regs in
      let rest = map (λ (z : RamCell). z.name) m.rams ++ (map (λ (z : Carried). z.name) m.carried ++ map (λ (p : MemPart). p.name) m.parts) in
      let before : cell_names m ≡ (combs ++ regs) ++ rest = sym (append_assoc combs regs rest) in
      let after : cell_names (with_reg m r) ≡ (combs ++ regs) ++ (r.name ∷ rest) =
      ap (λ l. combs ++ (l ++ rest)) (map-append (λ (z : Reg). z.name) m.regs (r ∷ [])) ∙ ap (λ l. combs ++ l) (append_assoc regs (r.name ∷ []) rest) ∙ sym (append_assoc combs regs (r.name ∷ rest)) in
      names_more (cell_names m) (cell_names (with_reg m r)) (combs ++ regs) rest r.name before after valid.cell_names (λ (k, at). joins.fresh k at)

  reg_silent : silent_nodes (with_reg m r) ≡ silent_nodes m
  reg_silent =
      let front = map comb_node m.combs in
      let rest = flat_map mem_nodes m.mems in
      let a = count_join is_silent front (map reg_node (m.regs ++ r ∷ []) ++ rest) in
      let b = count_join is_silent front (map reg_node m.regs ++ rest) in
      let c = count_join is_silent (map reg_node (m.regs ++ r ∷ [])) rest in
      let d = count_join is_silent (map reg_node m.regs) rest in
      let e = one_more reg_node m.regs r joins.some in
      omega (arith, a, b, c, d, e)

  -- the clock of the register is one of the module's
  known_input : (c : Clock) → IsKnownClock m c → (net : ℕ) (rising : Bool) → c ≡ Root net rising → (place : ℕ) × (slice_get (inputs_of m) place ≡ Some net)
  known_input Never known net rising e = cc
  known_input (Root a b) (k, edge, at) net rising e = valid.clocks k net edge (at ∙ ap (λ n. Some (Root n edge)) (net_is a net b rising e))
    where
      net_is : (a net : ℕ) (b rising : Bool) → Root a b ≡ Root net rising → a ≡ net
      net_is a net b rising e = cc

  reg_clocks : (k net : ℕ) (rising : Bool) → slice_get (clocks_of (with_reg m r)) k ≡ Some (Root net rising) → (place : ℕ) × (slice_get (inputs_of m) place ≡ Some net)
  reg_clocks k net rising at =
      let clocks = map (λ (z : Reg). z.clock) m.regs in
      let others = flat_map mem_clocks m.mems ++ flat_map ram_clocks m.rams in
      elim (has_either (map (λ (z : Reg). z.clock) (m.regs ++ r ∷ [])) others (Root net rising) (k, at)) [
        | inl a ↦
            let (y, there, e) = map_has (λ (z : Reg). z.clock) (m.regs ++ r ∷ []) (Root net rising) a in
            elim (pushed_has m.regs r y there) [
              | inl old ↦
                  let (l, h) = has_left clocks others (Root net rising) (subst (Has clocks) e (has_map (λ (z : Reg). z.clock) m.regs y old)) in
                  valid.clocks l net rising h
              | inr same ↦ known_input r.clock joins.clock net rising (ap (λ (z : Reg). z.clock) same ∙ e)
            ]
        | inr b ↦ let (l, h) = has_right clocks others (Root net rising) b in valid.clocks l net rising h
      ]

  reg_valid : IsValid lib modules (with_reg m r)
  reg_valid = record {
    name = valid.name;
    attrs = valid.attrs;
    wires = valid.wires;
    declared = valid.declared;
    parts = valid.parts;
    mems = valid.mems;
    combs = valid.combs;
    regs = λ k y at. elim (get_pushed m.regs r y k at) [ inl old ↦ valid.regs k y old | inr (e, is) ↦ subst RegFits is joins.fits ];
    rams = λ k y at. same_ram m (with_reg m r) [] (sym (append-nil m.combs)) lib y (valid.rams k y at);
    reads_agree = valid.reads_agree;
    carried = valid.carried;
    wire_names = valid.wire_names;
    mem_names = valid.mem_names;
    cell_names = reg_names;
    nets = reg_all;
    driven = added_reg_has_one_driver m r valid.driven joins.drives.undriven joins.drives.apart;
    driven_nets = λ k p at n d. reg_cases (λ q. Drives q n → n < m.nets) (λ l q there g. valid.driven_nets l q there n g) (λ q e (a, g). (joins.drives.inside a n (ap (λ l. slice_get l a) (sym e) ∙ g)).below) k p at d;
    inouts = record {
      nets = valid.inouts.nets;
      wires = valid.inouts.wires;
      pins = valid.inouts.pins;
      undriven_wires = no_wire modules m (with_reg m r) (reg_bits r) r.q valid.inouts joins.reads joins.drives reg_inside reg_cases;
      undriven_pins = no_pin modules m (with_reg m r) (reg_bits r) r.q valid.inouts joins.reads joins.drives reg_inside reg_cases;
      wires_inside = wire_not_inside modules m (with_reg m r) (reg_bits r) r.q valid.inouts joins.reads joins.drives reg_inside reg_cases;
      pins_inside = pin_not_inside modules m (with_reg m r) (reg_bits r) r.q valid.inouts joins.reads joins.drives reg_inside reg_cases;
    };
    clocks = reg_clocks;
    net_count = valid.net_count;
    silent = let e = reg_silent in let l = valid.silent in omega (arith, e, l);
    counted = record { wires = valid.counted.wires; declared = valid.counted.declared; parts = valid.counted.parts; mems = valid.counted.mems; combs = valid.counted.combs; regs = let l = joins.counted in omega (arith, l, length-append m.regs (r ∷ [])); rams = valid.counted.rams; carried = valid.counted.carried };
  }

pub added_reg_is_valid : AddedRegIsValid
added_reg_is_valid lib modules m r joins valid = reg_valid lib modules m r joins valid
