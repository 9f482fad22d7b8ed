-- Each clock of a module is an input.
use Rattle.std.proofs.Common.{◌≡◌, inl, inr, ◌⊎◌, ℕ, zero, suc, ◌+◌, ◌≤◌, Bool, true, false, cond, not, ◌&&◌, List, [], ◌∷◌, ◌++◌, map, take, drop, length, replicate, get_or, Option, Some, None, slice_get, codes, nat_eq, refl, sym, ap, ◌∙◌, subst, arith}
use Rattle.std.specs.Prelude.{filter, if◌then◌else◌, slice_set}
use Rattle.std.specs.List.{flat_map}
use Rattle.std.proofs.lemmas.Option.{get_or_from_slice_get, same_Some, slice_get-get_or}
use Rattle.std.proofs.lemmas.Bool.{cases_eq, cases_lt}
use Rattle.std.proofs.lemmas.Bool.Decides.{nat_tests}
use Rattle.std.proofs.lemmas.List.{get_or_past}
use Rattle.lib_core.specs.declared.library.Tri.{Tri}
use Rattle.rtlil_text.specs.declared.doc.DocModule.{DocModule}
use Rattle.rtlil_text.specs.declared.doc.DocWire.{DocWire}
use Rattle.rtlil_text.specs.declared.doc.Item.{Item}
use Rattle.rtlil_text.specs.declared.doc.Item.TheVariants as item
use Rattle.rtlil_text.specs.Grammar.{All}
use Rattle.net_core.specs.declared.bits.Bit.{Bit}
use Rattle.net_core.specs.declared.bits.Bit.TheVariants as bits
use Rattle.net_core.specs.declared.bits.Clock.TheVariants as clock
use Rattle.net_core.specs.declared.cells.Reg.{Reg}
use Rattle.net_core.specs.declared.modules.Wire.{Wire}
use Rattle.net_core.specs.declared.rams.RamCell.{RamCell}
use Rattle.net_core.specs.Ports.{by_port, clocks_of, driving_bits, inputs_of, is_input_wire, nets_of, ram_clocks, wire_bits}
use Rattle.net_wires.specs.declared.clock.ClockRoot.{ClockRoot}
use Rattle.net_wires.specs.declared.clock.ClockRoot.TheVariants as leads
use Rattle.net_wires.specs.declared.clock.Drive.{Drive}
use Rattle.net_wires.specs.declared.clock.Drive.TheVariants as drive
use Rattle.net_wires.specs.declared.clock.Inverter.{Inverter}
use Rattle.net_wires.specs.declared.link.Link.{Link}
use Rattle.net_wires.specs.declared.source.Source.{Source}
use Rattle.net_wires.specs.declared.source.Source.TheVariants as source
use Rattle.net_wires.specs.Clocks as clocked
use Rattle.net_wires.specs.Clocks.{AreClocks, clock_of, driven_by, drives, inverted_by, LeadsToRoot}
use Rattle.net_wires.specs.Nets.{bit_of}
use Rattle.net_wires.proofs.Places.{set_other}
use Rattle.net_wires.proofs.Ready.{set_is}
use Rattle.net_core.specs.Logic.{xor}
use Rattle.raw_cells.specs.declared.raw.CellShape.{CellShape}
use Rattle.raw_cells.specs.declared.raw.CellShape.TheVariants as shape
use Rattle.raw_cells.specs.declared.raw.RawCell.{RawCell}
use Rattle.raw_cells.specs.declared.raw.RawPin.{RawPin}
use Rattle.net_gather.specs.Cells.{Context}
use Rattle.net_gather.specs.Gather.{gathered}
use Rattle.raw_cells.specs.Bits.{bits_of, sources_at}
use Rattle.net_cells.specs.Cells.{carried_of, reg_of}
use Rattle.raw_cells.specs.Clocks.{clock_at, clock_by, first_root, place_bit, root_clock}
use Rattle.net_cells.specs.Wires.{wire_of, wires_from}
use Rattle.net_module.specs.Assembly.{carried_by, carried_cells, module_of, reg_by, regs_of}
use Rattle.net_fits.specs.Clocks.{ComesFrom, kept_by, kept_sources, root_sources, RootsAmong}
use Rattle.net_fits.specs.Rams.{is_this}
use Rattle.net_fits.proofs.Ends.{Behind, behind_more, behind_none, behind_one}
use Rattle.net_fits.proofs.Lists.{all_join, each_of, how_many, many_joined, many_there}
use Rattle.net_fits.proofs.NetCounts.{by_port_counted, carried_outs, kept_counted, nets_counted, sources_joined}
use Rattle.net_fits.proofs.Solved.{inputs_alike, inputs_from, run_from}

-- ---- roots

other_drive : (ds : List Drive) (q p : ℕ) (d : Drive) → (d ≡ drive.Root → ⊥) → slice_get (slice_set ds q d) p ≡ Some drive.Root → slice_get ds p ≡ Some drive.Root
other_drive ds q p d other at = elim (set_is ds q p drive.Root d at) [ inl e ↦ absurd (other e) | inr old ↦ old ]

digits_keep : (ds : List Drive) (ps : List ℕ) (p : ℕ) → slice_get (driven_by drive.Digit ds ps) p ≡ Some drive.Root → slice_get ds p ≡ Some drive.Root
digits_keep ds [] p at = at
digits_keep ds (q ∷ qs) p at = other_drive ds q p drive.Digit (λ e. cc) (digits_keep (slice_set ds q drive.Digit) qs p at)

inverters_keep : (ds : List Drive) (is : List Inverter) (p : ℕ) → slice_get (inverted_by ds is) p ≡ Some drive.Root → slice_get ds p ≡ Some drive.Root
inverters_keep ds [] p at = at
inverters_keep ds (i ∷ is) p at = other_drive ds i.to p (drive.Inverts i.from) (λ e. cc) (inverters_keep (slice_set ds i.to (drive.Inverts i.from)) is p at)

none_open : (n p : ℕ) → slice_get (replicate n drive.Open) p ≡ Some drive.Root → ⊥
none_open zero p at = cc
none_open (suc n) zero at = cc
none_open (suc n) (suc p) at = none_open n p at

roots_are : (ds : List Drive) (ps : List ℕ) (p : ℕ) → slice_get (driven_by drive.Root ds ps) p ≡ Some drive.Root → ((k : ℕ) × (slice_get ps k ≡ Some p)) ⊎ (slice_get ds p ≡ Some drive.Root)
roots_are ds [] p at = inr at
roots_are ds (q ∷ qs) p at =
    elim (roots_are (slice_set ds q drive.Root) qs p at) [
      | inl there ↦ inl (suc there.0, there.1)
      | inr old ↦ elim (cases_eq p q) [ inl same ↦ inl (zero, ap (λ k. Some k) (sym same)) | inr ne ↦ inr (sym (set_other ds q p drive.Root ne) ∙ old) ]
    ]

rooted : (n : ℕ) (from : List ℕ) (is : List Inverter) (digits : List ℕ) (p : ℕ) → slice_get (drives n from is digits) p ≡ Some drive.Root → (k : ℕ) × (slice_get from k ≡ Some p)
rooted n from is digits p at =
    let start = driven_by drive.Root (replicate n drive.Open) from in
    elim (roots_are (replicate n drive.Open) from p (inverters_keep start is p (digits_keep (inverted_by start is) digits p at))) [ inl there ↦ there | inr open_ ↦ absurd (none_open n p open_) ]

leads_there : (t : List Link) (ds : List Drive) (p r : ℕ) (flipped : Bool) → LeadsToRoot t ds p r flipped → slice_get ds r ≡ Some drive.Root
leads_there t ds p r flipped (clocked.here q e at d) = d
leads_there t ds p r flipped (clocked.connect q s u f at more) = leads_there t ds s u f more
leads_there t ds p r flipped (clocked.invert q e s u f at d more) = leads_there t ds s u f more

pub clocks_lead_to_roots : (t : List Link) (n : ℕ) (from : List ℕ) (inverters : List Inverter) (digits : List ℕ) (roots : List ClockRoot) → AreClocks t (drives n from inverters digits) roots
    → (i p : ℕ) (flipped : Bool) → slice_get roots i ≡ Some (leads.Root p flipped) → (k : ℕ) × (slice_get from k ≡ Some p)
clocks_lead_to_roots t n from inverters digits roots are i p flipped at = rooted n from inverters digits p (leads_there t (drives n from inverters digits) i p flipped (are.each i (leads.Root p flipped) at))

-- ---- the clock at a pin

no_root : (p : ℕ) (flipped : Bool) → leads.Unknown ≡ leads.Root p flipped → ⊥
no_root p flipped e = cc

module _ (places : List Bit) (roots : List ClockRoot) where
  bit_case : (i p : ℕ) (flipped rising : Bool) (b : Bit) → slice_get roots i ≡ Some (leads.Root p flipped) → place_bit places p ≡ b → ComesFrom places roots (root_clock b rising)
  bit_case i p flipped rising bits.Zero at e = tt
  bit_case i p flipped rising bits.One at e = tt
  bit_case i p flipped rising (bits.Net n) at e = (i, p, flipped, at, e)

  by_root : (rising : Bool) (r : ClockRoot) → ((p : ℕ) (flipped : Bool) → r ≡ leads.Root p flipped → (i : ℕ) × (slice_get roots i ≡ Some (leads.Root p flipped))) → ComesFrom places roots (clock_by places rising r)
  by_root rising leads.Never f = tt
  by_root rising leads.Unknown f = tt
  by_root rising (leads.Root p flipped) f = (let there = f p flipped refl in bit_case there.0 p flipped (xor rising flipped) (place_bit places p) there.1 refl)

  root_there : (q p : ℕ) (flipped : Bool) → get_or roots q leads.Unknown ≡ leads.Root p flipped → (i : ℕ) × (slice_get roots i ≡ Some (leads.Root p flipped))
  root_there q p flipped e =
      elim (cases_lt q (length roots)) [
        | inl h ↦ (q, slice_get-get_or roots q leads.Unknown h ∙ ap (λ r. Some r) e)
        | inr h ↦ absurd (no_root p flipped (sym (get_or_past roots q leads.Unknown h) ∙ e))
      ]

  of_source : (s : Source) (p : ℕ) (flipped : Bool) → clock_of roots s ≡ leads.Root p flipped → (i : ℕ) × (slice_get roots i ≡ Some (leads.Root p flipped))
  of_source source.Zero p flipped e = absurd cc
  of_source source.One p flipped e = absurd cc
  of_source source.Loose p flipped e = absurd cc
  of_source (source.At q) p flipped e = root_there q p flipped e

  of_first : (ss : List Source) (p : ℕ) (flipped : Bool) → first_root roots ss ≡ leads.Root p flipped → (i : ℕ) × (slice_get roots i ≡ Some (leads.Root p flipped))
  of_first [] p flipped e = absurd cc
  of_first (s ∷ ss) p flipped e = of_source s p flipped e

  pub pin_clocks_come : (pins : List RawPin) (name : List ℕ) (rising : Bool) → ComesFrom places roots (clock_at places roots pins name rising)
  pin_clocks_come pins name rising = by_root rising (first_root roots (sources_at pins name)) (of_first (sources_at pins name))

  reg_clocks : (starts : List Tri) (name : List ℕ) (s : CellShape) (ps : List RawPin) → All (ComesFrom places roots) (map (λ (r : Reg). r.clock) (reg_by places roots starts name s ps))
  unfolding reg_of
  reg_clocks starts name (shape.Comb q) ps = tt
  reg_clocks starts name (shape.Reg q) ps = (pin_clocks_come ps (codes "\\CLK") q.controls.rising, tt)
  reg_clocks starts name (shape.Carried k) ps = tt
  reg_clocks starts name (shape.Memory k q) ps = tt
  reg_clocks starts name (shape.Ram u) ps = tt

  map_joined : {X Y : Type 0} (f : X → Y) (xs ys : List X) → map f (xs ++ ys) ≡ map f xs ++ map f ys
  map_joined f [] ys = refl
  map_joined f (x ∷ xs) ys = ap (λ zs. f x ∷ zs) (map_joined f xs ys)

  regs_clocks : (starts : List Tri) (cs : List RawCell) → All (ComesFrom places roots) (map (λ (r : Reg). r.clock) (regs_of places roots starts cs))
  regs_clocks starts [] = tt
  regs_clocks starts (c ∷ cs) =
      subst (All (ComesFrom places roots)) (sym (map_joined (λ (r : Reg). r.clock) (reg_by places roots starts c.name c.shape c.pins) (regs_of places roots starts cs)))
      (all_join (ComesFrom places roots) _ _ (reg_clocks starts c.name c.shape c.pins) (regs_clocks starts cs))

-- ---- roots are inputs

one_case : (a b : Bool) (x y : ℕ) → (a ≡ true → b ≡ true) → x ≤ y → cond a 1 0 + x ≤ cond b 1 0 + y
one_case true true x y f h = omega (arith, h)
one_case false true x y f h = omega (arith, h)
one_case false false x y f h = omega (arith, h)
one_case true false x y f h = (let e : false ≡ true = f refl in absurd cc)

none_case : (a : Bool) (x : ℕ) → (a ≡ true → ⊥) → x ≤ 0 → cond a 1 0 + x ≤ 0
none_case true x f h = absurd (f refl)
none_case false x f h = omega (arith, h)

any_case : {X : Type 0} (p : X → Bool) (b : Bool) (x : X) (xs : List X) → p x ≡ b → 1 ≤ cond b 1 0 + how_many p xs → (1 ≤ how_many p xs → (k : ℕ) × (y : X) × (slice_get xs k ≡ Some y) × (p y ≡ true)) → (k : ℕ) × (y : X) × (slice_get (x ∷ xs) k ≡ Some y) × (p y ≡ true)
any_case p true x xs e h f = (zero, x, refl, e)
any_case p false x xs e h f = (let rest = f (omega (arith, h)) in (suc rest.0, rest.1, rest.2, rest.3))

-- what is counted stands somewhere
any_there : {X : Type 0} (p : X → Bool) (xs : List X) → 1 ≤ how_many p xs → (k : ℕ) × (y : X) × (slice_get xs k ≡ Some y) × (p y ≡ true)
any_there p [] h = absurd (omega (arith, h))
any_there p (x ∷ xs) h = any_case p (p x) x xs refl h (any_there p xs)

net_is : (n k : ℕ) → nat_eq n k ≡ true → k ≡ n
net_is n k e = grind (arith, nat_tests)

own_net : (n : ℕ) → nat_eq n n ≡ true
own_net n = grind (arith, nat_tests)

mapped_at : {X Y : Type 0} (f : X → Y) (xs : List X) (k : ℕ) (x : X) → slice_get xs k ≡ Some x → slice_get (map f xs) k ≡ Some (f x)
mapped_at f [] k x e = absurd cc
mapped_at f (y ∷ ys) zero x e = ap (λ z. Some (f z)) (same_Some y x e)
mapped_at f (y ∷ ys) (suc k) x e = mapped_at f ys k x e

no_some : {X : Type 0} (x : X) → None ≡ Some x → ⊥
no_some x e = cc

number_there : (n : ℕ) (ns : List ℕ) → 1 ≤ how_many (nat_eq n) ns → (k : ℕ) × (slice_get ns k ≡ Some n)
number_there n ns h = (let there = any_there (nat_eq n) ns h in (there.0, there.2 ∙ ap (λ j. Some j) (net_is n there.1 there.3)))

module _ (n : ℕ) (places : List Bit) where
  past_zero : (o : Option Bit) (p : ℕ) → slice_get places p ≡ None → is_this n (get_or places p bits.Zero) ≡ true → ⊥
  past_zero o p e h =
      elim (cases_lt p (length places)) [
        | inl less ↦ no_some (get_or places p bits.Zero) (sym e ∙ slice_get-get_or places p bits.Zero less)
        | inr more ↦ (let zero_ : is_this n (get_or places p bits.Zero) ≡ false = ap (is_this n) (get_or_past places p bits.Zero more) in cc)
      ]

  run_past : (width from : ℕ) → Behind places from [] → how_many (is_this n) (bits_of places (run_from from width)) ≤ 0
  run_past zero from h = omega arith
  run_past (suc width) from h =
      let e : from + 0 ≡ from = omega arith in
      let later : Behind places (from + 1) [] = λ i. (let f : from + suc i ≡ from + 1 + i = omega arith in h (suc i) ∙ ap (slice_get places) f) in
      none_case (is_this n (get_or places from bits.Zero)) _ (past_zero None from (ap (slice_get places) (sym e) ∙ sym (h 0))) (run_past width (from + 1) later)

  run_back : (width from : ℕ) (left : List Bit) → Behind places from left → how_many (is_this n) (bits_of places (run_from from width)) ≤ how_many (is_this n) (take width left)
  run_back zero from left h = omega arith
  run_back (suc width) from [] h = run_past (suc width) from h
  run_back (suc width) from (b ∷ bs) h =
      let e : from + 0 ≡ from = omega arith in
      let at : slice_get places from ≡ Some b = ap (slice_get places) (sym e) ∙ sym (h 0) in
      let same : get_or places from bits.Zero ≡ b = get_or_from_slice_get places from b bits.Zero at in
      one_case (is_this n (get_or places from bits.Zero)) (is_this n b) _ _ (λ this. ap (is_this n) (sym same) ∙ this) (run_back width (from + 1) bs (behind_one places from b bs h))

  wire_back : (from : ℕ) (w : DocWire) (left : List Bit) (d : Bool) (ws : List Wire) (later : List Source) → Behind places from left → how_many (is_this n) (bits_of places later) ≤ how_many (is_this n) (wire_bits ws)
      → how_many (is_this n) (bits_of places ((if d then run_from from w.width else []) ++ later)) ≤ how_many (is_this n) (wire_bits (cond d (wire_of (take w.width left) w ∷ ws) ws))
  unfolding wire_of
  wire_back from w left true ws later h few =
      let here = run_back w.width from left h in
      let a = many_joined (is_this n) (take w.width left) (wire_bits ws) in
      let b = sources_joined n places (run_from from w.width) later in
      omega (arith, few, here, a, b)
  wire_back from w left false ws later h few = few

  inputs_back : (from : ℕ) (left : List Bit) (is : List Item) → Behind places from left → how_many (is_this n) (bits_of places (inputs_from from is)) ≤ how_many (is_this n) (wire_bits (filter is_input_wire (wires_from left is)))
  unfolding wires_from wire_of
  inputs_back from left [] h = omega arith
  inputs_back from left (item.Wire w ∷ is) h =
      wire_back from w left (w.input && not w.output) (filter is_input_wire (wires_from (drop w.width left) is)) (inputs_from (from + w.width) is) h
      (inputs_back (from + w.width) (drop w.width left) is (behind_more places w.width from left h))
  inputs_back from left (item.Param p ∷ is) h = inputs_back from left is h
  inputs_back from left (item.Mem m ∷ is) h = inputs_back from left is h
  inputs_back from left (item.Cell c ∷ is) h = inputs_back from left is h
  inputs_back from left (item.Connect l r ∷ is) h = inputs_back from left is h

  kept_shape : (name : List ℕ) (s : CellShape) (ps : List RawPin) → how_many (is_this n) (bits_of places (kept_by s ps)) ≡ how_many (is_this n) (carried_outs (carried_by places name s ps))
  unfolding carried_of
  kept_shape name (shape.Comb q) ps = refl
  kept_shape name (shape.Reg q) ps = refl
  kept_shape name (shape.Carried k) ps = (let a = kept_counted n places ps in let b = many_joined (is_this n) (driving_bits (carried_of places name k ps)) [] in omega (arith, a, b))
  kept_shape name (shape.Memory k q) ps = refl
  kept_shape name (shape.Ram u) ps = refl

  flat_counted : {X Y : Type 0} (p : Y → Bool) (f : X → List Y) (xs ys : List X) → how_many p (flat_map f (xs ++ ys)) ≡ how_many p (flat_map f xs) + how_many p (flat_map f ys)
  flat_counted p f [] ys = omega arith
  flat_counted p f (x ∷ xs) ys =
      let rest = flat_counted p f xs ys in
      let a = many_joined p (f x) (flat_map f (xs ++ ys)) in
      let b = many_joined p (f x) (flat_map f xs) in
      omega (arith, rest, a, b)

  kept_back : (cs : List RawCell) → how_many (is_this n) (bits_of places (kept_sources cs)) ≡ how_many (is_this n) (carried_outs (carried_cells places cs))
  kept_back [] = refl
  kept_back (c ∷ cs) =
      let one = kept_shape c.name c.shape c.pins in
      let rest = kept_back cs in
      let a = sources_joined n places (kept_by c.shape c.pins) (kept_sources cs) in
      let b = flat_counted (is_this n) driving_bits (carried_by places c.name c.shape c.pins) (carried_cells places cs) in
      omega (arith, one, rest, a, b)

pub clocks_are_inputs : (x : Context) (m : DocModule) (places : List Bit) (count : ℕ) (roots : List ClockRoot) (starts : List Tri) (rams : List RamCell)
    → RootsAmong (root_sources m.items (gathered x m.items).cells) roots → All (ComesFrom places roots) (flat_map ram_clocks rams)
    → (k net : ℕ) (rising : Bool) → slice_get (clocks_of (module_of m (gathered x m.items).cells places count roots starts rams)) k ≡ Some (clock.Root net rising)
    → (place : ℕ) × (slice_get (inputs_of (module_of m (gathered x m.items).cells places count roots starts rams)) place ≡ Some net)
unfolding module_of
clocks_are_inputs x m places count roots starts rams among rams_come k net rising at =
    let cs = (gathered x m.items).cells in
    let wires = filter is_input_wire (wires_from places m.items) in
    let come = each_of (ComesFrom places roots) (map (λ (r : Reg). r.clock) (regs_of places roots starts cs) ++ flat_map ram_clocks rams)
    (all_join (ComesFrom places roots) _ _ (regs_clocks places roots starts cs) rams_come) k (clock.Root net rising) at in
    let there = among come.0 come.1 come.2 come.3 in
    let root = root_sources m.items cs in
    let some : 1 ≤ how_many (is_this net) (bits_of places root) =
    many_there (is_this net) (bits_of places root) there.0 (bit_of places (source.At come.1)) (mapped_at (bit_of places) root there.0 (source.At come.1) there.1) (ap (is_this net) come.4 ∙ own_net net) in
    let split = sources_joined net places (inputs_from 0 m.items) (kept_sources cs) in
    let same : how_many (is_this net) (bits_of places root) ≡ how_many (is_this net) (bits_of places (inputs_from 0 m.items ++ kept_sources cs)) = ap (λ (ss : List Source). how_many (is_this net) (bits_of places (ss ++ kept_sources cs))) (inputs_alike 0 m.items) in
    let ins = inputs_back net places 0 places m.items (behind_none places) in
    let kept = kept_back net places cs in
    let order = by_port_counted (is_this net) (λ (w : Wire). w.bits) wires in
    let join = many_joined (is_this net) (wire_bits (by_port wires)) (carried_outs (carried_cells places cs)) in
    let nets = nets_counted net (wire_bits (by_port wires) ++ carried_outs (carried_cells places cs)) in
    number_there net (nets_of (wire_bits (by_port wires) ++ carried_outs (carried_cells places cs))) (omega (arith, some, split, same, ins, kept, order, join, nets))
