-- How often a net is driven: in a module that is made of gathered cells no more often than among what is driven.
use Rattle.std.proofs.Common.{◌≡◌, ℕ, zero, suc, ◌+◌, ◌≤◌, ◌<◌, Bool, true, false, cond, not, ◌&&◌, List, [], ◌∷◌, ◌++◌, map, take, drop, get_or, Option, Some, slice_get, codes, nat_eq, nat_le, refl, sym, ap, ◌∙◌, arith}
use Rattle.std.specs.Prelude.{if◌then◌else◌, filter}
use Rattle.std.specs.List.{count_by, flat_map}
use Rattle.std.specs.Str.{bytes_eq}
use Rattle.std.proofs.lemmas.Option.{get_or_from_slice_get}
use Rattle.std.proofs.lemmas.Bool.Decides.{nat_tests}
use Rattle.lib_core.specs.declared.library.Library.{Library}
use Rattle.lib_core.specs.declared.library.Tri.{Tri}
use Rattle.rtlil_text.specs.declared.doc.Item.{Item}
use Rattle.rtlil_text.specs.declared.doc.Item.TheVariants as item
use Rattle.rtlil_text.specs.declared.doc.DocWire.{DocWire}
use Rattle.rtlil_text.specs.Grammar.{All}
use Rattle.net_core.specs.declared.bits.Bit.{Bit}
use Rattle.net_core.specs.declared.bits.Bit.TheVariants as bits
use Rattle.net_core.specs.declared.cells.Carried.{Carried}
use Rattle.net_core.specs.declared.cells.Comb.{Comb}
use Rattle.net_core.specs.declared.cells.Pin.{Pin}
use Rattle.net_core.specs.declared.cells.Reg.{Reg}
use Rattle.net_core.specs.declared.modules.Wire.{Wire}
use Rattle.net_core.specs.declared.rams.RamCell.{RamCell}
use Rattle.net_core.specs.Ports.{bits_of_pins, by_port, driving_bits, insert_port, is_input_wire, nets_of, wire_bits}
use Rattle.cell_rows.specs.declared.comb.CombRow.{CombRow}
use Rattle.cell_rows.specs.declared.operands.Operands.{Operands}
use Rattle.cell_rows.specs.declared.operands.Operands.TheVariants.{One, Alike, Free, Shift, Mux, Pmux}
use Rattle.cell_rows.specs.declared.pin.PinRow.{PinRow}
use Rattle.cell_rows.specs.declared.reg.RegRow.{RegRow}
use Rattle.cell_rows.specs.Operands.{operands}
use Rattle.cell_rows.specs.Pins.{comb_pins, pins_by, reg_pins}
use Rattle.net_wires.specs.declared.clock.ClockRoot.{ClockRoot}
use Rattle.net_wires.specs.declared.link.Link.{Link}
use Rattle.net_wires.specs.declared.source.Source.{Source}
use Rattle.net_wires.specs.declared.source.Source.TheVariants as source
use Rattle.net_wires.specs.Drivers.{is_place}
use Rattle.net_wires.specs.Nets.{bit_of, Solves}
use Rattle.raw_cells.specs.declared.raw.CellShape.{CellShape}
use Rattle.raw_cells.specs.declared.raw.CellShape.TheVariants as shape
use Rattle.raw_cells.specs.declared.raw.RawCell.{RawCell}
use Rattle.raw_cells.specs.declared.raw.RawPin.{RawPin}
use Rattle.net_gather.specs.FilePins.{in_table}
use Rattle.net_gather.specs.Laws.{CellsFit, FitsShape, FitsTable, row_of_pin}
use Rattle.raw_cells.specs.Bits.{bits_at, bits_of, pin_named, sources_of}
use Rattle.net_cells.specs.Cells.{carried_of, comb_of, pin_of, pins_of, reg_of}
use Rattle.net_cells.specs.Wires.{wire_of, wires_from}
use Rattle.net_module.specs.Assembly.{carried_by, carried_cells, comb_by, combs_of, reg_by, regs_of}
use Rattle.net_fits.specs.Driven.{cell_sources}
use Rattle.net_fits.specs.Rams.{driving_sources, EachRamOf, is_this, outs_of, ram_by, ram_cells}
use Rattle.net_fits.proofs.Ends.{Behind, behind_more, behind_one, counts_are, IsEnd}
use Rattle.net_fits.proofs.Lists.{how_many, many_joined}
use Rattle.net_fits.proofs.Solved.{inputs_from, run_from}
use Rattle.net_fits.proofs.Tables.{drives_of}

-- ---- nets among bits

pub nets_counted : (n : ℕ) (bs : List Bit) → how_many (nat_eq n) (nets_of bs) ≡ how_many (is_this n) bs
nets_counted n [] = refl
nets_counted n (bits.Zero ∷ bs) = (let rest = nets_counted n bs in omega (arith, rest))
nets_counted n (bits.One ∷ bs) = (let rest = nets_counted n bs in omega (arith, rest))
nets_counted n (bits.Net k ∷ bs) = ap (λ m. cond (nat_eq n k) 1 0 + m) (nets_counted n bs)

bits_joined : (places : List Bit) (xs ys : List Source) → bits_of places (xs ++ ys) ≡ bits_of places xs ++ bits_of places ys
bits_joined places [] ys = refl
bits_joined places (x ∷ xs) ys = ap (λ bs. bit_of places x ∷ bs) (bits_joined places xs ys)

pub sources_joined : (n : ℕ) (places : List Bit) (xs ys : List Source) → how_many (is_this n) (bits_of places (xs ++ ys)) ≡ how_many (is_this n) (bits_of places xs) + how_many (is_this n) (bits_of places ys)
sources_joined n places xs ys = ap (how_many (is_this n)) (bits_joined places xs ys) ∙ many_joined (is_this n) (bits_of places xs) (bits_of places ys)

-- ---- ends that are driven once are apart

this_net : (n : ℕ) (b : Bit) → is_this n b ≡ true → b ≡ bits.Net n
this_net n bits.Zero e = absurd cc
this_net n bits.One e = absurd cc
this_net n (bits.Net k) e = (let same : n ≡ k = grind (arith, nat_tests) in ap bits.Net (sym same))

eqb_is : (a b : ℕ) → a ≡ b → nat_eq a b ≡ true
eqb_is a b e = grind (arith, nat_tests)

net_there : (places : List Bit) (p n k : ℕ) → slice_get places p ≡ Some (bits.Net k) → is_this n (bit_of places (source.At p)) ≡ true → slice_get places p ≡ Some (bits.Net n)
net_there places p n k at e =
    let is : get_or places p bits.Zero ≡ bits.Net k = get_or_from_slice_get places p (bits.Net k) bits.Zero at in
    let same : get_or places p bits.Zero ≡ bits.Net n = this_net n (get_or places p bits.Zero) e in
    at ∙ ap (λ b. Some b) (sym is ∙ same)

one_case : (a b : Bool) (x y : ℕ) → (a ≡ true → b ≡ true) → x ≤ y → cond a 1 0 + x ≤ cond b 1 0 + y
one_case true true x y f h = omega (arith, h)
one_case false true x y f h = omega (arith, h)
one_case false false x y f h = omega (arith, h)
one_case true false x y f h = (let e : false ≡ true = f refl in absurd cc)

module _ (limit : ℕ) (t : List Link) (places : List Bit) (solves : Solves t places) where
  -- where this place has the net, it is the only end that has it
  as_often : (p n : ℕ) → IsEnd limit t (source.At p) → slice_get places p ≡ Some (bits.Net n) → (ss : List Source) → All (IsEnd limit t) ss → how_many (is_this n) (bits_of places ss) ≤ how_many (is_place p) ss
  as_often p n e at [] all = omega arith
  as_often p n e at (source.Zero ∷ ss) all = absurd all.0
  as_often p n e at (source.One ∷ ss) all = absurd all.0
  as_often p n e at (source.Loose ∷ ss) all = absurd all.0
  as_often p n e at (source.At q ∷ ss) all =
      let k = solves.net q all.0.1 in
      one_case (is_this n (bit_of places (source.At q))) (is_place p (source.At q)) _ _
      (λ this. eqb_is q p (solves.apart q p n all.0.1 e.1 (net_there places q n k.0 k.1 this) at)) (as_often p n e at ss all.1)

  this_case : (b : Bool) (x : ℕ) → (b ≡ true → x ≤ 0) → x ≤ 1 → cond b 1 0 + x ≤ 1
  this_case true x f h = (let none : x ≤ 0 = f refl in omega (arith, none))
  this_case false x f h = omega (arith, h)

  own_place : (p : ℕ) → is_place p (source.At p) ≡ true
  own_place p = eqb_is p p refl

  pub ends_once : (n : ℕ) (ss : List Source) → All (IsEnd limit t) ss → ((p : ℕ) → p < limit → how_many (is_place p) ss ≤ 1) → how_many (is_this n) (bits_of places ss) ≤ 1
  ends_once n [] all once = omega arith
  ends_once n (source.Zero ∷ ss) all once = absurd all.0
  ends_once n (source.One ∷ ss) all once = absurd all.0
  ends_once n (source.Loose ∷ ss) all once = absurd all.0
  ends_once n (source.At p ∷ ss) all once =
      let k = solves.net p all.0.1 in
      this_case (is_this n (bit_of places (source.At p))) (how_many (is_this n) (bits_of places ss))
      (λ this.
      (let few : cond (is_place p (source.At p)) 1 0 + how_many (is_place p) ss ≤ 1 = once p all.0.0 in
      let one : ◌≡◌ {A = ℕ} (cond (is_place p (source.At p)) 1 0) 1 = ap (λ b. cond b 1 0) (own_place p) in
      let often : how_many (is_this n) (bits_of places ss) ≤ how_many (is_place p) ss = as_often p n all.0 (net_there places p n k.0 k.1 this) ss all.1 in
      omega (arith, few, one, often)))
      (ends_once n ss all.1 (λ q h. (let few : cond (is_place q (source.At p)) 1 0 + how_many (is_place q) ss ≤ 1 = once q h in omega (arith, few))))

-- ---- input wires

port_case : {X : Type 0} (t : Bool) (p : X → Bool) (f : Wire → List X) (w x : Wire) (xs : List Wire) → how_many p (flat_map f (insert_port w xs)) ≡ how_many p (f w) + how_many p (flat_map f xs)
    → how_many p (flat_map f (cond t (w ∷ x ∷ xs) (x ∷ insert_port w xs))) ≡ how_many p (f w) + how_many p (f x ++ flat_map f xs)
port_case true p f w x xs h = many_joined p (f w) (f x ++ flat_map f xs)
port_case false p f w x xs h =
    let a = many_joined p (f x) (flat_map f (insert_port w xs)) in
    let b = many_joined p (f x) (flat_map f xs) in
    omega (arith, a, b, h)

inserted : {X : Type 0} (p : X → Bool) (f : Wire → List X) (w : Wire) (xs : List Wire) → how_many p (flat_map f (insert_port w xs)) ≡ how_many p (f w) + how_many p (flat_map f xs)
inserted p f w [] = many_joined p (f w) []
inserted p f w (x ∷ xs) = port_case (nat_le w.port x.port) p f w x xs (inserted p f w xs)

pub by_port_counted : {X : Type 0} (p : X → Bool) (f : Wire → List X) (ws : List Wire) → how_many p (flat_map f (by_port ws)) ≡ how_many p (flat_map f ws)
by_port_counted p f [] = refl
by_port_counted p f (w ∷ ws) =
    let rest = by_port_counted p f ws in
    let a = inserted p f w (by_port ws) in
    let b = many_joined p (f w) (flat_map f ws) in
    omega (arith, rest, a, b)

run_counted : (n : ℕ) (places : List Bit) (width from : ℕ) (left : List Bit) → Behind places from left → how_many (is_this n) (take width left) ≤ how_many (is_this n) (bits_of places (run_from from width))
run_counted n places zero from left h = omega arith
run_counted n places (suc width) from [] h = omega arith
run_counted n places (suc width) from (b ∷ bs) h =
    let e : from + 0 ≡ from = omega arith in
    let at : slice_get places from ≡ Some b = ap (slice_get places) (sym e) ∙ sym (h 0) in
    let same : get_or places from bits.Zero ≡ b = get_or_from_slice_get places from b bits.Zero at in
    one_case (is_this n b) (is_this n (get_or places from bits.Zero)) _ _ (λ this. ap (is_this n) same ∙ this) (run_counted n places width (from + 1) bs (behind_one places from b bs h))

wire_case : (n : ℕ) (places : List Bit) (from : ℕ) (w : DocWire) (left : List Bit) (d : Bool) (ws : List Wire) (later : List Source) → Behind places from left → how_many (is_this n) (wire_bits ws) ≤ how_many (is_this n) (bits_of places later)
    → how_many (is_this n) (wire_bits (cond d (wire_of (take w.width left) w ∷ ws) ws)) ≤ how_many (is_this n) (bits_of places ((if d then run_from from w.width else []) ++ later))
unfolding wire_of
wire_case n places from w left true ws later h few =
    let here = run_counted n places w.width from left h in
    let a = many_joined (is_this n) (take w.width left) (wire_bits ws) in
    let b = sources_joined n places (run_from from w.width) later in
    omega (arith, few, here, a, b)
wire_case n places from w left false ws later h few = few

pub inputs_counted : (n : ℕ) (places : List Bit) (from : ℕ) (left : List Bit) (is : List Item) → Behind places from left → how_many (is_this n) (wire_bits (filter is_input_wire (wires_from left is))) ≤ how_many (is_this n) (bits_of places (inputs_from from is))
unfolding wires_from wire_of
inputs_counted n places from left [] h = omega arith
inputs_counted n places from left (item.Wire w ∷ is) h =
    wire_case n places from w left (w.input && not w.output) (filter is_input_wire (wires_from (drop w.width left) is)) (inputs_from (from + w.width) is) h
    (inputs_counted n places (from + w.width) (drop w.width left) is (behind_more places w.width from left h))
inputs_counted n places from left (item.Param p ∷ is) h = inputs_counted n places from left is h
inputs_counted n places from left (item.Mem m ∷ is) h = inputs_counted n places from left is h
inputs_counted n places from left (item.Cell c ∷ is) h = inputs_counted n places from left is h
inputs_counted n places from left (item.Connect l r ∷ is) h = inputs_counted n places from left is h

-- ---- cells

pin_case : (n : ℕ) (places : List Bit) (t d : Bool) (p : RawPin) (o : Option RawPin) (q : Option PinRow) (rest : List Source) → p.drives ≡ d → (drives_of q ≡ true → how_many (is_this n) (bits_of places (sources_of o)) ≤ how_many (is_this n) (bits_of places rest))
    → drives_of (cond t (Some (row_of_pin p)) q) ≡ true → how_many (is_this n) (bits_of places (sources_of (cond t (Some p) o))) ≤ how_many (is_this n) (bits_of places ((if d then p.bits else []) ++ rest))
pin_case n places true true p o q rest is f h = (let a = sources_joined n places p.bits rest in omega (arith, a))
pin_case n places true false p o q rest is f h = (let e : p.drives ≡ true = h in absurd cc)
pin_case n places false true p o q rest is f h = (let a = sources_joined n places p.bits rest in let few = f h in omega (arith, a, few))
pin_case n places false false p o q rest is f h = f h

named_counted : (n : ℕ) (places : List Bit) (ps : List RawPin) (name : List ℕ) → drives_of (in_table (map row_of_pin ps) name) ≡ true → how_many (is_this n) (bits_at places ps name) ≤ how_many (is_this n) (bits_of places (driving_sources ps))
named_counted n places [] name h = omega arith
named_counted n places (p ∷ ps) name h = pin_case n places (bytes_eq p.name name) p.drives p (pin_named ps name) (in_table (map row_of_pin ps) name) (driving_sources ps) refl (named_counted n places ps name) h

table_counted : (n : ℕ) (places : List Bit) (table : List PinRow) (ps : List RawPin) (name : List ℕ) → FitsTable table ps → drives_of (in_table table name) ≡ true → how_many (nat_eq n) (nets_of (bits_at places ps name)) ≤ how_many (is_this n) (bits_of places (driving_sources ps))
table_counted n places table ps name fits h =
    let few = named_counted n places ps name (ap (λ (t : List PinRow). drives_of (in_table t name)) fits ∙ h) in
    let same = nets_counted n (bits_at places ps name) in
    omega (arith, few, same)

kept_case : (n : ℕ) (places : List Bit) (d : Bool) (p : Pin) (ps : List Pin) (ss rest : List Source) → p.bits ≡ bits_of places ss → how_many (is_this n) (bits_of_pins ps) ≡ how_many (is_this n) (bits_of places rest)
    → how_many (is_this n) (bits_of_pins (cond d (p ∷ ps) ps)) ≡ how_many (is_this n) (bits_of places ((if d then ss else []) ++ rest))
kept_case n places true p ps ss rest e h =
    let a = many_joined (is_this n) p.bits (bits_of_pins ps) in
    let b = sources_joined n places ss rest in
    let c : how_many (is_this n) p.bits ≡ how_many (is_this n) (bits_of places ss) = ap (how_many (is_this n)) e in
    omega (arith, a, b, c, h)
kept_case n places false p ps ss rest e h = h

pub kept_counted : (n : ℕ) (places : List Bit) (ps : List RawPin) → how_many (is_this n) (bits_of_pins (filter (λ (p : Pin). p.drives) (pins_of places ps))) ≡ how_many (is_this n) (bits_of places (driving_sources ps))
kept_counted n places [] = refl
kept_counted n places (p ∷ ps) = kept_case n places p.drives (pin_of places p) (filter (λ (q : Pin). q.drives) (pins_of places ps)) p.bits (driving_sources ps) refl (kept_counted n places ps)

drives_y : (o : Operands) (q : CombRow) → drives_of (in_table (pins_by o q) (codes "\\Y")) ≡ true
drives_y One q = refl
drives_y Alike q = refl
drives_y Free q = refl
drives_y Shift q = refl
drives_y Mux q = refl
drives_y Pmux q = refl

abbrev pub comb_outs : List Comb → List ℕ
comb_outs cs = flat_map (λ (c : Comb). c.y) cs

abbrev pub reg_outs : List Reg → List ℕ
reg_outs cs = flat_map (λ (c : Reg). c.q) cs

abbrev pub carried_outs : List Carried → List Bit
carried_outs cs = flat_map driving_bits cs

module _ (n : ℕ) (places : List Bit) (roots : List ClockRoot) (starts : List Tri) where
  -- how often a cell of this shape drives the net, and the pins of gathered RAM cells
  abbrev by_shape : List ℕ → CellShape → List RawPin → RawCell → ℕ
  by_shape name s ps c =
      how_many (is_this n) (carried_outs (carried_by places name s ps)) + (how_many (nat_eq n) (comb_outs (comb_by places name s ps)) + (how_many (nat_eq n) (reg_outs (reg_by places roots starts name s ps))
      + how_many (is_this n) (bits_of places (cell_sources (ram_by s c)))))

  comb_few : (q : CombRow) (ps : List RawPin) → FitsTable (comb_pins q) ps → how_many (nat_eq n) (nets_of (bits_at places ps (codes "\\Y"))) ≤ how_many (is_this n) (bits_of places (driving_sources ps))
  unfolding comb_pins
  comb_few q ps fits = table_counted n places (pins_by (operands q.kind) q) ps (codes "\\Y") fits (drives_y (operands q.kind) q)

  reg_few : (q : RegRow) (ps : List RawPin) → FitsTable (reg_pins q) ps → how_many (nat_eq n) (nets_of (bits_at places ps (codes "\\Q"))) ≤ how_many (is_this n) (bits_of places (driving_sources ps))
  unfolding reg_pins
  reg_few q ps fits = table_counted n places (reg_pins q) ps (codes "\\Q") fits refl

  one_cell : (lib : Library) (name : List ℕ) (s : CellShape) (ps : List RawPin) (c : RawCell) → c.pins ≡ ps → FitsShape lib s ps → by_shape name s ps c ≤ how_many (is_this n) (bits_of places (driving_sources ps))
  unfolding comb_of reg_of carried_of
  one_cell lib name (shape.Comb q) ps c e fits =
      let a = comb_few q ps fits in
      let b = many_joined (nat_eq n) (nets_of (bits_at places ps (codes "\\Y"))) [] in
      omega (arith, a, b)
  one_cell lib name (shape.Reg q) ps c e fits =
      let a = reg_few q ps fits in
      let b = many_joined (nat_eq n) (nets_of (bits_at places ps (codes "\\Q"))) [] in
      omega (arith, a, b)
  one_cell lib name (shape.Carried k) ps c e fits =
      let a = kept_counted n places ps in
      let b = many_joined (is_this n) (bits_of_pins (filter (λ (p : Pin). p.drives) (pins_of places ps))) [] in
      omega (arith, a, b)
  one_cell lib name (shape.Memory k q) ps c e fits = omega arith
  one_cell lib name (shape.Ram u) ps c e fits =
      let a = sources_joined n places (driving_sources c.pins) [] in
      let b : how_many (is_this n) (bits_of places (driving_sources c.pins)) ≡ how_many (is_this n) (bits_of places (driving_sources ps)) = ap (λ (qs : List RawPin). how_many (is_this n) (bits_of places (driving_sources qs))) e in
      omega (arith, a, b)

  flat_counted : {X Y : Type 0} (p : Y → Bool) (f : X → List Y) (xs ys : List X) → how_many p (flat_map f (xs ++ ys)) ≡ how_many p (flat_map f xs) + how_many p (flat_map f ys)
  flat_counted p f [] ys = omega arith
  flat_counted p f (x ∷ xs) ys =
      let rest = flat_counted p f xs ys in
      let a = many_joined p (f x) (flat_map f (xs ++ ys)) in
      let b = many_joined p (f x) (flat_map f xs) in
      omega (arith, rest, a, b)

  raw_joined : (xs ys : List RawCell) → how_many (is_this n) (bits_of places (cell_sources (xs ++ ys))) ≡ how_many (is_this n) (bits_of places (cell_sources xs)) + how_many (is_this n) (bits_of places (cell_sources ys))
  raw_joined [] ys = omega arith
  raw_joined (x ∷ xs) ys =
      let rest = raw_joined xs ys in
      let a = sources_joined n places (driving_sources x.pins) (cell_sources (xs ++ ys)) in
      let b = sources_joined n places (driving_sources x.pins) (cell_sources xs) in
      omega (arith, rest, a, b)

  pub cells_counted : (lib : Library) (cs : List RawCell) → CellsFit lib cs
      → how_many (is_this n) (carried_outs (carried_cells places cs)) + (how_many (nat_eq n) (comb_outs (combs_of places cs)) + (how_many (nat_eq n) (reg_outs (regs_of places roots starts cs))
      + how_many (is_this n) (bits_of places (cell_sources (ram_cells cs))))) ≤ how_many (is_this n) (bits_of places (cell_sources cs))
  cells_counted lib [] fits = omega arith
  cells_counted lib (c ∷ cs) fits =
      let one : by_shape c.name c.shape c.pins c ≤ how_many (is_this n) (bits_of places (driving_sources c.pins)) = one_cell lib c.name c.shape c.pins c refl fits.0 in
      let rest = cells_counted lib cs fits.1 in
      let whole = sources_joined n places (driving_sources c.pins) (cell_sources cs) in
      let a = flat_counted (is_this n) driving_bits (carried_by places c.name c.shape c.pins) (carried_cells places cs) in
      let b = flat_counted (nat_eq n) (λ (d : Comb). d.y) (comb_by places c.name c.shape c.pins) (combs_of places cs) in
      let d = flat_counted (nat_eq n) (λ (d : Reg). d.q) (reg_by places roots starts c.name c.shape c.pins) (regs_of places roots starts cs) in
      let e = raw_joined (ram_by c.shape c) (ram_cells cs) in
      omega (arith, one, rest, whole, a, b, d, e)

  pub rams_counted : (count : ℕ) (cs : List RawCell) (rams : List RamCell) → EachRamOf places count cs rams → how_many (nat_eq n) (flat_map outs_of rams) ≤ how_many (is_this n) (bits_of places (cell_sources cs))
  rams_counted count [] [] e = omega arith
  rams_counted count [] (r ∷ rs) e = absurd e
  rams_counted count (c ∷ cs) [] e = absurd e
  rams_counted count (c ∷ cs) (r ∷ rs) e =
      let one : count_by (nat_eq n) (outs_of r) ≤ count_by (is_this n) (bits_of places (driving_sources c.pins)) = e.0.shows n in
      let left = counts_are (nat_eq n) (outs_of r) in
      let right = counts_are (is_this n) (bits_of places (driving_sources c.pins)) in
      let rest = rams_counted count cs rs e.1 in
      let a = many_joined (nat_eq n) (outs_of r) (flat_map outs_of rs) in
      let b = sources_joined n places (driving_sources c.pins) (cell_sources cs) in
      omega (arith, one, left, right, rest, a, b)
