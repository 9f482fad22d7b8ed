-- Cells that are kept as they are, and cells that make up memories, fit.
use Rattle.std.proofs.Common.{◌≡◌, ℕ, suc, ◌+◌, ◌-◌, ◌≤◌, ◌<◌, ◌^◌, Bool, true, false, min, List, [], ◌∷◌, ◌++◌, map, take, replicate, length, codes, nat_eq, refl, sym, ap, ◌∙◌, subst, arith}
use Rattle.std.specs.Prelude.{if◌then◌else◌}
use Rattle.std.specs.Str.{bytes_eq}
use Rattle.std.proofs.lemmas.List.{length-append, length-replicate, length-take}
use Rattle.std.proofs.lemmas.Slice.Eq.{bytes_eq-Decides}
use Rattle.lib_core.specs.declared.library.Library.{Library}
use Rattle.lib_core.specs.declared.library.Tri.{Tri}
use Rattle.rtlil_text.specs.declared.doc.DocModule.{DocModule}
use Rattle.rtlil_text.specs.Grammar.{All, AreDistinct, has}
use Rattle.net_core.specs.declared.bits.Bit.{Bit}
use Rattle.net_core.specs.declared.cells.Carried.{Carried}
use Rattle.net_core.specs.declared.cells.Pin.{Pin}
use Rattle.net_core.specs.declared.mems.Attr.{Attr}
use Rattle.net_core.specs.Values.{tri_of}
use Rattle.net_core.specs.Ports.{Interface}
use Rattle.net_core.specs.Valid.{AreApart, AttrFits, CarriedFits, drives_by_kind, Each, instance_of, is_one_digit, IsName, IsCounted, kind_of, ParamsFit, PartFits, PinFits}
use Rattle.cell_consts.specs.Consts.{attr_bits, bits_attr, flags}
use Rattle.cell_rows.specs.declared.pin.PinRow.{PinRow}
use Rattle.mem_rows.specs.declared.row.MemRow.{MemRow}
use Rattle.mem_rows.specs.declared.row.MemRow.TheVariants as memory
use Rattle.mem_rows.specs.declared.whole.WholeRow.{WholeRow}
use Rattle.mem_rows.specs.Pins.{init_pins, mem_pins, old_read_pins, ports_that_read, ports_that_write, read_clocks, read_pins, read_resets, read_words, write_pins}
use Rattle.net_wires.specs.declared.clock.ClockRoot.{ClockRoot}
use Rattle.net_wires.specs.declared.source.Source.{Source}
use Rattle.net_wires.specs.Nets.{bit_of}
use Rattle.raw_cells.specs.declared.raw.CellShape.{CellShape}
use Rattle.raw_cells.specs.declared.raw.CellShape.TheVariants as shape
use Rattle.raw_cells.specs.declared.raw.Kept.{Kept}
use Rattle.raw_cells.specs.declared.raw.RawCell.{RawCell}
use Rattle.raw_cells.specs.declared.raw.RawPin.{RawPin}
use Rattle.net_gather.specs.Cells.{Context}
use Rattle.net_gather.specs.Gather.{gathered}
use Rattle.net_gather.specs.Laws.{FitsShape, FitsTable, PinsShort, row_of_pin, TablesFit}
use Rattle.raw_cells.specs.Bits.{bits_of}
use Rattle.net_cells.specs.Cells.{carried_of, pin_of, pins_of}
use Rattle.net_cells.specs.Clocks.{clock_bit}
use Rattle.net_cells.specs.Parts.{clock_bits, edge_attr, edge_params, flips_at, part_bits, part_of, part_params, part_pin, part_pins, turned, turned_attr, turned_params, whole_params}
use Rattle.net_module.specs.Assembly.{carried_by, carried_cells, part_by, parts_of}
use Rattle.net_fits.specs.Cells.{CellsDriveNets, DrivesNets, IsSound}
use Rattle.net_fits.proofs.Attrs.{distinct_apart}
use Rattle.net_fits.proofs.Lists.{all_back, all_flat, all_of, all_then, each_of, length_map}
use Rattle.net_fits.proofs.Rows.{PortsFew}
use Rattle.net_fits.proofs.Shapes.{CarriedKnown, KeptKnown, ShapeKnown}
use Rattle.net_fits.proofs.Sound.{raw_sound, RawSound}

abbrev Short : List RawPin → Type 0
Short ps = All (λ (p : RawPin). length p.bits ≤ 16777216) ps

-- ---- kept cells

pins_fit : (modules : List Interface) (places : List Bit) (c : Carried) (ps : List RawPin) → All (λ (p : RawPin). IsName p.name) ps → Short ps → DrivesNets places ps
    → All (λ (p : RawPin). p.drives ≡ drives_by_kind (kind_of c.kind) (instance_of modules c.kind) p.name) ps → All (PinFits modules c) (pins_of places ps)
pins_fit modules places c [] n s d k = tt
pins_fit modules places c (p ∷ ps) n s d k =
    let same : length (bits_of places p.bits) ≡ length p.bits = length_map (bit_of places) p.bits in
    let few : length p.bits ≤ 16777216 = s.0 in
    (record { name = n.0; count = omega (arith, same, few); drives = k.0; nets = d.0 }, pins_fit modules places c ps n.1 s.1 d.1 k.1)

pin_names : (places : List Bit) (ps : List RawPin) → map (λ (p : Pin). p.name) (pins_of places ps) ≡ map (λ (p : RawPin). p.name) ps
pin_names places [] = refl
pin_names places (p ∷ ps) = ap (λ ns. p.name ∷ ns) (pin_names places ps)

carried_fits : (modules : List Interface) (places : List Bit) (name : List ℕ) (k : Kept) (ps : List RawPin) → IsName name → Short ps → DrivesNets places ps → CarriedKnown modules k ps → CarriedFits modules (carried_of places name k ps)
unfolding carried_of
carried_fits modules places name k ps n s d known =
    let long : length (pins_of places ps) ≡ length ps = length_map (pin_of places) ps in
    let few : length ps < 2 ^ 32 = known.count in
    record {
      name = n;
      kind = known.kept.kind;
      known = known.known;
      attrs = known.kept.attrs;
      params = known.kept.params;
      pins = each_of (PinFits modules (carried_of places name k ps)) (pins_of places ps) (pins_fit modules places (carried_of places name k ps) ps known.names s d known.drives);
      apart = subst AreApart (sym (pin_names places ps)) known.apart;
      count = omega (arith, long, few);
    }

carried_shape : (lib : Library) (modules : List Interface) (places : List Bit) (name : List ℕ) (s : CellShape) (ps : List RawPin) → IsName name → Short ps → DrivesNets places ps → ShapeKnown modules s ps → All (CarriedFits modules) (carried_by places name s ps)
carried_shape lib modules places name (shape.Comb q) ps n short nets k = tt
carried_shape lib modules places name (shape.Reg q) ps n short nets k = tt
carried_shape lib modules places name (shape.Carried q) ps n short nets k = (carried_fits modules places name q ps n short nets k, tt)
carried_shape lib modules places name (shape.Memory q r) ps n short nets k = tt
carried_shape lib modules places name (shape.Ram u) ps n short nets k = tt

pub carried_fit : TablesFit → PinsShort → (modules : List Interface) (x : Context) (m : DocModule) (places : List Bit) → IsSound modules x m → CellsDriveNets places (gathered x m.items).cells
    → Each (carried_cells places (gathered x m.items).cells) (CarriedFits modules)
carried_fit tables short modules x m places s nets =
    each_of (CarriedFits modules) (carried_cells places (gathered x m.items).cells) (all_flat (CarriedFits modules) (λ (c : RawCell). carried_by places c.name c.shape c.pins) (gathered x m.items).cells
    (all_then (RawSound x.library modules places) (λ (c : RawCell). All (CarriedFits modules) (carried_by places c.name c.shape c.pins)) (gathered x m.items).cells
    (λ c r. carried_shape x.library modules places c.name c.shape c.pins r.known.name r.short r.nets r.known.shape) (raw_sound tables short modules x m places s nets)))

-- ---- parameters of memories

fit_case : (t : Bool) (name : List ℕ) (bits : List Tri) (a : Attr) → (t ≡ true → a.name ≡ name) → length bits < 2 ^ 32 → AttrFits a → AttrFits (if t then bits_attr name bits else a)
fit_case true name bits a same few fits = record { name = subst IsName (same refl) fits.name; bits = λ e. absurd (let f : false ≡ true = e in cc); value = λ e. refl; count = few }
fit_case false name bits a same few fits = fits

name_case : (t : Bool) (name : List ℕ) (bits : List Tri) (a : Attr) → (t ≡ true → a.name ≡ name) → (if t then bits_attr name bits else a).name ≡ a.name
name_case true name bits a same = sym (same refl)
name_case false name bits a same = refl

all_mapped : (f : Attr → Attr) (as_ : List Attr) → ((a : Attr) → AttrFits a → AttrFits (f a)) → All AttrFits as_ → All AttrFits (map f as_)
all_mapped f [] fits all = tt
all_mapped f (a ∷ as_) fits all = (fits a all.0, all_mapped f as_ fits all.1)

names_mapped : (f : Attr → Attr) (as_ : List Attr) → ((a : Attr) → (f a).name ≡ a.name) → map (λ (p : Attr). p.name) (map f as_) ≡ map (λ (p : Attr). p.name) as_
names_mapped f [] same = refl
names_mapped f (a ∷ as_) same = ap (λ n. n ∷ map (λ (p : Attr). p.name) (map f as_)) (same a) ∙ ap (λ ns. a.name ∷ ns) (names_mapped f as_ same)

params_mapped : (f : Attr → Attr) (as_ : List Attr) → ((a : Attr) → (f a).name ≡ a.name) → ((a : Attr) → AttrFits a → AttrFits (f a)) → ParamsFit as_ → ParamsFit (map f as_)
params_mapped f as_ same fits p =
    let long : length (map f as_) ≡ length as_ = length_map f as_ in
    let few : length as_ < 2 ^ 32 = p.each.count in
    record {
      each = record { each = each_of AttrFits (map f as_) (all_mapped f as_ fits (all_of AttrFits as_ p.each.each)); count = omega (arith, long, few) };
      apart = subst AreApart (sym (names_mapped f as_ same)) p.apart;
    }

named_is : (name : List ℕ) (a : Attr) → bytes_eq a.name name ≡ true → a.name ≡ name
named_is name a e = (bytes_eq-Decides a.name name).0 e

length_turned : (bs fs : List Bool) → length (turned bs fs) ≡ length bs
unfolding turned
length_turned [] fs = refl
length_turned (b ∷ bs) [] = ap (λ k. suc k) (length_turned bs [])
length_turned (b ∷ bs) (f ∷ fs) = ap (λ k. suc k) (length_turned bs fs)

length_flags : (count : ℕ) (bits : List Tri) → length (flags count bits) ≡ count
unfolding flags
length_flags count bits =
    let ones = map is_one_digit bits in
    let sum : length (take count ones ++ replicate (count - length bits) false) ≡ length (take count ones) + length (replicate (count - length bits) false) = length-append (take count ones) _ in
    let front : length (take count ones) ≡ min count (length ones) = length-take count ones in
    let same : length ones ≡ length bits = length_map is_one_digit bits in
    let behind : length (replicate (count - length bits) false) ≡ count - length bits = length-replicate (count - length bits) false in
    omega (arith, sum, front, same, behind)

turned_fit : (name : List ℕ) (count : ℕ) (fs : List Bool) (as_ : List Attr) → count < 2 ^ 32 → ParamsFit as_ → ParamsFit (turned_params name count fs as_)
turned_fit name count fs as_ few p =
    let short : (a : Attr) → length (turned (flags count (attr_bits a)) fs) < 2 ^ 32 = λ a. omega (arith, length_turned (flags count (attr_bits a)) fs, length_flags count (attr_bits a), few) in
    params_mapped (λ a. turned_attr name count fs a) as_
    (λ a. name_case (bytes_eq a.name name) name (turned (flags count (attr_bits a)) fs) a (named_is name a))
    (λ a fits. fit_case (bytes_eq a.name name) name (turned (flags count (attr_bits a)) fs) a (named_is name a) (short a) fits) p

edge_fit : (name : List ℕ) (rising : Bool) (as_ : List Attr) → ParamsFit as_ → ParamsFit (edge_params name rising as_)
edge_fit name rising as_ p =
    params_mapped (λ a. edge_attr name rising a) as_
    (λ a. name_case (bytes_eq a.name name) name (tri_of rising ∷ []) a (named_is name a))
    (λ a fits. fit_case (bytes_eq a.name name) name (tri_of rising ∷ []) a (named_is name a) (omega arith) fits) p

part_params_fit : (roots : List ClockRoot) (ps : List RawPin) (q : MemRow) (as_ : List Attr) → PortsFew q → ParamsFit as_ → ParamsFit (part_params roots ps q as_)
unfolding whole_params
part_params_fit roots ps (memory.Whole q) as_ few p =
    turned_fit (codes "\\WR_CLK_POLARITY") q.writes (flips_at roots ps (codes "\\WR_CLK")) _ few.1 (turned_fit (codes "\\RD_CLK_POLARITY") q.reads (flips_at roots ps (codes "\\RD_CLK")) as_ few.0 p)
part_params_fit roots ps (memory.Read q) as_ few p = edge_fit (codes "\\CLK_POLARITY") _ as_ p
part_params_fit roots ps (memory.OldRead q) as_ few p = p
part_params_fit roots ps (memory.Write q) as_ few p = edge_fit (codes "\\CLK_POLARITY") _ as_ p
part_params_fit roots ps (memory.Init q) as_ few p = p

-- ---- pins of memories

abbrev row_names : List PinRow → List (List ℕ)
row_names table = map (λ (r : PinRow). r.name) table

record TableNamed (table : List PinRow) : Type 0 where
  named : All IsName (row_names table)
  distinct : AreDistinct (row_names table)
  few : length table < 2 ^ 32

abbrev whole_table : WholeRow → Bool → Bool → List PinRow
whole_table q a b = (if a then [] else ports_that_read q) ++ (if b then [] else ports_that_write q)

whole_named : (q : WholeRow) (a b : Bool) → TableNamed (whole_table q a b)
unfolding read_clocks read_resets read_words ports_that_write has
whole_named q true true = record { named = tt; distinct = tt; few = omega arith }
whole_named q true false = record { named = (refl, (refl, (refl, (refl, tt)))); distinct = (refl, (refl, (refl, (refl, tt)))); few = omega arith }
whole_named q false true = record { named = (refl, (refl, (refl, (refl, (refl, (refl, tt)))))); distinct = (refl, (refl, (refl, (refl, (refl, (refl, tt)))))); few = omega arith }
whole_named q false false = record {
  named = (refl, (refl, (refl, (refl, (refl, (refl, (refl, (refl, (refl, (refl, tt))))))))));
  distinct = (refl, (refl, (refl, (refl, (refl, (refl, (refl, (refl, (refl, (refl, tt))))))))));
  few = omega arith;
}

table_named : (q : MemRow) → TableNamed (mem_pins q)
unfolding old_read_pins read_pins write_pins init_pins has
table_named (memory.Whole q) = whole_named q (nat_eq q.reads 0) (nat_eq q.writes 0)
table_named (memory.Read q) = record { named = (refl, (refl, (refl, (refl, (refl, (refl, tt)))))); distinct = (refl, (refl, (refl, (refl, (refl, (refl, tt)))))); few = omega arith }
table_named (memory.OldRead q) = record { named = (refl, (refl, (refl, (refl, tt)))); distinct = (refl, (refl, (refl, (refl, tt)))); few = omega arith }
table_named (memory.Write q) = record { named = (refl, (refl, (refl, (refl, tt)))); distinct = (refl, (refl, (refl, (refl, tt)))); few = omega arith }
table_named (memory.Init q) = record { named = (refl, (refl, (refl, tt))); distinct = (refl, (refl, (refl, tt))); few = omega arith }

raw_names : (ps : List RawPin) → map (λ (p : RawPin). p.name) ps ≡ row_names (map row_of_pin ps)
raw_names [] = refl
raw_names (p ∷ ps) = ap (λ ns. p.name ∷ ns) (raw_names ps)

part_names : (places : List Bit) (roots : List ClockRoot) (ps : List RawPin) → map (λ (p : Pin). p.name) (part_pins places roots ps) ≡ map (λ (p : RawPin). p.name) ps
part_names places roots [] = refl
part_names places roots (p ∷ ps) = ap (λ ns. p.name ∷ ns) (part_names places roots ps)

bits_case : (places : List Bit) (roots : List ClockRoot) (t : Bool) (ss : List Source) → length (if t then clock_bits places roots ss else bits_of places ss) ≡ length ss
bits_case places roots true ss = length_map (λ s. clock_bit places roots s) ss
bits_case places roots false ss = length_map (bit_of places) ss

part_pins_fit : (places : List Bit) (roots : List ClockRoot) (ps : List RawPin) → All (λ (p : RawPin). IsName p.name) ps → Short ps → All (λ (q : Pin). IsName q.name × IsCounted q.bits) (part_pins places roots ps)
part_pins_fit places roots [] n s = tt
part_pins_fit places roots (p ∷ ps) n s =
    let same : length (part_bits places roots p) ≡ length p.bits = bits_case places roots p.clock p.bits in
    let few : length p.bits ≤ 16777216 = s.0 in
    ((n.0, omega (arith, same, few)), part_pins_fit places roots ps n.1 s.1)

part_fits : (places : List Bit) (roots : List ClockRoot) (name : List ℕ) (k : Kept) (q : MemRow) (ps : List RawPin) → IsName name → FitsTable (mem_pins q) ps → Short ps → KeptKnown k → PortsFew q → PartFits (part_of places roots name k q ps)
unfolding part_of
part_fits places roots name k q ps n fits s known few =
    let named = table_named q in
    let same : map (λ (p : RawPin). p.name) ps ≡ row_names (mem_pins q) = raw_names ps ∙ ap row_names fits in
    let names : map (λ (p : Pin). p.name) (part_pins places roots ps) ≡ row_names (mem_pins q) = part_names places roots ps ∙ same in
    let long : length (part_pins places roots ps) ≡ length ps = length_map (part_pin places roots) ps in
    let rows : length (map row_of_pin ps) ≡ length ps = length_map row_of_pin ps in
    let table : length (map row_of_pin ps) ≡ length (mem_pins q) = ap length fits in
    let short : length (mem_pins q) < 2 ^ 32 = named.few in
    record {
      name = n;
      kind = known.kind;
      attrs = known.attrs;
      params = part_params_fit roots ps q k.params few known.params;
      pins = each_of (λ (p : Pin). IsName p.name × IsCounted p.bits) (part_pins places roots ps) (part_pins_fit places roots ps (all_back IsName (λ (p : RawPin). p.name) ps (subst (All IsName) (sym same) named.named)) s);
      apart = subst AreApart (sym names) (distinct_apart (row_names (mem_pins q)) named.distinct);
      count = omega (arith, long, rows, table, short);
    }

part_shape : (lib : Library) (modules : List Interface) (places : List Bit) (roots : List ClockRoot) (name : List ℕ) (s : CellShape) (ps : List RawPin) → IsName name → FitsShape lib s ps → Short ps → ShapeKnown modules s ps → All PartFits (part_by places roots name s ps)
part_shape lib modules places roots name (shape.Comb q) ps n fits short k = tt
part_shape lib modules places roots name (shape.Reg q) ps n fits short k = tt
part_shape lib modules places roots name (shape.Carried q) ps n fits short k = tt
part_shape lib modules places roots name (shape.Memory q r) ps n fits short k = (part_fits places roots name q r ps n fits short k.0 k.1, tt)
part_shape lib modules places roots name (shape.Ram u) ps n fits short k = tt

pub parts_fit : TablesFit → PinsShort → (modules : List Interface) (x : Context) (m : DocModule) (places : List Bit) (roots : List ClockRoot) → IsSound modules x m → CellsDriveNets places (gathered x m.items).cells
    → Each (parts_of places roots (gathered x m.items).cells) PartFits
parts_fit tables short modules x m places roots s nets =
    each_of PartFits (parts_of places roots (gathered x m.items).cells) (all_flat PartFits (λ (c : RawCell). part_by places roots c.name c.shape c.pins) (gathered x m.items).cells
    (all_then (RawSound x.library modules places) (λ (c : RawCell). All PartFits (part_by places roots c.name c.shape c.pins)) (gathered x m.items).cells
    (λ c r. part_shape x.library modules places roots c.name c.shape c.pins r.known.name r.fits r.short r.known.shape) (raw_sound tables short modules x m places s nets)))
