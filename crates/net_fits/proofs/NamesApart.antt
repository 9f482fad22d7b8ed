-- No two cells of a module that is made of gathered cells have one name.
use Rattle.std.proofs.Common.{◌≡◌, ℕ, ◌+◌, ◌≤◌, Bool, List, [], ◌∷◌, ◌++◌, map, refl, ap, ◌∙◌, arith}
use Rattle.std.specs.List.{flat_map}
use Rattle.std.specs.Str.{bytes_eq}
use Rattle.lib_core.specs.declared.library.Tri.{Tri}
use Rattle.rtlil_text.specs.declared.doc.DocCell.{DocCell}
use Rattle.rtlil_text.specs.declared.doc.DocModule.{DocModule}
use Rattle.rtlil_text.specs.declared.doc.Item.{Item}
use Rattle.rtlil_text.specs.declared.doc.Item.TheVariants as item
use Rattle.rtlil_text.specs.Grammar.{cell_name}
use Rattle.net_core.specs.declared.bits.Bit.{Bit}
use Rattle.net_core.specs.declared.cells.Carried.{Carried}
use Rattle.net_core.specs.declared.cells.Comb.{Comb}
use Rattle.net_core.specs.declared.cells.Reg.{Reg}
use Rattle.net_core.specs.declared.mems.Attr.{Attr}
use Rattle.net_core.specs.declared.modules.MemPart.{MemPart}
use Rattle.net_core.specs.declared.rams.RamCell.{RamCell}
use Rattle.net_core.specs.Ports.{Interface}
use Rattle.net_core.specs.Valid.{AreApart, cell_names}
use Rattle.doc_params.specs.Docs.{params_of}
use Rattle.net_wires.specs.declared.clock.ClockRoot.{ClockRoot}
use Rattle.net_gather.specs.declared.counts.Counts.{Counts}
use Rattle.raw_cells.specs.declared.raw.CellShape.{CellShape}
use Rattle.raw_cells.specs.declared.raw.CellShape.TheVariants as shape
use Rattle.raw_cells.specs.declared.raw.RawCell.{RawCell}
use Rattle.raw_cells.specs.declared.raw.RawPin.{RawPin}
use Rattle.raw_cells.specs.declared.row.Found.{Found}
use Rattle.raw_cells.specs.declared.row.Found.TheVariants as found
use Rattle.net_gather.specs.Cells.{Context, found_gain, kind_in, row_gain}
use Rattle.net_gather.specs.Gather.{counted, counts_before, gained, gathered, item_gain, raw_cells}
use Rattle.raw_cells.specs.Rows.{found_row}
use Rattle.net_cells.specs.Cells.{carried_of, comb_of, reg_of}
use Rattle.net_cells.specs.Parts.{part_of}
use Rattle.net_module.specs.Assembly.{carried_by, carried_cells, comb_by, combs_of, module_of, part_by, parts_of, reg_by, regs_of}
use Rattle.net_fits.specs.Cells.{IsSound}
use Rattle.net_fits.specs.Rams.{AreRams, EachRamOf, ram_by, ram_cells}
use Rattle.net_fits.proofs.Attrs.{distinct_once, own_bytes}
use Rattle.net_fits.proofs.Lists.{counted_apart, how_many, many_joined}

-- ---- the names of gathered cells are those of the items

abbrev raw_names : List RawCell → List (List ℕ)
raw_names cs = map (λ (c : RawCell). c.name) cs

found_few : (p : List ℕ → Bool) (x : Context) (st : Counts) (c : DocCell) (params : List Attr) (f : Found) → how_many p (raw_names (gained (found_gain x st c params f))) ≤ how_many p (c.name ∷ [])
unfolding row_gain
found_few p x st c params found.Unknown = omega arith
found_few p x st c params found.Missing = omega arith
found_few p x st c params (found.Row r) = omega arith

item_few : (p : List ℕ → Bool) (x : Context) (st : Counts) (i : Item) → how_many p (raw_names (gained (item_gain x st i))) ≤ how_many p (cell_name i)
item_few p x st (item.Wire w) = omega arith
item_few p x st (item.Param q) = omega arith
item_few p x st (item.Mem m) = omega arith
item_few p x st (item.Cell c) = found_few p x st c (params_of c.lines) (found_row x.library (kind_in x c.kind) (params_of c.lines))
item_few p x st (item.Connect l r) = omega arith

map_joined : {X Y : Type 0} (f : X → Y) (xs ys : List X) → map f (xs ++ ys) ≡ map f xs ++ map f ys
map_joined f [] ys = refl
map_joined f (x ∷ xs) ys = ap (λ zs. f x ∷ zs) (map_joined f xs ys)

names_few : (p : List ℕ → Bool) (x : Context) (st : Counts) (is : List Item) → how_many p (raw_names (raw_cells x st is)) ≤ how_many p (flat_map cell_name is)
names_few p x st [] = omega arith
names_few p x st (i ∷ is) =
    let here = gained (item_gain x st i) in
    let later = raw_cells x (counted st (item_gain x st i)) is in
    let split : how_many p (raw_names (here ++ later)) ≡ how_many p (raw_names here ++ raw_names later) = ap (how_many p) (map_joined (λ (c : RawCell). c.name) here later) in
    let sum : how_many p (raw_names here ++ raw_names later) ≡ how_many p (raw_names here) + how_many p (raw_names later) = many_joined p (raw_names here) (raw_names later) in
    let whole : how_many p (cell_name i ++ flat_map cell_name is) ≡ how_many p (cell_name i) + how_many p (flat_map cell_name is) = many_joined p (cell_name i) (flat_map cell_name is) in
    let first : how_many p (raw_names here) ≤ how_many p (cell_name i) = item_few p x st i in
    let rest : how_many p (raw_names later) ≤ how_many p (flat_map cell_name is) = names_few p x (counted st (item_gain x st i)) is in
    omega (arith, split, sum, whole, first, rest)

-- ---- the names of the parts are those of the gathered cells

abbrev comb_names : List Comb → List (List ℕ)
comb_names cs = map (λ (c : Comb). c.name) cs

abbrev reg_names : List Reg → List (List ℕ)
reg_names cs = map (λ (c : Reg). c.name) cs

abbrev carried_names : List Carried → List (List ℕ)
carried_names cs = map (λ (c : Carried). c.name) cs

abbrev part_names : List MemPart → List (List ℕ)
part_names cs = map (λ (c : MemPart). c.name) cs

abbrev ram_names : List RamCell → List (List ℕ)
ram_names cs = map (λ (c : RamCell). c.name) cs

module _ (p : List ℕ → Bool) (places : List Bit) (roots : List ClockRoot) (starts : List Tri) where
  -- how many of these names stand in the parts that a cell of this shape makes
  abbrev by_shape : List ℕ → CellShape → List RawPin → RawCell → ℕ
  by_shape name s ps c =
      how_many p (comb_names (comb_by places name s ps)) + (how_many p (reg_names (reg_by places roots starts name s ps)) + (how_many p (raw_names (ram_by s c))
      + (how_many p (carried_names (carried_by places name s ps)) + how_many p (part_names (part_by places roots name s ps)))))

  one_name : (name : List ℕ) (s : CellShape) (ps : List RawPin) (c : RawCell) → c.name ≡ name → by_shape name s ps c ≡ how_many p (name ∷ [])
  unfolding comb_of reg_of carried_of part_of
  one_name name (shape.Comb r) ps c e = omega arith
  one_name name (shape.Reg r) ps c e = omega arith
  one_name name (shape.Carried k) ps c e = omega arith
  one_name name (shape.Memory k r) ps c e = omega arith
  one_name name (shape.Ram u) ps c e = (let same : how_many p (c.name ∷ []) ≡ how_many p (name ∷ []) = ap (λ n. how_many p (n ∷ [])) e in omega (arith, same))

  many_mapped : {X : Type 0} (f : X → List ℕ) (xs ys : List X) → how_many p (map f (xs ++ ys)) ≡ how_many p (map f xs) + how_many p (map f ys)
  many_mapped f xs ys = ap (how_many p) (map_joined f xs ys) ∙ many_joined p (map f xs) (map f ys)

  all_names : (cs : List RawCell) → how_many p (comb_names (combs_of places cs)) + (how_many p (reg_names (regs_of places roots starts cs)) + (how_many p (raw_names (ram_cells cs))
      + (how_many p (carried_names (carried_cells places cs)) + how_many p (part_names (parts_of places roots cs))))) ≡ how_many p (raw_names cs)
  all_names [] = omega arith
  all_names (c ∷ cs) =
      let one : by_shape c.name c.shape c.pins c ≡ how_many p (c.name ∷ []) = one_name c.name c.shape c.pins c refl in
      let rest = all_names cs in
      let a = many_mapped (λ (d : Comb). d.name) (comb_by places c.name c.shape c.pins) (combs_of places cs) in
      let b = many_mapped (λ (d : Reg). d.name) (reg_by places roots starts c.name c.shape c.pins) (regs_of places roots starts cs) in
      let d = many_mapped (λ (d : RawCell). d.name) (ram_by c.shape c) (ram_cells cs) in
      let e = many_mapped (λ (d : Carried). d.name) (carried_by places c.name c.shape c.pins) (carried_cells places cs) in
      let f = many_mapped (λ (d : MemPart). d.name) (part_by places roots c.name c.shape c.pins) (parts_of places roots cs) in
      omega (arith, one, rest, a, b, d, e, f)

rams_named : (places : List Bit) (count : ℕ) (cs : List RawCell) (rams : List RamCell) → EachRamOf places count cs rams → ram_names rams ≡ raw_names cs
rams_named places count [] [] e = refl
rams_named places count [] (r ∷ rs) e = absurd e
rams_named places count (c ∷ cs) [] e = absurd e
rams_named places count (c ∷ cs) (r ∷ rs) e = ap (λ n. n ∷ ram_names rs) e.0.name ∙ ap (λ ns. c.name ∷ ns) (rams_named places count cs rs e.1)

parts_sum : (p : List ℕ → Bool) (a b c d e : List (List ℕ)) → how_many p (a ++ (b ++ (c ++ (d ++ e)))) ≡ how_many p a + (how_many p b + (how_many p c + (how_many p d + how_many p e)))
parts_sum p a b c d e =
    let one = many_joined p a (b ++ (c ++ (d ++ e))) in
    let two = many_joined p b (c ++ (d ++ e)) in
    let three = many_joined p c (d ++ e) in
    let four = many_joined p d e in
    omega (arith, one, two, three, four)

pub cell_names_apart : (modules : List Interface) (x : Context) (m : DocModule) (places : List Bit) (count : ℕ) (roots : List ClockRoot) (starts : List Tri) (rams : List RamCell) → IsSound modules x m → AreRams places count (gathered x m.items).cells rams
    → AreApart (cell_names (module_of m (gathered x m.items).cells places count roots starts rams))
unfolding module_of
cell_names_apart modules x m places count roots starts rams s are =
    let cs = (gathered x m.items).cells in
    let same : ram_names rams ≡ raw_names (ram_cells cs) = rams_named places count (ram_cells cs) rams are in
    let once : (n : List ℕ) → how_many (bytes_eq n) (comb_names (combs_of places cs) ++ (reg_names (regs_of places roots starts cs) ++ (ram_names rams ++ (carried_names (carried_cells places cs) ++ part_names (parts_of places roots cs))))) ≤ 1 = λ n.
    (let sum = parts_sum (bytes_eq n) (comb_names (combs_of places cs)) (reg_names (regs_of places roots starts cs)) (ram_names rams) (carried_names (carried_cells places cs)) (part_names (parts_of places roots cs)) in
    let whole = all_names (bytes_eq n) places roots starts cs in
    let ram : how_many (bytes_eq n) (ram_names rams) ≡ how_many (bytes_eq n) (raw_names (ram_cells cs)) = ap (how_many (bytes_eq n)) same in
    let few : how_many (bytes_eq n) (raw_names cs) ≤ how_many (bytes_eq n) (flat_map cell_name m.items) = names_few (bytes_eq n) x (counts_before m.items) m.items in
    let one : how_many (bytes_eq n) (flat_map cell_name m.items) ≤ 1 = distinct_once (flat_map cell_name m.items) n s.written.names.cells in
    omega (arith, sum, whole, ram, few, one)) in
    counted_apart bytes_eq _ own_bytes once
