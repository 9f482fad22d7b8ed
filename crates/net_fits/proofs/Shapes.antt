-- What is known of each gathered cell where nothing is wrong.
use Rattle.std.proofs.Common.{◌≡◌, ℕ, ◌+◌, ◌≤◌, ◌<◌, ◌^◌, Bool, true, false, cond, ◌||◌, List, [], ◌∷◌, ◌++◌, map, length, Option, Some, None, slice_get, refl, sym, ap, ◌∙◌, subst, arith}
use Rattle.std.specs.Prelude.{if◌then◌else◌}
use Rattle.std.specs.List.{find, flat_map, list_any}
use Rattle.std.specs.Str.{bytes_eq}
use Rattle.std.proofs.lemmas.Option.{same_Some}
use Rattle.std.proofs.lemmas.Slice.Eq.{bytes_eq-Decides}
use Rattle.lib_core.specs.declared.library.RamKind.{RamKind}
use Rattle.lib_core.specs.declared.library.Variant.{Variant}
use Rattle.rtlil_text.specs.declared.doc.CellLine.{CellLine}
use Rattle.rtlil_text.specs.declared.doc.CellLine.TheVariants as line
use Rattle.rtlil_text.specs.declared.doc.DocCell.{DocCell}
use Rattle.rtlil_text.specs.declared.doc.Item.{Item}
use Rattle.rtlil_text.specs.declared.doc.Item.TheVariants as item
use Rattle.rtlil_text.specs.Grammar.{All, pin_name}
use Rattle.net_core.specs.declared.cells.CombKind.{CombKind}
use Rattle.net_core.specs.declared.cells.FfKind.{FfKind}
use Rattle.net_core.specs.declared.mems.Attr.{Attr}
use Rattle.net_core.specs.Ports.{Interface}
use Rattle.net_core.specs.Valid.{AreApart, AttrsFit, carried_kinds, CarriedKind, drives_by_kind, instance_of, is_carried_for_signs, is_there, IsName, kind_of, ParamsFit}
use Rattle.cell_table.specs.Names.{comb_type}
use Rattle.cell_rows.specs.declared.comb.CombRow.{CombRow}
use Rattle.cell_rows.specs.declared.kinds.MemKind.{MemKind}
use Rattle.cell_rows.specs.declared.kinds.MemKind.TheVariants as mem
use Rattle.cell_rows.specs.declared.reg.RegRow.{RegRow}
use Rattle.cell_rows.specs.Kinds.{carried_kind, comb_kinds, comb_named, ff_named, is_carried, logic_kind, mem_named, memory_kind, module_kind, ram_kind, reg_kind}
use Rattle.cell_rows.specs.Operands.{operands}
use Rattle.cell_rows.specs.Rows.{comb_row, is_carried_row, reg_row}
use Rattle.cell_rows.proofs.Signs.{kept_for_signs}
use Rattle.doc_params.specs.Docs.{params_of}
use Rattle.mem_rows.specs.declared.row.MemRow.{MemRow}
use Rattle.mem_rows.specs.declared.row.MemRow.TheVariants as memory
use Rattle.mem_rows.specs.ByType.{is_known, map_row, mem_row}
use Rattle.mem_rows.specs.Rows.{init_row, old_read_row, read_row, whole_row, write_row}
use Rattle.ram_rows.specs.declared.options.Chosen.{Chosen}
use Rattle.ram_rows.specs.declared.options.Chosen.TheVariants as chosen
use Rattle.ram_rows.specs.declared.row.RamRow.{RamRow}
use Rattle.ram_rows.specs.Options.{chosen_by}
use Rattle.ram_rows.specs.RamRows.{has_strange_level, row_at}
use Rattle.net_wires.specs.declared.breach.Breach.{Breach}
use Rattle.net_wires.specs.Spans.{Entry}
use Rattle.net_gather.specs.declared.counts.Counts.{Counts}
use Rattle.net_gather.specs.declared.file_pin.FilePin.{FilePin}
use Rattle.net_gather.specs.declared.open_pin.PinBits.TheVariants.{Given}
use Rattle.raw_cells.specs.declared.raw.CellShape.{CellShape}
use Rattle.raw_cells.specs.declared.raw.CellShape.TheVariants as shape
use Rattle.raw_cells.specs.declared.raw.Kept.{Kept}
use Rattle.raw_cells.specs.declared.raw.RamUse.{RamUse}
use Rattle.raw_cells.specs.declared.raw.RawCell.{RawCell}
use Rattle.raw_cells.specs.declared.raw.RawPin.{RawPin}
use Rattle.raw_cells.specs.declared.row.CellRow.TheVariants as row
use Rattle.raw_cells.specs.declared.row.Found.{Found}
use Rattle.raw_cells.specs.declared.row.Found.TheVariants as found
use Rattle.net_gather.specs.Cells.{Context, found_faults, found_gain, kept_of, kind_in, pin_faults, row_faults, row_gain, row_pins}
use Rattle.net_gather.specs.Faults.{at}
use Rattle.net_gather.specs.FilePins.{file_breaches, file_pins}
use Rattle.net_gather.specs.Gather.{cell_faults, counted, gained, item_breaches, item_gain, raw_cells}
use Rattle.net_gather.specs.OpenPins.{bits_open, kept_pins, raw_pins, table_pins}
use Rattle.raw_cells.specs.Rows.{found_chosen, found_comb, found_mem, found_ram, found_reg, found_row, found_slots, found_variant, ram_breaches, strange_or, table_of}
use Rattle.net_gather.specs.PortClocks.{clock_breaches}
use Rattle.net_fits.specs.Cells.{Knows}
use Rattle.net_fits.proofs.Attrs.{distinct_apart}
use Rattle.net_fits.proofs.Items.{CellKnown, ItemKnown}
use Rattle.net_fits.proofs.Lists.{all_join, length_map}
use Rattle.net_fits.proofs.Rows.{comb_known, PortsFew, reg_known, RegKnown, Unsigned, whole_few}

-- ---- what is known

pub record KeptKnown (k : Kept) : Type 0 where
  pub kind : IsName k.kind
  pub attrs : AttrsFit k.attrs
  pub params : ParamsFit k.params

pub record CombKnown (q : CombRow) : Type 0 where
  pub plain : is_carried_row q ≡ false
  pub unsigned : Unsigned (operands q.kind) q.a_signed

pub record CarriedKnown (modules : List Interface) (k : Kept) (ps : List RawPin) : Type 0 where
  pub kept : KeptKnown k
  pub known : (is_there (kind_of k.kind) || (is_there (instance_of modules k.kind) || is_carried_for_signs k.kind k.params)) ≡ true
  pub names : All (λ (p : RawPin). IsName p.name) ps
  pub apart : AreApart (map (λ (p : RawPin). p.name) ps)
  pub drives : All (λ (p : RawPin). p.drives ≡ drives_by_kind (kind_of k.kind) (instance_of modules k.kind) p.name) ps
  pub count : length ps < 2 ^ 32

abbrev pub ShapeKnown : List Interface → CellShape → List RawPin → Type 0
ShapeKnown modules (shape.Comb q) ps = CombKnown q
ShapeKnown modules (shape.Reg q) ps = RegKnown q
ShapeKnown modules (shape.Carried k) ps = CarriedKnown modules k ps
ShapeKnown modules (shape.Memory k q) ps = KeptKnown k × PortsFew q
ShapeKnown modules (shape.Ram u) ps = Unit {0}

pub record RawKnown (modules : List Interface) (c : RawCell) : Type 0 where
  pub name : IsName c.name
  pub shape : ShapeKnown modules c.shape c.pins

-- ---- nothing in front, nothing behind

pub front_none : {X : Type 0} (xs ys : List X) → xs ++ ys ≡ [] → xs ≡ []
front_none [] ys e = refl
front_none (x ∷ xs) ys e = absurd cc

pub rest_none : {X : Type 0} (xs ys : List X) → xs ++ ys ≡ [] → ys ≡ []
rest_none [] ys e = e
rest_none (x ∷ xs) ys e = absurd cc

pub at_none : (i : ℕ) (bs : List Breach) → at i bs ≡ [] → bs ≡ []
at_none i [] e = refl
at_none i (b ∷ bs) e = absurd cc

-- ---- pins of kept cells

file_names : (names : List Entry) (ls : List CellLine) → map (λ (p : FilePin). p.name) (file_pins names ls) ≡ flat_map pin_name ls
file_names names [] = refl
file_names names (line.Param p ∷ ls) = file_names names ls
file_names names (line.Pin n v ∷ ls) = ap (λ ns. n ∷ ns) (file_names names ls)

kept_names : (n : ℕ) (drives : List ℕ → Bool) (ps : List FilePin) → map (λ (p : RawPin). p.name) (raw_pins n (kept_pins drives ps)) ≡ map (λ (p : FilePin). p.name) ps
kept_names n drives [] = refl
kept_names n drives (p ∷ ps) = ap (λ ns. p.name ∷ ns) (kept_names (n + bits_open (Given p.bits)) drives ps)

named_all : (ps : List RawPin) → All IsName (map (λ (p : RawPin). p.name) ps) → All (λ (p : RawPin). IsName p.name) ps
named_all [] a = tt
named_all (p ∷ ps) a = (a.0, named_all ps a.1)

kept_drives : (n : ℕ) (drives other : List ℕ → Bool) (ps : List FilePin) → ((name : List ℕ) → drives name ≡ other name) → All (λ (p : RawPin). p.drives ≡ other p.name) (raw_pins n (kept_pins drives ps))
kept_drives n drives other [] same = tt
kept_drives n drives other (p ∷ ps) same = (same p.name, kept_drives (n + bits_open (Given p.bits)) drives other ps same)

pins_few : (ls : List CellLine) → length (flat_map pin_name ls) ≤ length ls
pins_few [] = omega arith
pins_few (line.Param p ∷ ls) = let rest : length (flat_map pin_name ls) ≤ length ls = pins_few ls in omega (arith, rest)
pins_few (line.Pin n v ∷ ls) = let rest : length (flat_map pin_name ls) ≤ length ls = pins_few ls in omega (arith, rest)

kept_is : (c : DocCell) → CellKnown c → KeptKnown (kept_of c (params_of c.lines))
kept_is c k = record { kind = k.kind; attrs = k.attrs; params = k.params }

carried_known : (modules : List Interface) (x : Context) (c : DocCell) (n : ℕ) → Knows modules x → CellKnown c
    → (is_there (kind_of c.kind) || (is_there (instance_of modules c.kind) || is_carried_for_signs c.kind (params_of c.lines))) ≡ true
    → CarriedKnown modules (kept_of c (params_of c.lines)) (raw_pins n (kept_pins (x.drives c.kind) (file_pins x.names c.lines)))
carried_known modules x c n ks k h =
    let ps = raw_pins n (kept_pins (x.drives c.kind) (file_pins x.names c.lines)) in
    let same : map (λ (p : RawPin). p.name) ps ≡ flat_map pin_name c.lines = kept_names n (x.drives c.kind) (file_pins x.names c.lines) ∙ file_names x.names c.lines in
    let long : length (map (λ (p : RawPin). p.name) ps) ≡ length ps = length_map (λ (p : RawPin). p.name) ps in
    let as_many : length (map (λ (p : RawPin). p.name) ps) ≡ length (flat_map pin_name c.lines) = ap length same in
    let few : length (flat_map pin_name c.lines) ≤ length c.lines = pins_few c.lines in
    let short : length c.lines < 2 ^ 32 = k.count in
    record {
      kept = kept_is c k;
      known = h;
      names = named_all ps (subst (All IsName) (sym same) k.pins);
      apart = subst AreApart (sym same) (distinct_apart (flat_map pin_name c.lines) k.distinct);
      drives = kept_drives n (x.drives c.kind) (drives_by_kind (kind_of c.kind) (instance_of modules c.kind)) (file_pins x.names c.lines) (ks.drives c.kind);
      count = omega (arith, long, as_many, few, short);
    }

-- ---- types

found_case : {X : Type 0} (p : X → Bool) (t : Bool) (y : X) (ys : List X) (x : X) → p y ≡ t → cond t (Some y) (find p ys) ≡ Some x → (find p ys ≡ Some x → p x ≡ true) → p x ≡ true
found_case p true y ys x h e rec = sym (ap p (same_Some y x e)) ∙ h
found_case p false y ys x h e rec = rec e

find_passes : {X : Type 0} (p : X → Bool) (xs : List X) (x : X) → find p xs ≡ Some x → p x ≡ true
find_passes p [] x e = absurd cc
find_passes p (y ∷ ys) x e = found_case p (p y) y ys x refl e (find_passes p ys x)

comb_is : (name : List ℕ) (k : CombKind) → comb_named name ≡ Some k → comb_type k ≡ name
unfolding comb_named
comb_is name k e = (bytes_eq-Decides (comb_type k) name).0 (find_passes (λ j. bytes_eq (comb_type j) name) comb_kinds k e)

there_first : {X : Type 0} (test : Bool) (x : X) (o : Option X) (b : Bool) → is_there o ≡ b → is_there (cond test (Some x) o) ≡ (test || b)
there_first true x o b e = refl
there_first false x o b e = e

kinds_told : (name : List ℕ) (ks : List CarriedKind) → is_there (find (λ (k : CarriedKind). bytes_eq k.kind name) ks) ≡ list_any (λ t. bytes_eq t name) (map (λ (k : CarriedKind). k.kind) ks)
kinds_told name [] = refl
kinds_told name (k ∷ ks) = there_first (bytes_eq k.kind name) k _ _ (kinds_told name ks)

by_type : (name : List ℕ) → is_there (kind_of name) ≡ is_carried name
unfolding is_carried
by_type name = kinds_told name carried_kinds

or_first : (a b : Bool) → a ≡ true → (a || b) ≡ true
or_first true b e = refl
or_first false b e = absurd cc

or_second : (a b : Bool) → b ≡ true → (a || b) ≡ true
or_second true b e = refl
or_second false b e = e

-- ---- ports of memories

row_few : {A : Type 0} (f : A → MemRow) (o : Option A) (q : MemRow) → ((a : A) → o ≡ Some a → PortsFew (f a)) → map_row f o ≡ Some q → PortsFew q
row_few f None q g e = absurd cc
row_few f (Some a) q g e = subst PortsFew (same_Some (f a) q e) (g a refl)

few_ports : (j : MemKind) (params : List Attr) (q : MemRow) → mem_row j params ≡ Some q → PortsFew q
few_ports mem.Packed params q e = row_few memory.Whole (whole_row params) q (λ a h. whole_few params a h) e
few_ports mem.Read params q e = row_few memory.Read (read_row params) q (λ a h. tt) e
few_ports mem.OldRead params q e = row_few memory.OldRead (old_read_row params) q (λ a h. tt) e
few_ports mem.Write params q e = row_few memory.Write (write_row params) q (λ a h. tt) e
few_ports mem.Init params q e = row_few memory.Init (init_row params) q (λ a h. tt) e

-- ---- one cell

module _ (modules : List Interface) (x : Context) (ks : Knows modules x) (c : DocCell) (k : CellKnown c) (st : Counts) where
  abbrev params : List Attr
  params = params_of c.lines

  -- what is found is known, where nothing is wrong with it
  abbrev Known : Found → Type 0
  Known f = found_faults x st c params f ≡ [] → All (RawKnown modules) (gained (found_gain x st c params f))

  comb_shaped : (q : CombRow) (t : Bool) (n : ℕ) → is_carried_row q ≡ t → Unsigned (operands q.kind) q.a_signed → is_carried_for_signs c.kind params ≡ t
      → ShapeKnown modules (cond t (shape.Carried (kept_of c params)) (shape.Comb q)) (raw_pins n (cond t (kept_pins (x.drives c.kind) (file_pins x.names c.lines)) (table_pins (file_pins x.names c.lines) (table_of x.library (row.Comb q)))))
  comb_shaped q true n t u s = carried_known modules x c n ks k (or_second (is_there (kind_of c.kind)) _ (or_second (is_there (instance_of modules c.kind)) _ s))
  comb_shaped q false n t u s = record { plain = t; unsigned = u }

  comb_found : (j : CombKind) (o : Option CombRow) → comb_row j params ≡ o → comb_type j ≡ c.kind → Known (found_comb o)
  unfolding row_gain row_pins
  comb_found j None e type_ none = tt
  comb_found j (Some q) e type_ none =
      let signs : is_carried_for_signs c.kind params ≡ is_carried_row q = ap (λ n. is_carried_for_signs n params) (sym type_) ∙ kept_for_signs j params q e in
      (record { name = k.name; shape = comb_shaped q (is_carried_row q) st.places refl (comb_known j params q e) signs }, tt)

  reg_found : (j : FfKind) (o : Option RegRow) → reg_row j params ≡ o → Known (found_reg o)
  unfolding row_gain
  reg_found j None e none = tt
  reg_found j (Some q) e none = (record { name = k.name; shape = reg_known j params q e }, tt)

  kept_found : (is_there (kind_of c.kind) || (is_there (instance_of modules c.kind) || is_carried_for_signs c.kind params)) ≡ true → Known (found.Row row.Kept)
  unfolding row_gain row_pins
  kept_found h none = (record { name = k.name; shape = carried_known modules x c st.places ks k h }, tt)

  mem_found : (j : MemKind) (o : Option MemRow) → mem_row j params ≡ o → Known (found_mem o)
  unfolding row_gain
  mem_found j None e none = tt
  mem_found j (Some q) e none = (record { name = k.name; shape = (kept_is c k, few_ports j params q e) }, tt)

  memory_case : (j : MemKind) (t : Bool) → Known (if t then found_mem (mem_row j params) else found.Unknown)
  memory_case j true none = mem_found j (mem_row j params) refl none
  memory_case j false none = tt

  ram_found : (u : RamUse) → Known (found.Row (row.Ram u))
  unfolding row_gain
  ram_found u none = (record { name = k.name; shape = tt }, tt)

  strange_found : Known (found.Row row.StrangeRam)
  unfolding row_faults pin_faults
  strange_found none =
      let pins : pin_faults x c params row.StrangeRam ≡ [] = front_none _ _ none in
      let last : ram_breaches x.library row.StrangeRam c.lines ≡ [] = front_none _ _ (rest_none (clock_breaches row.StrangeRam params) _ (rest_none (file_breaches x.names (table_of x.library row.StrangeRam) c.lines) _ pins)) in
      absurd cc

  by_strangeness : (t : Bool) (u : RamUse) → Known (found.Row (strange_or t u))
  by_strangeness true u none = strange_found none
  by_strangeness false u none = ram_found u none

  slots_found : (ram place : ℕ) (v : Variant) (o : Option RamRow) → Known (found_slots ram place v o)
  slots_found ram place v None none = tt
  slots_found ram place v (Some r) none = by_strangeness (has_strange_level v r) (record { ram = ram; variant = place; row = r }) none

  variant_found : (ram place : ℕ) (o : Option Variant) → Known (found_variant ram place params o)
  variant_found ram place None none = strange_found none
  variant_found ram place (Some v) none = slots_found ram place v (row_at v params) none

  chosen_found : (ram : ℕ) (variants : List Variant) (o : Chosen) → Known (found_chosen ram params variants o)
  chosen_found ram variants chosen.Missing none = tt
  chosen_found ram variants chosen.Nothing none = strange_found none
  chosen_found ram variants (chosen.Variant place) none = variant_found ram place (slice_get variants place) none

  kind_found : (ram : ℕ) (o : Option RamKind) → Known (found_ram ram params o)
  kind_found ram None none = tt
  kind_found ram (Some r) none = chosen_found ram r.variants (chosen_by params r.variants) none

  row_found : (cn : Option CombKind) (fn : Option FfKind) (ic : Bool) (mn : Option MemKind) (ram inst : Option ℕ) → comb_named c.kind ≡ cn → is_carried c.kind ≡ ic → x.instance c.kind ≡ inst
      → Known (found_row x.library (logic_kind cn (reg_kind fn (carried_kind ic (memory_kind mn (ram_kind ram (module_kind inst)))))) params)
  row_found (Some j) fn ic mn ram inst e f g none = comb_found j (comb_row j params) refl (comb_is c.kind j e) none
  row_found None (Some j) ic mn ram inst e f g none = reg_found j (reg_row j params) refl none
  row_found None None true mn ram inst e f g none = kept_found (or_first (is_there (kind_of c.kind)) _ (by_type c.kind ∙ f)) none
  row_found None None false (Some j) ram inst e f g none = memory_case j (is_known j params) none
  row_found None None false None (Some r) inst e f g none = kind_found r (slice_get x.library.rams r) none
  row_found None None false None None (Some i) e f g none =
      kept_found (or_second (is_there (kind_of c.kind)) _ (or_first (is_there (instance_of modules c.kind)) _ (sym (ks.instances c.kind) ∙ ap is_there g))) none
  row_found None None false None None None e f g none = tt

  pub cell_known : Known (found_row x.library (kind_in x c.kind) params)
  cell_known none = row_found (comb_named c.kind) (ff_named c.kind) (is_carried c.kind) (mem_named c.kind) (x.ram c.kind) (x.instance c.kind) refl refl refl none

-- ---- all cells

item_cell : (modules : List Interface) (x : Context) → Knows modules x → (st : Counts) (i : Item) → ItemKnown i → item_breaches x st i ≡ [] → All (RawKnown modules) (gained (item_gain x st i))
item_cell modules x ks st (item.Wire w) k e = tt
item_cell modules x ks st (item.Param p) k e = tt
item_cell modules x ks st (item.Mem m) k e = tt
item_cell modules x ks st (item.Cell c) k e = cell_known modules x ks c k st e
item_cell modules x ks st (item.Connect l r) k e = tt

pub cells_known : (modules : List Interface) (x : Context) → Knows modules x → (n : ℕ) (st : Counts) (is : List Item) → All ItemKnown is → cell_faults x n st is ≡ [] → All (RawKnown modules) (raw_cells x st is)
cells_known modules x ks n st [] k e = tt
cells_known modules x ks n st (i ∷ is) k e =
    let next = counted st (item_gain x st i) in
    all_join (RawKnown modules) (gained (item_gain x st i)) (raw_cells x next is)
    (item_cell modules x ks st i k.0 (at_none n (item_breaches x st i) (front_none (at n (item_breaches x st i)) (cell_faults x (n + 1) next is) e)))
    (cells_known modules x ks (n + 1) next is k.1 (rest_none (at n (item_breaches x st i)) (cell_faults x (n + 1) next is) e))
