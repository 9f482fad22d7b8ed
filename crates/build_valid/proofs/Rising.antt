-- The edges that the row of a RAM cell gives to its ports are those of their groups.
use Rattle.std.proofs.Common.{◌≡◌, ℕ, Bool, true, false, ◌||◌, List, [], ◌∷◌, ◌++◌, drop, length, Option, Some, None, codes, slice_get, refl, sym, ap, ◌∙◌, subst}
use Rattle.std.specs.Prelude.{option_and_then, if◌then◌else◌}
use Rattle.std.proofs.lemmas.Option.{same_Some}
use Rattle.lib_core.specs.declared.library.EdgeKind.{EdgeKind}
use Rattle.lib_core.specs.declared.library.EdgeKind.TheVariants as edge
use Rattle.lib_core.specs.declared.library.Group.{Group}
use Rattle.lib_core.specs.declared.library.Library.{Library}
use Rattle.lib_core.specs.declared.library.RamKind.{RamKind}
use Rattle.lib_core.specs.declared.library.Variant.{Variant}
use Rattle.lib_core.specs.Rams.{takes_value}
use Rattle.rtlil_text.specs.declared.doc.DocCell.{DocCell}
use Rattle.rtlil_text.specs.declared.doc.Item.{Item}
use Rattle.rtlil_text.specs.declared.doc.Item.TheVariants as item
use Rattle.rtlil_text.specs.Grammar.{All}
use Rattle.net_core.specs.declared.mems.Attr.{Attr}
use Rattle.cell_consts.specs.Params.{flag_at}
use Rattle.cell_rows.specs.declared.comb.CombRow.{CombRow}
use Rattle.cell_rows.specs.declared.kinds.CellKind.{CellKind}
use Rattle.cell_rows.specs.declared.kinds.CellKind.TheVariants as kind
use Rattle.cell_rows.specs.declared.reg.RegRow.{RegRow}
use Rattle.cell_rows.specs.Rows.{comb_row, is_carried_row, reg_row}
use Rattle.mem_rows.specs.declared.row.MemRow.{MemRow}
use Rattle.mem_rows.specs.ByType.{is_known, mem_row}
use Rattle.ram_rows.specs.declared.options.Chosen.{Chosen}
use Rattle.ram_rows.specs.declared.options.Chosen.TheVariants as chosen
use Rattle.ram_rows.specs.declared.row.RamRow.{RamRow}
use Rattle.ram_rows.specs.declared.slots.Level.{Level}
use Rattle.ram_rows.specs.declared.slots.SlotRow.{SlotRow}
use Rattle.ram_rows.specs.Options.{chosen_by}
use Rattle.ram_rows.specs.RamNames.{slot_name}
use Rattle.ram_rows.specs.RamRows.{any_strange, groups_at, has_strange_level, is_strange, level_at, names_at, rising_at, row_at, slot_at, slot_level, value_if, values_at}
use Rattle.raw_cells.specs.declared.raw.CellShape.{CellShape}
use Rattle.raw_cells.specs.declared.raw.CellShape.TheVariants as shape
use Rattle.raw_cells.specs.declared.raw.Kept.{Kept}
use Rattle.raw_cells.specs.declared.raw.RamUse.{RamUse}
use Rattle.raw_cells.specs.declared.raw.RawCell.{RawCell}
use Rattle.raw_cells.specs.declared.row.CellRow.{CellRow}
use Rattle.raw_cells.specs.declared.row.CellRow.TheVariants as row
use Rattle.raw_cells.specs.declared.row.Found.{Found}
use Rattle.raw_cells.specs.declared.row.Found.TheVariants as found_as
use Rattle.raw_cells.specs.Rows.{found_chosen, found_comb, found_mem, found_ram, found_reg, found_row, found_slots, found_variant, strange_or, variant_in, variant_of}
use Rattle.net_gather.specs.declared.counts.Counts.{Counts}
use Rattle.net_gather.specs.Cells.{Context, found_gain, kind_in, row_gain}
use Rattle.net_gather.specs.Gather.{counted, gained, item_gain, raw_cells}
use Rattle.doc_params.specs.Docs.{params_of}
use Rattle.build_valid.proofs.SlotKinds.{GroupsHold, NamesHold}

-- where the edges of a group are of one kind, its ports work at these
abbrev pub RisesAs : Option EdgeKind → Bool → Type 0
RisesAs None b = Unit {0}
RisesAs (Some edge.Pos) b = b ≡ true
RisesAs (Some edge.Neg) b = b ≡ false
RisesAs (Some edge.Either) b = Unit {0}

abbrev pub RowRises : Group → SlotRow → Type 0
RowRises g r = RisesAs g.edge r.rising

and_then_some : {A B : Type 0} (f : A → Option B) (o : Option A) (b : B) → option_and_then f o ≡ Some b → (a : A) × (f a ≡ Some b) × (o ≡ Some a)
and_then_some f None b e = absurd cc
and_then_some f (Some a) b e = (a, e, refl)

rising_told : (e : Option EdgeKind) (params : List Attr) (name : List ℕ) (b : Bool) → rising_at e params name ≡ Some b → RisesAs e b
rising_told None params name b h = tt
rising_told (Some edge.Pos) params name b h = sym (same_Some true b h)
rising_told (Some edge.Neg) params name b h = sym (same_Some false b h)
rising_told (Some edge.Either) params name b h = tt

slot_rising : (v : Variant) (g : Group) (l : Level) (params : List Attr) (n : List ℕ) (r : SlotRow) → slot_at v g l params n ≡ Some r → RowRises g r
unfolding slot_at
slot_rising v g l params n r e =
    let used = and_then_some _ (flag_at params (slot_name n (codes "USED"))) r e in
    let level = and_then_some _ (slot_level v g l params n used.0) r used.1 in
    let edges = and_then_some _ (rising_at g.edge params n) r level.1 in
    let values = and_then_some _ (values_at g params n) r edges.1 in
    let same = same_Some _ r values.1 in
    subst (λ (b : Bool). RisesAs g.edge b) (ap (λ (x : SlotRow). x.rising) same) (rising_told g.edge params n edges.0 edges.2)

-- the rows of a group stand in front of others
record InFront (g : Group) (ns : List (List ℕ)) (ss ts : List SlotRow) : Type 0 where
  hold : NamesHold RowRises g ns (ss ++ ts)
  behind : drop (length ns) (ss ++ ts) ≡ ts

front_more : (g : Group) (n : List ℕ) (ns : List (List ℕ)) (s : SlotRow) (ss ts : List SlotRow) → RowRises g s → InFront g ns ss ts → InFront g (n ∷ ns) (s ∷ ss) ts
front_more g n ns s ss ts h f = record { hold = (h, f.hold); behind = f.behind }

names_rising : (v : Variant) (g : Group) (l : Level) (params : List Attr) (ns : List (List ℕ)) (ss ts : List SlotRow) → names_at v g l params ns ≡ Some ss → InFront g ns ss ts
unfolding names_at
names_rising v g l params [] ss ts e = subst (λ (xs : List SlotRow). InFront g [] xs ts) (same_Some [] ss e) (record { hold = tt; behind = refl })
names_rising v g l params (n ∷ ns) ss ts e =
    let first = and_then_some _ (slot_at v g l params n) ss e in
    let rest = and_then_some _ (names_at v g l params ns) ss first.1 in
    subst (λ (xs : List SlotRow). InFront g (n ∷ ns) xs ts) (same_Some (first.0 ∷ rest.0) ss rest.1)
    (front_more g n ns first.0 rest.0 ts (slot_rising v g l params n first.0 first.2) (names_rising v g l params ns rest.0 ts rest.2))

groups_rising : (v : Variant) (l : Level) (params : List Attr) (gs : List Group) (rows : List SlotRow) → groups_at v l params gs ≡ Some rows → GroupsHold RowRises gs rows
unfolding groups_at
groups_rising v l params [] rows e = tt
groups_rising v l params (g ∷ gs) rows e =
    let first = and_then_some _ (names_at v g l params g.names) rows e in
    let rest = and_then_some _ (groups_at v l params gs) rows first.1 in
    let front = names_rising v g l params g.names first.0 rest.0 first.2 in
    subst (GroupsHold RowRises (g ∷ gs)) (same_Some (first.0 ++ rest.0) rows rest.1)
    (front.hold, subst (GroupsHold RowRises gs) (sym front.behind) (groups_rising v l params gs rest.0 rest.2))

row_rising : (v : Variant) (params : List Attr) (r : RamRow) → row_at v params ≡ Some r → GroupsHold RowRises v.groups r.slots
unfolding row_at
row_rising v params r e =
    let level = and_then_some _ (level_at v params) r e in
    let slots = and_then_some _ (groups_at v level.0 params v.groups) r level.1 in
    let init = and_then_some _ (value_if (takes_value v.fill) params (codes "\\INIT")) r slots.1 in
    let same = same_Some _ r init.1 in
    subst (GroupsHold RowRises v.groups) (ap (λ (x : RamRow). x.slots) same) (groups_rising v level.0 params v.groups slots.0 slots.2)

-- ---- the rows of gathered cells

-- the ports work at the edges of their groups, and their levels are places of widths
pub record RowSuits (v : Variant) (r : RamRow) : Type 0 where
  pub rises : GroupsHold RowRises v.groups r.slots
  pub levels : any_strange (length v.widths) r.slots ≡ false

abbrev pub UseRises : Library → RamUse → Type 0
UseRises lib u = (v : Variant) → variant_of lib u ≡ Some v → RowSuits v u.row

abbrev RowTold : Library → CellRow → Type 0
RowTold lib (row.Comb r) = Unit {0}
RowTold lib (row.Reg r) = Unit {0}
RowTold lib (row.Memory r) = Unit {0}
RowTold lib (row.Ram u) = UseRises lib u
RowTold lib row.StrangeRam = Unit {0}
RowTold lib row.Kept = Unit {0}

abbrev FoundTold : Library → Found → Type 0
FoundTold lib found_as.Unknown = Unit {0}
FoundTold lib found_as.Missing = Unit {0}
FoundTold lib (found_as.Row r) = RowTold lib r

comb_told : (lib : Library) (o : Option CombRow) → FoundTold lib (found_comb o)
comb_told lib None = tt
comb_told lib (Some r) = tt

reg_told : (lib : Library) (o : Option RegRow) → FoundTold lib (found_reg o)
reg_told lib None = tt
reg_told lib (Some r) = tt

mem_told : (lib : Library) (o : Option MemRow) → FoundTold lib (found_mem o)
mem_told lib None = tt
mem_told lib (Some r) = tt

memory_case : (lib : Library) (b : Bool) (o : Option MemRow) → FoundTold lib (if b then found_mem o else found_as.Unknown)
memory_case lib true o = mem_told lib o
memory_case lib false o = tt

strange_case : (lib : Library) (b : Bool) (u : RamUse) → (b ≡ false → UseRises lib u) → RowTold lib (strange_or b u)
strange_case lib true u h = tt
strange_case lib false u h = h refl

or_false : (a b : Bool) → (a || b) ≡ false → b ≡ false
or_false true b e = absurd cc
or_false false b e = e

slots_told : (lib : Library) (ram place : ℕ) (v : Variant) (params : List Attr) (o : Option RamRow) → variant_in (slice_get lib.rams ram) place ≡ Some v → row_at v params ≡ o → FoundTold lib (found_slots ram place v o)
slots_told lib ram place v params None at e = tt
slots_told lib ram place v params (Some r) at e =
    strange_case lib (has_strange_level v r) (record { ram = ram; variant = place; row = r })
    (λ plain w is.
    subst (λ (y : Variant). RowSuits y r) (same_Some v w (sym at ∙ is))
    (record { rises = row_rising v params r e; levels = or_false (is_strange (length v.widths) r.level) (any_strange (length v.widths) r.slots) plain }))

variant_told : (lib : Library) (ram place : ℕ) (params : List Attr) (o : Option Variant) → ((v : Variant) → o ≡ Some v → variant_in (slice_get lib.rams ram) place ≡ Some v) → FoundTold lib (found_variant ram place params o)
variant_told lib ram place params None f = tt
variant_told lib ram place params (Some v) f = slots_told lib ram place v params (row_at v params) (f v refl) refl

chosen_told : (lib : Library) (ram : ℕ) (params : List Attr) (k : RamKind) (c : Chosen) → slice_get lib.rams ram ≡ Some k → FoundTold lib (found_chosen ram params k.variants c)
chosen_told lib ram params k chosen.Missing at = tt
chosen_told lib ram params k chosen.Nothing at = tt
chosen_told lib ram params k (chosen.Variant place) at = variant_told lib ram place params (slice_get k.variants place) (λ v e. ap (λ o. variant_in o place) at ∙ e)

ram_told : (lib : Library) (ram : ℕ) (params : List Attr) (o : Option RamKind) → slice_get lib.rams ram ≡ o → FoundTold lib (found_ram ram params o)
ram_told lib ram params None at = tt
ram_told lib ram params (Some k) at = chosen_told lib ram params k (chosen_by params k.variants) at

found_told : (lib : Library) (k : CellKind) (params : List Attr) → FoundTold lib (found_row lib k params)
found_told lib (kind.Comb c) params = comb_told lib (comb_row c params)
found_told lib (kind.Reg c) params = reg_told lib (reg_row c params)
found_told lib kind.Carried params = tt
found_told lib (kind.Memory c) params = memory_case lib (is_known c params) (mem_row c params)
found_told lib (kind.Ram place) params = ram_told lib place params (slice_get lib.rams place) refl
found_told lib (kind.Instance place) params = tt
found_told lib kind.Unknown params = tt

abbrev pub ShapeRises : Library → CellShape → Type 0
ShapeRises lib (shape.Comb r) = Unit {0}
ShapeRises lib (shape.Reg r) = Unit {0}
ShapeRises lib (shape.Carried k) = Unit {0}
ShapeRises lib (shape.Memory k r) = Unit {0}
ShapeRises lib (shape.Ram u) = UseRises lib u

abbrev pub CellsRise : Library → List RawCell → Type 0
CellsRise lib cs = All (λ (c : RawCell). ShapeRises lib c.shape) cs

comb_shaped : (lib : Library) (b : Bool) (k : Kept) (r : CombRow) → ShapeRises lib (if b then shape.Carried k else shape.Comb r)
comb_shaped lib true k r = tt
comb_shaped lib false k r = tt

gain_rises : (x : Context) (st : Counts) (c : DocCell) (params : List Attr) (f : Found) → FoundTold x.library f → CellsRise x.library (gained (found_gain x st c params f))
unfolding row_gain
gain_rises x st c params found_as.Unknown t = tt
gain_rises x st c params found_as.Missing t = tt
gain_rises x st c params (found_as.Row (row.Comb r)) t = (comb_shaped x.library (is_carried_row r) _ r, tt)
gain_rises x st c params (found_as.Row (row.Reg r)) t = (tt, tt)
gain_rises x st c params (found_as.Row (row.Memory r)) t = (tt, tt)
gain_rises x st c params (found_as.Row (row.Ram u)) t = (t, tt)
gain_rises x st c params (found_as.Row row.StrangeRam) t = (tt, tt)
gain_rises x st c params (found_as.Row row.Kept) t = (tt, tt)

item_rises : (x : Context) (st : Counts) (i : Item) → CellsRise x.library (gained (item_gain x st i))
item_rises x st (item.Wire w) = tt
item_rises x st (item.Param p) = tt
item_rises x st (item.Mem m) = tt
item_rises x st (item.Cell c) = gain_rises x st c (params_of c.lines) (found_row x.library (kind_in x c.kind) (params_of c.lines)) (found_told x.library (kind_in x c.kind) (params_of c.lines))
item_rises x st (item.Connect l r) = tt

joined : (lib : Library) (xs ys : List RawCell) → CellsRise lib xs → CellsRise lib ys → CellsRise lib (xs ++ ys)
joined lib [] ys a b = b
joined lib (x ∷ xs) ys a b = (a.0, joined lib xs ys a.1 b)

pub cells_rise : (x : Context) (st : Counts) (is : List Item) → CellsRise x.library (raw_cells x st is)
cells_rise x st [] = tt
cells_rise x st (i ∷ is) = joined x.library (gained (item_gain x st i)) (raw_cells x (counted st (item_gain x st i)) is) (item_rises x st i) (cells_rise x (counted st (item_gain x st i)) is)
