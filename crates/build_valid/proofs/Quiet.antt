-- No gathered cell drives a clock pin of its own.
use Rattle.std.proofs.Common.{◌≡◌, ℕ, ◌+◌, Bool, true, false, not, ◌&&◌, List, [], ◌∷◌, ◌++◌, drop, length, nat_eq, Option, Some, None, codes, refl}
use Rattle.std.specs.Prelude.{if◌then◌else◌}
use Rattle.std.specs.List.{list_all}
use Rattle.lib_core.specs.declared.library.Group.{Group}
use Rattle.lib_core.specs.declared.library.Library.{Library}
use Rattle.lib_core.specs.declared.library.Variant.{Variant}
use Rattle.rtlil_text.specs.declared.doc.DocCell.{DocCell}
use Rattle.rtlil_text.specs.declared.doc.Item.{Item}
use Rattle.rtlil_text.specs.declared.doc.Item.TheVariants as item
use Rattle.rtlil_text.specs.Grammar.{All}
use Rattle.net_core.specs.declared.mems.Attr.{Attr}
use Rattle.net_core.specs.Cells.{has_arst, has_enable, has_srst}
use Rattle.cell_rows.specs.declared.comb.CombRow.{CombRow}
use Rattle.cell_rows.specs.declared.operands.Operands.{Operands}
use Rattle.cell_rows.specs.declared.operands.Operands.TheVariants.{One, Alike, Free, Shift, Mux, Pmux}
use Rattle.cell_rows.specs.declared.pin.PinRow.{PinRow}
use Rattle.cell_rows.specs.declared.reg.RegRow.{RegRow}
use Rattle.cell_rows.specs.Operands.{operands}
use Rattle.cell_rows.specs.Pins.{clock, comb_pins, input, output, pin_if, pins_by, reg_pins}
use Rattle.mem_rows.specs.declared.row.MemRow.{MemRow}
use Rattle.mem_rows.specs.declared.row.MemRow.TheVariants as memory
use Rattle.mem_rows.specs.declared.whole.WholeRow.{WholeRow}
use Rattle.mem_rows.specs.Pins.{init_pins, mem_pins, old_read_pins, ports_that_read, ports_that_write, read_clocks, read_pins, read_resets, read_words, write_pins}
use Rattle.ram_rows.specs.declared.pins.SlotPin.{SlotPin}
use Rattle.ram_rows.specs.declared.pins.SlotPin.TheVariants as pin
use Rattle.ram_rows.specs.declared.slots.SlotRow.{SlotRow}
use Rattle.ram_rows.specs.RamPins.{is_clock, is_output, pin_at, pin_row, pin_width, slot_pins}
use Rattle.raw_cells.specs.declared.raw.RawCell.{RawCell}
use Rattle.raw_cells.specs.declared.raw.RawPin.{RawPin}
use Rattle.raw_cells.specs.declared.row.CellRow.{CellRow}
use Rattle.raw_cells.specs.declared.row.CellRow.TheVariants as row
use Rattle.raw_cells.specs.declared.row.Found.{Found}
use Rattle.raw_cells.specs.declared.row.Found.TheVariants as found_as
use Rattle.raw_cells.specs.Rows.{found_row, groups_pins, is_kept, names_pins, table_of, variant_of, variant_pins}
use Rattle.net_gather.specs.declared.counts.Counts.{Counts}
use Rattle.net_gather.specs.declared.file_pin.FilePin.{FilePin}
use Rattle.net_gather.specs.declared.open_pin.PinBits.TheVariants.{Given}
use Rattle.net_gather.specs.Cells.{Context, found_gain, kind_in, row_gain, row_pins}
use Rattle.net_gather.specs.FilePins.{file_pins}
use Rattle.net_gather.specs.Gather.{counted, gained, item_gain, raw_cells}
use Rattle.net_gather.specs.OpenPins.{bits_open, found_bits, in_file, kept_pins, raw_pins, table_pins}
use Rattle.doc_params.specs.Docs.{params_of}

-- a row is no clock that is driven
abbrev pub is_quiet : PinRow → Bool
is_quiet r = not (r.clock && r.drives)

abbrev AllQuiet : List PinRow → Type 0
AllQuiet rs = list_all is_quiet rs ≡ true

abbrev pub PinQuiet : RawPin → Type 0
PinQuiet p = (p.clock && p.drives) ≡ false

-- ---- tables

and_parts : (a b : Bool) → (a && b) ≡ true → (a ≡ true) × (b ≡ true)
and_parts true b e = (refl, e)
and_parts false b e = absurd cc

both : (a b : Bool) → a ≡ true → b ≡ true → (a && b) ≡ true
both true b d e = e
both false b d e = absurd cc

quiet_join : (rs ss : List PinRow) → AllQuiet rs → AllQuiet ss → AllQuiet (rs ++ ss)
quiet_join [] ss a b = b
quiet_join (r ∷ rs) ss a b = let parts = and_parts (is_quiet r) (list_all is_quiet rs) a in both (is_quiet r) (list_all is_quiet (rs ++ ss)) parts.0 (quiet_join rs ss parts.1 b)

by_quiet : (o : Operands) (q : CombRow) → AllQuiet (pins_by o q)
by_quiet One q = refl
by_quiet Alike q = refl
by_quiet Free q = refl
by_quiet Shift q = refl
by_quiet Mux q = refl
by_quiet Pmux q = refl

comb_quiet : (q : CombRow) → AllQuiet (comb_pins q)
unfolding comb_pins
comb_quiet q = by_quiet (operands q.kind) q

abbrev reg_table : ℕ → Bool → Bool → Bool → List PinRow
reg_table w a s e =
    (clock (codes "\\CLK") ∷ input (codes "\\D") w ∷ output (codes "\\Q") w ∷ []) ++ pin_if a (codes "\\ARST") ++ pin_if s (codes "\\SRST") ++ pin_if e (codes "\\EN")

reg_case : (w : ℕ) (a s e : Bool) → AllQuiet (reg_table w a s e)
reg_case w true true true = refl
reg_case w true true false = refl
reg_case w true false true = refl
reg_case w true false false = refl
reg_case w false true true = refl
reg_case w false true false = refl
reg_case w false false true = refl
reg_case w false false false = refl

reg_quiet : (q : RegRow) → AllQuiet (reg_pins q)
unfolding reg_pins
reg_quiet q = reg_case q.controls.width (has_arst q.kind) (has_srst q.kind) (has_enable q.kind)

abbrev whole_table : WholeRow → Bool → Bool → List PinRow
whole_table q a b = (if a then [] else ports_that_read q) ++ (if b then [] else ports_that_write q)

whole_case : (q : WholeRow) (a b : Bool) → AllQuiet (whole_table q a b)
unfolding read_clocks read_resets read_words ports_that_write
whole_case q true true = refl
whole_case q true false = refl
whole_case q false true = refl
whole_case q false false = refl

mem_quiet : (q : MemRow) → AllQuiet (mem_pins q)
unfolding old_read_pins read_pins write_pins init_pins
mem_quiet (memory.Whole q) = whole_case q (nat_eq q.reads 0) (nat_eq q.writes 0)
mem_quiet (memory.Read q) = refl
mem_quiet (memory.OldRead q) = refl
mem_quiet (memory.Write q) = refl
mem_quiet (memory.Init q) = refl

pin_quiet : (p : SlotPin) → not (is_clock p && is_output p) ≡ true
pin_quiet pin.Clk = refl
pin_quiet pin.ClkEn = refl
pin_quiet pin.Addr = refl
pin_quiet pin.RdData = refl
pin_quiet pin.RdEn = refl
pin_quiet pin.RdSrst = refl
pin_quiet pin.RdArst = refl
pin_quiet pin.WrData = refl
pin_quiet pin.WrEn = refl
pin_quiet pin.WrBe = refl

pin_row_quiet : (n : List ℕ) (p : SlotPin) (o : Option ℕ) → AllQuiet (pin_row n p o)
pin_row_quiet n p None = refl
pin_row_quiet n p (Some w) = both _ true (pin_quiet p) refl

ten_quiet : (a b c d e f g h i j : List PinRow) → AllQuiet a → AllQuiet b → AllQuiet c → AllQuiet d → AllQuiet e → AllQuiet f → AllQuiet g → AllQuiet h → AllQuiet i → AllQuiet j → AllQuiet (a ++ b ++ c ++ d ++ e ++ f ++ g ++ h ++ i ++ j)
ten_quiet a b c d e f g h i j qa qb qc qd qe qf qg qh qi qj =
    quiet_join (a ++ b ++ c ++ d ++ e ++ f ++ g ++ h ++ i) j
    (quiet_join (a ++ b ++ c ++ d ++ e ++ f ++ g ++ h) i
    (quiet_join (a ++ b ++ c ++ d ++ e ++ f ++ g) h
    (quiet_join (a ++ b ++ c ++ d ++ e ++ f) g
    (quiet_join (a ++ b ++ c ++ d ++ e) f (quiet_join (a ++ b ++ c ++ d) e (quiet_join (a ++ b ++ c) d (quiet_join (a ++ b) c (quiet_join a b qa qb) qc) qd) qe) qf) qg) qh) qi) qj

slot_quiet : (v : Variant) (g : Group) (level : ℕ) (n : List ℕ) → AllQuiet (slot_pins v g level n)
unfolding slot_pins
slot_quiet v g level n =
    let at : (p : SlotPin) → AllQuiet (pin_at v g level n p) = λ p. pin_row_quiet n p (pin_width v g level p) in
    ten_quiet (pin_at v g level n pin.Clk) (pin_at v g level n pin.ClkEn) (pin_at v g level n pin.Addr) (pin_at v g level n pin.RdData) (pin_at v g level n pin.RdEn)
    (pin_at v g level n pin.RdSrst) (pin_at v g level n pin.RdArst) (pin_at v g level n pin.WrData) (pin_at v g level n pin.WrEn) (pin_at v g level n pin.WrBe)
    (at pin.Clk) (at pin.ClkEn) (at pin.Addr) (at pin.RdData) (at pin.RdEn) (at pin.RdSrst) (at pin.RdArst) (at pin.WrData) (at pin.WrEn) (at pin.WrBe)

names_quiet : (v : Variant) (g : Group) (ns : List (List ℕ)) (ss : List SlotRow) → AllQuiet (names_pins v g ns ss)
names_quiet v g [] ss = refl
names_quiet v g (n ∷ ns) [] = refl
names_quiet v g (n ∷ ns) (s ∷ ss) = quiet_join (slot_pins v g s.level n) (names_pins v g ns ss) (slot_quiet v g s.level n) (names_quiet v g ns ss)

groups_quiet : (v : Variant) (gs : List Group) (ss : List SlotRow) → AllQuiet (groups_pins v gs ss)
groups_quiet v [] ss = refl
groups_quiet v (g ∷ gs) ss = quiet_join (names_pins v g g.names ss) (groups_pins v gs (drop (length g.names) ss)) (names_quiet v g g.names ss) (groups_quiet v gs (drop (length g.names) ss))

variant_quiet : (o : Option Variant) (ss : List SlotRow) → AllQuiet (variant_pins o ss)
variant_quiet None ss = refl
variant_quiet (Some v) ss = groups_quiet v v.groups ss

table_quiet : (lib : Library) (r : CellRow) → AllQuiet (table_of lib r)
table_quiet lib (row.Comb q) = comb_quiet q
table_quiet lib (row.Reg q) = reg_quiet q
table_quiet lib (row.Memory q) = mem_quiet q
table_quiet lib (row.Ram u) = variant_quiet (variant_of lib u) u.row.slots
table_quiet lib row.StrangeRam = refl
table_quiet lib row.Kept = refl

-- ---- pins

not_loud : (b : Bool) → not b ≡ true → b ≡ false
not_loud true e = absurd cc
not_loud false e = refl

table_pins_quiet : (n : ℕ) (pins : List FilePin) (rs : List PinRow) → AllQuiet rs → All PinQuiet (raw_pins n (table_pins pins rs))
table_pins_quiet n pins [] e = tt
table_pins_quiet n pins (r ∷ rs) e =
    let parts = and_parts (is_quiet r) (list_all is_quiet rs) e in
    (not_loud (r.clock && r.drives) parts.0, table_pins_quiet (n + bits_open (found_bits (in_file pins r.name) r.width)) pins rs parts.1)

kept_pins_quiet : (n : ℕ) (drives : List ℕ → Bool) (ps : List FilePin) → All PinQuiet (raw_pins n (kept_pins drives ps))
kept_pins_quiet n drives [] = tt
kept_pins_quiet n drives (p ∷ ps) = (refl, kept_pins_quiet (n + bits_open (Given p.bits)) drives ps)

open_case : (n : ℕ) (kept : Bool) (drives : List ℕ → Bool) (pins : List FilePin) (rs : List PinRow) → AllQuiet rs → All PinQuiet (raw_pins n (if kept then kept_pins drives pins else table_pins pins rs))
open_case n true drives pins rs e = kept_pins_quiet n drives pins
open_case n false drives pins rs e = table_pins_quiet n pins rs e

row_quiet : (x : Context) (c : DocCell) (r : CellRow) (n : ℕ) → All PinQuiet (raw_pins n (row_pins x c r))
unfolding row_pins
row_quiet x c r n = open_case n (is_kept r) (x.drives c.kind) (file_pins x.names c.lines) (table_of x.library r) (table_quiet x.library r)

-- ---- cells

abbrev pub CellQuiet : RawCell → Type 0
CellQuiet c = All PinQuiet c.pins

found_quiet : (x : Context) (st : Counts) (c : DocCell) (params : List Attr) (f : Found) → All CellQuiet (gained (found_gain x st c params f))
unfolding row_gain
found_quiet x st c params found_as.Unknown = tt
found_quiet x st c params found_as.Missing = tt
found_quiet x st c params (found_as.Row r) = (row_quiet x c r st.places, tt)

item_quiet : (x : Context) (st : Counts) (i : Item) → All CellQuiet (gained (item_gain x st i))
item_quiet x st (item.Wire w) = tt
item_quiet x st (item.Param p) = tt
item_quiet x st (item.Mem m) = tt
item_quiet x st (item.Cell c) = found_quiet x st c (params_of c.lines) (found_row x.library (kind_in x c.kind) (params_of c.lines))
item_quiet x st (item.Connect l r) = tt

joined : (xs ys : List RawCell) → All CellQuiet xs → All CellQuiet ys → All CellQuiet (xs ++ ys)
joined [] ys a b = b
joined (x ∷ xs) ys a b = (a.0, joined xs ys a.1 b)

pub cells_quiet : (x : Context) (st : Counts) (is : List Item) → All CellQuiet (raw_cells x st is)
cells_quiet x st [] = tt
cells_quiet x st (i ∷ is) = joined (gained (item_gain x st i)) (raw_cells x (counted st (item_gain x st i)) is) (item_quiet x st i) (cells_quiet x (counted st (item_gain x st i)) is)
