-- A pin of a RAM cell that has the name of a clock is one.
use Rattle.std.proofs.Common.{◌≡◌, ℕ, true, List, [], ◌∷◌, ◌++◌, length, drop, Option, Some, None, codes, refl, sym, ap, ◌∙◌, append_assoc, arith}
use Rattle.rtlil_text.specs.Grammar.{All}
use Rattle.lib_core.specs.declared.library.Group.{Group}
use Rattle.lib_core.specs.declared.library.Variant.{Variant}
use Rattle.cell_rows.specs.declared.pin.PinRow.{PinRow}
use Rattle.ram_rows.specs.declared.pins.SlotPin.{SlotPin}
use Rattle.ram_rows.specs.declared.pins.SlotPin.TheVariants as pin
use Rattle.ram_rows.specs.declared.slots.SlotRow.{SlotRow}
use Rattle.ram_rows.specs.RamNames.{slot_name}
use Rattle.ram_rows.specs.RamPins.{is_clock, pin_at, pin_row, pin_width, slot_pins, suffix}
use Rattle.raw_cells.specs.Rows.{groups_pins, names_pins, variant_pins}

abbrev last_of : List ℕ → ℕ
last_of [] = 0
last_of (x ∷ []) = x
last_of (x ∷ y ∷ ys) = last_of (y ∷ ys)

last_append : (xs : List ℕ) (y : ℕ) (ys : List ℕ) → last_of (xs ++ y ∷ ys) ≡ last_of (y ∷ ys)
last_append [] y ys = refl
last_append (x ∷ []) y ys = refl
last_append (x ∷ z ∷ zs) y ys = last_append (z ∷ zs) y ys

-- the last byte of a name is that of what belongs to the port
last_name : (name : List ℕ) (y : ℕ) (ys : List ℕ) → last_of (slot_name name (y ∷ ys)) ≡ last_of (y ∷ ys)
last_name name y ys = ap last_of (sym (append_assoc (codes "\\PORT_") name (95 ∷ y ∷ ys))) ∙ last_append (codes "\\PORT_" ++ name) 95 (y ∷ ys)

-- of the names of pins that of a clock alone ends with this byte
clock_only : (name slot : List ℕ) (p : SlotPin) → slot_name name (suffix p) ≡ slot_name slot (suffix pin.Clk) → is_clock p ≡ true
clock_only name slot pin.Clk e = refl
clock_only name slot pin.ClkEn e = absurd (let f : 78 ≡ 75 = sym (last_name name _ _) ∙ ap last_of e ∙ last_name slot _ _ in omega (arith, f))
clock_only name slot pin.Addr e = absurd (let f : 82 ≡ 75 = sym (last_name name _ _) ∙ ap last_of e ∙ last_name slot _ _ in omega (arith, f))
clock_only name slot pin.RdData e = absurd (let f : 65 ≡ 75 = sym (last_name name _ _) ∙ ap last_of e ∙ last_name slot _ _ in omega (arith, f))
clock_only name slot pin.RdEn e = absurd (let f : 78 ≡ 75 = sym (last_name name _ _) ∙ ap last_of e ∙ last_name slot _ _ in omega (arith, f))
clock_only name slot pin.RdSrst e = absurd (let f : 84 ≡ 75 = sym (last_name name _ _) ∙ ap last_of e ∙ last_name slot _ _ in omega (arith, f))
clock_only name slot pin.RdArst e = absurd (let f : 84 ≡ 75 = sym (last_name name _ _) ∙ ap last_of e ∙ last_name slot _ _ in omega (arith, f))
clock_only name slot pin.WrData e = absurd (let f : 65 ≡ 75 = sym (last_name name _ _) ∙ ap last_of e ∙ last_name slot _ _ in omega (arith, f))
clock_only name slot pin.WrEn e = absurd (let f : 78 ≡ 75 = sym (last_name name _ _) ∙ ap last_of e ∙ last_name slot _ _ in omega (arith, f))
clock_only name slot pin.WrBe e = absurd (let f : 69 ≡ 75 = sym (last_name name _ _) ∙ ap last_of e ∙ last_name slot _ _ in omega (arith, f))

-- ---- tables

abbrev pub Clocked : List PinRow → Type 0
Clocked rs = All (λ (r : PinRow). (slot : List ℕ) → r.name ≡ slot_name slot (suffix pin.Clk) → r.clock ≡ true) rs

both : (xs ys : List PinRow) → Clocked xs → Clocked ys → Clocked (xs ++ ys)
both [] ys h k = k
both (x ∷ xs) ys h k = (h.0, both xs ys h.1 k)

row_clocked : (name : List ℕ) (p : SlotPin) (o : Option ℕ) → Clocked (pin_row name p o)
row_clocked name p None = tt
row_clocked name p (Some width) = (λ slot e. clock_only name slot p e, tt)

pin_clocked : (v : Variant) (g : Group) (level : ℕ) (name : List ℕ) (p : SlotPin) → Clocked (pin_at v g level name p)
pin_clocked v g level name p = row_clocked name p (pin_width v g level p)

slot_clocked : (v : Variant) (g : Group) (level : ℕ) (name : List ℕ) → Clocked (slot_pins v g level name)
unfolding slot_pins
slot_clocked v g level name =
    let at : (p : SlotPin) → Clocked (pin_at v g level name p) = pin_clocked v g level name in
    both _ _ (both _ _ (both _ _ (both _ _ (both _ _ (both _ _ (both _ _ (both _ _ (both _ _ (at pin.Clk) (at pin.ClkEn)) (at pin.Addr)) (at pin.RdData)) (at pin.RdEn)) (at pin.RdSrst)) (at pin.RdArst)) (at pin.WrData)) (at pin.WrEn)) (at pin.WrBe)

names_clocked : (v : Variant) (g : Group) (ns : List (List ℕ)) (ss : List SlotRow) → Clocked (names_pins v g ns ss)
names_clocked v g [] ss = tt
names_clocked v g (n ∷ ns) [] = tt
names_clocked v g (n ∷ ns) (s ∷ ss) = both (slot_pins v g s.level n) (names_pins v g ns ss) (slot_clocked v g s.level n) (names_clocked v g ns ss)

groups_clocked : (v : Variant) (gs : List Group) (ss : List SlotRow) → Clocked (groups_pins v gs ss)
groups_clocked v [] ss = tt
groups_clocked v (g ∷ gs) ss = both (names_pins v g g.names ss) (groups_pins v gs (drop (length g.names) ss)) (names_clocked v g g.names ss) (groups_clocked v gs (drop (length g.names) ss))

pub table_clocked : (o : Option Variant) (ss : List SlotRow) → Clocked (variant_pins o ss)
table_clocked None ss = tt
table_clocked (Some v) ss = groups_clocked v v.groups ss
