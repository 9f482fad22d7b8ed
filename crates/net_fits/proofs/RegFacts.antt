-- Registers fit.
use Rattle.std.proofs.Common.{◌≡◌, ℕ, ◌+◌, ◌-◌, ◌≤◌, Bool, true, false, min, List, [], ◌∷◌, ◌++◌, take, replicate, length, codes, refl, sym, ◌∙◌, arith}
use Rattle.std.proofs.lemmas.List.{length-append, length-replicate, length-take}
use Rattle.lib_core.specs.declared.library.Library.{Library}
use Rattle.lib_core.specs.declared.library.Tri.{Tri}
use Rattle.lib_core.specs.declared.library.Tri.TheVariants.{Any}
use Rattle.rtlil_text.specs.declared.doc.DocModule.{DocModule}
use Rattle.rtlil_text.specs.Grammar.{All}
use Rattle.net_core.specs.declared.bits.Bit.{Bit}
use Rattle.net_core.specs.declared.bits.Bit.TheVariants.{Zero}
use Rattle.net_core.specs.Cells.{has_arst, has_enable, has_srst}
use Rattle.net_core.specs.Ports.{Interface, nets_of}
use Rattle.net_core.specs.Valid.{Each, IsName, RegFits}
use Rattle.cell_consts.specs.Consts.{fitted}
use Rattle.cell_rows.specs.declared.pin.PinRow.{PinRow}
use Rattle.cell_rows.specs.declared.reg.RegRow.{RegRow}
use Rattle.cell_rows.specs.Pins.{clock, input, output, pin_if, reg_pins}
use Rattle.net_wires.specs.declared.clock.ClockRoot.{ClockRoot}
use Rattle.raw_cells.specs.declared.raw.CellShape.{CellShape}
use Rattle.raw_cells.specs.declared.raw.CellShape.TheVariants as shape
use Rattle.raw_cells.specs.declared.raw.RawCell.{RawCell}
use Rattle.raw_cells.specs.declared.raw.RawPin.{RawPin}
use Rattle.net_gather.specs.Cells.{Context}
use Rattle.net_gather.specs.FilePins.{in_table}
use Rattle.net_gather.specs.Gather.{gathered}
use Rattle.net_gather.specs.Laws.{FitsShape, FitsTable, PinsShort, TablesFit}
use Rattle.raw_cells.specs.Bits.{bits_at, first_or_zero}
use Rattle.net_cells.specs.Cells.{reg_of, start_at, value_if}
use Rattle.net_module.specs.Assembly.{reg_by, regs_of}
use Rattle.net_fits.specs.Cells.{CellsDriveNets, DrivesNets, IsSound, width_of}
use Rattle.net_fits.proofs.Lists.{all_flat, all_then, each_of, length_map}
use Rattle.net_fits.proofs.Rows.{RegKnown}
use Rattle.net_fits.proofs.Shapes.{ShapeKnown}
use Rattle.net_fits.proofs.Sound.{raw_sound, RawSound}
use Rattle.net_fits.proofs.Tables.{bits_width, few_bits, nets_width}

-- ---- the pins that a kind lacks

abbrev reg_table : ℕ → Bool → Bool → Bool → List PinRow
reg_table w a s e =
    (clock (codes "\\CLK") ∷ input (codes "\\D") w ∷ output (codes "\\Q") w ∷ []) ++ pin_if a (codes "\\ARST") ++ pin_if s (codes "\\SRST") ++ pin_if e (codes "\\EN")

abbrev wide : ℕ → Bool → Bool → Bool → List ℕ → ℕ
wide w a s e name = width_of (in_table (reg_table w a s e) name)

no_enable : (w : ℕ) (a s e : Bool) → e ≡ false → wide w a s e (codes "\\EN") ≡ 0
no_enable w a s true h = absurd cc
no_enable w true true false h = refl
no_enable w true false false h = refl
no_enable w false true false h = refl
no_enable w false false false h = refl

no_reset : (w : ℕ) (a s e : Bool) → a ≡ false → wide w a s e (codes "\\ARST") ≡ 0
no_reset w true s e h = absurd cc
no_reset w false true true h = refl
no_reset w false true false h = refl
no_reset w false false true h = refl
no_reset w false false false h = refl

no_sync_reset : (w : ℕ) (a s e : Bool) → s ≡ false → wide w a s e (codes "\\SRST") ≡ 0
no_sync_reset w a true e h = absurd cc
no_sync_reset w true false true h = refl
no_sync_reset w true false false h = refl
no_sync_reset w false false true h = refl
no_sync_reset w false false false h = refl

no_first : (bs : List Bit) → length bs ≡ 0 → first_or_zero bs ≡ Zero
no_first [] e = refl
no_first (b ∷ bs) e = absurd (omega (arith, e))

-- ---- values

length_fitted : (w : ℕ) (bits : List Tri) → length (fitted w bits) ≡ w
unfolding fitted
length_fitted w bits =
    let sum : length (take w bits ++ replicate (w - length bits) Any) ≡ length (take w bits) + length (replicate (w - length bits) Any) = length-append (take w bits) _ in
    let front : length (take w bits) ≡ min w (length bits) = length-take w bits in
    let behind : length (replicate (w - length bits) Any) ≡ w - length bits = length-replicate (w - length bits) Any in
    omega (arith, sum, front, behind)

no_value : (has : Bool) (w : ℕ) (bits : List Tri) → has ≡ false → value_if has w bits ≡ []
no_value true w bits h = absurd cc
no_value false w bits h = refl

value_long : (has : Bool) (w : ℕ) (bits : List Tri) → has ≡ true → length (value_if has w bits) ≡ w
value_long true w bits h = length_fitted w bits
value_long false w bits h = absurd cc

-- ---- registers

reg_fits : (places : List Bit) (roots : List ClockRoot) (starts : List Tri) (name : List ℕ) (q : RegRow) (ps : List RawPin) → IsName name → FitsTable (reg_pins q) ps → All (λ (p : RawPin). length p.bits ≤ 16777216) ps → DrivesNets places ps → RegKnown q
    → RegFits (reg_of places roots starts name q ps)
unfolding reg_of reg_pins
reg_fits places roots starts name q ps n fits short nets k =
    let w = q.controls.width in
    let table = reg_table w (has_arst q.kind) (has_srst q.kind) (has_enable q.kind) in
    let d : length (bits_at places ps (codes "\\D")) ≡ w = bits_width places table ps (codes "\\D") fits in
    let y : length (nets_of (bits_at places ps (codes "\\Q"))) ≡ w = nets_width places table ps (codes "\\Q") fits nets refl in
    let wide_y : length (bits_at places ps (codes "\\Q")) ≡ w = bits_width places table ps (codes "\\Q") fits in
    let few : length (bits_at places ps (codes "\\Q")) ≤ 16777216 = few_bits places ps (codes "\\Q") 16777216 short in
    record {
      name = n;
      d = d ∙ sym y;
      init = length_map (λ i. start_at starts i) (nets_of (bits_at places ps (codes "\\Q")));
      q = omega (arith, few, y, wide_y);
      no_en = λ h. (no_first (bits_at places ps (codes "\\EN")) (bits_width places table ps (codes "\\EN") fits ∙ no_enable w (has_arst q.kind) (has_srst q.kind) (has_enable q.kind) h), k.no_en h);
      no_arst = λ h. (no_first (bits_at places ps (codes "\\ARST")) (bits_width places table ps (codes "\\ARST") fits ∙ no_reset w (has_arst q.kind) (has_srst q.kind) (has_enable q.kind) h), k.no_arst h, no_value (has_arst q.kind) w q.arst_value h);
      arst = λ h. value_long (has_arst q.kind) w q.arst_value h ∙ sym y;
      no_srst = λ h. (no_first (bits_at places ps (codes "\\SRST")) (bits_width places table ps (codes "\\SRST") fits ∙ no_sync_reset w (has_arst q.kind) (has_srst q.kind) (has_enable q.kind) h), k.no_srst h, no_value (has_srst q.kind) w q.srst_value h);
      srst = λ h. value_long (has_srst q.kind) w q.srst_value h ∙ sym y;
    }

by_shape : (lib : Library) (modules : List Interface) (places : List Bit) (roots : List ClockRoot) (starts : List Tri) (name : List ℕ) (s : CellShape) (ps : List RawPin) → IsName name → FitsShape lib s ps → All (λ (p : RawPin). length p.bits ≤ 16777216) ps → DrivesNets places ps → ShapeKnown modules s ps
    → All RegFits (reg_by places roots starts name s ps)
by_shape lib modules places roots starts name (shape.Comb q) ps n fits short nets k = tt
by_shape lib modules places roots starts name (shape.Reg q) ps n fits short nets k = (reg_fits places roots starts name q ps n fits short nets k, tt)
by_shape lib modules places roots starts name (shape.Carried q) ps n fits short nets k = tt
by_shape lib modules places roots starts name (shape.Memory q r) ps n fits short nets k = tt
by_shape lib modules places roots starts name (shape.Ram u) ps n fits short nets k = tt

pub regs_fit : TablesFit → PinsShort → (modules : List Interface) (x : Context) (m : DocModule) (places : List Bit) (roots : List ClockRoot) (starts : List Tri) → IsSound modules x m → CellsDriveNets places (gathered x m.items).cells
    → Each (regs_of places roots starts (gathered x m.items).cells) RegFits
regs_fit tables short modules x m places roots starts s nets =
    each_of RegFits (regs_of places roots starts (gathered x m.items).cells) (all_flat RegFits (λ (c : RawCell). reg_by places roots starts c.name c.shape c.pins) (gathered x m.items).cells
    (all_then (RawSound x.library modules places) (λ (c : RawCell). All RegFits (reg_by places roots starts c.name c.shape c.pins)) (gathered x m.items).cells
    (λ c r. by_shape x.library modules places roots starts c.name c.shape c.pins r.known.name r.fits r.short r.nets r.known.shape) (raw_sound tables short modules x m places s nets)))
