-- Logic cells fit.
use Rattle.std.proofs.Common.{◌≡◌, ℕ, ◌*◌, ◌≤◌, Bool, true, false, ◌||◌, List, length, codes, refl, sym, ap, ◌∙◌, arith}
use Rattle.std.proofs.Math.Nat.{mul_comm}
use Rattle.lib_core.specs.declared.library.Library.{Library}
use Rattle.rtlil_text.specs.declared.doc.DocModule.{DocModule}
use Rattle.rtlil_text.specs.Grammar.{All}
use Rattle.net_core.specs.declared.bits.Bit.{Bit}
use Rattle.net_core.specs.declared.cells.CombKind.{CombKind}
use Rattle.net_core.specs.declared.cells.CombKind.TheVariants as kind
use Rattle.net_core.specs.Ports.{Interface, nets_of}
use Rattle.net_core.specs.Valid.{CombFits, CombLengths, Each, IsName}
use Rattle.cell_rows.specs.declared.comb.CombRow.{CombRow}
use Rattle.cell_rows.specs.declared.operands.Operands.{Operands}
use Rattle.cell_rows.specs.declared.operands.Operands.TheVariants.{One, Alike, Free, Shift, Mux, Pmux}
use Rattle.cell_rows.specs.Operands.{operands}
use Rattle.cell_rows.specs.Pins.{comb_pins, pins_by}
use Rattle.cell_rows.specs.Rows.{carried_by}
use Rattle.raw_cells.specs.declared.raw.CellShape.{CellShape}
use Rattle.raw_cells.specs.declared.raw.CellShape.TheVariants as shape
use Rattle.raw_cells.specs.declared.raw.RawCell.{RawCell}
use Rattle.raw_cells.specs.declared.raw.RawPin.{RawPin}
use Rattle.net_gather.specs.Cells.{Context}
use Rattle.net_gather.specs.FilePins.{in_table}
use Rattle.net_gather.specs.Gather.{gathered}
use Rattle.net_gather.specs.Laws.{FitsShape, FitsTable, PinsShort, TablesFit}
use Rattle.raw_cells.specs.Bits.{bits_at}
use Rattle.net_cells.specs.Cells.{comb_of}
use Rattle.net_module.specs.Assembly.{comb_by, combs_of}
use Rattle.net_fits.specs.Cells.{CellsDriveNets, DrivesNets, IsSound, width_of}
use Rattle.net_fits.proofs.Lists.{all_flat, all_then, each_of}
use Rattle.net_fits.proofs.Rows.{Unsigned}
use Rattle.net_fits.proofs.Shapes.{CombKnown, ShapeKnown}
use Rattle.net_fits.proofs.Sound.{raw_sound, RawSound}
use Rattle.net_fits.proofs.Tables.{bits_width, drives_of, few_bits, nets_width}

-- ---- lengths by the kind

abbrev wide : CombKind → CombRow → List ℕ → ℕ
wide k q name = width_of (in_table (pins_by (operands k) q) name)

neither : (a b : Bool) → (a || b) ≡ false → a ≡ false
neither true b e = absurd cc
neither false b e = refl

times : (a b s y w n : ℕ) → b ≡ w * n → s ≡ n → y ≡ w → b ≡ s * y
times a b s y w n eb es ey = eb ∙ mul_comm w n ∙ ap (λ t. n * t) (sym ey) ∙ ap (λ t. t * y) (sym es)

lengths : (k : CombKind) (q : CombRow) (a b s y : ℕ) → a ≡ wide k q (codes "\\A") → b ≡ wide k q (codes "\\B") → s ≡ wide k q (codes "\\S") → y ≡ wide k q (codes "\\Y")
    → carried_by (operands k) q.a_signed q.b_signed ≡ false → Unsigned (operands k) q.a_signed → CombLengths k q.a_signed a b s y
lengths kind.Not q a b s y ea eb es ey c u = (eb, es)
lengths kind.And q a b s y ea eb es ey c u = es
lengths kind.Or q a b s y ea eb es ey c u = es
lengths kind.Xor q a b s y ea eb es ey c u = es
lengths kind.Xnor q a b s y ea eb es ey c u = es
lengths kind.ReduceAnd q a b s y ea eb es ey c u = (eb, es)
lengths kind.ReduceOr q a b s y ea eb es ey c u = (eb, es)
lengths kind.ReduceBool q a b s y ea eb es ey c u = (eb, es)
lengths kind.ReduceXor q a b s y ea eb es ey c u = (eb, es)
lengths kind.ReduceXnor q a b s y ea eb es ey c u = (eb, es)
lengths kind.LogicNot q a b s y ea eb es ey c u = (eb, es)
lengths kind.LogicAnd q a b s y ea eb es ey c u = es
lengths kind.LogicOr q a b s y ea eb es ey c u = es
lengths kind.Eq q a b s y ea eb es ey c u = es
lengths kind.Ne q a b s y ea eb es ey c u = es
lengths kind.Lt q a b s y ea eb es ey c u = es
lengths kind.Le q a b s y ea eb es ey c u = es
lengths kind.Gt q a b s y ea eb es ey c u = es
lengths kind.Ge q a b s y ea eb es ey c u = es
lengths kind.Add q a b s y ea eb es ey c u = es
lengths kind.Sub q a b s y ea eb es ey c u = es
lengths kind.Shl q a b s y ea eb es ey c u = (neither q.a_signed q.b_signed c, es)
lengths kind.Shr q a b s y ea eb es ey c u = (neither q.a_signed q.b_signed c, es)
lengths kind.Mux q a b s y ea eb es ey c u =
    let w : y ≡ q.a_width = ey in
    let n : b ≡ q.a_width * 1 = eb in
    (u, ea ∙ sym ey, omega (arith, n, w), es)
lengths kind.Pmux q a b s y ea eb es ey c u = (u, ea ∙ sym ey, times a b s y q.a_width q.s_width eb es ey)

-- ---- cells

drives_y : (o : Operands) (q : CombRow) → drives_of (in_table (pins_by o q) (codes "\\Y")) ≡ true
drives_y One q = refl
drives_y Alike q = refl
drives_y Free q = refl
drives_y Shift q = refl
drives_y Mux q = refl
drives_y Pmux q = refl

comb_fits : (places : List Bit) (name : List ℕ) (q : CombRow) (ps : List RawPin) → IsName name → FitsTable (comb_pins q) ps → All (λ (p : RawPin). length p.bits ≤ 16777216) ps → DrivesNets places ps → CombKnown q → CombFits (comb_of places name q ps)
unfolding comb_of comb_pins
comb_fits places name q ps n fits short nets k =
    let table = pins_by (operands q.kind) q in
    let y : length (nets_of (bits_at places ps (codes "\\Y"))) ≡ wide q.kind q (codes "\\Y") = nets_width places table ps (codes "\\Y") fits nets (drives_y (operands q.kind) q) in
    let wide_y : length (bits_at places ps (codes "\\Y")) ≡ wide q.kind q (codes "\\Y") = bits_width places table ps (codes "\\Y") fits in
    let few_a : length (bits_at places ps (codes "\\A")) ≤ 16777216 = few_bits places ps (codes "\\A") 16777216 short in
    let few_b : length (bits_at places ps (codes "\\B")) ≤ 16777216 = few_bits places ps (codes "\\B") 16777216 short in
    let few_s : length (bits_at places ps (codes "\\S")) ≤ 16777216 = few_bits places ps (codes "\\S") 16777216 short in
    let few_y : length (bits_at places ps (codes "\\Y")) ≤ 16777216 = few_bits places ps (codes "\\Y") 16777216 short in
    record {
      name = n;
      lengths = lengths q.kind q _ _ _ _ (bits_width places table ps (codes "\\A") fits) (bits_width places table ps (codes "\\B") fits) (bits_width places table ps (codes "\\S") fits) y k.plain k.unsigned;
      a = omega (arith, few_a);
      b = omega (arith, few_b);
      s = omega (arith, few_s);
      y = omega (arith, few_y, y, wide_y);
    }

by_shape : (lib : Library) (modules : List Interface) (places : List Bit) (name : List ℕ) (s : CellShape) (ps : List RawPin) → IsName name → FitsShape lib s ps → All (λ (p : RawPin). length p.bits ≤ 16777216) ps → DrivesNets places ps → ShapeKnown modules s ps → All CombFits (comb_by places name s ps)
by_shape lib modules places name (shape.Comb q) ps n fits short nets k = (comb_fits places name q ps n fits short nets k, tt)
by_shape lib modules places name (shape.Reg q) ps n fits short nets k = tt
by_shape lib modules places name (shape.Carried q) ps n fits short nets k = tt
by_shape lib modules places name (shape.Memory q r) ps n fits short nets k = tt
by_shape lib modules places name (shape.Ram u) ps n fits short nets k = tt

pub combs_fit : TablesFit → PinsShort → (modules : List Interface) (x : Context) (m : DocModule) (places : List Bit) → IsSound modules x m → CellsDriveNets places (gathered x m.items).cells → Each (combs_of places (gathered x m.items).cells) CombFits
combs_fit tables short modules x m places s nets =
    each_of CombFits (combs_of places (gathered x m.items).cells) (all_flat CombFits (λ (c : RawCell). comb_by places c.name c.shape c.pins) (gathered x m.items).cells
    (all_then (RawSound x.library modules places) (λ (c : RawCell). All CombFits (comb_by places c.name c.shape c.pins)) (gathered x m.items).cells
    (λ c r. by_shape x.library modules places c.name c.shape c.pins r.known.name r.fits r.short r.nets r.known.shape) (raw_sound tables short modules x m places s nets)))
