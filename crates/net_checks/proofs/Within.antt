-- Bits that are among the places of a module.
use Rattle.std.proofs.Common.{◌≡◌, ℕ, zero, suc, ◌+◌, ◌≤◌, Bool, true, false, cond, List, [], ◌∷◌, ◌++◌, refl, arith}
use Rattle.std.specs.List.{flat_map}
use Rattle.rtlil_text.specs.declared.doc.Item.{Item}
use Rattle.rtlil_text.specs.declared.doc.Item.TheVariants as item
use Rattle.rtlil_text.specs.Grammar.{All}
use Rattle.net_wires.specs.declared.source.Source.{Source}
use Rattle.net_wires.specs.declared.source.Source.TheVariants as source
use Rattle.net_wires.specs.Links.{SourcesWithin}
use Rattle.net_wires.specs.Signals.{run_bits}
use Rattle.net_wires.specs.Spans.{wire_bits}
use Rattle.raw_cells.specs.declared.raw.CellShape.{CellShape}
use Rattle.raw_cells.specs.declared.raw.CellShape.TheVariants as shape
use Rattle.raw_cells.specs.declared.raw.RawCell.{RawCell}
use Rattle.raw_cells.specs.declared.raw.RawPin.{RawPin}
use Rattle.net_gather.specs.Laws.{CellsWithin}
use Rattle.net_checks.specs.declared.inouts.Inouts.{Inouts}
use Rattle.net_checks.specs.declared.marking.Port.{Port}
use Rattle.net_checks.specs.declared.marking.Port.TheVariants as port
use Rattle.net_checks.specs.Inouts.{cell_inouts, has_inout, inout_bits, pin_inouts}
use Rattle.net_checks.specs.Marks.{is_port, port_bits}

pub both : (n : ℕ) (xs ys : List Source) → SourcesWithin n xs → SourcesWithin n ys → SourcesWithin n (xs ++ ys)
both n [] ys a b = b
both n (x ∷ xs) ys a b = (a.0, both n xs ys a.1 b)

run_within : (n base width : ℕ) → base + width ≤ n → SourcesWithin n (run_bits base width)
run_within n base zero h = tt
run_within n base (suc k) h = both n (run_bits base k) (source.At (base + k) ∷ []) (run_within n base k (omega (arith, h))) (omega (arith, h), tt)

wire_within : (n base width : ℕ) (on : Bool) → base + width ≤ n → SourcesWithin n (cond on (run_bits base width) [])
wire_within n base width true h = run_within n base width h
wire_within n base width false h = tt

pub port_within : (n from : ℕ) (k : Port) (items : List Item) → from + wire_bits items ≤ n → SourcesWithin n (port_bits k from items)
port_within n from k [] h = tt
port_within n from k (item.Param p ∷ is) h = port_within n from k is h
port_within n from k (item.Wire w ∷ is) h =
    both n (cond (is_port k w) (run_bits from w.width) []) (port_bits k (from + w.width) is) (wire_within n from w.width (is_port k w) (omega (arith, h))) (port_within n (from + w.width) k is (omega (arith, h)))
port_within n from k (item.Mem m ∷ is) h = port_within n from k is h
port_within n from k (item.Cell c ∷ is) h = port_within n from k is h
port_within n from k (item.Connect l r ∷ is) h = port_within n from k is h

abbrev pub PinsIn : ℕ → List RawPin → Type 0
PinsIn n ps = All (λ (p : RawPin). SourcesWithin n p.bits) ps

pin_within : (n : ℕ) (on : Bool) (ss : List Source) → SourcesWithin n ss → SourcesWithin n (cond on ss [])
pin_within n true ss h = h
pin_within n false ss h = tt

pins_within : (n : ℕ) (x : Inouts) (kind : List ℕ) (ps : List RawPin) → PinsIn n ps → SourcesWithin n (flat_map (pin_inouts x kind) ps)
pins_within n x kind [] h = tt
pins_within n x kind (p ∷ ps) h = both n (pin_inouts x kind p) (flat_map (pin_inouts x kind) ps) (pin_within n (has_inout x kind p.name) p.bits h.0) (pins_within n x kind ps h.1)

shape_within : (n : ℕ) (x : Inouts) (s : CellShape) (c : RawCell) → c.shape ≡ s → PinsIn n c.pins → SourcesWithin n (cell_inouts x c)
shape_within n x (shape.Comb r) c e h = rw e tt
shape_within n x (shape.Reg r) c e h = rw e tt
shape_within n x (shape.Carried k) c e h = rw e (pins_within n x k.kind c.pins h)
shape_within n x (shape.Memory k r) c e h = rw e tt
shape_within n x (shape.Ram u) c e h = rw e tt

cells_within : (n : ℕ) (x : Inouts) (cs : List RawCell) → CellsWithin n cs → SourcesWithin n (flat_map (cell_inouts x) cs)
cells_within n x [] h = tt
cells_within n x (c ∷ cs) h = both n (cell_inouts x c) (flat_map (cell_inouts x) cs) (shape_within n x c.shape c refl h.0) (cells_within n x cs h.1)

pub inouts_within : (n : ℕ) (x : Inouts) (items : List Item) (cs : List RawCell) → wire_bits items ≤ n → CellsWithin n cs → SourcesWithin n (inout_bits x items cs)
inouts_within n x items cs h w = both n (port_bits port.Inout 0 items) (flat_map (cell_inouts x) cs) (port_within n 0 port.Inout items (omega (arith, h))) (cells_within n x cs w)
