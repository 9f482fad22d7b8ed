-- Each open bit of a pin has a place.
use Rattle.std.proofs.Common.{ℕ, ◌+◌, List, [], ◌∷◌, ◌++◌}
use Rattle.rtlil_text.specs.declared.doc.DocCell.{DocCell}
use Rattle.rtlil_text.specs.declared.doc.Item.{Item}
use Rattle.rtlil_text.specs.declared.doc.Item.TheVariants as item
use Rattle.rtlil_text.specs.Grammar.{All}
use Rattle.net_core.specs.declared.mems.Attr.{Attr}
use Rattle.doc_params.specs.Docs.{params_of}
use Rattle.net_wires.specs.declared.source.Source.{Source}
use Rattle.net_wires.specs.declared.source.Source.TheVariants as source
use Rattle.net_wires.specs.Settled.{settled}
use Rattle.net_gather.specs.declared.counts.Counts.{Counts}
use Rattle.net_gather.specs.declared.open_pin.OpenPin.{OpenPin}
use Rattle.raw_cells.specs.declared.raw.RawCell.{RawCell}
use Rattle.raw_cells.specs.declared.row.Found.{Found}
use Rattle.raw_cells.specs.declared.row.Found.TheVariants as found_as
use Rattle.net_gather.specs.Cells.{Context, found_gain, kind_in, row_gain}
use Rattle.net_gather.specs.Gather.{counted, gained, item_gain, raw_cells}
use Rattle.net_gather.specs.Laws.{AreSettled, CellsSettled, PinsSettled}
use Rattle.net_gather.specs.OpenPins.{bits_of, bits_open, raw_pins}
use Rattle.raw_cells.specs.Rows.{found_row}

bits_settled : (n : ℕ) (ss : List Source) → AreSettled (settled n ss)
bits_settled n [] = tt
bits_settled n (source.Loose ∷ ss) = bits_settled (n + 1) ss
bits_settled n (source.Zero ∷ ss) = bits_settled n ss
bits_settled n (source.One ∷ ss) = bits_settled n ss
bits_settled n (source.At p ∷ ss) = bits_settled n ss

pins_settled : (n : ℕ) (ps : List OpenPin) → PinsSettled (raw_pins n ps)
pins_settled n [] = tt
pins_settled n (p ∷ ps) = (bits_settled n (bits_of p.bits), pins_settled (n + bits_open p.bits) ps)

found_settled : (x : Context) (st : Counts) (c : DocCell) (params : List Attr) (f : Found) → CellsSettled (gained (found_gain x st c params f))
unfolding row_gain
found_settled x st c params found_as.Unknown = tt
found_settled x st c params found_as.Missing = tt
found_settled x st c params (found_as.Row r) = (pins_settled st.places _, tt)

item_settled : (x : Context) (st : Counts) (i : Item) → CellsSettled (gained (item_gain x st i))
item_settled x st (item.Wire w) = tt
item_settled x st (item.Param p) = tt
item_settled x st (item.Mem m) = tt
item_settled x st (item.Cell c) = found_settled x st c (params_of c.lines) (found_row x.library (kind_in x c.kind) (params_of c.lines))
item_settled x st (item.Connect l r) = tt

both : {X : Type 0} (P : X → Type 0) (xs ys : List X) → All P xs → All P ys → All P (xs ++ ys)
both P [] ys a b = b
both P (x ∷ xs) ys a b = (a.0, both P xs ys a.1 b)

pub cells_settled : (x : Context) (st : Counts) (is : List Item) → CellsSettled (raw_cells x st is)
cells_settled x st [] = tt
cells_settled x st (i ∷ is) =
    both (λ (c : RawCell). PinsSettled c.pins) (gained (item_gain x st i)) (raw_cells x (counted st (item_gain x st i)) is) (item_settled x st i) (cells_settled x (counted st (item_gain x st i)) is)
