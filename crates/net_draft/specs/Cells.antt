-- The cells of a module in one form, by types, parameters and pins, and as the cells of a document.
use Rattle.std.specs.Prelude.{◌≡◌, ℕ, List, [], ◌∷◌, ◌++◌, map, Option}
use Rattle.lib_core.specs.declared.library.Library.{Library}
use Rattle.net_core.specs.declared.cells.Carried.{Carried}
use Rattle.net_core.specs.declared.cells.Pin.{Pin}
use Rattle.net_core.specs.declared.mems.Mem.{Mem}
use Rattle.net_core.specs.declared.modules.MemPart.{MemPart}
use Rattle.net_core.specs.declared.modules.Module.{Module}
use Rattle.net_core.specs.declared.rams.RamCell.{RamCell}
use Rattle.net_core.specs.Valid.{Each, MemFits}
use Rattle.mem_pack.specs.Packed.{packed}
use Rattle.rtlil_text.specs.declared.doc.CellLine.{CellLine}
use Rattle.rtlil_text.specs.declared.doc.CellLine.TheVariants as line
use Rattle.rtlil_text.specs.declared.doc.DocCell.{DocCell}
use Rattle.rtlil_text.specs.declared.doc.Item.{Item}
use Rattle.rtlil_text.specs.declared.doc.Item.TheVariants as item
use Rattle.doc_params.specs.Docs.{doc_param}
use Rattle.net_draft.specs.declared.signals.Sheet.{Sheet}
use Rattle.net_draft.specs.Naming.{IsFresh, with_name}
use Rattle.net_draft.specs.Rams.{IsRamCell, inverses_of}
use Rattle.net_draft.specs.Rows.{comb_cell, reg_cell}
use Rattle.net_draft.specs.Signals.{signal}
use Rattle.net_draft.specs.Wires.{doc_attrs}

-- ---- memories

-- the cell under another name
abbrev pub named_part : List ℕ → MemPart → Carried
named_part name p = record { name = name; kind = p.kind; attrs = p.attrs; params = p.params; pins = p.pins }

unfoldable pub mem_cell : List ℕ → Mem → Carried
mem_cell name m = named_part name (packed m)

-- each of these memories fits
unfoldable pub AllFit : List Mem → Type 0
AllFit ms = Each ms MemFits

-- the cell of a memory, under a new name
pub record IsMemCell (taken : List (List ℕ)) (m : Mem) (c : Carried) : Type 0 where
  pub fresh : IsFresh taken m.name c.name
  pub cell : c ≡ mem_cell c.name m

-- behind the cells before come those of memories, one by one, each under a name that is taken then
unfoldable pub AddsMemCells : List (List ℕ) → List Mem → List Carried → List Carried → List (List ℕ) → Type 0
AddsMemCells taken [] before after taken_then = (after ≡ before) × (taken_then ≡ taken)
AddsMemCells taken (m ∷ ms) before after taken_then =
    (c : Carried) × (IsMemCell taken m c × AddsMemCells (with_name taken c.name) ms (before ++ c ∷ []) after taken_then)

-- behind the cells before come those of RAMs, one by one
unfoldable pub AddsRamCells : Library → List (Option ℕ) → List RamCell → List Carried → List Carried → Type 0
AddsRamCells lib table [] before after = after ≡ before
AddsRamCells lib table (r ∷ rs) before after = (c : Carried) × (IsRamCell lib table r c × AddsRamCells lib table rs (before ++ c ∷ []) after)

-- ---- all of them

abbrev pub plain_cells : Module → List Carried
plain_cells m = map (λ c. comb_cell c) m.combs ++ map (λ r. reg_cell r) m.regs

-- logic cells, registers, memories and RAM cells
pub record AreCells (lib : Library) (taken : List (List ℕ)) (m : Module) (cells : List Carried) (taken_then : List (List ℕ)) : Type 0 where
  pub so_far : List Carried
  pub mems : AddsMemCells taken m.mems (plain_cells m) so_far taken_then
  pub rams : AddsRamCells lib (inverses_of m.nets m.combs) m.rams so_far cells

-- ---- as cells of a document

abbrev pub pin_line : Sheet → Pin → CellLine
pin_line sheet p = line.Pin p.name (signal sheet p.bits)

-- parameters stand before pins
unfoldable pub cell_lines : Sheet → Carried → List CellLine
cell_lines sheet c = map (λ a. line.Param (doc_param a)) c.params ++ map (λ p. pin_line sheet p) c.pins

unfoldable pub doc_cell : Sheet → Carried → DocCell
doc_cell sheet c = record { attrs = doc_attrs c.attrs; kind = c.kind; name = c.name; lines = cell_lines sheet c }

abbrev pub cell_items : Sheet → List Carried → List Item
cell_items sheet cs = map (λ c. item.Cell (doc_cell sheet c)) cs
