-- What an edit makes of a module: cells and nets behind the others, memories in the place of one, fewer cells, and readers of a
-- net that read another bit.
use Rattle.std.specs.Prelude.{◌≡◌, ℕ, ◌+◌, ◌-◌, ◌<◌, ◌≤◌, List, [], ◌∷◌, ◌++◌, map, length, take, drop, Some, slice_get, Result, Ok, Err}
use Rattle.std.specs.List.{range_with_len, remove}
use Rattle.net_core.specs.declared.bits.Bit.{Bit}
use Rattle.net_core.specs.declared.bits.Bit.TheVariants.{Net}
use Rattle.net_core.specs.declared.cells.Comb.{Comb}
use Rattle.net_core.specs.declared.cells.Reg.{Reg}
use Rattle.net_core.specs.declared.mems.Mem.{Mem}
use Rattle.net_core.specs.declared.modules.Module.{Module}
use Rattle.net_core.specs.Valid.{IsName, cell_names}
use Rattle.net_edit.specs.declared.fault.EditFault.{EditFault}
use Rattle.net_edit.specs.declared.fault.EditFault.TheVariants.{Full, Memory}

-- A module under edit: the netlist, and the bit that the readers of each net read once the edit is finished.
pub record Editing : Type 0 where
  pub netlist : Module
  pub reads : List Bit

-- so many nets from one on, as numbers and as bits
abbrev pub nets_from : ℕ → ℕ → List ℕ
nets_from first count = range_with_len first count

abbrev pub as_bits : List ℕ → List Bit
as_bits nets = map (λ n. Net n) nets

abbrev pub bits_from : ℕ → ℕ → List Bit
bits_from first count = as_bits (nets_from first count)

-- the module with more nets, or with a cell behind the others
abbrev pub with_nets : Module → ℕ → Module
with_nets m count = record m { nets = m.nets + count }

abbrev pub with_comb : Module → Comb → Module
with_comb m c = record m { combs = m.combs ++ c ∷ [] }

abbrev pub with_reg : Module → Reg → Module
with_reg m r = record m { regs = m.regs ++ r ∷ [] }

-- the module without a cell; the others keep their order
abbrev pub without_comb : Module → ℕ → Module
without_comb m i = record m { combs = remove m.combs i }

abbrev pub without_reg : Module → ℕ → Module
without_reg m i = record m { regs = remove m.regs i }

-- a list in the place of an item
abbrev pub spliced : {X : Type 0} → List X → ℕ → List X → List X
spliced xs i more = take i xs ++ (more ++ drop (i + 1) xs)

-- the items from a place on, of which the last ones come first
abbrev pub tail_rotated : {X : Type 0} → List X → ℕ → ℕ → List X
tail_rotated xs i count = take i xs ++ (drop (length xs - i - count) (drop i xs) ++ take (length xs - i - count) (drop i xs))

-- the module with memories in the place of one
abbrev pub with_mems : Module → ℕ → List Mem → Module
with_mems m i mems = record m { mems = spliced m.mems i mems }

-- the edit with another netlist
abbrev pub on_netlist : Editing → Module → Editing
on_netlist e m = record e { netlist = m }

-- an identifier that no cell of the module has
pub record IsFresh (m : Module) (name : List ℕ) : Type 0 where
  pub named : IsName name
  pub apart : (k : ℕ) → slice_get (cell_names m) k ≡ Some name → ⊥

-- The cell stands behind the others, under a fresh name, and nothing else changes.
pub record AddsComb (old new : Editing) (c : Comb) : Type 0 where
  pub name : List ℕ
  pub fresh : IsFresh old.netlist name
  pub added : new ≡ record { netlist = with_comb old.netlist (record c { name = name }); reads = old.reads }

pub record AddsReg (old new : Editing) (r : Reg) : Type 0 where
  pub name : List ℕ
  pub fresh : IsFresh old.netlist name
  pub added : new ≡ record { netlist = with_reg old.netlist (record r { name = name }); reads = old.reads }

-- the edit with more nets, which are read as they are
abbrev pub with_fresh : Editing → ℕ → Editing
with_fresh e count = record { netlist = with_nets e.netlist count; reads = e.reads ++ bits_from e.netlist.nets count }

-- The answer where so many nets would be in all: the limit alone decides whether there is room.
abbrev pub FitsNets : ℕ → Result (List ℕ) EditFault → Type 0
FitsNets nets (Ok list) = nets ≤ 67108864
FitsNets nets (Err (Full seen)) = (67108864 < nets) × (seen ≡ nets)
FitsNets nets (Err Memory) = nets ≤ 67108864

-- Why there is no room for so many nets in all: they are more than a module may have. Want of memory is free.
abbrev pub IsOver : ℕ → EditFault → Type 0
IsOver nets (Full seen) = (67108864 < nets) × (seen ≡ nets)
IsOver nets Memory = Unit {0}

-- the same, where nets were added one after the other, and were to be so many at most
abbrev pub IsOverBy : ℕ → EditFault → Type 0
IsOverBy most (Full seen) = (67108864 < seen) × (seen ≤ most)
IsOverBy most Memory = Unit {0}
