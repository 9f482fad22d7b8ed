-- The kind of a cell by its type: the cells of the cell library first, then the RAMs of a library, then the modules of the
-- file.
use Rattle.std.specs.Prelude.{ℕ, ◌+◌, Bool, List, [], ◌∷◌, Option, Some, None, codes, if◌then◌else◌}
use Rattle.std.specs.List.{find, list_any}
use Rattle.std.specs.Map.{lookup}
use Rattle.std.specs.Str.{bytes_eq}
use Rattle.net_core.specs.declared.cells.CombKind.{CombKind}
use Rattle.net_core.specs.declared.cells.CombKind.TheVariants as comb
use Rattle.net_core.specs.declared.cells.FfKind.{FfKind}
use Rattle.net_core.specs.declared.cells.FfKind.TheVariants as ff
use Rattle.cell_table.specs.Names.{comb_type, ff_type, carried_types}
use Rattle.cell_rows.specs.declared.kinds.CellKind.{CellKind}
use Rattle.cell_rows.specs.declared.kinds.CellKind.TheVariants as cell
use Rattle.cell_rows.specs.declared.kinds.MemKind.{MemKind}
use Rattle.cell_rows.specs.declared.kinds.MemKind.TheVariants as mem

-- the types of the cells that are memories or their ports (Yosys manual, memories)
abbrev pub mem_type : MemKind → List ℕ
mem_type mem.Packed = codes "$mem_v2"
mem_type mem.Read = codes "$memrd_v2"
mem_type mem.OldRead = codes "$memrd"
mem_type mem.Write = codes "$memwr_v2"
mem_type mem.Init = codes "$meminit_v2"

abbrev pub comb_kinds : List CombKind
comb_kinds =
    comb.Not ∷ comb.And ∷ comb.Or ∷ comb.Xor ∷ comb.Xnor ∷ comb.ReduceAnd ∷ comb.ReduceOr ∷ comb.ReduceBool ∷ comb.ReduceXor ∷ comb.ReduceXnor
    ∷ comb.LogicNot ∷ comb.LogicAnd ∷ comb.LogicOr ∷ comb.Eq ∷ comb.Ne ∷ comb.Lt ∷ comb.Le ∷ comb.Gt ∷ comb.Ge ∷ comb.Add ∷ comb.Sub
    ∷ comb.Shl ∷ comb.Shr ∷ comb.Mux ∷ comb.Pmux ∷ []

abbrev pub ff_kinds : List FfKind
ff_kinds = ff.Dff ∷ ff.Dffe ∷ ff.Adff ∷ ff.Adffe ∷ ff.Sdff ∷ ff.Sdffe ∷ ff.Sdffce ∷ []

abbrev pub mem_kinds : List MemKind
mem_kinds = mem.Packed ∷ mem.Read ∷ mem.OldRead ∷ mem.Write ∷ mem.Init ∷ []

-- the kind that has this type
abbrev pub kind_named : {K : Type 0} → (K → List ℕ) → List K → List ℕ → Option K
kind_named type_of kinds name = find (λ k. bytes_eq (type_of k) name) kinds

unfoldable pub comb_named : List ℕ → Option CombKind
comb_named name = kind_named comb_type comb_kinds name

unfoldable pub ff_named : List ℕ → Option FfKind
ff_named name = kind_named ff_type ff_kinds name

unfoldable pub mem_named : List ℕ → Option MemKind
mem_named name = kind_named mem_type mem_kinds name

unfoldable pub is_carried : List ℕ → Bool
is_carried name = list_any (λ t. bytes_eq t name) carried_types

-- the place of a name among others, which are counted from a number; the first where it stands twice
abbrev pub place_from : ℕ → List (List ℕ) → List ℕ → Option ℕ
place_from at [] name = None
place_from at (n ∷ ns) name = if bytes_eq name n then Some at else place_from (at + 1) ns name

unfoldable pub place_of : List (List ℕ) → List ℕ → Option ℕ
place_of names name = place_from 0 names name

-- the place that is noted with a name
abbrev pub found : List (List ℕ × ℕ) → List ℕ → Option ℕ
found places name = lookup (bytes_eq name) places

abbrev pub first_of : Option ℕ → Option ℕ → Option ℕ
first_of None later = later
first_of (Some place) later = Some place

-- the place of one name
abbrev pub place_alone : List ℕ → ℕ → List ℕ → Option ℕ
place_alone name place q = if bytes_eq q name then Some place else None

abbrev pub module_kind : Option ℕ → CellKind
module_kind (Some place) = cell.Instance place
module_kind None = cell.Unknown

abbrev pub ram_kind : Option ℕ → CellKind → CellKind
ram_kind (Some place) other = cell.Ram place
ram_kind None other = other

abbrev pub memory_kind : Option MemKind → CellKind → CellKind
memory_kind (Some k) other = cell.Memory k
memory_kind None other = other

abbrev pub carried_kind : Bool → CellKind → CellKind
carried_kind carried other = if carried then cell.Carried else other

abbrev pub reg_kind : Option FfKind → CellKind → CellKind
reg_kind (Some k) other = cell.Reg k
reg_kind None other = other

abbrev pub logic_kind : Option CombKind → CellKind → CellKind
logic_kind (Some k) other = cell.Comb k
logic_kind None other = other

-- by the places of the type among the names of the RAMs and of the modules
abbrev pub kind_of : List ℕ → Option ℕ → Option ℕ → CellKind
kind_of name ram instance =
    logic_kind (comb_named name) (reg_kind (ff_named name) (carried_kind (is_carried name) (memory_kind (mem_named name) (ram_kind ram (module_kind instance)))))
