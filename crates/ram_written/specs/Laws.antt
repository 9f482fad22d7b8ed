-- What is read from the parameters that are written.
use Rattle.std.specs.Prelude.{◌≡◌, ℕ, ◌^◌, ◌<◌, Bool, true, false, List, [], ◌∷◌, ◌++◌, map, length, drop, Option, Some, None, if◌then◌else◌}
use Rattle.lib_core.specs.declared.library.EdgeKind.{EdgeKind}
use Rattle.lib_core.specs.declared.library.EdgeKind.TheVariants as edge
use Rattle.lib_core.specs.declared.library.Group.{Group}
use Rattle.lib_core.specs.declared.library.Variant.{Variant}
use Rattle.lib_core.specs.Rams.{width_at}
use Rattle.net_core.specs.declared.bits.Clock.{Clock}
use Rattle.net_core.specs.declared.mems.Attr.{Attr}
use Rattle.net_core.specs.declared.rams.RamCell.{RamCell}
use Rattle.net_core.specs.declared.rams.SlotUse.{SlotUse}
use Rattle.net_core.specs.Shape.{fits_variant}
use Rattle.net_core.specs.Valid.{AreApart, Each}
use Rattle.ram_rows.specs.RamPins.{knows_param}
use Rattle.ram_rows.specs.RamRows.{has_strange_level, is_global, row_at}
use Rattle.ram_rows.specs.declared.slots.Level.{Level}
use Rattle.ram_rows.specs.declared.slots.Level.TheVariants as level
use Rattle.ram_rows.specs.declared.slots.SlotRow.{SlotRow}
use Rattle.ram_rows.specs.declared.row.RamRow.{RamRow}
use Rattle.ram_written.specs.Params.{ram_params, rises, used_level}

-- ---- the row of a cell

abbrev pub edge_rises : Option EdgeKind → Clock → Bool
edge_rises None c = false
edge_rises (Some edge.Pos) c = true
edge_rises (Some edge.Neg) c = false
edge_rises (Some edge.Either) c = rises c

abbrev pub slot_row : Group → SlotUse → SlotRow
slot_row g s = record {
  used = s.used;
  level = s.level;
  rising = edge_rises g.edge s.clock;
  values = record { srst = s.srst_value; arst = s.arst_value; start = s.init_value };
}

abbrev pub names_rows : Group → List (List ℕ) → List SlotUse → List SlotRow
names_rows g [] slots = []
names_rows g (n ∷ ns) [] = []
names_rows g (n ∷ ns) (s ∷ slots) = slot_row g s ∷ names_rows g ns slots

abbrev pub groups_rows : List Group → List SlotUse → List SlotRow
groups_rows [] slots = []
groups_rows (g ∷ gs) slots = names_rows g g.names slots ++ groups_rows gs (drop (length g.names) slots)

abbrev pub written_level : Variant → List SlotUse → Level
written_level v slots = if v.per_port then level.Own else (if is_global v then level.Common (used_level slots) else level.Common 0)

abbrev pub written_row : Variant → RamCell → RamRow
written_row v c = record { level = written_level v c.slots; slots = groups_rows v.groups c.slots; init = c.init }

-- ---- what is asked of a library

-- The levels of a group are places of widths, and no two widths are equal: in a library each width is at least twice the one
-- before.
pub record HasWidths (v : Variant) : Type 0 where
  pub some : 0 < length v.widths
  pub small : (k : ℕ) → k < length v.widths → width_at v.widths k < 2 ^ 32
  pub apart : (j k : ℕ) → j < length v.widths → k < length v.widths → width_at v.widths j ≡ width_at v.widths k → j ≡ k
  pub levels : Each v.groups (λ g. Each g.levels (λ l. l < length v.widths))

-- No two parameters of the cell have one name. A library may have names of ports and of their options for which that is not so.
abbrev pub HasOwnNames : Variant → RamCell → Type 0
HasOwnNames v c = AreApart (map (λ (p : Attr). p.name) (ram_params v c))

-- ---- the laws

abbrev pub RowReadsBack : Type 0
RowReadsBack = (v : Variant) (c : RamCell) → HasWidths v → fits_variant c (Some v) ≡ true → HasOwnNames v c → row_at v (ram_params v c) ≡ Some (written_row v c)

abbrev pub NoStrangeLevel : Type 0
NoStrangeLevel = (v : Variant) (c : RamCell) → HasWidths v → fits_variant c (Some v) ≡ true → has_strange_level v (written_row v c) ≡ false

abbrev pub KnowsWritten : Type 0
KnowsWritten = (v : Variant) (c : RamCell) → Each (ram_params v c) (λ (p : Attr). knows_param v p.name ≡ true)
