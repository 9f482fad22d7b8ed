-- What the parameters of a RAM cell say, once its variant is known. A parameter that is missing makes the whole missing.
use Rattle.std.specs.Prelude.{ℕ, Bool, true, false, not, ◌&&◌, ◌||◌, List, [], ◌∷◌, ◌++◌, length, Option, Some, None, nat_eq, nat_lt, nat_le, min, option_and_then, codes, if◌then◌else◌}
use Rattle.std.specs.List.{list_any, position}
use Rattle.lib_core.specs.declared.library.Tri.{Tri}
use Rattle.lib_core.specs.declared.library.EdgeKind.{EdgeKind}
use Rattle.lib_core.specs.declared.library.EdgeKind.TheVariants as edge
use Rattle.lib_core.specs.declared.library.Group.{Group}
use Rattle.lib_core.specs.declared.library.Variant.{Variant}
use Rattle.lib_core.specs.Rams.{takes_value}
use Rattle.net_core.specs.declared.mems.Attr.{Attr}
use Rattle.cell_consts.specs.Params.{number_at, polarity_at, flag_at, bits_at}
use Rattle.ram_rows.specs.declared.slots.Level.{Level}
use Rattle.ram_rows.specs.declared.slots.Level.TheVariants as level
use Rattle.ram_rows.specs.declared.slots.Values.{Values}
use Rattle.ram_rows.specs.declared.slots.SlotRow.{SlotRow}
use Rattle.ram_rows.specs.declared.row.RamRow.{RamRow}
use Rattle.ram_rows.specs.RamNames.{slot_name}

-- ---- levels

-- the place of a width among those of the variant, and their number where it is none of them
abbrev pub place_or : ℕ → Option ℕ → ℕ
place_or count None = count
place_or count (Some place) = place

abbrev pub width_place : Variant → ℕ → ℕ
width_place v width = place_or (length v.widths) (position (nat_eq width) v.widths)

-- the ports have one width together, of several
abbrev pub is_global : Variant → Bool
is_global v = not v.per_port && nat_lt 1 (length v.widths)

-- What tells the widths of the ports: their own parameters, the cell's, or nothing where there is one width.
unfoldable pub level_at : Variant → List Attr → Option Level
level_at v params =
    if v.per_port then Some level.Own
    else (if is_global v then option_and_then (λ w. Some (level.Common (width_place v w))) (number_at params (codes "\\WIDTH"))
    else Some (level.Common 0))

-- the least of levels
abbrev pub least_from : ℕ → List ℕ → ℕ
least_from l [] = l
least_from l (m ∷ ms) = least_from (min l m) ms

abbrev pub least : List ℕ → ℕ
least [] = 0
least (l ∷ ls) = least_from l ls

abbrev pub own_level : Variant → List Attr → List ℕ → Option ℕ
own_level v params name = option_and_then (λ w. Some (width_place v w)) (number_at params (slot_name name (codes "WIDTH")))

-- the level of a port; one that is not used has the least of its group, unless its own parameter tells another
unfoldable pub slot_level : Variant → Group → Level → List Attr → List ℕ → Bool → Option ℕ
slot_level v g level.Own params name used = own_level v params name
slot_level v g (level.Common place) params name true = Some place
slot_level v g (level.Common place) params name false = Some (least g.levels)

-- ---- ports

-- whether the port works at rising edges; where it works at either kind, a parameter tells
abbrev pub rising_at : Option EdgeKind → List Attr → List ℕ → Option Bool
rising_at None params name = Some false
rising_at (Some edge.Pos) params name = Some true
rising_at (Some edge.Neg) params name = Some false
rising_at (Some edge.Either) params name = polarity_at params (slot_name name (codes "CLK_POL"))

-- a value where the group takes one, and else nothing
unfoldable pub value_if : Bool → List Attr → List ℕ → Option (List Tri)
value_if true params name = bits_at params name
value_if false params name = Some []

abbrev pub slot_value : Bool → List Attr → List ℕ → List ℕ → Option (List Tri)
slot_value takes params slot what = value_if takes params (slot_name slot what)

unfoldable pub values_at : Group → List Attr → List ℕ → Option Values
values_at g params name =
    option_and_then (λ s. option_and_then (λ a. option_and_then (λ i. Some (record { srst = s; arst = a; start = i }))
    (slot_value (takes_value g.start) params name (codes "RD_INIT_VALUE"))) (slot_value (takes_value g.arst) params name (codes "RD_ARST_VALUE")))
    (slot_value (takes_value g.srst) params name (codes "RD_SRST_VALUE"))

unfoldable pub slot_at : Variant → Group → Level → List Attr → List ℕ → Option SlotRow
slot_at v g l params name =
    option_and_then (λ u. option_and_then (λ k. option_and_then (λ r. option_and_then (λ x. Some (record { used = u; level = k; rising = r; values = x }))
    (values_at g params name)) (rising_at g.edge params name)) (slot_level v g l params name u)) (flag_at params (slot_name name (codes "USED")))

-- the ports of a group, and those of groups, in their order
unfoldable pub names_at : Variant → Group → Level → List Attr → List (List ℕ) → Option (List SlotRow)
names_at v g l params [] = Some []
names_at v g l params (n ∷ ns) = option_and_then (λ s. option_and_then (λ ss. Some (s ∷ ss)) (names_at v g l params ns)) (slot_at v g l params n)

unfoldable pub groups_at : Variant → Level → List Attr → List Group → Option (List SlotRow)
groups_at v l params [] = Some []
groups_at v l params (g ∷ gs) = option_and_then (λ ss. option_and_then (λ ts. Some (ss ++ ts)) (groups_at v l params gs)) (names_at v g l params g.names)

-- ---- the cell

unfoldable pub row_at : Variant → List Attr → Option RamRow
row_at v params =
    option_and_then (λ l. option_and_then (λ ss. option_and_then (λ i. Some (record { level = l; slots = ss; init = i }))
    (value_if (takes_value v.fill) params (codes "\\INIT"))) (groups_at v l params v.groups)) (level_at v params)

-- a width that is none of so many
abbrev pub is_strange : ℕ → Level → Bool
is_strange levels level.Own = false
is_strange levels (level.Common place) = nat_le levels place

abbrev pub any_strange : ℕ → List SlotRow → Bool
any_strange levels slots = list_any (λ (s : SlotRow). nat_le levels s.level) slots

-- a width is none of the variant's
abbrev pub has_strange_level : Variant → RamRow → Bool
has_strange_level v row = is_strange (length v.widths) row.level || any_strange (length v.widths) row.slots

-- rows behind others, if they are there
abbrev pub behind : List SlotRow → Option (List SlotRow) → Option (List SlotRow)
behind old None = None
behind old (Some rows) = Some (old ++ rows)

abbrev pub if_there : Bool → List SlotRow → Option (List SlotRow)
if_there there rows = if there then Some rows else None
