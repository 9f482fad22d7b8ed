-- The parameters by which a RAM cell is written: the values of the options of its variant and of its ports, the widths, which
-- ports are used, their edges, and values. (Yosys, memory_libmap.)
use Rattle.std.specs.Prelude.{ℕ, Bool, true, List, [], ◌∷◌, ◌++◌, map, length, drop, Option, Some, None, codes, if◌then◌else◌}
use Rattle.std.specs.List.{find}
use Rattle.lib_core.specs.declared.library.Tri.{Tri}
use Rattle.lib_core.specs.declared.library.Choice.{Choice}
use Rattle.lib_core.specs.declared.library.Group.{Group}
use Rattle.lib_core.specs.declared.library.Value.{Value}
use Rattle.lib_core.specs.declared.library.Value.TheVariants as value
use Rattle.lib_core.specs.declared.library.Variant.{Variant}
use Rattle.lib_core.specs.Rams.{takes_value, width_at}
use Rattle.net_core.specs.declared.bits.Clock.{Clock}
use Rattle.net_core.specs.declared.bits.Clock.TheVariants.{Root, Never}
use Rattle.net_core.specs.declared.mems.Attr.{Attr}
use Rattle.net_core.specs.declared.rams.RamCell.{RamCell}
use Rattle.net_core.specs.declared.rams.SlotUse.{SlotUse}
use Rattle.cell_consts.specs.Consts.{bits_attr, flag_attr, number_attr, text_attr}
use Rattle.ram_rows.specs.RamNames.{option_name, slot_name, slot_option_name}
use Rattle.ram_rows.specs.RamPins.{by_either_edge}
use Rattle.ram_rows.specs.RamRows.{is_global}

-- a parameter where the cell has it
abbrev pub where_has : Bool → Attr → List Attr
where_has has a = if has then a ∷ [] else []

-- ---- options

abbrev pub value_attr : List ℕ → Value → Attr
value_attr name (value.Number n) = number_attr name n
value_attr name (value.Text t) = text_attr name t

unfoldable pub option_attr : Choice → Attr
option_attr c = value_attr (option_name c.name) c.value

unfoldable pub slot_option_attr : List ℕ → Choice → Attr
slot_option_attr slot c = value_attr (slot_option_name slot c.name) c.value

abbrev pub option_params : List Choice → List Attr
option_params options = map (λ c. option_attr c) options

abbrev pub slot_option_params : List ℕ → List Choice → List Attr
slot_option_params slot options = map (λ c. slot_option_attr slot c) options

-- ---- ports

-- a port that never sees an edge is written as one of rising edges
abbrev pub rises : Clock → Bool
rises (Root net rising) = rising
rises Never = true

unfoldable pub use_params : Variant → List ℕ → SlotUse → List Attr
use_params v name s =
    flag_attr (slot_name name (codes "USED")) s.used ∷ where_has v.per_port (number_attr (slot_name name (codes "WIDTH")) (width_at v.widths s.level))

unfoldable pub edge_params : Group → List ℕ → SlotUse → List Attr
edge_params g name s = where_has (by_either_edge g.edge) (flag_attr (slot_name name (codes "CLK_POL")) (rises s.clock))

-- a value of a port, where it has one
unfoldable pub value_params : Bool → List ℕ → List ℕ → List Tri → List Attr
value_params has name what value = where_has has (bits_attr (slot_name name what) value)

abbrev pub srst_params : Group → List ℕ → SlotUse → List Attr
srst_params g name s = value_params (takes_value g.srst) name (codes "RD_SRST_VALUE") s.srst_value

abbrev pub arst_params : Group → List ℕ → SlotUse → List Attr
arst_params g name s = value_params (takes_value g.arst) name (codes "RD_ARST_VALUE") s.arst_value

abbrev pub start_params : Group → List ℕ → SlotUse → List Attr
start_params g name s = value_params (takes_value g.start) name (codes "RD_INIT_VALUE") s.init_value

abbrev pub slot_values : Group → List ℕ → SlotUse → List Attr
slot_values g name s = (srst_params g name s ++ arst_params g name s) ++ start_params g name s

abbrev pub slot_params : Variant → Group → List ℕ → SlotUse → List Attr
slot_params v g name s = ((use_params v name s ++ edge_params g name s) ++ slot_values g name s) ++ slot_option_params name g.options

-- the ports of a group, and those of groups, in their order
abbrev pub names_params : Variant → Group → List (List ℕ) → List SlotUse → List Attr
names_params v g [] slots = []
names_params v g (n ∷ ns) [] = []
names_params v g (n ∷ ns) (s ∷ slots) = slot_params v g n s ++ names_params v g ns slots

abbrev pub groups_params : Variant → List Group → List SlotUse → List Attr
groups_params v [] slots = []
groups_params v (g ∷ gs) slots = names_params v g g.names slots ++ groups_params v gs (drop (length g.names) slots)

-- ---- the cell

-- the level of all ports that are used; 0 where none is
abbrev pub level_or_zero : Option SlotUse → ℕ
level_or_zero None = 0
level_or_zero (Some s) = s.level

abbrev pub used_level : List SlotUse → ℕ
used_level slots = level_or_zero (find (λ (s : SlotUse). s.used) slots)

unfoldable pub width_params : Variant → List SlotUse → List Attr
width_params v slots = where_has (is_global v) (number_attr (codes "\\WIDTH") (width_at v.widths (used_level slots)))

unfoldable pub init_params : Variant → RamCell → List Attr
init_params v c = where_has (takes_value v.fill) (bits_attr (codes "\\INIT") c.init)

-- the parameters of the cell itself, and then those of its ports
abbrev pub ram_params : Variant → RamCell → List Attr
ram_params v c = ((option_params v.options ++ width_params v c.slots) ++ init_params v c) ++ groups_params v v.groups c.slots
