-- Which variant of a RAM the options of a cell choose: the one whose options, those of its ports too, have the values that
-- the cell's parameters have.
use Rattle.std.specs.Prelude.{ℕ, Bool, false, not, ◌&&◌, List, Option, Some, None, nat_eq, if◌then◌else◌}
use Rattle.std.specs.List.{list_all, list_any, position}
use Rattle.std.specs.Option.{is_some}
use Rattle.std.specs.Str.{bytes_eq}
use Rattle.lib_core.specs.declared.library.Choice.{Choice}
use Rattle.lib_core.specs.declared.library.Group.{Group}
use Rattle.lib_core.specs.declared.library.Value.{Value}
use Rattle.lib_core.specs.declared.library.Value.TheVariants as value
use Rattle.lib_core.specs.declared.library.Variant.{Variant}
use Rattle.net_core.specs.declared.mems.Attr.{Attr}
use Rattle.cell_consts.specs.Consts.{attr_number}
use Rattle.cell_consts.specs.Params.{named}
use Rattle.ram_rows.specs.declared.options.Chosen.{Chosen}
use Rattle.ram_rows.specs.declared.options.Chosen.TheVariants as chosen
use Rattle.ram_rows.specs.RamNames.{option_name, slot_option_name}

abbrev pub is_number : Option ℕ → ℕ → Bool
is_number None n = false
is_number (Some m) n = nat_eq m n

-- a parameter has the value: the number, or the string
abbrev pub has_value : Attr → Value → Bool
has_value a (value.Number n) = is_number (attr_number a) n
has_value a (value.Text t) = a.is_text && bytes_eq a.value t

abbrev pub says_value : Option Attr → Value → Bool
says_value None v = false
says_value (Some a) v = has_value a v

-- ---- the options of the RAM

abbrev pub option_lacks : List Attr → Choice → Bool
option_lacks params c = not (is_some (named params (option_name c.name)))

abbrev pub option_said : List Attr → Choice → Bool
option_said params c = says_value (named params (option_name c.name)) c.value

abbrev pub options_lack : List Attr → Variant → Bool
options_lack params v = list_any (option_lacks params) v.options

abbrev pub options_said : List Attr → Variant → Bool
options_said params v = list_all (option_said params) v.options

-- ---- the options of its ports

abbrev pub slot_option_lacks : List Attr → List ℕ → Choice → Bool
slot_option_lacks params slot c = not (is_some (named params (slot_option_name slot c.name)))

abbrev pub slot_option_said : List Attr → List ℕ → Choice → Bool
slot_option_said params slot c = says_value (named params (slot_option_name slot c.name)) c.value

abbrev pub slot_lacks : List Attr → List Choice → List ℕ → Bool
slot_lacks params options slot = list_any (slot_option_lacks params slot) options

abbrev pub slot_said : List Attr → List Choice → List ℕ → Bool
slot_said params options slot = list_all (slot_option_said params slot) options

abbrev pub group_lacks : List Attr → Group → Bool
group_lacks params g = list_any (slot_lacks params g.options) g.names

abbrev pub group_said : List Attr → Group → Bool
group_said params g = list_all (slot_said params g.options) g.names

abbrev pub ports_lack : List Attr → Variant → Bool
ports_lack params v = options_said params v && list_any (group_lacks params) v.groups

abbrev pub variant_said : List Attr → Variant → Bool
variant_said params v = options_said params v && list_all (group_said params) v.groups

-- ---- the choice

abbrev pub at_place : Option ℕ → Chosen
at_place None = chosen.Nothing
at_place (Some place) = chosen.Variant place

-- An option of the RAM has to be there, and an option of a port of each variant that the RAM's options leave.
unfoldable pub chosen_by : List Attr → List Variant → Chosen
chosen_by params variants =
    if list_any (options_lack params) variants then chosen.Missing
    else (if list_any (ports_lack params) variants then chosen.Missing
    else at_place (position (variant_said params) variants))
