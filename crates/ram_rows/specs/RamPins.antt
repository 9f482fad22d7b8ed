-- The pins of the ports of RAM cells, and which names a cell knows. (Yosys, memory_libmap.)
use Rattle.std.specs.Prelude.{ℕ, Bool, true, false, ◌&&◌, ◌||◌, List, [], ◌∷◌, ◌++◌, Option, Some, None, codes, if◌then◌else◌}
use Rattle.std.specs.List.{list_any}
use Rattle.std.specs.Option.{is_some}
use Rattle.std.specs.Str.{bytes_eq}
use Rattle.lib_core.specs.declared.library.Choice.{Choice}
use Rattle.lib_core.specs.declared.library.EdgeKind.{EdgeKind}
use Rattle.lib_core.specs.declared.library.EdgeKind.TheVariants as edge
use Rattle.lib_core.specs.declared.library.Group.{Group}
use Rattle.lib_core.specs.declared.library.Variant.{Variant}
use Rattle.lib_core.specs.Rams.{width_at, kind_reads, kind_writes, kind_clocked, lanes, has_fill, takes_value}
use Rattle.cell_rows.specs.declared.pin.PinRow.{PinRow}
use Rattle.ram_rows.specs.declared.pins.SlotPin.{SlotPin}
use Rattle.ram_rows.specs.declared.pins.SlotPin.TheVariants as pin
use Rattle.ram_rows.specs.RamNames.{option_name, slot_name, slot_option_name}
use Rattle.ram_rows.specs.RamRows.{is_global}

-- what stands behind the name of the port
abbrev pub suffix : SlotPin → List ℕ
suffix pin.Clk = codes "CLK"
suffix pin.ClkEn = codes "CLK_EN"
suffix pin.Addr = codes "ADDR"
suffix pin.RdData = codes "RD_DATA"
suffix pin.RdEn = codes "RD_EN"
suffix pin.RdSrst = codes "RD_SRST"
suffix pin.RdArst = codes "RD_ARST"
suffix pin.WrData = codes "WR_DATA"
suffix pin.WrEn = codes "WR_EN"
suffix pin.WrBe = codes "WR_BE"

abbrev pub where_there : Bool → ℕ → Option ℕ
where_there there width = if there then Some width else None

-- the width of a pin that the group has
abbrev pub pin_width : Variant → Group → ℕ → SlotPin → Option ℕ
pin_width v g level pin.Clk = where_there (kind_clocked g.kind) 1
pin_width v g level pin.ClkEn = where_there g.clken 1
pin_width v g level pin.Addr = Some v.abits
pin_width v g level pin.RdData = where_there (kind_reads g.kind) (width_at v.widths level)
pin_width v g level pin.RdEn = where_there g.rden 1
pin_width v g level pin.RdSrst = where_there (has_fill g.srst) 1
pin_width v g level pin.RdArst = where_there (has_fill g.arst) 1
pin_width v g level pin.WrData = where_there (kind_writes g.kind) (width_at v.widths level)
pin_width v g level pin.WrEn = where_there (kind_writes g.kind) (if g.separate then 1 else lanes v.byte (width_at v.widths level))
pin_width v g level pin.WrBe = where_there (kind_writes g.kind && g.separate) (lanes v.byte (width_at v.widths level))

abbrev pub is_output : SlotPin → Bool
is_output pin.RdData = true
is_output p = false

abbrev pub is_clock : SlotPin → Bool
is_clock pin.Clk = true
is_clock p = false

abbrev pub pin_row : List ℕ → SlotPin → Option ℕ → List PinRow
pin_row name p None = []
pin_row name p (Some width) = record { name = slot_name name (suffix p); width = width; drives = is_output p; clock = is_clock p } ∷ []

abbrev pub pin_at : Variant → Group → ℕ → List ℕ → SlotPin → List PinRow
pin_at v g level name p = pin_row name p (pin_width v g level p)

-- the pins of a port in their order
unfoldable pub slot_pins : Variant → Group → ℕ → List ℕ → List PinRow
slot_pins v g level name =
    pin_at v g level name pin.Clk ++ pin_at v g level name pin.ClkEn ++ pin_at v g level name pin.Addr ++ pin_at v g level name pin.RdData ++ pin_at v g level name pin.RdEn
    ++ pin_at v g level name pin.RdSrst ++ pin_at v g level name pin.RdArst ++ pin_at v g level name pin.WrData ++ pin_at v g level name pin.WrEn ++ pin_at v g level name pin.WrBe

-- ---- the names that a cell knows

abbrev pub pins_in_order : List SlotPin
pins_in_order = pin.Clk ∷ pin.ClkEn ∷ pin.Addr ∷ pin.RdData ∷ pin.RdEn ∷ pin.RdSrst ∷ pin.RdArst ∷ pin.WrData ∷ pin.WrEn ∷ pin.WrBe ∷ []

abbrev pub slot_knows_pin : Variant → Group → List ℕ → List ℕ → Bool
slot_knows_pin v g name slot = list_any (λ p. is_some (pin_width v g 0 p) && bytes_eq name (slot_name slot (suffix p))) pins_in_order

abbrev pub group_knows_pin : Variant → List ℕ → Group → Bool
group_knows_pin v name g = list_any (slot_knows_pin v g name) g.names

-- a pin of a port of the variant
unfoldable pub knows_pin : Variant → List ℕ → Bool
knows_pin v name = list_any (group_knows_pin v name) v.groups

abbrev pub by_either_edge : Option EdgeKind → Bool
by_either_edge None = false
by_either_edge (Some edge.Pos) = false
by_either_edge (Some edge.Neg) = false
by_either_edge (Some edge.Either) = true

abbrev pub slot_knows_control : Variant → Group → List ℕ → List ℕ → Bool
slot_knows_control v g name slot =
    bytes_eq name (slot_name slot (codes "USED"))
    || (v.per_port && bytes_eq name (slot_name slot (codes "WIDTH")))
    || (by_either_edge g.edge && bytes_eq name (slot_name slot (codes "CLK_POL")))

-- a port has something, and this is its name
unfoldable pub is_name_if : Bool → List ℕ → List ℕ → List ℕ → Bool
is_name_if has name slot what = has && bytes_eq name (slot_name slot what)

abbrev pub slot_knows_value : Group → List ℕ → List ℕ → Bool
slot_knows_value g name slot =
    is_name_if (takes_value g.srst) name slot (codes "RD_SRST_VALUE")
    || is_name_if (takes_value g.arst) name slot (codes "RD_ARST_VALUE")
    || is_name_if (takes_value g.start) name slot (codes "RD_INIT_VALUE")

abbrev pub slot_knows_param : Variant → Group → List ℕ → List ℕ → Bool
slot_knows_param v g name slot =
    slot_knows_control v g name slot || slot_knows_value g name slot || list_any (λ (c : Choice). bytes_eq name (slot_option_name slot c.name)) g.options

abbrev pub group_knows_param : Variant → List ℕ → Group → Bool
group_knows_param v name g = list_any (slot_knows_param v g name) g.names

-- a parameter of the variant or of one of its ports
unfoldable pub knows_param : Variant → List ℕ → Bool
knows_param v name =
    (is_global v && bytes_eq name (codes "\\WIDTH"))
    || (takes_value v.fill && bytes_eq name (codes "\\INIT"))
    || list_any (λ (c : Choice). bytes_eq name (option_name c.name)) v.options
    || list_any (group_knows_param v name) v.groups
