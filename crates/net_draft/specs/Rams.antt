-- RAM cells by their types, parameters and pins: what a reader of cells makes them of.
use Rattle.std.specs.Prelude.{◌≡◌, ℕ, Bool, true, false, List, [], ◌∷◌, ◌++◌, length, drop, replicate, get_or, slice_get, slice_set, Option, Some, None, if◌then◌else◌}
use Rattle.lib_core.specs.declared.library.EdgeKind.{EdgeKind}
use Rattle.lib_core.specs.declared.library.EdgeKind.TheVariants as edge
use Rattle.lib_core.specs.declared.library.Group.{Group}
use Rattle.lib_core.specs.declared.library.Library.{Library}
use Rattle.lib_core.specs.declared.library.RamKind.{RamKind}
use Rattle.lib_core.specs.declared.library.Variant.{Variant}
use Rattle.net_core.specs.declared.bits.Bit.{Bit}
use Rattle.net_core.specs.declared.bits.Bit.TheVariants.{Zero, One, Net}
use Rattle.net_core.specs.declared.bits.Clock.{Clock}
use Rattle.net_core.specs.declared.bits.Clock.TheVariants.{Root, Never}
use Rattle.net_core.specs.declared.cells.Carried.{Carried}
use Rattle.net_core.specs.declared.cells.Comb.{Comb}
use Rattle.net_core.specs.declared.cells.CombKind.{CombKind}
use Rattle.net_core.specs.declared.cells.CombKind.TheVariants as comb
use Rattle.net_core.specs.declared.cells.Pin.{Pin}
use Rattle.net_core.specs.declared.rams.RamCell.{RamCell}
use Rattle.net_core.specs.declared.rams.SlotUse.{SlotUse}
use Rattle.net_core.specs.Runs.{variant_of}
use Rattle.ram_rows.specs.declared.pins.SlotPin.{SlotPin}
use Rattle.ram_rows.specs.declared.pins.SlotPin.TheVariants as pin
use Rattle.ram_rows.specs.RamNames.{slot_name}
use Rattle.ram_rows.specs.RamPins.{is_output, pin_width, suffix}
use Rattle.ram_written.specs.Params.{ram_params}
use Rattle.net_draft.specs.Rows.{nets_as_bits, root_bit}

-- ---- inverters

abbrev pub first_inverse : Option ℕ → ℕ → Option ℕ
first_inverse None n = Some n
first_inverse (Some found) n = Some found

abbrev pub note : List (Option ℕ) → Bit → ℕ → List (Option ℕ)
note table Zero inverse = table
note table One inverse = table
note table (Net n) inverse = slice_set table n (first_inverse (get_or table n None) inverse)

-- bits, and the nets that are their inverses one by one
unfoldable pub note_bits : List (Option ℕ) → List Bit → List ℕ → List (Option ℕ)
note_bits table [] ns = table
note_bits table (b ∷ bs) [] = table
note_bits table (b ∷ bs) (n ∷ ns) = note_bits (note table b n) bs ns

abbrev pub is_inverter : CombKind → Bool
is_inverter comb.Not = true
is_inverter k = false

abbrev pub note_comb : List (Option ℕ) → Comb → List (Option ℕ)
note_comb table c = if is_inverter c.kind then note_bits table c.a c.y else table

unfoldable pub note_combs : List (Option ℕ) → List Comb → List (Option ℕ)
note_combs table [] = table
note_combs table (c ∷ cs) = note_combs (note_comb table c) cs

-- for each net the first that a `$not` cell makes of it
abbrev pub inverses_of : ℕ → List Comb → List (Option ℕ)
inverses_of nets cs = note_combs (replicate nets None) cs

-- ---- clocks

abbrev pub inverse_or : Option (Option ℕ) → ℕ → Bit
inverse_or None net = Net net
inverse_or (Some None) net = Net net
inverse_or (Some (Some inverse)) net = Net inverse

-- the bit whose rising edges, or falling ones, are those of the clock; the root itself where it has no inverse
abbrev pub bit_by_edge : List (Option ℕ) → Bool → Clock → Bit
bit_by_edge table rising Never = Zero
bit_by_edge table true (Root net true) = Net net
bit_by_edge table true (Root net false) = inverse_or (slice_get table net) net
bit_by_edge table false (Root net true) = inverse_or (slice_get table net) net
bit_by_edge table false (Root net false) = Net net

-- the bit at the clock pin of a port by the edges at which it works; a parameter says them where either kind may be
abbrev pub clock_bit : List (Option ℕ) → Option EdgeKind → Clock → Bit
clock_bit table None c = root_bit c
clock_bit table (Some edge.Pos) c = bit_by_edge table true c
clock_bit table (Some edge.Neg) c = bit_by_edge table false c
clock_bit table (Some edge.Either) c = root_bit c

-- ---- pins

abbrev pub slot_bits : List (Option ℕ) → Group → SlotUse → SlotPin → List Bit
slot_bits table g s pin.Clk = clock_bit table g.edge s.clock ∷ []
slot_bits table g s pin.ClkEn = s.clken ∷ []
slot_bits table g s pin.Addr = s.addr
slot_bits table g s pin.RdData = nets_as_bits s.out
slot_bits table g s pin.RdEn = s.rden ∷ []
slot_bits table g s pin.RdSrst = s.srst ∷ []
slot_bits table g s pin.RdArst = s.arst ∷ []
slot_bits table g s pin.WrData = s.value
slot_bits table g s pin.WrEn = s.wren
slot_bits table g s pin.WrBe = s.wrbe

-- a pin that the group has
abbrev pub pin_if : Option ℕ → List ℕ → SlotPin → List Bit → List Pin
pin_if None name p bits = []
pin_if (Some width) name p bits = record { name = slot_name name (suffix p); drives = is_output p; bits = bits } ∷ []

unfoldable pub slot_pin : List (Option ℕ) → Variant → Group → List ℕ → SlotUse → SlotPin → List Pin
slot_pin table v g name s p = pin_if (pin_width v g s.level p) name p (slot_bits table g s p)

unfoldable pub some_pins : List (Option ℕ) → Variant → Group → List ℕ → SlotUse → List SlotPin → List Pin
some_pins table v g name s [] = []
some_pins table v g name s (p ∷ ps) = slot_pin table v g name s p ++ some_pins table v g name s ps

unfoldable pub all_pins : List SlotPin
all_pins = pin.Clk ∷ pin.ClkEn ∷ pin.Addr ∷ pin.RdData ∷ pin.RdEn ∷ pin.RdSrst ∷ pin.RdArst ∷ pin.WrData ∷ pin.WrEn ∷ pin.WrBe ∷ []

-- the pins of a port in the order of the table
abbrev pub slot_pins : List (Option ℕ) → Variant → Group → List ℕ → SlotUse → List Pin
slot_pins table v g name s = some_pins table v g name s all_pins

-- the ports of a group, and those of groups, in their order
unfoldable pub names_pins : List (Option ℕ) → Variant → Group → List (List ℕ) → List SlotUse → List Pin
names_pins table v g [] slots = []
names_pins table v g (n ∷ ns) [] = []
names_pins table v g (n ∷ ns) (s ∷ slots) = slot_pins table v g n s ++ names_pins table v g ns slots

unfoldable pub groups_pins : List (Option ℕ) → Variant → List Group → List SlotUse → List Pin
groups_pins table v [] slots = []
groups_pins table v (g ∷ gs) slots = names_pins table v g g.names slots ++ groups_pins table v gs (drop (length g.names) slots)

-- ---- the cell

unfoldable pub variant_cell : List ℕ → Variant → List (Option ℕ) → RamCell → Carried
variant_cell ram v table c = record { name = c.name; kind = ram; attrs = []; params = ram_params v c; pins = groups_pins table v v.groups c.slots }

-- the cell of the variant that the library has for it
unfoldable pub IsRamCell : Library → List (Option ℕ) → RamCell → Carried → Type 0
IsRamCell lib table c made = (k : RamKind) (v : Variant) → slice_get lib.rams c.ram ≡ Some k → variant_of lib c ≡ Some v → made ≡ variant_cell k.name v table c
