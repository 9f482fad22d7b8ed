-- The laws of clocks: each clock is an input of the module.
use Rattle.std.specs.Prelude.{◌≡◌, ℕ, Bool, List, [], ◌++◌, Some, slice_get}
use Rattle.std.specs.List.{flat_map}
use Rattle.lib_core.specs.declared.library.Tri.{Tri}
use Rattle.rtlil_text.specs.declared.doc.DocModule.{DocModule}
use Rattle.rtlil_text.specs.declared.doc.Item.{Item}
use Rattle.rtlil_text.specs.Grammar.{All}
use Rattle.net_core.specs.declared.bits.Bit.{Bit}
use Rattle.net_core.specs.declared.bits.Bit.TheVariants as bits
use Rattle.net_core.specs.declared.bits.Clock.{Clock}
use Rattle.net_core.specs.declared.bits.Clock.TheVariants as clock
use Rattle.net_core.specs.declared.rams.RamCell.{RamCell}
use Rattle.net_core.specs.Ports.{clocks_of, inputs_of, ram_clocks}
use Rattle.net_wires.specs.declared.clock.ClockRoot.{ClockRoot}
use Rattle.net_wires.specs.declared.clock.ClockRoot.TheVariants as leads
use Rattle.net_wires.specs.declared.clock.Inverter.{Inverter}
use Rattle.net_wires.specs.declared.link.Link.{Link}
use Rattle.net_wires.specs.declared.source.Source.{Source}
use Rattle.net_wires.specs.declared.source.Source.TheVariants as source
use Rattle.net_wires.specs.Clocks.{AreClocks, drives}
use Rattle.raw_cells.specs.declared.raw.CellShape.{CellShape}
use Rattle.raw_cells.specs.declared.raw.CellShape.TheVariants as shape
use Rattle.raw_cells.specs.declared.raw.RawCell.{RawCell}
use Rattle.raw_cells.specs.declared.raw.RawPin.{RawPin}
use Rattle.net_gather.specs.Cells.{Context}
use Rattle.net_gather.specs.Gather.{gathered}
use Rattle.raw_cells.specs.Clocks.{clock_at, place_bit}
use Rattle.net_module.specs.Assembly.{module_of}
use Rattle.net_fits.specs.Driven.{input_sources}
use Rattle.net_fits.specs.Rams.{driving_sources}

-- what a cell drives that is kept as it is
abbrev pub kept_by : CellShape → List RawPin → List Source
kept_by (shape.Comb r) ps = []
kept_by (shape.Reg r) ps = []
kept_by (shape.Carried k) ps = driving_sources ps
kept_by (shape.Memory k r) ps = []
kept_by (shape.Ram u) ps = []

abbrev pub kept_sources : List RawCell → List Source
kept_sources cs = flat_map (λ (c : RawCell). kept_by c.shape c.pins) cs

-- where clocks may come from: inputs, and what cells drive that are kept as they are
abbrev pub root_sources : List Item → List RawCell → List Source
root_sources is cs = input_sources 0 is ++ kept_sources cs

-- places lead to these sources alone
abbrev pub RootsAmong : List Source → List ClockRoot → Type 0
RootsAmong sources roots = (i p : ℕ) (flipped : Bool) → slice_get roots i ≡ Some (leads.Root p flipped) → (k : ℕ) × (slice_get sources k ≡ Some (source.At p))

-- The law: clocks lead to the places that are roots.
abbrev pub ClocksLeadToRoots : Type 0
ClocksLeadToRoots = (t : List Link) (n : ℕ) (from : List ℕ) (inverters : List Inverter) (digits : List ℕ) (roots : List ClockRoot) → AreClocks t (drives n from inverters digits) roots
    → (i p : ℕ) (flipped : Bool) → slice_get roots i ≡ Some (leads.Root p flipped) → (k : ℕ) × (slice_get from k ≡ Some p)

-- the clock has the net of a root, if it has edges
abbrev pub ComesFrom : List Bit → List ClockRoot → Clock → Type 0
ComesFrom places roots clock.Never = Unit {0}
ComesFrom places roots (clock.Root net rising) = (i : ℕ) × (p : ℕ) × (flipped : Bool) × (slice_get roots i ≡ Some (leads.Root p flipped)) × (place_bit places p ≡ bits.Net net)

-- The law: so has the clock at a pin.
abbrev pub PinClocksCome : Type 0
PinClocksCome = (places : List Bit) (roots : List ClockRoot) (pins : List RawPin) (name : List ℕ) (rising : Bool) → ComesFrom places roots (clock_at places roots pins name rising)

-- The law: each clock of the module is an input, where this holds of RAM cells.
abbrev pub ClocksAreInputs : Type 0
ClocksAreInputs = (x : Context) (m : DocModule) (places : List Bit) (count : ℕ) (roots : List ClockRoot) (starts : List Tri) (rams : List RamCell)
    → RootsAmong (root_sources m.items (gathered x m.items).cells) roots → All (ComesFrom places roots) (flat_map ram_clocks rams)
    → (k net : ℕ) (rising : Bool) → slice_get (clocks_of (module_of m (gathered x m.items).cells places count roots starts rams)) k ≡ Some (clock.Root net rising)
    → (place : ℕ) × (slice_get (inputs_of (module_of m (gathered x m.items).cells places count roots starts rams)) place ≡ Some net)
