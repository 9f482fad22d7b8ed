-- Pieces of logic put together.
use Rattle.std.specs.Prelude.{◌≡◌, ℕ, ◌≤◌, Bool, List, [], ◌++◌}
use Rattle.lib_core.specs.declared.library.Library.{Library}
use Rattle.net_core.specs.declared.bits.Bit.{Bit}
use Rattle.net_core.specs.declared.modules.Module.{Module}
use Rattle.net_core.specs.Ports.{Interface}
use Rattle.net_core.specs.Simulation.{Simulates}
use Rattle.net_core.specs.Values.{Valuation, values_of}
use Rattle.net_edit.specs.Edits.{Editing}
use Rattle.net_edit.specs.Ranks.{height, BitsBelow}
use Rattle.net_gates.specs.Adds.{Grows, Extends, Adds}

-- The laws: each run of a module with more logic is one of the module, with the same wave.
abbrev pub GrownSimulates : Type 0
GrownSimulates = (lib : Library) (modules : List Interface) (old new : Module) → Grows old new → Simulates lib modules [] old new

-- What extends an extension extends the module.
abbrev pub ExtensionsCompose : Type 0
ExtensionsCompose =
    (a b c : Editing) (from ys more zs : List Bit) → Extends a b from ys → Extends b c (ys ++ more) zs → BitsBelow a.netlist.nets more → Extends a c (from ++ more) zs

-- Logic over the outputs of other logic, and over more bits.
abbrev pub AddsCompose : Type 0
AddsCompose =
    (a b c : Editing) (from ys more zs : List Bit) (f g h : Valuation → List Bool) → Adds a b from ys f → Adds b c (ys ++ more) zs g → BitsBelow a.netlist.nets more → ((u : Valuation) → values_of u ys ≡ f u → g u ≡ h u) → Adds a c (from ++ more) zs h

-- Logic beside other logic.
abbrev pub AddsBeside : Type 0
AddsBeside =
    (a b c : Editing) (from ys more zs : List Bit) (f g : Valuation → List Bool) → Adds a b from ys f → Adds b c more zs g → BitsBelow a.netlist.nets more → Adds a c (from ++ more) (ys ++ zs) (λ u. f u ++ g u)

-- The same logic in other words, over operands that are as high.
abbrev pub AddsAs : Type 0
AddsAs =
    (a b : Editing) (from other ys : List Bit) (f g : Valuation → List Bool) → Adds a b from ys f → ((rank : ℕ → ℕ) → height rank from ≤ height rank other) → ((u : Valuation) → f u ≡ g u) → Adds a b other ys g
