-- What follows for modules and designs that are the same: they refine each other, have the same ports, and keep an order and
-- liveness.
use Rattle.std.specs.Prelude.{◌≡◌, List, map}
use Rattle.lib_core.specs.declared.library.Library.{Library}
use Rattle.net_core.specs.declared.modules.Module.{Module}
use Rattle.net_core.specs.declared.modules.Design.{Design}
use Rattle.net_core.specs.Nodes.{Ordered}
use Rattle.net_core.specs.Ports.{Interface, interface_of}
use Rattle.net_core.specs.Runs.{RefinesModule, Refines, Live, IsLive}
use Rattle.net_same.specs.Same.{IsSame, AreSame}

abbrev pub SameRefines : Type 0
SameRefines = (lib : Library) (modules : List Interface) (old new : Module) → IsSame old new → RefinesModule lib modules old new × RefinesModule lib modules new old

abbrev pub SameIsOrdered : Type 0
SameIsOrdered = (old new : Module) → IsSame old new → Ordered old → Ordered new

abbrev pub SameIsLive : Type 0
SameIsLive = (lib : Library) (old new : Module) → IsSame old new → Live lib old → Live lib new

abbrev pub SameHasPorts : Type 0
SameHasPorts = (old new : Module) → IsSame old new → interface_of new ≡ interface_of old

abbrev pub SameDesignsRefine : Type 0
SameDesignsRefine = (lib : Library) (old new : Design) → AreSame old new → Refines lib old new × Refines lib new old

abbrev pub SameDesignsLive : Type 0
SameDesignsLive = (lib : Library) (old new : Design) → AreSame old new → IsLive lib old → IsLive lib new

abbrev pub SameNames : Type 0
SameNames = (old new : Design) → AreSame old new → map (λ (m : Module). m.name) new.modules ≡ map (λ (m : Module). m.name) old.modules
