-- The laws of the whole: the module that is made of gathered cells is valid, where its RAM cells and its inouts are, and it has
-- the ports that the document says.
use Rattle.std.specs.Prelude.{◌≡◌, ◌≤◌, ◌^◌, ℕ, List, length}
use Rattle.std.specs.List.{flat_map, sum_by}
use Rattle.lib_core.specs.declared.library.Library.{Library}
use Rattle.lib_core.specs.declared.library.Tri.{Tri}
use Rattle.rtlil_text.specs.declared.doc.DocModule.{DocModule}
use Rattle.rtlil_text.specs.Grammar.{All}
use Rattle.net_core.specs.declared.bits.Bit.{Bit}
use Rattle.net_core.specs.declared.modules.Module.{Module}
use Rattle.net_core.specs.declared.rams.RamCell.{RamCell}
use Rattle.net_core.specs.Ports.{Interface, interface_of, ram_clocks}
use Rattle.net_core.specs.Runs.{ReadsAgree}
use Rattle.net_core.specs.Valid.{Each, InoutsApart, IsValid, RamFits}
use Rattle.net_wires.specs.declared.clock.ClockRoot.{ClockRoot}
use Rattle.net_gather.specs.Cells.{Context}
use Rattle.net_gather.specs.Faces.{doc_interface}
use Rattle.net_gather.specs.Gather.{gathered}
use Rattle.net_module.specs.Assembly.{module_of}
use Rattle.net_fits.specs.Cells.{IsSound}
use Rattle.net_fits.specs.Clocks.{ComesFrom, root_sources, RootsAmong}
use Rattle.net_fits.specs.Driven.{IsSolved}
use Rattle.net_fits.specs.Rams.{AreRams}

-- what is left open here: RAM cells by themselves, and inouts
pub record Besides (lib : Library) (modules : List Interface) (m : Module) : Type 0 where
  pub rams : Each m.rams (RamFits lib m)
  pub reads_agree : ReadsAgree lib m
  pub slots : sum_by (λ (c : RamCell). length c.slots) m.rams ≤ 2 ^ 30
  pub inouts : InoutsApart modules m

-- The law: the module is valid.
abbrev pub BuiltIsValid : Type 0
BuiltIsValid = (lib : Library) (modules : List Interface) (x : Context) (m : DocModule) (places : List Bit) (count : ℕ) (roots : List ClockRoot) (starts : List Tri) (rams : List RamCell)
    → IsSound modules x m → IsSolved x m places count → AreRams places count (gathered x m.items).cells rams
    → RootsAmong (root_sources m.items (gathered x m.items).cells) roots → All (ComesFrom places roots) (flat_map ram_clocks rams)
    → Besides lib modules (module_of m (gathered x m.items).cells places count roots starts rams) → IsValid lib modules (module_of m (gathered x m.items).cells places count roots starts rams)

-- The law: it has the ports that the document says.
abbrev pub BuiltHasPorts : Type 0
BuiltHasPorts = (x : Context) (m : DocModule) (places : List Bit) (count : ℕ) (roots : List ClockRoot) (starts : List Tri) (rams : List RamCell) → IsSolved x m places count
    → interface_of (module_of m (gathered x m.items).cells places count roots starts rams) ≡ doc_interface m
