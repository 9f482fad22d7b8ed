-- What holds of the cell of a plain choice: it has the shape that its variant asks for, and it shows only what the memory may.
use Rattle.std.specs.Prelude.{◌≡◌, ℕ, List, Some, slice_get}
use Rattle.lib_core.specs.declared.library.Library.{Library}
use Rattle.lib_core.specs.declared.library.Variant.{Variant}
use Rattle.net_core.specs.declared.mems.MemJob.{MemJob}
use Rattle.net_core.specs.Values.{Wave, Happening}
use Rattle.net_core.specs.Memory.{MemAllows}
use Rattle.lib_core.specs.Rams.{reads_now}
use Rattle.net_core.specs.declared.modules.Module.{Module}
use Rattle.net_core.specs.declared.rams.RamCell.{RamCell}
use Rattle.net_core.specs.Ram.{Slot, slots_of, RamAllows}
use Rattle.net_core.specs.Runs.{variant_of}
use Rattle.net_core.specs.Valid.{IsName, MemFits, RamFits}
use Rattle.geom_core.specs.declared.candidates.RamChoice.{RamChoice}
use Rattle.fit_rules.specs.Limits.{LibraryLimits}
use Rattle.ram_emit.specs.Plain.{IsPlain}
use Rattle.ram_emit.specs.Cell.{plain_cell}

-- The law: what the cell allows, the memory allows, over the same nets.
abbrev pub PlainCellShows : Type 0
PlainCellShows =
    (lib : Library) (job : MemJob) (c : RamChoice) (name : List ℕ) (first : ℕ) → LibraryLimits lib → MemFits job.mem → IsPlain lib job c → (x : Variant) → variant_of lib (plain_cell lib job.mem c name first) ≡ Some x
    → (inputs : List ℕ) (events : List Happening) (v : Wave) → RamAllows inputs x (plain_cell lib job.mem c name first) events v → MemAllows inputs job.mem events v

-- each port says of itself whether it reads at once, as its kind does
abbrev pub CellAgrees : Library → RamCell → Type 0
CellAgrees lib cell =
    (x : Variant) → variant_of lib cell ≡ Some x → (j : ℕ) (s : Slot) → slice_get (slots_of x cell) j ≡ Some s → s.pins.reads_now ≡ reads_now s.kind.kind

-- The law: the cell is one that any module may have.
abbrev pub PlainCellFits : Type 0
PlainCellFits =
    (lib : Library) (job : MemJob) (c : RamChoice) (name : List ℕ) (first : ℕ) → LibraryLimits lib → MemFits job.mem → IsPlain lib job c → IsName name
    → ((m : Module) → RamFits lib m (plain_cell lib job.mem c name first)) × CellAgrees lib (plain_cell lib job.mem c name first)
