-- All that is known of gathered cells.
use Rattle.std.proofs.Common.{◌≡◌, ◌≤◌, List, [], ◌∷◌, length}
use Rattle.lib_core.specs.declared.library.Library.{Library}
use Rattle.rtlil_text.specs.declared.doc.DocModule.{DocModule}
use Rattle.rtlil_text.specs.Grammar.{All}
use Rattle.net_core.specs.declared.bits.Bit.{Bit}
use Rattle.net_core.specs.Ports.{Interface}
use Rattle.raw_cells.specs.declared.raw.RawCell.{RawCell}
use Rattle.raw_cells.specs.declared.raw.RawPin.{RawPin}
use Rattle.net_gather.specs.Cells.{Context}
use Rattle.net_gather.specs.Gather.{cell_faults, connect_faults, counts_before, faults_of, gathered}
use Rattle.net_gather.specs.Laws.{FitsShape, PinsShort, TablesFit}
use Rattle.net_gather.specs.Sizes.{size_faults}
use Rattle.net_fits.specs.Cells.{CellsDriveNets, DrivesNets, IsSound}
use Rattle.net_fits.proofs.Items.{items_known}
use Rattle.net_fits.proofs.Shapes.{cells_known, front_none, RawKnown, rest_none}

pub record RawSound (lib : Library) (modules : List Interface) (places : List Bit) (c : RawCell) : Type 0 where
  pub fits : FitsShape lib c.shape c.pins
  pub short : All (λ (p : RawPin). length p.bits ≤ 16777216) c.pins
  pub nets : DrivesNets places c.pins
  pub known : RawKnown modules c

together : (lib : Library) (modules : List Interface) (places : List Bit) (cs : List RawCell) → All (λ (c : RawCell). FitsShape lib c.shape c.pins) cs
    → All (λ (c : RawCell). All (λ (p : RawPin). length p.bits ≤ 16777216) c.pins) cs → CellsDriveNets places cs → All (RawKnown modules) cs → All (RawSound lib modules places) cs
together lib modules places [] f s d k = tt
together lib modules places (c ∷ cs) f s d k = (record { fits = f.0; short = s.0; nets = d.0; known = k.0 }, together lib modules places cs f.1 s.1 d.1 k.1)

pub cells_faultless : (x : Context) (m : DocModule) → faults_of x m.items ≡ [] → cell_faults x 0 (counts_before m.items) m.items ≡ []
cells_faultless x m e = front_none (cell_faults x 0 (counts_before m.items) m.items) (connect_faults x.names 0 m.items) (rest_none (size_faults 0 0 m.items) _ e)

pub raw_sound : TablesFit → PinsShort → (modules : List Interface) (x : Context) (m : DocModule) (places : List Bit) → IsSound modules x m → CellsDriveNets places (gathered x m.items).cells
    → All (RawSound x.library modules places) (gathered x m.items).cells
raw_sound tables short modules x m places s nets =
    let none = cells_faultless x m s.faultless in
    together x.library modules places (gathered x m.items).cells (tables x 0 (counts_before m.items) m.items none) (short x 0 (counts_before m.items) m.items none) nets
    (cells_known modules x s.knows 0 (counts_before m.items) m.items (items_known m s.written) none)
