-- RAM cells are made of gathered cells, and their clocks come from roots.
use Rattle.std.proofs.Common.{◌≡◌, ℕ, List, [], ◌∷◌, ◌++◌, Option, Some, None, slice_get, refl, arith}
use Rattle.std.specs.List.{flat_map}
use Rattle.lib_core.specs.declared.library.Library.{Library}
use Rattle.lib_core.specs.declared.library.RamKind.{RamKind}
use Rattle.lib_core.specs.declared.library.Variant.{Variant}
use Rattle.rtlil_text.specs.declared.doc.DocModule.{DocModule}
use Rattle.rtlil_text.specs.Grammar.{All}
use Rattle.net_core.specs.declared.bits.Bit.{Bit}
use Rattle.net_core.specs.declared.rams.RamCell.{RamCell}
use Rattle.net_core.specs.Ports.{ram_clocks}
use Rattle.net_wires.specs.declared.clock.ClockRoot.{ClockRoot}
use Rattle.net_wires.specs.declared.number.Nets.{Nets}
use Rattle.net_wires.specs.Nets.{InOrder}
use Rattle.raw_cells.specs.declared.raw.CellShape.{CellShape}
use Rattle.raw_cells.specs.declared.raw.CellShape.TheVariants as shape
use Rattle.raw_cells.specs.declared.raw.RamUse.{RamUse}
use Rattle.raw_cells.specs.declared.raw.RawCell.{RawCell}
use Rattle.raw_cells.specs.declared.raw.RawPin.{RawPin}
use Rattle.raw_cells.specs.RamCells.{ram_of}
use Rattle.raw_cells.specs.Rows.{groups_pins, variant_in, variant_of, variant_pins}
use Rattle.net_gather.specs.Gather.{counts_before}
use Rattle.net_gather.specs.Laws.{CellsFit, FitsShape, FitsTable, IsFoundIn, TablesFit}
use Rattle.net_module.specs.Assembly.{ram_by as cell_by, ram_under, rams_of}
use Rattle.net_build.specs.Faults.{IsFaultless}
use Rattle.net_build.specs.Means.{context_in, gathered_in, IsWired}
use Rattle.net_fits.specs.Clocks.{ComesFrom}
use Rattle.net_fits.specs.RamParts.{RamHasParts, RamShowsOnce}
use Rattle.net_fits.specs.Rams.{AreRams, EachRamOf, IsRamOf, ram_by, ram_cells}
use Rattle.net_fits.proofs.Lists.{all_flat, all_join, each_of}
use Rattle.net_fits.proofs.Sound.{cells_faultless}
use Rattle.build_valid.specs.Libraries.{HasPortsApart, PortsApart}
use Rattle.build_valid.proofs.Faultless.{none_mapped}
use Rattle.build_valid.proofs.RamTables.{reads_distinct, reads_driven, variant_found}

-- ---- the variant of a cell

variant_apart : (o : Option RamKind) (k : ℕ) (v : Variant) → ((r : RamKind) → o ≡ Some r → All HasPortsApart r.variants) → variant_in o k ≡ Some v → HasPortsApart v
variant_apart None k v f e = absurd cc
variant_apart (Some r) k v f e = each_of HasPortsApart r.variants (f r refl) k v e

pub ports_apart : (lib : Library) (u : RamUse) (v : Variant) → PortsApart lib → variant_of lib u ≡ Some v → HasPortsApart v
ports_apart lib u v apart e = variant_apart (slice_get lib.rams u.ram) u.variant v (λ r at. each_of (λ (k : RamKind). All HasPortsApart k.variants) lib.rams apart u.ram r at) e

table_found : (o : Option Variant) (u : RamUse) → ((v : Variant) → o ≡ Some v → HasPortsApart v) → IsFoundIn (variant_pins o u.row.slots) (variant_pins o u.row.slots)
table_found None u f = tt
table_found (Some v) u f = variant_found v u.row.slots (f v refl)

-- the pins of a cell of a RAM are those of its variant
pub ram_fits : (lib : Library) (u : RamUse) (ps : List RawPin) → PortsApart lib → FitsShape lib (shape.Ram u) ps → FitsTable (variant_pins (variant_of lib u) u.row.slots) ps
ram_fits lib u ps apart fits = fits (table_found (variant_of lib u) u (λ v e. ports_apart lib u v apart e))

-- ---- one cell

record IsMade (places : List Bit) (count : ℕ) (roots : List ClockRoot) (c : RawCell) (r : RamCell) : Type 0 where
  is : IsRamOf places count c r
  clocks : All (ComesFrom places roots) (ram_clocks r)

module _ (shown : RamShowsOnce) (parts : RamHasParts) (lib : Library) (apart : PortsApart lib) (places : List Bit) (count : ℕ) (order : InOrder 0 places count) (roots : List ClockRoot) where
  made_name : (name : List ℕ) (u : RamUse) (v : Variant) (ps : List RawPin) → (ram_of places roots name u v ps).name ≡ name
  unfolding ram_of
  made_name name u v ps = refl

  made_under : (c : RawCell) (u : RamUse) (o : Option Variant) → ((v : Variant) → o ≡ Some v → HasPortsApart v) → FitsTable (variant_pins o u.row.slots) c.pins → IsMade places count roots c (ram_under lib places roots c.name u o c.pins)
  made_under c u None f fits = record { is = record { name = refl; shows = λ n. omega arith; bits = tt; outs = tt }; clocks = tt }
  made_under c u (Some v) f fits =
      let has = parts places count roots c.name u v c.pins order in
      record {
        is = record {
          name = made_name c.name u v c.pins;
          shows = shown places roots c.name u v (groups_pins v v.groups u.row.slots) c.pins fits (reads_distinct v u.row.slots (f v refl)) (reads_driven v u.row.slots);
          bits = has.bits;
          outs = has.outs;
        };
        clocks = has.clocks;
      }

  abbrev AreMade : List RawCell → List RamCell → Type 0
  AreMade cs rs = EachRamOf places count cs rs × All (λ r. All (ComesFrom places roots) (ram_clocks r)) rs

  made_by : (c : RawCell) (s : CellShape) → FitsShape lib s c.pins → AreMade (ram_by s c) (cell_by lib places roots c.name s c.pins)
  made_by c (shape.Comb r) fits = (tt, tt)
  made_by c (shape.Reg r) fits = (tt, tt)
  made_by c (shape.Carried k) fits = (tt, tt)
  made_by c (shape.Memory k r) fits = (tt, tt)
  made_by c (shape.Ram u) fits =
      let made = made_under c u (variant_of lib u) (λ v e. ports_apart lib u v apart e) (ram_fits lib u c.pins apart fits) in
      ((made.is, tt), (made.clocks, tt))

  each_joined : (cs ds : List RawCell) (rs qs : List RamCell) → EachRamOf places count cs rs → EachRamOf places count ds qs → EachRamOf places count (cs ++ ds) (rs ++ qs)
  each_joined [] ds [] qs a b = b
  each_joined [] ds (r ∷ rs) qs a b = absurd a
  each_joined (c ∷ cs) ds [] qs a b = absurd a
  each_joined (c ∷ cs) ds (r ∷ rs) qs a b = (a.0, each_joined cs ds rs qs a.1 b)

  pub rams_made : (cs : List RawCell) → CellsFit lib cs → AreRams places count cs (rams_of lib places roots cs) × All (λ r. All (ComesFrom places roots) (ram_clocks r)) (rams_of lib places roots cs)
  rams_made [] fits = (tt, tt)
  rams_made (c ∷ cs) fits =
      let here = made_by c c.shape fits.0 in
      let rest = rams_made cs fits.1 in (
        each_joined (ram_by c.shape c) (ram_cells cs) (cell_by lib places roots c.name c.shape c.pins) (rams_of lib places roots cs) here.0 rest.0,
        all_join (λ r. All (ComesFrom places roots) (ram_clocks r)) (cell_by lib places roots c.name c.shape c.pins) (rams_of lib places roots cs) here.1 rest.1,
      )

pub cells_fit : TablesFit → (lib : Library) (modules : List DocModule) (d : DocModule) → IsFaultless lib modules d → CellsFit lib (gathered_in lib modules d).cells
cells_fit tables lib modules d f =
    let x = context_in lib modules d in
    tables x 0 (counts_before d.items) d.items (cells_faultless x d (none_mapped _ _ f.gathered))

pub wired_rams : TablesFit → RamShowsOnce → RamHasParts → (lib : Library) (modules : List DocModule) (d : DocModule) (nets : Nets) (roots : List ClockRoot) → PortsApart lib → IsFaultless lib modules d
    → IsWired d (gathered_in lib modules d) nets roots → AreRams nets.bits nets.count (gathered_in lib modules d).cells (rams_of lib nets.bits roots (gathered_in lib modules d).cells)
    × All (ComesFrom nets.bits roots) (flat_map ram_clocks (rams_of lib nets.bits roots (gathered_in lib modules d).cells))
wired_rams tables shown parts lib modules d nets roots apart f w =
    let cs = (gathered_in lib modules d).cells in
    let made = rams_made shown parts lib apart nets.bits nets.count w.in_order roots cs (cells_fit tables lib modules d f) in
    (made.0, all_flat (ComesFrom nets.bits roots) ram_clocks (rams_of lib nets.bits roots cs) made.1)
