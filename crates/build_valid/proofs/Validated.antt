-- A design that is built is valid, and its modules have combinational orders.
use Rattle.std.proofs.Common.{◌≡◌, ℕ, suc, ◌≤◌, ◌^◌, List, [], ◌∷◌, map, length, slice_get, refl, sym, ap, ◌∙◌, subst, arith}
use Rattle.std.specs.Prelude.{Ok}
use Rattle.std.specs.List.{sum_by}
use Rattle.lib_core.specs.declared.library.Library.{Library}
use Rattle.lib_core.specs.declared.library.Tri.{Tri}
use Rattle.rtlil_text.specs.declared.doc.Doc.{Doc}
use Rattle.rtlil_text.specs.declared.doc.DocModule.{DocModule}
use Rattle.rtlil_text.specs.Grammar.{All, module_name}
use Rattle.net_core.specs.declared.bits.Bit.{Bit}
use Rattle.net_core.specs.declared.modules.Design.{Design}
use Rattle.net_core.specs.declared.modules.Module.{Module}
use Rattle.net_core.specs.declared.rams.RamCell.{RamCell}
use Rattle.net_core.specs.Nodes.{Ordered}
use Rattle.net_core.specs.Ports.{Interface, interface_of}
use Rattle.net_core.specs.Valid.{AreApart, Each, IsName, IsValid, IsValidDesign}
use Rattle.net_loops.specs.Loops.{RanksAgree}
use Rattle.net_wires.specs.declared.clock.ClockRoot.{ClockRoot}
use Rattle.net_wires.specs.declared.number.Nets.{Nets}
use Rattle.net_wires.specs.Links.{links_of, PairsWithin}
use Rattle.net_wires.specs.Spans.{spans}
use Rattle.net_wires.proofs.Reach.{all_there}
use Rattle.net_wires.proofs.Ready.{length_links, links_within}
use Rattle.raw_cells.specs.declared.raw.RawCell.{RawCell}
use Rattle.net_gather.specs.Faces.{doc_interface, doc_interfaces}
use Rattle.net_gather.specs.Gather.{counts_before, faults_of}
use Rattle.net_gather.specs.Laws.{PairsAreWithin, RamsFit, TablesFit}
use Rattle.net_checks.specs.ClockPins.{digits, places_in, root_bits}
use Rattle.net_checks.specs.Laws.{GatheredIsSound, ShownInouts}
use Rattle.net_module.specs.Assembly.{module_of, rams_of}
use Rattle.net_build.specs.Builds.{AreBuilt, Builds, IsBuilt}
use Rattle.net_build.specs.Faults.{IsFaultless}
use Rattle.net_build.specs.Means.{context_in, gathered_in, IsWired}
use Rattle.net_fits.specs.Clocks.{ClocksLeadToRoots}
use Rattle.net_fits.specs.Drivers.{SolvedCells}
use Rattle.net_fits.specs.RamParts.{RamHasParts, RamShowsOnce}
use Rattle.net_fits.specs.Whole.{Besides, BuiltHasPorts, BuiltIsValid}
use Rattle.net_fits.specs.Written.{IsWritten}
use Rattle.net_fits.proofs.Attrs.{distinct_apart}
use Rattle.net_fits.proofs.Items.{items_known}
use Rattle.net_fits.proofs.Lists.{all_then, each_of}
use Rattle.net_fits.proofs.Shapes.{cells_known, RawKnown}
use Rattle.net_fits.proofs.Sound.{cells_faultless}
use Rattle.build_valid.specs.Documents.{IsWrittenDoc}
use Rattle.build_valid.specs.Libraries.{LibraryFits}
use Rattle.build_valid.proofs.Agreeing.{agrees}
use Rattle.build_valid.proofs.Faultless.{context_tells, faultless_sound, none_mapped}
use Rattle.build_valid.proofs.InoutsHeld.{inouts_apart}
use Rattle.build_valid.proofs.Inverted.{clock_fits}
use Rattle.build_valid.proofs.Quiet.{cells_quiet}
use Rattle.build_valid.proofs.RamCells.{cells_fit, wired_rams}
use Rattle.build_valid.proofs.RamsValid.{rams_told, RamTold}
use Rattle.build_valid.proofs.Ranks.{meant_ordered}
use Rattle.build_valid.proofs.Rising.{cells_rise}
use Rattle.build_valid.proofs.Roots.{roots_among}
use Rattle.build_valid.proofs.Showing.{cells_shaped}
use Rattle.build_valid.proofs.SlotCount.{cells_few, cells_total, most, slots_few}
use Rattle.build_valid.proofs.Wiring.{wired_solved}

-- the laws of the crates below
pub record Laws : Type 0 where
  pub tables : TablesFit
  pub pairs : PairsAreWithin
  pub shapes : RamsFit
  pub sound : GatheredIsSound
  pub inouts : ShownInouts
  pub ranks : RanksAgree
  pub roots : ClocksLeadToRoots
  pub nets : SolvedCells
  pub parts : RamHasParts
  pub shown : RamShowsOnce
  pub valid : BuiltIsValid
  pub ports : BuiltHasPorts

-- ---- one module

rams_are : (d : DocModule) (cs : List RawCell) (places : List Bit) (count : ℕ) (roots : List ClockRoot) (starts : List Tri) (rams : List RamCell) → (module_of d cs places count roots starts rams).rams ≡ rams
unfolding module_of
rams_are d cs places count roots starts rams = refl

name_is : (d : DocModule) (cs : List RawCell) (places : List Bit) (count : ℕ) (roots : List ClockRoot) (starts : List Tri) (rams : List RamCell) → (module_of d cs places count roots starts rams).name ≡ d.name
unfolding module_of
name_is d cs places count roots starts rams = refl

module _ (laws : Laws) (lib : Library) (modules : List DocModule) (fits : LibraryFits lib) (written : All IsWritten modules) (d : DocModule) (w : IsWritten d) (f : IsFaultless lib modules d) (nets : Nets) (roots : List ClockRoot) (starts : List Tri)
    (wired : IsWired d (gathered_in lib modules d) nets roots) where
  abbrev cells : List RawCell
  cells = (gathered_in lib modules d).cells

  abbrev rams : List RamCell
  rams = rams_of lib nets.bits roots cells

  abbrev built : Module
  built = module_of d cells nets.bits nets.count roots starts rams

  none : faults_of (context_in lib modules d) d.items ≡ []
  none = none_mapped _ (faults_of (context_in lib modules d) d.items) f.gathered

  rams_fit : All (RamTold lib built) rams
  rams_fit =
      let x = context_in lib modules d in
      let g = gathered_in lib modules d in
      let t = links_of g.places g.pairs in
      let sound = laws.sound x d.items refl none in
      let solved = wired_solved laws.sound lib modules d nets roots f wired in
      let near : PairsWithin g.wire_places g.pairs = laws.pairs g.wire_places (spans 0 d.items) d.items (all_there d.items) in
      let agree = agrees d.items g nets.bits nets.count roots sound near (cells_quiet x (counts_before d.items) d.items) solved.resolves wired.clocks in
      let shaped = cells_shaped laws.shapes lib modules d nets roots f agree in
      let known = cells_known (doc_interfaces modules) x (context_tells lib modules d) 0 (counts_before d.items) d.items (items_known d w) (cells_faultless x d none) in
      let named = all_then (RawKnown (doc_interfaces modules)) (λ (c : RawCell). IsName c.name) cells (λ c k. k.name) known in
      let driven = laws.nets x d nets.bits nets.count solved in
      let tables = cells_fit laws.tables lib modules d f in
      rams_told lib fits built nets.bits roots
      (clock_fits lib d cells nets.bits nets.count roots starts rams t g.places (places_in (root_bits d.items g.cells)) (digits g) wired.solves (links_within g.places g.pairs sound.pairs) (wired.long ∙ sym (length_links g.places g.pairs)) wired.clocks tables driven)
      cells named shaped (cells_rise x (counts_before d.items) d.items)

  slots : sum_by (λ (c : RamCell). length c.slots) rams ≤ 1073741824
  slots =
      let x = context_in lib modules d in
      let few = cells_few x 0 (counts_before d.items) d.items (cells_faultless x d none) (omega arith) in
      let all : cells_total cells ≤ most = omega (arith, few) in
      slots_few lib fits nets.bits roots cells (cells_fit laws.tables lib modules d f) (cells_rise x (counts_before d.items) d.items) all

  besides : Besides lib (doc_interfaces modules) built
  besides =
      let same : built.rams ≡ rams = rams_are d cells nets.bits nets.count roots starts rams in
      record {
        rams = λ i c at. (each_of (RamTold lib built) rams rams_fit i c (ap (λ rs. slice_get rs i) (sym same) ∙ at)).fits;
        reads_agree = λ i c at. (each_of (RamTold lib built) rams rams_fit i c (ap (λ rs. slice_get rs i) (sym same) ∙ at)).reads;
        slots = subst (λ rs. sum_by (λ (c : RamCell). length c.slots) rs ≤ 2 ^ 30) (sym same) slots;
        inouts = inouts_apart laws.sound laws.inouts lib modules d nets roots starts written f wired;
      }

  valid : IsValid lib (doc_interfaces modules) built
  valid =
      let x = context_in lib modules d in
      let are = wired_rams laws.tables laws.shown laws.parts lib modules d nets roots fits.apart f wired in
      laws.valid lib (doc_interfaces modules) x d nets.bits nets.count roots starts rams (faultless_sound lib modules d w f) (wired_solved laws.sound lib modules d nets roots f wired) are.0
      (roots_among laws.roots lib modules d nets roots wired) are.1 besides

  ported : interface_of built ≡ doc_interface d
  ported = laws.ports (context_in lib modules d) d nets.bits nets.count roots starts rams (wired_solved laws.sound lib modules d nets roots f wired)

pub module_valid : Laws → (lib : Library) (modules : List DocModule) (d : DocModule) (m : Module) → LibraryFits lib → All IsWritten modules → IsWritten d → IsBuilt lib modules d m → IsValid lib (doc_interfaces modules) m
module_valid laws lib modules d m fits written w b =
    let is = b.1 in
    subst (IsValid lib (doc_interfaces modules)) (sym is.is) (valid laws lib modules fits written d w b.0 is.nets is.roots is.starts is.wired)

module_ports : Laws → (lib : Library) (modules : List DocModule) (d : DocModule) (m : Module) → LibraryFits lib → All IsWritten modules → IsWritten d → IsBuilt lib modules d m → interface_of m ≡ doc_interface d
module_ports laws lib modules d m fits written w b =
    let is = b.1 in
    ap interface_of is.is ∙ ported laws lib modules fits written d w b.0 is.nets is.roots is.starts is.wired

module_name_is : (lib : Library) (modules : List DocModule) (d : DocModule) (m : Module) → IsBuilt lib modules d m → m.name ≡ d.name
module_name_is lib modules d m b =
    let is = b.1 in
    ap (λ (x : Module). x.name) is.is ∙ name_is d (gathered_in lib modules d).cells is.nets.bits is.nets.count is.roots is.starts (rams_of lib is.nets.bits is.roots (gathered_in lib modules d).cells)

-- ---- all modules

-- what is known of modules that are built of others
record AllBuilt (lib : Library) (modules ds : List DocModule) (ms : List Module) : Type 0 where
  valid_each : All (IsValid lib (doc_interfaces modules)) ms
  ordered_each : All Ordered ms
  ports : map interface_of ms ≡ doc_interfaces ds
  names : map (λ (m : Module). m.name) ms ≡ map module_name ds
  long : length ms ≡ length ds

module _ (laws : Laws) (lib : Library) (modules : List DocModule) (fits : LibraryFits lib) (written : All IsWritten modules) where
  all_built : (ds : List DocModule) (ms : List Module) → All IsWritten ds → AreBuilt lib modules ds ms → AllBuilt lib modules ds ms
  all_built [] [] w b = record { valid_each = tt; ordered_each = tt; ports = refl; names = refl; long = refl }
  all_built [] (m ∷ ms) w b = absurd b
  all_built (d ∷ ds) [] w b = absurd b
  all_built (d ∷ ds) (m ∷ ms) w b =
      let rest = all_built ds ms w.1 b.1 in
      record {
        valid_each = (module_valid laws lib modules d m fits written w.0 b.0, rest.valid_each);
        ordered_each = (meant_ordered laws.ranks lib modules d m b.0.1, rest.ordered_each);
        ports = ap (λ i. i ∷ map interface_of ms) (module_ports laws lib modules d m fits written w.0 b.0) ∙ ap (λ is. doc_interface d ∷ is) rest.ports;
        names = ap (λ n. n ∷ map (λ (x : Module). x.name) ms) (module_name_is lib modules d m b.0) ∙ ap (λ ns. d.name ∷ ns) rest.names;
        long = ap suc rest.long;
      }

pub design_valid : Laws → (doc : Doc) (lib : Library) (design : Design) → LibraryFits lib → IsWrittenDoc doc → Builds doc lib (Ok design) → IsValidDesign lib design × Each design.modules Ordered
design_valid laws doc lib design fits w b =
    let all = all_built laws lib doc.modules fits w.modules doc.modules design.modules w.modules b in
    let few = w.count in
    let same = all.long in (
      record {
        modules = λ i m at. subst (λ (is : List Interface). IsValid lib is m) (sym all.ports) (each_of (IsValid lib (doc_interfaces doc.modules)) design.modules all.valid_each i m at);
        names = subst (λ (ns : List (List ℕ)). AreApart ns) (sym all.names) (distinct_apart (map module_name doc.modules) w.names);
        count = omega (arith, few, same);
      },
      λ i m at. each_of Ordered design.modules all.ordered_each i m at,
    )
