-- A module with nothing wrong whose places have bits is solved.
use Rattle.std.proofs.Common.{◌≡◌, ℕ, ◌+◌, ◌&&◌, false, not, List, [], ◌∷◌, ◌++◌, refl, ap, subst}
use Rattle.std.specs.Prelude.{if◌then◌else◌}
use Rattle.lib_core.specs.declared.library.Library.{Library}
use Rattle.rtlil_text.specs.declared.doc.DocModule.{DocModule}
use Rattle.rtlil_text.specs.declared.doc.Item.{Item}
use Rattle.rtlil_text.specs.declared.doc.Item.TheVariants as item
use Rattle.net_wires.specs.declared.clock.ClockRoot.{ClockRoot}
use Rattle.net_wires.specs.declared.number.Nets.{Nets}
use Rattle.net_wires.specs.declared.source.Source.{Source}
use Rattle.net_wires.specs.Drivers.{has_conflict}
use Rattle.net_wires.specs.Signals.{run_bits}
use Rattle.net_gather.specs.declared.gathering.Gathered.{Gathered}
use Rattle.net_gather.specs.Gather.{faults_of}
use Rattle.net_checks.specs.declared.marking.Port.TheVariants as port
use Rattle.net_checks.specs.Driven.{driven}
use Rattle.net_checks.specs.Laws.{GatheredIsSound}
use Rattle.net_checks.specs.Marks.{port_bits}
use Rattle.net_build.specs.Faults.{IsFaultless}
use Rattle.net_build.specs.Means.{context_in, gathered_in, IsWired}
use Rattle.net_fits.specs.Driven.{cell_sources, driven_of, input_sources, IsSolved, left_sources}
use Rattle.build_valid.proofs.Faultless.{no_conflict, no_rings, none_mapped}
use Rattle.build_valid.proofs.Resolving.{resolving}

-- the bits of input wires, by both words
pub inputs_same : (from : ℕ) (is : List Item) → port_bits port.Input from is ≡ input_sources from is
inputs_same from [] = refl
inputs_same from (item.Wire w ∷ is) = ap (λ ss. (if w.input && not w.output then run_bits from w.width else []) ++ ss) (inputs_same (from + w.width) is)
inputs_same from (item.Param p ∷ is) = inputs_same from is
inputs_same from (item.Mem m ∷ is) = inputs_same from is
inputs_same from (item.Cell c ∷ is) = inputs_same from is
inputs_same from (item.Connect l r ∷ is) = inputs_same from is

-- and what is driven
pub driven_same : (is : List Item) (g : Gathered) → driven is g ≡ driven_of is g
driven_same is g = ap (λ ss. ss ++ (left_sources g.pairs ++ cell_sources g.cells)) (inputs_same 0 is)

pub wired_solved : GatheredIsSound → (lib : Library) (modules : List DocModule) (d : DocModule) (nets : Nets) (roots : List ClockRoot) → IsFaultless lib modules d → IsWired d (gathered_in lib modules d) nets roots
    → IsSolved (context_in lib modules d) d nets.bits nets.count
wired_solved sound lib modules d nets roots f w =
    let x = context_in lib modules d in
    let g = gathered_in lib modules d in
    let s = sound x d.items refl (none_mapped _ (faults_of x d.items) f.gathered) in
    record {
      names = refl;
      resolves = resolving g.places g.pairs nets.bits nets.count s.pairs (no_rings lib modules d f.checked) w.long w.solves w.in_order;
      drivers = subst (λ (ss : List Source). has_conflict g.places ss ≡ false) (driven_same d.items g) (no_conflict lib modules d f.checked);
    }
