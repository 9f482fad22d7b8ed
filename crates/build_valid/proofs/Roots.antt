-- Clocks lead to inputs, and to what cells drive that are kept as they are.
use Rattle.std.proofs.Common.{◌≡◌, ℕ, zero, suc, List, [], ◌∷◌, ◌++◌, Some, slice_get, refl, sym, ap, ◌∙◌}
use Rattle.std.specs.List.{flat_map}
use Rattle.std.proofs.lemmas.Option.{same_Some}
use Rattle.lib_core.specs.declared.library.Library.{Library}
use Rattle.rtlil_text.specs.declared.doc.DocModule.{DocModule}
use Rattle.rtlil_text.specs.declared.doc.Item.{Item}
use Rattle.net_wires.specs.declared.clock.ClockRoot.{ClockRoot}
use Rattle.net_wires.specs.declared.number.Nets.{Nets}
use Rattle.net_wires.specs.declared.source.Source.{Source}
use Rattle.net_wires.specs.declared.source.Source.TheVariants as source
use Rattle.raw_cells.specs.declared.raw.CellShape.{CellShape}
use Rattle.raw_cells.specs.declared.raw.CellShape.TheVariants as shape
use Rattle.raw_cells.specs.declared.raw.RawCell.{RawCell}
use Rattle.raw_cells.specs.declared.raw.RawPin.{RawPin}
use Rattle.net_checks.specs.ClockPins.{cell_inverters, cell_roots, digits, places_in, root_bits, shape_roots}
use Rattle.net_build.specs.Means.{gathered_in, IsWired}
use Rattle.net_fits.specs.Clocks.{ClocksLeadToRoots, kept_by, kept_sources, root_sources, RootsAmong}
use Rattle.net_fits.specs.Driven.{input_sources}
use Rattle.net_fits.specs.Rams.{driving_sources}
use Rattle.build_valid.proofs.Wiring.{inputs_same}

-- a place among bits is one of them
in_places : (ss : List Source) (k p : ℕ) → slice_get (places_in ss) k ≡ Some p → (j : ℕ) × (slice_get ss j ≡ Some (source.At p))
in_places [] k p e = absurd cc
in_places (source.Zero ∷ ss) k p e = let r = in_places ss k p e in (suc r.0, r.1)
in_places (source.One ∷ ss) k p e = let r = in_places ss k p e in (suc r.0, r.1)
in_places (source.Loose ∷ ss) k p e = let r = in_places ss k p e in (suc r.0, r.1)
in_places (source.At q ∷ ss) zero p e = (zero, ap (λ n. Some (source.At n)) (same_Some q p e))
in_places (source.At q ∷ ss) (suc k) p e = let r = in_places ss k p e in (suc r.0, r.1)

kept_case : (s : CellShape) (ps : List RawPin) → shape_roots s (driving_sources ps) ≡ kept_by s ps
kept_case (shape.Comb r) ps = refl
kept_case (shape.Reg r) ps = refl
kept_case (shape.Carried k) ps = refl
kept_case (shape.Memory k r) ps = refl
kept_case (shape.Ram u) ps = refl

kept_same : (cs : List RawCell) → flat_map cell_roots cs ≡ kept_sources cs
kept_same [] = refl
kept_same (c ∷ cs) = ap (λ ss. ss ++ flat_map cell_roots cs) (kept_case c.shape c.pins) ∙ ap (λ ss. kept_by c.shape c.pins ++ ss) (kept_same cs)

roots_same : (is : List Item) (cs : List RawCell) → root_bits is cs ≡ root_sources is cs
roots_same is cs = ap (λ ss. ss ++ flat_map cell_roots cs) (inputs_same 0 is) ∙ ap (λ ss. input_sources 0 is ++ ss) (kept_same cs)

pub roots_among : ClocksLeadToRoots → (lib : Library) (modules : List DocModule) (d : DocModule) (nets : Nets) (roots : List ClockRoot) → IsWired d (gathered_in lib modules d) nets roots
    → RootsAmong (root_sources d.items (gathered_in lib modules d).cells) roots
roots_among lead lib modules d nets roots w i p flipped at =
    let g = gathered_in lib modules d in
    let there = lead _ g.places (places_in (root_bits d.items g.cells)) (flat_map cell_inverters g.cells) (digits g) roots w.clocks i p flipped at in
    let found = in_places (root_bits d.items g.cells) there.0 p there.1 in
    (found.0, ap (λ ss. slice_get ss found.0) (sym (roots_same d.items g.cells)) ∙ found.1)
