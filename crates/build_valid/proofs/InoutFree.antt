-- A net at the place of an inout stands at no pin of the cells that are taken apart.
use Rattle.std.proofs.Common.{◌≡◌, inl, inr, ℕ, ◌<◌, Bool, true, false, List, [], ◌∷◌, length, get_or, Some, slice_get, refl, sym, ap, ◌∙◌, arith}
use Rattle.std.proofs.lemmas.Bool.{cases_lt}
use Rattle.std.proofs.lemmas.Bool.Decides.{nat_tests}
use Rattle.std.proofs.lemmas.List.{get_or_past}
use Rattle.std.proofs.lemmas.Option.{slice_get-get_or, slice_get_within}
use Rattle.rtlil_text.specs.Grammar.{All}
use Rattle.net_core.specs.declared.bits.Bit.{Bit}
use Rattle.net_core.specs.declared.bits.Bit.TheVariants as bits
use Rattle.net_wires.specs.declared.clock.ClockRoot.{ClockRoot}
use Rattle.net_wires.specs.declared.clock.ClockRoot.TheVariants as leads
use Rattle.net_wires.specs.declared.clock.Drive.{Drive}
use Rattle.net_wires.specs.declared.clock.Drive.TheVariants as drive
use Rattle.net_wires.specs.declared.link.Link.{Link}
use Rattle.net_wires.specs.declared.link.Link.TheVariants as links
use Rattle.net_wires.specs.declared.source.Pair.{Pair}
use Rattle.net_wires.specs.declared.source.Source.{Source}
use Rattle.net_wires.specs.declared.source.Source.TheVariants as source
use Rattle.net_wires.specs.Clocks as clocked
use Rattle.net_wires.specs.Clocks.{AreClocks, clock_of, LeadsToRoot}
use Rattle.net_wires.specs.Links.{IsWithin, links_of, PairsWithin, SourcesWithin}
use Rattle.net_wires.specs.Nets.{Resolves}
use Rattle.net_wires.proofs.Ready.{length_links}
use Rattle.raw_cells.specs.declared.raw.CellShape.{CellShape}
use Rattle.raw_cells.specs.declared.raw.CellShape.TheVariants as shape
use Rattle.raw_cells.specs.declared.raw.RawCell.{RawCell}
use Rattle.raw_cells.specs.declared.raw.RawPin.{RawPin}
use Rattle.raw_cells.specs.Clocks.{place_bit}
use Rattle.net_gather.specs.Laws.{CellsWithin}
use Rattle.net_cells.specs.Clocks.{bit_by}
use Rattle.net_fits.specs.Rams.{is_this}
use Rattle.build_valid.proofs.Free.{CellFree, CellsFree, PinsFree, SourceFree}
use Rattle.build_valid.proofs.InoutFaults.{at_inout, CellsOff, Off, ShapeOff}
use Rattle.build_valid.proofs.Untouched.{alone, leads_alone, links_off, PairsOff}

not_true : (b : Bool) → (b ≡ true → ⊥) → b ≡ false
not_true true f = absurd (f refl)
not_true false f = refl

this_net : (n : ℕ) (b : Bit) → is_this n b ≡ true → b ≡ bits.Net n
this_net n bits.Zero e = absurd cc
this_net n bits.One e = absurd cc
this_net n (bits.Net k) e = (let same : n ≡ k = grind (arith, nat_tests) in ap bits.Net (sym same))

root_within : (t : List Link) (ds : List Drive) (q r : ℕ) (flipped : Bool) → LeadsToRoot t ds q r flipped → r < length t
root_within t ds _ _ _ (clocked.here p e at is) = slice_get_within t p (links.End e) at
root_within t ds _ r f (LeadsToRoot.connect p q _ _ at rest) = root_within t ds q r f rest
root_within t ds _ r _ (clocked.invert p e q _ f at is rest) = root_within t ds q r f rest

no_root : (p : ℕ) (flipped : Bool) → leads.Unknown ≡ leads.Root p flipped → ⊥
no_root p flipped e = cc

pub root_at : (roots : List ClockRoot) (q p : ℕ) (flipped : Bool) → get_or roots q leads.Unknown ≡ leads.Root p flipped → slice_get roots q ≡ Some (leads.Root p flipped)
root_at roots q p flipped e =
    elim (cases_lt q (length roots)) [
      | inl h ↦ slice_get-get_or roots q leads.Unknown h ∙ ap (λ r. Some r) e
      | inr h ↦ absurd (no_root p flipped (sym (get_or_past roots q leads.Unknown h) ∙ e))
    ]

module _ (inouts : List Source) (m : ℕ) (ps : List Pair) (places : List Bit) (count : ℕ) (near : PairsWithin m ps) (off : PairsOff (at_inout inouts) ps) (solved : Resolves (links_of m ps) places count)
    (ds : List Drive) (roots : List ClockRoot) (clocks : AreClocks (links_of m ps) ds roots) (straight : (i q : ℕ) → slice_get ds i ≡ Some (drive.Inverts (source.At q)) → at_inout inouts q ≡ false)
    (r n : ℕ) (on : at_inout inouts r ≡ true) (there : r < m) (has : place_bit places r ≡ bits.Net n) where
  clash : (q : ℕ) → at_inout inouts q ≡ false → q ≡ r → ⊥
  clash q e same = let x : true ≡ false = sym on ∙ ap (at_inout inouts) (sym same) ∙ e in cc

  place_free : (q : ℕ) → q < m → at_inout inouts q ≡ false → is_this n (place_bit places q) ≡ false
  place_free q h e =
      not_true (is_this n (place_bit places q)) (λ this. clash q e (alone (at_inout inouts) m ps places count near off solved r q n on there h has (this_net n (place_bit places q) this)))

  root_free : (q p : ℕ) (flipped : Bool) → at_inout inouts q ≡ false → get_or roots q leads.Unknown ≡ leads.Root p flipped → is_this n (place_bit places p) ≡ false
  root_free q p flipped e is =
      let way : LeadsToRoot (links_of m ps) ds q p flipped = clocks.each q (leads.Root p flipped) (root_at roots q p flipped is) in
      let long = length_links m ps in
      let inside = root_within (links_of m ps) ds q p flipped way in
      not_true (is_this n (place_bit places p))
      (λ this.
      (let same : p ≡ r = alone (at_inout inouts) m ps places count near off solved r p n on there (omega (arith, inside, long)) has (this_net n (place_bit places p) this) in
      let on_p : at_inout inouts p ≡ true = ap (at_inout inouts) same ∙ on in
      clash q e (leads_alone (at_inout inouts) (links_of m ps) ds (links_off (at_inout inouts) m ps off) straight q p flipped on_p way ∙ same)))

  clock_case : (q : ℕ) (c : ClockRoot) → q < m → at_inout inouts q ≡ false → get_or roots q leads.Unknown ≡ c → is_this n (bit_by places (source.At q) c) ≡ false
  clock_case q leads.Never h e is = refl
  clock_case q leads.Unknown h e is = place_free q h e
  clock_case q (leads.Root p flipped) h e is = root_free q p flipped e is

  source_free : (s : Source) → IsWithin m s → Off inouts s → SourceFree n places roots s
  source_free source.Zero h e = (refl, refl)
  source_free source.One h e = (refl, refl)
  source_free source.Loose h e = (refl, refl)
  source_free (source.At q) h e = (place_free q h e, clock_case q (get_or roots q leads.Unknown) h e refl)

  sources_free : (ss : List Source) → SourcesWithin m ss → All (Off inouts) ss → All (SourceFree n places roots) ss
  sources_free [] w a = tt
  sources_free (s ∷ ss) w a = (source_free s w.0 a.0, sources_free ss w.1 a.1)

  pins_free : (qs : List RawPin) → All (λ (p : RawPin). SourcesWithin m p.bits) qs → All (λ (p : RawPin). All (Off inouts) p.bits) qs → PinsFree n places roots qs
  pins_free [] w a = tt
  pins_free (q ∷ qs) w a = (sources_free q.bits w.0 a.0, pins_free qs w.1 a.1)

  shape_free : (s : CellShape) (qs : List RawPin) → All (λ (p : RawPin). SourcesWithin m p.bits) qs → ShapeOff inouts s qs → CellFree n places roots s qs
  shape_free (shape.Comb q) qs w a = pins_free qs w a
  shape_free (shape.Reg q) qs w a = pins_free qs w a
  shape_free (shape.Carried k) qs w a = tt
  shape_free (shape.Memory k q) qs w a = pins_free qs w a
  shape_free (shape.Ram u) qs w a = pins_free qs w a

  pub cells_free : (cs : List RawCell) → CellsWithin m cs → CellsOff inouts cs → CellsFree n places roots cs
  cells_free [] w a = tt
  cells_free (c ∷ cs) w a = (shape_free c.shape c.pins w.0 a.0, cells_free cs w.1 a.1)
