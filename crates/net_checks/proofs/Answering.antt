-- What the checks speak of is there: where places lead, and marks of rings.
use Rattle.std.proofs.Common.{◌≡◌, inr, ℕ, ◌*◌, ◌^◌, ◌<◌, ◌≤◌, Bool, false, List, map, length, get_or, replicate, refl, sym, subst, ◌∙◌, arith}
use Rattle.std.specs.List.{flat_map, range_with_len}
use Rattle.rtlil_text.specs.declared.doc.Item.{Item}
use Rattle.net_wires.specs.declared.clock.ClockRoot.{ClockRoot}
use Rattle.net_wires.specs.declared.clock.Drive.{Drive}
use Rattle.net_wires.specs.declared.link.Link.{Link}
use Rattle.net_wires.specs.declared.link.Link.TheVariants.{To, Zero}
use Rattle.net_wires.specs.declared.source.Pair.{Pair}
use Rattle.net_wires.specs.Clocks.{AreClocks}
use Rattle.net_wires.specs.Doubling.{mark_all, power, Tied}
use Rattle.net_wires.specs.Links.{links_of, PairsWithin}
use Rattle.net_wires.specs.Ties.{AllInside, Circles, Leads, Marks}
use Rattle.net_wires.specs.Ways.{DrivesWithin, root_at, ways}
use Rattle.net_wires.proofs.Driven.{drives_in, length_drives}
use Rattle.net_wires.proofs.Marking.{marks_right}
use Rattle.net_wires.proofs.Ready.{length_links, links_in, links_within}
use Rattle.net_wires.proofs.Rooting.{are_clocks, ways_closed}
use Rattle.net_gather.specs.declared.gathering.Gathered.{Gathered}
use Rattle.net_checks.specs.Checks.{IsSound, module_links}
use Rattle.net_checks.specs.ClockPins.{cell_inverters, clock_drives, digits, places_in, root_bits}
use Rattle.net_checks.specs.Driven.{end_of}
use Rattle.net_checks.proofs.Contested.{end_is, no_end}
use Rattle.net_checks.proofs.Inverting.{inverters_within}

doubled_far : (t : List Link) → Tied t (power t 32)
doubled_far t = record { rounds = 32; is = refl; far = inr refl }

short_enough : (n m : ℕ) → n ≤ 4194304 → m ≡ n → m < 1073741824
short_enough n m h e = omega (arith, h, e)

clocks_by : (t : List Link) (ds : List Drive) → length t < 2 ^ 30 → length ds ≡ length t → AllInside (length t) t → DrivesWithin (length t) ds → (clocks : List ClockRoot) × AreClocks t ds clocks
clocks_by t ds room long inside within =
    let ends = power (ways t ds) 32 in
    (map (λ p. root_at (get_or ends (3 * p) Zero)) (range_with_len 0 (length t)), are_clocks t ds ends _ room long inside within (ways_closed t ds long inside within) (doubled_far (ways t ds)) refl)

pub clocks_there : (items : List Item) (g : Gathered) → IsSound items g → (clocks : List ClockRoot) × AreClocks (module_links g) (clock_drives items g) clocks
clocks_there items g s =
    let n = g.places in
    let long : length (module_links g) ≡ n = length_links n g.pairs in
    let drives_long : length (clock_drives items g) ≡ n = length_drives n (places_in (root_bits items g.cells)) (flat_map cell_inverters g.cells) (digits g) in
    clocks_by (module_links g) (clock_drives items g) (short_enough n (length (module_links g)) s.few long) (drives_long ∙ sym long) (subst (λ k. AllInside k (module_links g)) (sym long) (links_in n g.pairs s.pairs))
    (subst (λ k. DrivesWithin k (clock_drives items g)) (sym long) (drives_in n (places_in (root_bits items g.cells)) (flat_map cell_inverters g.cells) (digits g) (inverters_within n g.cells s.cells)))

pub rings_there : (items : List Item) (g : Gathered) → IsSound items g → (rings : List Bool) × Marks (module_links g) rings
rings_there items g s =
    let t = module_links g in
    (mark_all (replicate (length (power t 32)) false) (power t 32), marks_right t (power t 32) (doubled_far t) (links_within g.places g.pairs s.pairs) (omega (arith, s.few, length_links g.places g.pairs)))

pub ends_are_ends : (n : ℕ) (ps : List Pair) (p : ℕ) → PairsWithin n ps → p < n
    → ((e : Link) → Leads (links_of n ps) (To p) e → end_of (links_of n ps) p ≡ e) × ((j : ℕ) → Circles (links_of n ps) p j → (k : ℕ) × (end_of (links_of n ps) p ≡ To k))
ends_are_ends n ps p w h = (λ e l. end_is (links_of n ps) p e (links_within n ps w) (omega (arith, h, length_links n ps)) l, λ j c. no_end (links_of n ps) p j c)
