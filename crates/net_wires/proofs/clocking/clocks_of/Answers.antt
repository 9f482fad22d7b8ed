use Rattle.std.proofs.Common.{◌*◌, ℕ, List, ap, length, map, get_or, subst, ◌∙◌}
use Rattle.std.specs.List.{range_with_len}
use Rattle.std.proofs.lemmas.List.FromFn.{length-map-range_with_len}
use Rattle.net_wires.specs.declared.link.Link.{Link}
use Rattle.net_wires.specs.declared.link.Link.TheVariants.{Zero}
use Rattle.net_wires.specs.Doubling.{Tied}
use Rattle.net_wires.specs.Ways.{hop, root_at, ways}
use Rattle.net_wires.proofs.Rooting.{are_clocks, ways_closed}
use Rattle.net_wires.proofs.Walks.{length_power}
use Rattle.net_wires.proofs.clocking.clocks_of.Goals as goal

pub roots_at-requires : goal.roots_at-requires
roots_at-requires c =
    let d : Tied (ways c.args.links.now c.args.drives.now) c.in_ok-ends.ends.items = subst (λ (u : List Link). Tied u c.in_ok-ends.ends.items) c.in_ok-ways.ensures c.in_ok-ends.ensures in
    ap length (c.as_slice.ensures.value ∙ d.is) ∙ length_power (ways c.args.links.now c.args.drives.now) d.rounds ∙ length-map-range_with_len (hop c.args.links.now c.args.drives.now) 0 (3 * length c.args.links.now)

pub returns : goal.returns
returns c =
    are_clocks c.args.links.now c.args.drives.now c.in_ok-ends.ends.items c.from_vec.result c.requires.room c.requires.long c.requires.links c.requires.drives
    (ways_closed c.args.links.now c.args.drives.now c.requires.long c.requires.links c.requires.drives)
    (subst (λ (u : List Link). Tied u c.in_ok-ends.ends.items) c.in_ok-ways.ensures c.in_ok-ends.ensures)
    (c.from_vec.ensures ∙ c.in_ok-clocks.ensures ∙ ap (λ (xs : List Link). map (λ (p : ℕ). root_at (get_or xs (3 * p) Zero)) (range_with_len 0 (length c.args.links.now))) c.as_slice.ensures.value)
