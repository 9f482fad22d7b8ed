use Rattle.std.proofs.Common.{◌≡◌, List, Bool, [], sym, ap, subst, ◌∙◌}
use Rattle.rtlil_text.specs.declared.doc.Item.{Item}
use Rattle.net_wires.specs.declared.clock.ClockRoot.{ClockRoot}
use Rattle.net_wires.specs.declared.following.Followed.{Followed}
use Rattle.net_wires.specs.declared.source.Pair.{Pair}
use Rattle.net_wires.specs.Links.{links_of}
use Rattle.net_wires.specs.Ties.{Follows, Marks}
use Rattle.net_wires.proofs.Ready.{links_within}
use Rattle.net_gather.specs.declared.gathering.Gathered.{Gathered}
use Rattle.net_checks.specs.declared.inouts.Inouts.{Inouts}
use Rattle.net_checks.specs.Checks.{checks_of, IsChecked, module_inouts, module_links, ring_faults}
use Rattle.net_checks.specs.ClockPins.{clock_faults}
use Rattle.net_checks.specs.Driven.{driver_faults}
use Rattle.net_checks.specs.Finds.{Halts}
use Rattle.net_checks.specs.Joined.{HasEnds}
use Rattle.net_checks.proofs.Alike.{one_marks}
use Rattle.net_checks.proofs.Contested.{has_ends}
use Rattle.net_checks.proofs.Handing.{finds_err, last_pass}
use Rattle.net_checks.proofs.checking.check.Goals as goal

follows : (g : Gathered) (ps : List Pair) (f : Followed) → ps ≡ g.pairs → Follows (links_of g.places ps) f → Follows (module_links g) f
follows g ps f e fs = subst (λ (qs : List Pair). Follows (links_of g.places qs) f) e fs

-- where nothing else is found, rings are all
rings_left : (x : Inouts) (items : List Item) (g : Gathered) (clocks : List ClockRoot) (found rings : List Bool) → driver_faults items g ≡ [] → module_inouts x items g ≡ [] → clock_faults clocks g.cells ≡ []
    → Marks (module_links g) found → Marks (module_links g) rings → checks_of x items g clocks rings ≡ ring_faults found items
rings_left x items g clocks found rings d i k a b =
    last_pass (driver_faults items g) (module_inouts x items g) (clock_faults clocks g.cells) (ring_faults rings items) d i k ∙ ap (λ (ms : List Bool). ring_faults ms items) (one_marks (module_links g) rings found b a)

pub check_drivers-requires-clause-ends : goal.check_drivers-requires-clause-ends
check_drivers-requires-clause-ends c =
    subst (HasEnds (module_links c.args.gathered.now)) (sym c.as_slice-2.ensures)
    (has_ends (module_links c.args.gathered.now) c.in_ok-followed.followed (links_within c.args.gathered.now.places c.args.gathered.now.pairs c.requires.sound.pairs)
    (follows c.args.gathered.now c.as_slice.result.now c.in_ok-followed.followed c.as_slice.ensures c.in_ok-followed.ensures.follows))

pub returns-in_err-places : goal.returns-in_err-places
returns-in_err-places c = λ clocks rings a m.
    let fs = follows c.args.gathered.now c.as_slice.result.now c.in_ok-followed.followed c.as_slice.ensures c.in_ok-followed.ensures.follows in
    let all =
    rings_left c.args.inouts.now c.args.items.now c.args.gathered.now clocks c.in_ok-followed.followed.rings rings c.in_ok-check_drivers.ensures.0 c.in_ok-check_inouts.ensures.0 (c.in_ok-roots.ensures clocks a).0 fs.rings m in
    finds_err c.from_residual-in_err-places.result c.in_err-places.field-0.0 (checks_of c.args.inouts.now c.args.items.now c.args.gathered.now clocks rings) (IsChecked c.args.gathered.now clocks)
    c.from_residual-in_err-places.ensures.1 (subst (Halts c.in_err-places.field-0.0) (sym all) c.in_err-places.ensures)

pub returns : goal.returns
returns c = λ clocks rings a m.
    let fs = follows c.args.gathered.now c.as_slice.result.now c.in_ok-followed.followed c.as_slice.ensures c.in_ok-followed.ensures.follows in
    let all =
    rings_left c.args.inouts.now c.args.items.now c.args.gathered.now clocks c.in_ok-followed.followed.rings rings c.in_ok-check_drivers.ensures.0 c.in_ok-check_inouts.ensures.0 (c.in_ok-roots.ensures clocks a).0 fs.rings m in
    (all ∙ c.in_ok-places.ensures.0, record { places = c.in_ok-places.ensures.1; roots = (c.in_ok-roots.ensures clocks a).1 })
