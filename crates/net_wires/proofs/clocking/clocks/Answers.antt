use Rattle.std.proofs.Common.{◌≡◌, List, ap, arith, length, subst, sym, ◌∙◌}
use Rattle.std.specs.Result.{IfOk}
use Rattle.net_wires.specs.declared.clock.Drive.{Drive}
use Rattle.net_wires.specs.declared.link.Link.{Link}
use Rattle.net_wires.specs.Clocks.{AreClocks, drives}
use Rattle.net_wires.specs.Links.{links_of}
use Rattle.net_wires.specs.Ties.{AllInside}
use Rattle.net_wires.specs.Ways.{DrivesWithin}
use Rattle.net_wires.proofs.Driven.{drives_in, length_drives}
use Rattle.net_wires.proofs.Ready.{length_links, links_in}
use Rattle.net_wires.proofs.clocking.clocks.Goals as goal

pub clocks_of-requires-clause-room : goal.clocks_of-requires-clause-room
clocks_of-requires-clause-room c = omega (arith, ap length (c.as_slice.ensures.value ∙ c.in_ok-links.ensures), length_links c.args.count c.args.pairs.now, c.requires.room)

pub clocks_of-requires-clause-long : goal.clocks_of-requires-clause-long
clocks_of-requires-clause-long c =
    ap length (c.as_slice-2.ensures.value ∙ c.in_ok-drives.ensures) ∙ length_drives c.args.count c.args.roots.now c.args.inverters.now c.args.digits.now
    ∙ sym (ap length (c.as_slice.ensures.value ∙ c.in_ok-links.ensures) ∙ length_links c.args.count c.args.pairs.now)

pub clocks_of-requires-clause-links : goal.clocks_of-requires-clause-links
clocks_of-requires-clause-links c =
    let is : c.as_slice.result.now ≡ links_of c.args.count c.args.pairs.now = c.as_slice.ensures.value ∙ c.in_ok-links.ensures in
    subst (λ (t : List Link). AllInside (length t) t) (sym is)
    (subst (λ n. AllInside n (links_of c.args.count c.args.pairs.now)) (sym (length_links c.args.count c.args.pairs.now)) (links_in c.args.count c.args.pairs.now c.requires.within))

pub clocks_of-requires-clause-drives : goal.clocks_of-requires-clause-drives
clocks_of-requires-clause-drives c =
    let is : c.as_slice-2.result.now ≡ drives c.args.count c.args.roots.now c.args.inverters.now c.args.digits.now = c.as_slice-2.ensures.value ∙ c.in_ok-drives.ensures in
    let long : length c.as_slice.result.now ≡ c.args.count = ap length (c.as_slice.ensures.value ∙ c.in_ok-links.ensures) ∙ length_links c.args.count c.args.pairs.now in
    subst (DrivesWithin (length c.as_slice.result.now)) (sym is)
    (subst (λ n. DrivesWithin n (drives c.args.count c.args.roots.now c.args.inverters.now c.args.digits.now)) (sym long) (drives_in c.args.count c.args.roots.now c.args.inverters.now c.args.digits.now c.requires.inverters))

pub returns : goal.returns
returns c =
    subst (λ (t : List Link). IfOk c.clocks_of.result (AreClocks t (drives c.args.count c.args.roots.now c.args.inverters.now c.args.digits.now))) (c.as_slice.ensures.value ∙ c.in_ok-links.ensures)
    (subst (λ (ds : List Drive). IfOk c.clocks_of.result (AreClocks c.as_slice.result.now ds)) (c.as_slice-2.ensures.value ∙ c.in_ok-drives.ensures) c.clocks_of.ensures)
