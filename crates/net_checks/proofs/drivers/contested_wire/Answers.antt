use Rattle.std.proofs.Common.{◌≡◌, ℕ, Bool, List, Option, length, sym, ap, subst, ◌∙◌, arith}
use Rattle.std.specs.Result.{IfOk}
use Rattle.net_wires.specs.Drivers.{is_doubly_driven}
use Rattle.net_wires.specs.Links.{links_of}
use Rattle.net_wires.proofs.Ready.{length_links}
use Rattle.net_checks.specs.Driven.{driven, is_contested}
use Rattle.net_checks.specs.Marks.{is_marked, wire_with}
use Rattle.net_checks.proofs.Contested.{joined_same, wire_same}
use Rattle.net_checks.proofs.drivers.contested_wire.Goals as goal

pub wire_with-requires : goal.wire_with-requires
wire_with-requires c =
    omega (
      arith,
      ap length c.as_slice-2.ensures.value,
      c.in_ok-joined.ensures.long,
      c.requires.ends.long,
      length_links c.args.gathered.now.places c.args.gathered.now.pairs,
      c.requires.sound.wires,
      c.requires.sound.first,
    )

pub returns : goal.returns
returns c =
    let n = c.args.gathered.now.places in
    let so : ℕ → Bool = is_doubly_driven (driven c.args.items.now c.args.gathered.now) in
    let long : length (links_of n c.args.gathered.now.pairs) ≡ n = length_links n c.args.gathered.now.pairs in
    let same : wire_with (is_marked c.as_slice-2.result.now) 0 c.args.items.now ≡ wire_with (is_contested c.args.items.now c.args.gathered.now) 0 c.args.items.now =
    wire_same (is_marked c.as_slice-2.result.now) (is_contested c.args.items.now c.args.gathered.now) n 0 c.args.items.now
    (λ p h.
    ap (λ (ms : List Bool). is_marked ms p) c.as_slice-2.ensures.value
    ∙ joined_same (links_of n c.args.gathered.now.pairs) c.args.ends.now so c.as_slice.result.now c.in_ok-joined.joined.items n p c.requires.ends (sym long)
    (c.as_slice.ensures.value ∙ c.in_ok-doubles.ensures (driven c.args.items.now c.args.gathered.now) c.requires.tally) c.in_ok-joined.ensures h)
    (omega (arith, c.requires.sound.wires, c.requires.sound.first)) in
    subst (λ (o : Option (List ℕ)). IfOk c.wire_with.result (λ name. name ≡ o)) same c.wire_with.ensures
