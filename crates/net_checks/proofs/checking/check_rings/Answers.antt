use Rattle.std.proofs.Common.{length, ap, arith}
use Rattle.net_wires.proofs.Ready.{length_links}
use Rattle.net_checks.proofs.checking.check_rings.Goals as goal

pub resolve-requires-clause-room : goal.resolve-requires-clause-room
resolve-requires-clause-room c = omega (arith, c.requires.follows.long, length_links c.args.gathered.now.places c.args.gathered.now.pairs, c.requires.sound.few)

pub wire_with-requires : goal.wire_with-requires
wire_with-requires c =
    omega (
      arith,
      ap length c.as_slice.ensures,
      c.requires.follows.rings.long,
      length_links c.args.gathered.now.places c.args.gathered.now.pairs,
      c.requires.sound.wires,
      c.requires.sound.first,
    )
