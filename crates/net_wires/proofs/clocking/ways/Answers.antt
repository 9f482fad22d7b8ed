use Rattle.std.proofs.Common.{arith}
use Rattle.net_wires.specs.declared.clock.Drive.TheVariants.{Open}
use Rattle.net_wires.specs.declared.link.Link.TheVariants.{Zero}
use Rattle.net_wires.specs.Ways.{hop}
use Rattle.net_wires.proofs.Driven.{drive_there, link_there, range_turn}
use Rattle.net_wires.proofs.clocking.ways.Goals as goal

pub through-requires-clause-link : goal.through-requires-clause-link
through-requires-clause-link c = link_there c.args.links.now 1073741824 c.loop-node.node Zero c.requires.links (omega (arith, c.requires.room)) c.loop-node-test.true

pub through-requires-clause-drive : goal.through-requires-clause-drive
through-requires-clause-drive c = drive_there c.args.drives.now _ 1073741824 c.loop-node.node Open c.requires.long c.requires.drives (omega (arith, c.requires.room)) c.loop-node-test.true

pub loop-node-preserved : goal.loop-node-preserved
loop-node-preserved c = range_turn (hop c.args.links.now c.args.drives.now) c.loop-node.node c.loop-node.table.items c.push.new.self.items c.through.result c.loop-node.invariant c.through.ensures c.in_ok-push.ensures.items
