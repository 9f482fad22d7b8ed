use Rattle.std.proofs.Common.{sym, subst}
use Rattle.net_core.specs.Search.{IsClosed}
use Rattle.net_loops.specs.Graphs.{AreTurned}
use Rattle.net_loops.proofs.Linking.{turned_closed}
use Rattle.net_loops.proofs.levels.levels_of.Goals as goal

pub levels_by-requires-clause-closed_back : goal.levels_by-requires-clause-closed_back
levels_by-requires-clause-closed_back c = subst IsClosed (sym c.as_slice.ensures.value) (turned_closed c.args.graph.now c.in_ok-turned.turned.items c.in_ok-turned.ensures.len c.in_ok-turned.ensures.turned)

pub levels_by-requires-clause-turned : goal.levels_by-requires-clause-turned
levels_by-requires-clause-turned c = subst (AreTurned c.args.graph.now) (sym c.as_slice.ensures.value) c.in_ok-turned.ensures.turned
