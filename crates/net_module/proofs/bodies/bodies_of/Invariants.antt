use Rattle.std.specs.Vec.Iter.{into_iter_items}
use Rattle.net_module.specs.Bodies.{Lead}
use Rattle.net_module.proofs.bodies.bodies_of.Given as goal

abbrev pub invariant-loop-cell : goal.invariant-loop-cell
invariant-loop-cell l = Lead (into_iter_items l.cell-iterator) l.fn.cells.items l.bodies
