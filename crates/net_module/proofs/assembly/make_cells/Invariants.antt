use Rattle.std.proofs.Common.{◌≡◌, ◌++◌, ◌+◌, length, map}
use Rattle.net_loops.specs.Loops.{node_of}
use Rattle.net_module.specs.Nodes as spec
use Rattle.net_module.specs.Made.{wiring}
use Rattle.net_module.specs.PartNodes.{memories}
use Rattle.net_module.proofs.assembly.make_cells.Given as goal

abbrev pub invariant-loop-rest : goal.invariant-loop-rest
invariant-loop-rest l =
    (l.making.cells.items ++ spec.all_made (wiring l.around) l.rest ≡ spec.all_made (wiring l.fn.around) l.fn.cells)
    × (map node_of l.making.nodes.items ++ spec.nodes_in (memories l.memories) (wiring l.around) l.rest ≡ spec.nodes_in (memories l.fn.memories) (wiring l.fn.around) l.fn.cells)
    × (l.making.owners.items ++ spec.owners_in (memories l.memories) (wiring l.around) l.number l.rest ≡ spec.owners_in (memories l.fn.memories) (wiring l.fn.around) 0 l.fn.cells)
    × (length l.making.owners.items ≡ length l.making.nodes.items)
    × (l.number + length l.rest ≡ length l.fn.cells)
    × spec.AreShapesWithin l.rest

abbrev pub decreases-loop-rest : goal.decreases-loop-rest
decreases-loop-rest l = length l.rest
