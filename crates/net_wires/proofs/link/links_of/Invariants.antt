use Rattle.std.proofs.Common.{◌≡◌, drop}
use Rattle.net_wires.specs.Links.{links_of, tie_all}
use Rattle.net_wires.proofs.link.links_of.Given as goal

abbrev pub invariant-loop-pair : goal.invariant-loop-pair
invariant-loop-pair l = tie_all l.table.items (drop l.pair-index l.pairs) ≡ links_of l.count l.pairs
