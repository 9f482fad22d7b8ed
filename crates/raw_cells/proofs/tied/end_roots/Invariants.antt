use Rattle.std.proofs.Common.{◌≡◌, map, take}
use Rattle.raw_cells.specs.Tied.{end_root}
use Rattle.raw_cells.proofs.tied.end_roots.Given as goal

abbrev pub invariant-loop-link : goal.invariant-loop-link
invariant-loop-link l = l.roots.items ≡ map (end_root l.count l.digits) (take l.link-index l.ends)
