use Rattle.std.specs.Vec.Iter.{into_iter_items}
use Rattle.plain_bind.proofs.Bounding.{Bounding}
use Rattle.plain_bind.proofs.binding.bind_plain.Given as goal

abbrev pub invariant-loop-module : goal.invariant-loop-module
invariant-loop-module l = Bounding l.lib l.fn.design l.fn.plans l.bound.items (into_iter_items l.module-iterator) l.rest
