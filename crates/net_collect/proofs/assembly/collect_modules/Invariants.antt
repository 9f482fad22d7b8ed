use Rattle.std.proofs.Common.{◌≡◌, ◌++◌, map}
use Rattle.std.specs.Vec.Iter.{into_iter_items}
use Rattle.net_collect.specs.Collected as spec
use Rattle.net_collect.proofs.assembly.collect_modules.Given as goal

abbrev pub invariant-loop-module : goal.invariant-loop-module
invariant-loop-module l =
    (spec.faults_in (into_iter_items l.module-iterator) ≡ spec.faults_in l.fn.modules)
    × (l.whole.items ++ map spec.collected (into_iter_items l.module-iterator) ≡ map spec.collected l.fn.modules)
