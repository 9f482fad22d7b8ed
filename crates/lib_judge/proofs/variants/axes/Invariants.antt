use Rattle.std.proofs.Common.{◌≡◌, [], length, map}
use Rattle.lib_judge.specs.Variants.{axes_from, first_name}
use Rattle.lib_judge.proofs.variants.axes.Given as goal

abbrev pub invariant-loop-rest : goal.invariant-loop-rest
invariant-loop-rest l = record {
  same : axes_from l.axes.items l.rest ≡ axes_from [] l.choices;
  named : l.names ≡ map first_name l.axes.items;
}

abbrev pub decreases-loop-rest : goal.decreases-loop-rest
decreases-loop-rest l = length l.rest
