use Rattle.std.proofs.Common.{◌≡◌, ◌++◌, take}
use Rattle.lib_judge.proofs.faults.add_options.Given as goal

abbrev pub invariant-loop-option : goal.invariant-loop-option
invariant-loop-option l = l.options.items ≡ l.initial.options.items ++ take l.option-index l.more
