use Rattle.std.proofs.Common.{◌≡◌, map, List}
use Rattle.std.specs.List.{range_with_len}
use Rattle.net_wires.specs.declared.source.Source.{Source}
use Rattle.net_wires.specs.Drivers.{is_doubly_driven, Tally}
use Rattle.net_checks.proofs.drivers.doubles.Given as goal

abbrev pub invariant-loop-place : goal.invariant-loop-place
invariant-loop-place l = (driven : List Source) → Tally l.count driven l.drivers → l.marks.items ≡ map (is_doubly_driven driven) (range_with_len 0 l.place)
