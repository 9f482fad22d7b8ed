use Rattle.std.proofs.Common.{◌≡◌, ◌-◌, length}
use Rattle.net_collect.specs.Naming as spec
use Rattle.net_collect.proofs.naming.Taken.free_name.Given as goal

abbrev pub invariant-loop : goal.invariant-loop
invariant-loop l = spec.longer (length l.self - l.counter) l.self l.name ≡ spec.free_name l.fn.self l.fn.name
