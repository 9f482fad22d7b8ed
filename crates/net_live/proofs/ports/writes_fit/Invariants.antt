use Rattle.std.proofs.Common.{◌≡◌, drop}
use Rattle.net_live.specs.Fitting as fitting
use Rattle.net_live.proofs.ports.writes_fit.Given as goal

abbrev pub invariant-loop-own : goal.invariant-loop-own
invariant-loop-own l = fitting.writes_fit_from l.mem l.own (drop l.own l.mem.writes) ≡ fitting.writes_fit_from l.mem 0 l.mem.writes
