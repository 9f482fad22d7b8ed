use Rattle.std.proofs.Common.{◌≡◌, ◌++◌, drop}
use Rattle.std.specs.List.{flat_map}
use Rattle.net_live.proofs.drives.push_regs.Given as goal

abbrev pub invariant-loop-reg : goal.invariant-loop-reg
invariant-loop-reg l = l.nets.items ++ flat_map (λ r. r.q) (drop l.reg-index l.regs) ≡ l.initial.nets.items ++ flat_map (λ r. r.q) l.regs
