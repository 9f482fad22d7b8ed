use Rattle.std.proofs.Common.{sym, subst, arith}
use Rattle.net_wires.specs.Spans.{There, wire_bits}
use Rattle.net_wires.proofs.Reach.{all_there}
use Rattle.net_wires.proofs.names.names_of.Goals as goal

pub returns-clause-there : goal.returns-clause-there
returns-clause-there c = subst (There (wire_bits c.args.items.now)) (sym c.in_ok-names.ensures) (all_there c.args.items.now)

pub returns-clause-near : goal.returns-clause-near
returns-clause-near c = subst (There 4294967295) (sym c.in_ok-names.ensures) (λ name s e. let h = all_there c.args.items.now name s e in omega (arith, h, c.requires.room))
