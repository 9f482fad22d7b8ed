use Rattle.std.proofs.Common.{arith}
use Rattle.net_edit.proofs.Named.{comb_added}
use Rattle.net_edit.proofs.edit.Edit.add_comb.Goals as goal

pub returns-clause-ok : goal.returns-clause-ok
returns-clause-ok c =
    let inside = c.self.inside in
    comb_added c.args.self.now inside.«module» inside.reads.items inside.front inside.count c.in_ok-name.field-0.name c.args.cell c.push.new.self c.self.view_is c.self.invariant.0 c.self.invariant.1 (omega arith) c.in_ok-name.ensures.name c.in_ok-push.ensures.ok
