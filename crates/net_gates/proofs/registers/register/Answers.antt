use Rattle.std.proofs.Common.{length, ap, ◌∙◌}
use Rattle.net_gates.proofs.NewRegister.{register_added}
use Rattle.net_gates.proofs.registers.register.Goals as goal

pub returns-clause-adds : goal.returns-clause-adds
returns-clause-adds c =
    register_added c.args.edit.now c.fresh.new.self c.add_reg.new.self c.args.pins c.from_vec.result c.in_ok-q.q c.from_vec-2.result _ (ap length c.as_slice.ensures) (c.from_vec-2.ensures ∙ c.new-2.ensures.items) c.in_ok-q.ensures.ok c.in_ok-q.ensures.nets c.in_ok-add_reg.ensures.ok c.requires.ready.within c.requires.known
