use Rattle.std.proofs.Common.{rules, ◌≡◌}
use Rattle.std.specs.Option.{option_copied}
use Rattle.ram_emit.specs.Cell as spec
use Rattle.ram_emit.proofs.Pushing.{pushed_step}
use Rattle.ram_emit.proofs.groups.ports_of.Goals as goal

pub loop-rest-preserved : goal.loop-rest-preserved
loop-rest-preserved c =
    let there : option_copied c.write_in-write.result ≡ spec.write_in c.loop-rest.number c.args.mem.now.writes c.args.choice.now.writes = search rules in
    let rides : option_copied c.read_in-read.result ≡ spec.read_in c.loop-rest.number c.args.mem.now.reads c.args.choice.now.reads = search rules in
    pushed_step c.args.variant.now c.args.mem.now c.args.choice.now c.loop-rest.slots.items c.push_group.new.slots.items c.loop-rest.next c.in_ok-next.next c.loop-rest.number c.loop-rest.rest.now c.group-item.result
    (option_copied c.write_in-write.result) (option_copied c.read_in-read.result) _ _ c.requires.width c.in-len1-up.len_at_least c.group-item.is there rides c.in_ok-next.ensures.slots c.in_ok-next.ensures.nets c.loop-rest.invariant
