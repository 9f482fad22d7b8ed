use Rattle.std.proofs.Common.{rules, ◌≡◌, ◌++◌, ◌∷◌, [], arith}
use Rattle.ram_emit.specs.Cell as spec
use Rattle.ram_emit.proofs.Pushing.{idle_more, step_nets, idle_few}
use Rattle.ram_emit.proofs.groups.push_idle.Goals as goal

pub loop-left-preserved : goal.loop-left-preserved
loop-left-preserved c =
    let x = c.args.variant.now in
    let g = c.args.group.now in
    let left = c.loop-left.left in
    let some = c.loop-left-test.true in
    let put : c.push.new.self.items ≡ c.loop-left.slots.items ++ c.in_ok-idle_use.field-0 ∷ [] = search rules in
    let is : c.in_ok-idle_use.field-0 ≡ spec.idle_use x g c.loop-left.at = c.in_ok-idle_use.ensures in
    let nets : c.idle_nets.result ≡ spec.idle_nets x g = c.idle_nets.ensures in
    let few = idle_few x g c.requires.width in
    record {
      slots = rw nets (idle_more x g left c.loop-left.at c.loop-left.slots.items c.push.new.self.items _ c.in_ok-idle_use.field-0 some is put c.loop-left.invariant.slots);
      nets = rw nets (step_nets left c.loop-left.at (spec.idle_nets x g) _ some c.loop-left.invariant.nets);
      room = omega (arith, few, nets, some, c.loop-left.invariant.room);
    }
