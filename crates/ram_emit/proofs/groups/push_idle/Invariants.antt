use Rattle.std.proofs.Common.{◌≡◌, ◌+◌, ◌*◌, ◌<◌, ◌^◌, ◌++◌}
use Rattle.ram_emit.specs.Cell as spec
use Rattle.ram_emit.proofs.groups.push_idle.Given as goal

abbrev pub invariant-loop-left : goal.invariant-loop-left
invariant-loop-left l = record {
  slots : l.slots.items ++ spec.idle_uses l.variant l.group l.left l.at ≡ l.initial.slots.items ++ spec.idle_uses l.variant l.group l.count l.next;
  nets : l.at + l.left * spec.idle_nets l.variant l.group ≡ l.next + l.count * spec.idle_nets l.variant l.group;
  room : l.at + 1024 * l.left < 2 ^ 32;
}

abbrev pub decreases-loop-left : goal.decreases-loop-left
decreases-loop-left l = l.left
