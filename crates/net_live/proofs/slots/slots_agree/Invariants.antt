use Rattle.std.proofs.Common.{◌≡◌, drop}
use Rattle.net_live.specs.Slots.{slots_agree}
use Rattle.net_live.proofs.slots.slots_agree.Given as goal

abbrev pub invariant-loop-group : goal.invariant-loop-group
invariant-loop-group l = slots_agree (drop l.group-index l.group-items) l.rest ≡ slots_agree l.fn.variant.groups l.fn.slots
