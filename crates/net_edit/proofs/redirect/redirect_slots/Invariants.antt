use Rattle.std.proofs.Common.{◌≡◌, ◌++◌, map, take, drop}
use Rattle.net_edit.specs.Redirect.{redirected_slot}
use Rattle.net_edit.proofs.redirect.redirect_slots.Given as goal

abbrev pub invariant-loop-slot : goal.invariant-loop-slot
invariant-loop-slot l = l.slot-items ≡ map (redirected_slot l.reads) (take l.slot-index l.initial.slot-items) ++ drop l.slot-index l.initial.slot-items
