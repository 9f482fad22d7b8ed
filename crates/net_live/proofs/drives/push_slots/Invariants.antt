use Rattle.std.proofs.Common.{◌≡◌, ◌++◌, drop}
use Rattle.std.specs.List.{flat_map}
use Rattle.net_live.proofs.drives.push_slots.Given as goal

abbrev pub invariant-loop-slot : goal.invariant-loop-slot
invariant-loop-slot l = l.nets.items ++ flat_map (λ s. s.out) (drop l.slot-index l.slots) ≡ l.initial.nets.items ++ flat_map (λ s. s.out) l.slots
