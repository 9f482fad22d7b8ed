use Rattle.std.proofs.Common.{◌≡◌, drop}
use Rattle.net_core.specs.Shape as shape
use Rattle.net_core.proofs.shapes.slots_fit.Given as goal

abbrev pub invariant-loop-group : goal.invariant-loop-group
invariant-loop-group l = shape.slots_fit l.fn.variant (drop l.group-index l.group-items) l.rest ≡ shape.slots_fit l.fn.variant l.fn.variant.groups l.fn.slots
