use Rattle.std.proofs.Common.{◌≡◌, ◌++◌, map, take, drop}
use Rattle.net_edit.specs.Redirect.{redirected_pin}
use Rattle.net_edit.proofs.redirect.redirect_pins.Given as goal

abbrev pub invariant-loop-pin : goal.invariant-loop-pin
invariant-loop-pin l = l.pin-items ≡ map (redirected_pin l.reads) (take l.pin-index l.initial.pin-items) ++ drop l.pin-index l.initial.pin-items
