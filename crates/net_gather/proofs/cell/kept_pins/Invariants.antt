use Rattle.std.proofs.Common.{◌≡◌, take}
use Rattle.net_gather.specs.Faces.{faces_drive}
use Rattle.net_gather.specs.OpenPins.{kept_pins}
use Rattle.net_gather.proofs.cell.kept_pins.Given as goal

abbrev pub invariant-loop-pin : goal.invariant-loop-pin
invariant-loop-pin l = l.list.items ≡ kept_pins (λ p. faces_drive l.faces l.kind p) (take l.pin-index l.pins)
