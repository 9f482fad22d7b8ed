use Rattle.std.proofs.Common.{◌≡◌, ◌+◌, ◌-◌, ◌/◌, ◌^◌, ◌<◌}
use Rattle.lib_core.specs.Rams.{width_at}
use Rattle.geom_core.specs.Places.{place_above}
use Rattle.geom_core.proofs.geometry.Geometry.lift.Given as goal

abbrev pub invariant-loop-level : goal.invariant-loop-level
invariant-loop-level g l =
    (place_above l.self.widths (l.high - l.level) l.level l.place.word l.place.bit ≡ place_above l.self.widths (l.high - l.low) l.low l.fn.word l.fn.bit)
    × (l.place.bit < width_at l.self.widths l.level)
    × (l.place.word ≡ l.fn.word / 2 ^ (l.level - l.low))
