use Rattle.std.proofs.Common.{◌↔◌, length}
use Rattle.net_core.specs.Valid.{Each}
use Rattle.net_live.specs.Sound.{IsTestable}
use Rattle.net_live.proofs.sound.design_is_sound.Given as goal

abbrev pub invariant-loop-rest : goal.invariant-loop-rest
invariant-loop-rest l = Each l.rest (IsTestable l.lib) ↔ Each l.design.modules (IsTestable l.lib)

abbrev pub decreases-loop-rest : goal.decreases-loop-rest
decreases-loop-rest l = length l.rest
