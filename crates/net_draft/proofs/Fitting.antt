-- Memories that fit, one by one.
use Rattle.std.proofs.Common.{suc, List, ◌∷◌, refl}
use Rattle.lib_core.specs.declared.library.Library.{Library}
use Rattle.net_core.specs.declared.mems.Mem.{Mem}
use Rattle.net_core.specs.declared.modules.Module.{Module}
use Rattle.net_core.specs.Valid.{MemFits}
use Rattle.net_live.specs.Sound.{IsSound}
use Rattle.net_draft.specs.Cells.{AllFit}

pub first_fits : (m : Mem) (ms : List Mem) → AllFit (m ∷ ms) → MemFits m
unfolding AllFit
first_fits m ms h = h 0 m refl

pub others_fit : (m : Mem) (ms : List Mem) → AllFit (m ∷ ms) → AllFit ms
unfolding AllFit
others_fit m ms h i x e = h (suc i) x e

pub sound_fits : (lib : Library) (m : Module) → IsSound lib m → AllFit m.mems
unfolding AllFit
sound_fits lib m s = s.mems
