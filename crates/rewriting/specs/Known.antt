-- What is known of a memory of a module between two rewritings: whether it is guarded, and which of its ports are quiet with
-- each other. Both speak of all runs of the module.
use Rattle.std.specs.Prelude.{◌≡◌, ℕ, ◌^◌, ◌<◌, ◌≤◌, true, false, List, Some, slice_get}
use Rattle.lib_core.specs.declared.library.Library.{Library}
use Rattle.net_core.specs.declared.mems.Mem.{Mem}
use Rattle.net_core.specs.declared.mems.RdPort.{RdPort}
use Rattle.net_core.specs.declared.mems.WrPort.{WrPort}
use Rattle.net_core.specs.declared.modules.Module.{Module}
use Rattle.net_core.specs.Memory.{base_of}
use Rattle.net_core.specs.Runs.{Run}
use Rattle.net_core.specs.Valid.{Each}
use Rattle.net_core.specs.Values.{Wave, Happening, At, value_of, values_of, bit_at}

-- In no run is an enable bit of the write 1 while its whole group of words is behind the last word.
abbrev pub WritesInside : Library → Module → Mem → WrPort → Type 0
WritesInside lib m x w =
    (events : List Happening) (v : Wave) → Run lib m events v → (t : ℕ) (e : Happening) → At events t e → (k : ℕ) → bit_at (values_of (v t) w.en) k ≡ true → base_of (v t) w.addr < x.size

-- so many address bits reach all words, and no port reaches more words than they do
pub record AreEnough (x : Mem) (bits : ℕ) : Type 0 where
  pub words : x.size ≤ 2 ^ bits
  pub reads : Each x.reads (λ r. r.wide ≤ bits)
  pub writes : Each x.writes (λ w. w.wide ≤ bits)

-- The first word has the address 0, the address has as few bits as are enough, and all writes are inside.
pub record IsGuarded (lib : Library) (m : Module) (x : Mem) : Type 0 where
  pub offset : x.offset ≡ 0
  pub enough : AreEnough x x.abits
  pub least : (bits : ℕ) → AreEnough x bits → x.abits ≤ bits
  pub inside : (l : ℕ) (w : WrPort) → slice_get x.writes l ≡ Some w → WritesInside lib m x w

-- In no run are the enable of the read and an enable bit of the write 1 at one moment.
abbrev pub AreQuiet : Library → Module → RdPort → WrPort → Type 0
AreQuiet lib m r w =
    (events : List Happening) (v : Wave) → Run lib m events v → (t : ℕ) (e : Happening) → At events t e → value_of (v t) r.en ≡ true → (k : ℕ) → bit_at (values_of (v t) w.en) k ≡ false

-- read j and write l of a memory are quiet
abbrev pub QuietAt : Library → Module → Mem → ℕ → ℕ → Type 0
QuietAt lib m x j l = (r : RdPort) (w : WrPort) → slice_get x.reads j ≡ Some r → slice_get x.writes l ≡ Some w → AreQuiet lib m r w

-- read j is quiet with each of these writes
abbrev pub QuietWith : Library → Module → Mem → ℕ → List ℕ → Type 0
QuietWith lib m x j writes = (a l : ℕ) → slice_get writes a ≡ Some l → QuietAt lib m x j l
