-- The limits of a memory and of a library under which its candidates are judged: every memory of a valid module has them,
-- and every library that a text gives.
use Rattle.std.specs.Prelude.{◌*◌, ◌≤◌, ◌<◌, length, IfSome}
use Rattle.lib_core.specs.declared.library.Library.{Library}
use Rattle.lib_core.specs.declared.library.RamKind.{RamKind}
use Rattle.lib_core.specs.declared.library.Variant.{Variant}
use Rattle.net_core.specs.declared.mems.Mem.{Mem}
use Rattle.net_core.specs.declared.mems.MemJob.{MemJob}
use Rattle.net_core.specs.Valid.{Each, MemFits}
use Rattle.geom_core.specs.Places.{IsSized}
use Rattle.fit_rules.specs.declared.spots.Spot.{Spot}

pub record MemLimits (m : Mem) : Type 0 where
  pub size : m.size ≤ 1048576
  pub some_bits : 1 ≤ m.width
  pub few_bits : m.width ≤ 65536
  pub bits : m.size * m.width ≤ 8388608
  pub abits : m.abits ≤ 32
  pub reads : Each m.reads (λ r. r.wide ≤ 6)
  pub writes : Each m.writes (λ w. w.wide ≤ 6)
  pub enables : Each m.writes (λ w. length w.en ≤ 4194304)

pub record VariantLimits (x : Variant) : Type 0 where
  pub sized : IsSized x
  pub few_widths : length x.widths ≤ 8
  pub byte : IfSome x.byte (λ b. 1 ≤ b)
  pub cost : x.cost ≤ 1048576
  pub groups : length x.groups ≤ 4
  pub names : Each x.groups (λ g. length g.names ≤ 8)

pub record RamLimits (k : RamKind) : Type 0 where
  pub variants : length k.variants ≤ 256
  pub each : Each k.variants VariantLimits

pub record LibraryLimits (lib : Library) : Type 0 where
  pub rams : length lib.rams ≤ 64
  pub each : Each lib.rams RamLimits

pub record Limits (job : MemJob) (lib : Library) : Type 0 where
  pub memory : MemLimits job.mem
  pub library : LibraryLimits lib

-- the fold and the level are among those of the variant's candidates
pub record IsSpot (x : Variant) (s : Spot) : Type 0 where
  pub fold : s.fold ≤ 6
  pub level : s.level < length x.widths

-- The law: every memory of a valid module is within these limits.
abbrev pub ValidIsWithin : Type 0
ValidIsWithin = (m : Mem) → MemFits m → MemLimits m
