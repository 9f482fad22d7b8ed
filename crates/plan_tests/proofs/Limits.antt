-- What the limits of a memory and of a variant give.
use Rattle.std.proofs.Common.{ℕ, ◌≤◌, ◌<◌, length, arith}
use Rattle.lib_core.specs.declared.library.Variant.{Variant}
use Rattle.net_core.specs.declared.mems.Mem.{Mem}
use Rattle.geom_core.specs.Layout.{HasRows, HasUnits}
use Rattle.fit_rules.specs.Limits.{MemLimits, VariantLimits}
use Rattle.fit_rules.proofs.Within.{has_rows, has_units}

pub rows : (m : Mem) → MemLimits m → HasRows m
rows m limits = has_rows m limits

pub units : (x : Variant) (level : ℕ) → VariantLimits x → level < length x.widths → HasUnits x level
units x level limits few = has_units x (record { ram = 0; variant = 0; fold = 0; level = level }) limits (record { fold = omega arith; level = few })
