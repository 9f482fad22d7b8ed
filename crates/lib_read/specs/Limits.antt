-- How large a library may be that this program reads.
use Rattle.std.specs.Prelude.{ℕ, ◌-◌, ◌*◌, ◌^◌, ◌≤◌, List, length}
use Rattle.std.specs.List.{All}
use Rattle.lib_core.specs.declared.library.Group.{Group}
use Rattle.lib_core.specs.declared.library.Library.{Library}
use Rattle.lib_core.specs.declared.library.RamKind.{RamKind}
use Rattle.lib_core.specs.declared.library.Variant.{Variant}
use Rattle.lib_judge.specs.Faults.{last_from}

abbrev pub last_width : List ℕ → ℕ
last_width ws = last_from 0 ws

-- a variant has 2 ^ (abits - K) words of its last width, which stands at place K
abbrev pub bits_of : Variant → ℕ
bits_of v = last_width v.widths * 2 ^ (v.abits - (length v.widths - 1))

pub record IsVariantWithin (v : Variant) : Type 0 where
  pub groups : length v.groups ≤ 4
  pub names : All (λ (g : Group). length g.names ≤ 8) v.groups
  pub widths : length v.widths ≤ 8
  pub abits : v.abits ≤ 20
  pub bits_of_a_word : All (λ (w : ℕ). w ≤ 1024) v.widths
  pub cost : v.cost ≤ 1048576
  pub bits : bits_of v ≤ 4194304

pub record IsKindWithin (k : RamKind) : Type 0 where
  pub variants : length k.variants ≤ 256
  pub each : All IsVariantWithin k.variants

pub record IsWithinLimits (l : Library) : Type 0 where
  pub rams : length l.rams ≤ 64
  pub each : All IsKindWithin l.rams
