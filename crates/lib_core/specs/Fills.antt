-- Which values a fill can give: none only those that are left open, zero those without a 1, the others all.
use Rattle.std.specs.Prelude.{◌≡◌, ◌≢◌, All, List}
use Rattle.lib_core.specs.declared.library.Fill.{Fill}
use Rattle.lib_core.specs.declared.library.Fill.TheVariants as fill
use Rattle.lib_core.specs.declared.library.Tri.{Tri}
use Rattle.lib_core.specs.declared.library.Tri.TheVariants as tri

abbrev pub Admits : Fill → List Tri → Type 0
Admits fill.Nothing value = All (λ bit. bit ≡ tri.Any) value
Admits fill.Zero value = All (λ bit. bit ≢ tri.One) value
Admits fill.Any value = Unit {0}
Admits fill.NoUndef value = Unit {0}
