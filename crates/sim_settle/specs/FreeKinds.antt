-- Which logic cells may show anything.
use Rattle.std.specs.Prelude.{Bool, true, false}
use Rattle.net_core.specs.declared.cells.CombKind.{CombKind}
use Rattle.net_core.specs.declared.cells.CombKind.TheVariants.{Pmux}

abbrev pub is_free : CombKind → Bool
is_free Pmux = true
is_free kind = false
