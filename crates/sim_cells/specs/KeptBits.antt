-- The bits that buffers hold.
use Rattle.std.specs.Prelude.{Bool, List, map, Vec}
use Rattle.std.specs.Global.{Global}

abbrev pub bit_lists : List (Vec Bool Global) → List (List Bool)
bit_lists lists = map (λ l. l.items) lists
