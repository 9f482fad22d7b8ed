-- What a list holds once a borrow of its items is over.
use Rattle.std.specs.Prelude.{ℕ, List, length, slice_set}
use Rattle.std.specs.List.{refill}
use Rattle.std.specs.Borrow.{Lends, MutBor, Fml, Array, RattleType}
use Rattle.lib_core.specs.contracts.list.List.{the_row}

-- the list ends with the last value behind the reference at this place
abbrev pub LendsItem : (T : RattleType) → MutBor (List T.Denot) → ℕ → MutBor T.Denot → Fml
LendsItem T list index item = Lends (the_row T) T list item (slice_set list.now index)

-- the list ends as what the slice was last, which has as many items as the list
abbrev pub LendsItems : (T : RattleType) → MutBor (List T.Denot) → MutBor (List T.Denot) → Fml
LendsItems T list items = Lends (the_row T) (Array T 0) list items (refill (length list.now) list.now)
