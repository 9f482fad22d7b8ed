-- The slots of a cell as the code finds them: by number, each with the group that owns it.
use Rattle.std.specs.Prelude.{ℕ, zero, suc, ◌+◌, List, [], ◌∷◌, ◌++◌, length}
use Rattle.lib_core.specs.declared.library.Group.{Group}
use Rattle.lib_core.specs.declared.library.Variant.{Variant}
use Rattle.net_core.specs.Ram.{Slot}

abbrev pub so_many : ℕ → ℕ → List ℕ
so_many zero g = []
so_many (suc n) g = g ∷ so_many n g

-- the number of the group of each slot, the groups counted from a number
abbrev pub owners_from : ℕ → List Group → List ℕ
owners_from g [] = []
owners_from g (kind ∷ kinds) = so_many (length kind.names) g ++ owners_from (g + 1) kinds

abbrev pub owners_of : List Group → List ℕ
owners_of groups = owners_from 0 groups

-- the slots of a cell of a variant
pub record SlotList : Type 0 where
  pub variant : Variant
  pub all : List Slot
