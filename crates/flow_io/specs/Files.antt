-- Files by name, and what is told of them.
use Rattle.std.specs.Prelude.{◌≡◌, ℕ, ◌≤◌, List, ◌++◌, length, ⊤, None, Some, ◌⊎◌}
use Rattle.std.specs.declared.option.Option.{Option}
use Rattle.std.specs.Option.{option_map}
use Rattle.std.specs.Ordering.{nat_cmp}
use Rattle.std.specs.Cmp.Lexicographic.{slice_cmp}
use Rattle.std.specs.FinMap.{FinMap, get, insert}

-- from names to bytes
abbrev pub Files : Type 0
Files = FinMap (slice_cmp nat_cmp) (List ℕ)

-- what a name holds, where that is told
abbrev pub look : Option Files → List ℕ → Option (List ℕ)
look None name = None
look (Some files) name = get files name

-- the files once a name holds these bytes
abbrev pub put : Option Files → List ℕ → List ℕ → Option Files
put told name bytes = option_map (λ files. insert files name bytes) told

-- these are the bytes of the file, where files are told
abbrev pub Tells : Option Files → List ℕ → List ℕ → Type 0
Tells None name bytes = ⊤
Tells (Some files) name bytes = get files name ≡ Some bytes

-- what is told of the files
abbrev pub FilesAre : Option Files → Option Files → Type 0
FilesAre new told = new ≡ told

-- the file has at least so many bytes, where files are told
abbrev pub HasAtLeast : Option Files → List ℕ → ℕ → Type 0
HasAtLeast None name count = ⊤
HasAtLeast (Some files) name count = (bytes : List ℕ) × (get files name ≡ Some bytes) × (count ≤ length bytes)

-- the first bytes of some
pub record IsPart (whole part : List ℕ) : Type 0 where
  pub rest : List ℕ
  pub joined : part ++ rest ≡ whole

-- the file holds what it held, or a part of these bytes, and other files stay
abbrev pub HoldsPart : Option Files → Option Files → List ℕ → List ℕ → Type 0
HoldsPart old new name bytes = (new ≡ old) ⊎ ((part : List ℕ) × IsPart bytes part × (new ≡ put old name part))
