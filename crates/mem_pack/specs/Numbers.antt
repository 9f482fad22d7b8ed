-- Port numbers. A port of 2^k words takes 2^k numbers that stand side by side: its own, and those of its continuations.
use Rattle.std.specs.Prelude.{ℕ, zero, suc, ◌+◌, ◌-◌, ◌^◌, Bool, true, false, List, [], ◌∷◌, ◌++◌, map, take, drop, replicate, length}
use Rattle.std.specs.List.{flat_map, range_with_len}
use Rattle.lib_core.specs.declared.library.Tri.{Tri}
use Rattle.lib_core.specs.declared.library.Tri.TheVariants as tri
use Rattle.net_core.specs.declared.bits.Bit.{Bit}
use Rattle.net_core.specs.declared.bits.Bit.TheVariants.{Zero, One}
use Rattle.cell_consts.specs.Consts.{low_bits}

-- how many numbers ports take
abbrev pub numbers : List ℕ → ℕ
numbers [] = 0
numbers (k ∷ ks) = 2 ^ k + numbers ks

-- what each port has, at each of its numbers
abbrev pub each_number : {X : Type 0} → List ℕ → List X → List X
each_number [] xs = []
each_number (k ∷ ks) [] = []
each_number (k ∷ ks) (x ∷ xs) = replicate (2 ^ k) x ++ each_number ks xs

-- the numbers of a port behind its first are continuations
abbrev pub continuations : List ℕ → List Bool
continuations [] = []
continuations (k ∷ ks) = (false ∷ replicate (2 ^ k - 1) true) ++ continuations ks

-- so many copies of a list, one behind the other
abbrev pub copies : {X : Type 0} → ℕ → List X → List X
copies zero xs = []
copies (suc n) xs = xs ++ copies n xs

abbrev pub bit_of : Tri → Bit
bit_of tri.Zero = Zero
bit_of tri.One = One
bit_of tri.Any = Zero

-- the bits of the place of a word among the words of a port
abbrev pub place_bits : ℕ → ℕ → List Bit
place_bits wide place = map (λ bit. bit_of bit) (low_bits wide place)

-- The address of one of the words of a port: its low bits are the word's place among them. An address with fewer bits has but
-- the lowest of these.
unfoldable pub word_address : ℕ → List Bit → ℕ → List Bit
word_address wide addr place = take (length addr) (place_bits wide place) ++ drop wide addr

-- the addresses of so many words of a port, from a place on
abbrev pub addresses_from : ℕ → List Bit → ℕ → ℕ → List Bit
addresses_from wide addr place count = flat_map (λ p. word_address wide addr p) (range_with_len place count)

-- the addresses of all words of a port
unfoldable pub word_addresses : ℕ → List Bit → List Bit
word_addresses wide addr = addresses_from wide addr 0 (2 ^ wide)
