-- What gates show.
use Rattle.std.specs.Prelude.{◌≡◌, ℕ, Bool, true, false, cond, not, ◌&&◌, ◌||◌, List, nat_eq, nat_lt}
use Rattle.std.specs.List.{list_all, list_any}
use Rattle.net_core.specs.declared.bits.Bit.{Bit}
use Rattle.net_core.specs.declared.bits.Bit.TheVariants.{Zero, One}
use Rattle.net_core.specs.Values.{Valuation, value_of, values_of, number_of}
use Rattle.net_core.specs.Logic.{xor}
use Rattle.net_core.specs.Nodes.{HasNet}

abbrev pub both_of : Bit → Bit → Valuation → Bool
both_of a b u = value_of u a && value_of u b

abbrev pub either_of : Bit → Bit → Valuation → Bool
either_of a b u = value_of u a || value_of u b

abbrev pub differ : Bit → Bit → Valuation → Bool
differ a b u = xor (value_of u a) (value_of u b)

abbrev pub all_of : List Bit → Valuation → Bool
all_of bits u = list_all (value_of u) bits

abbrev pub some_of : List Bit → Valuation → Bool
some_of bits u = list_any (value_of u) bits

-- the bits as a number, low bit first
abbrev pub number_in : List Bit → Valuation → ℕ
number_in bits u = number_of (values_of u bits)

abbrev pub equals : List Bit → ℕ → Valuation → Bool
equals bits number u = nat_eq (number_in bits u) number

abbrev pub is_below : List Bit → ℕ → Valuation → Bool
is_below bits number u = nat_lt (number_in bits u) number

-- the second list where the selector is 1, else the first
abbrev pub either_list : Bit → List Bit → List Bit → Valuation → List Bool
either_list select low high u = cond (value_of u select) (values_of u high) (values_of u low)

abbrev pub constant_bit : Bool → Bit
constant_bit true = One
constant_bit false = Zero

-- bits without nets that are a number
pub record IsConstant (number : ℕ) (bits : List Bit) : Type 0 where
  pub shows : (u : Valuation) → number_in bits u ≡ number
  pub fixed : (n : ℕ) → HasNet bits n → ⊥

-- the bits are a number from one on and below another
abbrev pub is_within : List Bit → ℕ → ℕ → Valuation → Bool
is_within bits first end u = not (is_below bits first u) && is_below bits end u
