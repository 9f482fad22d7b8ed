-- What the bits and strings of attributes and parameters stand for. Bits stand low bit first. (Yosys manual, text
-- representation of RTLIL.)
use Rattle.std.specs.Prelude.{ℕ, zero, suc, ◌+◌, ◌-◌, ◌*◌, ◌/◌, ◌%◌, ◌^◌, Bool, true, false, cond, ◌&&◌, List, [], ◌∷◌, ◌++◌, map, take, replicate, length, Option, Some, None, nat_eq, nat_lt, if◌then◌else◌}
use Rattle.std.specs.List.{list_all}
use Rattle.lib_core.specs.declared.library.Tri.{Tri}
use Rattle.lib_core.specs.declared.library.Tri.TheVariants as tri
use Rattle.net_core.specs.declared.mems.Attr.{Attr}
use Rattle.net_core.specs.Values.{tri_of, number_of}
use Rattle.net_core.specs.Valid.{is_one_digit}

-- the lowest bit of a number
abbrev pub low_bit : ℕ → Tri
low_bit n = tri_of (nat_eq (n % 2) 1)

-- so many low bits of a number
unfoldable pub low_bits : ℕ → ℕ → List Tri
low_bits zero n = []
low_bits (suc width) n = low_bit n ∷ low_bits width (n / 2)

-- eight bits a byte: each byte stands above those behind it
unfoldable pub text_bits : List ℕ → List Tri
text_bits [] = []
text_bits (b ∷ bs) = text_bits bs ++ low_bits 8 b

-- the bits, also where it is a string
abbrev pub attr_bits : Attr → List Tri
attr_bits a = if a.is_text then text_bits a.value else a.bits

abbrev pub is_known : Tri → Bool
is_known tri.Zero = true
is_known tri.One = true
is_known tri.Any = false

-- the number whose bits these are
abbrev pub value_of : List Tri → ℕ
value_of bits = number_of (map is_one_digit bits)

-- a number of 32 bits, where each bit is 0 or 1 and the number fits
unfoldable pub number_of_bits : List Tri → Option ℕ
number_of_bits bits = if list_all is_known bits && nat_lt (value_of bits) (2 ^ 32) then Some (value_of bits) else None

-- the number with one more bit below its lowest, where it still is one of 32 bits
abbrev pub with_low_bit : Tri → ℕ → Option ℕ
with_low_bit bit n = if is_known bit && nat_lt (cond (is_one_digit bit) 1 0 + 2 * n) (2 ^ 32) then Some (cond (is_one_digit bit) 1 0 + 2 * n) else None

-- a string is no number
abbrev pub attr_number : Attr → Option ℕ
attr_number a = if a.is_text then None else number_of_bits a.bits

-- as many bits as are wanted: missing ones are open, and extra ones are not looked at
unfoldable pub fitted : ℕ → List Tri → List Tri
fitted width bits = take width bits ++ replicate (width - length bits) tri.Any

-- as many flags as are wanted: a flag is set where its bit is 1, and so missing and open ones are not
unfoldable pub flags : ℕ → List Tri → List Bool
flags count bits = take count (map is_one_digit bits) ++ replicate (count - length bits) false

-- ---- attributes and parameters that are written

-- a number of 32 bits
abbrev pub number_attr : List ℕ → ℕ → Attr
number_attr name n = record { name = name; is_text = false; value = []; bits = low_bits 32 n }

abbrev pub bits_attr : List ℕ → List Tri → Attr
bits_attr name bits = record { name = name; is_text = false; value = []; bits = bits }

-- a flag is one bit
abbrev pub flag_attr : List ℕ → Bool → Attr
flag_attr name set = bits_attr name (tri_of set ∷ [])

abbrev pub text_attr : List ℕ → List ℕ → Attr
text_attr name text = record { name = name; is_text = true; value = text; bits = [] }
