-- How many bits count so many things.
use Rattle.std.specs.Prelude.{ℕ, zero, suc, ◌+◌, ◌-◌, ◌^◌, max, cond, nat_le}
use Rattle.net_core.specs.declared.mems.Mem.{Mem}

-- from so many bits on; the first number says how many more are tried
abbrev pub bits_from : ℕ → ℕ → ℕ → ℕ
bits_from zero bits n = bits
bits_from (suc more) bits n = cond (nat_le n (2 ^ bits)) bits (bits_from more (bits + 1) n)

-- the least number of bits that has a value for each of n things
abbrev pub bits_to : ℕ → ℕ
bits_to n = bits_from n 0 n

-- the address bits of a port of so many words: those above the place in the port's words
abbrev pub address_bits : Mem → ℕ → ℕ
address_bits m wide = m.abits - wide

-- the same where the memory's size asks for more
abbrev pub room_bits : Mem → ℕ → ℕ
room_bits m wide = max m.abits (bits_to m.size) - wide
