-- Which of two writes wins, where the RAM says so and where it is emulated.
use Rattle.std.specs.Prelude.{ℕ, Bool, true, not, ◌&&◌, nat_le, List, [], ◌∷◌}
use Rattle.std.specs.List.{list_all}
use Rattle.lib_core.specs.declared.library.Variant.{Variant}
use Rattle.lib_core.specs.Rams.{wins_over}
use Rattle.net_core.specs.declared.bits.Bit.{Bit}
use Rattle.net_core.specs.declared.mems.WrPort.{WrPort}
use Rattle.net_core.specs.Values.{bit_at}
use Rattle.net_core.specs.Ports.{same_bit}
use Rattle.fit_pairs.specs.Clocks.{one_domain}
use Rattle.fit_pairs.specs.Placed.{Writer, some_write, count_writes}

-- The upper write has priority over the lower one in one domain, and the RAM does not give it by its groups.
abbrev pub emulated_over : Writer → Writer → Bool
emulated_over lower upper =
    bit_at upper.port.prio lower.number && (one_domain upper.port.clock lower.port.clock && not (wins_over upper.group upper.kind lower.group lower.kind))

-- one bit stands as all enables
abbrev pub is_single : List Bit → Bool
is_single [] = true
is_single (b ∷ bs) = list_all (same_bit b) bs

-- the upper write has one bit as all its enables, and at least as many words
abbrev pub is_even : WrPort → WrPort → Bool
is_even lower upper = is_single upper.en && nat_le lower.wide upper.wide

-- the upper write has its priority emulated, and has several enables or fewer words
abbrev pub uneven_over : Writer → Writer → Bool
uneven_over lower upper = emulated_over lower upper && not (is_even lower.port upper.port)

-- Each write whose priority over this one is emulated has one bit as all its enables, and at least as many words.
abbrev pub stands_even : Variant → List WrPort → List ℕ → Writer → Bool
stands_even v writes groups lower = not (some_write v (uneven_over lower) 0 writes groups)

-- how many writes have an emulated priority over this one
abbrev pub emulated_count : Variant → List WrPort → List ℕ → Writer → ℕ
emulated_count v writes groups lower = count_writes v (emulated_over lower) 0 writes groups
