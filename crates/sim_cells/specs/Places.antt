-- The words of a memory as bits that are counted from address 0: where ports begin, and which bits they reach.
use Rattle.std.specs.Prelude.{◌≡◌, ℕ, ◌+◌, ◌-◌, ◌*◌, ◌^◌, ◌≤◌, Bool, cond, ◌&&◌, List, [], ◌∷◌, length, Option, Some, None, slice_get, nat_le, nat_lt}
use Rattle.lib_core.specs.declared.library.Tri.{Tri}
use Rattle.lib_core.specs.declared.library.Tri.TheVariants.{Any}
use Rattle.net_core.specs.declared.bits.Event.{Event}
use Rattle.net_core.specs.declared.mems.Mem.{Mem}
use Rattle.net_core.specs.declared.mems.WrPort.{WrPort}
use Rattle.net_core.specs.Values.{Valuation, values_of, bit_at, has_edge}
use Rattle.net_core.specs.Memory.{base_of}
use Rattle.ram_step.specs.Moments.{inputs_alone, moment_of}

-- the first bit that a write reaches, at its edge
abbrev pub write_base : Mem → Valuation → Event → WrPort → Option ℕ
write_base x v e w = cond (has_edge (inputs_alone e) (moment_of e).edge w.clock) (Some (base_of v w.addr * x.width)) None

-- the bit that a write which reaches bits from here on puts at a place of the words
abbrev pub base_hit : Mem → Valuation → ℕ → WrPort → Option ℕ → Option Bool
base_hit x v place w None = None
base_hit x v place w (Some base) =
    let bit = x.offset * x.width + place in
    cond (nat_le base bit && nat_lt bit (base + x.width * 2 ^ w.wide) && bit_at (values_of v w.en) (bit - base)) (Some (bit_at (values_of v w.value) (bit - base))) None

abbrev pub base_hits : Mem → Valuation → ℕ → List WrPort → List (Option ℕ) → List (Option Bool)
base_hits x v place [] bases = []
base_hits x v place (w ∷ ws) [] = []
base_hits x v place (w ∷ ws) (b ∷ bs) = base_hit x v place w b ∷ base_hits x v place ws bs

-- the place of a bit among those of the words
abbrev pub place_of : Mem → ℕ → Option ℕ
place_of x bit =
    cond (nat_le (x.offset * x.width) bit && nat_lt bit (x.offset * x.width + x.size * x.width)) (Some (bit - x.offset * x.width)) None

-- what stands at a place, any where there is none
abbrev pub at_place : Option ℕ → (ℕ → Tri) → Tri
at_place None here = Any
at_place (Some place) here = here place

-- one for each write, within the numbers that addresses reach
pub record AreBases (x : Mem) (bases : List (Option ℕ)) : Type 0 where
  pub count : length bases ≡ length x.writes
  pub small : (i b : ℕ) → slice_get bases i ≡ Some (Some b) → b ≤ 2 ^ 48
