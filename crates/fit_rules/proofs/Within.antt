-- What the limits of a memory and of a variant give.
use Rattle.std.proofs.Common.{ℕ, zero, suc, ◌≤◌, ◌<◌, Bool, true, false, cond, nat_le, List, [], ◌∷◌, length, arith}
use Rattle.std.specs.Prelude.{Option, Some, None, IfSome}
use Rattle.lib_core.specs.declared.library.Variant.{Variant}
use Rattle.lib_core.specs.Rams.{width_at, lane_width}
use Rattle.net_core.specs.declared.mems.Mem.{Mem}
use Rattle.geom_core.specs.Layout.{HasRows, HasUnits}
use Rattle.fit_rules.specs.declared.spots.Spot.{Spot}
use Rattle.fit_rules.specs.Limits.{MemLimits, VariantLimits, IsSpot}
use Rattle.fit_rules.specs.Rules.{largest}

pub has_rows : (m : Mem) → MemLimits m → HasRows m
has_rows m h = record {
  some_bits = h.some_bits;
  few_bits = h.few_bits;
  few_words = h.writes;
}

some_of_two : (c : Bool) (a b : ℕ) → 1 ≤ a → 1 ≤ b → 1 ≤ cond c a b
some_of_two true a b h k = h
some_of_two false a b h k = k

some_lane : (byte : Option ℕ) (width : ℕ) → 1 ≤ width → IfSome byte (λ b. 1 ≤ b) → 1 ≤ lane_width byte width
some_lane None width h k = h
some_lane (Some b) width h k = some_of_two (nat_le width b) width b h k

pub has_units : (x : Variant) (s : Spot) → VariantLimits x → IsSpot x s → HasUnits x s.level
has_units x s h i = record {
  some_bits = h.sized.widths.some_bits s.level i.level;
  few_bits = h.sized.widths.few_bits s.level i.level;
  some_units = some_lane x.byte (width_at x.widths s.level) (h.sized.widths.some_bits s.level i.level) h.byte;
}

largest_of : (ws : List ℕ) (most : ℕ) → ((k : ℕ) → k < length ws → width_at ws k ≤ most) → largest ws ≤ most
largest_of [] most h = omega arith
largest_of (w ∷ ws) most h =
    let first : w ≤ most = h zero (omega arith) in
    let rest : largest ws ≤ most = largest_of ws most (λ k i. h (suc k) (omega (arith, i))) in
    omega (arith, first, rest)

pub largest_few : (x : Variant) → VariantLimits x → largest x.widths ≤ 1024
largest_few x h = largest_of x.widths 1024 h.sized.widths.few_bits
