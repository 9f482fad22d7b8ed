-- How a bit is lifted from level to level, and that no two bits meet.
use Rattle.std.proofs.Common.{◌≡◌, ℕ, zero, suc, ◌+◌, ◌-◌, ◌*◌, ◌/◌, ◌%◌, ◌^◌, ◌<◌, ◌≤◌, List, length, refl, sym, ap, subst, ◌∙◌, arith}
use Rattle.std.proofs.lemmas.Nat.{shr-shr, mul-le, mod_below, same_from_place}
use Rattle.std.proofs.Math.Nat.{mod-lt}
use Rattle.lib_core.specs.Rams.{lies_above, width_at}
use Rattle.geom_core.specs.declared.geometry.BasePlace.{BasePlace}
use Rattle.geom_core.specs.Places.{place_above}
use Rattle.geom_core.specs.Widths.{AreWidths}

-- one level higher
pub place_above_step : (widths : List ℕ) (high level word bit : ℕ) → level < high → place_above widths (high - level) level word bit ≡ place_above widths (high - (level + 1)) (level + 1) (word / 2) (word % 2 * width_at widths level + bit)
place_above_step widths high level word bit below =
    let e : high - level ≡ suc (high - (level + 1)) = omega arith in
    ap (λ n. place_above widths n level word bit) e

pub place_above_none : (widths : List ℕ) (high level word bit : ℕ) → high ≤ level → place_above widths (high - level) level word bit ≡ record { word = word; bit = bit }
place_above_none widths high level word bit above =
    let e : high - level ≡ 0 = omega arith in
    ap (λ n. place_above widths n level word bit) e

-- the bit stays within its word
pub next_bit : (word width bit above : ℕ) → bit < width → 2 * width ≤ above → word % 2 * width + bit < above
next_bit word width bit above within doubled =
    omega (arith, mul-le (word % 2) width 1 width (let h : word % 2 < 2 = mod_below word 2 (omega arith) in omega arith) (omega arith))

pub next_word : (word low level : ℕ) → low ≤ level → word / 2 ^ (level - low) / 2 ≡ word / 2 ^ (level + 1 - low)
next_word word low level above =
    let e : level - low + 1 ≡ level + 1 - low = omega arith in
    shr-shr word (level - low) 1 ∙ ap (λ n. word / 2 ^ n) e

-- two bits that are lifted to one place are one
pub lifted_apart : (widths : List ℕ) (fit : AreWidths widths) (steps level word bit other_word other_bit : ℕ) → level + steps < length widths → bit < width_at widths level → other_bit < width_at widths level
    → (lies_above widths steps level other_word other_bit).0 ≡ (lies_above widths steps level word bit).0 → (lies_above widths steps level other_word other_bit).1 ≡ (lies_above widths steps level word bit).1
    → (other_word ≡ word) × (other_bit ≡ bit)
lifted_apart widths fit zero level word bit other_word other_bit room within other_within words bits = (words, bits)
lifted_apart widths fit (suc steps) level word bit other_word other_bit room within other_within words bits =
    let d : 2 * width_at widths level ≤ width_at widths (level + 1) = fit.doubled level (omega arith) in
    let both = lifted_apart widths fit steps (level + 1) (word / 2) (word % 2 * width_at widths level + bit) (other_word / 2) (other_word % 2 * width_at widths level + other_bit) (omega arith) (next_bit word (width_at widths level) bit (width_at widths (level + 1)) within d) (next_bit other_word (width_at widths level) other_bit (width_at widths (level + 1)) other_within d) words bits in
    let halves : other_word / 2 ≡ word / 2 = both.0 in
    let lows = same_from_place (other_word % 2) other_bit (word % 2) bit (width_at widths level) other_within within both.1 in
    let low : other_word % 2 ≡ word % 2 = lows.0 in
    (omega (arith, halves, low), lows.1)
