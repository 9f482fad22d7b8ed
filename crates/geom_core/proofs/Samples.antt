-- Variants of the tests.
use Rattle.std.proofs.Common.{◌≡◌, ℕ, zero, suc, ◌+◌, ◌*◌, ◌≤◌, ◌<◌, List, [], ◌∷◌, length, Some, None, refl, ap, subst, sym, arith}
use Rattle.lib_core.specs.declared.library.Variant.{Variant}
use Rattle.lib_core.specs.Rams.{width_at, lane_width}
use Rattle.geom_core.specs.Widths.{AreWidths}
use Rattle.geom_core.specs.Places.{IsSized}
use Rattle.geom_core.specs.Layout.{HasUnits}

abbrev five : List ℕ
five = 1 ∷ 2 ∷ 4 ∷ 9 ∷ 18 ∷ []

some : (k : ℕ) → k < 5 → 1 ≤ width_at five k
some zero h = omega arith
some (suc zero) h = omega arith
some (suc (suc zero)) h = omega arith
some (suc (suc (suc zero))) h = omega arith
some (suc (suc (suc (suc zero)))) h = omega arith
some (suc (suc (suc (suc (suc k))))) h = absurd (omega (arith, h))

few : (k : ℕ) → k < 5 → width_at five k ≤ 1024
few zero h = omega arith
few (suc zero) h = omega arith
few (suc (suc zero)) h = omega arith
few (suc (suc (suc zero))) h = omega arith
few (suc (suc (suc (suc zero)))) h = omega arith
few (suc (suc (suc (suc (suc k))))) h = absurd (omega (arith, h))

double : (k : ℕ) → suc k < 5 → 2 * width_at five k ≤ width_at five (suc k)
double zero h = omega arith
double (suc zero) h = omega arith
double (suc (suc zero)) h = omega arith
double (suc (suc (suc zero))) h = omega arith
double (suc (suc (suc (suc k)))) h = absurd (omega (arith, h))

five_widths : AreWidths five
five_widths = record {
  some_bits = some;
  few_bits = few;
  doubled = λ k h. let e : suc k ≡ k + 1 = omega arith in subst (λ n. 2 * width_at five k ≤ width_at five n) e (double k (omega (arith, h)));
}

pub sized : (x : Variant) → x.abits ≡ 14 → x.widths ≡ 1 ∷ 2 ∷ 4 ∷ 9 ∷ 18 ∷ [] → IsSized x
sized x abits widths = record {
  abits = omega (arith, abits);
  levels = subst (λ ws. length ws ≤ x.abits + 1) (sym widths) (omega (arith, abits));
  widths = subst AreWidths (sym widths) five_widths;
}

pub units_36 : (x : Variant) → x.widths ≡ 36 ∷ [] → x.byte ≡ Some 9 → HasUnits x 0
units_36 x widths byte = record {
  some_bits = subst (λ ws. 1 ≤ width_at ws 0) (sym widths) (omega arith);
  few_bits = subst (λ ws. width_at ws 0 ≤ 1024) (sym widths) (omega arith);
  some_units = subst (λ ws. 1 ≤ lane_width x.byte (width_at ws 0)) (sym widths) (subst (λ b. 1 ≤ lane_width b 36) (sym byte) (omega arith));
}

pub units_8 : (x : Variant) → x.widths ≡ 2 ∷ 4 ∷ 8 ∷ 16 ∷ [] → x.byte ≡ None → HasUnits x 2
units_8 x widths byte = record {
  some_bits = subst (λ ws. 1 ≤ width_at ws 2) (sym widths) (omega arith);
  few_bits = subst (λ ws. width_at ws 2 ≤ 1024) (sym widths) (omega arith);
  some_units = subst (λ ws. 1 ≤ lane_width x.byte (width_at ws 2)) (sym widths) (subst (λ b. 1 ≤ lane_width b 8) (sym byte) (omega arith));
}
