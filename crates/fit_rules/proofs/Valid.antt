-- A memory of a valid module is within the limits.
use Rattle.std.proofs.Common.{◌≡◌, ℕ, zero, suc, ◌^◌, ◌≤◌, ◌<◌, Bool, true, false, nat_le, List, [], ◌∷◌, length, refl, subst, arith}
use Rattle.std.specs.Prelude.{Some, slice_get}
use Rattle.std.specs.List.{sum_by}
use Rattle.std.proofs.Math.Pow.{pow_mono}
use Rattle.std.proofs.lemmas.Option.{none-some, get_or_from_slice_get}
use Rattle.std.proofs.lemmas.List.Sums.{get_or-le-sum_by}
use Rattle.net_core.specs.declared.mems.Mem.{Mem}
use Rattle.net_core.specs.declared.mems.RdPort.{RdPort}
use Rattle.net_core.specs.declared.mems.WrPort.{WrPort}
use Rattle.net_core.specs.Valid.{MemFits}
use Rattle.fit_rules.specs.Limits.{MemLimits}
use Rattle.fit_rules.proofs.Bounds.{row_bits_few, small_power_few}

pub stands_within : {X : Type 0} (xs : List X) (i : ℕ) (x : X) → slice_get xs i ≡ Some x → i < length xs
stands_within [] i x e = absurd (none-some x e)
stands_within (y ∷ ys) zero x e = omega arith
stands_within (y ∷ ys) (suc i) x e = omega (arith, stands_within ys i x e)

sum_has : {X : Type 0} (f : X → ℕ) (xs : List X) (i : ℕ) (x : X) → slice_get xs i ≡ Some x → f x ≤ sum_by f xs
sum_has f xs i x e = subst (λ z. f z ≤ sum_by f xs) (get_or_from_slice_get xs i x x e) (get_or-le-sum_by f xs i x (stands_within xs i x e))

seven_or_more : (wide : ℕ) → nat_le wide 6 ≡ false → 7 ≤ wide
seven_or_more wide e = grind arith

six_or_less : (wide : ℕ) → nat_le wide 6 ≡ true → wide ≤ 6
six_or_less wide e = grind arith

few_by_test : (wide : ℕ) (t : Bool) → nat_le wide 6 ≡ t → 2 ^ wide ≤ 64 → wide ≤ 6
few_by_test wide true e h = six_or_less wide e
few_by_test wide false e h = absurd (omega (arith, pow_mono {i = 7} {j = wide} (seven_or_more wide e), h))

few_words : (wide : ℕ) → 2 ^ wide ≤ 64 → wide ≤ 6
few_words wide h = few_by_test wide (nat_le wide 6) refl h

pub valid_is_within : (m : Mem) → MemFits m → MemLimits m
valid_is_within m h =
    let read_words : (i : ℕ) (r : RdPort) → slice_get m.reads i ≡ Some r → r.wide ≤ 6 = λ i r e. few_words r.wide (omega (arith, sum_has (λ (r : RdPort). 2 ^ r.wide) m.reads i r e, h.read_words)) in
    let write_words : (i : ℕ) (w : WrPort) → slice_get m.writes i ≡ Some w → w.wide ≤ 6 = λ i w e. few_words w.wide (omega (arith, sum_has (λ (w : WrPort). 2 ^ w.wide) m.writes i w e, h.write_words)) in
    record {
      size = h.sizes.words.1;
      some_bits = h.sizes.width.0;
      few_bits = h.sizes.width.1;
      bits = h.sizes.bits;
      abits = h.sizes.abits;
      reads = read_words;
      writes = write_words;
      enables = λ i w e. omega (arith, (h.writes i w e).en, row_bits_few m.width (2 ^ w.wide) h.sizes.width.1 (small_power_few w.wide (write_words i w e)));
    }
