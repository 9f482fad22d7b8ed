-- Packed lists of bits as the lists that contracts see.
use Rattle.std.proofs.Common.{◌≡◌, ℕ, zero, suc, ◌+◌, ◌*◌, ◌/◌, ◌%◌, ◌^◌, ◌<◌, Bool, true, false, ◌||◌, cond, nat_eq, List, [], ◌∷◌, map, length, get_or, set, bit_and, refl, sym, ap, ◌∙◌, ⊎_elim, arith, eq-eqb}
use Rattle.std.specs.Int.{bit_not, w64}
use Rattle.std.specs.List.{range_with_len}
use Rattle.std.proofs.Math.ListN.{replicate}
use Rattle.std.proofs.lemmas.Nat.Bits.{bit_at_clear_same, bit_at_clear_other}
use Rattle.std.proofs.lemmas.List.{get_or-set_same, get_or-set_other, length-set}
use Rattle.std.proofs.lemmas.List.FromFn.{get_or-map-range_with_len, length-map-range_with_len}
use Rattle.std.proofs.lemmas.Bool.{cases_eq, ne_eqb}
use Rattle.row_store.specs.Limbs.{bit_in}
use Rattle.row_store.specs.Bits.{no_bits, bit_or_low}
use Rattle.row_store.proofs.Lanes.{bit_of_limb, same_place}
use Rattle.row_store.proofs.Tables.{made_same, no_bit}

pub none_set : (count width : ℕ) → map (bit_in (replicate count 0)) (range_with_len 0 width) ≡ no_bits width
none_set count width = made_same (bit_in (replicate count 0)) (λ k. false) 0 width (λ k low high. no_bit count k)

pub length_seen : (limbs : List ℕ) (width : ℕ) (now : List Bool) → map (bit_in limbs) (range_with_len 0 width) ≡ now → width ≡ length now
length_seen limbs width now e = sym (length-map-range_with_len (bit_in limbs) 0 width) ∙ ap length e

pub bit_at_seen : (limbs : List ℕ) (width : ℕ) (now : List Bool) (k : ℕ) → map (bit_in limbs) (range_with_len 0 width) ≡ now → k < length now → bit_in limbs k ≡ bit_or_low now k
bit_at_seen limbs width now k e h =
    let count = length_seen limbs width now e in
    sym (get_or-map-range_with_len (bit_in limbs) 0 width k k false (omega arith) (omega arith)) ∙ ap (λ l. bit_or_low l k) e

pub same_at : (xs : List Bool) (f : ℕ → Bool) (a n : ℕ) → length xs ≡ n → ((k : ℕ) → k < n → get_or xs k false ≡ f (a + k)) → map f (range_with_len a n) ≡ xs
same_at [] f a zero e h = refl
same_at [] f a (suc n) e h = cc
same_at (x ∷ xs) f a zero e h = cc
same_at (x ∷ xs) f a (suc n) e h =
    let here : x ≡ f a = h 0 (omega arith) ∙ ap f (let z : a + 0 ≡ a = omega arith in z) in
    let rest = same_at xs f (a + 1) n (omega arith) (λ k l. h (suc k) (omega arith) ∙ ap f (let z : a + suc k ≡ a + 1 + k = omega arith in z)) in
    cc

pub put_seen : (limbs changed : List ℕ) (width : ℕ) (now : List Bool) (place : ℕ) (bit : Bool) → map (bit_in limbs) (range_with_len 0 width) ≡ now → place < length now → ((k : ℕ) → bit_in changed k ≡ cond (nat_eq k place) bit (bit_in limbs k)) → map (bit_in changed) (range_with_len 0 width) ≡ set now place bit
put_seen limbs changed width now place bit e inside each =
    let count = length_seen limbs width now e in
    same_at (set now place bit) (bit_in changed) 0 width (length-set now place bit ∙ sym count) (λ k h.
    ⊎_elim
    (λ (same : k ≡ place).
    ap (λ j. get_or (set now place bit) j false) same ∙ get_or-set_same now place bit false inside
    ∙ sym (ap (bit_in changed) (let z : 0 + k ≡ k = omega arith in z) ∙ each k ∙ ap (λ t. cond t bit (bit_in limbs k)) (eq-eqb k place same)))
    (λ apart.
    get_or-set_other now place k bit false apart ∙ sym (bit_at_seen limbs width now k e (omega arith))
    ∙ sym (ap (bit_in changed) (let z : 0 + k ≡ k = omega arith in z) ∙ each k ∙ ap (λ t. cond t bit (bit_in limbs k)) (ne_eqb k place apart)))
    (cases_eq k place))

pub or_as_cond : (a b : Bool) → (a || b) ≡ cond a true b
or_as_cond true b = refl
or_as_cond false b = refl

pub set_as_put : (k place : ℕ) (old new : Bool) → new ≡ (nat_eq k place || old) → new ≡ cond (nat_eq k place) true old
set_as_put k place old new e = e ∙ or_as_cond (nat_eq k place) old

pub clear_limb : (n place k : ℕ) → place < 64 → k < 64 → bit_of_limb (bit_and n (bit_not w64 (1 * 2 ^ place % 2 ^ 64))) k ≡ cond (nat_eq k place) false (bit_of_limb n k)
clear_limb n place k p q =
    ⊎_elim
    (λ (e : k ≡ place). ap (λ i. bit_of_limb (bit_and n (bit_not w64 (1 * 2 ^ place % 2 ^ 64))) i) e ∙ ap (λ m. nat_eq m 1) (bit_at_clear_same w64 n place p) ∙ sym (ap (λ t. cond t false (bit_of_limb n k)) (eq-eqb k place e)))
    (λ e. ap (λ m. nat_eq m 1) (bit_at_clear_other w64 n place p k q e) ∙ sym (ap (λ t. cond t false (bit_of_limb n k)) (ne_eqb k place e)))
    (cases_eq k place)

pub clear_in : (limbs : List ℕ) (place k : ℕ) → place < 64 * length limbs → bit_in (set limbs (place / 64) (bit_and (get_or limbs (place / 64) 0) (bit_not w64 (1 * 2 ^ (place % 64) % 2 ^ 64)))) k ≡ cond (nat_eq k place) false (bit_in limbs k)
unfolding bit_in
clear_in limbs place k h =
    let inside : place / 64 < length limbs = omega arith in
    let n : ℕ = bit_and (get_or limbs (place / 64) 0) (bit_not w64 (1 * 2 ^ (place % 64) % 2 ^ 64)) in
    ⊎_elim
    (λ e.
    ap (λ j. bit_of_limb (get_or (set limbs (place / 64) n) j 0) (k % 64)) e
    ∙ ap (λ m. bit_of_limb m (k % 64)) (get_or-set_same limbs (place / 64) n 0 inside)
    ∙ clear_limb (get_or limbs (place / 64) 0) (place % 64) (k % 64) (omega arith) (omega arith)
    ∙ ap (λ t. cond t false (bit_of_limb (get_or limbs (place / 64) 0) (k % 64))) (same_place k place e)
    ∙ ap (λ j. cond (nat_eq k place) false (bit_of_limb (get_or limbs j 0) (k % 64))) (sym e))
    (λ e.
    ap (λ m. bit_of_limb m (k % 64)) (get_or-set_other limbs (place / 64) (k / 64) n 0 e)
    ∙ sym (ap (λ t. cond t false (bit_of_limb (get_or limbs (k / 64) 0) (k % 64))) (ne_eqb k place (λ f. e (ap (λ m. m / 64) f)))))
    (cases_eq (k / 64) (place / 64))
