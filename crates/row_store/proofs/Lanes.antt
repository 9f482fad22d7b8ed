-- Bits over limbs, by those of each limb.
use Rattle.std.proofs.Common.{◌≡◌, ◌≢◌, ℕ, ◌+◌, ◌-◌, ◌*◌, ◌/◌, ◌%◌, ◌^◌, ◌<◌, ◌≤◌, ◌⊎◌, Bool, false, not, ◌&&◌, ◌||◌, nat_eq, List, length, get_or, bit_and, bit_or, sym, ap, ◌∙◌, inl, inr, ⊎_elim, arith, eq-eqb, set}
use Prim.Native.Nat.{min, max}
use Rattle.std.specs.Int.{bit_at, bit_not, w64}
use Rattle.std.proofs.lemmas.Nat.Bits.{bit_at_and, bit_at_or, bit_at_not, bit_at-lt, bit_at-zero, shr_and_one, bit_at_set_same, bit_at_set_other}
use Rattle.std.proofs.lemmas.List.{get_or_past, get_or-set_same, get_or-set_other}
use Rattle.std.proofs.lemmas.Bool.{cases_lt, cases_eq, ne_eqb}
use Rattle.row_store.specs.Limbs.{bit_in}

pub of_two : (a : ℕ) → a < 2 → (a ≡ 0) ⊎ (a ≡ 1)
of_two a h = ⊎_elim (λ e. inl e) (λ n. inr (omega arith)) (cases_eq a 0)

-- a bit of a number
abbrev pub bit_of_limb : ℕ → ℕ → Bool
bit_of_limb n i = nat_eq (n / 2 ^ i % 2) 1

pub either : (a b : ℕ) → a < 2 → b < 2 → nat_eq (max a b) 1 ≡ (nat_eq a 1 || nat_eq b 1)
either a b p q =
    ⊎_elim
    (λ (e : a ≡ 0). ⊎_elim (λ (f : b ≡ 0). rw (e, f)) (λ (f : b ≡ 1). rw (e, f)) (of_two b q))
    (λ (e : a ≡ 1). ⊎_elim (λ (f : b ≡ 0). rw (e, f)) (λ (f : b ≡ 1). rw (e, f)) (of_two b q))
    (of_two a p)

pub both : (a b : ℕ) → a < 2 → b < 2 → nat_eq (min a b) 1 ≡ (nat_eq a 1 && nat_eq b 1)
both a b p q =
    ⊎_elim
    (λ (e : a ≡ 0). ⊎_elim (λ (f : b ≡ 0). rw (e, f)) (λ (f : b ≡ 1). rw (e, f)) (of_two b q))
    (λ (e : a ≡ 1). ⊎_elim (λ (f : b ≡ 0). rw (e, f)) (λ (f : b ≡ 1). rw (e, f)) (of_two b q))
    (of_two a p)

pub other : (a : ℕ) → a < 2 → nat_eq (1 - a) 1 ≡ not (nat_eq a 1)
other a p = ⊎_elim (λ e. rw e) (λ e. rw e) (of_two a p)

pub limb_or : (a b i : ℕ) → bit_of_limb (bit_or a b) i ≡ (bit_of_limb a i || bit_of_limb b i)
limb_or a b i = ap (λ n. nat_eq n 1) (bit_at_or a b i) ∙ either (bit_at a i) (bit_at b i) (bit_at-lt a i) (bit_at-lt b i)

pub limb_and : (a b i : ℕ) → bit_of_limb (bit_and a b) i ≡ (bit_of_limb a i && bit_of_limb b i)
limb_and a b i = ap (λ n. nat_eq n 1) (bit_at_and a b i) ∙ both (bit_at a i) (bit_at b i) (bit_at-lt a i) (bit_at-lt b i)

pub limb_not : (b i : ℕ) → b < 2 ^ 64 → i < 64 → bit_of_limb (bit_not w64 b) i ≡ not (bit_of_limb b i)
limb_not b i h p = ap (λ n. nat_eq n 1) (bit_at_not w64 b i h p) ∙ other (bit_at b i) (bit_at-lt b i)

pub limb_zero : (i : ℕ) → bit_of_limb 0 i ≡ false
limb_zero i = ap (λ n. nat_eq n 1) (bit_at-zero i)

pub past : (xs : List ℕ) (k : ℕ) → length xs ≤ k / 64 → bit_in xs k ≡ false
unfolding bit_in
past xs k h = ap (λ n. bit_of_limb n (k % 64)) (get_or_past xs (k / 64) 0 h) ∙ limb_zero (k % 64)

pub over_or : (count : ℕ) (a b out : List ℕ) → length a ≡ count → length b ≡ count → length out ≡ count → ((j : ℕ) → j < count → get_or out j 0 ≡ bit_or (get_or a j 0) (get_or b j 0)) → (k : ℕ) → bit_in out k ≡ (bit_in a k || bit_in b k)
unfolding bit_in
over_or count a b out p q r each k =
    ⊎_elim
    (λ h. ap (λ n. bit_of_limb n (k % 64)) (each (k / 64) h) ∙ limb_or (get_or a (k / 64) 0) (get_or b (k / 64) 0) (k % 64))
    (λ h. past out k (omega arith) ∙ sym (ap (λ t. t || bit_in b k) (past a k (omega arith)) ∙ past b k (omega arith)))
    (cases_lt (k / 64) count)

pub over_and : (count : ℕ) (a b out : List ℕ) → length a ≡ count → length b ≡ count → length out ≡ count → ((j : ℕ) → j < count → get_or out j 0 ≡ bit_and (get_or a j 0) (get_or b j 0)) → (k : ℕ) → bit_in out k ≡ (bit_in a k && bit_in b k)
unfolding bit_in
over_and count a b out p q r each k =
    ⊎_elim
    (λ h. ap (λ n. bit_of_limb n (k % 64)) (each (k / 64) h) ∙ limb_and (get_or a (k / 64) 0) (get_or b (k / 64) 0) (k % 64))
    (λ h. past out k (omega arith) ∙ sym (ap (λ t. t && bit_in b k) (past a k (omega arith))))
    (cases_lt (k / 64) count)

pub over_and_not : (count : ℕ) (a b out : List ℕ) → length a ≡ count → length b ≡ count → length out ≡ count → ((j : ℕ) → j < count → get_or out j 0 ≡ bit_and (get_or a j 0) (bit_not w64 (get_or b j 0))) → ((j : ℕ) → j < count → get_or b j 0 < 2 ^ 64) → (k : ℕ) → bit_in out k ≡ (bit_in a k && not (bit_in b k))
unfolding bit_in
over_and_not count a b out p q r each fits k =
    ⊎_elim
    (λ h. ap (λ n. bit_of_limb n (k % 64)) (each (k / 64) h) ∙ limb_and (get_or a (k / 64) 0) (bit_not w64 (get_or b (k / 64) 0)) (k % 64) ∙ ap (λ t. bit_of_limb (get_or a (k / 64) 0) (k % 64) && t) (limb_not (get_or b (k / 64) 0) (k % 64) (fits (k / 64) h) (omega arith)))
    (λ h. past out k (omega arith) ∙ sym (ap (λ t. t && not (bit_in b k)) (past a k (omega arith))))
    (cases_lt (k / 64) count)

pub tested : (limbs : List ℕ) (k : ℕ) → nat_eq (bit_and (get_or limbs (k / 64) 0 / 2 ^ (k % 64)) 1) 1 ≡ bit_in limbs k
unfolding bit_in
tested limbs k = ap (λ n. nat_eq n 1) (shr_and_one (get_or limbs (k / 64) 0) (k % 64))

pub set_limb : (n place k : ℕ) → place < 64 → k < 64 → bit_of_limb (bit_or n (1 * 2 ^ place % 2 ^ 64)) k ≡ (nat_eq k place || bit_of_limb n k)
set_limb n place k p q =
    ⊎_elim
    (λ e. ap (λ i. bit_of_limb (bit_or n (1 * 2 ^ place % 2 ^ 64)) i) e ∙ ap (λ m. nat_eq m 1) (bit_at_set_same w64 n place p) ∙ sym (ap (λ t. t || bit_of_limb n k) (eq-eqb k place e)))
    (λ e. ap (λ m. nat_eq m 1) (bit_at_set_other w64 n place p k e) ∙ sym (ap (λ t. t || bit_of_limb n k) (ne_eqb k place e)))
    (cases_eq k place)

pub same_place : (k place : ℕ) → k / 64 ≡ place / 64 → nat_eq (k % 64) (place % 64) ≡ nat_eq k place
same_place k place e =
    ⊎_elim
    (λ f. eq-eqb (k % 64) (place % 64) (ap (λ n. n % 64) f) ∙ sym (eq-eqb k place f))
    (λ f. ne_eqb (k % 64) (place % 64) (λ h. f (omega arith)) ∙ sym (ne_eqb k place f))
    (cases_eq k place)

pub set_in : (limbs : List ℕ) (place k : ℕ) → place < 64 * length limbs → bit_in (set limbs (place / 64) (bit_or (get_or limbs (place / 64) 0) (1 * 2 ^ (place % 64) % 2 ^ 64))) k ≡ (nat_eq k place || bit_in limbs k)
unfolding bit_in
set_in limbs place k h =
    let inside : place / 64 < length limbs = omega arith in
    let n : ℕ = bit_or (get_or limbs (place / 64) 0) (1 * 2 ^ (place % 64) % 2 ^ 64) in
    ⊎_elim
    (λ e.
    ap (λ j. bit_of_limb (get_or (set limbs (place / 64) n) j 0) (k % 64)) e
    ∙ ap (λ m. bit_of_limb m (k % 64)) (get_or-set_same limbs (place / 64) n 0 inside)
    ∙ set_limb (get_or limbs (place / 64) 0) (place % 64) (k % 64) (omega arith) (omega arith)
    ∙ ap (λ t. t || bit_of_limb (get_or limbs (place / 64) 0) (k % 64)) (same_place k place e)
    ∙ ap (λ j. nat_eq k place || bit_of_limb (get_or limbs j 0) (k % 64)) (sym e))
    (λ e.
    ap (λ m. bit_of_limb m (k % 64)) (get_or-set_other limbs (place / 64) (k / 64) n 0 e)
    ∙ sym (ap (λ t. t || bit_of_limb (get_or limbs (k / 64) 0) (k % 64)) (ne_eqb k place (λ f. e (ap (λ m. m / 64) f)))))
    (cases_eq (k / 64) (place / 64))

pub below_other : (j at : ℕ) → j < at + 1 → j ≢ at → j < at
below_other j at h apart = omega arith

-- one limb more is written
pub limbs_more : (f : ℕ → ℕ) (out : List ℕ) (at v : ℕ) → at < length out → v ≡ f at → ((j : ℕ) → j < at → get_or out j 0 ≡ f j) → (j : ℕ) → j < at + 1 → get_or (set out at v) j 0 ≡ f j
limbs_more f out at v inside e each j h =
    ⊎_elim
    (λ (same : j ≡ at). ap (λ i. get_or (set out at v) i 0) same ∙ get_or-set_same out at v 0 inside ∙ e ∙ ap f (sym same))
    (λ apart. get_or-set_other out at j v 0 apart ∙ each j (below_other j at h apart))
    (cases_eq j at)
