-- Bits that are written to nets one after the other.
use Rattle.std.proofs.Common.{◌≡◌, ◌≢◌, ℕ, zero, suc, ◌+◌, ◌<◌, ◌≤◌, Bool, false, List, [], ◌∷◌, length, set, get_or, Some, refl, sym, ap, ◌∙◌, ⊎_elim, arith}
use Rattle.std.specs.Prelude.{slice_get}
use Rattle.std.proofs.lemmas.List.{get_or-set_same, get_or-set_other}
use Rattle.std.proofs.lemmas.Bool.{cases_eq}
use Rattle.std.proofs.lemmas.Option.{same_Some, slice_get-get_or}
use Rattle.net_core.specs.Values.{Valuation, bit_at}
use Rattle.net_core.proofs.Basics.{get_below}
use Rattle.sim_settle.specs.Nets.{AreApart, AreBelow, Writes, Fills}

pub bit_at_is : (xs : List Bool) (k : ℕ) → bit_at xs k ≡ get_or xs k false
bit_at_is [] k = refl
bit_at_is (x ∷ xs) zero = refl
bit_at_is (x ∷ xs) (suc k) = bit_at_is xs k

pub bit_set : (xs : List Bool) (k : ℕ) (b : Bool) → k < length xs → bit_at (set xs k b) k ≡ b
bit_set xs k b lt = bit_at_is (set xs k b) k ∙ get_or-set_same xs k b false lt

pub bit_other : (xs : List Bool) (k n : ℕ) (b : Bool) → n ≢ k → bit_at (set xs k b) n ≡ bit_at xs n
bit_other xs k n b apart = bit_at_is (set xs k b) n ∙ get_or-set_other xs k n b false apart ∙ sym (bit_at_is xs n)

-- the first so many bits are written
pub record Wrote (count : ℕ) (nets : List ℕ) (bits : ℕ → Bool) (old new : Valuation) : Type 0 where
  pub written : (k n : ℕ) → k < count → slice_get nets k ≡ Some n → new n ≡ bits k
  pub kept : (n : ℕ) → ((k : ℕ) → k < count → slice_get nets k ≡ Some n → ⊥) → new n ≡ old n

pub none_wrote : (nets : List ℕ) (bits : ℕ → Bool) (old : Valuation) → Wrote 0 nets bits old old
none_wrote nets bits old = record { written = λ k n lt h. absurd (omega (arith, lt)); kept = λ n none. refl }

below : (k i : ℕ) → k < i + 1 → k ≢ i → k < i
below k i lt apart = omega arith

pub wrote_more : (nets : List ℕ) (bits : ℕ → Bool) (old : Valuation) (values : List Bool) (i x : ℕ) (b : Bool) → AreApart nets → slice_get nets i ≡ Some x → x < length values → b ≡ bits i → Wrote i nets bits old (bit_at values) → Wrote (i + 1) nets bits old (bit_at (set values x b))
wrote_more nets bits old values i x b apart here inside is so_far = record {
  written = λ k n lt h.
      ⊎_elim
      (λ (same : k ≡ i).
      let e : n ≡ x = same_Some n x (sym h ∙ ap (slice_get nets) same ∙ here) in
      ap (bit_at (set values x b)) e ∙ bit_set values x b inside ∙ is ∙ ap bits (sym same))
      (λ (other : k ≢ i).
      let ne : n ≢ x = λ e. other (apart k i n h (here ∙ ap Some (sym e))) in
      bit_other values x n b ne ∙ so_far.written k n (below k i lt other) h)
      (cases_eq k i);
  kept = λ n none.
      let ne : n ≢ x = λ e. none i (omega arith) (here ∙ ap Some (sym e)) in
      bit_other values x n b ne ∙ so_far.kept n (λ k lt h. none k (omega (arith, lt)) h);
}

pub all_wrote : (nets : List ℕ) (bits : ℕ → Bool) (old new : Valuation) → Wrote (length nets) nets bits old new → Writes nets bits old new
all_wrote nets bits old new all = record {
  written = λ k n h. all.written k n (get_below nets k n h) h;
  kept = λ n none. all.kept n (λ k lt h. none (k, h));
}

-- the first so many nets have what belongs to their numbers
pub record Filled (count : ℕ) (nets : List ℕ) (bits : ℕ → Bool) (old new : Valuation) : Type 0 where
  pub filled : (k n : ℕ) → k < count → slice_get nets k ≡ Some n → new n ≡ bits n
  pub kept : (n : ℕ) → ((k : ℕ) → k < count → slice_get nets k ≡ Some n → ⊥) → new n ≡ old n

pub filled_more : (nets : List ℕ) (bits : ℕ → Bool) (old : Valuation) (values : List Bool) (i x : ℕ) (b : Bool) → slice_get nets i ≡ Some x → x < length values → b ≡ bits x → Filled i nets bits old (bit_at values) → Filled (i + 1) nets bits old (bit_at (set values x b))
filled_more nets bits old values i x b here inside is so_far = record {
  filled = λ k n lt h.
      ⊎_elim
      (λ (same : n ≡ x). ap (bit_at (set values x b)) same ∙ bit_set values x b inside ∙ is ∙ ap bits (sym same))
      (λ (other : n ≢ x).
      let ne : k ≢ i = λ e. other (same_Some n x (sym h ∙ ap (slice_get nets) e ∙ here)) in
      bit_other values x n b other ∙ so_far.filled k n (below k i lt ne) h)
      (cases_eq n x);
  kept = λ n none.
      let ne : n ≢ x = λ e. none i (omega arith) (here ∙ ap Some (sym e)) in
      bit_other values x n b ne ∙ so_far.kept n (λ k lt h. none k (omega (arith, lt)) h);
}

pub all_filled : (nets : List ℕ) (bits : ℕ → Bool) (old new : Valuation) → Filled (length nets) nets bits old new → Fills nets bits old new
all_filled nets bits old new all = record {
  filled = λ n (k, h). all.filled k n (get_below nets k n h) h;
  kept = λ n none. all.kept n (λ k lt h. none (k, h));
}

pub filled_up : (nets : List ℕ) (bits : ℕ → Bool) (old new : Valuation) (i : ℕ) → length nets ≤ i → Filled i nets bits old new → Filled (length nets) nets bits old new
filled_up nets bits old new i end all = record {
  filled = λ k n lt h. all.filled k n (omega (arith, end, lt)) h;
  kept = λ n none. all.kept n (λ k lt h. none k (get_below nets k n h) h);
}

pub wrote_up : (nets : List ℕ) (bits : ℕ → Bool) (old new : Valuation) (i : ℕ) → length nets ≤ i → Wrote i nets bits old new → Wrote (length nets) nets bits old new
wrote_up nets bits old new i end all = record {
  written = λ k n lt h. all.written k n (omega (arith, end, lt)) h;
  kept = λ n none. all.kept n (λ k lt h. none k (get_below nets k n h) h);
}

pub read_at : (nets : List ℕ) (i : ℕ) → i < length nets → slice_get nets i ≡ Some (get_or nets i 0)
read_at nets i lt = slice_get-get_or nets i 0 lt

pub within_values : (old now : ℕ) (nets : List ℕ) (i x : ℕ) → AreBelow old nets → slice_get nets i ≡ Some x → now ≡ old → x < now
within_values old now nets i x below here same = let lt = below i x here in omega (arith, lt, same)

-- one more bit of a list that is filled from its low end
pub one_more : (f : ℕ → Bool) (xs : List Bool) (at : ℕ) (bit : Bool) → at < length xs → bit ≡ f at → ((j : ℕ) → j < at → bit_at xs j ≡ f j) → (j : ℕ) → j < at + 1 → bit_at (set xs at bit) j ≡ f j
one_more f xs at bit inside is each j lt =
    ⊎_elim
    (λ (same : j ≡ at). ap (bit_at (set xs at bit)) same ∙ bit_set xs at bit inside ∙ is ∙ ap f (sym same))
    (λ (other : j ≢ at). bit_other xs at j bit other ∙ each j (below j at lt other))
    (cases_eq j at)
