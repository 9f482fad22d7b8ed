-- Numbers that are marked one after the other: none of them stands twice.
use Rattle.std.proofs.Common.{◌≡◌, ℕ, zero, suc, ◌+◌, ◌<◌, ◌≤◌, Bool, true, false, ◌⊎◌, List, [], ◌∷◌, length, Some, refl, sym, ap, subst, ◌∙◌, inl, inr, arith, set, replicate}
use Rattle.std.specs.Prelude.{slice_get}
use Rattle.std.proofs.lemmas.Bool.{cases_lt}
use Rattle.std.proofs.lemmas.Option.{none-some, same_Some}
use Rattle.std.proofs.lemmas.List.{length-set}
use Rattle.net_core.proofs.Basics.{get_below}
use Rattle.net_live.specs.Driving.{AreBelowApart}

-- the first of the nets are marked, lie below the limit, and none of them stands twice
pub record FirstSeen (limit : ℕ) (nets : List ℕ) (count : ℕ) (seen : List Bool) : Type 0 where
  pub size : length seen ≡ limit
  pub marked : (k n : ℕ) → k < count → slice_get nets k ≡ Some n → slice_get seen n ≡ Some true
  pub below : (k n : ℕ) → k < count → slice_get nets k ≡ Some n → n < limit
  pub apart : (a b n : ℕ) → a < count → b < count → slice_get nets a ≡ Some n → slice_get nets b ≡ Some n → a ≡ b
  pub told : (n : ℕ) → slice_get seen n ≡ Some true → (k : ℕ) × (k < count) × (slice_get nets k ≡ Some n)

set_there : (xs : List Bool) (i : ℕ) → i < length xs → slice_get (set xs i true) i ≡ Some true
set_there [] i h = absurd (omega (arith, h))
set_there (x ∷ xs) zero h = refl
set_there (x ∷ xs) (suc i) h = set_there xs i (omega (arith, h))

set_keeps : (xs : List Bool) (i j : ℕ) → slice_get xs j ≡ Some true → slice_get (set xs i true) j ≡ Some true
set_keeps [] i j h = h
set_keeps (x ∷ xs) zero zero h = refl
set_keeps (x ∷ xs) zero (suc j) h = h
set_keeps (x ∷ xs) (suc i) zero h = h
set_keeps (x ∷ xs) (suc i) (suc j) h = set_keeps xs i j h

-- what is marked then is the one that was, or was marked before
set_from : (xs : List Bool) (i n : ℕ) → slice_get (set xs i true) n ≡ Some true → (n ≡ i) ⊎ (slice_get xs n ≡ Some true)
set_from [] i n h = inr h
set_from (x ∷ xs) zero zero h = inl refl
set_from (x ∷ xs) zero (suc n) h = inr h
set_from (x ∷ xs) (suc i) zero h = inr h
set_from (x ∷ xs) (suc i) (suc n) h = elim (set_from xs i n h) [ inl e ↦ inl (ap suc e) | inr g ↦ inr g ]

-- a number below one more is below, or is the last
last_or : (k count : ℕ) → k < count + 1 → (k < count) ⊎ (k ≡ count)
last_or k count h =
    elim (cases_lt k count) [
      | inl l ↦ inl l
      | inr le ↦ inr (omega (arith, h, le))
    ]

pub none_seen : (limit : ℕ) (nets : List ℕ) (seen : List Bool) → length seen ≡ limit → ((n : ℕ) → slice_get seen n ≡ Some true → ⊥) → FirstSeen limit nets 0 seen
none_seen limit nets seen h none = record {
  size = h;
  marked = λ k n lt g. absurd (omega (arith, lt));
  below = λ k n lt g. absurd (omega (arith, lt));
  apart = λ a b n la lb g h. absurd (omega (arith, la));
  told = λ n g. absurd (none n g);
}

pub none_marked : (count n : ℕ) → slice_get (replicate count false) n ≡ Some true → ⊥
none_marked zero n h = none-some true h
none_marked (suc count) zero h = cc
none_marked (suc count) (suc n) h = none_marked count n h

module _ (limit : ℕ) (nets : List ℕ) (count : ℕ) (seen : List Bool) (net : ℕ) (first : FirstSeen limit nets count seen) (here : slice_get nets count ≡ Some net) (within : net < length seen) (new : slice_get seen net ≡ Some false) where
  is_here : (k n : ℕ) → k ≡ count → slice_get nets k ≡ Some n → net ≡ n
  is_here k n e g = same_Some net n (sym here ∙ ap (slice_get nets) (sym e) ∙ g)

  unmarked : (k n : ℕ) → k < count → slice_get nets k ≡ Some n → net ≡ n → ⊥
  unmarked k n lt g same =
      let clash = sym new ∙ ap (slice_get seen) same ∙ first.marked k n lt g in
      cc

  one_marked : (k n : ℕ) → k < count + 1 → slice_get nets k ≡ Some n → slice_get (set seen net true) n ≡ Some true
  one_marked k n lt g =
      elim (last_or k count lt) as (λ _. slice_get (set seen net true) n ≡ Some true) [
        | inl l ↦ set_keeps seen net n (first.marked k n l g)
        | inr e ↦ subst (λ x. slice_get (set seen net true) x ≡ Some true) (is_here k n e g) (set_there seen net within)
      ]

  one_below : (k n : ℕ) → k < count + 1 → slice_get nets k ≡ Some n → n < limit
  one_below k n lt g =
      elim (last_or k count lt) as (λ _. n < limit) [
        | inl l ↦ first.below k n l g
        | inr e ↦ let same = is_here k n e g in let size = first.size in omega (arith, within, same, size)
      ]

  one_apart : (a b n : ℕ) → a < count + 1 → b < count + 1 → slice_get nets a ≡ Some n → slice_get nets b ≡ Some n → a ≡ b
  one_apart a b n la lb g h =
      elim (last_or a count la) as (λ _. a ≡ b) [
        | inl l ↦ elim (last_or b count lb) as (λ _. a ≡ b) [
          | inl k ↦ first.apart a b n l k g h
          | inr e ↦ absurd (unmarked a n l g (is_here b n e h))
        ]
        | inr e ↦ elim (last_or b count lb) as (λ _. a ≡ b) [
          | inl k ↦ absurd (unmarked b n k h (is_here a n e g))
          | inr f ↦ e ∙ sym f
        ]
      ]

  one_told : (n : ℕ) → slice_get (set seen net true) n ≡ Some true → (k : ℕ) × (k < count + 1) × (slice_get nets k ≡ Some n)
  one_told n h =
      elim (set_from seen net n h) [
        | inl e ↦ (count, omega arith, here ∙ ap (λ x. Some x) (sym e))
        | inr g ↦ let (k, lt, at) = first.told n g in (k, omega (arith, lt), at)
      ]

  pub one_seen : FirstSeen limit nets (count + 1) (set seen net true)
  one_seen = record { size = length-set seen net true ∙ first.size; marked = one_marked; below = one_below; apart = one_apart; told = one_told }

inside : (nets : List ℕ) (count k n : ℕ) → length nets ≤ count → slice_get nets k ≡ Some n → k < count
inside nets count k n le g = let i = get_below nets k n g in omega (arith, i, le)

-- a number that is not below the limit, or is marked already, is one too many
pub none_above : (limit : ℕ) (nets : List ℕ) (count net : ℕ) → slice_get nets count ≡ Some net → limit ≤ net → AreBelowApart limit nets → ⊥
none_above limit nets count net here le are = let lt = are.below count net here in omega (arith, lt, le)

pub none_again : (limit : ℕ) (nets : List ℕ) (count : ℕ) (seen : List Bool) (net : ℕ) → FirstSeen limit nets count seen → slice_get nets count ≡ Some net → slice_get seen net ≡ Some true → AreBelowApart limit nets → ⊥
none_again limit nets count seen net first here marked are =
    let (k, lt, at) = first.told net marked in
    let same = are.apart k count net at here in
    omega (arith, lt, same)

-- where all are seen none stands twice
pub all_seen : (limit : ℕ) (nets : List ℕ) (count : ℕ) (seen : List Bool) → length nets ≤ count → FirstSeen limit nets count seen → AreBelowApart limit nets
all_seen limit nets count seen le first = record {
  below = λ k n g. first.below k n (inside nets count k n le g) g;
  apart = λ a b n g h. first.apart a b n (inside nets count a n le g) (inside nets count b n le h) g h;
}
