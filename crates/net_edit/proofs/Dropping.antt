-- A module without a cell, and with memories in the place of one.
use Rattle.std.proofs.Common.{ℕ, zero, suc, ◌+◌, ◌*◌, ◌<◌, ◌⊎◌, inl, inr, List, [], ◌∷◌, ◌++◌, take, drop, refl}
use Rattle.std.proofs.Math.Nat.{mul-lt-mul_of_pos_left}
use Rattle.net_edit.specs.Edits.{spliced}
use Rattle.net_edit.specs.Drops.{DroppedCombIsOrdered, DroppedRegIsOrdered, SplicedIsOrdered, StretchedIsOrdered}
use Rattle.net_edit.proofs.Lists.{Has, has_either, removed}

-- ---- orders

pub dropped_comb_is_ordered : DroppedCombIsOrdered
dropped_comb_is_ordered m i o = record {
  order = record {
    rank = o.rank;
    combs = λ j c at. let (k, there, apart, below, above) = removed m.combs i j c at in o.combs k c there;
    regs = o.regs;
    reads = o.reads;
    slots = o.slots;
  };
  same = λ n. refl;
}

pub dropped_reg_is_ordered : DroppedRegIsOrdered
dropped_reg_is_ordered m i o = record {
  order = record {
    rank = o.rank;
    combs = o.combs;
    regs = λ j r at. let (k, there, apart, below, above) = removed m.regs i j r at in o.regs k r there;
    reads = o.reads;
    slots = o.slots;
  };
  same = λ n. refl;
}

taken_has : {X : Type 0} (xs : List X) (i : ℕ) (x : X) → Has (take i xs) x → Has xs x
taken_has [] zero x (k, h) = cc
taken_has [] (suc i) x (k, h) = cc
taken_has (y ∷ xs) zero x (k, h) = cc
taken_has (y ∷ xs) (suc i) x (zero, h) = (0, h)
taken_has (y ∷ xs) (suc i) x (suc k, h) = let (j, at) = taken_has xs i x (k, h) in (suc j, at)

dropped_has : {X : Type 0} (xs : List X) (i : ℕ) (x : X) → Has (drop i xs) x → Has xs x
dropped_has [] zero x (k, h) = cc
dropped_has [] (suc i) x (k, h) = cc
dropped_has (y ∷ xs) zero x (k, h) = (k, h)
dropped_has (y ∷ xs) (suc i) x (k, h) = let (j, at) = dropped_has xs i x (k, h) in (suc j, at)

spliced_has : {X : Type 0} (xs more : List X) (i : ℕ) (x : X) → Has (spliced xs i more) x → Has xs x ⊎ Has more x
spliced_has xs more i x h = elim (has_either (take i xs) (more ++ drop (i + 1) xs) x h) [
  | inl a ↦ inl (taken_has xs i x a)
  | inr b ↦ elim (has_either more (drop (i + 1) xs) x b) [ inl a ↦ inr a | inr a ↦ inl (dropped_has xs (i + 1) x a) ]
]

pub spliced_is_ordered : SplicedIsOrdered
spliced_is_ordered m i mems o rise = record {
  order = record {
    rank = o.rank;
    combs = o.combs;
    regs = o.regs;
    reads = λ a x at j r h. elim (spliced_has m.mems mems i x (a, at)) [ inl (k, there) ↦ o.reads k x there j r h | inr (k, there) ↦ rise k x there j r h ];
    slots = o.slots;
  };
  same = λ n. refl;
}

stretched : (room low high : ℕ) → 0 < room → low < high → room * low < room * high
stretched room low high some l = mul-lt-mul_of_pos_left l some

pub stretched_is_ordered : StretchedIsOrdered
stretched_is_ordered m room some o = record {
  order = record {
    rank = λ n. room * o.rank n;
    combs = λ i c at n x d h. stretched room (o.rank x) (o.rank n) some (o.combs i c at n x d h);
    regs = λ i r at n x d h. stretched room (o.rank x) (o.rank n) some (o.regs i r at n x d h);
    reads = λ i y at j r here n x d h. stretched room (o.rank x) (o.rank n) some (o.reads i y at j r here n x d h);
    slots = λ i c at j s here n x d h. stretched room (o.rank x) (o.rank n) some (o.slots i c at j s here n x d h);
  };
  same = λ n. refl;
}
