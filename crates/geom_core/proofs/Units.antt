-- Laws of placing: bits of one unit follow each other, no unit holds more than its bits, and no two bits lie in one place.
use Rattle.std.proofs.Common.{◌≡◌, ℕ, zero, suc, ◌+◌, ◌-◌, ◌*◌, ◌/◌, ◌%◌, ◌≤◌, ◌<◌, Bool, true, false, cond, not, ◌||◌, nat_lt, min, refl, sym, ap, subst, ◌∙◌, arith, add-one, ◌⊎◌, inl, inr, ⊎_elim}
use Rattle.std.proofs.lemmas.Nat.{same_from_place, mul-add-lt, div_below, div-add-mod', mod_below}
use Rattle.std.proofs.lemmas.Grind.{div_ceil_times}
use Rattle.std.proofs.lemmas.Bool.{cases_lt}
use Rattle.geom_core.specs.declared.spreads.UnitPlace.{UnitPlace}
use Rattle.geom_core.specs.declared.spreads.BitPlace.{BitPlace}
use Rattle.geom_core.specs.Layout.{placed, next_place, pin_of}

pub placed_more : (changes : ℕ → Bool) (unit place : ℕ) → placed changes unit (place + 1) ≡ next_place unit (changes place) (placed changes unit place)
placed_more changes unit place = ap (placed changes unit) (add-one place)

-- what the next place is to the one before
pub record Follows (unit : ℕ) (p q : UnitPlace) : Type 0 where
  pub later : p.unit ≤ q.unit
  pub near : q.unit ≤ p.unit + 1
  pub along : q.unit ≡ p.unit → q.at ≡ p.at + 1
  pub within : 1 ≤ unit → q.at < unit

or_right : (a b : Bool) → (a || b) ≡ false → b ≡ false
or_right true b e = absurd (cc)
or_right false b e = e

not_not : (b : Bool) → not b ≡ false → b ≡ true
not_not true e = refl
not_not false e = absurd (cc)

next_of : (unit : ℕ) (changes : Bool) (p : UnitPlace) (new : Bool) → (changes || not (nat_lt (p.at + 1) unit)) ≡ new → Follows unit p (cond new (record { unit = p.unit + 1; at = 0 }) (record { unit = p.unit; at = p.at + 1 }))
next_of unit changes p true e = record { later = omega arith; near = omega arith; along = λ h. absurd (omega (arith, h)); within = λ h. omega (arith, h) }
next_of unit changes p false e =
    let t : nat_lt (p.at + 1) unit ≡ true = not_not (nat_lt (p.at + 1) unit) (or_right changes (not (nat_lt (p.at + 1) unit)) e) in
    record { later = omega arith; near = omega arith; along = λ h. refl; within = λ h. grind (arith, t) }

pub follows : (changes : ℕ → Bool) (unit place : ℕ) → Follows unit (placed changes unit place) (placed changes unit (suc place))
follows changes unit place = next_of unit (changes place) (placed changes unit place) (changes place || not (nat_lt ((placed changes unit place).at + 1) unit)) refl

pub at_within : (changes : ℕ → Bool) (unit place : ℕ) → 1 ≤ unit → (placed changes unit place).at < unit
at_within changes unit zero h = omega (arith, h)
at_within changes unit (suc place) h = (follows changes unit place).within h

pub unit_few : (changes : ℕ → Bool) (unit place : ℕ) → (placed changes unit place).unit ≤ place
unit_few changes unit zero = omega arith
unit_few changes unit (suc place) = omega (arith, unit_few changes unit place, (follows changes unit place).near)

pub at_few : (changes : ℕ → Bool) (unit place : ℕ) → 1 ≤ unit → (placed changes unit place).at + 1 ≤ unit
at_few changes unit place h = omega (arith, at_within changes unit place h)

rises_by : (changes : ℕ → Bool) (unit place n : ℕ) → (placed changes unit place).unit ≤ (placed changes unit (n + place)).unit
rises_by changes unit place zero = subst (λ k. (placed changes unit place).unit ≤ (placed changes unit k).unit) (let e : place ≡ 0 + place = omega arith in e) (omega arith)
rises_by changes unit place (suc n) =
    let e : suc (n + place) ≡ suc n + place = omega arith in
    subst (λ k. (placed changes unit place).unit ≤ (placed changes unit k).unit) e (omega (arith, rises_by changes unit place n, (follows changes unit (n + place)).later))

-- units rise along the row
pub rises : (changes : ℕ → Bool) (unit p q : ℕ) → p ≤ q → (placed changes unit p).unit ≤ (placed changes unit q).unit
rises changes unit p q h =
    let e : q - p + p ≡ q = omega arith in
    subst (λ k. (placed changes unit p).unit ≤ (placed changes unit k).unit) e (rises_by changes unit p (q - p))

-- bits of one unit lie one after the other
one_unit : (changes : ℕ → Bool) (unit place n : ℕ) → (placed changes unit (n + place)).unit ≡ (placed changes unit place).unit → (placed changes unit (n + place)).at ≡ (placed changes unit place).at + n
one_unit changes unit place zero h =
    let e : place ≡ 0 + place = omega arith in
    subst (λ k. (placed changes unit k).at ≡ (placed changes unit place).at + 0) e (omega arith)
one_unit changes unit place (suc n) h =
    let e : suc n + place ≡ suc (n + place) = omega arith in
    let h2 : (placed changes unit (suc (n + place))).unit ≡ (placed changes unit place).unit = subst (λ k. (placed changes unit k).unit ≡ (placed changes unit place).unit) e h in
    let f = follows changes unit (n + place) in
    let r = rises_by changes unit place n in
    let l = f.later in
    let s : (placed changes unit (n + place)).unit ≡ (placed changes unit place).unit = omega (arith, h2, r, l) in
    let q = f.along (omega (arith, h2, s)) in
    let i = one_unit changes unit place n s in
    subst (λ k. (placed changes unit k).at ≡ (placed changes unit place).at + suc n) (sym e) (omega (arith, q, i))

below_apart : (changes : ℕ → Bool) (unit p q : ℕ) → p ≤ q → (placed changes unit q).unit ≡ (placed changes unit p).unit → (placed changes unit q).at ≡ (placed changes unit p).at → q ≡ p
below_apart changes unit p q h units ats =
    let e : q - p + p ≡ q = omega arith in
    let same : (placed changes unit (q - p + p)).unit ≡ (placed changes unit p).unit = subst (λ k. (placed changes unit k).unit ≡ (placed changes unit p).unit) (sym e) units in
    let along = one_unit changes unit p (q - p) same in
    let at_q : (placed changes unit q).at ≡ (placed changes unit p).at + (q - p) = subst (λ k. (placed changes unit k).at ≡ (placed changes unit p).at + (q - p)) e along in
    omega (arith, at_q, ats, h)

-- no two bits lie in one place of one unit
pub placed_apart : (changes : ℕ → Bool) (unit p q : ℕ) → (placed changes unit q).unit ≡ (placed changes unit p).unit → (placed changes unit q).at ≡ (placed changes unit p).at → q ≡ p
placed_apart changes unit p q units ats =
    ⊎_elim (λ h. below_apart changes unit p q (omega (arith, h)) units ats) (λ h. sym (below_apart changes unit q p h (sym units) (sym ats))) (cases_lt p q)

-- the unit and the place in it, by column and pin
halves_of : (u v per : ℕ) → u / per ≡ v / per → u % per ≡ v % per → u ≡ v
halves_of u v per d m = sym (div-add-mod' u per) ∙ ap (λ k. k * per + u % per) d ∙ ap (λ k. v / per * per + k) m ∙ div-add-mod' v per

pub pins_apart : (unit units : ℕ) (p q : UnitPlace) → p.at < unit → q.at < unit → (pin_of unit units q).column ≡ (pin_of unit units p).column → (pin_of unit units q).pin ≡ (pin_of unit units p).pin → (q.unit ≡ p.unit) × (q.at ≡ p.at)
pins_apart unit units p q inside other columns pins =
    let both = same_from_place (q.unit % units) q.at (p.unit % units) p.at unit other inside pins in
    (halves_of q.unit p.unit units columns both.0, both.1)

-- two bits at one pin are one
pub bits_apart : (changes : ℕ → Bool) (unit units p q : ℕ) → 1 ≤ unit → pin_of unit units (placed changes unit q) ≡ pin_of unit units (placed changes unit p) → q ≡ p
bits_apart changes unit units p q some e =
    let both = pins_apart unit units (placed changes unit p) (placed changes unit q) (at_within changes unit p some) (at_within changes unit q some) (ap (λ (b : BitPlace). b.column) e) (ap (λ (b : BitPlace). b.pin) e) in
    placed_apart changes unit p q both.0 both.1

-- a pin lies within the column's units
pub pin_within : (unit units number at : ℕ) → at < unit → 1 ≤ units → number % units * unit + at < units * unit
pin_within unit units number at h some =
    let m : number % units < units = mod_below number units some in
    omega (arith, mul-add-lt (number % units) unit at units m h)

-- a unit's column is one of those that hold all units
pub column_within : (number count units : ℕ) → 1 ≤ units → number < count → number / units < count / units + min 1 (count % units)
column_within number count units some h =
    div_below number units (count / units + min 1 (count % units)) some (omega (arith, (div_ceil_times count units some).0, h))

pub columns_few : (count units : ℕ) → 1 ≤ units → count / units + min 1 (count % units) ≤ count
columns_few count units some = grind (arith, div-add-mod' count units)
