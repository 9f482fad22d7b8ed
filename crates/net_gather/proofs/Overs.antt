-- A limit that a part passes is passed by the whole.
use Rattle.std.proofs.Common.{◌≡◌, ℕ, ◌≤◌, Bool, true, false, cond, nat_lt, List, [], ◌∷◌, Result, Ok, Err, length, get_or, refl, ap, sym, subst, arith}
use Rattle.std.specs.Result.{IsErrAnd}
use Rattle.std.specs.List.{sum_by}
use Rattle.std.proofs.lemmas.Bool.Decides.{nat_tests}
use Rattle.std.proofs.lemmas.List.Sums.{sum_by-cons}
use Rattle.net_wires.specs.declared.breach.Breach.{Breach}
use Rattle.net_wires.specs.declared.breach.Stop.{Stop}
use Rattle.net_wires.specs.declared.breach.Stop.TheVariants as stop
use Rattle.net_wires.specs.Finds.{Finds, Stops}
use Rattle.net_gather.specs.Faults.{limit_breach, limit_breaches}

over_test : (x y : Bool) (w : Breach) (s : Stop) → (x ≡ true → y ≡ true) → Stops s (cond x (w ∷ []) []) → Stops s (cond y (w ∷ []) [])
over_test true true w s h p = p
over_test true false w s h p = absurd (let e : false ≡ true = h refl in cc)
over_test false y w stop.Memory h p = tt
over_test false y w (stop.Broken b) h p = absurd (let e : [] ≡ b ∷ p.0 = p.1 in cc)

still_over : (limit a b : ℕ) → a ≤ b → nat_lt limit a ≡ true → nat_lt limit b ≡ true
still_over limit a b h e = grind (arith, h, e, nat_tests)

pub stops_over : (s : Stop) (limit a b : ℕ) → a ≤ b → Stops s (limit_breaches limit a) → Stops s (limit_breaches limit b)
unfolding limit_breaches
stops_over s limit a b h p = over_test (nat_lt limit a) (nat_lt limit b) (limit_breach limit) s (still_over limit a b h) p

-- the stop of a call is handed on
pub finds_err : {X : Type 0} (r : Result X Stop) (e : Stop) (bs : List Breach) (P : X → Type 0) → IsErrAnd r (λ x. x ≡ e) → Stops e bs → Finds r bs P
finds_err (Ok x) e bs P p s = absurd p
finds_err (Err x) e bs P p s = subst (λ (y : Stop). Stops y bs) (sym p) s

-- the first of some numbers is no more than their sum
pub first_within : {X : Type 0} (f : X → ℕ) (xs : List X) (x : X) → 1 ≤ length xs → x ≡ get_or xs 0 x → f x ≤ sum_by f xs
first_within f [] x h e = absurd (omega arith)
first_within f (y ∷ ys) x h e = let same : f x ≡ f y = ap f e in omega (arith, same, sum_by-cons f y ys)
