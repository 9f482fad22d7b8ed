-- A search may begin with a plan that costs one point more than a last candidate, since that one is offered at the end.
use Rattle.std.proofs.Common.{◌≡◌, ℕ, ◌+◌, ◌*◌, ◌≤◌, ◌<◌, Bool, true, false, cond, nat_lt, List, [], ◌∷◌, refl, sym, ap, ◌∙◌, arith}
use Rattle.std.specs.Prelude.{Option, Some, None, fold}
use Rattle.std.proofs.lemmas.Nat.{mul-le}
use Rattle.net_core.specs.declared.mems.Mem.{Mem}
use Rattle.net_core.specs.declared.mems.WrPort.{WrPort}
use Rattle.geom_core.specs.declared.candidates.Candidate.{Candidate}
use Rattle.geom_core.specs.declared.candidates.Candidate.TheVariants.{Registers}
use Rattle.fit_rules.specs.declared.plans.Plan.{Plan}
use Rattle.fit_rules.specs.Limits.{MemLimits}
use Rattle.fit_cost.specs.Points.{bit_points, registers_points}
use Rattle.plan_search.specs.Choice.{keep, offer, better}
use Rattle.plan_search.proofs.Choices.{HasPlanAtLeast, offer_at_least, taken}

abbrev plan_at : Candidate → ℕ → Plan
plan_at c n = record { candidate = c; points = n }

fewer_at_least : (a b : ℕ) (best : Option Plan) → a ≤ b → HasPlanAtLeast b best → HasPlanAtLeast a best
fewer_at_least a b None h k = tt
fewer_at_least a b (Some best) h k = omega (arith, h, k)

less_true : (a b : ℕ) → nat_lt a b ≡ true → a < b
less_true a b e = grind (arith, e)

less_false : (a b : ℕ) → nat_lt a b ≡ false → b ≤ a
less_false a b e = grind (arith, e)

-- what both searches end in
abbrev Ends : (Candidate → Option ℕ) → Candidate → ℕ → List Candidate → Option Plan → Type 0
Ends score c r xs a = better (fold (keep score) (Some (plan_at c (r + 1))) xs) c r ≡ better (fold (keep score) a xs) c r

step_by : (score : Candidate → Option ℕ) (c x : Candidate) (r n : ℕ) (xs : List Candidate) (a : Option Plan) (less : Bool) → nat_lt n (r + 1) ≡ less → HasPlanAtLeast (r + 1) a → ((b : Option Plan) → HasPlanAtLeast (r + 1) b → Ends score c r xs b) → better (fold (keep score) (better (Some (plan_at c (r + 1))) x n) xs) c r ≡ better (fold (keep score) (better a x n) xs) c r
step_by score c x r n xs a true e h more =
    let under : n + 1 ≤ r + 1 = omega (arith, less_true n (r + 1) e) in
    ap (λ b. better (fold (keep score) b xs) c r)
    (taken (Some (plan_at c (r + 1))) (plan_at x n) under ∙ sym (taken a (plan_at x n) (fewer_at_least (n + 1) (r + 1) a under h)))
step_by score c x r n xs a false e h more =
    ap (λ t. better (fold (keep score) (cond t (Some (plan_at x n)) (Some (plan_at c (r + 1)))) xs) c r) e ∙ more (better a x n) (offer_at_least (r + 1) a x (Some n) h (less_false n (r + 1) e))

step : (score : Candidate → Option ℕ) (c x : Candidate) (r : ℕ) (o : Option ℕ) (xs : List Candidate) (a : Option Plan) → HasPlanAtLeast (r + 1) a → ((b : Option Plan) → HasPlanAtLeast (r + 1) b → Ends score c r xs b) → better (fold (keep score) (offer (Some (plan_at c (r + 1))) x o) xs) c r ≡ better (fold (keep score) (offer a x o) xs) c r
step score c x r None xs a h more = more a h
step score c x r (Some n) xs a h more = step_by score c x r n xs a (nat_lt n (r + 1)) refl h more

capped : (score : Candidate → Option ℕ) (c : Candidate) (r : ℕ) (xs : List Candidate) (a : Option Plan) → HasPlanAtLeast (r + 1) a → Ends score c r xs a
capped score c r [] a h = taken (Some (plan_at c (r + 1))) (plan_at c r) (omega arith) ∙ sym (taken a (plan_at c r) h)
capped score c r (x ∷ xs) a h = step score c x r (score x) xs a h (λ b k. capped score c r xs b k)

-- where the last candidate fits or not
pub registers_last : (score : Candidate → Option ℕ) (fits : Bool) (r : ℕ) (xs : List Candidate) → offer (fold (keep score) None xs) Registers (cond fits (Some r) None) ≡ offer (fold (keep score) (cond fits (Some (record { candidate = Registers; points = r + 1 })) None) xs) Registers (cond fits (Some r) None)
registers_last score true r xs = sym (capped score Registers r xs None tt)
registers_last score false r xs = refl

bit_points_few : (writes : List WrPort) → bit_points writes ≤ 16
bit_points_few [] = omega arith
bit_points_few (w ∷ ws) = omega arith

pub registers_few : (m : Mem) → MemLimits m → registers_points m ≤ 134217728
registers_few m h = mul-le (bit_points m.writes) (m.size * m.width) 16 8388608 (bit_points_few m.writes) h.bits
