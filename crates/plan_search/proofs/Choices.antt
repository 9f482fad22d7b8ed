-- The best of a list is its first candidate of least points, and the only one.
use Rattle.std.proofs.Common.{◌≡◌, ℕ, ◌+◌, ◌<◌, ◌≤◌, Bool, true, false, cond, nat_lt, List, [], ◌∷◌, ◌++◌, refl, sym, ap, subst, ◌∙◌, arith, append_assoc}
use Rattle.std.specs.Prelude.{Option, Some, None, fold}
use Rattle.geom_core.specs.declared.candidates.Candidate.{Candidate}
use Rattle.fit_rules.specs.declared.plans.Plan.{Plan}
use Rattle.fit_rules.specs.Candidates.{candidates}
use Rattle.fit_cost.specs.Points.{score}
use Rattle.plan_search.specs.Choice.{keep, better, offer, beats, best_of}
use Rattle.plan_search.specs.Chosen.{Each, HasAtLeast, Chosen, NoneFits, IsChoice, BestIsChosen, ChosenIsBest}
use Rattle.plan_search.proofs.Walked.{append_nil, fold_append}

each_append : {A : Type 0} (P : A → Type 0) (xs ys : List A) → Each P xs → Each P ys → Each P (xs ++ ys)
each_append P [] ys a b = b
each_append P (x ∷ xs) ys a b = (a.0, each_append P xs ys a.1 b)

each_map : {A : Type 0} (P Q : A → Type 0) (xs : List A) → ((x : A) → P x → Q x) → Each P xs → Each Q xs
each_map P Q [] f a = tt
each_map P Q (x ∷ xs) f a = (f x a.0, each_map P Q xs f a.1)

none_at_least : (least : ℕ) (o : Option ℕ) → o ≡ None → HasAtLeast least o
none_at_least least o e = subst (HasAtLeast least) (sym e) tt

more_at_least : (a b : ℕ) (o : Option ℕ) → a ≤ b → HasAtLeast b o → HasAtLeast a o
more_at_least a b None h x = tt
more_at_least a b (Some p) h x = omega (arith, h, x)

-- a first candidate that fits, after others that do not
first_fit : (score : Candidate → Option ℕ) (seen : List Candidate) (c : Candidate) (points : ℕ) → score c ≡ Some points → NoneFits score seen → Chosen score (seen ++ c ∷ []) (record { candidate = c; points = points })
first_fit score seen c points e none = record {
  before = seen;
  after = [];
  there = refl;
  fits = e;
  earlier_cost_more = each_map (λ c. score c ≡ None) (λ c. HasAtLeast (points + 1) (score c)) seen (λ x h. none_at_least (points + 1) (score x) h) none;
  later_cost_as_much = tt;
}

-- a better one
takes_over : (score : Candidate → Option ℕ) (seen : List Candidate) (best : Plan) (c : Candidate) (points : ℕ) → score c ≡ Some points → points < best.points → Chosen score seen best → Chosen score (seen ++ c ∷ []) (record { candidate = c; points = points })
takes_over score seen best c points e less h = record {
  before = seen;
  after = [];
  there = refl;
  fits = e;
  earlier_cost_more = subst (Each (λ c. HasAtLeast (points + 1) (score c))) (sym h.there)
      (each_append (λ c. HasAtLeast (points + 1) (score c)) h.before (best.candidate ∷ h.after)
      (each_map (λ c. HasAtLeast (best.points + 1) (score c)) (λ c. HasAtLeast (points + 1) (score c)) h.before (λ x g. more_at_least (points + 1) (best.points + 1) (score x) (omega (arith, less)) g) h.earlier_cost_more) (
        subst (HasAtLeast (points + 1)) (sym h.fits) (omega (arith, less)),
        each_map (λ c. HasAtLeast best.points (score c)) (λ c. HasAtLeast (points + 1) (score c)) h.after (λ x g. more_at_least (points + 1) best.points (score x) (omega (arith, less)) g) h.later_cost_as_much,
      ));
  later_cost_as_much = tt;
}

-- one that changes nothing
stays : (score : Candidate → Option ℕ) (seen : List Candidate) (best : Plan) (c : Candidate) → HasAtLeast best.points (score c) → Chosen score seen best → Chosen score (seen ++ c ∷ []) best
stays score seen best c more h = record {
  before = h.before;
  after = h.after ++ c ∷ [];
  there = ap (λ s. s ++ c ∷ []) h.there ∙ append_assoc h.before (best.candidate ∷ h.after) (c ∷ []);
  fits = h.fits;
  earlier_cost_more = h.earlier_cost_more;
  later_cost_as_much = each_append (λ c. HasAtLeast best.points (score c)) h.after (c ∷ []) h.later_cost_as_much (more, tt);
}

less_true : (a b : ℕ) → nat_lt a b ≡ true → a < b
less_true a b e = grind arith

less_false : (a b : ℕ) → nat_lt a b ≡ false → b ≤ a
less_false a b e = grind arith

pub true_less : (a b : ℕ) → a < b → nat_lt a b ≡ true
true_less a b h = grind arith

pub false_less : (a b : ℕ) → b ≤ a → nat_lt a b ≡ false
false_less a b h = grind arith

compared : (score : Candidate → Option ℕ) (seen : List Candidate) (best : Plan) (c : Candidate) (points : ℕ) (less : Bool) → nat_lt points best.points ≡ less → score c ≡ Some points → Chosen score seen best → IsChoice score (seen ++ c ∷ []) (cond less (Some (record { candidate = c; points = points })) (Some best))
compared score seen best c points true l e h = takes_over score seen best c points e (less_true points best.points l) h
compared score seen best c points false l e h = stays score seen best c (subst (HasAtLeast best.points) (sym e) (less_false points best.points l)) h

judged : (score : Candidate → Option ℕ) (seen : List Candidate) (best : Option Plan) (c : Candidate) (o : Option ℕ) → score c ≡ o → IsChoice score seen best → IsChoice score (seen ++ c ∷ []) (offer best c o)
judged score seen None c None e h = each_append (λ c. score c ≡ None) seen (c ∷ []) h (e, tt)
judged score seen None c (Some points) e h = first_fit score seen c points e h
judged score seen (Some best) c None e h = stays score seen best c (subst (HasAtLeast best.points) (sym e) tt) h
judged score seen (Some best) c (Some points) e h = compared score seen best c points (nat_lt points best.points) refl e h

goes_on : (score : Candidate → Option ℕ) (seen rest : List Candidate) (best : Option Plan) → IsChoice score seen best → IsChoice score (seen ++ rest) (fold (keep score) best rest)
goes_on score seen [] best h = subst (λ s. IsChoice score s best) (sym (append_nil seen)) h
goes_on score seen (c ∷ rest) best h =
    subst (λ s. IsChoice score s (fold (keep score) (keep score best c) rest)) (append_assoc seen (c ∷ []) rest)
    (goes_on score (seen ++ c ∷ []) rest (keep score best c) (judged score seen best c (score c) refl h))

pub best_of_is_choice : (score : Candidate → Option ℕ) (all : List Candidate) → IsChoice score all (best_of score all)
best_of_is_choice score all = goes_on score [] all None tt

pub best_is_chosen : BestIsChosen
best_is_chosen job lib style = best_of_is_choice (score job lib style) (candidates job.mem lib)

-- where nothing fits nothing is taken
none_taken : (score : Candidate → Option ℕ) (xs : List Candidate) (best : Option Plan) → NoneFits score xs → fold (keep score) best xs ≡ best
none_taken score [] best h = refl
none_taken score (c ∷ xs) best h = ap (λ o. fold (keep score) (offer best c o) xs) h.0 ∙ none_taken score xs best h.1

-- the best so far has at least so many points, if there is one
abbrev pub HasPlanAtLeast : ℕ → Option Plan → Type 0
HasPlanAtLeast least None = Unit {0}
HasPlanAtLeast least (Some best) = least ≤ best.points

cond_at_least : (least : ℕ) (b : Bool) (p q : Option Plan) → HasPlanAtLeast least p → HasPlanAtLeast least q → HasPlanAtLeast least (cond b p q)
cond_at_least least true p q h k = h
cond_at_least least false p q h k = k

pub offer_at_least : (least : ℕ) (best : Option Plan) (c : Candidate) (o : Option ℕ) → HasPlanAtLeast least best → HasAtLeast least o → HasPlanAtLeast least (offer best c o)
offer_at_least least best c None h k = h
offer_at_least least best c (Some points) h k = cond_at_least least (beats points best) (Some (record { candidate = c; points = points })) best k h

all_at_least : (score : Candidate → Option ℕ) (least : ℕ) (xs : List Candidate) (best : Option Plan) → HasPlanAtLeast least best → Each (λ c. HasAtLeast least (score c)) xs → HasPlanAtLeast least (fold (keep score) best xs)
all_at_least score least [] best h k = h
all_at_least score least (c ∷ xs) best h k = all_at_least score least xs (keep score best c) (offer_at_least least best c (score c) h k.0) k.1

-- one of fewer points takes over
pub taken : (best : Option Plan) (plan : Plan) → HasPlanAtLeast (plan.points + 1) best → better best plan.candidate plan.points ≡ Some plan
taken None plan h = refl
taken (Some best) plan h = ap (λ b. cond b (Some plan) (Some best)) (true_less plan.points best.points (omega (arith, h)))

-- and stays
kept_at : (plan : Plan) (c : Candidate) (o : Option ℕ) → HasAtLeast plan.points o → offer (Some plan) c o ≡ Some plan
kept_at plan c None h = refl
kept_at plan c (Some points) h = ap (λ b. cond b (Some (record { candidate = c; points = points })) (Some plan)) (false_less points plan.points h)

kept_after : (score : Candidate → Option ℕ) (xs : List Candidate) (plan : Plan) → Each (λ c. HasAtLeast plan.points (score c)) xs → fold (keep score) (Some plan) xs ≡ Some plan
kept_after score [] plan h = refl
kept_after score (c ∷ xs) plan h = ap (λ b. fold (keep score) b xs) (kept_at plan c (score c) h.0) ∙ kept_after score xs plan h.1

chosen_is_best_of : (score : Candidate → Option ℕ) (all : List Candidate) (plan : Plan) → Chosen score all plan → Some plan ≡ best_of score all
chosen_is_best_of score all plan h =
    let before : Option Plan = fold (keep score) None h.before in
    let least : HasPlanAtLeast (plan.points + 1) before = all_at_least score (plan.points + 1) h.before None tt h.earlier_cost_more in
    let here : keep score before plan.candidate ≡ Some plan = ap (offer before plan.candidate) h.fits ∙ taken before plan least in
    let whole : fold (keep score) None (h.before ++ plan.candidate ∷ h.after) ≡ Some plan =
    fold_append (keep score) None h.before (plan.candidate ∷ h.after) ∙ (ap (λ b. fold (keep score) b h.after) here ∙ kept_after score h.after plan h.later_cost_as_much) in
    sym (ap (fold (keep score) None) h.there ∙ whole)

choice_is_best_of : (score : Candidate → Option ℕ) (all : List Candidate) (plan : Option Plan) → IsChoice score all plan → plan ≡ best_of score all
choice_is_best_of score all None h = sym (none_taken score all None h)
choice_is_best_of score all (Some plan) h = chosen_is_best_of score all plan h

pub chosen_is_best : ChosenIsBest
chosen_is_best job lib style plan h = choice_is_best_of (score job lib style) (candidates job.mem lib) plan h
