-- Where nothing can stand the best stays.
use Rattle.std.proofs.Common.{◌≡◌, ℕ, ◌+◌, ◌≤◌, ◌<◌, Bool, true, false, ◌&&◌, ◌||◌, nat_eq, nat_lt, inl, inr, List, [], ◌∷◌, length, refl, sym, ap, subst, ◌∙◌, arith}
use Rattle.std.specs.Prelude.{Option, Some, None, slice_get, fold}
use Rattle.std.proofs.Math.Nat.{eq-or-lt_of_le}
use Rattle.std.proofs.lemmas.Bool.{false≢true, true≢false}
use Rattle.std.proofs.lemmas.Option.{slice_get_within}
use Rattle.lib_core.specs.declared.library.Group.{Group}
use Rattle.lib_core.specs.declared.library.Variant.{Variant}
use Rattle.net_core.specs.declared.mems.Mem.{Mem}
use Rattle.net_core.specs.declared.mems.MemJob.{MemJob}
use Rattle.net_core.specs.declared.mems.RdPort.{RdPort}
use Rattle.net_core.specs.declared.mems.WrPort.{WrPort}
use Rattle.geom_core.specs.declared.candidates.ReadPlace.{ReadPlace}
use Rattle.geom_core.specs.declared.candidates.ReadPlace.TheVariants as place
use Rattle.fit_rules.specs.declared.plans.Plan.{Plan}
use Rattle.fit_rules.specs.declared.spots.Spot.{Spot}
use Rattle.fit_rules.specs.Candidates.{tuples, chosen, read_choices, write_choices}
use Rattle.fit_rules.specs.Rules.{zip_all, writes_placed, lanes_stand, ram_fits}
use Rattle.fit_rules.specs.Standing.{at_group, suits, left, place_suits, stands_at, read_stands, first_ride, is_this}
use Rattle.fit_rules.proofs.Lengths.{and_left, and_right}
use Rattle.fit_cost.specs.Points.{ram_points}
use Rattle.plan_search.specs.Openings.{some_group, some_ride, has_place, have_places, opens, or_opens, is_open}
use Rattle.plan_search.specs.Rams.{at_spot}
use Rattle.plan_search.specs.Steps.{at_reads, at_groups}
use Rattle.plan_search.specs.Walks.{walk}
use Rattle.plan_search.proofs.Cuts.{both, unfit, fits_writes, fits_reads, fits_lanes}
use Rattle.plan_search.proofs.Walked.{fold_same, walk_cut}

or_left : (a b : Bool) → a ≡ true → a || b ≡ true
or_left true b e = refl
or_left false b e = absurd (false≢true e)

or_right : (a b : Bool) → b ≡ true → a || b ≡ true
or_right true b e = refl
or_right false b e = e

-- a place at which a read stands is a place that it has
group_passes : (test : ℕ → Bool) (n g : ℕ) (gs : List Group) → n ≤ g → g < n + length gs → test g ≡ true → some_group test n gs ≡ true
group_passes test n g [] h k e = absurd (omega (arith, h, k))
group_passes test n g (x ∷ xs) h k e =
    elim (eq-or-lt_of_le {n = n} {m = g} h) as (λ _. some_group test n (x ∷ xs) ≡ true) [
      | inl same ↦ or_left (test n) (some_group test (n + 1) xs) (subst (λ z. test z ≡ true) (sym same) e)
      | inr l ↦ or_right (test n) (some_group test (n + 1) xs) (group_passes test (n + 1) g xs (omega (arith, l)) (omega (arith, k)) e)
    ]

there : (o : Option Group) (test : Group → Bool) → elim o as (λ _. Bool) [ None ↦ false | Some g ↦ test g ] ≡ true → (g : Group) × (o ≡ Some g)
there None test e = absurd (false≢true e)
there (Some g) test e = (g, refl)

group_there : (v : Variant) (n : ℕ) (test : Group → Bool) → at_group v n test ≡ true → n < length v.groups
group_there v n test e = let h = there (slice_get v.groups n) test e in slice_get_within v.groups n h.0 h.1

equal_numbers : (a b : ℕ) → nat_eq a b ≡ true → a ≡ b
equal_numbers a b e = grind arith

ride_passes : (test : ReadPlace → Bool) (o : Option ℕ) (w : ℕ) → is_this o w ≡ true → test (place.Ride w) ≡ true → some_ride test o ≡ true
ride_passes test None w e h = absurd (false≢true e)
ride_passes test (Some n) w e h = subst (λ z. test (place.Ride z) ≡ true) (sym (equal_numbers n w e)) h

place_passes : (v : Variant) (s : Spot) (writes : List WrPort) (groups : List ℕ) (n : ℕ) (r : RdPort) (p : ReadPlace) → read_stands v s writes groups n r p ≡ true → has_place v s writes groups n r ≡ true
place_passes v s writes groups n r (place.Group g) e =
    let suited = and_left (place_suits v writes groups r (place.Group g)) (stands_at v s writes groups n r (place.Group g)) e in
    let within = group_there v g (λ k. suits k r.clock) (and_left (at_group v g (λ k. suits k r.clock)) (nat_lt 0 (left v groups g)) suited) in
    or_left (some_group (λ k. read_stands v s writes groups n r (place.Group k)) 0 v.groups) (some_ride (read_stands v s writes groups n r) (first_ride v r 0 writes groups))
    (group_passes (λ k. read_stands v s writes groups n r (place.Group k)) 0 g v.groups (omega arith) (omega (arith, within)) e)
place_passes v s writes groups n r (place.Ride w) e =
    or_right (some_group (λ k. read_stands v s writes groups n r (place.Group k)) 0 v.groups) (some_ride (read_stands v s writes groups n r) (first_ride v r 0 writes groups))
    (ride_passes (read_stands v s writes groups n r) (first_ride v r 0 writes groups) w (and_left (place_suits v writes groups r (place.Ride w)) (stands_at v s writes groups n r (place.Ride w)) e) e)

places_pass : (v : Variant) (s : Spot) (writes : List WrPort) (groups : List ℕ) (n : ℕ) (rs : List RdPort) (ps : List ReadPlace) → zip_all (read_stands v s writes groups) n rs ps ≡ true → have_places v s writes groups n rs ≡ true
places_pass v s writes groups n [] ps e = refl
places_pass v s writes groups n (r ∷ rs) [] e = absurd (false≢true e)
places_pass v s writes groups n (r ∷ rs) (p ∷ ps) e =
    both (has_place v s writes groups n r) (have_places v s writes groups (n + 1) rs)
    (place_passes v s writes groups n r p (and_left (read_stands v s writes groups n r p) (zip_all (read_stands v s writes groups) (n + 1) rs ps) e))
    (places_pass v s writes groups (n + 1) rs ps (and_right (read_stands v s writes groups n r p) (zip_all (read_stands v s writes groups) (n + 1) rs ps) e))

fits_open : (job : MemJob) (v : Variant) (s : Spot) (groups : List ℕ) (reads : List ReadPlace) → ram_fits job v s groups reads ≡ true → opens job.mem v s groups ≡ true
fits_open job v s groups reads e =
    both (writes_placed job.mem v s groups) (lanes_stand job.mem v s groups && have_places v s job.mem.writes groups 0 job.mem.reads) (fits_writes job v s groups reads e)
    (both (lanes_stand job.mem v s groups) (have_places v s job.mem.writes groups 0 job.mem.reads) (fits_lanes job v s groups reads e)
    (places_pass v s job.mem.writes groups 0 job.mem.reads reads (fits_reads job v s groups reads e)))

-- so where the groups open nothing, the best stays
shut_groups : (job : MemJob) (v : Variant) (s : Spot) (best : Option Plan) (groups : List ℕ) → opens job.mem v s groups ≡ false → at_groups job v s best groups ≡ best
shut_groups job v s best groups e =
    fold_same (at_reads job v s groups) best (tuples (read_choices job.mem v groups)) (λ reads.
    unfit best (chosen s groups reads) (ram_fits job v s groups reads) (opens job.mem v s groups) (ram_points job v s groups reads) (fits_open job v s groups reads) e)

all_true : {A : Type 0} (test : A → Bool) (xs : List A) → fold (λ b x. b || test x) true xs ≡ true
all_true test xs = fold_same (λ b x. b || test x) true xs (λ x. refl)

-- a step that changes nothing where a test fails changes nothing over a list on which it always fails
fold_shut : {A B : Type 0} (test : A → Bool) (step : B → A → B) (b : B) (xs : List A) → ((x : A) → test x ≡ false → step b x ≡ b) → fold (λ c x. c || test x) false xs ≡ false → fold step b xs ≡ b
fold_shut test step b [] same e = refl
fold_shut test step b (x ∷ xs) same e = by_test test step b x xs same (λ h. fold_shut test step b xs same h) (test x) refl e
  where
    by_test : {A B : Type 0} (test : A → Bool) (step : B → A → B) (b : B) (x : A) (xs : List A) → ((x : A) → test x ≡ false → step b x ≡ b) → (fold (λ c x. c || test x) false xs ≡ false → fold step b xs ≡ b) → (c : Bool) → test x ≡ c → fold (λ c x. c || test x) c xs ≡ false → fold step (step b x) xs ≡ b
    by_test test step b x xs same rest true h e = absurd (true≢false (sym (all_true test xs) ∙ e))
    by_test test step b x xs same rest false h e = ap (λ c. fold step c xs) (same x h) ∙ rest e

pub cannot_stand : (job : MemJob) (v : Variant) (s : Spot) (best : Option Plan) → is_open job.mem v s ≡ false → best ≡ at_spot job v s best
cannot_stand job v s best e = sym (fold_shut (opens job.mem v s) (at_groups job v s) best (tuples (write_choices job.mem v)) (λ groups h. shut_groups job v s best groups h) e)

-- what is open stays open
pub walk_opened : (m : Mem) (v : Variant) (s : Spot) (so_far : List ℕ) (before : Bool) (choices : List (List ℕ)) → before ≡ true → true ≡ walk (or_opens m v s) before so_far choices
walk_opened m v s so_far true choices e = sym (walk_cut (or_opens m v s) true so_far choices (λ more. refl))
walk_opened m v s so_far false choices e = absurd (false≢true e)
