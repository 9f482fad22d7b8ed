-- A branch that is cut holds no candidate that would be taken.
use Rattle.std.proofs.Common.{◌≡◌, ℕ, ◌+◌, ◌≤◌, Bool, true, false, not, ◌&&◌, cond, nat_lt, List, [], ◌∷◌, ◌++◌, length, refl, sym, ap, subst, ◌∙◌, arith}
use Rattle.std.specs.Prelude.{Option, Some, None, Result, IfOk, fold}
use Rattle.std.proofs.lemmas.Bool.{false≢true, true≢false}
use Rattle.lib_core.specs.declared.library.Variant.{Variant}
use Rattle.lib_core.specs.declared.memory.Memory.{Memory}
use Rattle.net_core.specs.declared.mems.MemJob.{MemJob}
use Rattle.geom_core.specs.declared.candidates.Candidate.{Candidate}
use Rattle.geom_core.specs.declared.candidates.ReadPlace.{ReadPlace}
use Rattle.fit_rules.specs.declared.plans.Plan.{Plan}
use Rattle.fit_rules.specs.declared.spots.Spot.{Spot}
use Rattle.fit_rules.specs.Candidates.{tuples, below, chosen, read_choices, write_choices}
use Rattle.fit_rules.specs.Rules.{zip_all, zip_each, zip_front, zip_each_front, few_ports, is_aligned, writes_stand, writes_placed, reads_placed, lanes_stand, can_start, order_met, is_small, ports_met, rest_met, ram_fits}
use Rattle.fit_rules.specs.Standing.{have_names, write_stands, read_stands}
use Rattle.fit_rules.proofs.Lengths.{and_left, and_right}
use Rattle.fit_cost.specs.Points.{ram_points}
use Rattle.fit_cost.proofs.Rising.{rise_with_places}
use Rattle.plan_search.specs.Choice.{offer, better, beats}
use Rattle.plan_search.specs.Rams.{at_spot, at_level, at_fold, at_folds}
use Rattle.plan_search.specs.Steps.{at_reads, at_groups, may_read, cuts_reads, cuts_writes, may_write}
use Rattle.plan_search.specs.Walks.{walk}
use Rattle.plan_search.proofs.Rising.{points_of_writes_hold, order_front, small_front, small_of_one}
use Rattle.plan_search.proofs.Walked.{fold_same, walk_cut}

pub both : (a b : Bool) → a ≡ true → b ≡ true → a && b ≡ true
both true b h k = k
both false b h k = absurd (false≢true h)

-- a test of two lists holds of the front of the second
front_holds : {A B : Type 0} (test : ℕ → A → B → Bool) (n : ℕ) (xs : List A) (ys more : List B) → zip_all test n xs (ys ++ more) ≡ true → zip_front test n xs ys ≡ true
front_holds test n xs [] more e = refl
front_holds test n [] (y ∷ ys) more e = e
front_holds test n (x ∷ xs) (y ∷ ys) more e =
    both (test n x y) (zip_front test (n + 1) xs ys) (and_left (test n x y) (zip_all test (n + 1) xs (ys ++ more)) e)
    (front_holds test (n + 1) xs ys more (and_right (test n x y) (zip_all test (n + 1) xs (ys ++ more)) e))

each_front_holds : {A B : Type 0} (test : A → B → Bool) (xs : List A) (ys more : List B) → zip_each test xs (ys ++ more) ≡ true → zip_each_front test xs ys ≡ true
each_front_holds test xs [] more e = refl
each_front_holds test [] (y ∷ ys) more e = e
each_front_holds test (x ∷ xs) (y ∷ ys) more e =
    both (test x y) (zip_each_front test xs ys) (and_left (test x y) (zip_each test xs (ys ++ more)) e)
    (each_front_holds test xs ys more (and_right (test x y) (zip_each test xs (ys ++ more)) e))

-- what a candidate that fits meets
fits_ports : (job : MemJob) (v : Variant) (s : Spot) (groups : List ℕ) (places : List ReadPlace) → ram_fits job v s groups places ≡ true → ports_met job.mem v s groups places ≡ true
unfolding ram_fits
fits_ports job v s groups places e = and_left (ports_met job.mem v s groups places) (rest_met job v s groups places) e

fits_rest : (job : MemJob) (v : Variant) (s : Spot) (groups : List ℕ) (places : List ReadPlace) → ram_fits job v s groups places ≡ true → rest_met job v s groups places ≡ true
unfolding ram_fits
fits_rest job v s groups places e = and_right (ports_met job.mem v s groups places) (rest_met job v s groups places) e

pub fits_memory : (job : MemJob) (v : Variant) (s : Spot) (groups : List ℕ) (places : List ReadPlace) → ram_fits job v s groups places ≡ true → few_ports job.mem && is_aligned job.mem ≡ true
fits_memory job v s groups places e =
    let ports = fits_ports job v s groups places e in
    both (few_ports job.mem) (is_aligned job.mem) (and_left (few_ports job.mem) _ ports)
    (and_left (is_aligned job.mem) _ (and_right (few_ports job.mem) (is_aligned job.mem && (writes_placed job.mem v s groups && reads_placed job.mem v s groups places)) ports))

fits_placed : (job : MemJob) (v : Variant) (s : Spot) (groups : List ℕ) (places : List ReadPlace) → ram_fits job v s groups places ≡ true → writes_placed job.mem v s groups && reads_placed job.mem v s groups places ≡ true
fits_placed job v s groups places e =
    and_right (is_aligned job.mem) (writes_placed job.mem v s groups && reads_placed job.mem v s groups places)
    (and_right (few_ports job.mem) (is_aligned job.mem && (writes_placed job.mem v s groups && reads_placed job.mem v s groups places)) (fits_ports job v s groups places e))

pub fits_writes : (job : MemJob) (v : Variant) (s : Spot) (groups : List ℕ) (places : List ReadPlace) → ram_fits job v s groups places ≡ true → writes_placed job.mem v s groups ≡ true
fits_writes job v s groups places e = and_left (writes_placed job.mem v s groups) (reads_placed job.mem v s groups places) (fits_placed job v s groups places e)

pub fits_reads : (job : MemJob) (v : Variant) (s : Spot) (groups : List ℕ) (places : List ReadPlace) → ram_fits job v s groups places ≡ true → reads_placed job.mem v s groups places ≡ true
fits_reads job v s groups places e = and_right (writes_placed job.mem v s groups) (reads_placed job.mem v s groups places) (fits_placed job v s groups places e)

pub fits_lanes : (job : MemJob) (v : Variant) (s : Spot) (groups : List ℕ) (places : List ReadPlace) → ram_fits job v s groups places ≡ true → lanes_stand job.mem v s groups ≡ true
fits_lanes job v s groups places e = and_left (lanes_stand job.mem v s groups) _ (fits_rest job v s groups places e)

fits_start_on : (job : MemJob) (v : Variant) (s : Spot) (groups : List ℕ) (places : List ReadPlace) → ram_fits job v s groups places ≡ true → can_start job.mem v && (order_met job v groups places && is_small job.mem v s groups places) ≡ true
fits_start_on job v s groups places e = and_right (lanes_stand job.mem v s groups) (can_start job.mem v && (order_met job v groups places && is_small job.mem v s groups places)) (fits_rest job v s groups places e)

fits_start : (job : MemJob) (v : Variant) (s : Spot) (groups : List ℕ) (places : List ReadPlace) → ram_fits job v s groups places ≡ true → can_start job.mem v ≡ true
fits_start job v s groups places e = and_left (can_start job.mem v) _ (fits_start_on job v s groups places e)

fits_last : (job : MemJob) (v : Variant) (s : Spot) (groups : List ℕ) (places : List ReadPlace) → ram_fits job v s groups places ≡ true → order_met job v groups places && is_small job.mem v s groups places ≡ true
fits_last job v s groups places e = and_right (can_start job.mem v) (order_met job v groups places && is_small job.mem v s groups places) (fits_start_on job v s groups places e)

pub fits_small : (job : MemJob) (v : Variant) (s : Spot) (groups : List ℕ) (places : List ReadPlace) → ram_fits job v s groups places ≡ true → is_small job.mem v s groups places ≡ true
fits_small job v s groups places e = and_right (order_met job v groups places) (is_small job.mem v s groups places) (fits_last job v s groups places e)

fits_order : (job : MemJob) (v : Variant) (s : Spot) (groups : List ℕ) (places : List ReadPlace) → ram_fits job v s groups places ≡ true → order_met job v groups places ≡ true
fits_order job v s groups places e = and_left (order_met job v groups places) (is_small job.mem v s groups places) (fits_last job v s groups places e)

-- what begins a choice that fits may be tried
may_front : (job : MemJob) (v : Variant) (s : Spot) (groups : List ℕ) (so_far more : List ReadPlace) → ram_fits job v s groups (so_far ++ more) ≡ true → may_read job v s groups so_far ≡ true
may_front job v s groups so_far more e =
    both (zip_front (read_stands v s job.mem.writes groups) 0 job.mem.reads so_far) (order_met job v groups so_far && is_small job.mem v s groups so_far)
    (front_holds (read_stands v s job.mem.writes groups) 0 job.mem.reads so_far more (fits_reads job v s groups (so_far ++ more) e))
    (both (order_met job v groups so_far) (is_small job.mem v s groups so_far)
    (order_front job v groups so_far more (fits_order job v s groups (so_far ++ more) e))
    (small_front job.mem v s groups so_far more (fits_small job v s groups (so_far ++ more) e)))

-- more points beat no more
less_false : (a b c : ℕ) → a ≤ b → nat_lt a c ≡ false → nat_lt b c ≡ false
less_false a b c h e = grind (arith, h, e)

beats_less : (a b : ℕ) (best : Option Plan) → a ≤ b → beats a best ≡ false → beats b best ≡ false
beats_less a b None h e = e
beats_less a b (Some best) h e = less_false a b best.points h e

unbeaten : (best : Option Plan) (c : Candidate) (points : ℕ) → beats points best ≡ false → better best c points ≡ best
unbeaten best c points e = ap (λ b. cond b (Some (record { candidate = c; points = points })) best) e

not_true : (b : Bool) → not b ≡ true → b ≡ false
not_true true e = sym e
not_true false e = refl

-- what does not fit changes nothing
pub unfit : (best : Option Plan) (c : Candidate) (fits test : Bool) (points : ℕ) → (fits ≡ true → test ≡ true) → test ≡ false → offer best c (cond fits (Some points) None) ≡ best
unfit best c false test points h e = refl
unfit best c true test points h e = absurd (true≢false (sym (h refl) ∙ e))

-- what does not fit, or does not beat the best, changes nothing
unchanged : (best : Option Plan) (c : Candidate) (fits : Bool) (points bound : ℕ) (front : Bool) → (fits ≡ true → front ≡ true) → bound ≤ points → not (front && beats bound best) ≡ true → offer best c (cond fits (Some points) None) ≡ best
unchanged best c false points bound front hf hb cut = refl
unchanged best c true points bound true hf hb cut = unbeaten best c points (beats_less bound points best hb (not_true (beats bound best) cut))
unchanged best c true points bound false hf hb cut = absurd (false≢true (hf refl))

-- the cut of a read's place
cut_read : (job : MemJob) (v : Variant) (s : Spot) (groups : List ℕ) (so_far more : List ReadPlace) (best : Option Plan) → cuts_reads job v s groups so_far best ≡ true → at_reads job v s groups best (so_far ++ more) ≡ best
cut_read job v s groups so_far more best cut =
    unchanged best (chosen s groups (so_far ++ more)) (ram_fits job v s groups (so_far ++ more)) (ram_points job v s groups (so_far ++ more)) (ram_points job v s groups so_far) (may_read job v s groups so_far)
    (may_front job v s groups so_far more) (rise_with_places job v s groups so_far more) cut

pub walk_cut_reads : (job : MemJob) (v : Variant) (s : Spot) (groups : List ℕ) (so_far : List ReadPlace) (best : Option Plan) (choices : List (List ReadPlace)) → cuts_reads job v s groups so_far best ≡ true → best ≡ walk (at_reads job v s groups) best so_far choices
walk_cut_reads job v s groups so_far best choices cut = sym (walk_cut (at_reads job v s groups) best so_far choices (λ more. cut_read job v s groups so_far more best cut))

-- the cut of a write's group
cut_write : (job : MemJob) (v : Variant) (s : Spot) (so_far more : List ℕ) (best : Option Plan) → cuts_writes job v s so_far best ≡ true → at_groups job v s best (so_far ++ more) ≡ best
cut_write job v s so_far more best cut =
    fold_same (at_reads job v s (so_far ++ more)) best (tuples (read_choices job.mem v (so_far ++ more))) (λ reads.
    unchanged best (chosen s (so_far ++ more) reads) (ram_fits job v s (so_far ++ more) reads) (ram_points job v s (so_far ++ more) reads) (ram_points job v s so_far []) (zip_each_front (write_stands v s) job.mem.writes so_far)
    (λ e. each_front_holds (write_stands v s) job.mem.writes so_far more (and_left (writes_stand job.mem v s (so_far ++ more)) (have_names v (so_far ++ more)) (fits_writes job v s (so_far ++ more) reads e)))
    (points_of_writes_hold job v s so_far more reads) cut)

pub walk_cut_writes : (job : MemJob) (v : Variant) (s : Spot) (so_far : List ℕ) (best : Option Plan) (choices : List (List ℕ)) → cuts_writes job v s so_far best ≡ true → best ≡ walk (at_groups job v s) best so_far choices
walk_cut_writes job v s so_far best choices cut = sym (walk_cut (at_groups job v s) best so_far choices (λ more. cut_write job v s so_far more best cut))

-- tests that hold whatever the places
pub cannot_write : (job : MemJob) (v : Variant) (s : Spot) (groups : List ℕ) (best : Option Plan) → may_write job v s groups ≡ false → best ≡ at_groups job v s best groups
cannot_write job v s groups best e =
    sym (fold_same (at_reads job v s groups) best (tuples (read_choices job.mem v groups)) (λ reads.
    unfit best (chosen s groups reads) (ram_fits job v s groups reads) (may_write job v s groups) (ram_points job v s groups reads)
    (λ f. both (writes_placed job.mem v s groups) (lanes_stand job.mem v s groups) (fits_writes job v s groups reads f) (fits_lanes job v s groups reads f)) e))

unfit_spot : (job : MemJob) (v : Variant) (s : Spot) (best : Option Plan) (test : Bool) → ((groups : List ℕ) (reads : List ReadPlace) → ram_fits job v s groups reads ≡ true → test ≡ true) → test ≡ false → at_spot job v s best ≡ best
unfit_spot job v s best test h e =
    fold_same (at_groups job v s) best (tuples (write_choices job.mem v)) (λ groups.
    fold_same (at_reads job v s groups) best (tuples (read_choices job.mem v groups)) (λ reads.
    unfit best (chosen s groups reads) (ram_fits job v s groups reads) test (ram_points job v s groups reads) (h groups reads) e))

pub too_large : (job : MemJob) (v : Variant) (s : Spot) (best : Option Plan) → is_small job.mem v s [] [] ≡ false → best ≡ at_spot job v s best
too_large job v s best e = sym (unfit_spot job v s best (is_small job.mem v s [] []) (λ groups reads f. small_of_one job.mem v s [] groups reads (fits_small job v s groups reads f)) e)

pub cannot_start : (job : MemJob) (v : Variant) (ram n : ℕ) (best : Option Plan) → can_start job.mem v ≡ false → best ≡ at_folds job v ram n best
cannot_start job v ram n best e =
    sym (fold_same (at_fold job v ram n) best (below 7) (λ f.
    fold_same (at_level job v ram n f) best (below (length v.widths)) (λ l.
    unfit_spot job v (record { ram = ram; variant = n; fold = f; level = l }) best (can_start job.mem v)
    (λ groups reads g. fits_start job v (record { ram = ram; variant = n; fold = f; level = l }) groups reads g) e)))

-- a walk from the beginning is the walk over the whole list
pub whole_spot : (job : MemJob) (v : Variant) (s : Spot) (best : Option Plan) (so_far : List ℕ) (choices : List (List ℕ)) (result : Result (Option Plan) Memory) → so_far ≡ [] → choices ≡ write_choices job.mem v → IfOk result (λ after. after ≡ walk (at_groups job v s) best so_far choices) → IfOk result (λ after. after ≡ at_spot job v s best)
whole_spot job v s best so_far choices result e f h =
    subst (λ all. IfOk result (λ after. after ≡ fold (at_groups job v s) best (tuples all))) f
    (subst (λ start. IfOk result (λ after. after ≡ walk (at_groups job v s) best start choices)) e h)

-- at a spot where no candidate passes a test and has fewer points than a bound that does not beat the best, the best stays
pub unmoved_spot : (job : MemJob) (v : Variant) (s : Spot) (best : Option Plan) (bound : ℕ) (test : Bool) → ((groups : List ℕ) (reads : List ReadPlace) → ram_fits job v s groups reads ≡ true → test ≡ true) → ((groups : List ℕ) (reads : List ReadPlace) → bound ≤ ram_points job v s groups reads) → not (test && beats bound best) ≡ true → best ≡ at_spot job v s best
unmoved_spot job v s best bound test h k cut =
    sym (fold_same (at_groups job v s) best (tuples (write_choices job.mem v)) (λ groups.
    fold_same (at_reads job v s groups) best (tuples (read_choices job.mem v groups)) (λ reads.
    unchanged best (chosen s groups reads) (ram_fits job v s groups reads) (ram_points job v s groups reads) bound test (h groups reads) (k groups reads) cut)))
