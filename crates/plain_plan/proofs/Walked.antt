-- The search visits the candidates that may be plain in the list's order.
use Rattle.std.proofs.Common.{◌≡◌, ℕ, zero, suc, ◌+◌, ◌≤◌, Bool, true, false, cond, List, [], ◌∷◌, map, flat_map, length, refl, sym, ap, subst, ◌∙◌, arith}
use Rattle.std.specs.Prelude.{Option, Some, None, fold, slice_get, option_to_list}
use Rattle.std.specs.List.{range_with_len}
use Rattle.std.proofs.lemmas.Bool.{eqb-true}
use Rattle.lib_core.specs.declared.library.Library.{Library}
use Rattle.lib_core.specs.declared.library.RamKind.{RamKind}
use Rattle.lib_core.specs.declared.library.Variant.{Variant}
use Rattle.net_core.specs.declared.mems.Mem.{Mem}
use Rattle.net_core.specs.declared.mems.MemJob.{MemJob}
use Rattle.net_core.specs.declared.mems.RdPort.{RdPort}
use Rattle.net_core.specs.declared.mems.WrPort.{WrPort}
use Rattle.net_core.specs.declared.mems.Style.{Style}
use Rattle.geom_core.specs.declared.candidates.Candidate.{Candidate}
use Rattle.geom_core.specs.declared.candidates.Candidate.TheVariants.{Ram, Registers}
use Rattle.geom_core.specs.declared.candidates.RamChoice.{RamChoice}
use Rattle.geom_core.specs.declared.candidates.ReadPlace.{ReadPlace}
use Rattle.geom_core.specs.declared.candidates.ReadPlace.TheVariants as place
use Rattle.fit_rules.specs.declared.plans.Plan.{Plan}
use Rattle.fit_rules.specs.declared.spots.Spot.{Spot}
use Rattle.fit_rules.specs.Candidates.{tuples, below, each_at, places, chosen, read_choices, write_choices, at_spot, at_variant, candidates}
use Rattle.fit_rules.specs.Standing.{first_ride}
use Rattle.plan_search.specs.Choice.{keep, offer}
use Rattle.plan_search.specs.Chosen.{Each}
use Rattle.plan_search.specs.Rams.{fold_at}
use Rattle.plan_search.proofs.Walked as walks
use Rattle.plan_search.proofs.Walked.{fold_append, fold_flat_map, fold_map, flat_map_same, map_same, append_nil}
use Rattle.plan_search.proofs.Choices.{best_of_is_choice}
use Rattle.ram_emit.specs.Plain.{IsPlain}
use Rattle.plain_plan.specs.Chosen.{plain_score, least_plain}
use Rattle.plain_plan.specs.Laws.{LeastIsChosen}
use Rattle.plain_plan.specs.Steps.{first_spot, at_place, at_read_group, with_ride, at_group, at_groups, has_one_width, at_ram, at_rams, at_ports}
use Rattle.plain_plan.specs.Steps as steps
use Rattle.plain_plan.proofs.Scored.{unplain, folded, widths}

pub fold_below_more : {B : Type 0} (f : B → ℕ → B) (b : B) (n : ℕ) → fold f b (below (n + 1)) ≡ f (fold f b (below n)) n
fold_below_more f b n = walks.fold_below_more f b n

-- the places of a read: the groups, then the name of the write, where it can stand there
groups_first : (score : Candidate → Option ℕ) (m : Mem) (r : RdPort) (v : Variant) (ram n group : ℕ) (b : Option Plan) → at_group score m r v ram n b group ≡ fold (at_place score ram n group) (fold (at_read_group score ram n group) b (below (length v.groups))) (map place.Ride (option_to_list (first_ride v r 0 m.writes (group ∷ []))))
groups_first score m r v ram n group b =
    fold_append (at_place score ram n group) b (map place.Group (below (length v.groups))) (map place.Ride (option_to_list (first_ride v r 0 m.writes (group ∷ []))))
    ∙ ap (λ c. fold (at_place score ram n group) c (map place.Ride (option_to_list (first_ride v r 0 m.writes (group ∷ []))))) (fold_map (at_place score ram n group) place.Group b (below (length v.groups)))

ride_last : (score : Candidate → Option ℕ) (ram n group : ℕ) (b : Option Plan) (o : Option ℕ) → fold (at_place score ram n group) b (map place.Ride (option_to_list o)) ≡ with_ride score ram n group b o
ride_last score ram n group b None = refl
ride_last score ram n group b (Some w) = refl

pub all_places : (score : Candidate → Option ℕ) (m : Mem) (r : RdPort) (v : Variant) (ram n group : ℕ) (b : Option Plan) → with_ride score ram n group (fold (at_read_group score ram n group) b (below (length v.groups))) (first_ride v r 0 m.writes (group ∷ [])) ≡ at_group score m r v ram n b group
all_places score m r v ram n group b =
    let o : Option ℕ = first_ride v r 0 m.writes (group ∷ []) in
    sym (groups_first score m r v ram n group b ∙ ride_last score ram n group (fold (at_read_group score ram n group) b (below (length v.groups))) o)

-- the candidates at a spot where nothing has points
spot_none : (score : Candidate → Option ℕ) (m : Mem) (v : Variant) (s : Spot) (b : Option Plan) → ((groups : List ℕ) (reads : List ReadPlace) → score (chosen s groups reads) ≡ None) → fold (keep score) b (at_spot m v s) ≡ b
spot_none score m v s b none =
    flat_map_same (keep score) (λ groups. map (chosen s groups) (tuples (read_choices m v groups))) b (tuples (write_choices m v)) (λ groups.
    map_same (keep score) (chosen s groups) b (tuples (read_choices m v groups)) (λ reads. ap (offer b (chosen s groups reads)) (none groups reads)))

-- those of a memory with one write and one read
one_choice : {A B : Type 0} (step : B → List A → B) (b : B) (xs : List A) → fold step b (tuples (xs ∷ [])) ≡ fold (λ b x. step b (x ∷ [])) b xs
one_choice step b xs = fold_flat_map step (λ x. map (λ t. x ∷ t) ([] ∷ [])) b xs

spot_first : (score : Candidate → Option ℕ) (m : Mem) (w : WrPort) (r : RdPort) (v : Variant) (ram n : ℕ) (b : Option Plan) → m.writes ≡ w ∷ [] → m.reads ≡ r ∷ [] → fold (keep score) b (at_spot m v (first_spot ram n)) ≡ at_groups score m r v ram n b
spot_first score m w r v ram n b one_write one_read =
    let s : Spot = first_spot ram n in
    let step : Option Plan → List ℕ → List ReadPlace → Option Plan = λ b groups reads. keep score b (chosen s groups reads) in
    let all : Option Plan → List ℕ → Option Plan = λ b groups. fold (keep score) b (map (chosen s groups) (tuples (read_choices m v groups))) in
    let one : (b : Option Plan) (g : ℕ) → all b (g ∷ []) ≡ at_group score m r v ram n b g =
    λ b g.
    fold_map (keep score) (chosen s (g ∷ [])) b (tuples (read_choices m v (g ∷ [])))
    ∙ (ap (λ rs. fold (λ b t. step b (g ∷ []) t) b (tuples (map (places m v (g ∷ [])) rs))) one_read ∙ one_choice (λ b t. step b (g ∷ []) t) b (places m v (g ∷ []) r)) in
    fold_flat_map (keep score) (λ groups. map (chosen s groups) (tuples (read_choices m v groups))) b (tuples (write_choices m v))
    ∙ (ap (λ ws. fold all b (tuples (map (λ _. below (length v.groups)) ws))) one_write
    ∙ (one_choice all b (below (length v.groups)) ∙ ap (λ f. fold f b (below (length v.groups))) (λ i b g. one b g i)))

-- items of which a property holds change nothing
same_where : {A B X : Type 0} (P : X → Type 0) (step : B → A → B) (f : X → List A) (b : B) (xs : List X) → Each P xs → ((x : X) → P x → fold step b (f x) ≡ b) → fold step b (flat_map f xs) ≡ b
same_where P step f b [] all same = refl
same_where P step f b (x ∷ xs) all same =
    fold_append step b (f x) (flat_map f xs) ∙ (ap (λ c. fold step c (flat_map f xs)) (same x all.0) ∙ same_where P step f b xs all.1 same)

from_one : (a n : ℕ) → 1 ≤ a → Each (λ x. 1 ≤ x) (range_with_len a n)
from_one a zero h = tt
from_one a (suc n) h = (h, from_one (a + 1) n (omega (arith, h)))

abbrev spot_at : ℕ → ℕ → ℕ → ℕ → Spot
spot_at ram n f l = record { ram = ram; variant = n; fold = f; level = l }

abbrev at_fold : Mem → Variant → ℕ → ℕ → ℕ → List Candidate
at_fold m v ram n f = flat_map (λ l. at_spot m v (spot_at ram n f l)) (below (length v.widths))

fold_none : (score : Candidate → Option ℕ) (m : Mem) (v : Variant) (ram n f : ℕ) (b : Option Plan) → ((l : ℕ) (groups : List ℕ) (reads : List ReadPlace) → score (chosen (spot_at ram n f l) groups reads) ≡ None) → fold (keep score) b (at_fold m v ram n f) ≡ b
fold_none score m v ram n f b none =
    flat_map_same (keep score) (λ l. at_spot m v (spot_at ram n f l)) b (below (length v.widths)) (λ l. spot_none score m v (spot_at ram n f l) b (λ groups reads. none l groups reads))

-- nothing but the fold 0 and the first width
variant_none : (score : Candidate → Option ℕ) (m : Mem) (v : Variant) (ram n : ℕ) (b : Option Plan) → ((f l : ℕ) (groups : List ℕ) (reads : List ReadPlace) → score (chosen (spot_at ram n f l) groups reads) ≡ None) → fold (keep score) b (at_variant m ram n v) ≡ b
variant_none score m v ram n b none = flat_map_same (keep score) (at_fold m v ram n) b (below 7) (λ f. fold_none score m v ram n f b (λ l groups reads. none f l groups reads))

variant_one : (score : Candidate → Option ℕ) (m : Mem) (w : WrPort) (r : RdPort) (v : Variant) (ram n : ℕ) (b : Option Plan) → m.writes ≡ w ∷ [] → m.reads ≡ r ∷ [] → ((f l : ℕ) (groups : List ℕ) (reads : List ReadPlace) → 1 ≤ f → score (chosen (spot_at ram n f l) groups reads) ≡ None) → length v.widths ≡ 1 → fold (keep score) b (at_variant m ram n v) ≡ at_groups score m r v ram n b
variant_one score m w r v ram n b one_write one_read none one_width =
    let first : fold (keep score) b (at_fold m v ram n 0) ≡ at_groups score m r v ram n b =
    ap (λ k. fold (keep score) b (flat_map (λ l. at_spot m v (spot_at ram n 0 l)) (below k))) one_width
    ∙ (ap (fold (keep score) b) (append_nil (at_spot m v (first_spot ram n))) ∙ spot_first score m w r v ram n b one_write one_read) in
    fold_append (keep score) b (at_fold m v ram n 0) (flat_map (at_fold m v ram n) (range_with_len 1 6))
    ∙ (same_where (λ f. 1 ≤ f) (keep score) (at_fold m v ram n) (fold (keep score) b (at_fold m v ram n 0)) (range_with_len 1 6) (from_one 1 6 (omega arith)) (λ f h. fold_none score m v ram n f (fold (keep score) b (at_fold m v ram n 0)) (λ l groups reads. none f l groups reads h)) ∙ first)

variant_first : (score : Candidate → Option ℕ) (m : Mem) (w : WrPort) (r : RdPort) (v : Variant) (ram n : ℕ) (b : Option Plan) (one : Bool) → m.writes ≡ w ∷ [] → m.reads ≡ r ∷ [] → ((f l : ℕ) (groups : List ℕ) (reads : List ReadPlace) → 1 ≤ f → score (chosen (spot_at ram n f l) groups reads) ≡ None) → (has_one_width v ≡ false → (f l : ℕ) (groups : List ℕ) (reads : List ReadPlace) → score (chosen (spot_at ram n f l) groups reads) ≡ None) → has_one_width v ≡ one → fold (keep score) b (at_variant m ram n v) ≡ cond one (at_groups score m r v ram n b) b
variant_first score m w r v ram n b true one_write one_read none wide e = variant_one score m w r v ram n b one_write one_read none (eqb-true (length v.widths) 1 e)
variant_first score m w r v ram n b false one_write one_read none wide e = variant_none score m v ram n b (wide e)

-- the walk over numbered items is the walk over what is joined of them
each_fold : {X : Type 0} (score : Candidate → Option ℕ) (f : ℕ → X → List Candidate) (g : Option Plan → ℕ → X → Option Plan) (n : ℕ) (xs : List X) (b : Option Plan) → ((i k : ℕ) (x : X) (b : Option Plan) → slice_get xs i ≡ Some x → k ≡ n + i → fold (keep score) b (f k x) ≡ g b k x) → fold (keep score) b (each_at f n xs) ≡ fold_at g b n xs
each_fold score f g n [] b same = refl
each_fold score f g n (x ∷ xs) b same =
    fold_append (keep score) b (f n x) (each_at f (n + 1) xs)
    ∙ (ap (λ c. fold (keep score) c (each_at f (n + 1) xs)) (same 0 n x b refl (omega arith)) ∙ each_fold score f g (n + 1) xs (g b n x) (λ i k y b e h. same (suc i) k y b e (omega (arith, h))))

fold_at_same : {X : Type 0} (b : Option Plan) (n : ℕ) (xs : List X) → fold_at (λ b n x. b) b n xs ≡ b
fold_at_same b n [] = refl
fold_at_same b n (x ∷ xs) = fold_at_same b (n + 1) xs

at_number : {X : Type 0} (xs : List X) (i k : ℕ) (x : X) → slice_get xs i ≡ Some x → k ≡ 0 + i → slice_get xs k ≡ Some x
at_number xs i k x e h =
    let z : i ≡ k = omega (arith, h) in
    subst (λ j. slice_get xs j ≡ Some x) z e

-- where nothing is plain nothing is chosen
none_of_all : (job : MemJob) (lib : Library) (style : Style) → ((c : RamChoice) → IsPlain lib job c → ⊥) → least_plain job lib style ≡ None
none_of_all job lib style h =
    let score : Candidate → Option ℕ = plain_score job lib style in
    let none : (c : RamChoice) → score (Ram c) ≡ None = λ c. unplain job lib style (Ram c) (h c) in
    let at : ℕ → RamKind → List Candidate = λ r k. each_at (at_variant job.mem r) 0 k.variants in
    let variants : (r : ℕ) (k : RamKind) (b : Option Plan) → fold (keep score) b (at r k) ≡ b =
    λ r k b.
    each_fold score (at_variant job.mem r) (λ b n v. b) 0 k.variants b (λ i n v b e q. variant_none score job.mem v r n b (λ f l groups reads. none (record { ram = r; variant = n; fold = f; level = l; writes = groups; reads = reads })))
    ∙ fold_at_same b 0 k.variants in
    fold_append (keep score) None (each_at at 0 lib.rams) (Registers ∷ [])
    ∙ (each_fold score at (λ b r k. b) 0 lib.rams None (λ i r k b e q. variants r k b) ∙ fold_at_same None 0 lib.rams)

-- the memory has one write and one read
of_ports : (job : MemJob) (lib : Library) (style : Style) (w : WrPort) (r : RdPort) → job.mem.writes ≡ w ∷ [] → job.mem.reads ≡ r ∷ [] → least_plain job lib style ≡ at_rams (plain_score job lib style) job.mem r lib.rams
of_ports job lib style w r one_write one_read =
    let score : Candidate → Option ℕ = plain_score job lib style in
    let at : ℕ → RamKind → List Candidate = λ ram k. each_at (at_variant job.mem ram) 0 k.variants in
    let choice : (ram n f l : ℕ) (groups : List ℕ) (reads : List ReadPlace) → RamChoice = λ ram n f l groups reads. record { ram = ram; variant = n; fold = f; level = l; writes = groups; reads = reads } in
    let variants : (ram : ℕ) (k : RamKind) → slice_get lib.rams ram ≡ Some k → (b : Option Plan) → fold (keep score) b (at ram k) ≡ at_ram score job.mem r b ram k =
    λ ram k there b.
    each_fold score (at_variant job.mem ram) (steps.at_variant score job.mem r ram) 0 k.variants b (λ i n v b e q.
    variant_first score job.mem w r v ram n b (has_one_width v) one_write one_read
    (λ f l groups reads h. folded job lib style (choice ram n f l groups reads) h)
    (λ wide f l groups reads. widths job lib style k v (choice ram n f l groups reads) there (at_number k.variants i n v e q) wide)
    refl) in
    fold_append (keep score) None (each_at at 0 lib.rams) (Registers ∷ [])
    ∙ each_fold score at (at_ram score job.mem r) 0 lib.rams None (λ i ram k b e q. variants ram k (at_number lib.rams i ram k e q) b)

not_one : {X : Type 0} (xs ys : List X) → xs ≡ ys → length xs ≡ 1 → length ys ≡ 1
not_one xs ys e h = sym (ap length e) ∙ h

by_ports : (job : MemJob) (lib : Library) (style : Style) (ws : List WrPort) (rs : List RdPort) → job.mem.writes ≡ ws → job.mem.reads ≡ rs → least_plain job lib style ≡ at_ports (plain_score job lib style) job.mem lib.rams ws rs
by_ports job lib style [] rs e h = none_of_all job lib style (λ c p. absurd (omega (arith, not_one job.mem.writes [] e p.memory.one_write)))
by_ports job lib style (w ∷ []) [] e h = none_of_all job lib style (λ c p. absurd (omega (arith, not_one job.mem.reads [] h p.memory.one_read)))
by_ports job lib style (w ∷ []) (r ∷ []) e h = of_ports job lib style w r e h
by_ports job lib style (w ∷ []) (r ∷ s ∷ rs) e h = none_of_all job lib style (λ c p. absurd (omega (arith, not_one job.mem.reads (r ∷ s ∷ rs) h p.memory.one_read)))
by_ports job lib style (w ∷ x ∷ ws) rs e h = none_of_all job lib style (λ c p. absurd (omega (arith, not_one job.mem.writes (w ∷ x ∷ ws) e p.memory.one_write)))

pub least_at_ports : (job : MemJob) (lib : Library) (style : Style) → at_ports (plain_score job lib style) job.mem lib.rams job.mem.writes job.mem.reads ≡ least_plain job lib style
least_at_ports job lib style = sym (by_ports job lib style job.mem.writes job.mem.reads refl refl)

pub least_is_chosen : LeastIsChosen
least_is_chosen job lib style = best_of_is_choice (plain_score job lib style) (candidates job.mem lib)
