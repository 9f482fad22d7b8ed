-- The walk over RAMs, variants, folds and levels is the walk over the list of candidates.
use Rattle.std.proofs.Common.{◌≡◌, ℕ, zero, suc, ◌+◌, ◌<◌, ◌≤◌, Bool, true, false, ◌&&◌, cond, nat_le, nat_lt, List, [], ◌∷◌, map, flat_map, length, take, refl, sym, ap, subst, ◌∙◌, arith, add-one}
use Rattle.std.specs.Prelude.{Option, Some, None, fold, slice_get}
use Rattle.std.specs.List.{range_with_len}
use Rattle.std.proofs.lemmas.Bool.{false≢true, true≢false}
use Rattle.std.proofs.lemmas.Option.{none-some}
use Rattle.lib_core.specs.declared.library.Library.{Library}
use Rattle.lib_core.specs.declared.library.RamKind.{RamKind}
use Rattle.lib_core.specs.declared.library.Variant.{Variant}
use Rattle.net_core.specs.declared.mems.Mem.{Mem}
use Rattle.net_core.specs.declared.mems.MemJob.{MemJob}
use Rattle.net_core.specs.declared.mems.Style.{Style}
use Rattle.geom_core.specs.declared.candidates.Candidate.{Candidate}
use Rattle.geom_core.specs.declared.candidates.Candidate.TheVariants.{Ram, Registers}
use Rattle.geom_core.specs.declared.candidates.RamChoice.{RamChoice}
use Rattle.geom_core.specs.declared.candidates.ReadPlace.{ReadPlace}
use Rattle.fit_rules.specs.declared.plans.Plan.{Plan}
use Rattle.fit_rules.specs.declared.spots.Spot.{Spot}
use Rattle.fit_rules.specs.Candidates.{tuples, below, each_at, chosen, read_choices, write_choices, at_spot, at_variant, candidates}
use Rattle.fit_rules.specs.Fits.{spot_of, is_spot, variant_in, fits_variant, fits_ram, fits_style, candidate_fits}
use Rattle.fit_rules.specs.Rules.{few_ports, is_aligned, style_allows, ram_fits, registers_fit}
use Rattle.fit_rules.proofs.Lengths.{and_left, and_right}
use Rattle.fit_cost.specs.Points.{ram_points, registers_points, points_in, points_of, score}
use Rattle.plan_search.specs.Choice.{keep, offer, best_of}
use Rattle.plan_search.specs.Chosen.{Each}
use Rattle.plan_search.specs.Rams.{at_level, at_fold, at_folds, fold_at, at_variant_number, at_variants, at_ram, at_rams, at_library, with_registers, above_registers}
use Rattle.plan_search.specs.Rams as steps
use Rattle.plan_search.specs.Steps.{ram_score, at_groups}
use Rattle.plan_search.proofs.Capped.{registers_last}
use Rattle.plan_search.proofs.Cuts.{fits_memory}
use Rattle.plan_search.proofs.Walked.{fold_append, fold_flat_map, fold_map, flat_map_same, map_same}

-- one more item
fold_at_more_from : {X B : Type 0} (step : B → ℕ → X → B) (b : B) (n : ℕ) (xs : List X) (i : ℕ) (x : X) → slice_get xs i ≡ Some x → fold_at step b n (take (suc i) xs) ≡ step (fold_at step b n (take i xs)) (n + i) x
fold_at_more_from step b n [] i x e = absurd (none-some x e)
fold_at_more_from step b n (y ∷ xs) zero x e =
    let q : y ≡ x = cc in
    let z : n ≡ n + 0 = omega arith in
    ap (step b n) q ∙ ap (λ k. step b k x) z
fold_at_more_from step b n (y ∷ xs) (suc i) x e =
    let z : n + 1 + i ≡ n + suc i = omega arith in
    fold_at_more_from step (step b n y) (n + 1) xs i x e ∙ ap (λ k. step (fold_at step (step b n y) (n + 1) (take i xs)) k x) z

pub fold_at_more : {X B : Type 0} (step : B → ℕ → X → B) (b : B) (xs : List X) (i : ℕ) (x : X) → slice_get xs i ≡ Some x → fold_at step b 0 (take (i + 1) xs) ≡ step (fold_at step b 0 (take i xs)) i x
fold_at_more step b xs i x e =
    let z : 0 + i ≡ i = omega arith in
    ap (λ k. fold_at step b 0 (take k xs)) (add-one i) ∙ (fold_at_more_from step b 0 xs i x e ∙ ap (λ k. step (fold_at step b 0 (take i xs)) k x) z)

-- folds that are equal on the items of a list
fold_flat_map_where : {A B X : Type 0} (P : X → Type 0) (step : B → A → B) (f : X → List A) (g : B → X → B) (b : B) (xs : List X) → Each P xs → ((x : X) (b : B) → P x → fold step b (f x) ≡ g b x) → fold step b (flat_map f xs) ≡ fold g b xs
fold_flat_map_where P step f g b [] all same = refl
fold_flat_map_where P step f g b (x ∷ xs) all same =
    fold_append step b (f x) (flat_map f xs) ∙ (ap (λ c. fold step c (flat_map f xs)) (same x b all.0) ∙ fold_flat_map_where P step f g (g b x) xs all.1 same)

below_from : (a n most : ℕ) → a + n ≤ most → Each (λ x. x < most) (range_with_len a n)
below_from a zero most h = tt
below_from a (suc n) most h = (omega (arith, h), below_from (a + 1) n most (omega (arith, h)))

all_below : (n : ℕ) → Each (λ x. x < n) (below n)
all_below n = below_from 0 n n (omega arith)

-- points of a candidate at a spot of the library
le_true : (a b : ℕ) → a < b + 1 → nat_le a b ≡ true
le_true a b h = grind (arith, h)

lt_true : (a b : ℕ) → a < b → nat_lt a b ≡ true
lt_true a b h = grind (arith, h)

both : (a b : Bool) → a ≡ true → b ≡ true → a && b ≡ true
both true b h k = k
both false b h k = absurd (false≢true h)

and_true : (a b : Bool) → a ≡ true → a && b ≡ b
and_true true b e = refl
and_true false b e = absurd (false≢true e)

fits_there : (job : MemJob) (lib : Library) (style : Style) (k : RamKind) (v : Variant) (s : Spot) (groups : List ℕ) (reads : List ReadPlace) → slice_get lib.rams s.ram ≡ Some k → style_allows style k ≡ true → slice_get k.variants s.variant ≡ Some v → is_spot v s ≡ true → candidate_fits job lib style (chosen s groups reads) ≡ ram_fits job v s groups reads
fits_there job lib style k v s groups reads there allowed here spot =
    let c : RamChoice = record { ram = s.ram; variant = s.variant; fold = s.fold; level = s.level; writes = groups; reads = reads } in
    ap (fits_style job style c) there ∙ (and_true (style_allows style k) (fits_ram job k c) allowed ∙ (ap (fits_variant job c) here ∙ and_true (is_spot v s) (ram_fits job v s groups reads) spot))

points_there : (job : MemJob) (lib : Library) (k : RamKind) (v : Variant) (s : Spot) (groups : List ℕ) (reads : List ReadPlace) → slice_get lib.rams s.ram ≡ Some k → slice_get k.variants s.variant ≡ Some v → points_of job lib (chosen s groups reads) ≡ ram_points job v s groups reads
points_there job lib k v s groups reads there here =
    let c : RamChoice = record { ram = s.ram; variant = s.variant; fold = s.fold; level = s.level; writes = groups; reads = reads } in
    ap (λ o. points_in job c (variant_in o s.variant)) there ∙ ap (points_in job c) here

score_there : (job : MemJob) (lib : Library) (style : Style) (k : RamKind) (v : Variant) (s : Spot) (groups : List ℕ) (reads : List ReadPlace) → slice_get lib.rams s.ram ≡ Some k → style_allows style k ≡ true → slice_get k.variants s.variant ≡ Some v → is_spot v s ≡ true → score job lib style (chosen s groups reads) ≡ ram_score job v s groups reads
score_there job lib style k v s groups reads there allowed here spot =
    ap (λ b. cond b (Some (points_of job lib (chosen s groups reads))) None) (fits_there job lib style k v s groups reads there allowed here spot)
    ∙ ap (λ p. cond (ram_fits job v s groups reads) (Some p) None) (points_there job lib k v s groups reads there here)

spot_fold : (job : MemJob) (lib : Library) (style : Style) (k : RamKind) (v : Variant) (s : Spot) → slice_get lib.rams s.ram ≡ Some k → style_allows style k ≡ true → slice_get k.variants s.variant ≡ Some v → is_spot v s ≡ true → (b : Option Plan) → fold (keep (score job lib style)) b (at_spot job.mem v s) ≡ steps.at_spot job v s b
spot_fold job lib style k v s there allowed here spot b =
    let one : (b : Option Plan) (g : List ℕ) → fold (keep (score job lib style)) b (map (chosen s g) (tuples (read_choices job.mem v g))) ≡ at_groups job v s b g =
    λ b g. fold_map (keep (score job lib style)) (chosen s g) b (tuples (read_choices job.mem v g)) ∙ ap (λ h. fold h b (tuples (read_choices job.mem v g))) (λ i b t. offer b (chosen s g t) (score_there job lib style k v s g t there allowed here spot i)) in
    fold_flat_map (keep (score job lib style)) (λ g. map (chosen s g) (tuples (read_choices job.mem v g))) b (tuples (write_choices job.mem v)) ∙ ap (λ h. fold h b (tuples (write_choices job.mem v))) (λ i b g. one b g i)

levels_fold : (job : MemJob) (lib : Library) (style : Style) (k : RamKind) (v : Variant) (ram n f : ℕ) → slice_get lib.rams ram ≡ Some k → style_allows style k ≡ true → slice_get k.variants n ≡ Some v → f < 7 → (b : Option Plan) → fold (keep (score job lib style)) b (flat_map (λ l. at_spot job.mem v (record { ram = ram; variant = n; fold = f; level = l })) (below (length v.widths))) ≡ at_fold job v ram n b f
levels_fold job lib style k v ram n f there allowed here small b =
    fold_flat_map_where (λ l. l < length v.widths) (keep (score job lib style)) (λ l. at_spot job.mem v (record { ram = ram; variant = n; fold = f; level = l })) (at_level job v ram n f) b (below (length v.widths)) (all_below (length v.widths))
    (λ l b h. spot_fold job lib style k v (record { ram = ram; variant = n; fold = f; level = l }) there allowed here (both (nat_le f 6) (nat_lt l (length v.widths)) (le_true f 6 small) (lt_true l (length v.widths) h)) b)

variant_fold : (job : MemJob) (lib : Library) (style : Style) (k : RamKind) (v : Variant) (ram n : ℕ) → slice_get lib.rams ram ≡ Some k → style_allows style k ≡ true → slice_get k.variants n ≡ Some v → (b : Option Plan) → fold (keep (score job lib style)) b (at_variant job.mem ram n v) ≡ at_folds job v ram n b
variant_fold job lib style k v ram n there allowed here b =
    fold_flat_map_where (λ f. f < 7) (keep (score job lib style)) (λ f. flat_map (λ l. at_spot job.mem v (record { ram = ram; variant = n; fold = f; level = l })) (below (length v.widths))) (at_fold job v ram n) b (below 7) (all_below 7)
    (λ f b h. levels_fold job lib style k v ram n f there allowed here h b)

at_itself : {X : Type 0} (all : List X) (n : ℕ) (x : X) → slice_get all (n + 0) ≡ Some x → slice_get all n ≡ Some x
at_itself all n x e =
    let z : n + 0 ≡ n = omega arith in
    subst (λ i. slice_get all i ≡ Some x) z e

at_later : {X : Type 0} (all : List X) (n i : ℕ) (x : X) → slice_get all (n + suc i) ≡ Some x → slice_get all (n + 1 + i) ≡ Some x
at_later all n i x e =
    let z : n + suc i ≡ n + 1 + i = omega arith in
    subst (λ j. slice_get all j ≡ Some x) z e

at_start : {X : Type 0} (all : List X) (i : ℕ) (x : X) → slice_get all i ≡ Some x → slice_get all (0 + i) ≡ Some x
at_start all i x e =
    let z : i ≡ 0 + i = omega arith in
    subst (λ j. slice_get all j ≡ Some x) z e

variants_fold : (job : MemJob) (lib : Library) (style : Style) (k : RamKind) (ram n : ℕ) (xs : List Variant) → slice_get lib.rams ram ≡ Some k → style_allows style k ≡ true → ((i : ℕ) (v : Variant) → slice_get xs i ≡ Some v → slice_get k.variants (n + i) ≡ Some v) → (b : Option Plan) → fold (keep (score job lib style)) b (each_at (at_variant job.mem ram) n xs) ≡ fold_at (at_variant_number job ram) b n xs
variants_fold job lib style k ram n [] there allowed here b = refl
variants_fold job lib style k ram n (v ∷ xs) there allowed here b =
    fold_append (keep (score job lib style)) b (at_variant job.mem ram n v) (each_at (at_variant job.mem ram) (n + 1) xs)
    ∙ (ap (λ c. fold (keep (score job lib style)) c (each_at (at_variant job.mem ram) (n + 1) xs)) (variant_fold job lib style k v ram n there allowed (at_itself k.variants n v (here zero v refl)) b)
    ∙ variants_fold job lib style k ram (n + 1) xs there allowed (λ i w e. at_later k.variants n i w (here (suc i) w e)) (at_folds job v ram n b))

-- where no candidate of a variant fits, the best stays
spot_same : (score : Candidate → Option ℕ) (m : Mem) (v : Variant) (s : Spot) (b : Option Plan) → ((c : RamChoice) → c.ram ≡ s.ram → score (Ram c) ≡ None) → fold (keep score) b (at_spot m v s) ≡ b
spot_same score m v s b none =
    flat_map_same (keep score) (λ groups. map (chosen s groups) (tuples (read_choices m v groups))) b (tuples (write_choices m v)) (λ groups.
    map_same (keep score) (chosen s groups) b (tuples (read_choices m v groups)) (λ reads.
    ap (offer b (chosen s groups reads)) (none (record { ram = s.ram; variant = s.variant; fold = s.fold; level = s.level; writes = groups; reads = reads }) refl)))

variant_same : (score : Candidate → Option ℕ) (m : Mem) (v : Variant) (ram n : ℕ) (b : Option Plan) → ((c : RamChoice) → c.ram ≡ ram → score (Ram c) ≡ None) → fold (keep score) b (at_variant m ram n v) ≡ b
variant_same score m v ram n b none =
    flat_map_same (keep score) (λ f. flat_map (λ l. at_spot m v (record { ram = ram; variant = n; fold = f; level = l })) (below (length v.widths))) b (below 7) (λ f.
    flat_map_same (keep score) (λ l. at_spot m v (record { ram = ram; variant = n; fold = f; level = l })) b (below (length v.widths)) (λ l.
    spot_same score m v (record { ram = ram; variant = n; fold = f; level = l }) b none))

variants_same : (score : Candidate → Option ℕ) (m : Mem) (ram n : ℕ) (xs : List Variant) (b : Option Plan) → ((c : RamChoice) → c.ram ≡ ram → score (Ram c) ≡ None) → fold (keep score) b (each_at (at_variant m ram) n xs) ≡ b
variants_same score m ram n [] b none = refl
variants_same score m ram n (v ∷ xs) b none =
    fold_append (keep score) b (at_variant m ram n v) (each_at (at_variant m ram) (n + 1) xs)
    ∙ (ap (λ c. fold (keep score) c (each_at (at_variant m ram) (n + 1) xs)) (variant_same score m v ram n b none) ∙ variants_same score m ram (n + 1) xs b none)

rams_same : (score : Candidate → Option ℕ) (m : Mem) (n : ℕ) (xs : List RamKind) (b : Option Plan) → ((c : RamChoice) → score (Ram c) ≡ None) → fold (keep score) b (each_at (λ r k. each_at (at_variant m r) 0 k.variants) n xs) ≡ b
rams_same score m n [] b none = refl
rams_same score m n (k ∷ xs) b none =
    fold_append (keep score) b (each_at (at_variant m n) 0 k.variants) (each_at (λ r k. each_at (at_variant m r) 0 k.variants) (n + 1) xs)
    ∙ (ap (λ c. fold (keep score) c (each_at (λ r k. each_at (at_variant m r) 0 k.variants) (n + 1) xs)) (variants_same score m n 0 k.variants b (λ c e. none c)) ∙ rams_same score m (n + 1) xs b none)

-- a RAM that the style does not allow
not_fit : (fits test : Bool) (points : ℕ) → (fits ≡ true → test ≡ true) → test ≡ false → cond fits (Some points) None ≡ None
not_fit true test points h e = absurd (true≢false (sym (h refl) ∙ e))
not_fit false test points h e = refl

not_allowed : (job : MemJob) (lib : Library) (style : Style) (k : RamKind) (c : RamChoice) → slice_get lib.rams c.ram ≡ Some k → style_allows style k ≡ false → score job lib style (Ram c) ≡ None
not_allowed job lib style k c there e =
    not_fit (candidate_fits job lib style (Ram c)) (style_allows style k) (points_of job lib (Ram c))
    (λ f. and_left (style_allows style k) (fits_ram job k c) (subst (λ o. fits_style job style c o ≡ true) there f)) e

ram_fold_by : (job : MemJob) (lib : Library) (style : Style) (k : RamKind) (ram : ℕ) (b : Option Plan) (allowed : Bool) → slice_get lib.rams ram ≡ Some k → style_allows style k ≡ allowed → fold (keep (score job lib style)) b (each_at (at_variant job.mem ram) 0 k.variants) ≡ cond allowed (at_variants job ram b k) b
ram_fold_by job lib style k ram b true there e = variants_fold job lib style k ram 0 k.variants there e (at_start k.variants) b
ram_fold_by job lib style k ram b false there e =
    variants_same (score job lib style) job.mem ram 0 k.variants b (λ c same. not_allowed job lib style k c (subst (λ r. slice_get lib.rams r ≡ Some k) (sym same) there) e)

rams_fold : (job : MemJob) (lib : Library) (style : Style) (n : ℕ) (xs : List RamKind) → ((i : ℕ) (k : RamKind) → slice_get xs i ≡ Some k → slice_get lib.rams (n + i) ≡ Some k) → (b : Option Plan) → fold (keep (score job lib style)) b (each_at (λ r k. each_at (at_variant job.mem r) 0 k.variants) n xs) ≡ fold_at (at_ram job style) b n xs
rams_fold job lib style n [] there b = refl
rams_fold job lib style n (k ∷ xs) there b =
    fold_append (keep (score job lib style)) b (each_at (at_variant job.mem n) 0 k.variants) (each_at (λ r k. each_at (at_variant job.mem r) 0 k.variants) (n + 1) xs)
    ∙ (ap (λ c. fold (keep (score job lib style)) c (each_at (λ r k. each_at (at_variant job.mem r) 0 k.variants) (n + 1) xs)) (ram_fold_by job lib style k n b (style_allows style k) (at_itself lib.rams n k (there zero k refl)) refl)
    ∙ rams_fold job lib style (n + 1) xs (λ i w e. at_later lib.rams n i w (there (suc i) w e)) (at_ram job style b n k))

-- a memory whose ports no RAM takes
variant_memory : (job : MemJob) (c : RamChoice) (o : Option Variant) → fits_variant job c o ≡ true → few_ports job.mem && is_aligned job.mem ≡ true
variant_memory job c None e = absurd (false≢true e)
variant_memory job c (Some v) e = fits_memory job v (spot_of c) c.writes c.reads (and_right (is_spot v (spot_of c)) (ram_fits job v (spot_of c) c.writes c.reads) e)

ram_memory : (job : MemJob) (style : Style) (c : RamChoice) (o : Option RamKind) → fits_style job style c o ≡ true → few_ports job.mem && is_aligned job.mem ≡ true
ram_memory job style c None e = absurd (false≢true e)
ram_memory job style c (Some k) e = variant_memory job c (slice_get k.variants c.variant) (and_right (style_allows style k) (fits_ram job k c) e)

not_taken : (job : MemJob) (lib : Library) (style : Style) (c : RamChoice) → few_ports job.mem && is_aligned job.mem ≡ false → score job lib style (Ram c) ≡ None
not_taken job lib style c e =
    not_fit (candidate_fits job lib style (Ram c)) (few_ports job.mem && is_aligned job.mem) (points_of job lib (Ram c)) (λ f. ram_memory job style c (slice_get lib.rams c.ram) f) e

library_fold_by : (job : MemJob) (lib : Library) (style : Style) (taken : Bool) (best : Option Plan) → few_ports job.mem && is_aligned job.mem ≡ taken → fold (keep (score job lib style)) best (each_at (λ r k. each_at (at_variant job.mem r) 0 k.variants) 0 lib.rams) ≡ cond taken (at_rams job style lib best) best
library_fold_by job lib style true best e = rams_fold job lib style 0 lib.rams (at_start lib.rams) best
library_fold_by job lib style false best e = rams_same (score job lib style) job.mem 0 lib.rams best (λ c. not_taken job lib style c e)

library_fold : (job : MemJob) (lib : Library) (style : Style) (best : Option Plan) → fold (keep (score job lib style)) best (each_at (λ r k. each_at (at_variant job.mem r) 0 k.variants) 0 lib.rams) ≡ at_library job style lib best
library_fold job lib style best = library_fold_by job lib style (few_ports job.mem && is_aligned job.mem) best refl

pub best_at_last : (job : MemJob) (lib : Library) (style : Style) → with_registers job.mem style (at_library job style lib (above_registers job.mem style)) ≡ best_of (score job lib style) (candidates job.mem lib)
best_at_last job lib style =
    sym (fold_append (keep (score job lib style)) None (each_at (λ r k. each_at (at_variant job.mem r) 0 k.variants) 0 lib.rams) (Registers ∷ [])
    ∙ (registers_last (score job lib style) (registers_fit job.mem style) (registers_points job.mem) (each_at (λ r k. each_at (at_variant job.mem r) 0 k.variants) 0 lib.rams)
    ∙ ap (with_registers job.mem style) (library_fold job lib style (above_registers job.mem style))))
