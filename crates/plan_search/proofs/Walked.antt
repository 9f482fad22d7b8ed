-- Walks over a product of choices in order, which may leave out what changes nothing.
use Rattle.std.proofs.Common.{◌≡◌, ℕ, ◌+◌, ◌-◌, ◌≤◌, List, [], ◌∷◌, ◌++◌, map, flat_map, length, take, get_or, take_all, refl, sym, ap, subst, ◌∙◌, append_assoc, arith}
use Rattle.std.specs.Prelude.{fold, slice_range}
use Rattle.std.proofs.lemmas.List.FromFn.{map-range_with_len_more}
use Rattle.fit_rules.specs.Candidates.{tuples, below}
use Rattle.plan_search.specs.Walks.{walk, branches}

pub fold_append : {A B : Type 0} (step : B → A → B) (b : B) (xs ys : List A) → fold step b (xs ++ ys) ≡ fold step (fold step b xs) ys
fold_append step b [] ys = refl
fold_append step b (x ∷ xs) ys = fold_append step (step b x) xs ys

pub fold_flat_map : {A B X : Type 0} (step : B → A → B) (f : X → List A) (b : B) (xs : List X) → fold step b (flat_map f xs) ≡ fold (λ b x. fold step b (f x)) b xs
fold_flat_map step f b [] = refl
fold_flat_map step f b (x ∷ xs) = fold_append step b (f x) (flat_map f xs) ∙ fold_flat_map step f (fold step b (f x)) xs

pub fold_map : {A B X : Type 0} (step : B → A → B) (f : X → A) (b : B) (xs : List X) → fold step b (map f xs) ≡ fold (λ b x. step b (f x)) b xs
fold_map step f b [] = refl
fold_map step f b (x ∷ xs) = fold_map step f (step b (f x)) xs

-- what changes nothing can be left out
pub fold_same : {A B : Type 0} (step : B → A → B) (b : B) (xs : List A) → ((x : A) → step b x ≡ b) → fold step b xs ≡ b
fold_same step b [] same = refl
fold_same step b (x ∷ xs) same = ap (λ c. fold step c xs) (same x) ∙ fold_same step b xs same

pub flat_map_same : {A B X : Type 0} (step : B → A → B) (f : X → List A) (b : B) (xs : List X) → ((x : X) → fold step b (f x) ≡ b) → fold step b (flat_map f xs) ≡ b
flat_map_same step f b xs same = fold_flat_map step f b xs ∙ fold_same (λ b x. fold step b (f x)) b xs same

pub map_same : {A B X : Type 0} (step : B → A → B) (f : X → A) (b : B) (xs : List X) → ((x : X) → step b (f x) ≡ b) → fold step b (map f xs) ≡ b
map_same step f b xs same = fold_map step f b xs ∙ fold_same (λ b x. step b (f x)) b xs same

pub append_nil : {A : Type 0} (xs : List A) → xs ++ [] ≡ xs
append_nil [] = refl
append_nil (x ∷ xs) = ap (λ t. x ∷ t) (append_nil xs)

pub walk_end : {A B : Type 0} (step : B → List A → B) (b : B) (so_far : List A) → walk step b so_far [] ≡ step b so_far
walk_end step b so_far = ap (step b) (append_nil so_far)

pub walk_next : {A B : Type 0} (step : B → List A → B) (b : B) (so_far : List A) (xs : List A) (rest : List (List A)) → walk step b so_far (xs ∷ rest) ≡ branches step b so_far xs rest
walk_next {A} {B} step b so_far xs rest =
    let one : (b : B) (x : A) → fold (λ b t. step b (so_far ++ t)) b (map (λ t. x ∷ t) (tuples rest)) ≡ walk step b (so_far ++ x ∷ []) rest =
    λ b x. fold_map (λ b t. step b (so_far ++ t)) (λ t. x ∷ t) b (tuples rest) ∙ ap (λ f. fold f b (tuples rest)) (λ i b t. step b (sym (append_assoc so_far (x ∷ []) t) i)) in
    fold_flat_map (λ b t. step b (so_far ++ t)) (λ x. map (λ t. x ∷ t) (tuples rest)) b xs ∙ ap (λ f. fold f b xs) (λ i b x. one b x i)

-- a branch is cut where no list that begins so changes the best
pub walk_cut : {A B : Type 0} (step : B → List A → B) (b : B) (so_far : List A) (choices : List (List A)) → ((t : List A) → step b (so_far ++ t) ≡ b) → walk step b so_far choices ≡ b
walk_cut step b so_far choices same = fold_same (λ b t. step b (so_far ++ t)) b (tuples choices) same

take_whole : {A : Type 0} (xs : List A) (n : ℕ) → n ≡ length xs → take n xs ≡ xs
take_whole xs n e = take_all n xs (omega (arith, e))

pub walk_next_at : {A B : Type 0} (step : B → List A → B) (b : B) (so_far : List A) (choices : List (List A)) (places : List A) → 1 ≤ length choices → places ≡ get_or choices 0 places → walk step b so_far choices ≡ branches step b so_far places (slice_range choices 1 (length choices))
walk_next_at step b so_far [] places h e = absurd (omega (arith, h))
walk_next_at step b so_far (xs ∷ rest) places h e =
    subst (λ p. walk step b so_far (xs ∷ rest) ≡ branches step b so_far p (take (length (xs ∷ rest) - 1) rest)) (sym e)
    (subst (λ r. walk step b so_far (xs ∷ rest) ≡ branches step b so_far xs r) (sym (take_whole rest (length (xs ∷ rest) - 1) (omega arith))) (walk_next step b so_far xs rest))

map_id : {A : Type 0} (xs : List A) → map (λ x. x) xs ≡ xs
map_id [] = refl
map_id (x ∷ xs) = ap (λ t. x ∷ t) (map_id xs)

pub map_below_more : {X : Type 0} (f : ℕ → X) (n : ℕ) → map f (below (n + 1)) ≡ map f (below n) ++ f n ∷ []
map_below_more f n = map-range_with_len_more f 0 n n (omega arith)

pub below_more : (n : ℕ) → below (n + 1) ≡ below n ++ n ∷ []
below_more n = sym (map_id (below (n + 1))) ∙ (map_below_more (λ x. x) n ∙ ap (λ l. l ++ n ∷ []) (map_id (below n)))

pub fold_below_more : {B : Type 0} (f : B → ℕ → B) (b : B) (n : ℕ) → fold f b (below (n + 1)) ≡ f (fold f b (below n)) n
fold_below_more f b n = ap (fold f b) (below_more n) ∙ fold_append f b (below n) (n ∷ [])
