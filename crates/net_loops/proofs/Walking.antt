-- The steps of a walk keep what holds between them.
use Rattle.std.proofs.Common.{Bool, true, false, ◌≡◌, ℕ, zero, suc, ◌+◌, ◌-◌, ◌<◌, ◌≤◌, ◌⊎◌, inl, inr, ⊎_elim, List, [], ◌∷◌, ◌++◌, length, map, replicate, get_or, set, Some, refl, sym, ap, ◌∙◌, subst, arith}
use Rattle.std.specs.Prelude.{slice_get}
use Rattle.std.proofs.lemmas.Option.{same_Some, slice_get-get_or}
use Rattle.std.proofs.lemmas.Bool.{cases_eq}
use Rattle.std.proofs.lemmas.List.{length-set, length-append, length-map, length-replicate}
use Rattle.net_core.proofs.Basics.{get_left, get_below, get_within}
use Rattle.net_core.proofs.Ordering.{map_get}
use Rattle.net_core.proofs.Searching.{get_last, get_pushed, get_set_same, get_set_other, get_of_set}
use Rattle.net_core.specs.Search.{Leads, IsClosed}
use Rattle.net_loops.specs.Walks.{CameTo, Placed, Looked, Walking, Met, BeginsAs, KeepsLabels, IsVisit, Resting}

-- where a node leads, but for where one with the present label leads next
abbrev LookedBut : List (List ℕ) → ℕ → ℕ → List ℕ → List ℕ → ℕ → Type 0
LookedBut graph goal now labels left target =
    (i y l k j : ℕ) (row : List ℕ) → slice_get labels i ≡ Some y → y ≤ now → slice_get left i ≡ Some l → l ≤ k → slice_get graph i ≡ Some row → slice_get row k ≡ Some j
    → (j ≡ goal → ⊥) × (CameTo labels y j ⊎ ((j ≡ target) × (y ≡ now)))

-- the topmost node leads to one more, which is visited next
pub record Going (graph : List (List ℕ)) (goal new now : ℕ) (labels left stack done : List ℕ) (target : ℕ) : Type 0 where
  placed : Placed graph new now labels left stack done
  looked : LookedBut graph goal now labels left target
  leads : (a i : ℕ) → slice_get stack a ≡ Some i → suc a ≡ length stack → Leads graph i target
  pub some : 0 < length stack
  within : target < length graph

-- ---- a node is come to
module _ (graph : List (List ℕ)) (new now : ℕ) (labels left stack done : List ℕ) (t y0 : ℕ) (was : Placed graph new now labels left stack done)
    (at : slice_get labels t ≡ Some y0) (unseen : now < y0)
    (leads : (a i : ℕ) → slice_get stack a ≡ Some i → suc a ≡ length stack → Leads graph i t) where
  inside : t < length labels
  inside = get_below labels t y0 at

  labelled_now : slice_get (set labels t now) t ≡ Some now
  labelled_now = get_set_same labels t now inside

  here_more : (a i : ℕ) → slice_get (stack ++ t ∷ []) a ≡ Some i → slice_get (set labels t now) i ≡ Some now
  here_more a i h = ⊎_elim
      (λ g. ⊎_elim (λ e. subst (λ k. slice_get (set labels t now) k ≡ Some now) (sym e) labelled_now) (λ e. get_set_other labels t i now e ∙ was.here a i g) (cases_eq i t))
      (λ e. subst (λ k. slice_get (set labels t now) k ≡ Some now) e.1 labelled_now)
      (get_pushed stack t i a h)

  path_more : (a i j : ℕ) → slice_get (stack ++ t ∷ []) a ≡ Some i → slice_get (stack ++ t ∷ []) (suc a) ≡ Some j → Leads graph i j
  path_more a i j h g = ⊎_elim
      (λ g'. ⊎_elim (λ h'. was.path a i j h' g') (λ e. let low = get_below stack (suc a) j g' in absurd (omega (arith, e.0))) (get_pushed stack t i a h))
      (λ f. ⊎_elim (λ h'. subst (Leads graph i) f.1 (leads a i h' f.0)) (λ e. absurd (omega (arith, e.0, f.0))) (get_pushed stack t i a h))
      (get_pushed stack t j (suc a) g)

  opened_more : (i l : ℕ) → CameTo (set labels t now) now i → slice_get left i ≡ Some (suc l) → (a : ℕ) × (slice_get (stack ++ t ∷ []) a ≡ Some i)
  opened_more i l came is_left = ⊎_elim
      (λ e. (length stack, get_last stack t ∙ ap Some (sym e)))
      (λ e. let old = was.opened i l (came.0, sym (get_set_other labels t i now e) ∙ came.1, came.2) is_left in (old.0, get_left stack (t ∷ []) old.0 i old.1))
      (cases_eq i t)

  pub placed_open : Placed graph new now (set labels t now) left (stack ++ t ∷ []) done
  placed_open = record {
    labelled = length-set labels t now ∙ was.labelled;
    counted = was.counted;
    most = λ i y h. ⊎_elim (λ e. inl (omega (arith, e.1))) (λ e. was.most i y e.1) (get_of_set labels t i now y inside h);
    room = was.room;
    fresh = λ i y row h high g. ⊎_elim (λ e. absurd (omega (arith, e.1, high))) (λ e. was.fresh i y row e.1 high g) (get_of_set labels t i now y inside h);
    here = here_more;
    path = path_more;
    opened = opened_more;
    within = was.within;
  }

  -- a label that stays, where the node is another one
  still : (j y x : ℕ) → y ≤ now → slice_get labels j ≡ Some x → x ≤ y → CameTo (set labels t now) y j
  still j y x low is_x below = (x, get_set_other labels t j now (λ e. let same = same_Some x y0 (sym is_x ∙ ap (slice_get labels) e ∙ at) in omega (arith, same, low, below, unseen)) ∙ is_x, below)

  pub looked_open : (goal : ℕ) → LookedBut graph goal now labels left t → Looked graph goal now (set labels t now) left
  looked_open goal looks i y l k j row h low is_left past is_row target = ⊎_elim
      (λ e. let full : l ≡ length row = same_Some l (length row) (sym is_left ∙ was.fresh i y0 row (ap (slice_get labels) e.0 ∙ at) unseen is_row) in
      let short = get_below row k j target in absurd (omega (arith, full, past, short)))
      (λ e. let old = looks i y l k j row e.1 low is_left past is_row target in
      (old.0, ⊎_elim (λ came. still j y came.0 low came.1 came.2) (λ next. (now, subst (λ x. slice_get (set labels t now) x ≡ Some now) (sym next.0) labelled_now, omega (arith, next.1))) old.1))
      (get_of_set labels t i now y inside h)

pub open_target : (graph : List (List ℕ)) (goal new now : ℕ) (labels left stack done : List ℕ) (t y0 : ℕ) → Going graph goal new now labels left stack done t → slice_get labels t ≡ Some y0 → now < y0 → Walking graph goal new now (set labels t now) left (stack ++ t ∷ []) done
open_target graph goal new now labels left stack done t y0 going at unseen = record {
  placed = placed_open graph new now labels left stack done t y0 going.placed at unseen going.leads;
  looked = looked_open graph new now labels left stack done t y0 going.placed at unseen going.leads goal going.looked;
}

pub open_start : (graph : List (List ℕ)) (goal new now : ℕ) (labels left stack done : List ℕ) (t y0 : ℕ) → Walking graph goal new now labels left stack done → stack ≡ [] → slice_get labels t ≡ Some y0 → now < y0 → Walking graph goal new now (set labels t now) left (stack ++ t ∷ []) done
open_start graph goal new now labels left stack done t y0 w empty at unseen = record {
  placed = placed_open graph new now labels left stack done t y0 w.placed at unseen nobody;
  looked = looked_open graph new now labels left stack done t y0 w.placed at unseen nobody goal (λ i y l k j row h low is_left past is_row target. let old = w.looked i y l k j row h low is_left past is_row target in (old.0, inl old.1));
}
  where
    nobody : (a i : ℕ) → slice_get stack a ≡ Some i → suc a ≡ length stack → Leads graph i t
    nobody a i h e = let f : slice_get [] a ≡ Some i = ap (λ xs. slice_get xs a) (sym empty) ∙ h in absurd (cc)

-- a next node to which a walk came before
pub pass_target : (graph : List (List ℕ)) (goal new now : ℕ) (labels left stack done : List ℕ) (t y0 : ℕ) → Going graph goal new now labels left stack done t → slice_get labels t ≡ Some y0 → y0 ≤ now → Walking graph goal new now labels left stack done
pass_target graph goal new now labels left stack done t y0 going at seen = record {
  placed = going.placed;
  looked = λ i y l k j row h low is_left past is_row target.
      let old = going.looked i y l k j row h low is_left past is_row target in
      (old.0, ⊎_elim (λ came. came) (λ next. (y0, ap (slice_get labels) next.0 ∙ at, omega (arith, next.1, seen))) old.1);
}

-- ---- the next entry of the topmost node is looked at
module _ (graph : List (List ℕ)) (new now : ℕ) (labels left below done : List ℕ) (i l t : ℕ) (row : List ℕ)
    (was : Placed graph new now labels left (below ++ i ∷ []) done)
    (some_left : slice_get left i ≡ Some (suc l)) (is_row : slice_get graph i ≡ Some row) where
  at_top : slice_get (below ++ i ∷ []) (length below) ≡ Some i
  at_top = get_last below i

  inside_left : i < length left
  inside_left = get_below left i (suc l) some_left

  top_now : slice_get labels i ≡ Some now
  top_now = was.here (length below) i at_top

  pub placed_less : Placed graph new now labels (set left i l) (below ++ i ∷ []) done
  placed_less = record {
    labelled = was.labelled;
    counted = length-set left i l ∙ was.counted;
    most = was.most;
    room = λ k m r h g. ⊎_elim
        (λ e. let full = was.room i (suc l) r some_left (ap (slice_get graph) (sym e.0) ∙ g) in omega (arith, full, e.1))
        (λ e. was.room k m r e.1 g) (get_of_set left i k l m inside_left h);
    fresh = λ k y r h high g. get_set_other left i k l (λ e. let same = same_Some y now (sym h ∙ ap (slice_get labels) e ∙ top_now) in omega (arith, same, high)) ∙ was.fresh k y r h high g;
    here = was.here;
    path = was.path;
    opened = λ k m came h. ⊎_elim (λ e. (length below, at_top ∙ ap Some (sym e.0))) (λ e. was.opened k m came e.1) (get_of_set left i k l (suc m) inside_left h);
    within = was.within;
  }

  pub looked_less : (goal : ℕ) → slice_get row l ≡ Some t → (t ≡ goal → ⊥) → Looked graph goal now labels left → LookedBut graph goal now labels (set left i l) t
  looked_less goal target other looks k y m p j r h low is_left past has_row goes = ⊎_elim
      (λ e. let same : r ≡ row = same_Some r row (sym has_row ∙ ap (slice_get graph) e.0 ∙ is_row) in
      let label : y ≡ now = same_Some y now (sym h ∙ ap (slice_get labels) e.0 ∙ top_now) in
      ⊎_elim (λ f. let hit : j ≡ t = same_Some j t (sym goes ∙ ap (λ q. slice_get q p) same ∙ ap (slice_get row) f ∙ target) in ((λ g. other (sym hit ∙ g)), inr (hit, label)))
      (λ f. let high : suc l ≤ p = omega (arith, e.1, past, f) in
      let is_left' : slice_get left k ≡ Some (suc l) = ap (slice_get left) e.0 ∙ some_left in
      let old = looks k y (suc l) p j r h low is_left' high has_row goes in (old.0, inl old.1))
      (cases_eq p l))
      (λ e. let old = looks k y m p j r h low e.1 past has_row goes in (old.0, inl old.1))
      (get_of_set left i k l m inside_left is_left)

pub take_target : (graph : List (List ℕ)) (goal new now : ℕ) (labels left below done : List ℕ) (i l t : ℕ) (row : List ℕ) → IsClosed graph → Walking graph goal new now labels left (below ++ i ∷ []) done
    → slice_get left i ≡ Some (suc l) → slice_get graph i ≡ Some row → slice_get row l ≡ Some t → (t ≡ goal → ⊥) → Going graph goal new now labels (set left i l) (below ++ i ∷ []) done t
take_target graph goal new now labels left below done i l t row closed w some_left is_row target other = record {
  placed = placed_less graph new now labels left below done i l t row w.placed some_left is_row;
  looked = looked_less graph new now labels left below done i l t row w.placed some_left is_row goal target other w.looked;
  leads = λ a j h e. let place : a ≡ length below = omega (arith, e, is_top) in
      let same : i ≡ j = same_Some i j (sym (get_last below i) ∙ ap (slice_get (below ++ i ∷ [])) (sym place) ∙ h) in
      subst (λ x. Leads graph x t) same (row, l, is_row, target);
  some = omega (arith, is_top);
  within = closed i t (row, l, is_row, target);
}
  where
    is_top : suc (length below) ≡ length (below ++ i ∷ [])
    is_top = let e = length-append below (i ∷ []) in omega (arith, e)

-- the next entry of the topmost node is the goal
pub meet_target : (graph : List (List ℕ)) (goal new now : ℕ) (labels left below done : List ℕ) (i l t : ℕ) (row : List ℕ) → Walking graph goal new now labels left (below ++ i ∷ []) done
    → slice_get graph i ≡ Some row → slice_get row l ≡ Some t → t ≡ goal → Met graph goal (below ++ i ∷ [])
meet_target graph goal new now labels left below done i l t row w is_row target is_goal = record {
  some = omega (arith, is_top);
  path = w.placed.path;
  last = λ a j e h. let place : a ≡ length below = omega (arith, e, is_top) in
      let same : i ≡ j = same_Some i j (sym (get_last below i) ∙ ap (slice_get (below ++ i ∷ [])) (sym place) ∙ h) in
      subst (λ x. Leads graph x goal) same (row, l, is_row, target ∙ ap Some is_goal);
}
  where
    is_top : suc (length below) ≡ length (below ++ i ∷ [])
    is_top = let e = length-append below (i ∷ []) in omega (arith, e)

-- ---- the row of the topmost node is looked through
pub close_top : (graph : List (List ℕ)) (goal new now : ℕ) (labels left below done : List ℕ) (i : ℕ) → Walking graph goal new now labels left (below ++ i ∷ []) done → slice_get left i ≡ Some 0 → Walking graph goal new now labels left below (done ++ i ∷ [])
close_top graph goal new now labels left below done i w none_left = record {
  placed = record {
    labelled = w.placed.labelled;
    counted = w.placed.counted;
    most = w.placed.most;
    room = w.placed.room;
    fresh = w.placed.fresh;
    here = λ a j h. w.placed.here a j (get_left below (i ∷ []) a j h);
    path = λ a j k h g. w.placed.path a j k (get_left below (i ∷ []) a j h) (get_left below (i ∷ []) (suc a) k g);
    opened = λ j l came h. let old = w.placed.opened j l came h in
        ⊎_elim (λ g. (old.0, g)) (λ e. let f : 0 ≡ suc l = same_Some 0 (suc l) (sym none_left ∙ ap (slice_get left) e.1 ∙ h) in absurd (omega (arith, f))) (get_pushed below i j old.0 old.1);
    within = λ a j h. ⊎_elim (λ g. w.placed.within a j g) (λ e. let low = get_below labels i now (w.placed.here (length below) i (get_last below i)) in let same = w.placed.labelled in omega (arith, low, same, e.1)) (get_pushed done i j a h);
  };
  looked = w.looked;
}

-- ---- the beginning
get_same : (n x y k : ℕ) → slice_get (replicate n x) k ≡ Some y → y ≡ x
get_same zero x y k h = absurd (cc)
get_same (suc n) x y zero h = sym (same_Some x y h)
get_same (suc n) x y (suc k) h = get_same n x y k h

pub all_new : (n new : ℕ) (labels : List ℕ) → labels ≡ replicate n new → (i y : ℕ) → slice_get labels i ≡ Some y → y ≡ new
all_new n new labels is_new i y h = get_same n new y i (ap (λ ls. slice_get ls i) (sym is_new) ∙ h)

pub begin : (graph : List (List ℕ)) (goal new now : ℕ) (labels left : List ℕ) → now < new → labels ≡ replicate (length graph) new → left ≡ map length graph → Walking graph goal new now labels left [] []
begin graph goal new now labels left low is_new all_left = record {
  placed = record {
    labelled = ap length is_new ∙ length-replicate (length graph) new;
    counted = ap length all_left ∙ length-map graph (λ (row : List ℕ). length row);
    most = λ i y h. inr (all_new (length graph) new labels is_new i y h);
    room = λ i l row h g. let e : l ≡ length row = same_Some l (length row) (sym h ∙ full i row g) in omega (arith, e);
    fresh = λ i y row h high g. full i row g;
    here = λ a i h. absurd (cc);
    path = λ a i j h g. absurd (cc);
    opened = λ i l came h. let e = all_new (length graph) new labels is_new i came.0 came.1 in absurd (omega (arith, e, low, came.2));
    within = λ a i h. absurd (cc);
  };
  looked = λ i y l k j row h seen is_left past is_row target.
      let e : l ≡ length row = same_Some l (length row) (sym is_left ∙ full i row is_row) in
      let short = get_below row k j target in absurd (omega (arith, e, past, short));
}
  where
    full : (i : ℕ) (row : List ℕ) → slice_get graph i ≡ Some row → slice_get left i ≡ Some (length row)
    full i row g = ap (λ ls. slice_get ls i) all_left ∙ map_get length graph i row g

-- ---- the same facts over equal lists
pub same_walk : (graph : List (List ℕ)) (goal new now : ℕ) (labels labels' left left' stack stack' done done' : List ℕ) → labels' ≡ labels → left' ≡ left → stack' ≡ stack → done' ≡ done → Walking graph goal new now labels left stack done → Walking graph goal new now labels' left' stack' done'
same_walk graph goal new now labels labels' left left' stack stack' done done' m l s d h =
    subst (λ x. Walking graph goal new now x left' stack' done') (sym m) (subst (λ x. Walking graph goal new now labels x stack' done') (sym l) (subst (λ x. Walking graph goal new now labels left x done') (sym s) (subst (λ x. Walking graph goal new now labels left stack x) (sym d) h)))

pub top_label : (graph : List (List ℕ)) (goal new now : ℕ) (labels left below done : List ℕ) (i : ℕ) → Walking graph goal new now labels left (below ++ i ∷ []) done → i < length labels
top_label graph goal new now labels left below done i w = get_below labels i now (w.placed.here (length below) i (get_last below i))

pub top_left : (graph : List (List ℕ)) (goal new now : ℕ) (labels left below done : List ℕ) (i : ℕ) → Walking graph goal new now labels left (below ++ i ∷ []) done → i < length left
top_left graph goal new now labels left below done i w =
    let low = top_label graph goal new now labels left below done i w in
    let m = w.placed.labelled in let l = w.placed.counted in omega (arith, low, m, l)

pub top_graph : (graph : List (List ℕ)) (goal new now : ℕ) (labels left below done : List ℕ) (i : ℕ) → Walking graph goal new now labels left (below ++ i ∷ []) done → i < length graph
top_graph graph goal new now labels left below done i w =
    let low = top_label graph goal new now labels left below done i w in
    let m = w.placed.labelled in omega (arith, low, m)

pub target_label : (graph : List (List ℕ)) (goal new now : ℕ) (labels left stack done : List ℕ) (t : ℕ) → Going graph goal new now labels left stack done t → t < length labels
target_label graph goal new now labels left stack done t going = let m = going.placed.labelled in let low = going.within in omega (arith, low, m)

-- the entry that is looked at next
pub enough : (graph : List (List ℕ)) (goal new now : ℕ) (labels left below done : List ℕ) (i n : ℕ) (row items : List ℕ) → Walking graph goal new now labels left (below ++ i ∷ []) done → slice_get left i ≡ Some n → (n ≡ 0 → ⊥) → slice_get graph i ≡ Some row → items ≡ row → n - 1 < length items
enough graph goal new now labels left below done i n row items w left_at some is_row same =
    let room = w.placed.room i n row left_at is_row in
    let e : length items ≡ length row = ap length same in
    ⊎_elim (λ z. absurd (some z)) (λ z. omega (arith, room, e, z)) (cases_zero n)
  where
    cases_zero : (n : ℕ) → (n ≡ 0) ⊎ (0 < n)
    cases_zero zero = inl refl
    cases_zero (suc n) = inr (omega arith)

pub take_step : (graph : List (List ℕ)) (goal new now : ℕ) (labels left below pushed done : List ℕ) (i n : ℕ) (row items : List ℕ) → IsClosed graph → Walking graph goal new now labels left (below ++ i ∷ []) done → pushed ≡ below ++ i ∷ []
    → slice_get left i ≡ Some n → (n ≡ 0 → ⊥) → slice_get graph i ≡ Some row → items ≡ row → (get_or items (n - 1) 0 ≡ goal → ⊥) → Going graph goal new now labels (set left i (n - 1)) pushed done (get_or items (n - 1) 0)
take_step graph goal new now labels left below pushed done i zero row items closed w same left_at some is_row rows other = absurd (some refl)
take_step graph goal new now labels left below pushed done i (suc l) row items closed w same left_at some is_row rows other =
    let less : suc l - 1 ≡ l = omega arith in
    let low : l < length items = let e = enough graph goal new now labels left below done i (suc l) row items w left_at some is_row rows in omega (arith, e, less) in
    let target : slice_get row l ≡ Some (get_or items l 0) = sym (ap (λ xs. slice_get xs l) rows) ∙ slice_get-get_or items l 0 low in
    let other' : get_or items l 0 ≡ goal → ⊥ = λ e. other (ap (λ k. get_or items k 0) less ∙ e) in
    subst (λ k. Going graph goal new now labels (set left i k) pushed done (get_or items k 0)) (sym less)
    (subst (λ xs. Going graph goal new now labels (set left i l) xs done (get_or items l 0)) (sym same)
    (take_target graph goal new now labels left below done i l (get_or items l 0) row closed w left_at is_row target other'))

pub meet_step : (graph : List (List ℕ)) (goal new now : ℕ) (labels left below pushed done : List ℕ) (i n : ℕ) (row items : List ℕ) → Walking graph goal new now labels left (below ++ i ∷ []) done → pushed ≡ below ++ i ∷ []
    → slice_get left i ≡ Some n → (n ≡ 0 → ⊥) → slice_get graph i ≡ Some row → items ≡ row → get_or items (n - 1) 0 ≡ goal → Met graph goal pushed
meet_step graph goal new now labels left below pushed done i n row items w same left_at some is_row rows is_goal =
    let low : n - 1 < length items = enough graph goal new now labels left below done i n row items w left_at some is_row rows in
    let target : slice_get row (n - 1) ≡ Some (get_or items (n - 1) 0) = sym (ap (λ xs. slice_get xs (n - 1)) rows) ∙ slice_get-get_or items (n - 1) 0 low in
    subst (Met graph goal) (sym same) (meet_target graph goal new now labels left below done i (n - 1) (get_or items (n - 1) 0) row w is_row target is_goal)

-- ---- what the stack begins with
pub begins_closed : (below : List ℕ) (i : ℕ) → BeginsAs (below ++ i ∷ []) below
begins_closed below i j h = get_left below (i ∷ []) 0 j h

pub begins_pushed : (stack : List ℕ) (t : ℕ) → 0 < length stack → BeginsAs stack (stack ++ t ∷ [])
begins_pushed [] t some j h = absurd (omega (arith, some))
begins_pushed (x ∷ xs) t some j h = h

-- ---- labels that stay
pub kept_open : (labels : List ℕ) (now t y0 : ℕ) → slice_get labels t ≡ Some y0 → now < y0 → KeepsLabels now labels (set labels t now)
kept_open labels now t y0 at unseen i y h low = get_set_other labels t i now (λ e. let same = same_Some y y0 (sym h ∙ ap (slice_get labels) e ∙ at) in omega (arith, same, low, unseen)) ∙ h

-- ---- the end of a walk
pub walked : (graph : List (List ℕ)) (goal new now : ℕ) (labels left stack done : List ℕ) → Walking graph goal new now labels left stack done → stack ≡ [] → (i j y : ℕ) → slice_get labels i ≡ Some y → y ≤ now → Leads graph i j → (j ≡ goal → ⊥) × CameTo labels y j
walked graph goal new now labels left stack done w empty i j y h low leads =
    let inside : i < length left = let b = get_below labels i y h in let p = w.placed.labelled in let q = w.placed.counted in omega (arith, b, p, q) in
    let l = get_within left i inside in
    let none : l.0 ≡ 0 = through l.0 l.1 in
    w.looked i y 0 leads.1 j leads.0 h low (l.1 ∙ ap Some none) (omega arith) leads.2 leads.3
  where
    through : (l : ℕ) → slice_get left i ≡ Some l → l ≡ 0
    through zero g = refl
    through (suc l) g = let place = w.placed.opened i l (y, h, low) g in let f : slice_get [] place.0 ≡ Some i = ap (λ xs. slice_get xs place.0) (sym empty) ∙ place.1 in absurd (cc)

-- ---- walks that are at rest
pub rest_open : (graph : List (List ℕ)) (new now : ℕ) (labels left stack done : List ℕ) (t y0 : ℕ) → Resting graph new now labels left stack done → slice_get labels t ≡ Some y0 → now < y0 → Walking graph new new now (set labels t now) left (stack ++ t ∷ []) done
rest_open graph new now labels left stack done t y0 r at unseen = open_start graph new new now labels left stack done t y0 r.walking r.empty at unseen

pub rested : (graph : List (List ℕ)) (new now : ℕ) (labels left stack done : List ℕ) (met : Bool) → IsClosed graph → length graph ≤ new → (met ≡ true → Met graph new stack) → (met ≡ false → Walking graph new new now labels left stack done) → (met ≡ false → stack ≡ []) → Resting graph new now labels left stack done
rested graph new now labels left stack done false closed few met walking empty = record { walking = walking refl; empty = empty refl }
rested graph new now labels left stack done true closed few met walking empty =
    let m = met refl in
    let some = m.some in
    let top = get_within stack (length stack - 1) (omega (arith, some)) in
    let low = closed top.0 new (m.last (length stack - 1) top.0 (omega (arith, some)) top.1) in
    absurd (omega (arith, low, few))

pub rest_later : (graph : List (List ℕ)) (new now next : ℕ) (labels left stack done : List ℕ) → now ≤ next → next < new → Resting graph new now labels left stack done → Resting graph new next labels left stack done
rest_later graph new now next labels left stack done le low r = record {
  walking = record {
    placed = record {
      labelled = p.labelled;
      counted = p.counted;
      most = λ i y h. ⊎_elim (λ e. inl (omega (arith, e, le))) (λ e. inr e) (p.most i y h);
      room = p.room;
      fresh = λ i y row h high g. p.fresh i y row h (omega (arith, high, le)) g;
      here = λ a i h. absurd (nobody a i h);
      path = p.path;
      opened = λ i l came h. p.opened i l (came.0, came.1, seen i came.0 came.1 came.2) h;
      within = p.within;
    };
    looked = λ i y l k j row h below is_left past is_row target.
        r.walking.looked i y l k j row h (seen i y h below) is_left past is_row target;
  };
  empty = r.empty;
}
  where
    p : Placed graph new now labels left stack done
    p = r.walking.placed

    nobody : (a i : ℕ) → slice_get stack a ≡ Some i → ⊥
    nobody a i h = let f : slice_get [] a ≡ Some i = ap (λ xs. slice_get xs a) (sym r.empty) ∙ h in cc

    seen : (i y : ℕ) → slice_get labels i ≡ Some y → y ≤ next → y ≤ now
    seen i y h below = ⊎_elim (λ e. e) (λ e. absurd (omega (arith, e, below, low))) (p.most i y h)

pub rest_start : (graph : List (List ℕ)) (new : ℕ) (labels left stack done : List ℕ) → ((goal now : ℕ) → now < new → Walking graph goal new now labels left stack done) → stack ≡ [] → 0 < new → Resting graph new 0 labels left stack done
rest_start graph new labels left stack done walking empty some = record { walking = walking new 0 some; empty = empty }

pub same_rest : (graph : List (List ℕ)) (new now : ℕ) (labels labels' left left' stack stack' done done' : List ℕ) → labels' ≡ labels → left' ≡ left → stack' ≡ stack → done' ≡ done → Resting graph new now labels left stack done → Resting graph new now labels' left' stack' done'
same_rest graph new now labels labels' left left' stack stack' done done' m l s d r = record { walking = same_walk graph new new now labels labels' left left' stack stack' done done' m l s d r.walking; empty = s ∙ r.empty }

-- ---- the next node is visited
pub after_visit : (graph : List (List ℕ)) (goal new now : ℕ) (labels labels' left left' stack stack' done done' : List ℕ) (t : ℕ) → Going graph goal new now labels left stack done t → IsVisit now t labels stack labels' stack' → left' ≡ left → done' ≡ done → Walking graph goal new now labels' left' stack' done'
after_visit graph goal new now labels labels' left left' stack stack' done done' t going visit l d = ⊎_elim
    (λ v. same_walk graph goal new now _ labels' left left' _ stack' done done' v.3 l v.4 d (open_target graph goal new now labels left stack done t v.0 going v.1 v.2))
    (λ v. same_walk graph goal new now labels labels' left left' stack stack' done done' v.1 l v.2 d (pass_target graph goal new now labels left stack done t v.0.0 going v.0.1 v.0.2))
    visit

pub visit_kept : (now t : ℕ) (labels stack labels' stack' : List ℕ) → IsVisit now t labels stack labels' stack' → KeepsLabels now labels labels'
visit_kept now t labels stack labels' stack' visit = ⊎_elim
    (λ v. subst (KeepsLabels now labels) (sym v.3) (kept_open labels now t v.0 v.1 v.2))
    (λ v. subst (KeepsLabels now labels) (sym v.1) (λ i y h low. h))
    visit

pub visit_begins : (now t : ℕ) (labels stack labels' stack' : List ℕ) → IsVisit now t labels stack labels' stack' → 0 < length stack → BeginsAs stack stack'
visit_begins now t labels stack labels' stack' visit some = ⊎_elim
    (λ v. subst (BeginsAs stack) (sym v.4) (begins_pushed stack t some))
    (λ v. subst (BeginsAs stack) (sym v.2) (λ i h. h))
    visit

pub visit_longer : (now t : ℕ) (labels stack labels' stack' : List ℕ) → IsVisit now t labels stack labels' stack' → length stack' ≤ length stack + 1
visit_longer now t labels stack labels' stack' visit = ⊎_elim
    (λ v. let e : length stack' ≡ length stack + 1 = ap length v.4 ∙ length-append stack (t ∷ []) in omega (arith, e))
    (λ v. let e : length stack' ≡ length stack = ap length v.2 in omega (arith, e))
    visit
