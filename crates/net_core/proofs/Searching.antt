-- The steps of a search keep what holds between them.
use Rattle.std.proofs.Common.{◌≡◌, ℕ, zero, suc, ◌+◌, ◌<◌, ◌≤◌, ◌⊎◌, inl, inr, ⊎_elim, List, [], ◌∷◌, ◌++◌, length, map, replicate, get_or, set, drop, sum, ◌-◌, Some, refl, sym, ap, ◌∙◌, subst, arith}
use Rattle.std.specs.Prelude.{slice_get}
use Rattle.std.proofs.lemmas.Option.{same_Some, slice_get-get_or, get_or_from_slice_get}
use Rattle.std.proofs.lemmas.Bool.{cases_eq}
use Rattle.std.proofs.lemmas.List.Sums.{sum_by-set}
use Rattle.std.proofs.lemmas.List.{length-set, length-drop, length-append, length-map, length-replicate}
use Rattle.net_core.proofs.Basics.{get_left, get_below, get_within}
use Rattle.net_core.proofs.Ordering.{map_get}
use Rattle.net_core.specs.declared.search.Mark.{Mark}
use Rattle.net_core.specs.declared.search.Mark.TheVariants.{New, Opened, Done}
use Rattle.net_core.specs.Search.{Leads, IsClosed, IsOrder, IsRing, Marked, Counted, Looked, Searching, Going, NoneNew}

pub get_last : {X : Type 0} (xs : List X) (x : X) → slice_get (xs ++ x ∷ []) (length xs) ≡ Some x
get_last [] x = refl
get_last (a ∷ xs) x = get_last xs x

pub get_pushed : {X : Type 0} (xs : List X) (y x : X) (k : ℕ) → slice_get (xs ++ y ∷ []) k ≡ Some x → (slice_get xs k ≡ Some x) ⊎ ((k ≡ length xs) × (y ≡ x))
get_pushed [] y x zero h = inr (refl, same_Some y x h)
get_pushed [] y x (suc k) h = absurd (cc)
get_pushed (a ∷ xs) y x zero h = inl h
get_pushed (a ∷ xs) y x (suc k) h = ⊎_elim (λ g. inl g) (λ g. inr (ap suc g.0, g.1)) (get_pushed xs y x k h)

pub get_set_same : {X : Type 0} (xs : List X) (i : ℕ) (x : X) → i < length xs → slice_get (set xs i x) i ≡ Some x
get_set_same [] i x h = absurd (omega arith)
get_set_same (a ∷ xs) zero x h = refl
get_set_same (a ∷ xs) (suc i) x h = get_set_same xs i x (omega arith)

pub get_set_other : {X : Type 0} (xs : List X) (i k : ℕ) (x : X) → (k ≡ i → ⊥) → slice_get (set xs i x) k ≡ slice_get xs k
get_set_other [] i k x h = refl
get_set_other (a ∷ xs) zero zero x h = absurd (h refl)
get_set_other (a ∷ xs) zero (suc k) x h = refl
get_set_other (a ∷ xs) (suc i) zero x h = refl
get_set_other (a ∷ xs) (suc i) (suc k) x h = get_set_other xs i k x (λ e. h (ap suc e))

-- an element of a list with one place set is the one that was set, or one from before
pub get_of_set : {X : Type 0} (xs : List X) (i k : ℕ) (x y : X) → i < length xs → slice_get (set xs i x) k ≡ Some y → ((k ≡ i) × (x ≡ y)) ⊎ ((k ≡ i → ⊥) × (slice_get xs k ≡ Some y))
get_of_set xs i k x y h g =
    ⊎_elim (λ e. inl (e, same_Some x y (sym (get_set_same xs i x h) ∙ ap (slice_get (set xs i x)) (sym e) ∙ g)))
    (λ e. inr (e, sym (get_set_other xs i k x e) ∙ g)) (cases_eq k i)

differs : (m n : Mark) → Some m ≡ Some n → (m ≡ n → ⊥) → ⊥
differs m n h d = d (same_Some m n h)

-- a mark that is another one stands at another place
other_place : (marks : List Mark) (i k : ℕ) (m n : Mark) → slice_get marks i ≡ Some m → slice_get marks k ≡ Some n → (m ≡ n → ⊥) → k ≡ i → ⊥
other_place marks i k m n h g d e = d (same_Some m n (sym h ∙ ap (slice_get marks) (sym e) ∙ g))

new_not_done : New ≡ Done → ⊥
new_not_done h = cc

new_not_opened : New ≡ Opened → ⊥
new_not_opened h = cc

opened_not_done : Opened ≡ Done → ⊥
opened_not_done h = cc

opened_not_new : Opened ≡ New → ⊥
opened_not_new h = cc

done_not_opened : Done ≡ Opened → ⊥
done_not_opened h = cc

done_not_new : Done ≡ New → ⊥
done_not_new h = cc

-- a mark that stays where another node is marked
kept : (marks : List Mark) (t i : ℕ) (m n x : Mark) → slice_get marks t ≡ Some m → slice_get marks i ≡ Some n → (m ≡ n → ⊥) → slice_get (set marks t x) i ≡ Some n
kept marks t i m n x h g d = get_set_other marks t i x (other_place marks t i m n h g d) ∙ g

-- a mark other than the one that was set stood there before
before : (marks : List Mark) (t i : ℕ) (x n : Mark) → t < length marks → slice_get (set marks t x) i ≡ Some n → (x ≡ n → ⊥) → slice_get marks i ≡ Some n
before marks t i x n within h d = ⊎_elim (λ e. absurd (d e.1)) (λ e. e.1) (get_of_set marks t i x n within h)

-- ---- a new node is opened
module _ (graph : List (List ℕ)) (marks : List Mark) (stack order : List ℕ) (t : ℕ) (was : Marked graph marks stack order) (new : slice_get marks t ≡ Some New)
    (leads : (a i : ℕ) → slice_get stack a ≡ Some i → suc a ≡ length stack → Leads graph i t) where
  here : t < length marks
  here = get_below marks t New new

  stacked_more : (i : ℕ) → slice_get (set marks t Opened) i ≡ Some Opened → (a : ℕ) × (slice_get (stack ++ t ∷ []) a ≡ Some i)
  stacked_more i h = ⊎_elim (λ e. (length stack, get_last stack t ∙ ap Some (sym e.0))) (λ e. let old = was.stacked i e.1 in (old.0, get_left stack (t ∷ []) old.0 i old.1)) (get_of_set marks t i Opened Opened here h)

  opened_more : (a i : ℕ) → slice_get (stack ++ t ∷ []) a ≡ Some i → slice_get (set marks t Opened) i ≡ Some Opened
  opened_more a i h = ⊎_elim (λ g. kept marks t i New Opened Opened new (was.opened a i g) new_not_opened) (λ e. subst (λ j. slice_get (set marks t Opened) j ≡ Some Opened) e.1 (get_set_same marks t Opened here)) (get_pushed stack t i a h)

  not_stacked : (a : ℕ) → slice_get stack a ≡ Some t → ⊥
  not_stacked a h = new_not_opened (same_Some New Opened (sym new ∙ was.opened a t h))

  apart_more : (a b i : ℕ) → slice_get (stack ++ t ∷ []) a ≡ Some i → slice_get (stack ++ t ∷ []) b ≡ Some i → a ≡ b
  apart_more a b i h g = ⊎_elim
      (λ h'. ⊎_elim (λ g'. was.apart a b i h' g') (λ e. absurd (not_stacked a (h' ∙ ap Some (sym e.1)))) (get_pushed stack t i b g))
      (λ e. ⊎_elim (λ g'. absurd (not_stacked b (g' ∙ ap Some (sym e.1)))) (λ f. e.0 ∙ sym f.0) (get_pushed stack t i b g))
      (get_pushed stack t i a h)

  path_more : (a i j : ℕ) → slice_get (stack ++ t ∷ []) a ≡ Some i → slice_get (stack ++ t ∷ []) (suc a) ≡ Some j → Leads graph i j
  path_more a i j h g = ⊎_elim
      (λ g'. ⊎_elim (λ h'. was.path a i j h' g') (λ e. let low = get_below stack (suc a) j g' in absurd (omega (arith, e.0))) (get_pushed stack t i a h))
      (λ f. ⊎_elim (λ h'. subst (Leads graph i) f.1 (leads a i h' f.0)) (λ e. absurd (omega (arith, e.0, f.0))) (get_pushed stack t i a h))
      (get_pushed stack t j (suc a) g)

  pub marked_open : Marked graph (set marks t Opened) (stack ++ t ∷ []) order
  marked_open = record {
    count = length-set marks t Opened ∙ was.count;
    ordered = λ a i h. kept marks t i New Done Opened new (was.ordered a i h) new_not_done;
    placed = λ i h. was.placed i (before marks t i Opened Done here h opened_not_done);
    once = was.once;
    after = was.after;
    opened = opened_more;
    stacked = stacked_more;
    apart = apart_more;
    path = path_more;
  }

  pub counted_open : (left : List ℕ) → Counted graph marks left → Counted graph (set marks t Opened) left
  counted_open left counts = record {
    count = counts.count;
    room = counts.room;
    fresh = λ i row h. counts.fresh i row (before marks t i Opened New here h opened_not_new);
  }

  pub looked_open : (left : List ℕ) → Counted graph marks left → Looked graph marks left stack (λ j. j ≡ t) → Looked graph (set marks t Opened) left (stack ++ t ∷ []) (λ j. ⊥)
  looked_open left counts looks a i l k j row at is_left low is_row target = ⊎_elim
      (λ at'. ⊎_elim (λ done. inl (kept marks t j New Done Opened new done new_not_done))
      (λ rest. ⊎_elim (λ next. inr (inl (get_left stack (t ∷ []) (suc a) j next)))
      (λ last. inr (inl (subst (λ p. slice_get (stack ++ t ∷ []) p ≡ Some j) (sym last.0) (get_last stack t ∙ ap Some (sym last.1))))) rest)
      (looks a i l k j row at' is_left low is_row target))
      (λ e. let new' : slice_get marks i ≡ Some New = ap (slice_get marks) (sym e.1) ∙ new in
      let full : l ≡ length row = same_Some l (length row) (sym is_left ∙ counts.fresh i row new' is_row) in
      let inside = get_below row k j target in absurd (omega (arith, full, low, inside)))
      (get_pushed stack t i a at)

-- ---- the next entry of the topmost node is looked at
module _ (graph : List (List ℕ)) (marks : List Mark) (left stack order : List ℕ) (top i l t : ℕ) (row : List ℕ)
    (was : Marked graph marks stack order) (counts : Counted graph marks left)
    (at_top : slice_get stack top ≡ Some i) (is_top : suc top ≡ length stack) (some_left : slice_get left i ≡ Some (suc l)) (is_row : slice_get graph i ≡ Some row) where
  inside : i < length left
  inside = get_below left i (suc l) some_left

  pub counted_less : Counted graph marks (set left i l)
  counted_less = record {
    count = length-set left i l ∙ counts.count;
    room = λ k m r h g. ⊎_elim
        (λ e. let full = counts.room i (suc l) r some_left (ap (slice_get graph) (sym e.0) ∙ g) in omega (arith, full, e.1))
        (λ e. counts.room k m r e.1 g) (get_of_set left i k l m inside h);
    fresh = λ k r h g. get_set_other left i k l (other_place marks i k Opened New (was.opened top i at_top) h opened_not_new) ∙ counts.fresh k r h g;
  }

  pub looked_next : (target : slice_get row l ≡ Some t) → Looked graph marks left stack (λ j. ⊥) → Looked graph marks (set left i l) stack (λ j. j ≡ t)
  looked_next target looks a k m p j r at is_left low has_row goes = ⊎_elim
      (λ e. let same : r ≡ row = same_Some r row (sym has_row ∙ ap (slice_get graph) e.0 ∙ is_row) in
      let place : a ≡ top = was.apart a top k at (at_top ∙ ap Some (sym e.0)) in
      ⊎_elim (λ f. let hit : j ≡ t = same_Some j t (sym goes ∙ ap (λ q. slice_get q p) same ∙ ap (slice_get row) f ∙ target) in inr (inr (ap suc place ∙ is_top, hit)))
      (λ f. let high : suc l ≤ p = omega (arith, e.1, low, f) in
      let is_left' : slice_get left k ≡ Some (suc l) = ap (slice_get left) e.0 ∙ some_left in
      ⊎_elim (λ done. inl done) (λ rest. ⊎_elim (λ next. inr (inl next)) (λ last. absurd last.1) rest) (looks a k (suc l) p j r at is_left' high has_row goes))
      (cases_eq p l))
      (λ e. ⊎_elim (λ done. inl done) (λ rest. ⊎_elim (λ next. inr (inl next)) (λ last. absurd last.1) rest) (looks a k m p j r at e.1 low has_row goes))
      (get_of_set left i k l m inside is_left)

-- a next entry that is done is nothing to go to
pub looked_done : (graph : List (List ℕ)) (marks : List Mark) (left stack : List ℕ) (t : ℕ) → slice_get marks t ≡ Some Done → Looked graph marks left stack (λ j. j ≡ t) → Looked graph marks left stack (λ j. ⊥)
looked_done graph marks left stack t done looks a i l k j row at is_left low is_row target = ⊎_elim (λ d. inl d)
    (λ rest. ⊎_elim (λ next. inr (inl next)) (λ last. inl (ap (slice_get marks) last.1 ∙ done)) rest)
    (looks a i l k j row at is_left low is_row target)

-- ---- the topmost node is done
module _ (graph : List (List ℕ)) (marks : List Mark) (left below order : List ℕ) (i : ℕ)
    (was : Marked graph marks (below ++ i ∷ []) order) (counts : Counted graph marks left) (looks : Looked graph marks left (below ++ i ∷ []) (λ j. ⊥))
    (none_left : slice_get left i ≡ Some 0) where
  was_open : slice_get marks i ≡ Some Opened
  was_open = was.opened (length below) i (get_last below i)

  within : i < length marks
  within = get_below marks i Opened was_open

  not_below : (a : ℕ) → slice_get below a ≡ Some i → ⊥
  not_below a h =
      let e = was.apart a (length below) i (get_left below (i ∷ []) a i h) (get_last below i) in
      let low = get_below below a i h in omega (arith, e, low)

  not_ordered : (a : ℕ) → slice_get order a ≡ Some i → ⊥
  not_ordered a h = opened_not_done (same_Some Opened Done (sym was_open ∙ was.ordered a i h))

  -- the nodes that the closed one leads to are done
  leads_to_done : (j : ℕ) → Leads graph i j → slice_get marks j ≡ Some Done
  leads_to_done j h = ⊎_elim (λ d. d)
      (λ rest. ⊎_elim (λ next. let low = get_below (below ++ i ∷ []) (suc (length below)) j next in absurd (omega (arith, low, length_pushed below i))) (λ last. absurd last.1) rest)
      (looks (length below) i 0 h.1 j h.0 (get_last below i) none_left (omega arith) h.2 h.3)
    where
      length_pushed : (xs : List ℕ) (x : ℕ) → length (xs ++ x ∷ []) ≡ length xs + 1
      length_pushed [] x = refl
      length_pushed (y ∷ ys) x = let e = length_pushed ys x in omega (arith, e)

  pub marked_close : Marked graph (set marks i Done) below (order ++ i ∷ [])
  marked_close = record {
    count = length-set marks i Done ∙ was.count;
    ordered = λ a j h. ⊎_elim (λ g. kept marks i j Opened Done Done was_open (was.ordered a j g) opened_not_done) (λ e. subst (λ k. slice_get (set marks i Done) k ≡ Some Done) e.1 (get_set_same marks i Done within)) (get_pushed order i j a h);
    placed = λ j h. ⊎_elim (λ e. (length order, get_last order i ∙ ap Some (sym e.0))) (λ e. let old = was.placed j e.1 in (old.0, get_left order (i ∷ []) old.0 j old.1)) (get_of_set marks i j Done Done within h);
    once = λ a b j h g. ⊎_elim
        (λ h'. ⊎_elim (λ g'. was.once a b j h' g') (λ f. absurd (not_ordered a (h' ∙ ap Some (sym f.1)))) (get_pushed order i j b g))
        (λ e. ⊎_elim (λ g'. absurd (not_ordered b (g' ∙ ap Some (sym e.1)))) (λ f. e.0 ∙ sym f.0) (get_pushed order i j b g))
        (get_pushed order i j a h);
    after = λ a j k h leads. ⊎_elim
        (λ h'. let old = was.after a j k h' leads in (old.0, old.1, get_left order (i ∷ []) old.0 k old.2))
        (λ e. let place = was.placed k (leads_to_done k (subst (λ x. Leads graph x k) (sym e.1) leads)) in
        let low = get_below order place.0 k place.1 in (place.0, omega (arith, e.0, low), get_left order (i ∷ []) place.0 k place.1))
        (get_pushed order i j a h);
    opened = λ a j h. get_set_other marks i j Done (λ e. not_below a (h ∙ ap Some e)) ∙ was.opened a j (get_left below (i ∷ []) a j h);
    stacked = λ j h.
        let old = before marks i j Done Opened within h done_not_opened in
        let place = was.stacked j old in
        ⊎_elim (λ g. (place.0, g)) (λ e. absurd (done_not_opened (same_Some Done Opened (sym (get_set_same marks i Done within) ∙ ap (slice_get (set marks i Done)) e.1 ∙ h)))) (get_pushed below i j place.0 place.1);
    apart = λ a b j h g. was.apart a b j (get_left below (i ∷ []) a j h) (get_left below (i ∷ []) b j g);
    path = λ a j k h g. was.path a j k (get_left below (i ∷ []) a j h) (get_left below (i ∷ []) (suc a) k g);
  }

  pub counted_close : Counted graph (set marks i Done) left
  counted_close = record {
    count = counts.count;
    room = counts.room;
    fresh = λ j row h. counts.fresh j row (before marks i j Done New within h done_not_new);
  }

  pub looked_close : Looked graph (set marks i Done) left below (λ j. ⊥)
  looked_close a j l k t row at is_left low is_row target = ⊎_elim
      (λ done. inl (kept marks i t Opened Done Done was_open done opened_not_done))
      (λ rest. ⊎_elim
      (λ next. ⊎_elim (λ g. inr (inl g)) (λ e. inl (subst (λ x. slice_get (set marks i Done) x ≡ Some Done) e.1 (get_set_same marks i Done within))) (get_pushed below i t (suc a) next))
      (λ last. absurd last.1) rest)
      (looks a j l k t row (get_left below (i ∷ []) a j at) is_left low is_row target)

-- ---- the beginning and the end
get_same : {X : Type 0} (n : ℕ) (x y : X) (k : ℕ) → slice_get (replicate n x) k ≡ Some y → y ≡ x
get_same zero x y k h = absurd (cc)
get_same (suc n) x y zero h = sym (same_Some x y h)
get_same (suc n) x y (suc k) h = get_same n x y k h

pub begin : (graph : List (List ℕ)) (marks : List Mark) (left : List ℕ) → marks ≡ replicate (length graph) New → left ≡ map length graph → Searching graph marks left [] []
begin graph marks left all_new all_left = record {
  marked = record {
    count = ap length all_new ∙ length-replicate (length graph) New;
    ordered = λ a i h. absurd (cc);
    placed = λ i h. absurd (new_not_done (sym (is_new i Done h)));
    once = λ a b i h g. absurd (cc);
    after = λ a i j h leads. absurd (cc);
    opened = λ a i h. absurd (cc);
    stacked = λ i h. absurd (new_not_opened (sym (is_new i Opened h)));
    apart = λ a b i h g. absurd (cc);
    path = λ a i j h g. absurd (cc);
  };
  counted = record {
    count = ap length all_left ∙ length-map graph (λ (row : List ℕ). length row);
    room = λ i l row h g. let e : l ≡ length row = same_Some l (length row) (sym h ∙ full i row g) in omega (arith, e);
    fresh = λ i row h g. full i row g;
  };
  looked = λ a i l k j row at. absurd (cc);
}
  where
    is_new : (i : ℕ) (m : Mark) → slice_get marks i ≡ Some m → m ≡ New
    is_new i m h = get_same (length graph) New m i (ap (λ ms. slice_get ms i) (sym all_new) ∙ h)

    full : (i : ℕ) (row : List ℕ) → slice_get graph i ≡ Some row → slice_get left i ≡ Some (length row)
    full i row g = ap (λ ls. slice_get ls i) all_left ∙ map_get length graph i row g

pub finished : (graph : List (List ℕ)) (marks : List Mark) (left stack order : List ℕ) → Searching graph marks left stack order → stack ≡ [] → ((i : ℕ) → i < length graph → slice_get marks i ≡ Some New → ⊥) → IsOrder graph order
finished graph marks left stack order s empty none_new = record {
  within = λ a i h. let low = get_below marks i Done (s.marked.ordered a i h) in let e = s.marked.count in omega (arith, low, e);
  every = λ i h. let e = s.marked.count in let m = get_within marks i (omega (arith, h, e)) in by_mark i m.0 h m.1;
  once = s.marked.once;
  after = λ a b i j h g leads. let old = s.marked.after a i j h leads in let same = s.marked.once b old.0 j g old.2 in omega (arith, old.1, same);
}
  where
    by_mark : (i : ℕ) (m : Mark) → i < length graph → slice_get marks i ≡ Some m → (a : ℕ) × (slice_get order a ≡ Some i)
    by_mark i New h e = absurd (none_new i h e)
    by_mark i Opened h e = let place = s.marked.stacked i e in let f : slice_get [] place.0 ≡ Some i = ap (λ xs. slice_get xs place.0) (sym empty) ∙ place.1 in absurd (cc)
    by_mark i Done h e = s.marked.placed i e

get_drop : {X : Type 0} (xs : List X) (p a : ℕ) → slice_get (drop p xs) a ≡ slice_get xs (p + a)
get_drop xs zero a = let e : a ≡ 0 + a = omega arith in ap (slice_get xs) e
get_drop [] (suc p) a = refl
get_drop (x ∷ xs) (suc p) a = let e : suc (p + a) ≡ suc p + a = omega arith in get_drop xs p a ∙ ap (slice_get (x ∷ xs)) e

-- a target that is opened closes a ring
pub ring : (graph : List (List ℕ)) (marks : List Mark) (left stack order : List ℕ) (target p : ℕ) → Going graph marks left stack order target → slice_get stack p ≡ Some target → IsRing graph (drop p stack)
ring graph marks left stack order target p going at = record {
  some = let low = get_below stack p target at in omega (arith, low, length-drop p stack);
  next = λ a i j h g. let e : p + suc a ≡ suc (p + a) = omega arith in going.marked.path (p + a) i j (sym (get_drop stack p a) ∙ h) (sym (ap (slice_get stack) e) ∙ sym (get_drop stack p (suc a)) ∙ g);
  round = λ a i j last h g.
      let low = get_below stack p target at in
      let e : suc (p + a) ≡ length stack = omega (arith, last, low, length-drop p stack) in
      let zero_place : p + 0 ≡ p = omega arith in
      let same : target ≡ j = same_Some target j (sym at ∙ ap (slice_get stack) (sym zero_place) ∙ sym (get_drop stack p 0) ∙ g) in
      subst (Leads graph i) same (going.leads (p + a) i (sym (get_drop stack p a) ∙ h) e);
}

-- ---- the steps as a whole
pub open_target : (graph : List (List ℕ)) (marks : List Mark) (left stack order : List ℕ) (t : ℕ) → Going graph marks left stack order t → slice_get marks t ≡ Some New → Searching graph (set marks t Opened) left (stack ++ t ∷ []) order
open_target graph marks left stack order t going new = record {
  marked = marked_open graph marks stack order t going.marked new going.leads;
  counted = counted_open graph marks stack order t going.marked new going.leads left going.counted;
  looked = looked_open graph marks stack order t going.marked new going.leads left going.counted going.looked;
}

pub open_start : (graph : List (List ℕ)) (marks : List Mark) (left stack order : List ℕ) (t : ℕ) → Searching graph marks left stack order → stack ≡ [] → slice_get marks t ≡ Some New → Searching graph (set marks t Opened) left (stack ++ t ∷ []) order
open_start graph marks left stack order t s empty new = record {
  marked = marked_open graph marks stack order t s.marked new nobody;
  counted = counted_open graph marks stack order t s.marked new nobody left s.counted;
  looked = looked_open graph marks stack order t s.marked new nobody left s.counted (λ a i l k j row at. absurd (none a i at));
}
  where
    none : (a i : ℕ) → slice_get stack a ≡ Some i → ⊥
    none a i h = let f : slice_get [] a ≡ Some i = ap (λ xs. slice_get xs a) (sym empty) ∙ h in cc

    nobody : (a i : ℕ) → slice_get stack a ≡ Some i → suc a ≡ length stack → Leads graph i t
    nobody a i h e = absurd (none a i h)

pub pass_target : (graph : List (List ℕ)) (marks : List Mark) (left stack order : List ℕ) (t : ℕ) → Going graph marks left stack order t → slice_get marks t ≡ Some Done → Searching graph marks left stack order
pass_target graph marks left stack order t going done = record { marked = going.marked; counted = going.counted; looked = looked_done graph marks left stack t done going.looked }

pub close_top : (graph : List (List ℕ)) (marks : List Mark) (left below order : List ℕ) (i : ℕ) → Searching graph marks left (below ++ i ∷ []) order → slice_get left i ≡ Some 0 → Searching graph (set marks i Done) left below (order ++ i ∷ [])
close_top graph marks left below order i s none_left = record {
  marked = marked_close graph marks left below order i s.marked s.counted s.looked none_left;
  counted = counted_close graph marks left below order i s.marked s.counted s.looked none_left;
  looked = looked_close graph marks left below order i s.marked s.counted s.looked none_left;
}

pub take_target : (graph : List (List ℕ)) (marks : List Mark) (left below order : List ℕ) (i l t : ℕ) (row : List ℕ) → IsClosed graph → Searching graph marks left (below ++ i ∷ []) order
    → slice_get left i ≡ Some (suc l) → slice_get graph i ≡ Some row → slice_get row l ≡ Some t → Going graph marks (set left i l) (below ++ i ∷ []) order t
take_target graph marks left below order i l t row closed s some_left is_row target = record {
  marked = s.marked;
  counted = counted_less graph marks left stack order top i l t row s.marked s.counted at_top is_top some_left is_row;
  looked = looked_next graph marks left stack order top i l t row s.marked s.counted at_top is_top some_left is_row target s.looked;
  leads = λ a j h e. let place : a ≡ top = omega (arith, e, is_top) in
      let same : i ≡ j = same_Some i j (sym at_top ∙ ap (slice_get stack) (sym place) ∙ h) in
      subst (λ x. Leads graph x t) same (row, l, is_row, target);
  some = omega (arith, is_top);
  within = closed i t (row, l, is_row, target);
}
  where
    stack : List ℕ
    stack = below ++ i ∷ []

    top : ℕ
    top = length below

    at_top : slice_get (below ++ i ∷ []) (length below) ≡ Some i
    at_top = get_last below i

    is_top : suc (length below) ≡ length (below ++ i ∷ [])
    is_top = let e = length-append below (i ∷ []) in omega (arith, e)

-- ---- the same facts over equal lists
pub same_search : (graph : List (List ℕ)) (marks marks' : List Mark) (left left' stack stack' order order' : List ℕ) → marks' ≡ marks → left' ≡ left → stack' ≡ stack → order' ≡ order → Searching graph marks left stack order → Searching graph marks' left' stack' order'
same_search graph marks marks' left left' stack stack' order order' m l s o h =
    subst (λ x. Searching graph x left' stack' order') (sym m) (subst (λ x. Searching graph marks x stack' order') (sym l) (subst (λ x. Searching graph marks left x order') (sym s) (subst (λ x. Searching graph marks left stack x) (sym o) h)))

pub top_marked : (graph : List (List ℕ)) (marks : List Mark) (left below order : List ℕ) (i : ℕ) → Searching graph marks left (below ++ i ∷ []) order → i < length marks
top_marked graph marks left below order i s = get_below marks i Opened (s.marked.opened (length below) i (get_last below i))

pub top_left : (graph : List (List ℕ)) (marks : List Mark) (left below order : List ℕ) (i : ℕ) → Searching graph marks left (below ++ i ∷ []) order → i < length left
top_left graph marks left below order i s =
    let low = top_marked graph marks left below order i s in
    let m = s.marked.count in let l = s.counted.count in omega (arith, low, m, l)

pub top_graph : (graph : List (List ℕ)) (marks : List Mark) (left below order : List ℕ) (i : ℕ) → Searching graph marks left (below ++ i ∷ []) order → i < length graph
top_graph graph marks left below order i s =
    let low = top_marked graph marks left below order i s in
    let m = s.marked.count in omega (arith, low, m)

-- no node becomes new where another mark is set
pub none_new_set : (marks : List Mark) (t : ℕ) (m : Mark) → t < length marks → (m ≡ New → ⊥) → NoneNew marks (set marks t m)
none_new_set marks t m within other i h = before marks t i m New within h other

pub none_new_opened : (marks : List Mark) (t : ℕ) → t < length marks → NoneNew marks (set marks t Opened)
none_new_opened marks t within = none_new_set marks t Opened within opened_not_new

pub none_new_done : (marks : List Mark) (t : ℕ) → t < length marks → NoneNew marks (set marks t Done)
none_new_done marks t within = none_new_set marks t Done within done_not_new

-- the entry that is looked at next
pub enough : (graph : List (List ℕ)) (marks : List Mark) (left below order : List ℕ) (i n : ℕ) (row items : List ℕ) → Searching graph marks left (below ++ i ∷ []) order → slice_get left i ≡ Some n → (n ≡ 0 → ⊥) → slice_get graph i ≡ Some row → items ≡ row → n - 1 < length items
enough graph marks left below order i n row items s left_at some is_row same =
    let room = s.counted.room i n row left_at is_row in
    let e : length items ≡ length row = ap length same in
    ⊎_elim (λ z. absurd (some z)) (λ z. omega (arith, room, e, z)) (cases_zero n)
  where
    cases_zero : (n : ℕ) → (n ≡ 0) ⊎ (0 < n)
    cases_zero zero = inl refl
    cases_zero (suc n) = inr (omega arith)

pub take_step : (graph : List (List ℕ)) (marks : List Mark) (left below pushed order : List ℕ) (i n : ℕ) (row items : List ℕ) → IsClosed graph → Searching graph marks left (below ++ i ∷ []) order → pushed ≡ below ++ i ∷ []
    → slice_get left i ≡ Some n → (n ≡ 0 → ⊥) → slice_get graph i ≡ Some row → items ≡ row → Going graph marks (set left i (n - 1)) pushed order (get_or items (n - 1) 0)
take_step graph marks left below pushed order i zero row items closed s same left_at some is_row rows = absurd (some refl)
take_step graph marks left below pushed order i (suc l) row items closed s same left_at some is_row rows =
    let less : suc l - 1 ≡ l = omega arith in
    let low : l < length items = let e = enough graph marks left below order i (suc l) row items s left_at some is_row rows in omega (arith, e, less) in
    let target : slice_get row l ≡ Some (get_or items l 0) = sym (ap (λ xs. slice_get xs l) rows) ∙ slice_get-get_or items l 0 low in
    subst (λ k. Going graph marks (set left i k) pushed order (get_or items k 0)) (sym less)
    (subst (λ xs. Going graph marks (set left i l) xs order (get_or items l 0)) (sym same)
    (take_target graph marks left below order i l (get_or items l 0) row closed s left_at is_row target))

-- one entry less is left
pub sum_less : (left : List ℕ) (i n : ℕ) → slice_get left i ≡ Some n → (n ≡ 0 → ⊥) → sum (set left i (n - 1)) + 1 ≡ sum left
sum_less left i n h some =
    let within = get_below left i n h in
    let here : get_or left i 0 ≡ n = get_or_from_slice_get left i n 0 h in
    let e : sum (set left i (n - 1)) + get_or left i 0 ≡ sum left + (n - 1) = sum_by-set (λ (x : ℕ). x) left i (n - 1) 0 within in
    ⊎_elim (λ z. absurd (some z)) (λ z. omega (arith, e, here, z)) (cases_zero n)
  where
    cases_zero : (n : ℕ) → (n ≡ 0) ⊎ (0 < n)
    cases_zero zero = inl refl
    cases_zero (suc n) = inr (omega arith)

-- one node more that is not new
pub none_new_more : (old opened now : List Mark) (start : ℕ) → start < length old → opened ≡ set old start Opened → NoneNew opened now → ((i : ℕ) → i < start → slice_get old i ≡ Some New → ⊥) → (i : ℕ) → i < start + 1 → slice_get now i ≡ Some New → ⊥
none_new_more old opened now start within is_opened none_new low i h new =
    let g : slice_get (set old start Opened) i ≡ Some New = sym (ap (λ ms. slice_get ms i) is_opened) ∙ none_new i new in
    ⊎_elim (λ e. opened_not_new e.1) (λ e. low i (omega (arith, h, e.0)) e.1) (get_of_set old start i Opened New within g)

pub not_new_more : (marks : List Mark) (start : ℕ) (m : Mark) → slice_get marks start ≡ Some m → (m ≡ New → ⊥) → ((i : ℕ) → i < start → slice_get marks i ≡ Some New → ⊥) → (i : ℕ) → i < start + 1 → slice_get marks i ≡ Some New → ⊥
not_new_more marks start m at other low i h new =
    ⊎_elim (λ e. other (same_Some m New (sym at ∙ ap (slice_get marks) (sym e) ∙ new))) (λ e. low i (omega (arith, h, e)) new) (cases_eq i start)
