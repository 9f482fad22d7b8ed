-- Tables that learn a renaming, place by place and part by part.
use Rattle.std.proofs.Common.{◌≡◌, ◌≢◌, ℕ, zero, suc, ◌-◌, ◌<◌, Bool, true, false, ◌&&◌, List, [], ◌∷◌, ◌++◌, map, length, take, drop, get_or, Option, Some, refl, sym, ap, ◌∙◌, subst, ⊎_elim, arith}
use Rattle.std.proofs.lemmas.Bool.{cases_eq}
use Rattle.std.proofs.lemmas.List.{length-set}
use Rattle.std.proofs.lemmas.Option.{same_Some}
use Rattle.std.proofs.Math.Seq.{take-length}
use Rattle.std.specs.Prelude.{slice_get, slice_set}
use Rattle.std.specs.List.{AllByRecursion, flat_map}
use Rattle.net_core.specs.declared.bits.Clock.{Clock}
use Rattle.net_core.specs.Renaming.{IsTold, renamed_clock, renamed_read_clock}
use Rattle.net_same.specs.declared.tables.Tables.{Tables}
use Rattle.net_same.specs.Own.{AreBelow, clock_nets, read_clock_nets}
use Rattle.net_same.specs.Learning.{IsMet, AreMet, IsRight, Learns, Step, Teaches}

-- ---- what holds of each net
pub split : (P : ℕ → Type 0) (xs ys : List ℕ) → AllByRecursion P (xs ++ ys) → AllByRecursion P xs × AllByRecursion P ys
split P [] ys h = (tt, h)
split P (x ∷ xs) ys h = let r = split P xs ys h.1 in ((h.0, r.0), r.1)

pub joined : (P : ℕ → Type 0) (xs ys : List ℕ) → AllByRecursion P xs → AllByRecursion P ys → AllByRecursion P (xs ++ ys)
joined P [] ys h k = k
joined P (x ∷ xs) ys h k = (h.0, joined P xs ys h.1 k)

each : (P Q : ℕ → Type 0) → ((n : ℕ) → P n → Q n) → (xs : List ℕ) → AllByRecursion P xs → AllByRecursion Q xs
each P Q follows [] h = tt
each P Q follows (x ∷ xs) h = (follows x h.0, each P Q follows xs h.1)

-- a list of nets mentions those that it holds
singles : (ns : List ℕ) → flat_map (λ n. n ∷ []) ns ≡ ns
singles [] = refl
singles (n ∷ ns) = ap (λ r. n ∷ r) (singles ns)

-- ---- places of tables
put : (xs : List ℕ) (i w : ℕ) → i < length xs → slice_get (slice_set xs i w) i ≡ Some w
put [] i w h = absurd (omega arith)
put (x ∷ xs) zero w h = refl
put (x ∷ xs) (suc i) w h = put xs i w (omega arith)

beside : (xs : List ℕ) (i j w : ℕ) → j ≢ i → slice_get (slice_set xs i w) j ≡ slice_get xs j
beside [] i j w h = refl
beside (x ∷ xs) zero zero w h = absurd (h refl)
beside (x ∷ xs) zero (suc j) w h = refl
beside (x ∷ xs) (suc i) zero w h = refl
beside (x ∷ xs) (suc i) (suc j) w h = beside xs i j w (λ e. h (ap suc e))

-- ---- steps
pub rests : (f : ℕ → ℕ) (news : List ℕ) (t : Tables) → Step f [] news t t
rests f news t = record { learns = λ below above. record { olds = refl; news = refl; right = λ r. r; kept = λ n m. m; met = tt } }

chained : (f : ℕ → ℕ) (xs ys xs2 ys2 : List ℕ) (t u v : Tables) → Step f xs ys t u → Step f xs2 ys2 u v → AreBelow (length t.forth.items) (xs ++ xs2) → AreBelow (length t.back.items) (ys ++ ys2) → Learns f (xs ++ xs2) t v
chained f xs ys xs2 ys2 t u v a b below above =
    let olds = split (λ n. n < length t.forth.items) xs xs2 below in
    let news = split (λ n. n < length t.back.items) ys ys2 above in
    let one = a.learns olds.0 news.0 in
    let two = b.learns (subst (λ k. AreBelow k xs2) (sym one.olds) olds.1) (subst (λ k. AreBelow k ys2) (sym one.news) news.1) in
    record {
      olds = two.olds ∙ one.olds;
      news = two.news ∙ one.news;
      right = λ r. two.right (one.right r);
      kept = λ n m. two.kept n (one.kept n m);
      met = joined (IsMet f v) xs xs2 (each (IsMet f u) (IsMet f v) two.kept xs one.met) two.met;
    }

-- one step after another
pub chain : {f : ℕ → ℕ} {xs ys xs2 ys2 : List ℕ} {t u v : Tables} → Step f xs ys t u → Step f xs2 ys2 u v → Step f (xs ++ xs2) (ys ++ ys2) t v
chain {f = f} {xs = xs} {ys = ys} {xs2 = xs2} {ys2 = ys2} {t = t} {u = u} {v = v} a b = record { learns = chained f xs ys xs2 ys2 t u v a b }

pub listed : {f : ℕ → ℕ} {t u : Tables} (ns ms : List ℕ) → Step f (flat_map (λ n. n ∷ []) ns) (flat_map (λ n. n ∷ []) ms) t u → Step f ns ms t u
listed {f = f} {t = t} {u = u} ns ms s = subst (λ l. Step f l ms t u) (singles ns) (subst (λ l. Step f (flat_map (λ n. n ∷ []) ns) l t u) (singles ms) s)

pub listed_met : (f : ℕ → ℕ) (t : Tables) (ns : List ℕ) → AreMet f t ns → AreMet f t (flat_map (λ n. n ∷ []) ns)
listed_met f t ns h = subst (AreMet f t) (sym (singles ns)) h

-- ---- one net
module _ (f g : ℕ → ℕ) (told : IsTold f g) (n : ℕ) (t u : Tables) (forth : u.forth.items ≡ slice_set t.forth.items n (f n)) (back : u.back.items ≡ slice_set t.back.items (f n) n) where
  new_met : n < length t.forth.items → f n < length t.back.items → IsMet f u n
  new_met within above = record {
    forth = ap (λ l. slice_get l n) forth ∙ put t.forth.items n (f n) within;
    back = ap (λ l. slice_get l (f n)) back ∙ put t.back.items (f n) n above;
  }

  apart : (m : ℕ) → m ≢ n → f m ≢ f n
  apart m other e = other (sym (told m) ∙ ap g e ∙ told n)

  still_met : (m : ℕ) → m ≢ n → IsMet f t m → IsMet f u m
  still_met m other h = record {
    forth = ap (λ l. slice_get l m) forth ∙ beside t.forth.items n m (f n) other ∙ h.forth;
    back = ap (λ l. slice_get l (f m)) back ∙ beside t.back.items (f n) (f m) n (apart m other) ∙ h.back;
  }

  kept_at : n < length t.forth.items → f n < length t.back.items → (m : ℕ) → IsMet f t m → IsMet f u m
  kept_at within above m h = ⊎_elim (λ (same : m ≡ n). subst (IsMet f u) (sym same) (new_met within above)) (λ (other : m ≢ n). still_met m other h) (cases_eq m n)

  back_count : length u.back.items ≡ length t.back.items
  back_count = ap length back ∙ length-set t.back.items (f n) n

  right_at : n < length t.forth.items → f n < length t.back.items → IsRight f t → (m x : ℕ) → slice_get u.forth.items m ≡ Some x → x < length u.back.items → IsMet f u m
  right_at within above r m x h lt =
      ⊎_elim
      (λ (same : m ≡ n). subst (IsMet f u) (sym same) (new_met within above))
      (λ (other : m ≢ n).
      let before : slice_get t.forth.items m ≡ Some x = sym (beside t.forth.items n m (f n) other) ∙ ap (λ l. slice_get l m) (sym forth) ∙ h in
      still_met m other (r.right m x before (subst (λ k. x < k) back_count lt)))
      (cases_eq m n)

  pub net_step : Step f (n ∷ []) (f n ∷ []) t u
  net_step = record {
    learns = λ below above. record {
      olds = ap length forth ∙ length-set t.forth.items n (f n);
      news = back_count;
      right = λ r. record { right = right_at below.0 above.0 r };
      kept = kept_at below.0 above.0;
      met = (new_met below.0 above.0, tt);
    };
  }

pub net_taught : (n x : ℕ) (t u : Tables) → u.forth.items ≡ slice_set t.forth.items n x → u.back.items ≡ slice_set t.back.items x n → Teaches (λ f k. f k) (λ k. k ∷ []) n x t u
net_taught n x t u forth back = record {
  step = λ f g told e.
      subst (λ y. Step f (n ∷ []) (y ∷ []) t u) (sym e)
      (net_step f g told n t u (forth ∙ ap (slice_set t.forth.items n) e) (back ∙ ap (λ y. slice_set t.back.items y n) e));
}

-- ---- parts
-- the same of equal parts
pub taught_at : {X : Type 0} (R : (ℕ → ℕ) → X → X) (N : X → List ℕ) (x x2 y y2 : X) (t u : Tables) → x2 ≡ x → y2 ≡ y → Teaches R N x2 y2 t u → Teaches R N x y t u
taught_at R N x x2 y y2 t u ex ey h = subst (λ a. Teaches R N a y t u) ex (subst (λ b. Teaches R N x2 b t u) ey h)

pub some_taught : (a b : Option Clock) (x y : Clock) (t u : Tables) → a ≡ Some x → b ≡ Some y → Teaches renamed_clock clock_nets x y t u → Teaches renamed_read_clock read_clock_nets a b t u
some_taught a b x y t u ea eb h = taught_at renamed_read_clock read_clock_nets a (Some x) b (Some y) t u (sym ea) (sym eb) (record { step = λ f g told e. h.step f g told (same_Some y (renamed_clock f x) e) })

rest_read : {X : Type 0} (x : X) (xs : List X) → take (length (x ∷ xs) - 1) (drop 1 (x ∷ xs)) ≡ xs
rest_read x xs = let e : suc (length xs) - 1 ≡ length xs = omega arith in ap (λ n. take n xs) e ∙ take-length xs

-- a list as it is read: its first item and the rest
pub whole_read : {X : Type 0} (xs : List X) (a : X) → 0 < length xs → a ≡ get_or xs 0 a → xs ≡ a ∷ take (length xs - 1) (drop 1 xs)
whole_read [] a m e = absurd (omega arith)
whole_read (x ∷ xs) a m e = ap (λ r. x ∷ r) (sym (rest_read x xs)) ∙ ap (λ h. h ∷ take (length (x ∷ xs) - 1) (drop 1 (x ∷ xs))) (sym e)

pub none_read : {X : Type 0} (xs : List X) → length xs < 1 → xs ≡ []
none_read [] m = refl
none_read (x ∷ xs) m = absurd (omega arith)

pub false_true : (b : Bool) → b ≡ false → b ≡ true → ⊥
false_true b e h = cc

-- both are so
pub both : {a b : Bool} → a ≡ true → b ≡ true → (a && b) ≡ true
both {a = true} e h = h
both {a = false} e h = absurd (cc)

-- ---- lists of parts
module _ {X : Type 0} (R : (ℕ → ℕ) → X → X) (N : X → List ℕ) where
  abbrev pub renamed_all : (ℕ → ℕ) → List X → List X
  renamed_all f xs = map (R f) xs

  abbrev pub all_nets : List X → List ℕ
  all_nets xs = flat_map N xs

  pub none_taught : (olds news : List X) (t : Tables) → olds ≡ [] → Teaches renamed_all all_nets olds news t t
  none_taught olds news t e = record { step = λ f g told same. subst (λ xs. Step f (all_nets xs) (all_nets news) t t) (sym e) (rests f (all_nets news) t) }

  pub few_taught : (a : X) (rest olds news : List X) (t : Tables) → olds ≡ a ∷ rest → news ≡ [] → Teaches renamed_all all_nets olds news t t
  few_taught a rest olds news t eo en = record {
    step = λ f g told same. let h : [] ≡ R f a ∷ map (R f) rest = sym en ∙ same ∙ ap (map (R f)) eo in absurd (cc);
  }

  more_taught : (a b : X) (xs ys : List X) (t u v : Tables) → Teaches R N a b t u → Teaches renamed_all all_nets xs ys u v → Teaches renamed_all all_nets (a ∷ xs) (b ∷ ys) t v
  more_taught a b xs ys t u v one rest = record {
    step = λ f g told e. chain (one.step f g told (ap (λ l. get_or l 0 b) e)) (rest.step f g told (ap (λ l. drop 1 l) e));
  }

  pub items_taught : (olds news xs ys : List X) (a b : X) (t u v : Tables) → olds ≡ a ∷ xs → news ≡ b ∷ ys → Teaches R N a b t u → Teaches renamed_all all_nets xs ys u v → Teaches renamed_all all_nets olds news t v
  items_taught olds news xs ys a b t u v eo en one rest = taught_at renamed_all all_nets olds (a ∷ xs) news (b ∷ ys) t v (sym eo) (sym en) (more_taught a b xs ys t u v one rest)

  -- what is met of the whole is met of its first part, and of the rest
  pub first_met : (f : ℕ → ℕ) (t : Tables) (olds xs : List X) (a : X) → olds ≡ a ∷ xs → AreMet f t (all_nets olds) → AreMet f t (N a) × AreMet f t (all_nets xs)
  first_met f t olds xs a e h = split (IsMet f t) (N a) (all_nets xs) (subst (λ l. AreMet f t (all_nets l)) e h)

  pub first_same : (f : ℕ → ℕ) (olds news xs ys : List X) (a b : X) → olds ≡ a ∷ xs → news ≡ b ∷ ys → news ≡ map (R f) olds → (b ≡ R f a) × (ys ≡ map (R f) xs)
  first_same f olds news xs ys a b eo en same =
      let e : b ∷ ys ≡ R f a ∷ map (R f) xs = sym en ∙ same ∙ ap (map (R f)) eo in
      (ap (λ l. get_or l 0 b) e, ap (λ l. drop 1 l) e)

  pub more_same : (f : ℕ → ℕ) (olds news xs ys : List X) (a b : X) → olds ≡ a ∷ xs → news ≡ b ∷ ys → b ≡ R f a → ys ≡ map (R f) xs → news ≡ map (R f) olds
  more_same f olds news xs ys a b eo en here rest = en ∙ ap (λ h. h ∷ ys) here ∙ ap (λ r. R f a ∷ r) rest ∙ ap (map (R f)) (sym eo)
