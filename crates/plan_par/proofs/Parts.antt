-- Parts of a list of jobs.
use Rattle.std.proofs.Common.{◌≡◌, ℕ, zero, suc, ◌+◌, ◌<◌, ◌≤◌, ◌^◌, Bool, true, ◌&&◌, List, [], ◌∷◌, ◌++◌, map, take, drop, length, get_or, refl, sym, ap, subst, add-one, ◌∙◌, arith}
use Rattle.std.specs.Prelude.{Some, slice_get}
use Rattle.std.specs.List.{list_all}
use Rattle.std.proofs.lemmas.Option.{slice_get_read, none-some}
use Rattle.lib_core.specs.declared.library.Library.{Library}
use Rattle.net_core.specs.declared.mems.MemJob.{MemJob}
use Rattle.net_core.specs.Valid.{Each}
use Rattle.fit_rules.specs.Judging.{library_within}
use Rattle.fit_rules.specs.Limits.{Limits}
use Rattle.fit_rules.proofs.Judged.{mem_limits, library_limits}
use Rattle.fit_rules.proofs.Lengths.{and_left, and_right}
use Rattle.plan_par.specs.Plans.{AreWithin, Part, job_within}

pub within_at : (jobs : List MemJob) (lib : Library) (k : ℕ) (job : MemJob) → AreWithin jobs lib → k < length jobs → job ≡ get_or jobs k job → Limits job lib
within_at jobs lib k job within h e = within.each k job (slice_get_read jobs (length jobs) k job refl h e)

front_at : {X : Type 0} (xs : List X) (n k : ℕ) (x : X) → slice_get (take n xs) k ≡ Some x → slice_get xs k ≡ Some x
front_at xs zero k x e = cc
front_at [] (suc n) k x e = e
front_at (y ∷ xs) (suc n) zero x e = e
front_at (y ∷ xs) (suc n) (suc k) x e = front_at xs n k x e

back_at : {X : Type 0} (xs : List X) (n k : ℕ) (x : X) → slice_get (drop n xs) k ≡ Some x → slice_get xs (k + n) ≡ Some x
back_at xs zero k x e =
    let z : k ≡ k + 0 = omega arith in
    subst (λ j. slice_get xs j ≡ Some x) z e
back_at [] (suc n) k x e = cc
back_at (y ∷ xs) (suc n) k x e =
    let z : suc (k + n) ≡ k + suc n = omega arith in
    subst (λ j. slice_get (y ∷ xs) j ≡ Some x) z (back_at xs n k x e)

within_front : (jobs : List MemJob) (lib : Library) (n : ℕ) → AreWithin jobs lib → AreWithin (take n jobs) lib
within_front jobs lib n within = record { each = λ k job e. within.each k job (front_at jobs n k job e) }

within_back : (jobs : List MemJob) (lib : Library) (n : ℕ) → AreWithin jobs lib → AreWithin (drop n jobs) lib
within_back jobs lib n within = record { each = λ k job e. within.each (k + n) job (back_at jobs n k job e) }

pub map_halves : {X Y : Type 0} (f : X → Y) (xs : List X) (n : ℕ) → map f (take n xs) ++ map f (drop n xs) ≡ map f xs
map_halves f xs zero = refl
map_halves f [] (suc n) = refl
map_halves f (x ∷ xs) (suc n) = ap (λ t. f x ∷ t) (map_halves f xs n)

map_take_suc : {X Y : Type 0} (f : X → Y) (xs : List X) (k : ℕ) (x : X) → k < length xs → x ≡ get_or xs k x → map f (take (suc k) xs) ≡ map f (take k xs) ++ f x ∷ []
map_take_suc f [] k x h e = absurd (omega (arith, h))
map_take_suc f (y ∷ xs) zero x h e = ap (λ z. f z ∷ []) (sym e)
map_take_suc f (y ∷ xs) (suc k) x h e = ap (λ t. f y ∷ t) (map_take_suc f xs k x (omega (arith, h)) e)

pub map_take_more : {X Y : Type 0} (f : X → Y) (xs : List X) (k : ℕ) (x : X) → k < length xs → x ≡ get_or xs k x → map f (take (k + 1) xs) ≡ map f (take k xs) ++ f x ∷ []
map_take_more f xs k x h e = ap (λ n. map f (take n xs)) (add-one k) ∙ map_take_suc f xs k x h e

pub part_front : (workers first n : ℕ) (jobs part : List MemJob) (lib : Library) → AreWithin jobs lib → part ≡ take n jobs → 1 ≤ workers → first + length part < 2 ^ 64 → Part workers first part lib
part_front workers first n jobs part lib within e h k = record { some = h; within = subst (λ p. AreWithin p lib) (sym e) (within_front jobs lib n within); room = k }

pub part_back : (workers first n : ℕ) (jobs part : List MemJob) (lib : Library) → AreWithin jobs lib → part ≡ drop n jobs → 1 ≤ workers → first + length part < 2 ^ 64 → Part workers first part lib
part_back workers first n jobs part lib within e h k = record { some = h; within = subst (λ p. AreWithin p lib) (sym e) (within_back jobs lib n within); room = k }

some_same : {X : Type 0} (x y : X) → Some x ≡ Some y → x ≡ y
some_same x y e = cc

-- the tests of the limits say that they hold
each_judged : {X : Type 0} (test : X → Bool) (P : X → Type 0) → ((x : X) → test x ≡ true → P x) → (xs : List X) → list_all test xs ≡ true → Each xs P
each_judged test P f [] e i x h = absurd (none-some x h)
each_judged test P f (y ∷ ys) e zero x h = subst P (some_same y x h) (f y (and_left (test y) (list_all test ys) e))
each_judged test P f (y ∷ ys) e (suc i) x h = each_judged test P f ys (and_right (test y) (list_all test ys) e) i x h

pub judged_within : (jobs : List MemJob) (lib : Library) → list_all job_within jobs && library_within lib ≡ true → AreWithin jobs lib
judged_within jobs lib e = record {
  each = each_judged job_within (λ job. Limits job lib)
      (λ job m. record { memory = mem_limits job.mem m; library = library_limits lib (and_right (list_all job_within jobs) (library_within lib) e) })
      jobs (and_left (list_all job_within jobs) (library_within lib) e);
}
