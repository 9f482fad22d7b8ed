-- Drivers counted.
use Rattle.std.proofs.Common.{◌≡◌, inl, inr, ℕ, zero, suc, ◌+◌, ◌<◌, ◌≤◌, ◌||◌, Bool, true, false, cond, List, [], ◌∷◌, ◌++◌, length, get_or, replicate, Option, Some, None, refl, sym, ap, ◌∙◌, subst, arith, append_assoc, append-nil}
use Rattle.std.specs.Prelude.{slice_get, min, nat_lt, ◌==◌}
use Rattle.std.specs.List.{list_any, range_with_len}
use Rattle.std.proofs.lemmas.List.{length-set, length-replicate}
use Rattle.std.proofs.lemmas.List.Sums.{sum_by-append}
use Rattle.std.proofs.lemmas.Bool.{cases_eq, eq-eqb}
use Rattle.std.proofs.lemmas.Option.{get_or_from_slice_get}
use Rattle.net_wires.specs.declared.breach.BuildCode.TheVariants as code
use Rattle.net_wires.specs.declared.breach.Stop.{Stop}
use Rattle.net_wires.specs.declared.breach.Stop.TheVariants as stop
use Rattle.net_wires.specs.declared.driving.Drivers.{Drivers}
use Rattle.net_wires.specs.declared.source.Source.{Source}
use Rattle.net_wires.specs.declared.source.Source.TheVariants as source
use Rattle.net_wires.specs.Counting.{bump, bump_all, IsFirstAboveOne}
use Rattle.net_wires.specs.Drivers.{driver_breaches, driver_count, has_conflict, IsFirstDouble, is_constant, is_doubly_driven, is_place, Tally}
use Rattle.net_wires.specs.Finds.{breach, Stops}
use Rattle.net_wires.proofs.Places.{set_same, set_other}

or_assoc : (a b c : Bool) → a || (b || c) ≡ (a || b) || c
or_assoc true b c = refl
or_assoc false b c = refl

or_true : (a : Bool) → a || true ≡ true
or_true true = refl
or_true false = refl

abbrev one_if : Bool → ℕ
one_if true = 1
one_if false = 0

one_is : (b : Bool) → 0 + cond b 1 0 ≡ one_if b
one_is true = omega arith
one_is false = omega arith

pub count_more : (p : ℕ) (ds : List Source) (s : Source) → driver_count (ds ++ s ∷ []) p ≡ driver_count ds p + one_if (is_place p s)
count_more p ds s = sum_by-append (λ x. cond (is_place p x) 1 0) ds (s ∷ []) ∙ ap (λ n. driver_count ds p + n) (one_is (is_place p s))

length_bump : (t : List ℕ) (s : Source) → length (bump t s) ≡ length t
length_bump t source.Zero = refl
length_bump t source.One = refl
length_bump t source.Loose = refl
length_bump t (source.At l) = length-set t l _

up : (c : ℕ) → cond (nat_lt (min 2 c) 2) (min 2 c + 1) (min 2 c) ≡ min 2 (c + 1)
up c = grind arith

differ : (l p : ℕ) → (p ≡ l → ⊥) → (l == p) ≡ false
differ l p ne = grind (arith, ne)

bumped : (t : List ℕ) (s : Source) (p c : ℕ) → slice_get t p ≡ Some (min 2 c) → slice_get (bump t s) p ≡ Some (min 2 (c + one_if (is_place p s)))
bumped t source.Zero p c h = h ∙ ap (λ n. Some (min 2 n)) (omega arith)
bumped t source.One p c h = h ∙ ap (λ n. Some (min 2 n)) (omega arith)
bumped t source.Loose p c h = h ∙ ap (λ n. Some (min 2 n)) (omega arith)
bumped t (source.At l) p c h =
    elim (cases_eq p l) [
      | inl e ↦
          let at_l : slice_get t l ≡ Some (min 2 c) = ap (slice_get t) (sym e) ∙ h in
          let was : get_or t l 2 ≡ min 2 c = get_or_from_slice_get t l (min 2 c) 2 at_l in
          let hit : (l == p) ≡ true = eq-eqb l p (sym e) in
          ap (slice_get (bump t (source.At l))) e ∙ set_same t l (min 2 c) _ at_l
          ∙ ap Some (ap (λ n. cond (nat_lt n 2) (n + 1) n) was ∙ up c ∙ ap (λ (b : Bool). min 2 (c + one_if b)) (sym hit))
      | inr ne ↦
          let miss : (l == p) ≡ false = differ l p ne in
          let plus : c ≡ c + 0 = omega arith in
          set_other t l p _ ne ∙ h ∙ ap (λ n. Some (min 2 n)) (plus ∙ ap (λ (b : Bool). c + one_if b) (sym miss))
    ]

-- counts of what was driven so far
abbrev Counted : ℕ → List Source → List ℕ → Type 0
Counted n ds t = (length t ≡ n) × ((p : ℕ) → p < n → slice_get t p ≡ Some (min 2 (driver_count ds p)))

counted_more : (n : ℕ) (ds : List Source) (s : Source) (t : List ℕ) → Counted n ds t → Counted n (ds ++ s ∷ []) (bump t s)
counted_more n ds s t y = (length_bump t s ∙ y.0, λ p h. bumped t s p (driver_count ds p) (y.1 p h) ∙ ap (λ c. Some (min 2 c)) (sym (count_more p ds s)))

counted_from : (n : ℕ) (before ds : List Source) (t : List ℕ) → Counted n before t → Counted n (before ++ ds) (bump_all t ds)
counted_from n before [] t y = subst (λ (xs : List Source). Counted n xs t) (sym (append-nil before)) y
counted_from n before (s ∷ ds) t y = subst (λ (xs : List Source). Counted n xs (bump_all (bump t s) ds)) (append_assoc before (s ∷ []) ds) (counted_from n (before ++ s ∷ []) ds (bump t s) (counted_more n before s t y))

zeros : (n p : ℕ) → p < n → slice_get {X = ℕ} (replicate n 0) p ≡ Some 0
zeros zero p h = absurd (omega (arith, h))
zeros (suc n) zero h = refl
zeros (suc n) (suc p) h = zeros n p (omega (arith, h))

any_append : (xs ys : List Source) → list_any is_constant (xs ++ ys) ≡ list_any is_constant xs || list_any is_constant ys
any_append [] ys = refl
any_append (x ∷ xs) ys = ap (λ (b : Bool). is_constant x || b) (any_append xs ys) ∙ or_assoc (is_constant x) (list_any is_constant xs) (list_any is_constant ys)

pub none_tally : (n : ℕ) (t : Drivers) → t.counts.items ≡ replicate n 0 → t.constant ≡ false → Tally n [] t
none_tally n t e f = record { long = ap length e ∙ length-replicate n 0; at = λ p h. ap (λ (xs : List ℕ). slice_get xs p) e ∙ zeros n p h; constant = f }

pub drive_tally : (n : ℕ) (driven new : List Source) (t u : Drivers) → u.counts.items ≡ bump_all t.counts.items new → u.constant ≡ t.constant || list_any is_constant new → Tally n driven t → Tally n (driven ++ new) u
drive_tally n driven new t u e f y =
    let c = counted_from n driven new t.counts.items (y.long, y.at) in
    record {
      long = ap length e ∙ c.0;
      at = λ p h. ap (λ (xs : List ℕ). slice_get xs p) e ∙ c.1 p h;
      constant = f ∙ ap (λ (b : Bool). b || list_any is_constant new) y.constant ∙ sym (any_append driven new);
    }

-- ---- the first double

two : (c : ℕ) → 1 < c → nat_lt 1 c ≡ true
two c h = grind (arith, h)

not_two : (c : ℕ) → c ≤ 1 → nat_lt 1 c ≡ false
not_two c h = grind (arith, h)

few : (c : ℕ) → min 2 c ≤ 1 → c ≤ 1
few c h = grind (arith, h)

many : (c : ℕ) → 1 < min 2 c → 1 < c
many c h = grind (arith, h)

pub first_is : (n : ℕ) (driven : List Source) (t : Drivers) (r : Option ℕ) → Tally n driven t → IsFirstAboveOne t.counts.items r → IsFirstDouble n driven r
first_is n driven t None y f = λ p h. not_two (driver_count driven p) (few (driver_count driven p) (f p (min 2 (driver_count driven p)) (y.at p h)))
first_is n driven t (Some i) y f =
    let h : i < n = omega (arith, f.0, y.long) in (
      h,
      two (driver_count driven i) (many (driver_count driven i) (f.1 (min 2 (driver_count driven i)) (y.at i h))),
      λ p lt. not_two (driver_count driven p) (few (driver_count driven p) (f.2 p (min 2 (driver_count driven p)) lt (y.at p (omega (arith, lt, h))))),
    )

-- ---- conflicts

any_at : (test : ℕ → Bool) (a n i : ℕ) → i < n → test (a + i) ≡ true → list_any test (range_with_len a n) ≡ true
any_at test a zero i h e = absurd (omega (arith, h))
any_at test a (suc n) zero h e = let z : a + 0 ≡ a = omega arith in ap (λ (b : Bool). b || list_any test (range_with_len (a + 1) n)) (ap test (sym z) ∙ e)
any_at test a (suc n) (suc i) h e =
    let z : a + 1 + i ≡ a + suc i = omega arith in
    ap (λ (b : Bool). test a || b) (any_at test (a + 1) n i (omega (arith, h)) (ap test z ∙ e)) ∙ or_true (test a)

any_none : (test : ℕ → Bool) (a n : ℕ) → ((i : ℕ) → i < n → test (a + i) ≡ false) → list_any test (range_with_len a n) ≡ false
any_none test a zero f = refl
any_none test a (suc n) f =
    let z : a ≡ a + 0 = omega arith in
    ap (λ (b : Bool). b || list_any test (range_with_len (a + 1) n)) (ap test z ∙ f 0 (omega arith))
    ∙ any_none test (a + 1) n (λ i h. let e : a + 1 + i ≡ a + suc i = omega arith in ap test e ∙ f (suc i) (omega (arith, h)))

pub conflict_stops : (n : ℕ) (driven : List Source) → has_conflict n driven ≡ true → (s : Stop) → s ≡ stop.Broken (breach code.TwoDrivers) → Stops s (driver_breaches n driven)
conflict_stops n driven h s e = subst (λ (x : Stop). Stops x (driver_breaches n driven)) (sym e) ([], ap (λ (b : Bool). cond b (breach code.TwoDrivers ∷ []) []) h)

pub constant_conflict : (n : ℕ) (driven : List Source) (t : Drivers) → Tally n driven t → t.constant ≡ true → has_conflict n driven ≡ true
constant_conflict n driven t y h = ap (λ (b : Bool). list_any (is_doubly_driven driven) (range_with_len 0 n) || b) (sym y.constant ∙ h) ∙ or_true (list_any (is_doubly_driven driven) (range_with_len 0 n))

pub double_conflict : (n : ℕ) (driven : List Source) (i : ℕ) → IsFirstDouble n driven (Some i) → has_conflict n driven ≡ true
double_conflict n driven i f = ap (λ (b : Bool). b || list_any is_constant driven) (any_at (is_doubly_driven driven) 0 n i f.0 (let z : 0 + i ≡ i = omega arith in ap (is_doubly_driven driven) z ∙ f.1))

pub no_conflict : (n : ℕ) (driven : List Source) (t : Drivers) → Tally n driven t → t.constant ≡ false → IsFirstDouble n driven None → driver_breaches n driven ≡ []
no_conflict n driven t y h f =
    let none : list_any (is_doubly_driven driven) (range_with_len 0 n) ≡ false = any_none (is_doubly_driven driven) 0 n (λ i lt. let z : 0 + i ≡ i = omega arith in ap (is_doubly_driven driven) z ∙ f i lt) in
    ap (λ (b : Bool). cond b (breach code.TwoDrivers ∷ []) []) (ap (λ (b : Bool). b || list_any is_constant driven) none ∙ sym y.constant ∙ h)
