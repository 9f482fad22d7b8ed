-- Points never fall as a choice grows.
use Rattle.std.proofs.Common.{◌≡◌, ℕ, ◌+◌, ◌*◌, ◌≤◌, Bool, true, false, ◌||◌, cond, List, [], ◌∷◌, ◌++◌, refl, sym, subst, arith}
use Rattle.std.specs.Prelude.{Option, Some, None, slice_get}
use Rattle.std.specs.List.{sum_by}
use Rattle.std.proofs.Math.Nat.{mul-le-mul_right, mul-le-mul_left}
use Rattle.std.proofs.lemmas.Bool.{false≢true}
use Rattle.lib_core.specs.declared.library.Group.{Group}
use Rattle.lib_core.specs.declared.library.Variant.{Variant}
use Rattle.net_core.specs.declared.mems.Mem.{Mem}
use Rattle.net_core.specs.declared.mems.MemJob.{MemJob}
use Rattle.net_core.specs.declared.mems.WrPort.{WrPort}
use Rattle.geom_core.specs.declared.candidates.ReadPlace.{ReadPlace}
use Rattle.fit_pairs.specs.declared.pairs.Need.TheVariants as need
use Rattle.fit_pairs.specs.Items.{outside_parts}
use Rattle.fit_pairs.specs.Pairs.{bypasses, some_need, is_transparent}
use Rattle.fit_pairs.specs.Placed.{Reader, Writer, count_writes, writer_has}
use Rattle.fit_pairs.specs.Priorities.{emulated_over}
use Rattle.fit_rules.specs.declared.spots.Spot.{Spot}
use Rattle.fit_rules.specs.Standing.{placed_read}
use Rattle.fit_rules.specs.Shape.{rows, columns}
use Rattle.fit_rules.specs.Rules.{zip_any, needs_order, read_first}
use Rattle.fit_rules.proofs.Copies.{copies_rise}
use Rattle.fit_cost.specs.Points as points
use Rattle.fit_cost.specs.Points.{ram_points}

zip_sum_more : {A B : Type 0} (f : ℕ → A → B → ℕ) (n : ℕ) (xs : List A) (ys more : List B) → points.zip_sum f n xs ys ≤ points.zip_sum f n xs (ys ++ more)
zip_sum_more f n [] ys more = omega arith
zip_sum_more f n (x ∷ xs) [] more = omega arith
zip_sum_more f n (x ∷ xs) (y ∷ ys) more = omega (arith, zip_sum_more f (n + 1) xs ys more)

zip_sum_each : {A B : Type 0} (f g : ℕ → A → B → ℕ) → ((n : ℕ) (x : A) (y : B) → f n x y ≤ g n x y) → (n : ℕ) (xs : List A) (ys : List B) → points.zip_sum f n xs ys ≤ points.zip_sum g n xs ys
zip_sum_each f g h n [] ys = omega arith
zip_sum_each f g h n (x ∷ xs) [] = omega arith
zip_sum_each f g h n (x ∷ xs) (y ∷ ys) = omega (arith, h n x y, zip_sum_each f g h (n + 1) xs ys)

zip_sum_none : {A B : Type 0} (f : ℕ → A → B → ℕ) (n : ℕ) (xs : List A) → points.zip_sum f n xs [] ≡ 0
zip_sum_none f n [] = refl
zip_sum_none f n (x ∷ xs) = refl

or_more : (a b c : Bool) → (b ≡ true → c ≡ true) → a || b ≡ true → a || c ≡ true
or_more true b c f e = refl
or_more false b c f e = f e

zip_any_more : {A B : Type 0} (test : ℕ → A → B → Bool) (n : ℕ) (xs : List A) (ys more : List B) → zip_any test n xs ys ≡ true → zip_any test n xs (ys ++ more) ≡ true
zip_any_more test n [] ys more e = e
zip_any_more test n (x ∷ xs) [] more e = absurd (false≢true e)
zip_any_more test n (x ∷ xs) (y ∷ ys) more e = or_more (test n x y) (zip_any test (n + 1) xs ys) (zip_any test (n + 1) xs (ys ++ more)) (zip_any_more test (n + 1) xs ys more) e

zip_any_none : {A B : Type 0} (test : ℕ → A → B → Bool) (n : ℕ) (xs : List A) → zip_any test n xs [] ≡ false
zip_any_none test n [] = refl
zip_any_none test n (x ∷ xs) = refl

-- more pairs are emulated where all reads come before the writes
where_more : (a b some : Bool) (count : ℕ) → (a ≡ true → b ≡ true) → cond (a || some) count 0 ≤ cond (b || some) count 0
where_more true true some count f = omega arith
where_more true false some count f = absurd (false≢true (f refl))
where_more false true true count f = omega arith
where_more false true false count f = omega arith
where_more false false some count f = omega arith

bypasses_more : (job : MemJob) (v : Variant) (groups : List ℕ) (a b : Bool) (r : Reader) → (a ≡ true → b ≡ true) → bypasses a job.quiet v job.mem.writes groups r ≤ bypasses b job.quiet v job.mem.writes groups r
bypasses_more job v groups a b r f = where_more a b (some_need need.Bypass job.quiet v job.mem.writes groups r) (count_writes v (is_transparent job.quiet r) 0 job.mem.writes groups) f

added : (k a b c : ℕ) → a ≤ b → k + a * c ≤ k + b * c
added k a b c h = omega (arith, mul-le-mul_right c h)

reader_more : (job : MemJob) (v : Variant) (groups : List ℕ) (a b : Bool) → (a ≡ true → b ≡ true) → (o : Option Reader) → points.points_of_reader job v groups a o ≤ points.points_of_reader job v groups b o
reader_more job v groups a b f None = omega arith
reader_more job v groups a b f (Some r) =
    added (outside_parts r * points.part_points job.mem r.port.wide) (bypasses a job.quiet v job.mem.writes groups r) (bypasses b job.quiet v job.mem.writes groups r) (points.bypass_points job.mem r.port.wide) (bypasses_more job v groups a b r f)

places_more : (job : MemJob) (v : Variant) (groups : List ℕ) (a b : Bool) (so_far more : List ReadPlace) → (a ≡ true → b ≡ true) → points.places_points job v groups a so_far ≤ points.places_points job v groups b (so_far ++ more)
places_more job v groups a b so_far more f =
    omega (
      arith,
      zip_sum_each (points.place_points job v groups a) (points.place_points job v groups b) (λ n r p. reader_more job v groups a b f (placed_read v groups n r p)) 0 job.mem.reads so_far,
      zip_sum_more (points.place_points job v groups b) 0 job.mem.reads so_far more,
    )

cond_more : (a b : Bool) (n : ℕ) → (a ≡ true → b ≡ true) → cond a n 0 ≤ cond b n 0
cond_more true true n f = omega arith
cond_more true false n f = absurd (false≢true (f refl))
cond_more false b n f = omega arith

order_more : (m : Mem) (a b : Bool) → (a ≡ true → b ≡ true) → points.order_points m a ≤ points.order_points m b
order_more m a b f = cond_more a b (sum_by (points.waiting_points m) m.writes + sum_by (points.looking_points m) m.reads) f

cells_more : (m : Mem) (v : Variant) (s : Spot) (groups : List ℕ) (so_far more : List ReadPlace) → points.cell_points m v s groups so_far ≤ points.cell_points m v s groups (so_far ++ more)
cells_more m v s groups so_far more =
    mul-le-mul_left (16 * v.cost) (mul-le-mul_right (columns m v s) (mul-le-mul_right (rows m v s) (copies_rise v groups [] so_far more)))

both : (a b c d : ℕ) → a ≤ b → c ≤ d → a + c ≤ b + d
both a b c d h k = omega (arith, h, k)

three : (a b c d e : ℕ) → a ≤ b → c ≤ d → a + c + e ≤ b + d + e
three a b c d e h k = omega (arith, h, k)

pub rise_with_places : (job : MemJob) (v : Variant) (s : Spot) (groups : List ℕ) (so_far more : List ReadPlace) → points.ram_points job v s groups so_far ≤ points.ram_points job v s groups (so_far ++ more)
unfolding ram_points
rise_with_places job v s groups so_far more =
    let first = zip_any_more (needs_order job v groups) 0 job.mem.reads so_far more in
    let a = read_first job v groups so_far in
    let b = read_first job v groups (so_far ++ more) in
    three (points.cell_points job.mem v s groups so_far) (points.cell_points job.mem v s groups (so_far ++ more))
    (points.around_points job v groups so_far a) (points.around_points job v groups (so_far ++ more) b) (points.fixed_points job.mem v s groups)
    (cells_more job.mem v s groups so_far more)
    (both (points.places_points job v groups a so_far) (points.places_points job v groups b (so_far ++ more)) (points.order_points job.mem a) (points.order_points job.mem b)
    (places_more job v groups a b so_far more first) (order_more job.mem a b first))

ones : (b : Bool) (x y : ℕ) → x ≤ y → cond b 1 0 + x ≤ cond b 1 0 + y
ones b x y h = omega (arith, h)

count_more : (v : Variant) (test : Writer → Bool) (n : ℕ) (ws : List WrPort) (gs more : List ℕ) → count_writes v test n ws gs ≤ count_writes v test n ws (gs ++ more)
count_more v test n [] gs more = omega arith
count_more v test n (w ∷ ws) [] more = omega arith
count_more v test n (w ∷ ws) (g ∷ gs) more = ones (writer_has v test n w g) (count_writes v test (n + 1) ws gs) (count_writes v test (n + 1) ws (gs ++ more)) (count_more v test (n + 1) ws gs more)

kind_more : (o : Option Group) (f g : Group → ℕ) → ((k : Group) → f k ≤ g k) → elim o as (λ _. ℕ) [ None ↦ 0 | Some k ↦ f k ] ≤ elim o as (λ _. ℕ) [ None ↦ 0 | Some k ↦ g k ]
kind_more None f g h = omega arith
kind_more (Some k) f g h = h k

lower_more : (m : Mem) (v : Variant) (so_far more : List ℕ) (n : ℕ) (w : WrPort) (g : ℕ) → points.priority_points m v so_far n w g ≤ points.priority_points m v (so_far ++ more) n w g
lower_more m v so_far more n w g =
    kind_more (slice_get v.groups g)
    (λ k. points.points_of_lower m v so_far (record { number = n; port = w; group = g; kind = k }))
    (λ k. points.points_of_lower m v (so_far ++ more) (record { number = n; port = w; group = g; kind = k }))
    (λ k. mul-le-mul_right (points.lower_points m w) (count_more v (emulated_over (record { number = n; port = w; group = g; kind = k })) 0 m.writes so_far more))

priorities_more : (m : Mem) (v : Variant) (so_far more : List ℕ) → points.priorities_points m v so_far ≤ points.priorities_points m v (so_far ++ more)
priorities_more m v so_far more =
    omega (
      arith,
      zip_sum_each (points.priority_points m v so_far) (points.priority_points m v (so_far ++ more)) (lower_more m v so_far more) 0 m.writes so_far,
      zip_sum_more (points.priority_points m v (so_far ++ more)) 0 m.writes so_far more,
    )

sum_none : (a : ℕ) → a ≡ 0 → a + 0 ≡ 0
sum_none a e = omega (arith, e)

-- with no place there is no bypass, and nothing asks for an order
around_none : (job : MemJob) (v : Variant) (groups : List ℕ) → points.around_points job v groups [] (read_first job v groups []) ≡ 0
around_none job v groups =
    let none = zip_any_none (needs_order job v groups) 0 job.mem.reads in
    subst (λ b. points.around_points job v groups [] b ≡ 0) (sym none) (sum_none (points.places_points job v groups false []) (zip_sum_none (points.place_points job v groups false) 0 job.mem.reads))

four : (c x y p q e : ℕ) → x ≡ 0 → y ≡ 0 → p ≤ q → c + x + (p + e) ≤ c + y + (q + e)
four c x y p q e h i k = omega (arith, h, i, k)

pub rise_with_groups : (job : MemJob) (v : Variant) (s : Spot) (so_far more : List ℕ) → points.ram_points job v s so_far [] ≤ points.ram_points job v s (so_far ++ more) []
unfolding ram_points
rise_with_groups job v s so_far more =
    four (points.cell_points job.mem v s so_far []) (points.around_points job v so_far [] (read_first job v so_far [])) (points.around_points job v (so_far ++ more) [] (read_first job v (so_far ++ more) []))
    (points.priorities_points job.mem v so_far) (points.priorities_points job.mem v (so_far ++ more)) (points.ports_points job.mem v s)
    (around_none job v so_far) (around_none job v (so_far ++ more)) (priorities_more job.mem v so_far more)
