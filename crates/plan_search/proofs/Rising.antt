-- What a whole choice meets its beginning meets; and the points of a choice without places are below those of a whole one.
use Rattle.std.proofs.Common.{◌≡◌, ℕ, ◌+◌, ◌*◌, ◌≤◌, Bool, true, false, not, ◌&&◌, ◌||◌, nat_le, List, [], ◌∷◌, ◌++◌, refl, arith}
use Rattle.std.specs.List.{list_any}
use Rattle.std.proofs.Math.Nat.{mul-le-mul_right}
use Rattle.std.proofs.lemmas.Bool.{false≢true}
use Rattle.lib_core.specs.declared.library.Variant.{Variant}
use Rattle.net_core.specs.declared.mems.Mem.{Mem}
use Rattle.net_core.specs.declared.mems.MemJob.{MemJob}
use Rattle.geom_core.specs.declared.candidates.ReadPlace.{ReadPlace}
use Rattle.fit_rules.specs.declared.spots.Spot.{Spot}
use Rattle.fit_rules.specs.Shape.{rows, columns, cells}
use Rattle.fit_rules.specs.Rules.{zip_any, needs_order, read_first, is_ride, can_order, order_met, largest, reading_names, all_ports_nets, new_nets, is_small}
use Rattle.fit_rules.proofs.Copies.{copies_rise, copies_some}
use Rattle.fit_rules.proofs.Lengths.{and_left, and_right}
use Rattle.fit_cost.specs.Points.{ram_points}
use Rattle.fit_cost.proofs.Rising.{rise_with_places, rise_with_groups}

le_itself : (n : ℕ) → n ≤ n
le_itself n = omega arith

two : (a b x y : ℕ) → a ≤ x → b ≤ y → a + b ≤ x + y
two a b x y h k = omega (arith, h, k)

le_through : (a b c : ℕ) → a ≤ b → b ≤ c → a ≤ c
le_through a b c h k = omega (arith, h, k)

pub points_of_writes_hold : (job : MemJob) (v : Variant) (s : Spot) (so_far more : List ℕ) (places : List ReadPlace) → ram_points job v s so_far [] ≤ ram_points job v s (so_far ++ more) places
points_of_writes_hold job v s so_far more places =
    le_through (ram_points job v s so_far []) (ram_points job v s (so_far ++ more) []) (ram_points job v s (so_far ++ more) places)
    (rise_with_groups job v s so_far more) (rise_with_places job v s (so_far ++ more) [] places)

or_rises : (a b c : Bool) → (b ≡ true → c ≡ true) → a || b ≡ true → a || c ≡ true
or_rises true b c h e = refl
or_rises false b c h e = h e

zip_any_front : {A B : Type 0} (test : ℕ → A → B → Bool) (n : ℕ) (xs : List A) (ys more : List B) → zip_any test n xs ys ≡ true → zip_any test n xs (ys ++ more) ≡ true
zip_any_front test n [] ys more e = absurd (false≢true e)
zip_any_front test n (x ∷ xs) [] more e = absurd (false≢true e)
zip_any_front test n (x ∷ xs) (y ∷ ys) more e = or_rises (test n x y) (zip_any test (n + 1) xs ys) (zip_any test (n + 1) xs (ys ++ more)) (λ r. zip_any_front test (n + 1) xs ys more r) e

any_front : {A : Type 0} (test : A → Bool) (xs more : List A) → list_any test xs ≡ true → list_any test (xs ++ more) ≡ true
any_front test [] more e = absurd (false≢true e)
any_front test (x ∷ xs) more e = or_rises (test x) (list_any test xs) (list_any test (xs ++ more)) (λ r. any_front test xs more r) e

pub first_rises : (job : MemJob) (v : Variant) (groups : List ℕ) (so_far more : List ReadPlace) → read_first job v groups so_far ≡ true → read_first job v groups (so_far ++ more) ≡ true
first_rises job v groups so_far more e = zip_any_front (needs_order job v groups) 0 job.mem.reads so_far more e

-- cells
pub cells_rise : (m : Mem) (v : Variant) (s : Spot) (groups : List ℕ) (so_far more : List ReadPlace) → cells m v s groups so_far ≤ cells m v s groups (so_far ++ more)
cells_rise m v s groups so_far more = mul-le-mul_right (columns m v s) (mul-le-mul_right (rows m v s) (copies_rise v groups [] so_far more))

pub cells_of_one : (m : Mem) (v : Variant) (s : Spot) (fewer groups : List ℕ) (places : List ReadPlace) → cells m v s fewer [] ≤ cells m v s groups places
cells_of_one m v s fewer groups places = mul-le-mul_right (columns m v s) (mul-le-mul_right (rows m v s) (copies_some v groups [] places))

order_over : (first after can before : Bool) → (first ≡ true → after ≡ true) → (can ≡ true → before ≡ true) → not after || can ≡ true → not first || before ≡ true
order_over true true can before h k e = k e
order_over true false can before h k e = absurd (false≢true (h refl))
order_over false after can before h k e = refl

not_rises : (a b : Bool) → (a ≡ true → b ≡ true) → not b ≡ true → not a ≡ true
not_rises true true h e = e
not_rises true false h e = absurd (false≢true (h refl))
not_rises false b h e = refl

both : (a b : Bool) → a ≡ true → b ≡ true → a && b ≡ true
both true b h k = k
both false b h k = absurd (false≢true h)

can_order_front : (m : Mem) (so_far more : List ReadPlace) → can_order m (so_far ++ more) ≡ true → can_order m so_far ≡ true
can_order_front m so_far more e =
    both _ _ (and_left _ (not (list_any is_ride (so_far ++ more))) e)
    (not_rises (list_any is_ride so_far) (list_any is_ride (so_far ++ more)) (any_front is_ride so_far more) (and_right _ (not (list_any is_ride (so_far ++ more))) e))

pub order_front : (job : MemJob) (v : Variant) (groups : List ℕ) (so_far more : List ReadPlace) → order_met job v groups (so_far ++ more) ≡ true → order_met job v groups so_far ≡ true
order_front job v groups so_far more e =
    order_over (read_first job v groups so_far) (read_first job v groups (so_far ++ more)) (can_order job.mem (so_far ++ more)) (can_order job.mem so_far)
    (first_rises job v groups so_far more) (can_order_front job.mem so_far more) e

le_below : (a b most : ℕ) → a ≤ b → nat_le b most ≡ true → nat_le a most ≡ true
le_below a b most h e = grind (arith, h, e)

nets_rise : (m : Mem) (v : Variant) (s : Spot) (a b : ℕ) → a ≤ b → new_nets m v s a ≤ new_nets m v s b
nets_rise m v s a b h =
    two (a * (largest v.widths * reading_names v)) (64 * all_ports_nets m v s) (b * (largest v.widths * reading_names v)) (64 * all_ports_nets m v s)
    (mul-le-mul_right (largest v.widths * reading_names v) h) (le_itself (64 * all_ports_nets m v s))

small_below : (m : Mem) (v : Variant) (s : Spot) (a b cells nets : ℕ) → a ≤ b → nat_le b cells && nat_le (new_nets m v s b) nets ≡ true → nat_le a cells && nat_le (new_nets m v s a) nets ≡ true
small_below m v s a b cells nets h e =
    both (nat_le a cells) (nat_le (new_nets m v s a) nets)
    (le_below a b cells h (and_left (nat_le b cells) (nat_le (new_nets m v s b) nets) e))
    (le_below (new_nets m v s a) (new_nets m v s b) nets (nets_rise m v s a b h) (and_right (nat_le b cells) (nat_le (new_nets m v s b) nets) e))

pub small_front : (m : Mem) (v : Variant) (s : Spot) (groups : List ℕ) (so_far more : List ReadPlace) → is_small m v s groups (so_far ++ more) ≡ true → is_small m v s groups so_far ≡ true
small_front m v s groups so_far more e = small_below m v s (cells m v s groups so_far) (cells m v s groups (so_far ++ more)) 4096 16777216 (cells_rise m v s groups so_far more) e

pub small_of_one : (m : Mem) (v : Variant) (s : Spot) (fewer groups : List ℕ) (places : List ReadPlace) → is_small m v s groups places ≡ true → is_small m v s fewer [] ≡ true
small_of_one m v s fewer groups places e = small_below m v s (cells m v s fewer []) (cells m v s groups places) 4096 16777216 (cells_of_one m v s fewer groups places) e
