-- How wide slots of RAM cells and read ports of memories are.
use Rattle.std.proofs.Common.{◌≡◌, ℕ, zero, suc, ◌+◌, ◌-◌, ◌*◌, ◌^◌, ◌<◌, ◌≤◌, Bool, true, false, cond, ◌&&◌, List, [], ◌∷◌, length, take, drop, nat_le, nat_eq, Some, inl, inr, refl, sym, ap, ◌∙◌, ⊎_elim, arith}
use Rattle.std.specs.Prelude.{slice_get}
use Rattle.std.specs.List.{list_all, sum_by}
use Rattle.std.proofs.lemmas.Nat.{mul-le}
use Rattle.std.proofs.lemmas.List.Sums.{sum_by-cons}
use Rattle.std.proofs.lemmas.Option.{same_Some}
use Rattle.std.proofs.lemmas.Bool.{cases_lt, eqb-true, leb-true}
use Rattle.lib_core.specs.declared.library.Group.{Group}
use Rattle.lib_core.specs.declared.library.Variant.{Variant}
use Rattle.lib_core.specs.Rams.{width_at, kind_reads}
use Rattle.net_core.specs.declared.mems.Mem.{Mem}
use Rattle.net_core.specs.declared.mems.RdPort.{RdPort}
use Rattle.net_core.specs.declared.rams.SlotUse.{SlotUse}
use Rattle.net_core.specs.declared.rams.RamCell.{RamCell}
use Rattle.net_core.specs.Ram.{Slot, group_slots, skip, slots_from, slots_of, slot_width}
use Rattle.net_core.specs.Shape.{slots_fit, slot_fits, pins_fit, fits_variant}
use Rattle.net_core.specs.Valid.{MemFits}
use Rattle.net_core.proofs.Basics.{and_left, and_right, all_at, get_joined, get_below}
use Rattle.geom_core.specs.Places.{IsSized}

in_take : {X : Type 0} (n : ℕ) (xs : List X) (i : ℕ) → i < n → slice_get (take n xs) i ≡ slice_get xs i
in_take zero xs i h = absurd (omega arith)
in_take (suc n) [] i h = refl
in_take (suc n) (x ∷ xs) zero h = refl
in_take (suc n) (x ∷ xs) (suc i) h = in_take n xs i (omega arith)

in_drop : {X : Type 0} (n : ℕ) (xs : List X) (i : ℕ) → slice_get (drop n xs) i ≡ slice_get xs (n + i)
in_drop zero xs i = ap (slice_get xs) (let z : i ≡ 0 + i = omega arith in z)
in_drop (suc n) [] i = refl
in_drop (suc n) (x ∷ xs) i = in_drop n xs i ∙ ap (slice_get (x ∷ xs)) (let z : suc (n + i) ≡ suc n + i = omega arith in z)

skip_is : (n : ℕ) (ps : List SlotUse) → skip n ps ≡ drop n ps
skip_is zero ps = refl
skip_is (suc n) [] = refl
skip_is (suc n) (p ∷ ps) = skip_is n ps

length-group_slots : (number g : ℕ) (kind : Group) (count : ℕ) (pins : List SlotUse) → count ≤ length pins → length (group_slots number g kind count pins) ≡ count
length-group_slots number g kind zero pins h = refl
length-group_slots number g kind (suc n) [] h = absurd (omega arith)
length-group_slots number g kind (suc n) (p ∷ ps) h = ap suc (length-group_slots (number + 1) g kind n ps (omega arith))

-- the slots of a group have its pins, and its kind
group_use : (number g : ℕ) (kind : Group) (count : ℕ) (pins : List SlotUse) (i : ℕ) (s : Slot) → slice_get (group_slots number g kind count pins) i ≡ Some s → (slice_get (take count pins) i ≡ Some s.pins) × (kind ≡ s.kind)
group_use number g kind zero pins i s e = cc
group_use number g kind (suc n) [] i s e = cc
group_use number g kind (suc n) (p ∷ ps) zero s e =
    let same = same_Some (record { number = number; group = g; kind = kind; pins = p }) s e in
    (ap (λ (z : Slot). Some z.pins) same, ap (λ (z : Slot). z.kind) same)
group_use number g kind (suc n) (p ∷ ps) (suc i) s e = group_use (number + 1) g kind n ps i s e

-- the parts of the fit of the slots of a group and those behind
record AreFit (x : Variant) (kind : Group) (kinds : List Group) (pins : List SlotUse) : Type 0 where
  enough : length kind.names ≤ length pins
  each : list_all (slot_fits x kind) (take (length kind.names) pins) ≡ true
  others : slots_fit x kinds (drop (length kind.names) pins) ≡ true

are_fit : (x : Variant) (kind : Group) (kinds : List Group) (pins : List SlotUse) → slots_fit x (kind ∷ kinds) pins ≡ true → AreFit x kind kinds pins
are_fit x kind kinds pins fit =
    let count : ℕ = length kind.names in
    let later = and_right (nat_le count (length pins)) (list_all (slot_fits x kind) (take count pins) && slots_fit x kinds (drop count pins)) fit in
    record {
      enough = leb-true count (length pins) (and_left (nat_le count (length pins)) (list_all (slot_fits x kind) (take count pins) && slots_fit x kinds (drop count pins)) fit);
      each = and_left (list_all (slot_fits x kind) (take count pins)) (slots_fit x kinds (drop count pins)) later;
      others = and_right (list_all (slot_fits x kind) (take count pins)) (slots_fit x kinds (drop count pins)) later;
    }

slot_uses : (x : Variant) (kinds : List Group) (pins : List SlotUse) (n g i : ℕ) (s : Slot) → slots_fit x kinds pins ≡ true → slice_get (slots_from n g kinds pins) i ≡ Some s → (slice_get pins i ≡ Some s.pins) × (slot_fits x s.kind s.pins ≡ true)
slot_uses x [] pins n g i s fit e = cc
slot_uses x (kind ∷ kinds) pins n g i s fit e =
    let count : ℕ = length kind.names in
    let parts = are_fit x kind kinds pins fit in
    let here : List Slot = group_slots n g kind count pins in
    let long : length here ≡ count = length-group_slots n g kind count pins parts.enough in
    elim (get_joined here (slots_from (n + count) (g + 1) kinds (skip count pins)) i s e) [
      | inl low ↦ (
          let w = group_use n g kind count pins i s low in
          let below = get_below here i s low in
          (sym (in_take count pins i (omega (arith, below, long))) ∙ w.0, ap (λ k. slot_fits x k s.pins) (sym w.1) ∙ all_at (slot_fits x kind) (take count pins) parts.each i s.pins w.0)
          )
      | inr (j, at, high) ↦ (
          let r = slot_uses x kinds (drop count pins) (n + count) (g + 1) j s parts.others (ap (λ ps. slice_get (slots_from (n + count) (g + 1) kinds ps) j) (sym (skip_is count pins)) ∙ high) in
          let z : i ≡ count + j = omega (arith, at, long) in
          (ap (slice_get pins) z ∙ sym (in_drop count pins j) ∙ r.0, r.1)
          )
    ]

-- each use fits some group
use_fits : (x : Variant) (kinds : List Group) (pins : List SlotUse) (i : ℕ) (p : SlotUse) → slots_fit x kinds pins ≡ true → slice_get pins i ≡ Some p → (kind : Group) × (slot_fits x kind p ≡ true)
use_fits x [] pins i p fit e =
    let below = get_below pins i p e in
    let none = eqb-true (length pins) 0 fit in
    absurd (omega (arith, below, none))
use_fits x (kind ∷ kinds) pins i p fit e =
    let count : ℕ = length kind.names in
    let parts = are_fit x kind kinds pins fit in
    ⊎_elim
    (λ (low : i < count). (kind, all_at (slot_fits x kind) (take count pins) parts.each i p (in_take count pins i low ∙ e)))
    (λ (high : count ≤ i).
    let at : count + (i - count) ≡ i = omega arith in
    use_fits x kinds (drop count pins) (i - count) p parts.others (in_drop count pins (i - count) ∙ ap (slice_get pins) at ∙ e))
    (cases_lt i count)

cond_at_most : (b : Bool) (n : ℕ) → cond b n 0 ≤ n
cond_at_most true n = omega arith
cond_at_most false n = omega arith

-- a use that fits has no more outputs than its level has bits
out_width : (x : Variant) (kind : Group) (p : SlotUse) → slot_fits x kind p ≡ true → length p.out ≤ width_at x.widths p.level
out_width x kind p fit =
    let pins = and_left (pins_fit x kind p) _ fit in
    let wide = and_left (nat_eq (length p.out) (cond (kind_reads kind.kind) (width_at x.widths p.level) 0)) _ (and_right (nat_eq (length p.addr) x.abits) _ pins) in
    let e = eqb-true (length p.out) (cond (kind_reads kind.kind) (width_at x.widths p.level) 0) wide in
    let l = cond_at_most (kind_reads kind.kind) (width_at x.widths p.level) in
    omega (arith, e, l)

width_past : (widths : List ℕ) (level : ℕ) → length widths ≤ level → width_at widths level ≡ 0
width_past [] level h = refl
width_past (w ∷ ws) zero h = absurd (omega arith)
width_past (w ∷ ws) (suc level) h = width_past ws level (omega arith)

few_bits : (x : Variant) (level : ℕ) → IsSized x → width_at x.widths level ≤ 1024
few_bits x level sized =
    ⊎_elim
    (λ (low : level < length x.widths). sized.widths.few_bits level low)
    (λ (high : length x.widths ≤ level). let e = width_past x.widths level high in omega (arith, e))
    (cases_lt level (length x.widths))

-- the pins of a slot, and that it is as wide as its outputs
pub slot_use : (x : Variant) (c : RamCell) (i : ℕ) (s : Slot) → fits_variant c (Some x) ≡ true → slice_get (slots_of x c) i ≡ Some s → (slice_get c.slots i ≡ Some s.pins) × (length s.pins.out ≤ slot_width x s)
slot_use x c i s fit e =
    let w = slot_uses x x.groups c.slots 0 0 i s (and_left (slots_fit x x.groups c.slots) _ fit) e in
    (w.0, out_width x s.kind s.pins w.1)

pub few_outputs : (x : Variant) (c : RamCell) (i : ℕ) (p : SlotUse) → fits_variant c (Some x) ≡ true → IsSized x → slice_get c.slots i ≡ Some p → length p.out ≤ 1024
few_outputs x c i p fit sized e =
    let w = use_fits x x.groups c.slots i p (and_left (slots_fit x x.groups c.slots) _ fit) e in
    let out = out_width x w.0 p w.1 in
    let few = few_bits x p.level sized in
    omega (arith, out, few)

sum_at : {X : Type 0} (f : X → ℕ) (xs : List X) (j : ℕ) (x : X) → slice_get xs j ≡ Some x → f x ≤ sum_by f xs
sum_at f [] j x h = cc
sum_at f (y ∷ ys) zero x h =
    let e = sum_by-cons f y ys in
    let same : f y ≡ f x = ap f (same_Some y x h) in
    omega (arith, e, same)
sum_at f (y ∷ ys) (suc j) x h =
    let e = sum_by-cons f y ys in
    let rest = sum_at f ys j x h in
    omega (arith, e, rest)

product_bits : (width words : ℕ) → width ≤ 65536 → words ≤ 64 → width * words ≤ 2 ^ 22
product_bits width words w h = let p = mul-le width words 65536 64 w h in omega (arith, p)

-- the data of a read port of a memory that fits
pub read_width : (x : Mem) → MemFits x → (j : ℕ) (r : RdPort) → slice_get x.reads j ≡ Some r → length r.out ≤ 2 ^ 22
read_width x fits j r h =
    let s = sum_at (λ (p : RdPort). 2 ^ p.wide) x.reads j r h in
    let l = fits.read_words in
    let e = (fits.reads j r h).out in
    let g = product_bits x.width (2 ^ r.wide) fits.sizes.width.1 (omega (arith, s, l)) in
    omega (arith, e, g)
