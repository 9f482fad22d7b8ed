-- The slots of a cell that fits, by their numbers.
use Rattle.std.proofs.Common.{◌≡◌, ℕ, zero, suc, ◌+◌, ◌-◌, ◌<◌, ◌≤◌, true, ◌&&◌, List, [], ◌∷◌, ◌++◌, length, get_or, take, drop, nat_le, Some, refl, sym, ap, ◌∙◌, ⊎_elim, arith, subst}
use Rattle.std.specs.Prelude.{slice_get}
use Rattle.std.specs.List.{list_all}
use Rattle.std.proofs.lemmas.List.{length-drop, length-append}
use Rattle.std.proofs.lemmas.Option.{get_or_from_slice_get, same_Some}
use Rattle.std.proofs.lemmas.Bool.{cases_lt, eqb-true, leb-true}
use Rattle.lib_core.specs.declared.library.Group.{Group}
use Rattle.lib_core.specs.declared.library.Variant.{Variant}
use Rattle.net_core.specs.declared.rams.SlotUse.{SlotUse}
use Rattle.net_core.specs.declared.rams.RamCell.{RamCell}
use Rattle.net_core.specs.Ram.{Slot, group_slots, skip, slots_from, slots_of}
use Rattle.net_core.specs.Shape.{slots_fit, slot_fits, fits_variant}
use Rattle.net_core.proofs.Basics.{and_left, and_right, all_at, get_left, get_right, get_below, get_within}
use Rattle.ram_step.specs.Owners.{so_many, owners_from, owners_of}

pub record IsSlotAt (x : Variant) (kinds : List Group) (pins : List SlotUse) (owners : List ℕ) (all : List Slot) (n g i : ℕ) (slot : Slot) : Type 0 where
  pub found : slice_get all i ≡ Some slot
  pub number : slot.number ≡ n + i
  pub owner : slice_get owners i ≡ Some slot.group
  pub place : ℕ
  pub group : slot.group ≡ g + place
  pub kind : slice_get kinds place ≡ Some slot.kind
  pub pin : slice_get pins i ≡ Some slot.pins
  pub fits : slot_fits x slot.kind slot.pins ≡ true

pub length-so_many : (n g : ℕ) → length (so_many n g) ≡ n
length-so_many zero g = refl
length-so_many (suc n) g = ap suc (length-so_many n g)

pub so_many_at : (n g i : ℕ) → i < n → slice_get (so_many n g) i ≡ Some g
so_many_at zero g i h = absurd (omega arith)
so_many_at (suc n) g zero h = refl
so_many_at (suc n) g (suc i) h = so_many_at n g i (omega arith)

pub length-group_slots : (number g : ℕ) (kind : Group) (count : ℕ) (pins : List SlotUse) → count ≤ length pins → length (group_slots number g kind count pins) ≡ count
length-group_slots number g kind zero pins h = refl
length-group_slots number g kind (suc n) [] h = absurd (omega arith)
length-group_slots number g kind (suc n) (p ∷ ps) h = ap suc (length-group_slots (number + 1) g kind n ps (omega arith))

pub group_slot_at : (number g : ℕ) (kind : Group) (count : ℕ) (pins : List SlotUse) (i : ℕ) (p : SlotUse) → i < count → slice_get pins i ≡ Some p → slice_get (group_slots number g kind count pins) i ≡ Some (record { number = number + i; group = g; kind = kind; pins = p })
group_slot_at number g kind zero pins i p h e = absurd (omega arith)
group_slot_at number g kind (suc n) [] i p h e = cc
group_slot_at number g kind (suc n) (q ∷ ps) zero p h e = let z : number ≡ number + 0 = omega arith in cc
group_slot_at number g kind (suc n) (q ∷ ps) (suc i) p h e =
    let z : number + 1 + i ≡ number + suc i = omega arith in
    group_slot_at (number + 1) g kind n ps i p (omega arith) e ∙ ap (λ m. Some (record { number = m; group = g; kind = kind; pins = p })) z

pub skip_is : (n : ℕ) (ps : List SlotUse) → skip n ps ≡ drop n ps
skip_is zero ps = refl
skip_is (suc n) [] = refl
skip_is (suc n) (p ∷ ps) = skip_is n ps

pub in_take : {X : Type 0} (n : ℕ) (xs : List X) (i : ℕ) → i < n → slice_get (take n xs) i ≡ slice_get xs i
in_take zero xs i h = absurd (omega arith)
in_take (suc n) [] i h = refl
in_take (suc n) (x ∷ xs) zero h = refl
in_take (suc n) (x ∷ xs) (suc i) h = in_take n xs i (omega arith)

pub in_drop : {X : Type 0} (n : ℕ) (xs : List X) (i : ℕ) → slice_get (drop n xs) i ≡ slice_get xs (n + i)
in_drop zero xs i = ap (slice_get xs) (let z : i ≡ 0 + i = omega arith in z)
in_drop (suc n) [] i = refl
in_drop (suc n) (x ∷ xs) i = in_drop n xs i ∙ ap (slice_get (x ∷ xs)) (let z : suc (n + i) ≡ suc n + i = omega arith in z)

pub same_slot : (number group : ℕ) (kind : Group) (pins : SlotUse) (s : Slot) → number ≡ s.number → group ≡ s.group → kind ≡ s.kind → pins ≡ s.pins → Some s ≡ Some (record { number = number; group = group; kind = kind; pins = pins })
same_slot number group kind pins s a b c d = λ i. Some (record { number = sym a i; group = sym b i; kind = sym c i; pins = sym d i })

pub slot_at_from : (x : Variant) (kinds : List Group) (pins : List SlotUse) (n g i : ℕ) → slots_fit x kinds pins ≡ true → i < length pins → (slot : Slot) × IsSlotAt x kinds pins (owners_from g kinds) (slots_from n g kinds pins) n g i slot
slot_at_from x [] pins n g i fit h = absurd (let e = eqb-true (length pins) 0 fit in omega (arith, e))
slot_at_from x (kind ∷ kinds) pins n g i fit h =
    let count : ℕ = length kind.names in
    let enough : count ≤ length pins = leb-true count (length pins) (and_left (nat_le count (length pins)) (list_all (slot_fits x kind) (take count pins) && slots_fit x kinds (drop count pins)) fit) in
    let later = and_right (nat_le count (length pins)) (list_all (slot_fits x kind) (take count pins) && slots_fit x kinds (drop count pins)) fit in
    let each = and_left (list_all (slot_fits x kind) (take count pins)) (slots_fit x kinds (drop count pins)) later in
    let others = and_right (list_all (slot_fits x kind) (take count pins)) (slots_fit x kinds (drop count pins)) later in
    let here : List Slot = group_slots n g kind count pins in
    let long : length here ≡ count = length-group_slots n g kind count pins enough in
    ⊎_elim
    (λ (low : i < count).
    let w = get_within pins i h in (
      record { number = n + i; group = g; kind = kind; pins = w.0 },
      record {
        found = get_left here (slots_from (n + count) (g + 1) kinds (skip count pins)) i _ (group_slot_at n g kind count pins i w.0 low w.1);
        number = refl;
        owner = get_left (so_many count g) (owners_from (g + 1) kinds) i g (so_many_at count g i low);
        place = 0;
        group = omega arith;
        kind = refl;
        pin = w.1;
        fits = all_at (slot_fits x kind) (take count pins) each i w.0 (in_take count pins i low ∙ w.1);
      },
    ))
    (λ (high : count ≤ i).
    let j : ℕ = i - count in
    let at : count + j ≡ i = omega arith in
    let inside : j < length (drop count pins) = rw length-drop (omega arith) in
    let w = slot_at_from x kinds (drop count pins) (n + count) (g + 1) j others inside in
    let r = w.1 in (
      w.0,
      record {
        found =
            ap (slice_get (here ++ slots_from (n + count) (g + 1) kinds (skip count pins))) (let z : i ≡ length here + j = omega (arith, long) in z)
            ∙ get_right here (slots_from (n + count) (g + 1) kinds (skip count pins)) j
            ∙ ap (λ ps. slice_get (slots_from (n + count) (g + 1) kinds ps) j) (skip_is count pins)
            ∙ r.found;
        number = r.number ∙ (let z : n + count + j ≡ n + i = omega arith in z);
        owner =
            ap (slice_get (so_many count g ++ owners_from (g + 1) kinds)) (let z : i ≡ length (so_many count g) + j = omega (arith, length-so_many count g) in z)
            ∙ get_right (so_many count g) (owners_from (g + 1) kinds) j
            ∙ r.owner;
        place = suc r.place;
        group = r.group ∙ (let z : g + 1 + r.place ≡ g + suc r.place = omega arith in z);
        kind = r.kind;
        pin = sym (ap (slice_get pins) at) ∙ sym (in_drop count pins j) ∙ r.pin;
        fits = r.fits;
      },
    ))
    (cases_lt i count)

pub length-slots_from : (x : Variant) (kinds : List Group) (pins : List SlotUse) (n g : ℕ) → slots_fit x kinds pins ≡ true → length (slots_from n g kinds pins) ≡ length pins
length-slots_from x [] pins n g fit = sym (eqb-true (length pins) 0 fit)
length-slots_from x (kind ∷ kinds) pins n g fit =
    let count : ℕ = length kind.names in
    let enough : count ≤ length pins = leb-true count (length pins) (and_left (nat_le count (length pins)) (list_all (slot_fits x kind) (take count pins) && slots_fit x kinds (drop count pins)) fit) in
    let later = and_right (nat_le count (length pins)) (list_all (slot_fits x kind) (take count pins) && slots_fit x kinds (drop count pins)) fit in
    let others = and_right (list_all (slot_fits x kind) (take count pins)) (slots_fit x kinds (drop count pins)) later in
    let rest : length (slots_from (n + count) (g + 1) kinds (skip count pins)) ≡ length (drop count pins) = ap (λ ps. length (slots_from (n + count) (g + 1) kinds ps)) (skip_is count pins) ∙ length-slots_from x kinds (drop count pins) (n + count) (g + 1) others in
    length-append (group_slots n g kind count pins) (slots_from (n + count) (g + 1) kinds (skip count pins))
    ∙ (let long = length-group_slots n g kind count pins enough in
    let cut = length-drop count pins in
    let z : length (group_slots n g kind count pins) + length (slots_from (n + count) (g + 1) kinds (skip count pins)) ≡ length pins = omega (arith, long, rest, cut) in z)

pub fit_slots : (x : Variant) (cell : RamCell) → fits_variant cell (Some x) ≡ true → slots_fit x x.groups cell.slots ≡ true
fit_slots x cell fit = and_left (slots_fit x x.groups cell.slots) _ fit

pub slot_at : (x : Variant) (cell : RamCell) (i : ℕ) → fits_variant cell (Some x) ≡ true → i < length (slots_of x cell) → (slot : Slot) × IsSlotAt x x.groups cell.slots (owners_of x.groups) (slots_of x cell) 0 0 i slot
slot_at x cell i fit h =
    let count = length-slots_from x x.groups cell.slots 0 0 (fit_slots x cell fit) in
    slot_at_from x x.groups cell.slots 0 0 i (fit_slots x cell fit) (omega (arith, count))

pub length-slots_of : (x : Variant) (cell : RamCell) → fits_variant cell (Some x) ≡ true → length (slots_of x cell) ≡ length cell.slots
length-slots_of x cell fit = length-slots_from x x.groups cell.slots 0 0 (fit_slots x cell fit)

-- the slot that the code reads
pub record IsRead (x : Variant) (all : List Slot) (i : ℕ) (owners : List ℕ) (groups : List Group) (pins : List SlotUse) : Type 0 where
  pub owner : i < length owners
  pub group : get_or owners i 0 < length groups
  pub pin : i < length pins
  pub found : (kind : Group) (pin : SlotUse) → kind ≡ get_or groups (get_or owners i 0) kind → pin ≡ get_or pins i pin → slice_get all i ≡ Some (record { number = i; group = get_or owners i 0; kind = kind; pins = pin })
  pub fits : (kind : Group) (pin : SlotUse) → kind ≡ get_or groups (get_or owners i 0) kind → pin ≡ get_or pins i pin → slot_fits x kind pin ≡ true

pub slot_read : (x : Variant) (cell : RamCell) (i : ℕ) (all : List Slot) (owners : List ℕ) → fits_variant cell (Some x) ≡ true → owners ≡ owners_of x.groups → all ≡ slots_of x cell → i < length all → IsRead x all i owners x.groups cell.slots
slot_read x cell i all owners fit own same h =
    let w = slot_at x cell i fit (subst (λ l. i < length l) same h) in
    let s : Slot = w.0 in
    let r = w.1 in
    let owner : slice_get owners i ≡ Some s.group = ap (λ l. slice_get l i) own ∙ r.owner in
    let group : get_or owners i 0 ≡ s.group = get_or_from_slice_get owners i s.group 0 owner in
    let place : s.group ≡ r.place = r.group ∙ (let z : 0 + r.place ≡ r.place = omega arith in z) in
    let kind_at = λ (kind : Group) (e : kind ≡ get_or x.groups (get_or owners i 0) kind).
    let z : kind ≡ s.kind = e ∙ ap (λ k. get_or x.groups k kind) (group ∙ place) ∙ get_or_from_slice_get x.groups r.place s.kind kind r.kind in z in
    let use_at = λ (pins : SlotUse) (e : pins ≡ get_or cell.slots i pins).
    let z : pins ≡ s.pins = e ∙ get_or_from_slice_get cell.slots i s.pins pins r.pin in z in
    let number : s.number ≡ i = r.number ∙ (let z : 0 + i ≡ i = omega arith in z) in
    record {
      owner = get_below owners i s.group owner;
      group = let low = get_below x.groups r.place s.kind r.kind in omega (arith, low, group, place);
      pin = get_below cell.slots i s.pins r.pin;
      found = λ kind pins e f. ap (λ l. slice_get l i) same ∙ r.found ∙ same_slot i (get_or owners i 0) kind pins s (sym number) group (kind_at kind e) (use_at pins f);
      fits = λ kind pins e f. ap (λ k. slot_fits x k pins) (kind_at kind e) ∙ ap (λ u. slot_fits x s.kind u) (use_at pins f) ∙ r.fits;
    }

pub length-owners_from : (x : Variant) (kinds : List Group) (pins : List SlotUse) (g : ℕ) → slots_fit x kinds pins ≡ true → length (owners_from g kinds) ≡ length pins
length-owners_from x [] pins g fit = sym (eqb-true (length pins) 0 fit)
length-owners_from x (kind ∷ kinds) pins g fit =
    let count : ℕ = length kind.names in
    let enough : count ≤ length pins = leb-true count (length pins) (and_left (nat_le count (length pins)) (list_all (slot_fits x kind) (take count pins) && slots_fit x kinds (drop count pins)) fit) in
    let later = and_right (nat_le count (length pins)) (list_all (slot_fits x kind) (take count pins) && slots_fit x kinds (drop count pins)) fit in
    let others = and_right (list_all (slot_fits x kind) (take count pins)) (slots_fit x kinds (drop count pins)) later in
    let rest = length-owners_from x kinds (drop count pins) (g + 1) others in
    let cut = length-drop count pins in
    let long = length-so_many count g in
    length-append (so_many count g) (owners_from (g + 1) kinds)
    ∙ (let z : length (so_many count g) + length (owners_from (g + 1) kinds) ≡ length pins = omega (arith, long, rest, cut) in z)

pub length-owners : (x : Variant) (cell : RamCell) → fits_variant cell (Some x) ≡ true → length (owners_of x.groups) ≡ length cell.slots
length-owners x cell fit = length-owners_from x x.groups cell.slots 0 (fit_slots x cell fit)

-- a slot's number is its place
pub number_is : (x : Variant) (cell : RamCell) (i : ℕ) (s : Slot) → fits_variant cell (Some x) ≡ true → slice_get (slots_of x cell) i ≡ Some s → s.number ≡ i
number_is x cell i s fit found =
    let w = slot_at x cell i fit (get_below (slots_of x cell) i s found) in
    let r = w.1 in
    ap (λ z. z.number) (same_Some s w.0 (sym found ∙ r.found)) ∙ r.number ∙ (let z : 0 + i ≡ i = omega arith in z)
