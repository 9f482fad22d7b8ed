-- What is written of a cell is read of it.
use Rattle.std.proofs.Common.{◌≡◌, ℕ, zero, suc, ◌*◌, ◌<◌, ◌≤◌, Bool, true, false, not, cond, List, [], ◌∷◌, ◌++◌, length, take, drop, Option, Some, None, refl, ap, ◌∙◌, subst, arith, inl, inr}
use Rattle.std.specs.Prelude.{codes, nat_eq, nat_le, nat_lt, option_and_then, slice_get, ◌&&◌, ◌||◌, if◌then◌else◌}
use Rattle.std.specs.List.{find, list_all}
use Rattle.std.proofs.lemmas.Bool.{and_parts, cases_lt}
use Rattle.std.proofs.lemmas.Option.{same_Some}
use Rattle.std.proofs.lemmas.Bool.Decides.{nat_tests}
use Rattle.lib_core.specs.declared.library.Group.{Group}
use Rattle.lib_core.specs.declared.library.Tri.{Tri}
use Rattle.lib_core.specs.declared.library.Variant.{Variant}
use Rattle.lib_core.specs.Rams.{last_width, last_words, takes_value, width_at}
use Rattle.net_core.specs.declared.mems.Attr.{Attr}
use Rattle.net_core.specs.declared.rams.RamCell.{RamCell}
use Rattle.net_core.specs.declared.rams.SlotUse.{SlotUse}
use Rattle.net_core.specs.Shape as shape
use Rattle.net_core.specs.Valid.{AreApart, Each}
use Rattle.cell_consts.specs.Consts.{attr_number, number_attr}
use Rattle.cell_consts.specs.Params.{number_at}
use Rattle.cell_consts.proofs.ReadBack.{number_attr_number}
use Rattle.ram_rows.specs.RamRows as rows
use Rattle.ram_rows.specs.declared.row.RamRow.{RamRow}
use Rattle.ram_rows.specs.declared.slots.Level.{Level}
use Rattle.ram_rows.specs.declared.slots.Level.TheVariants as level
use Rattle.ram_rows.specs.declared.slots.SlotRow.{SlotRow}
use Rattle.ram_written.specs.Params as written
use Rattle.ram_written.specs.Laws.{HasWidths, groups_rows, names_rows, RowReadsBack, written_level}
use Rattle.ram_written.proofs.Found.{found, in_left, in_right, names_of, Stands, Within}
use Rattle.ram_written.proofs.Levels.{place_back}
use Rattle.ram_written.proofs.PortsBack.{has_stands, LevelIs, low_level, no_value, slot_back, value_back}

-- the levels of these ports are those that are told
abbrev pub Told : Variant → Level → List SlotUse → Type 0
Told v l slots = (s : SlotUse) → Stands slots s → s.level < length v.widths → LevelIs v l s

pub taken_stands : {X : Type 0} (n : ℕ) (xs : List X) → Within (drop n xs) xs
taken_stands zero xs x s = s
taken_stands (suc n) [] x s = s
taken_stands (suc n) (y ∷ ys) x s = let more = taken_stands n ys x s in (suc more.0, more.1)

names_back : (v : Variant) (g : Group) (l : Level) (params : List Attr) (ns : List (List ℕ)) (slots : List SlotUse) → HasWidths v → Each g.levels (λ k. k < length v.widths) → AreApart (names_of params)
    → Within (written.names_params v g ns slots) params → length ns ≤ length slots → list_all (shape.slot_fits v g) (take (length ns) slots) ≡ true → Told v l slots
    → rows.names_at v g l params ns ≡ Some (names_rows g ns slots)
unfolding rows.names_at
names_back v g l params [] slots w h own there long fits told = refl
names_back v g l params (n ∷ ns) [] w h own there long fits told = absurd (omega arith)
names_back v g l params (n ∷ ns) (s ∷ slots) w h own there long fits told =
    let p = and_parts (shape.slot_fits v g s) (list_all (shape.slot_fits v g) (take (length ns) slots)) fits in
    let here = slot_back v g l params n s w h (λ a t. there a (in_left (written.slot_params v g n s) (written.names_params v g ns slots) a t)) own p.0
    (told s (0, refl) (low_level v g s h p.0)) in
    let more = names_back v g l params ns slots w h own (λ a t. there a (in_right (written.slot_params v g n s) (written.names_params v g ns slots) a t)) (omega arith) p.1
    (λ x t. told x (suc t.0, t.1)) in
    λ i. option_and_then {T = SlotRow} {U = List SlotRow} (λ x. option_and_then {T = List SlotRow} {U = List SlotRow} (λ xs. Some (x ∷ xs)) (more i)) (here i)

enough : (a b : ℕ) → nat_le a b ≡ true → a ≤ b
enough a b h = grind (arith, nat_tests)

groups_back : (v : Variant) (l : Level) (params : List Attr) (gs : List Group) (slots : List SlotUse) → HasWidths v → Each gs (λ g. Each g.levels (λ k. k < length v.widths)) → AreApart (names_of params)
    → Within (written.groups_params v gs slots) params → shape.slots_fit v gs slots ≡ true → Told v l slots
    → rows.groups_at v l params gs ≡ Some (groups_rows gs slots)
unfolding rows.groups_at
groups_back v l params [] slots w h own there fits told = refl
groups_back v l params (g ∷ gs) slots w h own there fits told =
    let n = length g.names in
    let rest = drop n slots in
    let p = and_parts (nat_le n (length slots)) (list_all (shape.slot_fits v g) (take n slots) && shape.slots_fit v gs rest) fits in
    let q = and_parts (list_all (shape.slot_fits v g) (take n slots)) (shape.slots_fit v gs rest) p.1 in
    let here = names_back v g l params g.names slots w (h 0 g refl) own (λ a t. there a (in_left (written.names_params v g g.names slots) (written.groups_params v gs rest) a t)) (enough n (length slots) p.0) q.0 told in
    let more = groups_back v l params gs rest w (λ i x e. h (suc i) x e) own (λ a t. there a (in_right (written.names_params v g g.names slots) (written.groups_params v gs rest) a t)) q.1
    (λ x t. told x (taken_stands n slots x t)) in
    λ i. option_and_then {T = List SlotRow} {U = List SlotRow} (λ xs. option_and_then {T = List SlotRow} {U = List SlotRow} (λ ys. Some (xs ++ ys)) (more i)) (here i)

-- ---- the level of the cell

same_level : (a b : ℕ) → nat_eq a b ≡ true → b ≡ a
same_level a b h = grind (arith, nat_tests)

not_used_is : (s : SlotUse) (f : ℕ) (used : Bool) → s.used ≡ used → (not used || nat_eq s.level f) ≡ true → s.used ≡ true → f ≡ s.level
not_used_is s f true e h u = same_level s.level f h
not_used_is s f false e h u = absurd (cc)

all_at : {X : Type 0} (test : X → Bool) (xs : List X) (i : ℕ) (x : X) → list_all test xs ≡ true → slice_get xs i ≡ Some x → test x ≡ true
all_at test [] i x h e = absurd (cc)
all_at test (y ∷ ys) zero x h e = subst (λ z. test z ≡ true) (same_Some y x e) (and_parts (test y) (list_all test ys) h).0
all_at test (y ∷ ys) (suc i) x h e = all_at test ys i x (and_parts (test y) (list_all test ys) h).1 e

alike_by : (slots : List SlotUse) (first : Option SlotUse) → shape.level_of_first first slots ≡ true → ((s : SlotUse) → Stands slots s → s.used ≡ true → first ≡ None → ⊥) → (s : SlotUse) → Stands slots s → s.used ≡ true → written.level_or_zero first ≡ s.level
alike_by slots None h none s t u = absurd (none s t u refl)
alike_by slots (Some f) h none s t u = not_used_is s f.level s.used refl (all_at (λ x. shape.not_used_or_at x f.level) slots t.0 s h t.1) u

first_found : (x s : SlotUse) (rest : Option SlotUse) (t : Bool) → x.used ≡ t → x ≡ s → s.used ≡ true → cond t (Some x) rest ≡ None → ⊥
first_found x s rest true e f u n = absurd (cc)
first_found x s rest false e f u n = let same : x.used ≡ s.used = ap (λ (y : SlotUse). y.used) f in absurd (cc)

rest_found : (x : SlotUse) (rest : Option SlotUse) (t : Bool) → cond t (Some x) rest ≡ None → (rest ≡ None → ⊥) → ⊥
rest_found x rest true n h = absurd (cc)
rest_found x rest false n h = h n

found_used : (slots : List SlotUse) (i : ℕ) (s : SlotUse) → slice_get slots i ≡ Some s → s.used ≡ true → find (λ (x : SlotUse). x.used) slots ≡ None → ⊥
found_used [] i s e u n = absurd (cc)
found_used (x ∷ xs) zero s e u n = first_found x s (find (λ (y : SlotUse). y.used) xs) x.used refl (same_Some x s e) u n
found_used (x ∷ xs) (suc i) s e u n = rest_found x (find (λ (y : SlotUse). y.used) xs) x.used n (found_used xs i s e u)

level_used : (slots : List SlotUse) → shape.levels_alike slots ≡ true → (s : SlotUse) → Stands slots s → s.used ≡ true → written.used_level slots ≡ s.level
level_used slots h s t u = alike_by slots (find (λ (x : SlotUse). x.used) slots) h (λ x y z n. found_used slots y.0 x y.1 z n) s t u

-- the level of all used ports is a level of the variant
by_first : (count : ℕ) (s : SlotUse) (rest : Option SlotUse) (t : Bool) → s.level < count → written.level_or_zero rest < count → written.level_or_zero (cond t (Some s) rest) < count
by_first count s rest true h k = h
by_first count s rest false h k = k

pub first_low : (v : Variant) (slots : List SlotUse) → 0 < length v.widths → ((s : SlotUse) → Stands slots s → s.level < length v.widths) → written.used_level slots < length v.widths
first_low v [] some h = some
first_low v (s ∷ slots) some h = by_first (length v.widths) s (find (λ (y : SlotUse). y.used) slots) s.used (h s (0, refl)) (first_low v slots some (λ x t. h x (suc t.0, t.1)))

-- every port has a level of the variant
low_names : (v : Variant) (g : Group) (n : ℕ) (slots : List SlotUse) → Each g.levels (λ k. k < length v.widths) → list_all (shape.slot_fits v g) (take n slots) ≡ true → (i : ℕ) (s : SlotUse) → i < n → slice_get slots i ≡ Some s → s.level < length v.widths
low_names v g zero slots h fits i s l e = absurd (omega arith)
low_names v g (suc n) [] h fits i s l e = absurd (cc)
low_names v g (suc n) (x ∷ xs) h fits zero s l e =
    let p = and_parts (shape.slot_fits v g x) (list_all (shape.slot_fits v g) (take n xs)) fits in
    subst (λ (y : SlotUse). y.level < length v.widths) (same_Some x s e) (low_level v g x h p.0)
low_names v g (suc n) (x ∷ xs) h fits (suc i) s l e =
    let p = and_parts (shape.slot_fits v g x) (list_all (shape.slot_fits v g) (take n xs)) fits in
    low_names v g n xs h p.1 i s (omega arith) e

behind_at : {X : Type 0} (n : ℕ) (xs : List X) (i : ℕ) (x : X) → n ≤ i → slice_get xs i ≡ Some x → Stands (drop n xs) x
behind_at zero xs i x h e = (i, e)
behind_at (suc n) [] i x h e = absurd (cc)
behind_at (suc n) (y ∷ ys) zero x h e = absurd (omega arith)
behind_at (suc n) (y ∷ ys) (suc i) x h e = behind_at n ys i x (omega arith) e

none_is : (n : ℕ) → nat_eq (suc n) 0 ≡ true → ⊥
none_is n h = absurd (grind (arith, nat_tests))

pub low_slots : (v : Variant) (gs : List Group) (slots : List SlotUse) → Each gs (λ g. Each g.levels (λ k. k < length v.widths)) → shape.slots_fit v gs slots ≡ true → (s : SlotUse) → Stands slots s → s.level < length v.widths
low_slots v [] [] h fits s t = absurd (cc (t.1))
low_slots v [] (x ∷ xs) h fits s t = absurd (none_is (length xs) fits)
low_slots v (g ∷ gs) slots h fits s t =
    let n = length g.names in
    let p = and_parts (nat_le n (length slots)) (list_all (shape.slot_fits v g) (take n slots) && shape.slots_fit v gs (drop n slots)) fits in
    let q = and_parts (list_all (shape.slot_fits v g) (take n slots)) (shape.slots_fit v gs (drop n slots)) p.1 in
    elim (cases_lt t.0 n) as (λ _. s.level < length v.widths) [
      | inl l ↦ low_names v g n slots (h 0 g refl) q.0 t.0 s l t.1
      | inr l ↦ low_slots v gs (drop n slots) (λ i x e. h (suc i) x e) q.1 s (behind_at n slots t.0 s l t.1)
    ]

-- ---- the cell

-- what is known of a cell that fits
pub record Fitting (v : Variant) (c : RamCell) : Type 0 where
  pub slots : shape.slots_fit v v.groups c.slots ≡ true
  levels : (v.per_port || shape.levels_alike c.slots) ≡ true
  contents : shape.contents_fit v c.init ≡ true

pub fitting : (v : Variant) (c : RamCell) → shape.fits_variant c (Some v) ≡ true → Fitting v c
fitting v c h =
    let p = and_parts (shape.slots_fit v v.groups c.slots) ((v.per_port || shape.levels_alike c.slots) && shape.contents_fit v c.init) h in
    let q = and_parts (v.per_port || shape.levels_alike c.slots) (shape.contents_fit v c.init) p.1 in
    record { slots = p.0; levels = q.0; contents = q.1 }

-- the level that is told
record LevelBack (v : Variant) (c : RamCell) : Type 0 where
  told : rows.level_at v (written.ram_params v c) ≡ Some (written_level v c.slots)
  ports : Told v (written_level v c.slots) c.slots

only_level : (count l : ℕ) → nat_lt 1 count ≡ false → l < count → 0 ≡ l
only_level count l h k = grind (arith, nat_tests)

by_level : (v : Variant) (params : List Attr) (slots : List SlotUse) (per several : Bool) → v.per_port ≡ per → nat_lt 1 (length v.widths) ≡ several → HasWidths v
    → (per || shape.levels_alike slots) ≡ true → ((s : SlotUse) → Stands slots s → s.level < length v.widths)
    → ((not per && several) ≡ true → number_at params (codes "\\WIDTH") ≡ Some (width_at v.widths (written.used_level slots)))
    → ((if per then Some level.Own else (if not per && several then option_and_then (λ w. Some (level.Common (rows.width_place v w))) (number_at params (codes "\\WIDTH")) else Some (level.Common 0)))
    ≡ Some (if per then level.Own else (if not per && several then level.Common (written.used_level slots) else level.Common 0)))
    × Told v (if per then level.Own else (if not per && several then level.Common (written.used_level slots) else level.Common 0)) slots
by_level v params slots true several p q w h low number = (refl, λ s t l. p)
by_level v params slots false true p q w h low number =
    let first = first_low v slots w.some low in (
      (λ i. option_and_then {T = ℕ} {U = Level} (λ x. Some (level.Common (rows.width_place v x))) (number refl i)) ∙ ap (λ k. Some (level.Common k)) (place_back v.widths (written.used_level slots) (length v.widths) first w.apart),
      λ s t l u. level_used slots h s t u,
    )
by_level v params slots false false p q w h low number =
    (refl, λ s t l u. only_level (length v.widths) s.level q l)

width_stands : (v : Variant) (c : RamCell) → rows.is_global v ≡ true → Stands (written.ram_params v c) (number_attr (codes "\\WIDTH") (width_at v.widths (written.used_level c.slots)))
unfolding written.width_params
width_stands v c e =
    let options = written.option_params v.options in
    let width = written.width_params v c.slots in
    let init = written.init_params v c in
    in_left ((options ++ width) ++ init) (written.groups_params v v.groups c.slots) _
    (in_left (options ++ width) init _ (in_right options width _ (has_stands (rows.is_global v) _ e)))

level_of_cell : (v : Variant) (c : RamCell) → HasWidths v → Fitting v c → AreApart (names_of (written.ram_params v c)) → LevelBack v c
unfolding rows.level_at
level_of_cell v c w f own =
    let low = low_slots v v.groups c.slots w.levels f.slots in
    let number = λ (e : rows.is_global v ≡ true).
    ap (option_and_then attr_number) (found (written.ram_params v c) _ own (width_stands v c e))
    ∙ number_attr_number (codes "\\WIDTH") (width_at v.widths (written.used_level c.slots)) (w.small (written.used_level c.slots) (first_low v c.slots w.some low)) in
    let r = by_level v (written.ram_params v c) c.slots v.per_port (nat_lt 1 (length v.widths)) refl refl w f.levels low number in
    record { told = r.0; ports = r.1 }

init_back : (v : Variant) (c : RamCell) → shape.contents_fit v c.init ≡ true → AreApart (names_of (written.ram_params v c)) → rows.value_if (takes_value v.fill) (written.ram_params v c) (codes "\\INIT") ≡ Some c.init
unfolding written.init_params
init_back v c fits own =
    let options = written.option_params v.options in
    let width = written.width_params v c.slots in
    let init = written.init_params v c in
    value_back (takes_value v.fill) (written.ram_params v c) (codes "\\INIT") c.init
    (λ t. found (written.ram_params v c) _ own (in_left ((options ++ width) ++ init) (written.groups_params v v.groups c.slots) _
    (in_right (options ++ width) init _ (has_stands (takes_value v.fill) _ t))))
    (no_value v.fill c.init (last_words v * last_width v) fits)

pub row_reads_back : RowReadsBack
unfolding rows.row_at
row_reads_back v c w fits own =
    let f = fitting v c fits in
    let l = level_of_cell v c w f own in
    let params = written.ram_params v c in
    let slots = groups_back v (written_level v c.slots) params v.groups c.slots w w.levels own (in_right ((written.option_params v.options ++ written.width_params v c.slots) ++ written.init_params v c) (written.groups_params v v.groups c.slots)) f.slots l.ports in
    let init = init_back v c f.contents own in
    (λ i. option_and_then {T = Level} {U = RamRow} (λ x. option_and_then {T = List SlotRow} {U = RamRow} (λ ss. option_and_then {T = List Tri} {U = RamRow} (λ b. Some (record { level = x; slots = ss; init = b }))
    (init i)) (rows.groups_at v x params v.groups)) (l.told i))
    ∙ (λ i. option_and_then {T = List SlotRow} {U = RamRow} (λ ss. Some (record { level = written_level v c.slots; slots = ss; init = c.init })) (slots i))
