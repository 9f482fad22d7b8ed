-- The levels of a cell are levels of its variant.
use Rattle.std.proofs.Common.{◌≡◌, ℕ, suc, ◌<◌, Bool, true, false, List, [], ◌∷◌, ◌++◌, length, drop, refl, arith}
use Rattle.std.specs.Prelude.{nat_le, ◌||◌, if◌then◌else◌}
use Rattle.std.specs.List.{list_any}
use Rattle.std.proofs.lemmas.Bool.Decides.{nat_tests}
use Rattle.lib_core.specs.declared.library.Group.{Group}
use Rattle.net_core.specs.declared.rams.SlotUse.{SlotUse}
use Rattle.ram_rows.specs.RamRows.{any_strange, is_global, is_strange}
use Rattle.ram_rows.specs.declared.slots.Level.TheVariants as level
use Rattle.ram_rows.specs.declared.slots.SlotRow.{SlotRow}
use Rattle.ram_written.specs.Params.{used_level}
use Rattle.ram_written.specs.Laws.{groups_rows, names_rows, NoStrangeLevel}
use Rattle.ram_written.proofs.Found.{Stands}
use Rattle.ram_written.proofs.Rows.{first_low, fitting, low_slots, taken_stands}

below : (count l : ℕ) → l < count → nat_le count l ≡ false
below count l h = grind (arith, nat_tests)

one_more : (t any all : Bool) → (t || any) ≡ false → (any ≡ false → all ≡ false) → (t || all) ≡ false
one_more true any all h f = absurd (cc)
one_more false any all h f = f h

none_of_both : {X : Type 0} (test : X → Bool) (xs ys : List X) → list_any test xs ≡ false → list_any test ys ≡ false → list_any test (xs ++ ys) ≡ false
none_of_both test [] ys h k = k
none_of_both test (x ∷ xs) ys h k = one_more (test x) (list_any test xs) (list_any test (xs ++ ys)) h (λ e. none_of_both test xs ys e k)

names_low : (count : ℕ) (g : Group) (ns : List (List ℕ)) (slots : List SlotUse) → ((s : SlotUse) → Stands slots s → s.level < count) → any_strange count (names_rows g ns slots) ≡ false
names_low count g [] slots h = refl
names_low count g (n ∷ ns) [] h = refl
names_low count g (n ∷ ns) (s ∷ slots) h = λ i. below count s.level (h s (0, refl)) i || names_low count g ns slots (λ x t. h x (suc t.0, t.1)) i

groups_low : (count : ℕ) (gs : List Group) (slots : List SlotUse) → ((s : SlotUse) → Stands slots s → s.level < count) → any_strange count (groups_rows gs slots) ≡ false
groups_low count [] slots h = refl
groups_low count (g ∷ gs) slots h =
    none_of_both (λ (r : SlotRow). nat_le count r.level) (names_rows g g.names slots) (groups_rows gs (drop (length g.names) slots)) (names_low count g g.names slots h)
    (groups_low count gs (drop (length g.names) slots) (λ s t. h s (taken_stands (length g.names) slots s t)))

level_low : (count place : ℕ) (per several : Bool) → place < count → is_strange count (if per then level.Own else (if several then level.Common place else level.Common 0)) ≡ false
level_low count place true several h = refl
level_low count place false true h = below count place h
level_low count place false false h = below count 0 (omega arith)

pub no_strange_level : NoStrangeLevel
no_strange_level v c w fits =
    let low = low_slots v v.groups c.slots w.levels (fitting v c fits).slots in
    λ i. level_low (length v.widths) (used_level c.slots) v.per_port (is_global v) (first_low v c.slots w.some low) i || groups_low (length v.widths) v.groups c.slots low i
