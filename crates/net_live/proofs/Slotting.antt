-- The test of slots says that each of them reads at once where its kind does, and is true wherever that holds.
use Rattle.std.proofs.Common.{◌≡◌, ℕ, zero, suc, ◌+◌, Bool, true, false, List, [], ◌∷◌, length, take, drop, inl, inr, Option, Some, None, refl, sym, subst, ◌∙◌}
use Rattle.std.specs.Prelude.{slice_get}
use Rattle.std.specs.List.{list_all}
use Rattle.std.proofs.lemmas.Option.{none-some, same_Some}
use Rattle.lib_core.specs.declared.library.Group.{Group}
use Rattle.lib_core.specs.declared.library.Variant.{Variant}
use Rattle.lib_core.specs.declared.library.Library.{Library}
use Rattle.lib_core.specs.Rams.{reads_now}
use Rattle.net_core.specs.declared.rams.SlotUse.{SlotUse}
use Rattle.net_core.specs.declared.rams.RamCell.{RamCell}
use Rattle.net_core.specs.declared.modules.Module.{Module}
use Rattle.net_core.specs.Values.{same_bool}
use Rattle.net_core.specs.Ram.{Slot, group_slots, skip, slots_from, slots_of}
use Rattle.net_core.specs.Runs.{variant_of, ReadsAgree}
use Rattle.net_core.proofs.Basics.{and_left, and_right, both, all_at, get_left, get_right, get_joined}
use Rattle.net_live.specs.Slots.{slot_agrees, slots_agree, agrees_with, cell_agrees}
use Rattle.net_live.proofs.Judged.{not_is, is_not, each_all}

abbrev Agrees : Slot → Type 0
Agrees s = s.pins.reads_now ≡ reads_now s.kind.kind

same_is : (a b : Bool) → same_bool a b ≡ true → a ≡ b
same_is true b h = sym h
same_is false b h = sym (not_is b h)

skip_is : (n : ℕ) (ps : List SlotUse) → skip n ps ≡ drop n ps
skip_is zero ps = refl
skip_is (suc n) [] = refl
skip_is (suc n) (p ∷ ps) = skip_is n ps

group_agrees : (number g : ℕ) (kind : Group) (n : ℕ) (ps : List SlotUse) → list_all (slot_agrees kind) (take n ps) ≡ true → (j : ℕ) (s : Slot) → slice_get (group_slots number g kind n ps) j ≡ Some s → Agrees s
group_agrees number g kind zero ps h j s e = absurd (none-some s e)
group_agrees number g kind (suc n) [] h j s e = absurd (none-some s e)
group_agrees number g kind (suc n) (p ∷ ps) h zero s e =
    subst Agrees (same_Some _ s e) (same_is p.reads_now (reads_now kind.kind) (and_left (slot_agrees kind p) (list_all (slot_agrees kind) (take n ps)) h))
group_agrees number g kind (suc n) (p ∷ ps) h (suc j) s e = group_agrees (number + 1) g kind n ps (and_right (slot_agrees kind p) (list_all (slot_agrees kind) (take n ps)) h) j s e

groups_agree : (number g : ℕ) (kinds : List Group) (ps : List SlotUse) → slots_agree kinds ps ≡ true → (j : ℕ) (s : Slot) → slice_get (slots_from number g kinds ps) j ≡ Some s → Agrees s
groups_agree number g [] ps h j s e = absurd (none-some s e)
groups_agree number g (kind ∷ kinds) ps h j s e =
    let n = length kind.names in
    let here = list_all (slot_agrees kind) (take n ps) in
    let there = slots_agree kinds (drop n ps) in
    let after = subst (λ rest. slots_agree kinds rest ≡ true) (sym (skip_is n ps)) (and_right here there h) in
    elim (get_joined (group_slots number g kind n ps) (slots_from (number + n) (g + 1) kinds (skip n ps)) j s e) [
      | inl at ↦ group_agrees number g kind n ps (and_left here there h) j s at
      | inr (i, is, at) ↦ groups_agree (number + n) (g + 1) kinds (skip n ps) after i s at
    ]

known_agrees : (c : RamCell) (found : Option Variant) → agrees_with c found ≡ true → (x : Variant) → found ≡ Some x → (j : ℕ) (s : Slot) → slice_get (slots_of x c) j ≡ Some s → Agrees s
known_agrees c None h x e = absurd (none-some x e)
known_agrees c (Some y) h x e =
    let t = subst (λ z. slots_agree z.groups c.slots ≡ true) (same_Some y x e) h in
    groups_agree 0 0 x.groups c.slots t

pub cells_are : (lib : Library) (m : Module) → list_all (cell_agrees lib) m.rams ≡ true → ReadsAgree lib m
cells_are lib m h i c g x e j s at = known_agrees c (variant_of lib c) (all_at (cell_agrees lib) m.rams h i c g) x e j s at

-- the other way: where slots read as their kinds do, the test is true
same_passes : (a b : Bool) → a ≡ b → same_bool a b ≡ true
same_passes true b h = sym h
same_passes false b h = is_not b (sym h)

abbrev AllAgree : List Slot → Type 0
AllAgree slots = (j : ℕ) (s : Slot) → slice_get slots j ≡ Some s → Agrees s

group_passes : (number g : ℕ) (kind : Group) (n : ℕ) (ps : List SlotUse) → AllAgree (group_slots number g kind n ps) → list_all (slot_agrees kind) (take n ps) ≡ true
group_passes number g kind zero ps h = refl
group_passes number g kind (suc n) [] h = refl
group_passes number g kind (suc n) (p ∷ ps) h =
    let here = same_passes p.reads_now (reads_now kind.kind) (h 0 _ refl) in
    both (slot_agrees kind p) (list_all (slot_agrees kind) (take n ps)) here (group_passes (number + 1) g kind n ps (λ j s e. h (suc j) s e))

groups_pass : (number g : ℕ) (kinds : List Group) (ps : List SlotUse) → AllAgree (slots_from number g kinds ps) → slots_agree kinds ps ≡ true
groups_pass number g [] ps h = refl
groups_pass number g (kind ∷ kinds) ps h =
    let n = length kind.names in
    let first = group_slots number g kind n ps in
    let more = slots_from (number + n) (g + 1) kinds (skip n ps) in
    let here = group_passes number g kind n ps (λ j s e. h j s (get_left first more j s e)) in
    let there = groups_pass (number + n) (g + 1) kinds (skip n ps) (λ j s e. h (length first + j) s (get_right first more j ∙ e)) in
    both (list_all (slot_agrees kind) (take n ps)) (slots_agree kinds (drop n ps)) here (subst (λ rest. slots_agree kinds rest ≡ true) (skip_is n ps) there)

abbrev Known : RamCell → Option Variant → Type 0
Known c found = (x : Variant) → found ≡ Some x → AllAgree (slots_of x c)

known_passes : (c : RamCell) (found : Option Variant) → Known c found → agrees_with c found ≡ true
known_passes c None h = refl
known_passes c (Some x) h = groups_pass 0 0 x.groups c.slots (h x refl)

pub cells_pass : (lib : Library) (m : Module) → ReadsAgree lib m → list_all (cell_agrees lib) m.rams ≡ true
cells_pass lib m h = each_all (cell_agrees lib) (λ c. Known c (variant_of lib c)) (λ c known. known_passes c (variant_of lib c) known) m.rams h
