-- What holds of the slots that are made of rows holds of the slots of the cell, with their kinds.
use Rattle.std.proofs.Common.{◌≡◌, ℕ, zero, suc, ◌+◌, List, [], ◌∷◌, ◌++◌, drop, length, refl, sym, ap, ◌∙◌, subst}
use Rattle.lib_core.specs.declared.library.Group.{Group}
use Rattle.lib_core.specs.declared.library.Variant.{Variant}
use Rattle.lib_core.specs.Rams.{reads_now}
use Rattle.rtlil_text.specs.Grammar.{All}
use Rattle.net_core.specs.declared.bits.Bit.{Bit}
use Rattle.net_core.specs.declared.rams.SlotUse.{SlotUse}
use Rattle.net_core.specs.Ram.{group_slots, skip, Slot, slots_from, slots_of}
use Rattle.net_wires.specs.declared.clock.ClockRoot.{ClockRoot}
use Rattle.ram_rows.specs.declared.slots.SlotRow.{SlotRow}
use Rattle.raw_cells.specs.declared.raw.RamUse.{RamUse}
use Rattle.raw_cells.specs.declared.raw.RawPin.{RawPin}
use Rattle.raw_cells.specs.RamCells.{groups_slots, names_slots, ram_of, slot_of}

-- so it is of each row of a group, and of groups
abbrev pub NamesHold : (Group → SlotRow → Type 0) → Group → List (List ℕ) → List SlotRow → Type 0
NamesHold P g [] rows = Unit {0}
NamesHold P g (n ∷ ns) [] = Unit {0}
NamesHold P g (n ∷ ns) (r ∷ rs) = P g r × NamesHold P g ns rs

abbrev pub GroupsHold : (Group → SlotRow → Type 0) → List Group → List SlotRow → Type 0
GroupsHold P [] rows = Unit {0}
GroupsHold P (g ∷ gs) rows = NamesHold P g g.names rows × GroupsHold P gs (drop (length g.names) rows)

pub names_hold : (P : Group → SlotRow → Type 0) → ((g : Group) (r : SlotRow) → P g r) → (g : Group) (ns : List (List ℕ)) (rows : List SlotRow) → NamesHold P g ns rows
names_hold P f g [] rows = tt
names_hold P f g (n ∷ ns) [] = tt
names_hold P f g (n ∷ ns) (r ∷ rs) = (f g r, names_hold P f g ns rs)

pub groups_hold : (P : Group → SlotRow → Type 0) → ((g : Group) (r : SlotRow) → P g r) → (gs : List Group) (rows : List SlotRow) → GroupsHold P gs rows
groups_hold P f [] rows = tt
groups_hold P f (g ∷ gs) rows = (names_hold P f g g.names rows, groups_hold P f gs (drop (length g.names) rows))

joined : (Q : Slot → Type 0) (xs ys : List Slot) → All Q xs → All Q ys → All Q (xs ++ ys)
joined Q [] ys a b = b
joined Q (x ∷ xs) ys a b = (a.0, joined Q xs ys a.1 b)

module _ (places : List Bit) (roots : List ClockRoot) (pins : List RawPin) (P : Group → SlotRow → Type 0) (Q : Group → SlotUse → Type 0) (made : (g : Group) (n : List ℕ) (r : SlotRow) → P g r → Q g (slot_of places roots pins g n r)) where
  abbrev OfKind : Slot → Type 0
  OfKind s = Q s.kind s.pins

  abbrev slots : List Group → List SlotRow → List SlotUse
  slots gs rows = groups_slots places roots pins gs rows

  abbrev named : Group → List (List ℕ) → List SlotRow → List SlotUse
  named g ns rows = names_slots places roots pins g ns rows

  no_names : (g : Group) (ns : List (List ℕ)) → named g ns [] ≡ []
  no_names g [] = refl
  no_names g (n ∷ ns) = refl

  none_left : (k : ℕ) → ◌≡◌ {A = List SlotRow} (drop k []) []
  none_left zero = refl
  none_left (suc k) = refl

  no_rows : (gs : List Group) → slots gs [] ≡ []
  no_rows [] = refl
  no_rows (g ∷ gs) = ap (λ xs. xs ++ slots gs (drop (length g.names) [])) (no_names g g.names) ∙ ap (slots gs) (none_left (length g.names)) ∙ no_rows gs

  group_none : (number i : ℕ) (g : Group) (k : ℕ) → group_slots number i g k [] ≡ []
  group_none number i g zero = refl
  group_none number i g (suc k) = refl

  skip_none : (k : ℕ) → ◌≡◌ {A = List SlotUse} (skip k []) []
  skip_none zero = refl
  skip_none (suc k) = refl

  first_part : (gs : List Group) (g : Group) (number i : ℕ) (ns : List (List ℕ)) (rows : List SlotRow) → NamesHold P g ns rows → All OfKind (group_slots number i g (length ns) (named g ns rows ++ slots gs (drop (length ns) rows)))
  first_part gs g number i [] rows h = tt
  first_part gs g number i (n ∷ ns) [] h = subst (λ (ss : List SlotUse). All OfKind (group_slots number i g (suc (length ns)) ss)) (sym (no_rows gs)) tt
  first_part gs g number i (n ∷ ns) (r ∷ rs) h = (made g n r h.0, first_part gs g (number + 1) i ns rs h.1)

  skipped : (gs : List Group) (g : Group) (ns : List (List ℕ)) (rows : List SlotRow) → skip (length ns) (named g ns rows ++ slots gs (drop (length ns) rows)) ≡ slots gs (drop (length ns) rows)
  skipped gs g [] rows = refl
  skipped gs g (n ∷ ns) [] = ap (skip (suc (length ns))) (no_rows gs) ∙ sym (no_rows gs)
  skipped gs g (n ∷ ns) (r ∷ rs) = skipped gs g ns rs

  all_kinds : (number i : ℕ) (gs : List Group) (rows : List SlotRow) → GroupsHold P gs rows → All OfKind (slots_from number i gs (slots gs rows))
  all_kinds number i [] rows h = tt
  all_kinds number i (g ∷ gs) rows h =
      let rest : All OfKind (slots_from (number + length g.names) (i + 1) gs (slots gs (drop (length g.names) rows))) = all_kinds (number + length g.names) (i + 1) gs (drop (length g.names) rows) h.1 in
      joined OfKind (group_slots number i g (length g.names) (named g g.names rows ++ slots gs (drop (length g.names) rows))) _ (first_part gs g number i g.names rows h.0)
      (subst (λ (ss : List SlotUse). All OfKind (slots_from (number + length g.names) (i + 1) gs ss)) (sym (skipped gs g g.names rows)) rest)

  pub kinds_of : (name : List ℕ) (u : RamUse) (v : Variant) → GroupsHold P v.groups u.row.slots → All OfKind (slots_of v (ram_of places roots name u v pins))
  unfolding ram_of
  kinds_of name u v h = all_kinds 0 0 v.groups u.row.slots h

slot_reads : (places : List Bit) (roots : List ClockRoot) (pins : List RawPin) (g : Group) (n : List ℕ) (r : SlotRow) → (slot_of places roots pins g n r).reads_now ≡ reads_now g.kind
unfolding slot_of
slot_reads places roots pins g n r = refl

-- each slot says of itself whether it reads at once, as its kind does
pub reads_told : (places : List Bit) (roots : List ClockRoot) (pins : List RawPin) (name : List ℕ) (u : RamUse) (v : Variant) → All (λ (s : Slot). s.pins.reads_now ≡ reads_now s.kind.kind) (slots_of v (ram_of places roots name u v pins))
reads_told places roots pins name u v =
    kinds_of places roots pins (λ g r. Unit {0}) (λ g s. s.reads_now ≡ reads_now g.kind) (λ g n r h. slot_reads places roots pins g n r) name u v (groups_hold (λ g r. Unit {0}) (λ g r. tt) v.groups u.row.slots)
