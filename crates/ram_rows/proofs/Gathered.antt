-- Ports that are read one after the other.
use Rattle.std.proofs.Common.{◌≡◌, ℕ, ◌+◌, ◌<◌, ◌≤◌, true, false, List, [], ◌∷◌, ◌++◌, length, drop, get_or, Option, Some, None, refl, ap, ◌∙◌, sym, append_assoc, append-nil}
use Rattle.std.specs.Prelude.{option_and_then}
use Rattle.std.proofs.lemmas.List.{at_drop_more, at_drop_all}
use Rattle.std.proofs.lemmas.Option.{same_Some}
use Rattle.lib_core.specs.declared.library.Group.{Group}
use Rattle.lib_core.specs.declared.library.Variant.{Variant}
use Rattle.net_core.specs.declared.mems.Attr.{Attr}
use Rattle.ram_rows.specs.declared.slots.Level.{Level}
use Rattle.lib_core.specs.declared.library.Tri.{Tri}
use Rattle.ram_rows.specs.declared.slots.SlotRow.{SlotRow}
use Rattle.ram_rows.specs.declared.slots.Values.{Values}
use Rattle.ram_rows.specs.RamRows.{slot_at, names_at, groups_at, behind, if_there}

one_behind : (items : List SlotRow) (s : SlotRow) (rest : Option (List SlotRow)) → behind items (option_and_then {T = List SlotRow} {U = List SlotRow} (λ ss. Some (s ∷ ss)) rest) ≡ behind (items ++ s ∷ []) rest
one_behind items s None = refl
one_behind items s (Some ss) = ap (λ ys. Some ys) (sym (append_assoc items (s ∷ []) ss))

-- ---- the ports of a group

module _ (v : Variant) (g : Group) (l : Level) (params : List Attr) where
  step_by : (items : List SlotRow) (s : SlotRow) (at : Option SlotRow) (rest : Option (List SlotRow)) → at ≡ Some s
      → behind items (option_and_then {T = SlotRow} {U = List SlotRow} (λ t. option_and_then {T = List SlotRow} {U = List SlotRow} (λ ss. Some (t ∷ ss)) rest) at) ≡ behind (items ++ s ∷ []) rest
  step_by items s at rest e = ap (λ o. behind items (option_and_then {T = SlotRow} {U = List SlotRow} (λ t. option_and_then {T = List SlotRow} {U = List SlotRow} (λ ss. Some (t ∷ ss)) rest) o)) e ∙ one_behind items s rest

  -- one more
  pub name_step : (items : List SlotRow) (names : List (List ℕ)) (i : ℕ) (name d : List ℕ) (s : SlotRow) (whole : Option (List SlotRow)) → i < length names → name ≡ get_or names i d → Some s ≡ slot_at v g l params name
      → behind items (names_at v g l params (drop i names)) ≡ whole → behind (items ++ s ∷ []) (names_at v g l params (drop (i + 1) names)) ≡ whole
  unfolding names_at
  name_step items names i name d s whole within is at before =
      sym (step_by items s (slot_at v g l params (get_or names i d)) (names_at v g l params (drop (i + 1) names)) (ap (slot_at v g l params) (sym is) ∙ sym at))
      ∙ sym (at_drop_more (λ ns. behind items (names_at v g l params ns)) names i d within) ∙ before

  -- a parameter is missing
  pub name_lacks : (items : List SlotRow) (names : List (List ℕ)) (i : ℕ) (name d : List ℕ) (whole : Option (List SlotRow)) → i < length names → name ≡ get_or names i d → None ≡ slot_at v g l params name
      → behind items (names_at v g l params (drop i names)) ≡ whole → None ≡ whole
  unfolding names_at
  name_lacks items names i name d whole within is at before =
      let here : slot_at v g l params (get_or names i d) ≡ None = ap (slot_at v g l params) (sym is) ∙ sym at in
      ap (λ o. behind items (option_and_then {T = SlotRow} {U = List SlotRow} (λ t. option_and_then {T = List SlotRow} {U = List SlotRow} (λ ss. Some (t ∷ ss)) (names_at v g l params (drop (i + 1) names))) o)) (sym here)
      ∙ sym (at_drop_more (λ ns. behind items (names_at v g l params ns)) names i d within) ∙ before

  pub names_end : (items : List SlotRow) (names : List (List ℕ)) (i : ℕ) (whole : Option (List SlotRow)) → length names ≤ i → behind items (names_at v g l params (drop i names)) ≡ whole → Some items ≡ whole
  unfolding names_at
  names_end items names i whole past before =
      ap (λ ys. Some ys) (sym (append-nil items)) ∙ sym (at_drop_all (λ ns. behind items (names_at v g l params ns)) names i past) ∙ before

-- ---- the ports of groups

more_behind : (old new : List SlotRow) (here later : Option (List SlotRow)) → Some new ≡ behind old here
    → behind old (option_and_then {T = List SlotRow} {U = List SlotRow} (λ ss. option_and_then {T = List SlotRow} {U = List SlotRow} (λ ts. Some (ss ++ ts)) later) here) ≡ behind new later
more_behind old new None later e = absurd (cc)
more_behind old new (Some ss) None e = refl
more_behind old new (Some ss) (Some ts) e = ap (λ ys. Some ys) (sym (append_assoc old ss ts) ∙ ap (λ zs. zs ++ ts) (sym (same_Some _ _ e)))

none_behind : (old : List SlotRow) (here later : Option (List SlotRow)) → None ≡ behind old here
    → option_and_then {T = List SlotRow} {U = List SlotRow} (λ ss. option_and_then {T = List SlotRow} {U = List SlotRow} (λ ts. Some (ss ++ ts)) later) here ≡ None
none_behind old None later e = refl
none_behind old (Some ss) later e = absurd (cc)

module _ (v : Variant) (l : Level) (params : List Attr) where
  pub group_step : (old new : List SlotRow) (groups : List Group) (i : ℕ) (g d : Group) (whole : Option (List SlotRow)) → i < length groups → g ≡ get_or groups i d
      → if_there true new ≡ behind old (names_at v g l params g.names) → behind old (groups_at v l params (drop i groups)) ≡ whole → behind new (groups_at v l params (drop (i + 1) groups)) ≡ whole
  unfolding groups_at
  group_step old new groups i g d whole within is put before =
      let h = get_or groups i d in
      let here : Some new ≡ behind old (names_at v h l params h.names) = put ∙ ap (λ (k : Group). behind old (names_at v k l params k.names)) is in
      sym (more_behind old new (names_at v h l params h.names) (groups_at v l params (drop (i + 1) groups)) here)
      ∙ sym (at_drop_more (λ gs. behind old (groups_at v l params gs)) groups i d within) ∙ before

  pub group_lacks : (old new : List SlotRow) (groups : List Group) (i : ℕ) (g d : Group) (whole : Option (List SlotRow)) → i < length groups → g ≡ get_or groups i d
      → if_there false new ≡ behind old (names_at v g l params g.names) → behind old (groups_at v l params (drop i groups)) ≡ whole → None ≡ whole
  unfolding groups_at
  group_lacks old new groups i g d whole within is put before =
      let h = get_or groups i d in
      let here : None ≡ behind old (names_at v h l params h.names) = put ∙ ap (λ (k : Group). behind old (names_at v k l params k.names)) is in
      ap (behind old) (sym (none_behind old (names_at v h l params h.names) (groups_at v l params (drop (i + 1) groups)) here))
      ∙ sym (at_drop_more (λ gs. behind old (groups_at v l params gs)) groups i d within) ∙ before

  pub groups_end : (items : List SlotRow) (groups : List Group) (i : ℕ) (whole : Option (List SlotRow)) → length groups ≤ i → behind items (groups_at v l params (drop i groups)) ≡ whole → Some items ≡ whole
  unfolding groups_at
  groups_end items groups i whole past before =
      ap (λ ys. Some ys) (sym (append-nil items)) ∙ sym (at_drop_all (λ gs. behind items (groups_at v l params gs)) groups i past) ∙ before

nothing_before : (o : Option (List SlotRow)) → behind [] o ≡ o
nothing_before None = refl
nothing_before (Some ss) = refl

pub groups_begin : (v : Variant) (l : Level) (params : List Attr) (items : List SlotRow) (groups : List Group) → items ≡ [] → behind items (groups_at v l params (drop 0 groups)) ≡ groups_at v l params groups
groups_begin v l params items groups e = ap (λ ys. behind ys (groups_at v l params groups)) e ∙ nothing_before (groups_at v l params groups)

-- ---- values

pub values_found : (a b d : Option (List Tri)) (x y z : List Tri) → Some x ≡ a → Some y ≡ b → Some z ≡ d
    → Some (record { srst = x; arst = y; start = z }) ≡ option_and_then {T = List Tri} {U = Values} (λ s. option_and_then {T = List Tri} {U = Values} (λ t. option_and_then {T = List Tri} {U = Values} (λ u. Some (record { srst = s; arst = t; start = u })) d) b) a
values_found a b d x y z p q r = λ i. option_and_then {T = List Tri} {U = Values} (λ s. option_and_then {T = List Tri} {U = Values} (λ t. option_and_then {T = List Tri} {U = Values} (λ u. Some (record { srst = s; arst = t; start = u })) (r i)) (q i)) (p i)
