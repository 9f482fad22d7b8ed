-- The cell knows each parameter that is written.
use Rattle.std.proofs.Common.{◌≡◌, ℕ, zero, suc, Bool, true, false, List, [], ◌∷◌, ◌++◌, length, drop, Some, refl, ap, ◌∙◌, sym, ◌⊎◌, inl, inr}
use Rattle.std.specs.Prelude.{codes, slice_get, ◌&&◌, ◌||◌}
use Rattle.std.specs.List.{list_any}
use Rattle.std.specs.Str.{bytes_eq}
use Rattle.std.proofs.lemmas.Option.{same_Some}
use Rattle.std.proofs.lemmas.Slice.Eq.{bytes_eq-Decides}
use Rattle.lib_core.specs.declared.library.Choice.{Choice}
use Rattle.lib_core.specs.declared.library.Group.{Group}
use Rattle.lib_core.specs.declared.library.Tri.{Tri}
use Rattle.lib_core.specs.declared.library.Value.{Value}
use Rattle.lib_core.specs.declared.library.Value.TheVariants as value
use Rattle.lib_core.specs.declared.library.Variant.{Variant}
use Rattle.lib_core.specs.Rams.{takes_value}
use Rattle.net_core.specs.declared.mems.Attr.{Attr}
use Rattle.net_core.specs.declared.rams.RamCell.{RamCell}
use Rattle.net_core.specs.declared.rams.SlotUse.{SlotUse}
use Rattle.ram_rows.specs.RamNames.{option_name, slot_name, slot_option_name}
use Rattle.ram_rows.specs.RamPins as table
use Rattle.ram_rows.specs.RamRows.{is_global}
use Rattle.ram_written.specs.Params as written
use Rattle.ram_written.specs.Laws.{KnowsWritten}
use Rattle.ram_written.proofs.Found.{Stands}

-- ---- where a parameter stands

in_either : {X : Type 0} (xs ys : List X) (i : ℕ) (x : X) → slice_get (xs ++ ys) i ≡ Some x → Stands xs x ⊎ Stands ys x
in_either [] ys i x e = inr (i, e)
in_either (y ∷ xs) ys zero x e = inl (0, e)
in_either (y ∷ xs) ys (suc i) x e =
    elim (in_either xs ys i x e) as (λ _. Stands (y ∷ xs) x ⊎ Stands ys x) [
      | inl s ↦ inl (suc s.0, s.1)
      | inr s ↦ inr s
    ]

only_one : (a p : Attr) (i : ℕ) → slice_get (a ∷ []) i ≡ Some p → p ≡ a
only_one a p zero e = sym (same_Some a p e)
only_one a p (suc i) e = absurd (cc)

both_true : (a b : Bool) → a ≡ true → b ≡ true → (a && b) ≡ true
both_true true b h k = k
both_true false b h k = h

of_has : (has : Bool) (a p : Attr) → Stands (written.where_has has a) p → (has ≡ true) × (p ≡ a)
of_has true a p s = (refl, only_one a p s.0 s.1)
of_has false a p s = absurd (cc (s.1))

is_same : (name wanted : List ℕ) → name ≡ wanted → bytes_eq name wanted ≡ true
is_same name wanted e = (bytes_eq-Decides name wanted).1 e

right : (t any : Bool) → any ≡ true → (t || any) ≡ true
right true any h = refl
right false any h = h

left : (t any : Bool) → t ≡ true → (t || any) ≡ true
left true any h = refl
left false any h = absurd (cc)

-- ---- options

value_name : (name : List ℕ) (v : Value) → (written.value_attr name v).name ≡ name
value_name name (value.Number n) = refl
value_name name (value.Text t) = refl

option_known : (options : List Choice) (i : ℕ) (p : Attr) → slice_get (written.option_params options) i ≡ Some p → list_any (λ (c : Choice). bytes_eq p.name (option_name c.name)) options ≡ true
unfolding written.option_attr
option_known [] i p e = absurd (cc)
option_known (o ∷ os) zero p e =
    let name = sym (ap (λ (q : Attr). q.name) (same_Some _ p e)) ∙ value_name (option_name o.name) o.value in
    left (bytes_eq p.name (option_name o.name)) (list_any (λ (c : Choice). bytes_eq p.name (option_name c.name)) os) (is_same p.name (option_name o.name) name)
option_known (o ∷ os) (suc i) p e =
    right (bytes_eq p.name (option_name o.name)) (list_any (λ (c : Choice). bytes_eq p.name (option_name c.name)) os) (option_known os i p e)

slot_option_known : (slot : List ℕ) (options : List Choice) (i : ℕ) (p : Attr) → slice_get (written.slot_option_params slot options) i ≡ Some p → list_any (λ (c : Choice). bytes_eq p.name (slot_option_name slot c.name)) options ≡ true
unfolding written.slot_option_attr
slot_option_known slot [] i p e = absurd (cc)
slot_option_known slot (o ∷ os) zero p e =
    let name = sym (ap (λ (q : Attr). q.name) (same_Some _ p e)) ∙ value_name (slot_option_name slot o.name) o.value in
    left (bytes_eq p.name (slot_option_name slot o.name)) (list_any (λ (c : Choice). bytes_eq p.name (slot_option_name slot c.name)) os) (is_same p.name (slot_option_name slot o.name) name)
slot_option_known slot (o ∷ os) (suc i) p e =
    right (bytes_eq p.name (slot_option_name slot o.name)) (list_any (λ (c : Choice). bytes_eq p.name (slot_option_name slot c.name)) os) (slot_option_known slot os i p e)

-- ---- ports

control_one : (a b c d e : Bool) → a ≡ true → (a || (b && c) || (d && e)) ≡ true
control_one true b c d e h = refl
control_one false b c d e h = absurd (cc)

control_two : (a b c d e : Bool) → b ≡ true → c ≡ true → (a || (b && c) || (d && e)) ≡ true
control_two true b c d e h k = refl
control_two false true true d e h k = refl
control_two false true false d e h k = absurd (cc)
control_two false false c d e h k = absurd (cc)

control_three : (a b c d e : Bool) → d ≡ true → e ≡ true → (a || (b && c) || (d && e)) ≡ true
control_three true b c d e h k = refl
control_three false true true d e h k = refl
control_three false true false true true h k = refl
control_three false true false true false h k = absurd (cc)
control_three false true false false e h k = absurd (cc)
control_three false false c true true h k = refl
control_three false false c true false h k = absurd (cc)
control_three false false c false e h k = absurd (cc)

first_of : (a b c : Bool) → a ≡ true → (a || b || c) ≡ true
first_of true b c h = refl
first_of false b c h = absurd (cc)

second_of : (a b c : Bool) → b ≡ true → (a || b || c) ≡ true
second_of true b c h = refl
second_of false true c h = refl
second_of false false c h = absurd (cc)

third_of : (a b c : Bool) → c ≡ true → (a || b || c) ≡ true
third_of true b c h = refl
third_of false true c h = refl
third_of false false c h = h

use_known : (v : Variant) (g : Group) (n : List ℕ) (s : SlotUse) (i : ℕ) (p : Attr) → slice_get (written.use_params v n s) i ≡ Some p → table.slot_knows_control v g p.name n ≡ true
unfolding written.use_params
use_known v g n s zero p e =
    control_one (bytes_eq p.name (slot_name n (codes "USED"))) v.per_port _ (table.by_either_edge g.edge) _ (is_same p.name _ (sym (ap (λ (q : Attr). q.name) (same_Some _ p e))))
use_known v g n s (suc i) p e =
    let h = of_has v.per_port _ p (i, e) in
    control_two (bytes_eq p.name (slot_name n (codes "USED"))) v.per_port (bytes_eq p.name (slot_name n (codes "WIDTH"))) (table.by_either_edge g.edge) _ h.0 (is_same p.name _ (ap (λ (q : Attr). q.name) h.1))

edge_known : (v : Variant) (g : Group) (n : List ℕ) (s : SlotUse) (p : Attr) → Stands (written.edge_params g n s) p → table.slot_knows_control v g p.name n ≡ true
unfolding written.edge_params
edge_known v g n s p t =
    let h = of_has (table.by_either_edge g.edge) _ p t in
    control_three (bytes_eq p.name (slot_name n (codes "USED"))) v.per_port (bytes_eq p.name (slot_name n (codes "WIDTH"))) (table.by_either_edge g.edge) (bytes_eq p.name (slot_name n (codes "CLK_POL"))) h.0
    (is_same p.name _ (ap (λ (q : Attr). q.name) h.1))

value_known : (has : Bool) (n what : List ℕ) (bits : List Tri) (p : Attr) → Stands (written.value_params has n what bits) p → table.is_name_if has p.name n what ≡ true
unfolding written.value_params table.is_name_if
value_known has n what bits p t =
    let h = of_has has _ p t in
    both_true has (bytes_eq p.name (slot_name n what)) h.0 (is_same p.name (slot_name n what) (ap (λ (q : Attr). q.name) h.1))

values_known : (g : Group) (n : List ℕ) (s : SlotUse) (p : Attr) → Stands (written.slot_values g n s) p → table.slot_knows_value g p.name n ≡ true
values_known g n s p t =
    let one = written.value_params (takes_value g.srst) n (codes "RD_SRST_VALUE") s.srst_value in
    let two = written.value_params (takes_value g.arst) n (codes "RD_ARST_VALUE") s.arst_value in
    let three = written.value_params (takes_value g.start) n (codes "RD_INIT_VALUE") s.init_value in
    let a = table.is_name_if (takes_value g.srst) p.name n (codes "RD_SRST_VALUE") in
    let b = table.is_name_if (takes_value g.arst) p.name n (codes "RD_ARST_VALUE") in
    let c = table.is_name_if (takes_value g.start) p.name n (codes "RD_INIT_VALUE") in
    elim (in_either (one ++ two) three t.0 p t.1) as (λ _. (a || b || c) ≡ true) [
      | inl u ↦ elim (in_either one two u.0 p u.1) as (λ _. (a || b || c) ≡ true) [
        | inl w ↦ first_of a b c (value_known (takes_value g.srst) n (codes "RD_SRST_VALUE") s.srst_value p w)
        | inr w ↦ second_of a b c (value_known (takes_value g.arst) n (codes "RD_ARST_VALUE") s.arst_value p w)
      ]
      | inr u ↦ third_of a b c (value_known (takes_value g.start) n (codes "RD_INIT_VALUE") s.init_value p u)
    ]

slot_known : (v : Variant) (g : Group) (n : List ℕ) (s : SlotUse) (p : Attr) → Stands (written.slot_params v g n s) p → table.slot_knows_param v g p.name n ≡ true
slot_known v g n s p t =
    let uses = written.use_params v n s in
    let edges = written.edge_params g n s in
    let values = written.slot_values g n s in
    let a = table.slot_knows_control v g p.name n in
    let b = table.slot_knows_value g p.name n in
    let c = list_any (λ (o : Choice). bytes_eq p.name (slot_option_name n o.name)) g.options in
    elim (in_either ((uses ++ edges) ++ values) (written.slot_option_params n g.options) t.0 p t.1) as (λ _. (a || b || c) ≡ true) [
      | inl u ↦ elim (in_either (uses ++ edges) values u.0 p u.1) as (λ _. (a || b || c) ≡ true) [
        | inl w ↦ elim (in_either uses edges w.0 p w.1) as (λ _. (a || b || c) ≡ true) [
          | inl x ↦ first_of a b c (use_known v g n s x.0 p x.1)
          | inr x ↦ first_of a b c (edge_known v g n s p x)
        ]
        | inr w ↦ second_of a b c (values_known g n s p w)
      ]
      | inr u ↦ third_of a b c (slot_option_known n g.options u.0 p u.1)
    ]

names_known : (v : Variant) (g : Group) (ns : List (List ℕ)) (slots : List SlotUse) (p : Attr) → Stands (written.names_params v g ns slots) p → list_any (table.slot_knows_param v g p.name) ns ≡ true
names_known v g [] slots p t = absurd (cc (t.1))
names_known v g (n ∷ ns) [] p t = absurd (cc (t.1))
names_known v g (n ∷ ns) (s ∷ slots) p t =
    let a = table.slot_knows_param v g p.name n in
    let b = list_any (table.slot_knows_param v g p.name) ns in
    elim (in_either (written.slot_params v g n s) (written.names_params v g ns slots) t.0 p t.1) as (λ _. (a || b) ≡ true) [
      | inl u ↦ left a b (slot_known v g n s p u)
      | inr u ↦ right a b (names_known v g ns slots p u)
    ]

groups_known : (v : Variant) (gs : List Group) (slots : List SlotUse) (p : Attr) → Stands (written.groups_params v gs slots) p → list_any (table.group_knows_param v p.name) gs ≡ true
groups_known v [] slots p t = absurd (cc (t.1))
groups_known v (g ∷ gs) slots p t =
    let a = table.group_knows_param v p.name g in
    let b = list_any (table.group_knows_param v p.name) gs in
    elim (in_either (written.names_params v g g.names slots) (written.groups_params v gs (drop (length g.names) slots)) t.0 p t.1) as (λ _. (a || b) ≡ true) [
      | inl u ↦ left a b (names_known v g g.names slots p u)
      | inr u ↦ right a b (groups_known v gs (drop (length g.names) slots) p u)
    ]

-- ---- the cell

width_known : (v : Variant) (slots : List SlotUse) (p : Attr) → Stands (written.width_params v slots) p → (is_global v && bytes_eq p.name (codes "\\WIDTH")) ≡ true
unfolding written.width_params
width_known v slots p t = let h = of_has (is_global v) _ p t in both_true (is_global v) (bytes_eq p.name (codes "\\WIDTH")) h.0 (is_same p.name (codes "\\WIDTH") (ap (λ (q : Attr). q.name) h.1))

init_known : (v : Variant) (c : RamCell) (p : Attr) → Stands (written.init_params v c) p → (takes_value v.fill && bytes_eq p.name (codes "\\INIT")) ≡ true
unfolding written.init_params
init_known v c p t = let h = of_has (takes_value v.fill) _ p t in both_true (takes_value v.fill) (bytes_eq p.name (codes "\\INIT")) h.0 (is_same p.name (codes "\\INIT") (ap (λ (q : Attr). q.name) h.1))

abbrev Four : Bool → Bool → Bool → Bool → Type 0
Four a b c d = (a ≡ true) ⊎ ((b ≡ true) ⊎ ((c ≡ true) ⊎ (d ≡ true)))

four : (a b c d : Bool) → Four a b c d → (a || b || c || d) ≡ true
four true b c d h = refl
four false true c d h = refl
four false false true d h = refl
four false false false true h = refl
four false false false false (inl h) = h
four false false false false (inr (inl h)) = h
four false false false false (inr (inr (inl h))) = h
four false false false false (inr (inr (inr h))) = h

pub knows_written : KnowsWritten
unfolding table.knows_param
knows_written v c i p t =
    let options = written.option_params v.options in
    let width = written.width_params v c.slots in
    let init = written.init_params v c in
    let ports = written.groups_params v v.groups c.slots in
    four (is_global v && bytes_eq p.name (codes "\\WIDTH")) (takes_value v.fill && bytes_eq p.name (codes "\\INIT")) (list_any (λ (o : Choice). bytes_eq p.name (option_name o.name)) v.options) (list_any (table.group_knows_param v p.name) v.groups)
    (elim (in_either ((options ++ width) ++ init) ports i p t) as (λ _. Four (is_global v && bytes_eq p.name (codes "\\WIDTH")) (takes_value v.fill && bytes_eq p.name (codes "\\INIT")) (list_any (λ (o : Choice). bytes_eq p.name (option_name o.name)) v.options) (list_any (table.group_knows_param v p.name) v.groups)) [
      | inl u ↦ elim (in_either (options ++ width) init u.0 p u.1) as (λ _. Four (is_global v && bytes_eq p.name (codes "\\WIDTH")) (takes_value v.fill && bytes_eq p.name (codes "\\INIT")) (list_any (λ (o : Choice). bytes_eq p.name (option_name o.name)) v.options) (list_any (table.group_knows_param v p.name) v.groups)) [
        | inl w ↦ elim (in_either options width w.0 p w.1) as (λ _. Four (is_global v && bytes_eq p.name (codes "\\WIDTH")) (takes_value v.fill && bytes_eq p.name (codes "\\INIT")) (list_any (λ (o : Choice). bytes_eq p.name (option_name o.name)) v.options) (list_any (table.group_knows_param v p.name) v.groups)) [
          | inl x ↦ inr (inr (inl (option_known v.options x.0 p x.1)))
          | inr x ↦ inl (width_known v c.slots p x)
        ]
        | inr w ↦ inr (inl (init_known v c p w))
      ]
      | inr u ↦ inr (inr (inr (groups_known v v.groups c.slots p u)))
    ])
