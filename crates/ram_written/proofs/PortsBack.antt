-- What is written of a port is read of it.
use Rattle.std.proofs.Common.{◌≡◌, ℕ, suc, ◌<◌, Bool, true, false, cond, List, [], ◌∷◌, ◌++◌, length, Option, Some, None, refl, ap, ◌∙◌, sym, subst, arith}
use Rattle.std.specs.Prelude.{codes, nat_eq, nat_le, option_and_then, ◌&&◌, ◌||◌}
use Rattle.std.specs.List.{list_all, list_any}
use Rattle.std.proofs.lemmas.Bool.{and_parts}
use Rattle.std.proofs.lemmas.Bool.Decides.{nat_tests}
use Rattle.std.proofs.lemmas.List.{nil_from_length}
use Rattle.lib_core.specs.declared.library.EdgeKind.{EdgeKind}
use Rattle.lib_core.specs.declared.library.EdgeKind.TheVariants as edge
use Rattle.lib_core.specs.declared.library.Fill.{Fill}
use Rattle.lib_core.specs.declared.library.Group.{Group}
use Rattle.lib_core.specs.declared.library.Tri.{Tri}
use Rattle.lib_core.specs.declared.library.Variant.{Variant}
use Rattle.lib_core.specs.Rams.{takes_value, width_at}
use Rattle.net_core.specs.declared.mems.Attr.{Attr}
use Rattle.net_core.specs.declared.rams.SlotUse.{SlotUse}
use Rattle.net_core.specs.Shape as shape
use Rattle.net_core.specs.Valid.{AreApart, Each}
use Rattle.cell_consts.specs.Consts.{attr_number, bits_attr, flag_attr, number_attr}
use Rattle.cell_consts.specs.Params.{bits_of_found, flag_at, flag_of_found, named, not_zero, number_at, polarity_at}
use Rattle.cell_consts.proofs.ReadBack.{flag_attr_flag, flag_attr_number, number_attr_number}
use Rattle.ram_rows.specs.RamNames.{slot_name}
use Rattle.ram_rows.specs.RamPins.{by_either_edge}
use Rattle.ram_rows.specs.RamRows as rows
use Rattle.ram_rows.specs.declared.slots.Level.{Level}
use Rattle.ram_rows.specs.declared.slots.Level.TheVariants as level
use Rattle.ram_rows.specs.declared.slots.SlotRow.{SlotRow}
use Rattle.ram_rows.specs.declared.slots.Values.{Values}
use Rattle.ram_written.specs.Params as written
use Rattle.ram_written.specs.Laws.{edge_rises, HasWidths, slot_row}
use Rattle.ram_written.proofs.Found.{found, first_stands, in_left, in_right, names_of, Stands, Within}
use Rattle.ram_written.proofs.Levels.{least_back, place_back}

-- ---- parameters that are there

pub has_stands : (has : Bool) (a : Attr) → has ≡ true → Stands (written.where_has has a) a
has_stands true a e = (0, refl)
has_stands false a e = absurd (cc)

pub value_back : (t : Bool) (params : List Attr) (name : List ℕ) (value : List Tri) → (t ≡ true → named params name ≡ Some (bits_attr name value)) → (t ≡ false → value ≡ []) → rows.value_if t params name ≡ Some value
unfolding rows.value_if
value_back true params name value f g = ap bits_of_found (f refl)
value_back false params name value f g = ap (λ v. Some v) (sym (g refl))

zero_is : (n : ℕ) → nat_eq n 0 ≡ true → n ≡ 0
zero_is n h = grind (arith, nat_tests)

pub no_value : (f : Fill) (value : List Tri) (width : ℕ) → shape.value_fits f value width ≡ true → takes_value f ≡ false → value ≡ []
no_value f value width h e =
    let p = and_parts (shape.has_where (takes_value f) value width) (shape.written_out f value) h in
    nil_from_length value (zero_is (length value) (sym (ap (λ t. nat_eq (length value) (cond t width 0)) e) ∙ p.0))

-- ---- the pieces of what is written of a port

abbrev pub SlotStands : Variant → Group → List Attr → List ℕ → SlotUse → Type 0
SlotStands v g params n s = Within (written.slot_params v g n s) params

used_stands : (v : Variant) (g : Group) (params : List Attr) (n : List ℕ) (s : SlotUse) → SlotStands v g params n s → Stands params (flag_attr (slot_name n (codes "USED")) s.used)
unfolding written.use_params
used_stands v g params n s h =
    let uses = written.use_params v n s in
    h _ (in_left ((uses ++ written.edge_params g n s) ++ written.slot_values g n s) (written.slot_option_params n g.options) _
    (in_left (uses ++ written.edge_params g n s) (written.slot_values g n s) _
    (in_left uses (written.edge_params g n s) _ (first_stands _ _))))

width_stands : (v : Variant) (g : Group) (params : List Attr) (n : List ℕ) (s : SlotUse) → SlotStands v g params n s → v.per_port ≡ true → Stands params (number_attr (slot_name n (codes "WIDTH")) (width_at v.widths s.level))
unfolding written.use_params
width_stands v g params n s h e =
    let uses = written.use_params v n s in
    h _ (in_left ((uses ++ written.edge_params g n s) ++ written.slot_values g n s) (written.slot_option_params n g.options) _
    (in_left (uses ++ written.edge_params g n s) (written.slot_values g n s) _
    (in_left uses (written.edge_params g n s) _
    (in_right (flag_attr (slot_name n (codes "USED")) s.used ∷ []) (written.where_has v.per_port (number_attr (slot_name n (codes "WIDTH")) (width_at v.widths s.level))) _
    (has_stands v.per_port _ e)))))

edge_stands : (v : Variant) (g : Group) (params : List Attr) (n : List ℕ) (s : SlotUse) → SlotStands v g params n s → by_either_edge g.edge ≡ true → Stands params (flag_attr (slot_name n (codes "CLK_POL")) (written.rises s.clock))
unfolding written.edge_params
edge_stands v g params n s h e =
    let uses = written.use_params v n s in
    h _ (in_left ((uses ++ written.edge_params g n s) ++ written.slot_values g n s) (written.slot_option_params n g.options) _
    (in_left (uses ++ written.edge_params g n s) (written.slot_values g n s) _
    (in_right uses (written.edge_params g n s) _ (has_stands (by_either_edge g.edge) _ e))))

in_values : (v : Variant) (g : Group) (params : List Attr) (n : List ℕ) (s : SlotUse) → SlotStands v g params n s → Within (written.slot_values g n s) params
in_values v g params n s h a t =
    let uses = written.use_params v n s in
    h a (in_left ((uses ++ written.edge_params g n s) ++ written.slot_values g n s) (written.slot_option_params n g.options) a
    (in_right (uses ++ written.edge_params g n s) (written.slot_values g n s) a t))

srst_stands : (v : Variant) (g : Group) (params : List Attr) (n : List ℕ) (s : SlotUse) → SlotStands v g params n s → takes_value g.srst ≡ true → Stands params (bits_attr (slot_name n (codes "RD_SRST_VALUE")) s.srst_value)
unfolding written.value_params
srst_stands v g params n s h e =
    let one = written.value_params (takes_value g.srst) n (codes "RD_SRST_VALUE") s.srst_value in
    let two = written.value_params (takes_value g.arst) n (codes "RD_ARST_VALUE") s.arst_value in
    in_values v g params n s h _ (in_left (one ++ two) (written.value_params (takes_value g.start) n (codes "RD_INIT_VALUE") s.init_value) _
    (in_left one two _ (has_stands (takes_value g.srst) _ e)))

arst_stands : (v : Variant) (g : Group) (params : List Attr) (n : List ℕ) (s : SlotUse) → SlotStands v g params n s → takes_value g.arst ≡ true → Stands params (bits_attr (slot_name n (codes "RD_ARST_VALUE")) s.arst_value)
unfolding written.value_params
arst_stands v g params n s h e =
    let one = written.value_params (takes_value g.srst) n (codes "RD_SRST_VALUE") s.srst_value in
    let two = written.value_params (takes_value g.arst) n (codes "RD_ARST_VALUE") s.arst_value in
    in_values v g params n s h _ (in_left (one ++ two) (written.value_params (takes_value g.start) n (codes "RD_INIT_VALUE") s.init_value) _
    (in_right one two _ (has_stands (takes_value g.arst) _ e)))

start_stands : (v : Variant) (g : Group) (params : List Attr) (n : List ℕ) (s : SlotUse) → SlotStands v g params n s → takes_value g.start ≡ true → Stands params (bits_attr (slot_name n (codes "RD_INIT_VALUE")) s.init_value)
unfolding written.value_params
start_stands v g params n s h e =
    let one = written.value_params (takes_value g.srst) n (codes "RD_SRST_VALUE") s.srst_value in
    let two = written.value_params (takes_value g.arst) n (codes "RD_ARST_VALUE") s.arst_value in
    in_values v g params n s h _ (in_right (one ++ two) (written.value_params (takes_value g.start) n (codes "RD_INIT_VALUE") s.init_value) _
    (has_stands (takes_value g.start) _ e))

-- ---- what is read

polarity_of : (name : List ℕ) (b : Bool) (params : List Attr) → named params name ≡ Some (flag_attr name b) → polarity_at params name ≡ Some b
polarity_of name true params e = ap (λ f. not_zero (option_and_then attr_number f)) e ∙ ap not_zero (flag_attr_number name true)
polarity_of name false params e = ap (λ f. not_zero (option_and_then attr_number f)) e ∙ ap not_zero (flag_attr_number name false)

rising_back : (e : Option EdgeKind) (s : SlotUse) (params : List Attr) (n : List ℕ) → (by_either_edge e ≡ true → named params (slot_name n (codes "CLK_POL")) ≡ Some (flag_attr (slot_name n (codes "CLK_POL")) (written.rises s.clock)))
    → rows.rising_at e params n ≡ Some (edge_rises e s.clock)
rising_back None s params n h = refl
rising_back (Some edge.Pos) s params n h = refl
rising_back (Some edge.Neg) s params n h = refl
rising_back (Some edge.Either) s params n h = polarity_of (slot_name n (codes "CLK_POL")) (written.rises s.clock) params (h refl)

values_back : (v : Variant) (g : Group) (params : List Attr) (n : List ℕ) (s : SlotUse) → SlotStands v g params n s → AreApart (names_of params) → shape.values_fit v g s ≡ true
    → rows.values_at g params n ≡ Some (record { srst = s.srst_value; arst = s.arst_value; start = s.init_value })
unfolding rows.values_at
values_back v g params n s h own fits =
    let w = shape.slot_width v s in
    let p = and_parts (shape.value_fits g.srst s.srst_value w) (shape.value_fits g.arst s.arst_value w && shape.value_fits g.start s.init_value w) fits in
    let q = and_parts (shape.value_fits g.arst s.arst_value w) (shape.value_fits g.start s.init_value w) p.1 in
    let srst = value_back (takes_value g.srst) params (slot_name n (codes "RD_SRST_VALUE")) s.srst_value (λ t. found params _ own (srst_stands v g params n s h t)) (no_value g.srst s.srst_value w p.0) in
    let arst = value_back (takes_value g.arst) params (slot_name n (codes "RD_ARST_VALUE")) s.arst_value (λ t. found params _ own (arst_stands v g params n s h t)) (no_value g.arst s.arst_value w q.0) in
    let start = value_back (takes_value g.start) params (slot_name n (codes "RD_INIT_VALUE")) s.init_value (λ t. found params _ own (start_stands v g params n s h t)) (no_value g.start s.init_value w q.1) in
    λ i. option_and_then {T = List Tri} {U = Values} (λ x. option_and_then {T = List Tri} {U = Values} (λ a. option_and_then {T = List Tri} {U = Values} (λ b. Some (record { srst = x; arst = a; start = b })) (start i)) (arst i)) (srst i)

-- ---- levels

same_level : (a b : ℕ) → nat_eq a b ≡ true → a ≡ b
same_level a b h = grind (arith, nat_tests)

-- what is known of a port that fits
pub record Fitting (v : Variant) (g : Group) (s : SlotUse) : Type 0 where
  pub values : shape.values_fit v g s ≡ true
  pub level : shape.level_fits g s ≡ true
  pub unused : s.used ≡ false → shape.unused_fits g s ≡ true

pub parts_of : (v : Variant) (g : Group) (s : SlotUse) → shape.slot_fits v g s ≡ true → Fitting v g s
parts_of v g s h =
    let uses = cond s.used (shape.used_fits g s) (shape.unused_fits g s) in
    let a = and_parts (shape.pins_fit v g s) (shape.controls_fit g s && (shape.values_fit v g s && (shape.level_fits g s && uses))) h in
    let b = and_parts (shape.controls_fit g s) (shape.values_fit v g s && (shape.level_fits g s && uses)) a.1 in
    let c = and_parts (shape.values_fit v g s) (shape.level_fits g s && uses) b.1 in
    let d = and_parts (shape.level_fits g s) uses c.1 in
    record { values = c.0; level = d.0; unused = λ e. sym (ap (λ t. cond t (shape.used_fits g s) (shape.unused_fits g s)) e) ∙ d.1 }

second : (a b : Bool) → (a && b) ≡ true → b ≡ true
second true b h = h
second false b h = absurd (cc)

last_part : (a b c d e f g h i j k l m : Bool) → (a && (b && (c && (d && (e && (f && (g && (h && (i && (j && (k && (l && m)))))))))))) ≡ true → m ≡ true
last_part a b c d e f g h i j k l m p = second l m (second k (l && m) (second j (k && (l && m)) (second i (j && (k && (l && m))) (second h (i && (j && (k && (l && m)))) (second g (h && (i && (j && (k && (l && m))))) (second f (g && (h && (i && (j && (k && (l && m)))))) (second e (f && (g && (h && (i && (j && (k && (l && m))))))) (second d (e && (f && (g && (h && (i && (j && (k && (l && m)))))))) (second c (d && (e && (f && (g && (h && (i && (j && (k && (l && m))))))))) (second b (c && (d && (e && (f && (g && (h && (i && (j && (k && (l && m)))))))))) (second a (b && (c && (d && (e && (f && (g && (h && (i && (j && (k && (l && m))))))))))) p)))))))))))

least_part : (g : Group) (s : SlotUse) → shape.unused_fits g s ≡ true → list_all (λ l. nat_le s.level l) g.levels ≡ true
least_part g s h =
    last_part (shape.is_never s.clock) (shape.is_zero s.clken) (shape.is_zero s.rden) (shape.is_zero s.srst) (shape.is_zero s.arst) (list_all shape.is_zero s.addr) (list_all shape.is_zero s.value) (list_all shape.is_zero s.wren) (list_all shape.is_zero s.wrbe) (list_all shape.is_low s.srst_value) (list_all shape.is_low s.arst_value) (list_all shape.is_low s.init_value) (list_all (λ l. nat_le s.level l) g.levels) h

-- what tells the width of a port tells its level
abbrev pub LevelIs : Variant → Level → SlotUse → Type 0
LevelIs v level.Own s = v.per_port ≡ true
LevelIs v (level.Common place) s = s.used ≡ true → place ≡ s.level

in_level_by : (P : ℕ → Type 0) (k : ℕ) (ks : List ℕ) (l : ℕ) → P k → (list_any (λ j. nat_eq l j) ks ≡ true → P l) → (t : Bool) → nat_eq l k ≡ t → (t || list_any (λ j. nat_eq l j) ks) ≡ true → P l
in_level_by P k ks l here more true e h = subst P (sym (same_level l k e)) here
in_level_by P k ks l here more false e h = more h

in_levels : (P : ℕ → Type 0) (ls : List ℕ) (l : ℕ) → Each ls P → list_any (λ k. nat_eq l k) ls ≡ true → P l
in_levels P [] l h e = absurd (cc)
in_levels P (k ∷ ks) l h e = in_level_by P k ks l (h 0 k refl) (in_levels P ks l (λ i x f. h (suc i) x f)) (nat_eq l k) refl e

pub low_level : (v : Variant) (g : Group) (s : SlotUse) → Each g.levels (λ l. l < length v.widths) → shape.slot_fits v g s ≡ true → s.level < length v.widths
low_level v g s h fits = in_levels (λ l. l < length v.widths) g.levels s.level h (parts_of v g s fits).level

own_back : (v : Variant) (g : Group) (params : List Attr) (n : List ℕ) (s : SlotUse) → HasWidths v → s.level < length v.widths → SlotStands v g params n s → AreApart (names_of params) → v.per_port ≡ true
    → rows.slot_level v g level.Own params n s.used ≡ Some s.level
unfolding rows.slot_level
own_back v g params n s w low stands own per =
    let there = found params _ own (width_stands v g params n s stands per) in
    let number : number_at params (slot_name n (codes "WIDTH")) ≡ Some (width_at v.widths s.level) = ap (option_and_then attr_number) there ∙ number_attr_number (slot_name n (codes "WIDTH")) (width_at v.widths s.level) (w.small s.level low) in
    ap (option_and_then (λ x. Some (rows.width_place v x))) number ∙ ap (λ k. Some k) (place_back v.widths s.level (length v.widths) low w.apart)

common_back : (v : Variant) (g : Group) (place : ℕ) (params : List Attr) (n : List ℕ) (s : SlotUse) (used : Bool) → s.used ≡ used → Fitting v g s → (s.used ≡ true → place ≡ s.level)
    → rows.slot_level v g (level.Common place) params n used ≡ Some s.level
unfolding rows.slot_level
common_back v g place params n s true e fit is = ap (λ k. Some k) (is e)
common_back v g place params n s false e fit is = ap (λ k. Some k) (least_back g.levels s.level fit.level (least_part g s (fit.unused e)))

pub level_back : (v : Variant) (g : Group) (l : Level) (params : List Attr) (n : List ℕ) (s : SlotUse) → HasWidths v → Each g.levels (λ k. k < length v.widths) → SlotStands v g params n s → AreApart (names_of params)
    → shape.slot_fits v g s ≡ true → LevelIs v l s → rows.slot_level v g l params n s.used ≡ Some s.level
level_back v g level.Own params n s w h stands own fits is = own_back v g params n s w (low_level v g s h fits) stands own is
level_back v g (level.Common place) params n s w h stands own fits is = common_back v g place params n s s.used refl (parts_of v g s fits) is

-- ---- the port

pub slot_back : (v : Variant) (g : Group) (l : Level) (params : List Attr) (n : List ℕ) (s : SlotUse) → HasWidths v → Each g.levels (λ k. k < length v.widths) → SlotStands v g params n s → AreApart (names_of params)
    → shape.slot_fits v g s ≡ true → LevelIs v l s → rows.slot_at v g l params n ≡ Some (slot_row g s)
unfolding rows.slot_at
slot_back v g l params n s w h stands own fits is =
    let used : flag_at params (slot_name n (codes "USED")) ≡ Some s.used = ap flag_of_found (found params _ own (used_stands v g params n s stands)) ∙ flag_attr_flag (slot_name n (codes "USED")) s.used in
    let place = level_back v g l params n s w h stands own fits is in
    let rising = rising_back g.edge s params n (λ t. found params _ own (edge_stands v g params n s stands t)) in
    let values = values_back v g params n s stands own (parts_of v g s fits).values in
    (λ i. option_and_then {T = Bool} {U = SlotRow} (λ u. option_and_then {T = ℕ} {U = SlotRow} (λ k. option_and_then {T = Bool} {U = SlotRow} (λ r. option_and_then {T = Values} {U = SlotRow} (λ x. Some (record { used = u; level = k; rising = r; values = x }))
    (values i)) (rising i)) (rows.slot_level v g l params n u)) (used i))
    ∙ (λ i. option_and_then {T = ℕ} {U = SlotRow} (λ k. Some (record { used = s.used; level = k; rising = edge_rises g.edge s.clock; values = record { srst = s.srst_value; arst = s.arst_value; start = s.init_value } })) (place i))
