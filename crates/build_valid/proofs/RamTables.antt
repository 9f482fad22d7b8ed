-- The pins of a variant of a RAM whose ports have different names are found by their names, and those at which its ports show
-- what they read are driven.
use Rattle.std.proofs.Common.{◌≡◌, ℕ, zero, suc, ◌+◌, ◌≤◌, ◌<◌, Bool, true, false, cond, ◌||◌, List, [], ◌∷◌, ◌++◌, drop, length, Option, Some, None, nat_eq, refl, sym, ap, ◌∙◌, arith}
use Rattle.std.specs.List.{flat_map}
use Rattle.std.specs.Str.{bytes_eq}
use Rattle.std.proofs.lemmas.Bool.Decides.{nat_tests}
use Rattle.std.proofs.lemmas.Slice.Eq.{bytes_eq-Decides}
use Rattle.lib_core.specs.declared.library.Group.{Group}
use Rattle.lib_core.specs.declared.library.Variant.{Variant}
use Rattle.rtlil_text.specs.Grammar.{All, AreDistinct, AreNew, has}
use Rattle.cell_rows.specs.declared.pin.PinRow.{PinRow}
use Rattle.ram_rows.specs.declared.pins.SlotPin.{SlotPin}
use Rattle.ram_rows.specs.declared.pins.SlotPin.TheVariants as pin
use Rattle.ram_rows.specs.declared.slots.SlotRow.{SlotRow}
use Rattle.ram_rows.specs.RamNames.{slot_name}
use Rattle.ram_rows.specs.RamPins.{is_output, pin_at, pin_row, pin_width, slot_pins, suffix}
use Rattle.raw_cells.specs.Rows.{groups_pins, names_pins}
use Rattle.net_gather.specs.FilePins.{in_table}
use Rattle.net_gather.specs.Laws.{IsFoundIn, numbers_from}
use Rattle.net_fits.specs.RamParts.{DrivenOrAbsent, groups_read, names_read}
use Rattle.net_fits.proofs.Attrs.{distinct_once, own_bytes}
use Rattle.net_fits.proofs.Lists.{all_join, how_many, many_joined}
use Rattle.build_valid.specs.Libraries.{HasPortsApart}
use Rattle.build_valid.proofs.PortNames.{number_of, number_told, pin_number, port_of, port_told}

-- ---- numbers that stand once

low_case : (b : Bool) (x : ℕ) → b ≡ false → x ≤ 0 → cond b 1 0 + x ≤ 0
low_case true x e h = absurd cc
low_case false x e h = omega (arith, h)

other_number : (x a : ℕ) → x < a → nat_eq x a ≡ false
other_number x a h = grind (arith, nat_tests)

low : (a k x : ℕ) → x < a → how_many (nat_eq x) (numbers_from a k) ≤ 0
low a zero x h = omega arith
low a (suc k) x h = low_case (nat_eq x a) (how_many (nat_eq x) (numbers_from (a + 1) k)) (other_number x a h) (low (a + 1) k x (omega (arith, h)))

this_number : (x a : ℕ) → nat_eq x a ≡ true → x < a + 1
this_number x a e = grind (arith, nat_tests)

once_case : (b : Bool) (x : ℕ) → (b ≡ true → x ≤ 0) → x ≤ 1 → cond b 1 0 + x ≤ 1
once_case true x f h = (let none : x ≤ 0 = f refl in omega (arith, none))
once_case false x f h = omega (arith, h)

once : (a k x : ℕ) → how_many (nat_eq x) (numbers_from a k) ≤ 1
once a zero x = omega arith
once a (suc k) x = once_case (nat_eq x a) (how_many (nat_eq x) (numbers_from (a + 1) k)) (λ e. low (a + 1) k x (this_number x a e)) (once (a + 1) k x)

-- ---- the rows of a port

-- the row has this name
abbrev is_named : List ℕ → PinRow → Bool
is_named m r = bytes_eq m r.name

one_if : (a b : Bool) (x : ℕ) (c : Bool) → (a ≡ true → (b ≡ true) × (c ≡ true)) → cond a 1 0 + 0 ≤ cond b (cond c 1 0) 0
one_if true true x true f = omega arith
one_if true true x false f = (let e : false ≡ true = (f refl).1 in absurd cc)
one_if true false x c f = (let e : false ≡ true = (f refl).0 in absurd cc)
one_if false b x c f = omega arith

same_number : (x k : ℕ) → x ≡ k → nat_eq x k ≡ true
same_number x k e = grind (arith, nat_tests)

module _ (m : List ℕ) where
  -- what the name tells of a port and of a pin
  abbrev hits : List ℕ → ℕ → ℕ
  hits n k = cond (bytes_eq (port_of m) n) (cond (nat_eq (number_of m) k) 1 0) 0

  one_row : (n : List ℕ) (p : SlotPin) (o : Option ℕ) → how_many (is_named m) (pin_row n p o) ≤ hits n (pin_number p)
  one_row n p None = omega arith
  one_row n p (Some w) =
      one_if (bytes_eq m (slot_name n (suffix p))) (bytes_eq (port_of m) n) 0 (nat_eq (number_of m) (pin_number p))
      (λ e.
      (let same : m ≡ slot_name n (suffix p) = (bytes_eq-Decides m (slot_name n (suffix p))).0 e in
      let port : port_of m ≡ n = ap port_of same ∙ port_told n p in
      let number : number_of m ≡ pin_number p = ap number_of same ∙ number_told n p in
      ((bytes_eq-Decides (port_of m) n).1 port, same_number (number_of m) (pin_number p) number)))

  ten_case : (b : Bool) (x : ℕ) → cond b (cond (nat_eq x 0) 1 0) 0 + (cond b (cond (nat_eq x 1) 1 0) 0 + (cond b (cond (nat_eq x 2) 1 0) 0 + (cond b (cond (nat_eq x 3) 1 0) 0 + (cond b (cond (nat_eq x 4) 1 0) 0
      + (cond b (cond (nat_eq x 5) 1 0) 0 + (cond b (cond (nat_eq x 6) 1 0) 0 + (cond b (cond (nat_eq x 7) 1 0) 0 + (cond b (cond (nat_eq x 8) 1 0) 0 + cond b (cond (nat_eq x 9) 1 0) 0)))))))) ≤ cond b 1 0
  ten_case true x = (let few = once 0 10 x in omega (arith, few))
  ten_case false x = omega arith

  joined : (xs ys : List PinRow) → how_many (is_named m) (xs ++ ys) ≡ how_many (is_named m) xs + how_many (is_named m) ys
  joined xs ys = many_joined (is_named m) xs ys

  ten_rows : (n : List ℕ) (a b c d e f g h i j : List PinRow) → how_many (is_named m) a ≤ hits n 0 → how_many (is_named m) b ≤ hits n 1 → how_many (is_named m) c ≤ hits n 2 → how_many (is_named m) d ≤ hits n 3
      → how_many (is_named m) e ≤ hits n 4 → how_many (is_named m) f ≤ hits n 5 → how_many (is_named m) g ≤ hits n 6 → how_many (is_named m) h ≤ hits n 7 → how_many (is_named m) i ≤ hits n 8 → how_many (is_named m) j ≤ hits n 9
      → how_many (is_named m) (a ++ b ++ c ++ d ++ e ++ f ++ g ++ h ++ i ++ j) ≤ cond (bytes_eq (port_of m) n) 1 0
  ten_rows n a b c d e f g h i j ha hb hc hd he hf hg hh hi hj =
      let j1 = joined a b in
      let j2 = joined (a ++ b) c in
      let j3 = joined (a ++ b ++ c) d in
      let j4 = joined (a ++ b ++ c ++ d) e in
      let j5 = joined (a ++ b ++ c ++ d ++ e) f in
      let j6 = joined (a ++ b ++ c ++ d ++ e ++ f) g in
      let j7 = joined (a ++ b ++ c ++ d ++ e ++ f ++ g) h in
      let j8 = joined (a ++ b ++ c ++ d ++ e ++ f ++ g ++ h) i in
      let j9 = joined (a ++ b ++ c ++ d ++ e ++ f ++ g ++ h ++ i) j in
      let few = ten_case (bytes_eq (port_of m) n) (number_of m) in
      omega (arith, ha, hb, hc, hd, he, hf, hg, hh, hi, hj, j1, j2, j3, j4, j5, j6, j7, j8, j9, few)

  slot_once : (v : Variant) (g : Group) (level : ℕ) (n : List ℕ) → how_many (is_named m) (slot_pins v g level n) ≤ cond (bytes_eq (port_of m) n) 1 0
  unfolding slot_pins
  slot_once v g level n =
      let row : (p : SlotPin) → how_many (is_named m) (pin_at v g level n p) ≤ hits n (pin_number p) = λ p. one_row n p (pin_width v g level p) in
      ten_rows n (pin_at v g level n pin.Clk) (pin_at v g level n pin.ClkEn) (pin_at v g level n pin.Addr) (pin_at v g level n pin.RdData) (pin_at v g level n pin.RdEn)
      (pin_at v g level n pin.RdSrst) (pin_at v g level n pin.RdArst) (pin_at v g level n pin.WrData) (pin_at v g level n pin.WrEn) (pin_at v g level n pin.WrBe)
      (row pin.Clk) (row pin.ClkEn) (row pin.Addr) (row pin.RdData) (row pin.RdEn) (row pin.RdSrst) (row pin.RdArst) (row pin.WrData) (row pin.WrEn) (row pin.WrBe)

  -- the ports whose name this is
  abbrev owners : List (List ℕ) → ℕ
  owners ns = how_many (bytes_eq (port_of m)) ns

  names_once : (v : Variant) (g : Group) (ns : List (List ℕ)) (ss : List SlotRow) → how_many (is_named m) (names_pins v g ns ss) ≤ owners ns
  names_once v g [] ss = omega arith
  names_once v g (n ∷ ns) [] = omega arith
  names_once v g (n ∷ ns) (s ∷ ss) =
      let here = slot_once v g s.level n in
      let rest = names_once v g ns ss in
      let all = joined (slot_pins v g s.level n) (names_pins v g ns ss) in
      omega (arith, here, rest, all)

  groups_once : (v : Variant) (gs : List Group) (ss : List SlotRow) → how_many (is_named m) (groups_pins v gs ss) ≤ owners (flat_map (λ (g : Group). g.names) gs)
  groups_once v [] ss = omega arith
  groups_once v (g ∷ gs) ss =
      let here = names_once v g g.names ss in
      let rest = groups_once v gs (drop (length g.names) ss) in
      let all = joined (names_pins v g g.names ss) (groups_pins v gs (drop (length g.names) ss)) in
      let owned = many_joined (bytes_eq (port_of m)) g.names (flat_map (λ (x : Group). x.names) gs) in
      omega (arith, here, rest, all, owned)

  shown_case : (a b : Bool) (x y : ℕ) → (a ≡ true → b ≡ true) → x ≤ y → cond a 1 0 + x ≤ cond b 1 0 + y
  shown_case true true x y f h = omega (arith, h)
  shown_case true false x y f h = (let e : false ≡ true = f refl in absurd cc)
  shown_case false true x y f h = omega (arith, h)
  shown_case false false x y f h = omega (arith, h)

  names_shown : (ns : List (List ℕ)) (ss : List SlotRow) → how_many (bytes_eq m) (names_read ns ss) ≤ owners ns
  names_shown [] ss = omega arith
  names_shown (n ∷ ns) [] = omega arith
  names_shown (n ∷ ns) (s ∷ ss) =
      shown_case (bytes_eq m (slot_name n (suffix pin.RdData))) (bytes_eq (port_of m) n) _ _
      (λ e. (bytes_eq-Decides (port_of m) n).1 (ap port_of ((bytes_eq-Decides m (slot_name n (suffix pin.RdData))).0 e) ∙ port_told n pin.RdData)) (names_shown ns ss)

  groups_shown : (gs : List Group) (ss : List SlotRow) → how_many (bytes_eq m) (groups_read gs ss) ≤ owners (flat_map (λ (g : Group). g.names) gs)
  groups_shown [] ss = omega arith
  groups_shown (g ∷ gs) ss =
      let here = names_shown g.names ss in
      let rest = groups_shown gs (drop (length g.names) ss) in
      let all = many_joined (bytes_eq m) (names_read g.names ss) (groups_read gs (drop (length g.names) ss)) in
      let owned = many_joined (bytes_eq (port_of m)) g.names (flat_map (λ (x : Group). x.names) gs) in
      omega (arith, here, rest, all, owned)

-- ---- rows are found

found_case : (b : Bool) (r s : PinRow) (o : Option PinRow) (x : ℕ) → cond b 1 0 + x ≤ 0 → o ≡ Some s → cond b (Some r) o ≡ Some s
found_case true r s o x h e = absurd (omega (arith, h))
found_case false r s o x h e = e

found_more : (r : PinRow) (table rs : List PinRow) → how_many (is_named r.name) rs ≤ 0 → IsFoundIn table rs → IsFoundIn (r ∷ table) rs
found_more r table [] few all = tt
found_more r table (s ∷ ss) few all =
    (found_case (bytes_eq r.name s.name) r s (in_table table s.name) (how_many (is_named r.name) ss) few all.0, found_more r table ss (omega (arith, few)) all.1)

found_first : (r : PinRow) (o : Option PinRow) → cond (bytes_eq r.name r.name) (Some r) o ≡ Some r
found_first r o = ap (λ b. cond b (Some r) o) (own_bytes r.name)

found_once : (rs : List PinRow) → ((m : List ℕ) → how_many (is_named m) rs ≤ 1) → IsFoundIn rs rs
found_once [] few = tt
found_once (r ∷ rs) few =
    let own : ◌≡◌ {A = ℕ} (cond (bytes_eq r.name r.name) 1 0) 1 = ap (λ b. cond b 1 0) (own_bytes r.name) in
    let most : cond (bytes_eq r.name r.name) 1 0 + how_many (is_named r.name) rs ≤ 1 = few r.name in
    let less : (m : List ℕ) → how_many (is_named m) rs ≤ 1 = λ m. (let all : cond (bytes_eq m r.name) 1 0 + how_many (is_named m) rs ≤ 1 = few m in omega (arith, all)) in
    (found_first r _, found_more r rs rs (omega (arith, own, most)) (found_once rs less))

pub variant_found : (v : Variant) (ss : List SlotRow) → HasPortsApart v → IsFoundIn (groups_pins v v.groups ss) (groups_pins v v.groups ss)
variant_found v ss apart =
    found_once (groups_pins v v.groups ss)
    (λ m. (let all = groups_once m v v.groups ss in let few = distinct_once (flat_map (λ (g : Group). g.names) v.groups) (port_of m) apart in omega (arith, all, few)))

-- ---- names that stand once are distinct

last_once : (n : List ℕ) (before ns : List (List ℕ)) → 1 ≤ how_many (bytes_eq n) before → how_many (bytes_eq n) (before ++ n ∷ ns) ≤ 1 → ⊥
last_once n before ns some few =
    let own : ◌≡◌ {A = ℕ} (cond (bytes_eq n n) 1 0) 1 = ap (λ b. cond b 1 0) (own_bytes n) in
    let all : how_many (bytes_eq n) (before ++ n ∷ ns) ≡ how_many (bytes_eq n) before + (cond (bytes_eq n n) 1 0 + how_many (bytes_eq n) ns) = many_joined (bytes_eq n) before (n ∷ ns) in
    omega (arith, own, all, some, few)

some_case : (a : Bool) (b : Bool) (x : ℕ) → (a || b) ≡ true → (b ≡ true → 1 ≤ x) → 1 ≤ cond a 1 0 + x
some_case true b x h f = omega arith
some_case false b x h f = (let some : 1 ≤ x = f h in omega (arith, some))

has_some : (before : List (List ℕ)) (n : List ℕ) → has before n ≡ true → 1 ≤ how_many (bytes_eq n) before
unfolding has
has_some [] n h = absurd (let e : false ≡ true = h in cc)
has_some (m ∷ ms) n h = some_case (bytes_eq n m) (has ms n) (how_many (bytes_eq n) ms) h (has_some ms n)

not_true : (b : Bool) → (b ≡ true → ⊥) → b ≡ false
not_true true f = absurd (f refl)
not_true false f = refl

regroup : (before : List (List ℕ)) (n : List ℕ) (ns : List (List ℕ)) → (before ++ n ∷ []) ++ ns ≡ before ++ n ∷ ns
regroup [] n ns = refl
regroup (m ∷ ms) n ns = ap (λ xs. m ∷ xs) (regroup ms n ns)

pub new_by_count : (before ns : List (List ℕ)) → ((m : List ℕ) → how_many (bytes_eq m) (before ++ ns) ≤ 1) → AreNew before ns
new_by_count before [] few = tt
new_by_count before (n ∷ ns) few = (
  not_true (has before n) (λ e. last_once n before ns (has_some before n e) (few n)),
  new_by_count (before ++ n ∷ []) ns (λ m. (let all : how_many (bytes_eq m) (before ++ n ∷ ns) ≤ 1 = few m in let same = ap (how_many (bytes_eq m)) (regroup before n ns) in omega (arith, all, same))),
)

pub reads_distinct : (v : Variant) (ss : List SlotRow) → HasPortsApart v → AreDistinct (groups_read v.groups ss)
reads_distinct v ss apart =
    new_by_count [] (groups_read v.groups ss)
    (λ m. (let all = groups_shown m v.groups ss in let few = distinct_once (flat_map (λ (g : Group). g.names) v.groups) (port_of m) apart in omega (arith, all, few)))

-- ---- pins that show what is read are driven

abbrev RowDrives : PinRow → Type 0
RowDrives r = number_of r.name ≡ 3 → r.drives ≡ true

pin_drives : (p : SlotPin) → pin_number p ≡ 3 → is_output p ≡ true
pin_drives pin.Clk e = absurd (omega (arith, e))
pin_drives pin.ClkEn e = absurd (omega (arith, e))
pin_drives pin.Addr e = absurd (omega (arith, e))
pin_drives pin.RdData e = refl
pin_drives pin.RdEn e = absurd (omega (arith, e))
pin_drives pin.RdSrst e = absurd (omega (arith, e))
pin_drives pin.RdArst e = absurd (omega (arith, e))
pin_drives pin.WrData e = absurd (omega (arith, e))
pin_drives pin.WrEn e = absurd (omega (arith, e))
pin_drives pin.WrBe e = absurd (omega (arith, e))

row_drives : (n : List ℕ) (p : SlotPin) (o : Option ℕ) → All RowDrives (pin_row n p o)
row_drives n p None = tt
row_drives n p (Some w) = (λ e. pin_drives p (sym (number_told n p) ∙ e), tt)

ten_drive : (a b c d e f g h i j : List PinRow) → All RowDrives a → All RowDrives b → All RowDrives c → All RowDrives d → All RowDrives e → All RowDrives f → All RowDrives g → All RowDrives h → All RowDrives i → All RowDrives j
    → All RowDrives (a ++ b ++ c ++ d ++ e ++ f ++ g ++ h ++ i ++ j)
ten_drive a b c d e f g h i j qa qb qc qd qe qf qg qh qi qj =
    let join : (xs ys : List PinRow) → All RowDrives xs → All RowDrives ys → All RowDrives (xs ++ ys) = λ xs ys. all_join RowDrives xs ys in
    join (a ++ b ++ c ++ d ++ e ++ f ++ g ++ h ++ i) j
    (join (a ++ b ++ c ++ d ++ e ++ f ++ g ++ h) i
    (join (a ++ b ++ c ++ d ++ e ++ f ++ g) h
    (join (a ++ b ++ c ++ d ++ e ++ f) g
    (join (a ++ b ++ c ++ d ++ e) f (join (a ++ b ++ c ++ d) e (join (a ++ b ++ c) d (join (a ++ b) c (join a b qa qb) qc) qd) qe) qf) qg) qh) qi) qj

slot_drives : (v : Variant) (g : Group) (level : ℕ) (n : List ℕ) → All RowDrives (slot_pins v g level n)
unfolding slot_pins
slot_drives v g level n =
    let row : (p : SlotPin) → All RowDrives (pin_at v g level n p) = λ p. row_drives n p (pin_width v g level p) in
    ten_drive (pin_at v g level n pin.Clk) (pin_at v g level n pin.ClkEn) (pin_at v g level n pin.Addr) (pin_at v g level n pin.RdData) (pin_at v g level n pin.RdEn)
    (pin_at v g level n pin.RdSrst) (pin_at v g level n pin.RdArst) (pin_at v g level n pin.WrData) (pin_at v g level n pin.WrEn) (pin_at v g level n pin.WrBe)
    (row pin.Clk) (row pin.ClkEn) (row pin.Addr) (row pin.RdData) (row pin.RdEn) (row pin.RdSrst) (row pin.RdArst) (row pin.WrData) (row pin.WrEn) (row pin.WrBe)

names_drive : (v : Variant) (g : Group) (ns : List (List ℕ)) (ss : List SlotRow) → All RowDrives (names_pins v g ns ss)
names_drive v g [] ss = tt
names_drive v g (n ∷ ns) [] = tt
names_drive v g (n ∷ ns) (s ∷ ss) = all_join RowDrives (slot_pins v g s.level n) (names_pins v g ns ss) (slot_drives v g s.level n) (names_drive v g ns ss)

groups_drive : (v : Variant) (gs : List Group) (ss : List SlotRow) → All RowDrives (groups_pins v gs ss)
groups_drive v [] ss = tt
groups_drive v (g ∷ gs) ss = all_join RowDrives (names_pins v g g.names ss) (groups_pins v gs (drop (length g.names) ss)) (names_drive v g g.names ss) (groups_drive v gs (drop (length g.names) ss))

driven_case : (b : Bool) (r : PinRow) (o : Option PinRow) → (b ≡ true → r.drives ≡ true) → DrivenOrAbsent o → DrivenOrAbsent (cond b (Some r) o)
driven_case true r o f d = f refl
driven_case false r o f d = d

table_drives : (table : List PinRow) (n : List ℕ) → All RowDrives table → number_of n ≡ 3 → DrivenOrAbsent (in_table table n)
table_drives [] n all e = tt
table_drives (r ∷ rs) n all e = driven_case (bytes_eq r.name n) r (in_table rs n) (λ same. all.0 (ap number_of ((bytes_eq-Decides r.name n).0 same) ∙ e)) (table_drives rs n all.1 e)

module _ (table : List PinRow) (all : All RowDrives table) where
  names_driven : (ns : List (List ℕ)) (ss : List SlotRow) → All (λ n. DrivenOrAbsent (in_table table n)) (names_read ns ss)
  names_driven [] ss = tt
  names_driven (n ∷ ns) [] = tt
  names_driven (n ∷ ns) (s ∷ ss) = (table_drives table (slot_name n (suffix pin.RdData)) all (number_told n pin.RdData), names_driven ns ss)

  groups_driven : (gs : List Group) (ss : List SlotRow) → All (λ n. DrivenOrAbsent (in_table table n)) (groups_read gs ss)
  groups_driven [] ss = tt
  groups_driven (g ∷ gs) ss = all_join (λ n. DrivenOrAbsent (in_table table n)) (names_read g.names ss) (groups_read gs (drop (length g.names) ss)) (names_driven g.names ss) (groups_driven gs (drop (length g.names) ss))

pub reads_driven : (v : Variant) (ss : List SlotRow) → All (λ n. DrivenOrAbsent (in_table (groups_pins v v.groups ss) n)) (groups_read v.groups ss)
reads_driven v ss = groups_driven (groups_pins v v.groups ss) (groups_drive v v.groups ss) v.groups ss
