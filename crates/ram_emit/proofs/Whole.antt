-- Where one cell takes a whole memory: its words are at least as many and as wide, and one bit enables a write.
use Rattle.std.proofs.Common.{◌≡◌, ℕ, zero, suc, ◌+◌, ◌-◌, ◌*◌, ◌/◌, ◌%◌, ◌^◌, ◌<◌, ◌≤◌, Bool, true, false, not, [], ◌∷◌, get_or, None, refl, sym, ap, ◌∙◌, subst, arith, nat_eq, nat_le}
use Rattle.std.specs.Int.{div_ceil}
use Rattle.std.specs.List.{range_with_len, list_all}
use Rattle.std.proofs.Math.Nat.{pow-suc, mod-one, mod-eq_of_lt, div_self}
use Rattle.std.proofs.Math.Pow.{pow_mono}
use Rattle.std.proofs.lemmas.Nat.{pow_pos}
use Rattle.std.proofs.lemmas.Grind.{div_ceil_times}
use Rattle.lib_core.specs.declared.library.Variant.{Variant}
use Rattle.lib_core.specs.Rams.{lane_width}
use Rattle.net_core.specs.declared.bits.Bit.TheVariants.{Zero as Low}
use Rattle.net_core.specs.declared.mems.Mem.{Mem}
use Rattle.net_core.specs.declared.mems.WrPort.{WrPort}
use Rattle.net_core.proofs.Basics.{and_left, and_right}
use Rattle.geom_core.specs.declared.spreads.UnitPlace.{UnitPlace}
use Rattle.geom_core.specs.Layout.{row_bits, group_of, rows_covered, enable_in, same_enable, same_in_write, same_enables, unit_bits, column_units, next_place, placed, changes_after, units_of, spread_of}
use Rattle.geom_core.proofs.Units.{rises, follows, at_within}
use Rattle.fit_rules.specs.declared.spots.Spot.{Spot}
use Rattle.fit_rules.specs.Shape.{row_words, rows, columns}
use Rattle.ram_emit.specs.Cell.{word_bits}
use Rattle.ram_emit.proofs.Padding.{bits_same}

-- ---- words

few_bits : (a b : ℕ) → 2 ^ a ≤ 2 ^ b → b < a → ⊥
few_bits a b h lt =
    let up : 2 ^ suc b ≤ 2 ^ a = pow_mono {i = suc b} {j = a} (omega (arith, lt)) in
    let twice : 2 ^ suc b ≡ 2 ^ b * 2 = pow-suc 2 b in
    let some : 0 < 2 ^ b = pow_pos b in
    omega (arith, h, up, twice, some)

pub bits_within : (a b : ℕ) → 2 ^ a ≤ 2 ^ b → a ≤ b
bits_within a b h =
    let P : Bool → Type 0 = λ t. nat_le a b ≡ t → a ≤ b in
    let f : P (nat_le a b) = elim (nat_le a b) as P [ true ↦ λ e. grind (arith, e) | false ↦ λ e. absurd (few_bits a b h (grind (arith, e))) ] in
    f refl

one_row : (size words : ℕ) → 0 < words → div_ceil size words ≡ 1 → size ≤ words
one_row size words some e =
    let h : size ≤ div_ceil size words * words = (div_ceil_times size words some).0 in
    let g : size ≤ 1 * words = subst (λ n. size ≤ n * words) e h in
    omega (arith, g)

-- one row of cells has all words
pub all_rows : (m : Mem) (x : Variant) (s : Spot) → s.fold ≡ 0 → s.level ≡ 0 → rows m x s ≡ 1 → m.size ≤ 2 ^ x.abits
all_rows m x s fold level e =
    let words : row_words x s ≡ 2 ^ x.abits = (λ i. 2 ^ (x.abits - level i) * 2 ^ fold i) ∙ (let z : x.abits - 0 ≡ x.abits = omega arith in ap (λ n. 2 ^ n * 2 ^ 0) z) ∙ (let z : 2 ^ x.abits * 1 ≡ 2 ^ x.abits = omega arith in z) in
    one_row m.size (2 ^ x.abits) (pow_pos x.abits) (ap (div_ceil m.size) (sym words) ∙ e)

-- ---- bits

-- units that go up to 0 alone
module _ (changes : ℕ → Bool) (unit last : ℕ) (none : (placed changes unit last).unit ≡ 0) where
  unit_none : (p : ℕ) → p ≤ last → (placed changes unit p).unit ≡ 0
  unit_none p h = omega (arith, rises changes unit p last h, none)

  pub at_place : (p : ℕ) → p ≤ last → (placed changes unit p).at ≡ p
  at_place zero h = refl
  at_place (suc p) h =
      let before = at_place p (omega (arith, h)) in
      let along = (follows changes unit p).along (unit_none (suc p) h ∙ sym (unit_none p (omega (arith, h)))) in
      omega (arith, before, along)

  changed : (b : Bool) (p : UnitPlace) → (next_place unit b p).unit ≡ 0 → b ≡ false
  changed true p h = absurd (omega (arith, h))
  changed false p h = refl

  pub unchanged : (p : ℕ) → p < last → changes p ≡ false
  unchanged p h = changed (changes p) (placed changes unit p) (unit_none (suc p) (omega (arith, h)))

zero_ceil : (units : ℕ) → div_ceil units 1 ≡ 1 → units ≡ 1
zero_ceil units e = omega (arith, e)

module _ (m : Mem) (x : Variant) (byte : x.byte ≡ None) (some : 1 ≤ word_bits x) (bits : 1 ≤ m.width) where
  unit_is : unit_bits x 0 ≡ word_bits x
  unit_is = ap (λ b. lane_width b (word_bits x)) byte

  column_is : column_units x 0 ≡ 1
  column_is = ap (λ n. word_bits x / n) unit_is ∙ div_self (omega (arith, some))

  row_is : row_bits m 0 ≡ m.width
  row_is = let z : m.width * 1 ≡ m.width = omega arith in z

  last_unit : (s : Spot) → s.fold ≡ 0 → s.level ≡ 0 → columns m x s ≡ 1 → (placed (changes_after m 0) (word_bits x) (m.width - 1)).unit ≡ 0
  last_unit s fold level e =
      let units : div_ceil (units_of m 0 (unit_bits x 0)) 1 ≡ 1 = (λ i. div_ceil (units_of m 0 (unit_bits x 0)) (sym column_is i)) ∙ (λ i. (spread_of m x (sym fold i) (sym level i)).columns) ∙ e in
      let one : units_of m 0 (unit_bits x 0) ≡ 1 = zero_ceil (units_of m 0 (unit_bits x 0)) units in
      let here : units_of m 0 (unit_bits x 0) ≡ (placed (changes_after m 0) (word_bits x) (m.width - 1)).unit + 1 = λ i. (placed (changes_after m 0) (unit_is i) (row_is i - 1)).unit + 1 in
      omega (arith, one, here)

  -- one column of cells has all bits of a word
  pub all_columns : (s : Spot) → s.fold ≡ 0 → s.level ≡ 0 → columns m x s ≡ 1 → m.width ≤ word_bits x
  all_columns s fold level e =
      let none = last_unit s fold level e in
      let at = at_place (changes_after m 0) (word_bits x) (m.width - 1) none (m.width - 1) (omega arith) in
      let below = at_within (changes_after m 0) (word_bits x) (m.width - 1) some in
      omega (arith, at, below, bits)

  module _ (w : WrPort) (writes : m.writes ≡ w ∷ []) (wide : w.wide ≡ 0) where
    enable_is : (p : ℕ) → p < m.width → enable_in m 0 w 0 p ≡ get_or w.en p Low
    enable_is p h =
        let word : (0 * 2 ^ 0 + p / m.width) % 2 ^ w.wide * m.width ≡ 0 = (λ i. (0 * 2 ^ 0 + p / m.width) % 2 ^ wide i * m.width) ∙ ap (λ n. n * m.width) (mod-one (0 * 2 ^ 0 + p / m.width)) ∙ (let z : 0 * m.width ≡ 0 = omega arith in z) in
        let place : p % m.width ≡ p = mod-eq_of_lt h in
        (λ i. get_or w.en (word i + place i) Low) ∙ (let z : 0 + p ≡ p = omega arith in ap (λ n. get_or w.en n Low) z)

    same_next : (p : ℕ) → p + 1 < m.width → same_enables m 0 p (p + 1) ≡ true → get_or w.en (p + 1) Low ≡ get_or w.en p Low
    same_next p h e =
        let all : list_all (same_in_write m 0 p (p + 1)) (w ∷ []) ≡ true = ap (list_all (same_in_write m 0 p (p + 1))) (sym writes) ∙ e in
        let here : same_in_write m 0 p (p + 1) w ≡ true = and_left (same_in_write m 0 p (p + 1) w) true all in
        let rows : list_all (same_enable m 0 w p (p + 1)) (range_with_len 0 (rows_covered 0 w)) ≡ true = and_right (nat_eq (group_of m w p) (group_of m w (p + 1))) (list_all (same_enable m 0 w p (p + 1)) (range_with_len 0 (rows_covered 0 w))) here in
        let covered : rows_covered 0 w ≡ 1 = (let z : w.wide - 0 ≡ 0 = omega (arith, wide) in ap (λ n. 2 ^ n) z) in
        let row : list_all (same_enable m 0 w p (p + 1)) (range_with_len 0 1) ≡ true = ap (λ n. list_all (same_enable m 0 w p (p + 1)) (range_with_len 0 n)) (sym covered) ∙ rows in
        let one : same_enable m 0 w p (p + 1) 0 ≡ true = and_left (same_enable m 0 w p (p + 1) 0) true row in
        let same : enable_in m 0 w 0 p ≡ enable_in m 0 w 0 (p + 1) = bits_same (enable_in m 0 w 0 p) (enable_in m 0 w 0 (p + 1)) one in
        sym (enable_is (p + 1) h) ∙ sym same ∙ enable_is p (omega (arith, h))

    not_not : (b : Bool) → not b ≡ false → b ≡ true
    not_not true h = refl
    not_not false h = cc

    -- one bit stands as all enables
    pub one_enable : (s : Spot) → s.fold ≡ 0 → s.level ≡ 0 → columns m x s ≡ 1 → (k : ℕ) → k < m.width → get_or w.en k Low ≡ get_or w.en 0 Low
    one_enable s fold level e zero h = refl
    one_enable s fold level e (suc k) h =
        let q : suc k ≡ k + 1 = omega arith in
        let same = not_not (same_enables m 0 k (k + 1)) (unchanged (changes_after m 0) (word_bits x) (m.width - 1) (last_unit s fold level e) k (omega (arith, h))) in
        ap (λ n. get_or w.en n Low) q ∙ same_next k (omega (arith, h)) same ∙ one_enable s fold level e k (omega (arith, h))
