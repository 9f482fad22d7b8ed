-- The bits of packed hits.
use Rattle.std.proofs.Common.{◌≡◌, ℕ, zero, suc, ◌+◌, ◌-◌, ◌/◌, ◌<◌, ◌≤◌, Bool, true, false, ◌&&◌, ◌||◌, cond, nat_eq, nat_lt, nat_le, List, Option, Some, None, refl, sym, ap, ◌∙◌, ⊎_elim, arith, eq-eqb}
use Rattle.std.specs.List.{find, range_with_len}
use Rattle.std.proofs.Math.ListN.{replicate}
use Rattle.std.proofs.lemmas.Bool.{eqb-true, cases_lt, cases_order, ne_eqb, lt-ltb, le-ltb, le-leb, lt-leb}
use Rattle.lib_core.specs.declared.library.Variant.{Variant}
use Rattle.lib_core.specs.Rams.{lane_width, lies}
use Rattle.geom_core.specs.declared.geometry.BasePlace.{BasePlace}
use Rattle.net_core.specs.Values.{Valuation, Happening, bit_at, values_of}
use Rattle.net_core.specs.Ram.{Slot, slot_width, word_of, slot_active, lane_enabled, place_at, hit_at, slot_hit}
use Rattle.ram_step.specs.Ports.{BeginsAt}
use Rattle.ram_step.specs.Hits.{lane_bit}
use Rattle.row_store.specs.Limbs.{bit_in}
use Rattle.row_store.proofs.Tables.{no_bit, or_false}

pub and_false : (a : Bool) → (a && false) ≡ false
and_false true = refl
and_false false = refl

-- nothing is marked yet
pub no_lanes : (count from k : ℕ) (enabled : Bool) → bit_in (replicate count 0) k ≡ ((nat_le from k && nat_lt k (from + 0)) && enabled)
no_lanes count from k enabled =
    no_bit count k ∙ sym (⊎_elim
    (λ (low : k < from). ap (λ t. (t && nat_lt k (from + 0)) && enabled) (lt-leb from k low))
    (λ (high : from ≤ k). ap (λ t. (nat_le from k && t) && enabled) (le-ltb k (from + 0) (omega arith)) ∙ ap (λ t. t && enabled) (and_false (nat_le from k)))
    (cases_lt k from))

pub no_values : (count k : ℕ) (mask bit : Bool) → mask ≡ false → bit_in (replicate count 0) k ≡ (mask && bit)
no_values count k mask bit e = no_bit count k ∙ sym (ap (λ t. t && bit) e)

pub lane_more : (from p k : ℕ) (old new e enabled : Bool) → old ≡ ((nat_le from k && nat_lt k (from + p)) && enabled) → (k ≡ from + p → e ≡ enabled) → new ≡ ((nat_eq k (from + p) && e) || old) → new ≡ ((nat_le from k && nat_lt k (from + (p + 1))) && enabled)
lane_more from p k old new e enabled was here n =
    ⊎_elim
    (λ (same : k ≡ from + p).
    n ∙ ap (λ t. (t && e) || old) (eq-eqb k (from + p) same)
    ∙ ap (λ t. e || t) (was ∙ ap (λ t. (nat_le from k && t) && enabled) (le-ltb k (from + p) (omega arith)) ∙ ap (λ t. t && enabled) (and_false (nat_le from k)))
    ∙ or_false e ∙ here same
    ∙ sym (ap (λ t. (t && nat_lt k (from + (p + 1))) && enabled) (le-leb from k (omega arith)) ∙ ap (λ t. t && enabled) (lt-ltb k (from + (p + 1)) (omega arith))))
    (λ order. ⊎_elim
    (λ (less : k < from + p).
    n ∙ ap (λ t. (t && e) || old) (ne_eqb k (from + p) (λ f. absurd (omega arith))) ∙ was
    ∙ ap (λ t. (nat_le from k && t) && enabled) (lt-ltb k (from + p) less ∙ sym (lt-ltb k (from + (p + 1)) (omega arith))))
    (λ (more : from + p < k).
    n ∙ ap (λ t. (t && e) || old) (ne_eqb k (from + p) (λ f. absurd (omega arith))) ∙ was
    ∙ ap (λ t. (nat_le from k && t) && enabled) (le-ltb k (from + p) (omega arith) ∙ sym (le-ltb k (from + (p + 1)) (omega arith))))
    order)
    (cases_order k (from + p))

pub absorbed : (b mask : Bool) → (b || (mask && b)) ≡ b
absorbed true mask = refl
absorbed false mask = and_false mask

pub value_bools : (same e b bk mask : Bool) → (same ≡ true → b ≡ bk) → ((same && (e && b)) || (mask && bk)) ≡ (((same && e) || mask) && bk)
value_bools true true b bk mask h = ap (λ t. t || (mask && bk)) (h refl) ∙ absorbed bk mask
value_bools true false b bk mask h = refl
value_bools false e b bk mask h = refl

pub value_more : (from p k : ℕ) (old new mask_old mask_new e b bk : Bool) → old ≡ (mask_old && bk) → (k ≡ from + p → b ≡ bk) → mask_new ≡ ((nat_eq k (from + p) && e) || mask_old) → new ≡ ((nat_eq k (from + p) && (e && b)) || old) → new ≡ (mask_new && bk)
value_more from p k old new mask_old mask_new e b bk was here m n =
    n ∙ ap (λ t. (nat_eq k (from + p) && (e && b)) || t) was
    ∙ value_bools (nat_eq k (from + p)) e b bk mask_old (λ t. here (eqb-true k (from + p) t))
    ∙ ap (λ t. t && bk) (sym m)

pub within : (from a n k : ℕ) → a ≡ n → (nat_le from k && nat_lt k a) ≡ (nat_le from k && nat_lt k n)
within from a n k e = ap (λ m. nat_le from k && nat_lt k m) e

-- the place of a slot's word that lies at a bit of a row
pub place_found : (row from word k : ℕ) (test : ℕ → Bool) (a n : ℕ) → ((i : ℕ) → test i ≡ (nat_eq row word && nat_eq (from + i) k)) → find test (range_with_len a n) ≡ cond (nat_eq row word && (nat_le (from + a) k && nat_lt k (from + (a + n)))) (Some (k - from)) None
place_found row from word k test a zero each =
    let shut : (nat_le (from + a) k && nat_lt k (from + (a + 0))) ≡ false =
    ⊎_elim
    (λ (low : k < from + a). ap (λ t. t && nat_lt k (from + (a + 0))) (lt-leb (from + a) k low))
    (λ (high : from + a ≤ k). ap (λ t. nat_le (from + a) k && t) (le-ltb k (from + (a + 0)) (omega arith)) ∙ and_false (nat_le (from + a) k))
    (cases_lt k (from + a)) in
    sym (ap (λ t. cond (nat_eq row word && t) (Some (k - from)) None) shut ∙ ap (λ t. cond t (Some (k - from)) None) (and_false (nat_eq row word)))
place_found row from word k test a (suc n) each =
    let rest = place_found row from word k test (a + 1) n each in
    let later : Option ℕ = find test (range_with_len (a + 1) n) in
    ⊎_elim
    (λ (same : k ≡ from + a).
    let number : a ≡ k - from = omega arith in
    ap (λ t. cond t (Some a) later) (each a ∙ ap (λ t. nat_eq row word && t) (eq-eqb (from + a) k (sym same)))
    ∙ ap (λ t. cond (nat_eq row word && true) (Some a) t) (rest ∙ ap (λ t. cond (nat_eq row word && (t && nat_lt k (from + (a + 1 + n)))) (Some (k - from)) None) (lt-leb (from + (a + 1)) k (omega arith)) ∙ ap (λ t. cond t (Some (k - from)) None) (and_false (nat_eq row word)))
    ∙ ap (λ j. cond (nat_eq row word && true) (Some j) None) number
    ∙ sym (ap (λ t. cond (nat_eq row word && (t && nat_lt k (from + (a + suc n)))) (Some (k - from)) None) (le-leb (from + a) k (omega arith)) ∙ ap (λ t. cond (nat_eq row word && t) (Some (k - from)) None) (lt-ltb k (from + (a + suc n)) (omega arith))))
    (λ order. ⊎_elim
    (λ (less : k < from + a).
    ap (λ t. cond t (Some a) later) (each a ∙ ap (λ t. nat_eq row word && t) (ne_eqb (from + a) k (λ f. absurd (omega arith))) ∙ and_false (nat_eq row word))
    ∙ rest
    ∙ ap (λ t. cond (nat_eq row word && (t && nat_lt k (from + (a + 1 + n)))) (Some (k - from)) None) (lt-leb (from + (a + 1)) k (omega arith))
    ∙ sym (ap (λ t. cond (nat_eq row word && (t && nat_lt k (from + (a + suc n)))) (Some (k - from)) None) (lt-leb (from + a) k less)))
    (λ (more : from + a < k).
    let number : from + (a + 1 + n) ≡ from + (a + suc n) = omega arith in
    ap (λ t. cond t (Some a) later) (each a ∙ ap (λ t. nat_eq row word && t) (ne_eqb (from + a) k (λ f. absurd (omega arith))) ∙ and_false (nat_eq row word))
    ∙ rest
    ∙ ap (λ t. cond (nat_eq row word && (t && nat_lt k (from + (a + 1 + n)))) (Some (k - from)) None) (le-leb (from + (a + 1)) k (omega arith))
    ∙ ap (λ m. cond (nat_eq row word && nat_lt k m) (Some (k - from)) None) number
    ∙ sym (ap (λ t. cond (nat_eq row word && (t && nat_lt k (from + (a + suc n)))) (Some (k - from)) None) (le-leb (from + a) k (omega arith))))
    order)
    (cases_order k (from + a))

-- the hit of an active slot
pub hit_cond : (x : Variant) (v : Valuation) (s : Slot) (i : ℕ) (c : Bool) → hit_at x v s true (cond c (Some i) None) ≡ cond (c && lane_enabled v s (i / lane_width x.byte (slot_width x s))) (Some (bit_at (values_of v s.pins.value) i)) None
hit_cond x v s i true = refl
hit_cond x v s i false = refl

pub hit_bools : (row inside enabled b : Bool) → cond (row && (inside && enabled)) (Some ((inside && enabled) && b)) None ≡ cond ((row && inside) && enabled) (Some b) None
hit_bools true true true b = refl
hit_bools true true false b = refl
hit_bools true false enabled b = refl
hit_bools false inside enabled b = refl

pub active_hit : (inputs : List ℕ) (x : Variant) (e : Happening) (v : Valuation) (s : Slot) (start : BasePlace) (row word k : ℕ) (mask value : List ℕ) →
    slot_active inputs e v s ≡ true
    → ((i : ℕ) → BeginsAt start i (lies x s.pins.level (word_of v s) i))
    → row ≡ start.word
    → bit_in mask k ≡ lane_bit x v s start.bit (slot_width x s) k
    → bit_in value k ≡ (bit_in mask k && bit_at (values_of v s.pins.value) (k - start.bit))
    → cond (nat_eq row word && bit_in mask k) (Some (bit_in value k)) None ≡ slot_hit inputs x e v word k s
active_hit inputs x e v s start row word k mask value active begins at m n =
    let from : ℕ = start.bit in
    let width : ℕ = slot_width x s in
    let inside : Bool = nat_le from k && nat_lt k (from + width) in
    let enabled : Bool = lane_enabled v s ((k - from) / lane_width x.byte width) in
    let b : Bool = bit_at (values_of v s.pins.value) (k - from) in
    let place : place_at x v s word k ≡ cond (nat_eq start.word word && inside) (Some (k - from)) None =
    place_found start.word from word k (λ i. nat_eq (lies x s.pins.level (word_of v s) i).0 word && nat_eq (lies x s.pins.level (word_of v s) i).1 k) 0 width
    (λ i. ap (λ r. nat_eq r word && nat_eq (lies x s.pins.level (word_of v s) i).1 k) (begins i).row ∙ ap (λ p. nat_eq start.word word && nat_eq p k) (begins i).place)
    ∙ ap (λ m. cond (nat_eq start.word word && (nat_le m k && nat_lt k (from + (0 + width)))) (Some (k - from)) None) (let z : from + 0 ≡ from = omega arith in z)
    ∙ ap (λ m. cond (nat_eq start.word word && (nat_le from k && nat_lt k (from + m))) (Some (k - from)) None) (let z : 0 + width ≡ width = omega arith in z) in
    ap (λ r. cond (nat_eq r word && bit_in mask k) (Some (bit_in value k)) None) at
    ∙ ap (λ t. cond (nat_eq start.word word && bit_in mask k) (Some t) None) n
    ∙ ap (λ t. cond (nat_eq start.word word && t) (Some (t && b)) None) m
    ∙ hit_bools (nat_eq start.word word) inside enabled b
    ∙ sym (ap (λ t. hit_at x v s t (place_at x v s word k)) active ∙ ap (hit_at x v s true) place ∙ hit_cond x v s (k - from) (nat_eq start.word word && inside))
