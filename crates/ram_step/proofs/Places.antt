-- Where the bits of a slot's word lie.
use Rattle.std.proofs.Common.{◌≡◌, ℕ, zero, suc, ◌+◌, ◌-◌, ◌*◌, ◌/◌, ◌%◌, ◌^◌, ◌<◌, ◌≤◌, true, List, length, nat_eq, refl, sym, ap, subst, ◌∙◌, ⊎_elim, arith}
use Rattle.std.proofs.lemmas.Nat.{shr_below}
use Rattle.std.proofs.lemmas.Bool.{eqb-true, cases_lt}
use Rattle.lib_core.specs.declared.library.Group.{Group}
use Rattle.lib_core.specs.declared.library.Variant.{Variant}
use Rattle.lib_core.specs.Rams.{width_at, lies_above, lies, last_words, last_width, last_level}
use Rattle.geom_core.specs.declared.geometry.BasePlace.{BasePlace}
use Rattle.geom_core.specs.Widths.{AreWidths}
use Rattle.geom_core.specs.Places.{IsSized, place_in}
use Rattle.net_core.specs.declared.rams.SlotUse.{SlotUse}
use Rattle.net_core.specs.Shape.{slot_fits, pins_fit}
use Rattle.ram_step.specs.Ports.{BeginsAt}
use Rattle.ram_step.proofs.PinReads.{width_some, width_past}
use Rattle.net_core.proofs.Basics.{and_left}

pub address_bits : (x : Variant) (kind : Group) (pins : SlotUse) → slot_fits x kind pins ≡ true → length pins.addr ≡ x.abits
address_bits x kind pins fits = eqb-true (length pins.addr) x.abits (and_left (nat_eq (length pins.addr) x.abits) _ (and_left (pins_fit x kind pins) _ fits))

pub word_fits : (number abits level levels : ℕ) → number < 2 ^ abits → level < levels → levels ≤ abits + 1 → number / 2 ^ level < 2 ^ (abits - level)
word_fits number abits level levels h l few =
    let split : abits - level + level ≡ abits = omega arith in
    shr_below number (abits - level) level (rw split h)

-- a bit of a word lies as far above the place where the word begins as in the word
pub lies_from : (widths : List ℕ) (steps level word from k : ℕ) → (lies_above widths steps level word (from + k)).1 ≡ (lies_above widths steps level word from).1 + k
lies_from widths zero level word from k = refl
lies_from widths (suc n) level word from k =
    ap (λ p. (lies_above widths n (level + 1) (word / 2) p).1) (let z : word % 2 * width_at widths level + (from + k) ≡ word % 2 * width_at widths level + from + k = omega arith in z)
    ∙ lies_from widths n (level + 1) (word / 2) (word % 2 * width_at widths level + from) k

pub lies_row : (widths : List ℕ) (steps level word from to : ℕ) → (lies_above widths steps level word from).0 ≡ (lies_above widths steps level word to).0
lies_row widths zero level word from to = refl
lies_row widths (suc n) level word from to = lies_row widths n (level + 1) (word / 2) (word % 2 * width_at widths level + from) (word % 2 * width_at widths level + to)

-- what the geometry needs of a slot
pub record IsPlaced (levels : ℕ) (widths : List ℕ) (abits : ℕ) (pins : SlotUse) (at : ℕ) : Type 0 where
  pub address : length pins.addr ≤ 20
  pub level : pins.level < levels
  pub low : pins.level < 32
  pub word : (number : ℕ) → number < 2 ^ length pins.addr → number / 2 ^ pins.level < 2 ^ (abits - pins.level)
  pub bit : at < width_at widths pins.level

pub placed : (x y : Variant) (widths : List ℕ) (abits levels : ℕ) (kind : Group) (pins : SlotUse) (bit : ℕ) → x ≡ y → widths ≡ x.widths → abits ≡ x.abits → IsSized x → length widths ≡ levels → slot_fits y kind pins ≡ true → bit < width_at y.widths pins.level → IsPlaced levels widths abits pins bit
placed x y widths abits levels kind pins bit same ws high sized count fits inside =
    let bits : length pins.addr ≡ abits = address_bits y kind pins fits ∙ ap (λ v. v.abits) (sym same) ∙ sym high in
    let inner : bit < width_at widths pins.level = subst (λ l. bit < width_at l pins.level) (ap (λ v. v.widths) (sym same) ∙ sym ws) inside in
    let level : pins.level < length widths = width_some widths pins.level bit inner in
    let few : length widths ≤ abits + 1 = subst (λ n. length widths ≤ n + 1) (sym high) (subst (λ l. length l ≤ x.abits + 1) (sym ws) sized.levels) in
    let small : abits ≤ 20 = subst (λ n. n ≤ 20) (sym high) sized.abits in
    record {
      address = omega (arith, bits, small);
      level = omega (arith, count, level);
      low = omega (arith, level, few, small);
      word = λ number h. word_fits number abits pins.level (length widths) (subst (λ n. number < 2 ^ n) bits h) level few;
      bit = inner;
    }

pub record IsFound (x : Variant) (level row at : ℕ) (place : BasePlace) : Type 0 where
  pub word : place.word ≡ (lies x level row at).0
  pub bit : place.bit ≡ (lies x level row at).1
  pub words : place.word < last_words x
  pub width : place.bit < last_width x

pub found : (x y : Variant) (widths : List ℕ) (abits levels level word bit : ℕ) (place : BasePlace) → x ≡ y → widths ≡ x.widths → abits ≡ x.abits → length widths ≡ levels → place ≡ place_in widths level word bit → place.word < 2 ^ (abits - (levels - 1)) → place.bit < width_at widths (levels - 1) → IsFound y level word bit place
found x y widths abits levels level word bit place same ws base count at words width =
    let all : widths ≡ y.widths = ws ∙ ap (λ v. v.widths) same in
    let high : abits ≡ y.abits = base ∙ ap (λ v. v.abits) same in
    let last : levels ≡ length y.widths = sym count ∙ ap length all in
    record {
      word = ap (λ p. p.word) at ∙ ap (λ l. (lies_above l (length l - 1 - level) level word bit).0) all;
      bit = ap (λ p. p.bit) at ∙ ap (λ l. (lies_above l (length l - 1 - level) level word bit).1) all;
      words = subst (λ n. place.word < 2 ^ (n - (length y.widths - 1))) high (subst (λ n. place.word < 2 ^ (abits - (n - 1))) last words);
      width = subst (λ l. place.bit < width_at l (length y.widths - 1)) all (subst (λ n. place.bit < width_at widths (n - 1)) last width);
    }

pub lies_at : (x : Variant) (level word k : ℕ) → ((lies x level word k).0 ≡ (lies x level word 0).0) × ((lies x level word k).1 ≡ (lies x level word 0).1 + k)
lies_at x level word k =
    let steps : ℕ = last_level x - level in
    let z : k ≡ 0 + k = omega arith in
    (lies_row x.widths steps level word k 0, ap (λ n. (lies_above x.widths steps level word n).1) z ∙ lies_from x.widths steps level word 0 k)

pub high_below : (x : Variant) (level word high : ℕ) (last : BasePlace) → last.bit ≡ (lies x level word high).1 → high ≤ last.bit
high_below x level word high last e = let f = (lies_at x level word high).1 in omega (arith, e, f)

pub begins : (x : Variant) (level word high : ℕ) (last : BasePlace) → last.word ≡ (lies x level word high).0 → last.bit ≡ (lies x level word high).1 → (k : ℕ) → BeginsAt (record { word = last.word; bit = last.bit - high }) k (lies x level word k)
begins x level word high last row place k =
    let here = lies_at x level word k in
    let top = lies_at x level word high in
    record {
      row = here.0 ∙ sym top.0 ∙ sym row;
      place = let a = here.1 in let b = top.1 in omega (arith, a, b, place);
    }

pub width_grows : (ws : List ℕ) (fit : AreWidths ws) (d k : ℕ) → k + d < length ws → width_at ws k ≤ width_at ws (k + d)
width_grows ws fit zero k h = let z : k ≡ k + 0 = omega arith in subst (λ n. width_at ws k ≤ width_at ws n) z (let r : width_at ws k ≤ width_at ws k = omega arith in r)
width_grows ws fit (suc d) k h =
    let next = fit.doubled k (omega arith) in
    let rest = width_grows ws fit d (k + 1) (omega arith) in
    let z : k + 1 + d ≡ k + suc d = omega arith in
    subst (λ n. width_at ws k ≤ width_at ws n) z (omega (arith, next, rest))

pub widest : (ws : List ℕ) (fit : AreWidths ws) (k : ℕ) → width_at ws k ≤ width_at ws (length ws - 1)
widest ws fit k =
    ⊎_elim
    (λ (inside : k < length ws).
    let z : k + (length ws - 1 - k) ≡ length ws - 1 = omega arith in
    subst (λ n. width_at ws k ≤ width_at ws n) z (width_grows ws fit (length ws - 1 - k) k (omega arith)))
    (λ (beyond : length ws ≤ k). let none = width_past ws k beyond in omega (arith, none))
    (cases_lt k (length ws))
