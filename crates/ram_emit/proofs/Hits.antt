-- What the port of a write reaches in the cell is what the write reaches in the memory.
use Rattle.std.proofs.Common.{◌≡◌, ℕ, ◌+◌, ◌-◌, ◌*◌, ◌/◌, ◌^◌, ◌<◌, ◌≤◌, Bool, true, false, cond, not, ◌&&◌, ◌||◌, List, [], length, get_or, Option, Some, None, refl, sym, ap, ◌∙◌, arith, nat_eq, nat_lt, nat_le}
use Rattle.std.specs.List.{range_with_len, find}
use Rattle.std.proofs.lemmas.Bool.{eqb-true}
use Rattle.std.proofs.lemmas.Bool.Decides.{nat_tests}
use Rattle.std.proofs.Math.Nat.{div-one, div-eq_of_lt}
use Rattle.lib_core.specs.declared.library.Group.{Group}
use Rattle.lib_core.specs.declared.library.Variant.{Variant}
use Rattle.lib_core.specs.Rams.{width_at, last_level, last_width, last_words, lies, lies_above, lane_width}
use Rattle.net_core.specs.declared.bits.Bit.TheVariants.{Zero as Low}
use Rattle.net_core.specs.declared.mems.WrPort.{WrPort}
use Rattle.net_core.specs.declared.rams.SlotUse.{SlotUse}
use Rattle.net_core.specs.Values.{Valuation, Happening, value_of, values_of, number_of, bit_at, has_edge}
use Rattle.net_core.specs.Memory.{Frame, base_of, hit}
use Rattle.net_core.specs.Ram.{Slot, slot_width, word_of, slot_active, lane_enabled, place_at, hit_at, slot_hit}
use Rattle.ram_emit.specs.Cell.{padded, word_bits, write_use}
use Rattle.ram_emit.proofs.Padding.{number_padded, value_at, value_padded, found}

-- a variant of one width
module _ (x : Variant) (one : length x.widths ≡ 1) where
  last_first : last_level x ≡ 0
  last_first = omega (arith, one)

  pub one_width : last_width x ≡ word_bits x
  one_width = ap (width_at x.widths) last_first

  pub all_words : last_words x ≡ 2 ^ x.abits
  all_words = let e : x.abits - last_level x ≡ x.abits = omega (arith, last_first) in ap (λ n. 2 ^ n) e

  pub lies_is : (word place : ℕ) → lies x 0 word place ≡ (word, place)
  lies_is word place = let e : last_level x - 0 ≡ 0 = omega (arith, last_first) in ap (λ n. lies_above x.widths n 0 word place) e

abbrev pub slot_at : ℕ → ℕ → Group → SlotUse → Slot
slot_at number n g pins = record { number = number; group = n; kind = g; pins = pins }

-- what the write of a memory is to the port of a variant
pub record WriteMet (x : Variant) (g : Group) (f : Frame) (w : WrPort) : Type 0 where
  pub one : length x.widths ≡ 1
  pub byte : x.byte ≡ None
  pub clken : g.clken ≡ false
  pub separate : g.separate ≡ false
  pub wide : w.wide ≡ 0
  pub offset : f.offset ≡ 0
  pub enables : length w.en ≡ f.width
  pub values : length w.value ≡ f.width
  pub room : f.width ≤ word_bits x
  pub even : (k : ℕ) → k < f.width → get_or w.en k Low ≡ get_or w.en 0 Low

is_here : (base word : ℕ) → (nat_le base word && nat_lt word (base + 1)) ≡ nat_eq base word
is_here base word = grind (arith, nat_tests)

and_true : (b : Bool) → (b && true) ≡ b
and_true true = refl
and_true false = refl

and_false : (b : Bool) → (b && false) ≡ false
and_false true = refl
and_false false = refl

three : (a b c d : Bool) → (a && b && c && d) ≡ (a && ((b && c) && d))
three true true c d = refl
three true false c d = refl
three false b c d = refl

none_where : (a : Bool) (y z : Bool) → cond (a && false) (Some y) None ≡ cond (a && false) (Some z) None
none_where true y z = refl
none_where false y z = refl

module _ (x : Variant) (g : Group) (f : Frame) (w : WrPort) (met : WriteMet x g f w) (inputs : List ℕ) (e : Happening) (v : Valuation) where
  abbrev here : ℕ → Bool
  here word = nat_eq (base_of v w.addr) word

  abbrev puts : ℕ → ℕ → Option Bool
  puts word k = cond (has_edge inputs e.edge w.clock && (here word && value_of v (get_or w.en 0 Low))) (Some (bit_at (values_of v w.value) k)) None

  -- in the cell
  module _ (number n next word k : ℕ) (within : k < f.width) where
    abbrev slot : Slot
    slot = slot_at number n g (write_use x g next w)

    word_is : word_of v slot ≡ base_of v w.addr
    word_is = div-one (number_of (values_of v (padded w.addr x.abits))) ∙ number_padded v w.addr x.abits

    place_is : place_at x v slot word k ≡ cond (here word) (Some k) None
    place_is =
        ap {A = ℕ → ℕ × ℕ} (λ h. find (λ i. nat_eq (h i).0 word && nat_eq (h i).1 k) (range_with_len 0 (word_bits x))) (λ j i. lies_is x met.one (word_of v slot) i j)
        ∙ ap (λ b. find (λ i. nat_eq b word && nat_eq i k) (range_with_len 0 (word_bits x))) word_is
        ∙ found (here word) (word_bits x) k (omega (arith, within, met.room))

    active_is : slot_active inputs e v slot ≡ has_edge inputs e.edge w.clock
    active_is = ap (λ b. has_edge inputs e.edge w.clock && (not b || false)) met.clken ∙ and_true (has_edge inputs e.edge w.clock)

    lane_is : lane_enabled v slot (k / lane_width x.byte (slot_width x slot)) ≡ value_of v (get_or w.en 0 Low)
    lane_is =
        ap (λ b. lane_enabled v slot (k / lane_width b (word_bits x))) met.byte
        ∙ ap (lane_enabled v slot) (let z : k / word_bits x ≡ 0 = div-eq_of_lt (let q : k < word_bits x = omega (arith, within, met.room) in q) in z)
        ∙ ap (λ b. cond b (value_of v (get_or w.en 0 Low) && bit_at [] 0) (value_of v (get_or w.en 0 Low))) met.separate

    value_is : bit_at (values_of v (padded w.value (word_bits x))) k ≡ bit_at (values_of v w.value) k
    value_is = value_padded v w.value _ k (omega (arith, within, met.values))

    hit_by : (b : Bool) → hit_at x v slot (slot_active inputs e v slot) (cond b (Some k) None) ≡ cond (has_edge inputs e.edge w.clock && (b && value_of v (get_or w.en 0 Low))) (Some (bit_at (values_of v w.value) k)) None
    hit_by true = λ i. cond (active_is i && lane_is i) (Some (value_is i)) None
    hit_by false = sym (ap (λ b. cond b (Some (bit_at (values_of v w.value) k)) None) (and_false (has_edge inputs e.edge w.clock)))

    pub slot_puts : slot_hit inputs x e v word k slot ≡ puts word k
    slot_puts = ap (hit_at x v slot (slot_active inputs e v slot)) place_is ∙ hit_by (here word)

  -- in the memory
  module _ (word k : ℕ) (within : k < f.width) where
    address_is : f.offset + word ≡ word
    address_is = omega (arith, met.offset)

    power_is : 2 ^ w.wide ≡ 1
    power_is = ap (λ n. 2 ^ n) met.wide

    abbrev reaches : ℕ → ℕ → Option Bool
    reaches address room = cond (has_edge inputs e.edge w.clock && nat_le (base_of v w.addr) address && nat_lt address (base_of v w.addr + room) && bit_at (values_of v w.en) ((address - base_of v w.addr) * f.width + k)) (Some (bit_at (values_of v w.value) ((address - base_of v w.addr) * f.width + k))) None

    enable_is : bit_at (values_of v w.en) k ≡ value_of v (get_or w.en 0 Low)
    enable_is = value_at v w.en k (omega (arith, within, met.enables)) ∙ ap (value_of v) (met.even k within)

    reached : (b : Bool) → here word ≡ b → reaches word 1 ≡ cond (has_edge inputs e.edge w.clock && (b && value_of v (get_or w.en 0 Low))) (Some (bit_at (values_of v w.value) k)) None
    reached true h =
        let same : base_of v w.addr ≡ word = eqb-true (base_of v w.addr) word h in
        let place : (word - base_of v w.addr) * f.width + k ≡ k = ap (λ n. n * f.width + k) (let z : word - base_of v w.addr ≡ 0 = omega (arith, same) in z) ∙ (let z : 0 * f.width + k ≡ k = omega arith in z) in
        (λ i. cond (three (has_edge inputs e.edge w.clock) (nat_le (base_of v w.addr) word) (nat_lt word (base_of v w.addr + 1)) (bit_at (values_of v w.en) (place i)) i) (Some (bit_at (values_of v w.value) (place i))) None)
        ∙ (λ i. cond (has_edge inputs e.edge w.clock && ((is_here (base_of v w.addr) word ∙ h) i && enable_is i)) (Some (bit_at (values_of v w.value) k)) None)
    reached false h =
        let off : (nat_le (base_of v w.addr) word && nat_lt word (base_of v w.addr + 1)) ≡ false = is_here (base_of v w.addr) word ∙ h in
        (λ i. cond (three (has_edge inputs e.edge w.clock) (nat_le (base_of v w.addr) word) (nat_lt word (base_of v w.addr + 1)) (bit_at (values_of v w.en) ((word - base_of v w.addr) * f.width + k)) i) (Some (bit_at (values_of v w.value) ((word - base_of v w.addr) * f.width + k))) None)
        ∙ (λ i. cond (has_edge inputs e.edge w.clock && (off i && bit_at (values_of v w.en) ((word - base_of v w.addr) * f.width + k))) (Some (bit_at (values_of v w.value) ((word - base_of v w.addr) * f.width + k))) None)
        ∙ none_where (has_edge inputs e.edge w.clock) (bit_at (values_of v w.value) ((word - base_of v w.addr) * f.width + k)) (bit_at (values_of v w.value) k)

    pub mem_puts : hit inputs f e v word k w ≡ puts word k
    mem_puts = (λ i. reaches (address_is i) (power_is i)) ∙ reached (here word) refl

  pub hits_alike : (number n next word k : ℕ) → k < f.width → slot_hit inputs x e v word k (slot_at number n g (write_use x g next w)) ≡ hit inputs f e v word k w
  hits_alike number n next word k within = slot_puts number n next word k within ∙ sym (mem_puts word k within)
