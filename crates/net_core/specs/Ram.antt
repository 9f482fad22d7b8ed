-- What a RAM cell allows, by the variant that describes it: its contents over time, and what its slots show and keep. (The
-- words are those of Yosys' memory_libmap; what is not described there shows any value.)
use Rattle.std.specs.Prelude.{◌≡◌, ℕ, zero, suc, ◌+◌, ◌*◌, ◌/◌, ◌^◌, ◌<◌, Bool, true, false, cond, not, ◌&&◌, ◌||◌, List, [], ◌∷◌, ◌++◌, length, Option, Some, None, slice_get, nat_eq}
use Rattle.std.specs.List.{range_with_len, list_any, find}
use Rattle.lib_core.specs.declared.library.Tri.{Tri}
use Rattle.lib_core.specs.declared.library.Tri.TheVariants.{Any}
use Rattle.lib_core.specs.declared.library.OwnWrite.{OwnWrite}
use Rattle.lib_core.specs.declared.library.OwnWrite.TheVariants as own
use Rattle.lib_core.specs.declared.library.Group.{Group}
use Rattle.lib_core.specs.declared.library.Variant.{Variant}
use Rattle.lib_core.specs.Rams.{width_at, last_width, last_words, lies, reads_now, reads_later, lane_width, wins_over, filled, has_fill, reset_counts, View, group_view, is_behind, is_before}
use Rattle.net_core.specs.declared.rams.SlotUse.{SlotUse}
use Rattle.net_core.specs.declared.rams.RamCell.{RamCell}
use Rattle.net_core.specs.Values.{Valuation, Wave, Happening, At, value_of, values_of, number_of, bit_at, tri_of, Agrees, Shows, has_edge}
use Rattle.net_core.specs.Memory.{Words, is_hit, any_hit, tri_or_any}

-- a slot: its number in the cell, its group, and its pins
pub record Slot : Type 0 where
  pub number : ℕ
  pub group : ℕ
  pub kind : Group
  pub pins : SlotUse

-- the slots of a group, one for each name, and those of all groups, in order
abbrev pub group_slots : ℕ → ℕ → Group → ℕ → List SlotUse → List Slot
group_slots number g kind zero pins = []
group_slots number g kind (suc n) [] = []
group_slots number g kind (suc n) (p ∷ ps) = record { number = number; group = g; kind = kind; pins = p } ∷ group_slots (number + 1) g kind n ps

abbrev pub skip : ℕ → List SlotUse → List SlotUse
skip zero ps = ps
skip (suc n) [] = []
skip (suc n) (p ∷ ps) = skip n ps

abbrev pub slots_from : ℕ → ℕ → List Group → List SlotUse → List Slot
slots_from number g [] pins = []
slots_from number g (kind ∷ kinds) pins =
    group_slots number g kind (length kind.names) pins ++ slots_from (number + length kind.names) (g + 1) kinds (skip (length kind.names) pins)

abbrev pub slots_of : Variant → RamCell → List Slot
slots_of x cell = slots_from 0 0 x.groups cell.slots

abbrev pub slot_width : Variant → Slot → ℕ
slot_width x s = width_at x.widths s.pins.level

-- the slot's word, of its own level
abbrev pub word_of : Valuation → Slot → ℕ
word_of v s = number_of (values_of v s.pins.addr) / 2 ^ s.pins.level

abbrev pub slot_edge : List ℕ → Happening → Slot → Bool
slot_edge inputs e s = s.pins.used && has_edge inputs e.edge s.pins.clock

abbrev pub slot_active : List ℕ → Happening → Valuation → Slot → Bool
slot_active inputs e v s = slot_edge inputs e s && (not s.kind.clken || value_of v s.pins.clken)

abbrev pub lane_enabled : Valuation → Slot → ℕ → Bool
lane_enabled v s lane =
    cond s.kind.separate (bit_at (values_of v s.pins.wren) 0 && bit_at (values_of v s.pins.wrbe) lane) (bit_at (values_of v s.pins.wren) lane)

-- the place of the slot's word that lies at this bit of this word of the last width
abbrev pub place_at : Variant → Valuation → Slot → ℕ → ℕ → Option ℕ
place_at x v s word k =
    find (λ i. let at = lies x s.pins.level (word_of v s) i in nat_eq at.0 word && nat_eq at.1 k) (range_with_len 0 (slot_width x s))

-- the bit that a slot puts there, if it reaches it
abbrev pub hit_at : Variant → Valuation → Slot → Bool → Option ℕ → Option Bool
hit_at x v s active None = None
hit_at x v s active (Some i) =
    cond (active && lane_enabled v s (i / lane_width x.byte (slot_width x s))) (Some (bit_at (values_of v s.pins.value) i)) None

abbrev pub slot_hit : List ℕ → Variant → Happening → Valuation → ℕ → ℕ → Slot → Option Bool
slot_hit inputs x e v word k s = hit_at x v s (slot_active inputs e v s) (place_at x v s word k)

-- one entry for each slot
abbrev pub slot_hits : List ℕ → Variant → Happening → Valuation → ℕ → ℕ → List Slot → List (Option Bool)
slot_hits inputs x e v word k [] = []
slot_hits inputs x e v word k (s ∷ ss) = slot_hit inputs x e v word k s ∷ slot_hits inputs x e v word k ss

abbrev pub is_above : Slot → Slot → Bool
is_above a b = wins_over a.group a.kind b.group b.kind

abbrev pub beats_slots : Slot → List Slot → List (Option Bool) → Bool
beats_slots own [] hs = true
beats_slots own (s ∷ ss) [] = true
beats_slots own (s ∷ ss) (h ∷ hs) = (not (is_hit h) || (nat_eq own.number s.number || is_above own s)) && beats_slots own ss hs

abbrev pub slot_winner : List Slot → List (Option Bool) → List Slot → List (Option Bool) → Option Bool
slot_winner all hits [] hs = None
slot_winner all hits (s ∷ ss) [] = None
slot_winner all hits (s ∷ ss) (None ∷ hs) = slot_winner all hits ss hs
slot_winner all hits (s ∷ ss) (Some b ∷ hs) = cond (beats_slots s all hits) (Some b) (slot_winner all hits ss hs)

-- a bit after the writes
abbrev pub slots_written : List Slot → List (Option Bool) → Tri → Tri
slots_written all hs old = cond (any_hit hs) (tri_or_any (slot_winner all hs all hs)) old

abbrev pub view : Slot → Slot → View
view reader writer = group_view (nat_eq reader.number writer.number) reader.group reader.kind writer.kind

-- each hit is seen as made; each is seen as not made yet
abbrev pub all_behind : Slot → List Slot → List (Option Bool) → Bool
all_behind s [] hs = true
all_behind s (w ∷ ws) [] = true
all_behind s (w ∷ ws) (h ∷ hs) = (not (is_hit h) || is_behind (view s w)) && all_behind s ws hs

abbrev pub all_before : Slot → List Slot → List (Option Bool) → Bool
all_before s [] hs = true
all_before s (w ∷ ws) [] = true
all_before s (w ∷ ws) (h ∷ hs) = (not (is_hit h) || is_before (view s w)) && all_before s ws hs

-- what a loading read takes of a bit
abbrev pub slot_loads : Slot → List Slot → List (Option Bool) → Tri → Tri
slot_loads s all hs old =
    cond (any_hit hs) (cond (all_behind s all hs) (tri_or_any (slot_winner all hs all hs)) (cond (all_before s all hs) old Any)) old

-- the slot's own hit is among them
abbrev pub hits_itself : Slot → List Slot → List (Option Bool) → Bool
hits_itself s [] hs = false
hits_itself s (w ∷ ws) [] = false
hits_itself s (w ∷ ws) (h ∷ hs) = (nat_eq s.number w.number && is_hit h) || hits_itself s ws hs

-- the slot reaches at least one bit of its word
abbrev pub writes_itself : List ℕ → Variant → Happening → Valuation → Slot → Bool
writes_itself inputs x e v s =
    slot_active inputs e v s && list_any (λ i. lane_enabled v s (i / lane_width x.byte (slot_width x s))) (range_with_len 0 (slot_width x s))

-- a bit that is loaded while the slot writes its own word
abbrev pub own_loads : Slot → List Slot → List (Option Bool) → Tri → Bool → OwnWrite → Tri
own_loads s all hs old kept own.Undefined = Any
own_loads s all hs old kept own.NoChange = tri_of kept
own_loads s all hs old kept own.Old = slot_loads s all hs old
own_loads s all hs old kept own.New = slot_loads s all hs old
own_loads s all hs old kept own.NewOnly = cond (hits_itself s all hs) (slot_loads s all hs old) Any

abbrev pub slot_enabled : Valuation → Slot → Bool
slot_enabled v s = not s.kind.clken || value_of v s.pins.clken

abbrev pub slot_reading : Valuation → Slot → Bool
slot_reading v s = not s.kind.rden || value_of v s.pins.rden

abbrev pub slot_in_arst : Valuation → Slot → Bool
slot_in_arst v s = has_fill s.kind.arst && value_of v s.pins.arst

abbrev pub slot_in_srst : Valuation → Slot → Bool
slot_in_srst v s = has_fill s.kind.srst && value_of v s.pins.srst && reset_counts s.kind.srst_gate (slot_enabled v s) (slot_reading v s)

-- what a used slot that reads into a register keeps at a place then
abbrev pub slot_next : List ℕ → Variant → List Slot → Slot → Happening → Valuation → (ℕ → ℕ → Tri) → (ℕ → Bool) → ℕ → ℕ → Tri
slot_next inputs x all s e v words kept k out =
    let at = lies x s.pins.level (word_of v s) k in
    let hs = slot_hits inputs x e v at.0 at.1 all in
    cond (slot_in_arst v s) (tri_of (v out))
    (cond (not (slot_edge inputs e s)) (tri_of (kept k))
    (cond (slot_in_srst v s) (filled s.kind.srst s.pins.srst_value k)
    (cond (not (slot_enabled v s && slot_reading v s)) (tri_of (kept k))
    (cond (writes_itself inputs x e v s) (own_loads s all hs (words at.0 at.1) (kept k) s.kind.own) (slot_loads s all hs (words at.0 at.1))))))

pub record RegisteredAllows (inputs : List ℕ) (x : Variant) (all : List Slot) (s : Slot) (words : Words) (events : List Happening) (v : Wave) : Type 0 where
  pub kept : ℕ → ℕ → Bool
  pub starts : (k : ℕ) → Agrees (filled s.kind.start s.pins.init_value k) (kept 0 k)
  pub shows : (t : ℕ) (e : Happening) → At events t e → Shows (v t) s.pins.out (λ k. cond (slot_in_arst (v t) s) (filled s.kind.arst s.pins.arst_value k) (tri_of (kept t k)))
  pub steps : (t : ℕ) (e : Happening) → At events t e → (k out : ℕ) → slice_get s.pins.out k ≡ Some out → Agrees (slot_next inputs x all s e (v t) (words t) (kept t) k out) (kept (suc t) k)

abbrev pub ReadsNow : Variant → Slot → Words → List Happening → Wave → Type 0
ReadsNow x s words events v =
    (t : ℕ) (e : Happening) → At events t e → Shows (v t) s.pins.out (λ k. let at = lies x s.pins.level (word_of (v t) s) k in words t at.0 at.1)

-- a slot by what it does: an unused one, and one that only writes, shows anything on its outputs
abbrev pub SlotAllows : List ℕ → Variant → List Slot → Slot → Words → List Happening → Wave → Type 0
SlotAllows inputs x all s words events v =
    (s.pins.used ≡ true → reads_now s.kind.kind ≡ true → ReadsNow x s words events v)
    × (s.pins.used ≡ true → reads_later s.kind.kind ≡ true → RegisteredAllows inputs x all s words events v)

pub record RamAllows (inputs : List ℕ) (x : Variant) (cell : RamCell) (events : List Happening) (v : Wave) : Type 0 where
  pub words : Words
  pub starts : (word k : ℕ) → word < last_words x → k < last_width x → words 0 word k ≡ filled x.fill cell.init (word * last_width x + k)
  pub steps : (t : ℕ) (e : Happening) → At events t e → (word k : ℕ) → word < last_words x → k < last_width x → words (suc t) word k ≡ slots_written (slots_of x cell) (slot_hits inputs x e (v t) word k (slots_of x cell)) (words t word k)
  pub slots : (i : ℕ) (s : Slot) → slice_get (slots_of x cell) i ≡ Some s → SlotAllows inputs x (slots_of x cell) s words events v
