-- What is kept of a slot next, once the row that it loads from is known.
use Rattle.std.specs.Prelude.{◌≡◌, ℕ, ◌+◌, ◌*◌, ◌/◌, ◌<◌, ◌≤◌, Bool, true, false, cond, List, Option, length, slice_index}
use Rattle.lib_core.specs.declared.library.Tri.{Tri}
use Rattle.lib_core.specs.declared.library.Tri.TheVariants.{Any}
use Rattle.lib_core.specs.declared.library.Variant.{Variant}
use Rattle.lib_core.specs.Rams.{last_width, last_words, lane_width, filled}
use Rattle.net_core.specs.declared.bits.Event.{Event}
use Rattle.net_core.specs.Values.{Valuation, tri_of}
use Rattle.net_core.specs.Ram.{Slot, slot_hits, slot_loads, hits_itself, slot_next, slot_width, lane_enabled}
use Rattle.row_store.specs.Rows.{row_of, bit_of, tri_in}
use Rattle.ram_step.specs.declared.hits.Hit.{Hit}
use Rattle.ram_step.specs.declared.nexts.Next.{Next}
use Rattle.ram_step.specs.declared.nexts.Next.TheVariants.{Same, Shown, Reset, Open, Loaded}
use Rattle.ram_step.specs.Hits.{hit_bits}
use Rattle.ram_step.specs.Moments.{inputs_alone, moment_of}
use Rattle.ram_step.specs.Owners.{SlotList}

abbrev pub tri_next : {limbs : ℕ} → Valuation → Slot → (ℕ → Bool) → ℕ → Next limbs → Tri
tri_next v s kept k Same = tri_of (kept k)
tri_next v s kept k Shown = tri_of (v (slice_index s.pins.out k))
tri_next v s kept k Reset = filled s.kind.srst s.pins.srst_value k
tri_next v s kept k Open = Any
tri_next v s kept k (Loaded row from) = tri_in row.values row.known (from + k)

-- the row that is loaded has so many bits from the place on
abbrev pub HasRoom : {limbs : ℕ} → ℕ → Next limbs → Type 0
HasRoom width Same = Unit {0}
HasRoom width Shown = Unit {0}
HasRoom width Reset = Unit {0}
HasRoom width Open = Unit {0}
HasRoom {limbs = limbs} width (Loaded row from) = from + width ≤ 64 * limbs

-- the lane of a place of the slot's word is enabled
abbrev pub lane_at : Variant → Valuation → Slot → ℕ → Bool
lane_at x v s i = lane_enabled v s (i / lane_width x.byte (slot_width x s))

-- what a loading read takes, or only where the slot's own write is
abbrev pub takes : Bool → Slot → List Slot → List (Option Bool) → Tri → Tri
takes false s all hs old = slot_loads s all hs old
takes true s all hs old = cond (hits_itself s all hs) (slot_loads s all hs old) Any

-- the packed hits are those of the moment
pub record AreHits {limbs : ℕ} (slots : SlotList) (v : Valuation) (e : Event) (hits : List (Option (Hit limbs))) : Type 0 where
  pub count : length hits ≡ length slots.all
  pub bits : (word k : ℕ) → slot_hits (inputs_alone e) slots.variant (moment_of e) v word k slots.all ≡ hit_bits hits word k

-- rows of the variant
pub record AreWords (x : Variant) (rows : List (List Tri)) : Type 0 where
  pub count : length rows ≡ last_words x
  pub widths : (word : ℕ) → word < last_words x → length (row_of rows word) ≡ last_width x

-- what is kept of a place of a slot after the event
abbrev pub next_of : SlotList → Valuation → Event → List (List Tri) → Slot → (ℕ → Bool) → ℕ → Tri
next_of slots v e rows s kept k = slot_next (inputs_alone e) slots.variant slots.all s (moment_of e) v (bit_of rows) kept k (slice_index s.pins.out k)
