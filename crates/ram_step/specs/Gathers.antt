-- What the hits of a row come to, slot by slot.
use Rattle.std.specs.Prelude.{ℕ, Bool, true, false, cond, not, ◌&&◌, ◌||◌, List, [], ◌∷◌, Option, Some, None, nat_eq}
use Rattle.lib_core.specs.Rams.{is_behind, is_before}
use Rattle.net_core.specs.Memory.{is_hit}
use Rattle.net_core.specs.Ram.{Slot, is_above, view, beats_slots}
use Rattle.row_store.specs.Limbs.{bit_in}
use Rattle.ram_step.specs.declared.gathers.Choice.{Choice}
use Rattle.ram_step.specs.declared.gathers.Choice.TheVariants.{Every, Itself, Unbeaten, NotBehind, NotBefore}

-- the hits of the other slot count
abbrev pub counts : Choice → Slot → Slot → Bool
counts Every own other = true
counts Itself own other = nat_eq own.number other.number
counts Unbeaten own other = not (nat_eq own.number other.number || is_above own other)
counts NotBehind own other = not (is_behind (view own other))
counts NotBefore own other = not (is_before (view own other))

-- one of the hits that count is there
abbrev pub some_hit : Choice → Slot → List Slot → List (Option Bool) → Bool
some_hit choice own [] hs = false
some_hit choice own (s ∷ ss) [] = false
some_hit choice own (s ∷ ss) (h ∷ hs) = (counts choice own s && is_hit h) || some_hit choice own ss hs

-- a bit that is known, by limbs of values and of which are known
abbrev pub known_bit : List ℕ → List ℕ → ℕ → Option Bool
known_bit values known k = cond (bit_in known k) (Some (bit_in values k)) None

abbrev pub or_else : Option Bool → Option Bool → Option Bool
or_else None b = b
or_else (Some a) b = Some a

-- what a slot writes if it has priority over all others that hit
abbrev pub candidate : Slot → List Slot → List (Option Bool) → Option Bool → Option Bool
candidate s all hs None = None
candidate s all hs (Some b) = cond (beats_slots s all hs) (Some b) None
