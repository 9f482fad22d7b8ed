-- How bits are written as signals: each net at its home, and neighbours that can stand in one part stand in one.
use Rattle.std.specs.Prelude.{ℕ, ◌+◌, ◌-◌, Bool, true, false, ◌&&◌, List, [], ◌∷◌, ◌++◌, map, reverse, length, slice_get, Option, Some, None, nat_eq, if◌then◌else◌}
use Rattle.rtlil_lex.specs.declared.token.Digit.{Digit}
use Rattle.rtlil_lex.specs.declared.token.Digit.TheVariants as digit
use Rattle.rtlil_text.specs.declared.doc.DocConst.TheVariants as const
use Rattle.rtlil_text.specs.declared.doc.Part.{Part}
use Rattle.rtlil_text.specs.declared.doc.Part.TheVariants as part
use Rattle.net_core.specs.declared.bits.Bit.{Bit}
use Rattle.net_core.specs.declared.bits.Bit.TheVariants.{Zero, One, Net}
use Rattle.net_draft.specs.declared.homes.Home.{Home}
use Rattle.net_draft.specs.declared.signals.Face.{Face}
use Rattle.net_draft.specs.declared.signals.Sheet.{Sheet}
use Rattle.net_draft.specs.declared.signals.Spot.{Spot}
use Rattle.net_draft.specs.declared.signals.Spot.TheVariants as spot

-- ---- what is written for bits

-- a net without a home is open
abbrev pub spot_at : Option (Option Home) → Spot
spot_at None = spot.Digit digit.X
spot_at (Some None) = spot.Digit digit.X
spot_at (Some (Some h)) = spot.At h

abbrev pub spot_of : List (Option Home) → Bit → Spot
spot_of homes Zero = spot.Digit digit.Zero
spot_of homes One = spot.Digit digit.One
spot_of homes (Net n) = spot_at (slice_get homes n)

-- the most significant first
abbrev pub spots_of : List (Option Home) → List Bit → List Spot
spots_of homes bits = map (λ b. spot_of homes b) (reverse bits)

-- ---- runs

-- the second is the next lower bit of the same wire
abbrev pub is_below : Home → Home → Bool
is_below high low = nat_eq high.wire low.wire && nat_eq high.bit (low.bit + 1)

-- two neighbours stand in one part
abbrev pub is_next : Spot → Spot → Bool
is_next (spot.Digit d) (spot.Digit e) = true
is_next (spot.Digit d) (spot.At low) = false
is_next (spot.At high) (spot.Digit e) = false
is_next (spot.At high) (spot.At low) = is_below high low

abbrev pub leads_on : Spot → List Spot → Bool
leads_on high [] = true
leads_on high (low ∷ ss) = is_next high low

unfoldable pub is_one_run : List Spot → Bool
is_one_run [] = true
is_one_run (s ∷ ss) = leads_on s ss && is_one_run ss

-- a run goes on with a further spot
abbrev pub goes_on : Option Spot → Spot → Bool
goes_on None s = true
goes_on (Some before) s = is_next before s

-- ---- parts

abbrev pub is_whole : Face → ℕ → ℕ → Bool
is_whole face high low = nat_eq low 0 && nat_eq face.width (high + 1)

-- the bits of a wire from low to high
abbrev pub slice_parts : Face → ℕ → ℕ → List Part
slice_parts face high low = if is_whole face high low then part.Wire face.name ∷ [] else part.Wire face.name ∷ part.Slice high low ∷ []

abbrev pub wire_parts : Option Face → ℕ → ℕ → List Part
wire_parts None high low = []
wire_parts (Some face) high low = slice_parts face high low

abbrev pub digit_of : Spot → Digit
digit_of (spot.Digit d) = d
digit_of (spot.At h) = digit.X

abbrev pub digits_of : List Spot → List Part
digits_of run = part.Fixed (const.Digits (map (λ s. digit_of s) run)) ∷ []

-- a run of bits of a wire is one slice, and of digits one constant
unfoldable pub run_parts : List Face → List Spot → List Part
run_parts faces [] = digits_of []
run_parts faces (spot.Digit d ∷ ss) = digits_of (spot.Digit d ∷ ss)
run_parts faces (spot.At top ∷ ss) = wire_parts (slice_get faces top.wire) top.bit (top.bit - length ss)

-- run: what the run has so far, and before: its last spot
unfoldable pub runs_parts : List Face → List Spot → Option Spot → List Spot → List Part
runs_parts faces run before [] = run_parts faces run
runs_parts faces run before (s ∷ ss) =
    if goes_on before s then runs_parts faces (run ++ s ∷ []) (Some s) ss else run_parts faces run ++ runs_parts faces (s ∷ []) (Some s) ss

abbrev pub begin : List Part
begin = part.Begin ∷ []

abbrev pub end : List Part
end = part.End ∷ []

-- one run alone stands without braces
abbrev pub spots_parts : List Face → List Spot → List Part
spots_parts faces spots = if is_one_run spots then run_parts faces spots else (begin ++ runs_parts faces [] None spots) ++ end

-- the signal of these bits, which stand low bit first
unfoldable pub signal : Sheet → List Bit → List Part
signal sheet bits = spots_parts sheet.faces (spots_of sheet.homes bits)
