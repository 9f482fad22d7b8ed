-- Signals where a width is wanted, and the two sides of a connect.
use Rattle.std.specs.Prelude.{ℕ, List, [], ◌∷◌, ◌++◌, length, if◌then◌else◌, ◌==◌}
use Rattle.rtlil_text.specs.declared.doc.Part.{Part}
use Rattle.net_wires.specs.declared.breach.Breach.{Breach}
use Rattle.net_wires.specs.declared.breach.BuildCode.TheVariants as code
use Rattle.net_wires.specs.declared.source.Pair.{Pair}
use Rattle.net_wires.specs.declared.source.Source.{Source}
use Rattle.net_wires.specs.Finds.{breach}
use Rattle.net_wires.specs.Parts.{signal_bits, signal_breaches}
use Rattle.net_wires.specs.Spans.{Entry}

abbrev pub width_breaches : ℕ → ℕ → List Breach
width_breaches found wanted = if found == wanted then [] else breach code.WidthDiffers ∷ []

-- a signal that has to have this width
abbrev pub sized_breaches : List Entry → List Part → ℕ → List Breach
sized_breaches names ps width = signal_breaches names ps ++ width_breaches (length (signal_bits names ps)) width

-- each bit of the left side with the bit that drives it
abbrev pub pair_up : List Source → List Source → List Pair
pair_up [] ys = []
pair_up (x ∷ xs) [] = []
pair_up (x ∷ xs) (y ∷ ys) = record { left = x; right = y } ∷ pair_up xs ys

abbrev pub connect_breaches : List Entry → List Part → List Part → List Breach
connect_breaches names left right = signal_breaches names left ++ sized_breaches names right (length (signal_bits names left))

abbrev pub connect_pairs : List Entry → List Part → List Part → List Pair
connect_pairs names left right = pair_up (signal_bits names left) (signal_bits names right)
