-- What a signal is, how it is spelled, its bits, and what is wrong with it.
use Rattle.std.specs.Prelude.{◌≡◌, ℕ, zero, suc, ◌+◌, ◌-◌, Bool, true, false, List, [], ◌∷◌, ◌++◌, map, reverse, take, drop, length, Option, Some, None, if◌then◌else◌, nat_lt}
use Rattle.std.specs.Int.{cast_unsigned, w32}
use Rattle.net_core.specs.Values.{nat_bit}
use Rattle.rtlil_lex.specs.declared.token.Digit.{Digit}
use Rattle.rtlil_lex.specs.declared.token.Digit.TheVariants as digit
use Rattle.rtlil_text.specs.declared.doc.DocConst.{DocConst}
use Rattle.rtlil_text.specs.declared.doc.DocConst.TheVariants as const
use Rattle.rtlil_text.specs.declared.doc.Part.{Part}
use Rattle.rtlil_text.specs.declared.doc.Part.TheVariants as part
use Rattle.net_wires.specs.declared.breach.Breach.{Breach}
use Rattle.net_wires.specs.declared.breach.BuildCode.TheVariants as code
use Rattle.net_wires.specs.declared.names.Span.{Span}
use Rattle.net_wires.specs.declared.source.Source.{Source}
use Rattle.net_wires.specs.declared.source.Source.TheVariants as source
use Rattle.net_wires.specs.Finds.{breach}
use Rattle.net_wires.specs.Spans.{Entry, look}

-- ---- signals, as they nest

mutual
  pub data Signal : Type 0 where
    fixed : DocConst → Signal
    wire : List ℕ → Signal
    -- the bits of a signal from low to high
    slice : Signal → (high low : ℕ) → Signal
    -- signals side by side, the most significant first
    group : Signals → Signal

  pub data Signals : Type 0 where
    none : Signals
    more : Signal → Signals → Signals

abbrev mutual
  pub parts_of : Signal → List Part
  parts_of (fixed c) = part.Fixed c ∷ []
  parts_of (wire n) = part.Wire n ∷ []
  parts_of (slice s high low) = parts_of s ++ part.Slice high low ∷ []
  parts_of (group ss) = part.Begin ∷ (parts_of_all ss ++ part.End ∷ [])

  pub parts_of_all : Signals → List Part
  parts_of_all none = []
  parts_of_all (more s ss) = parts_of s ++ parts_of_all ss

-- ---- bits, low bit first

-- what f gives at 0, at 1, and so on, n times
abbrev pub upto : {X : Type 0} → (ℕ → X) → ℕ → List X
upto f zero = []
upto f (suc n) = upto f n ++ f n ∷ []

abbrev pub bit_source : Bool → Source
bit_source true = source.One
bit_source false = source.Zero

-- the low bits of a number
unfoldable pub number_bits : ℕ → ℕ → List Source
number_bits value n = upto (λ k. bit_source (nat_bit value k)) n

abbrev pub digit_source : Digit → Source
digit_source digit.Zero = source.Zero
digit_source digit.One = source.One
digit_source digit.X = source.Loose
digit_source digit.Z = source.Loose
digit_source digit.Dash = source.Loose

-- the first byte is the highest
abbrev pub text_bits : List ℕ → List Source
text_bits [] = []
text_bits (b ∷ bs) = text_bits bs ++ number_bits b 8

-- digits stand most significant first; a number has 32 bits, in two's complement
abbrev pub const_bits : DocConst → List Source
const_bits (const.Digits ds) = reverse (map digit_source ds)
const_bits (const.Number z) = number_bits (cast_unsigned w32 z) 32
const_bits (const.Text t) = text_bits t

-- the bits of a wire stand side by side
abbrev pub run_bits : ℕ → ℕ → List Source
run_bits base width = upto (λ k. source.At (base + k)) width

abbrev pub span_bits : Option Span → List Source
span_bits None = []
span_bits (Some s) = run_bits s.base s.width

-- the bits from low to high, counted from the low end
abbrev pub cut : ℕ → ℕ → List Source → List Source
cut high low bits = take (high + 1 - low) (drop low bits)

abbrev mutual
  pub bits_of : List Entry → Signal → List Source
  bits_of names (fixed c) = const_bits c
  bits_of names (wire n) = span_bits (look names n)
  bits_of names (slice s high low) = cut high low (bits_of names s)
  bits_of names (group ss) = bits_of_all names ss

  pub bits_of_all : List Entry → Signals → List Source
  bits_of_all names none = []
  bits_of_all names (more s ss) = bits_of_all names ss ++ bits_of names s

-- ---- what is wrong, in the order of the parts

-- there is no wire of this name
abbrev pub span_breaches : Option Span → List Breach
span_breaches None = breach code.NoWire ∷ []
span_breaches (Some s) = []

-- a bit lies outside what is cut
abbrev pub cut_breaches : ℕ → ℕ → List Breach
cut_breaches high width = if nat_lt high width then [] else breach code.Range ∷ []

abbrev mutual
  pub breaches_of : List Entry → Signal → List Breach
  breaches_of names (fixed c) = []
  breaches_of names (wire n) = span_breaches (look names n)
  breaches_of names (slice s high low) = breaches_of names s ++ cut_breaches high (length (bits_of names s))
  breaches_of names (group ss) = breaches_of_all names ss

  pub breaches_of_all : List Entry → Signals → List Breach
  breaches_of_all names none = []
  breaches_of_all names (more s ss) = breaches_of names s ++ breaches_of_all names ss

-- these parts spell some signal
abbrev pub IsSpelled : List Part → Type 0
IsSpelled ps = (s : Signal) × (parts_of s ≡ ps)
