-- The lines of a stimulus text, the words of a line, and the numbers and constants that words are.
use Rattle.std.specs.Prelude.{ℕ, ◌+◌, ◌-◌, Bool, true, false, not, ◌&&◌, ◌||◌, List, [], ◌∷◌, ◌++◌, length, map, reverse, replicate, filter, take, drop, Option, Some, None, Result, Ok, Err, nat_lt, ◌==◌, if◌then◌else◌, position}
use Rattle.std.specs.List.{slice_split, list_all}
use Rattle.bstr.specs.Text.{lines_of, without_terminator}
use Rattle.rtlil_lex.specs.declared.token.Digit.{Digit}
use Rattle.rtlil_lex.specs.declared.token.Digit.TheVariants as digit
use Rattle.rtlil_lex.specs.Bytes.{is_decimal, is_constant_digit}
use Rattle.rtlil_lex.specs.Lex.{without_flag}
use Rattle.rtlil_lex.specs.Values.{value_of, digit_of, fit}
use Rattle.stim_text.specs.declared.fault.StimCode.{StimCode}
use Rattle.stim_text.specs.declared.fault.StimCode.TheVariants as code

-- ---- lines and words

-- a line ends at a line feed, which may have a carriage return right before it, or at the end of the text
abbrev pub lines : List ℕ → List (List ℕ)
lines bs = map without_terminator (lines_of bs)

-- a space or a tab
abbrev pub is_gap : ℕ → Bool
is_gap b = b == 32 || b == 9

abbrev pub is_word : List ℕ → Bool
is_word w = not (length w == 0)

unfoldable pub words : List ℕ → List (List ℕ)
words line = filter is_word (slice_split is_gap line)

abbrev pub is_comment : List ℕ → Bool
is_comment [] = false
is_comment (b ∷ bs) = b == 35

-- a comment says nothing
unfoldable pub spoken : List ℕ → List (List ℕ)
spoken line = if is_comment line then [] else words line

-- ---- numbers

abbrev pub is_number : List ℕ → Bool
is_number w = not (length w == 0) && list_all (λ b. is_decimal b) w

-- the number that a word is, where it is one below a bound; it may begin with zeros
unfoldable pub number_below : ℕ → List ℕ → Option ℕ
number_below bound w = if is_number w && nat_lt (value_of w) bound then Some (value_of w) else None

-- ---- constants: a width, a ' and digits, of which the first may follow an s that says nothing

abbrev pub is_bit : Digit → Bool
is_bit digit.Zero = true
is_bit digit.One = true
is_bit d = false

abbrev pub bit_of : Digit → Bool
bit_of digit.One = true
bit_of d = false

-- the bits that so many digits spell, low bit first, where each is 0 or 1: digits that are too few are filled up on the
-- left, and of too many the leftmost are dropped, as in RTLIL text
unfoldable pub bits_of : ℕ → List Digit → Option (List Bool)
bits_of width ds = if list_all is_bit (fit width ds) then Some (reverse (map bit_of (fit width ds))) else None

-- the same, of digits as bytes
abbrev pub begins_with_bit : List ℕ → Bool
begins_with_bit [] = false
begins_with_bit (d ∷ ds) = d == 48 || d == 49

abbrev pub kept : ℕ → List ℕ → List ℕ
kept width ds = drop (length ds - width) ds

unfoldable pub plain_bits : ℕ → List ℕ → Option (List Bool)
plain_bits width ds =
    if nat_lt (length ds) width && not (begins_with_bit ds) then None
    else (if list_all (λ b. b == 48 || b == 49) (kept width ds) then Some (reverse (map (λ b. b == 49) (kept width ds)) ++ replicate (width - length (kept width ds)) false)
    else None)

abbrev pub or_width : Option (List Bool) → Result (List Bool) StimCode
or_width None = Err code.Width
or_width (Some bits) = Ok bits

unfoldable pub value_of_parts : ℕ → List ℕ → List ℕ → Result (List Bool) StimCode
value_of_parts width ws ds =
    if is_number ws && list_all (λ b. is_constant_digit b) ds then (if value_of ws == width then or_width (bits_of width (map digit_of ds)) else Err code.Width)
    else Err code.Line

abbrev pub cut_at : ℕ → List ℕ → Option ℕ → Result (List Bool) StimCode
cut_at width w None = Err code.Line
cut_at width w (Some k) = value_of_parts width (take k w) (without_flag (drop (k + 1) w))

-- the bits of a constant of this width
unfoldable pub value_in : ℕ → List ℕ → Result (List Bool) StimCode
value_in width w = cut_at width w (position (λ b. b == 39) w)
