-- What the bytes of RTLIL text belong to, after the Yosys manual's chapter on the text representation of RTLIL.
use Rattle.std.specs.Prelude.{◌≡◌, ℕ, Bool, false, List, [], ◌∷◌, ◌==◌, nat_le, ◌&&◌, ◌||◌, not, if◌then◌else◌}
use Rattle.rtlil_lex.specs.declared.bytes.Class.{Class}
use Rattle.rtlil_lex.specs.declared.bytes.Class.TheVariants as class
use Rattle.rtlil_lex.specs.declared.bytes.Start.{Start}
use Rattle.rtlil_lex.specs.declared.bytes.Start.TheVariants as start

-- white space: space, tab and carriage return
abbrev pub is_blank : ℕ → Bool
is_blank b = b == 32 || b == 9 || b == 13

-- what an identifier goes on with: every byte that is no white space
abbrev pub is_visible : ℕ → Bool
is_visible b = not (is_blank b)

-- 0 to 9
abbrev pub is_decimal : ℕ → Bool
is_decimal b = nat_le 48 b && nat_le b 57

-- 0 to 7
abbrev pub is_octal : ℕ → Bool
is_octal b = nat_le 48 b && nat_le b 55

-- a letter or _, with which a word begins
abbrev pub is_letter : ℕ → Bool
is_letter b = (nat_le 65 b && nat_le b 90) || (nat_le 97 b && nat_le b 122) || b == 95

-- what a word goes on with: a letter, _ or a decimal digit
abbrev pub is_word_byte : ℕ → Bool
is_word_byte b = is_letter b || is_decimal b

-- the digits of a constant: 0 1 x z m -
abbrev pub is_constant_digit : ℕ → Bool
is_constant_digit b = b == 48 || b == 49 || b == 120 || b == 122 || b == 109 || b == 45

-- \ or $, with which an identifier begins
abbrev pub begins_identifier : ℕ → Bool
begins_identifier b = b == 92 || b == 36

-- every byte but the line feed
abbrev pub is_on_line : ℕ → Bool
is_on_line b = not (b == 10)

abbrev pub is_in : Class → ℕ → Bool
is_in class.Blank b = is_blank b
is_in class.Visible b = is_visible b
is_in class.Decimal b = is_decimal b
is_in class.WordByte b = is_word_byte b
is_in class.ConstantDigit b = is_constant_digit b
is_in class.OnLine b = is_on_line b

-- what begins at a byte: white space, a comment at a #, an identifier, a string at a ", what a - begins, a number or a
-- constant, a word; every other byte stands alone
abbrev pub start_of : ℕ → Start
start_of b =
    if is_blank b then start.Blank
    else (if b == 35 then start.Comment
    else (if begins_identifier b then start.Identifier
    else (if b == 34 then start.Quote
    else (if b == 45 then start.Minus
    else (if is_decimal b then start.Decimal
    else (if is_letter b then start.Letter
    else start.Single))))))

-- a run of such bytes ends here: there is nothing more, or a byte that does not belong to it
abbrev pub Ends : (ℕ → Bool) → List ℕ → Type 0
Ends p [] = Unit {0}
Ends p (b ∷ bs) = p b ≡ false
