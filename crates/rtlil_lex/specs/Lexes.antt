-- The tokens of a line: the lexical part of the Yosys manual's chapter on the text representation of RTLIL. Beside the
-- manual's, a number that does not fit 32 bits and bytes that are no token are `Bad`; these end nothing, and the line is
-- read on behind them. There are no limits here: `Over` is no token of any line.
use Rattle.std.specs.Prelude.{◌≡◌, ℕ, Bool, true, false, List, [], ◌∷◌, ◌++◌, map, ◌==◌, ◌||◌}
use Rattle.std.specs.List.{list_all}
use Rattle.rtlil_lex.specs.declared.bytes.Start.TheVariants as start
use Rattle.rtlil_lex.specs.declared.token.Token.{Token}
use Rattle.rtlil_lex.specs.declared.token.Token.TheVariants as token
use Rattle.rtlil_lex.specs.Bytes.{is_blank, is_visible, is_decimal, is_octal, is_word_byte, is_constant_digit, start_of, Ends}
use Rattle.rtlil_lex.specs.Values.{identifier_token, word_of, value_of, number_token, negative_token, digit_of, constant_token, unescaped, octal_byte, single_token}

-- a string, and how it may stand between its quotes; an octal escape takes as many digits as there are, up to three, and
-- those that are left out on the left are 0
pub data Quoted : List ℕ → List ℕ → Type 0 where
  nothing : Quoted [] []
  plain : {t text : List ℕ} (b : ℕ) → (b == 34) ≡ false → (b == 92) ≡ false → Quoted t text → Quoted (b ∷ t) (b ∷ text)
  escaped : {t text : List ℕ} (b : ℕ) → is_octal b ≡ false → Quoted t text → Quoted (unescaped b ∷ t) (92 ∷ b ∷ text)
  octal_one : {t text : List ℕ} (a : ℕ) → is_octal a ≡ true → Ends is_octal text → Quoted t text → Quoted (octal_byte 48 48 a ∷ t) (92 ∷ a ∷ text)
  octal_two : {t text : List ℕ} (a b : ℕ) → is_octal a ≡ true → is_octal b ≡ true → Ends is_octal text → Quoted t text → Quoted (octal_byte 48 a b ∷ t) (92 ∷ a ∷ b ∷ text)
  octal_three : {t text : List ℕ} (a b c : ℕ) → is_octal a ≡ true → is_octal b ≡ true → is_octal c ≡ true → Quoted t text → Quoted (octal_byte a b c ∷ t) (92 ∷ a ∷ b ∷ c ∷ text)

-- what a number goes on with as a number or as a constant
abbrev pub goes_on : ℕ → Bool
goes_on b = is_decimal b || b == 39

-- the s that may stand before a constant's digits, and that means nothing
abbrev pub is_flag : ℕ → Bool
is_flag b = b == 115

pub data Lexes : List ℕ → List Token → Type 0 where
  nothing : Lexes [] []
  blank : {rest : List ℕ} {ts : List Token} (b : ℕ) → is_blank b ≡ true → Lexes rest ts → Lexes (b ∷ rest) ts
  -- it runs to the end of the line
  comment : (bs : List ℕ) → Lexes (35 ∷ bs) []
  -- up to the next white space
  identifier : {rest : List ℕ} {ts : List Token} (c : ℕ) (run : List ℕ) → start_of c ≡ start.Identifier → list_all is_visible run ≡ true → Ends is_visible rest → Lexes rest ts
      → Lexes (c ∷ (run ++ rest)) (identifier_token (c ∷ run) ∷ ts)
  word : {rest : List ℕ} {ts : List Token} (c : ℕ) (run : List ℕ) → start_of c ≡ start.Letter → list_all is_word_byte run ≡ true → Ends is_word_byte rest → Lexes rest ts
      → Lexes (c ∷ (run ++ rest)) (token.Word (word_of (c ∷ run)) ∷ ts)
  -- decimal digits without a ' behind them
  number : {rest : List ℕ} {ts : List Token} (c : ℕ) (run : List ℕ) → start_of c ≡ start.Decimal → list_all is_decimal run ≡ true → Ends goes_on rest → Lexes rest ts
      → Lexes (c ∷ (run ++ rest)) (number_token (value_of (c ∷ run)) ∷ ts)
  -- - and decimal digits
  negative_number : {rest : List ℕ} {ts : List Token} (c : ℕ) (run : List ℕ) → is_decimal c ≡ true → list_all is_decimal run ≡ true → Ends is_decimal rest → Lexes rest ts
      → Lexes (45 ∷ c ∷ (run ++ rest)) (negative_token (value_of (c ∷ run)) ∷ ts)
  -- a width, ' and digits
  constant : {rest : List ℕ} {ts : List Token} (c : ℕ) (run ds : List ℕ) → start_of c ≡ start.Decimal → list_all is_decimal run ≡ true
      → list_all is_constant_digit ds ≡ true → Ends is_constant_digit rest → Ends is_flag (ds ++ rest) → Lexes rest ts
      → Lexes (c ∷ (run ++ (39 ∷ (ds ++ rest)))) (constant_token (value_of (c ∷ run)) (map digit_of ds) ∷ ts)
  -- a width, ', s and digits
  flagged_constant : {rest : List ℕ} {ts : List Token} (c : ℕ) (run ds : List ℕ) → start_of c ≡ start.Decimal → list_all is_decimal run ≡ true
      → list_all is_constant_digit ds ≡ true → Ends is_constant_digit rest → Lexes rest ts
      → Lexes (c ∷ (run ++ (39 ∷ 115 ∷ (ds ++ rest)))) (constant_token (value_of (c ∷ run)) (map digit_of ds) ∷ ts)
  string : {t text rest : List ℕ} {ts : List Token} → Quoted t text → Lexes rest ts → Lexes (34 ∷ (text ++ (34 ∷ rest))) (token.Text t ∷ ts)
  -- a string that does not end on its line takes the rest of it
  unclosed : (bs : List ℕ) → ((t text rest : List ℕ) → Quoted t text → bs ≡ text ++ (34 ∷ rest) → ⊥) → Lexes (34 ∷ bs) (token.Bad ∷ [])
  -- - without digits
  lone_minus : {rest : List ℕ} {ts : List Token} → Ends is_decimal rest → Lexes rest ts → Lexes (45 ∷ rest) (token.Bad ∷ ts)
  -- { } [ ] : and each byte that begins no token
  single : {rest : List ℕ} {ts : List Token} (b : ℕ) → start_of b ≡ start.Single → Lexes rest ts → Lexes (b ∷ rest) (single_token b ∷ ts)
