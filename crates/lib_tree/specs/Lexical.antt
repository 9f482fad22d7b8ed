-- What the bytes of a line are as tokens, by cases on how a line goes on.
use Rattle.std.specs.Prelude.{◌≡◌, ◌==◌, ℕ, Bool, true, false, List, [], ◌∷◌, ◌++◌}
use Rattle.std.specs.List.{list_all}
use Rattle.lib_tree.specs.declared.lex.Begin.TheVariants as begin
use Rattle.lib_tree.specs.declared.lex.Class.TheVariants as class
use Rattle.lib_tree.specs.declared.token.Token.{Token}
use Rattle.lib_tree.specs.declared.token.Token.TheVariants as token
use Rattle.lib_tree.specs.Lex.{begin_of, id_token, is_blank, is_in, run_token, tokens}

-- what a run of a class ends at
abbrev pub Ends : (ℕ → Bool) → List ℕ → Type 0
Ends p [] = Unit {0}
Ends p (b ∷ bs) = p b ≡ false

-- no quote stands next
abbrev pub NoQuote : List ℕ → Type 0
NoQuote [] = Unit {0}
NoQuote (b ∷ bs) = (b == 34) ≡ false

pub data Lexes (line : ℕ) : List ℕ → List Token → Type 0 where
  no_bytes : Lexes line [] []
  blank : {bs : List ℕ} {ts : List Token} (b : ℕ) → is_blank b ≡ true → Lexes line bs ts → Lexes line (b ∷ bs) ts
  comment : (bs : List ℕ) → Lexes line (35 ∷ bs) []
  -- an identifier runs to the next white space
  name : {rest : List ℕ} {ts : List Token} (c : ℕ) (n : List ℕ) → is_blank c ≡ false → begin_of c ≡ begin.Name → list_all (is_in class.Visible) n ≡ true → Ends (is_in class.Visible) rest → Lexes line rest ts → Lexes line (c ∷ (n ++ rest)) (id_token (c ∷ n) ∷ ts)
  -- a word or a number is the longest run of letters, digits and _
  run : {rest : List ℕ} {ts : List Token} (c : ℕ) (n : List ℕ) → is_blank c ≡ false → begin_of c ≡ begin.Run → list_all (is_in class.Letter) n ≡ true → Ends (is_in class.Letter) rest → Lexes line rest ts → Lexes line (c ∷ (n ++ rest)) (run_token line (c ∷ n) ∷ ts)
  -- a string holds no white space
  quoted : {rest : List ℕ} {ts : List Token} (text : List ℕ) → list_all (is_in class.Quoted) text ≡ true → Lexes line rest ts → Lexes line (34 ∷ (text ++ (34 ∷ rest))) (token.Text text ∷ ts)
  unclosed : (text rest : List ℕ) → list_all (is_in class.Quoted) text ≡ true → Ends (is_in class.Quoted) rest → NoQuote rest → Lexes line (34 ∷ (text ++ rest)) (token.Bad ∷ [])
  opens : {rest : List ℕ} {ts : List Token} → Lexes line rest ts → Lexes line (123 ∷ rest) (token.Open ∷ ts)
  closes : {rest : List ℕ} {ts : List Token} → Lexes line rest ts → Lexes line (125 ∷ rest) (token.Close ∷ ts)
  ends : {rest : List ℕ} {ts : List Token} → Lexes line rest ts → Lexes line (59 ∷ rest) (token.Semicolon ∷ ts)
  -- any other byte is no token
  other : {rest : List ℕ} {ts : List Token} (c : ℕ) → is_blank c ≡ false → begin_of c ≡ begin.Nothing → Lexes line rest ts → Lexes line (c ∷ rest) (token.Bad ∷ ts)

-- a line is its tokens, and no others
pub record AreTokens (line : ℕ) (bs : List ℕ) : Type 0 where
  pub lexes : Lexes line bs (tokens line bs)
  pub only : (ts : List Token) → Lexes line bs ts → tokens line bs ≡ ts
