-- Each token takes a byte, so a line ends.
use Rattle.std.proofs.Common.{◌≡◌, ℕ, zero, suc, ◌<◌, ◌≤◌, Bool, true, false, cond, List, [], ◌∷◌, length, Option, Some, None, refl, sym, ap, subst, ◌∙◌, arith, length-drop}
use Rattle.std.specs.Prelude.{IfSome, ◌==◌}
use Rattle.std.specs.List.{prefix_len}
use Rattle.lib_tree.specs.declared.token.Token.{Token}
use Rattle.lib_tree.specs.declared.token.Token.TheVariants as token
use Rattle.lib_tree.specs.declared.lex.Begin.{Begin}
use Rattle.lib_tree.specs.declared.lex.Begin.TheVariants as begin
use Rattle.lib_tree.specs.declared.lex.Class.TheVariants as class
use Rattle.lib_tree.specs.Lex.{is_in, front, past, string_token, begin_of, token_by, token_at, next, and_then, tokens_in, tokens}

pub record Shortens (bs : List ℕ) (o : Option (Token × List ℕ)) : Type 0 where
  pub by : IfSome o (λ x. length x.1 < length bs)

string_at : (p : Bool) (b c : ℕ) (bs ds text : List ℕ) → length bs < length ds → Shortens (c ∷ ds) (Some (cond p (token.Text text, bs) (token.Bad, [])))
string_at true b c bs ds text h = record { by = omega arith }
string_at false b c bs ds text h = record { by = omega arith }

string_shortens : (c : ℕ) (text bs ds : List ℕ) → length bs ≤ length ds → Shortens (c ∷ ds) (Some (string_token text bs))
string_shortens c text [] ds h = record { by = omega arith }
string_shortens c text (b ∷ bs) ds h = string_at (b == 34) b c bs ds text (omega arith)

token_by_shortens : (line : ℕ) (s : Begin) (b : ℕ) (bs : List ℕ) → Shortens (b ∷ bs) (token_by line s b bs)
unfolding token_by
token_by_shortens line begin.Comment b bs = record { by = tt }
token_by_shortens line begin.Name b bs = record { by = omega (arith, length-drop (prefix_len (is_in class.Visible) bs) bs) }
token_by_shortens line begin.Quote b bs = string_shortens b (front class.Quoted bs) (past class.Quoted bs) bs (omega (arith, length-drop (prefix_len (is_in class.Quoted) bs) bs))
token_by_shortens line begin.Open b bs = record { by = omega arith }
token_by_shortens line begin.Close b bs = record { by = omega arith }
token_by_shortens line begin.Semicolon b bs = record { by = omega arith }
token_by_shortens line begin.Run b bs = record { by = omega (arith, length-drop (prefix_len (is_in class.Letter) bs) bs) }
token_by_shortens line begin.Nothing b bs = record { by = omega arith }

token_at_shortens : (line : ℕ) (bs : List ℕ) → Shortens bs (token_at line bs)
unfolding token_at
token_at_shortens line [] = record { by = tt }
token_at_shortens line (b ∷ bs) = token_by_shortens line (begin_of b) b bs

shortens_more : (xs bs : List ℕ) (o : Option (Token × List ℕ)) → length xs ≤ length bs → Shortens xs o → Shortens bs o
shortens_more xs bs None le p = record { by = tt }
shortens_more xs bs (Some x) le p = record { by = omega (arith, p.by) }

pub next_shortens : (line : ℕ) (bs : List ℕ) → Shortens bs (next line bs)
unfolding next
next_shortens line bs = shortens_more (past class.Blank bs) bs _ (omega (arith, length-drop (prefix_len (is_in class.Blank) bs) bs)) (token_at_shortens line (past class.Blank bs))

pub next_nil : (line : ℕ) → next line [] ≡ None
unfolding next token_at
next_nil line = refl

same_then : (o : Option (Token × List ℕ)) (f g : List ℕ → List Token) (k : ℕ) → IfSome o (λ x. length x.1 < k) → ((rest : List ℕ) → length rest < k → f rest ≡ g rest) → and_then o f ≡ and_then o g
same_then None f g k p h = refl
same_then (Some x) f g k p h = ap (λ (ts : List Token). x.0 ∷ ts) (h x.1 p)

tokens_same : (line n m : ℕ) (bs : List ℕ) → length bs ≤ n → length bs ≤ m → tokens_in line n bs ≡ tokens_in line m bs
unfolding tokens_in
tokens_same line zero zero bs p q = refl
tokens_same line zero (suc m) [] p q = sym (ap (λ (o : Option (Token × List ℕ)). and_then o (λ rest. tokens_in line m rest)) (next_nil line))
tokens_same line zero (suc m) (b ∷ bs) p q = absurd (omega arith)
tokens_same line (suc n) zero [] p q = ap (λ (o : Option (Token × List ℕ)). and_then o (λ rest. tokens_in line n rest)) (next_nil line)
tokens_same line (suc n) zero (b ∷ bs) p q = absurd (omega arith)
tokens_same line (suc n) (suc m) bs p q = same_then (next line bs) (λ rest. tokens_in line n rest) (λ rest. tokens_in line m rest) (length bs) (next_shortens line bs).by (λ rest lt. tokens_same line n m rest (omega arith) (omega arith))

-- what a line's tokens are, by its first
pub tokens_by_next : (line : ℕ) (bs : List ℕ) → tokens line bs ≡ and_then (next line bs) (tokens line)
unfolding tokens tokens_in
tokens_by_next line [] = sym (ap (λ (o : Option (Token × List ℕ)). and_then o (tokens line)) (next_nil line))
tokens_by_next line (b ∷ bs) = same_then (next line (b ∷ bs)) (λ rest. tokens_in line (length bs) rest) (tokens line) (suc (length bs)) (next_shortens line (b ∷ bs)).by (λ rest lt. tokens_same line (length bs) (length rest) rest (omega arith) (omega arith))

pub next_some : (line : ℕ) (bs : List ℕ) (x : Token × List ℕ) → next line bs ≡ Some x → (tokens line bs ≡ x.0 ∷ tokens line x.1) × (length x.1 < length bs)
next_some line bs x e = (tokens_by_next line bs ∙ ap (λ (o : Option (Token × List ℕ)). and_then o (tokens line)) e, (subst (λ (o : Option (Token × List ℕ)). Shortens bs o) e (next_shortens line bs)).by)

pub next_none : (line : ℕ) (bs : List ℕ) → next line bs ≡ None → tokens line bs ≡ []
next_none line bs e = tokens_by_next line bs ∙ ap (λ (o : Option (Token × List ℕ)). and_then o (tokens line)) e
