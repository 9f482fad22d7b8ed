-- Each token takes a byte, so a line ends.
use Rattle.std.proofs.Common.{◌≡◌, ℕ, zero, suc, ◌<◌, ◌≤◌, Bool, true, false, cond, List, [], ◌∷◌, length, map, Option, Some, None, refl, sym, ap, subst, ◌∙◌, arith, length-drop}
use Rattle.std.specs.Prelude.{IfSome, option_map, ◌==◌}
use Rattle.std.specs.List.{prefix_len}
use Rattle.rtlil_lex.specs.declared.bytes.Class.TheVariants as class
use Rattle.rtlil_lex.specs.declared.bytes.Start.{Start}
use Rattle.rtlil_lex.specs.declared.bytes.Start.TheVariants as start
use Rattle.rtlil_lex.specs.declared.string.Place.{Place}
use Rattle.rtlil_lex.specs.declared.string.Place.TheVariants as place
use Rattle.rtlil_lex.specs.declared.token.Token.{Token}
use Rattle.rtlil_lex.specs.Bytes.{is_in, start_of}
use Rattle.rtlil_lex.specs.Values.{value_of}
use Rattle.rtlil_lex.specs.Limits.{limited, limited_first}
use Rattle.rtlil_lex.specs.Lex.{front, past, string_step, with_front, string_at, string_or_bad, without_flag, constant_at, number_at, negative_at, token_by, token_at, next, and_then, tokens_in, tokens}

pub record Shortens (bs : List ℕ) (o : Option (Token × List ℕ)) : Type 0 where
  pub by : IfSome o (λ x. length x.1 < length bs)

record Cuts (bs : List ℕ) (o : Option (List ℕ × List ℕ)) : Type 0 where
  by : IfSome o (λ x. length x.1 < length bs)

cuts_with : (xs : List ℕ) (b : ℕ) (bs : List ℕ) (o : Option (List ℕ × List ℕ)) → Cuts bs o → Cuts (b ∷ bs) (with_front xs o)
cuts_with xs b bs None p = record { by = tt }
cuts_with xs b bs (Some x) p = record { by = omega (arith, p.by) }

cuts_at : (xs : List ℕ) (b : ℕ) (bs : List ℕ) (behind : Option Place) → ((q : Place) → Cuts bs (string_at q bs)) → Cuts (b ∷ bs) (with_front xs (elim behind [ None ↦ Some ([], bs) | Some q ↦ string_at q bs ]))
cuts_at xs b bs None again = record { by = omega arith }
cuts_at xs b bs (Some q) again = cuts_with xs b bs (string_at q bs) (again q)

string_cuts : (bs : List ℕ) (p : Place) → Cuts bs (string_at p bs)
unfolding string_at
string_cuts [] p = record { by = tt }
string_cuts (b ∷ bs) p = cuts_at (string_step p b).0 b bs (string_step p b).1 (λ q. string_cuts bs q)

string_shortens : (c : ℕ) (bs : List ℕ) (o : Option (List ℕ × List ℕ)) → Cuts bs o → Shortens (c ∷ bs) (Some (string_or_bad o))
string_shortens c bs None p = record { by = omega arith }
string_shortens c bs (Some x) p = record { by = omega (arith, p.by) }

flag_at : (t : Bool) (b : ℕ) (bs : List ℕ) → length (cond t bs (b ∷ bs)) ≤ length (b ∷ bs)
flag_at true b bs = omega arith
flag_at false b bs = omega arith

flag_shortens : (bs : List ℕ) → length (without_flag bs) ≤ length bs
flag_shortens [] = omega arith
flag_shortens (b ∷ bs) = flag_at (b == 115) b bs

constant_shortens : (n : ℕ) (bs : List ℕ) → length (constant_at n bs).1 ≤ length bs
constant_shortens n bs = omega (arith, length-drop (prefix_len (is_in class.ConstantDigit) bs) bs)

number_by : (t : Bool) (ds : List ℕ) (b : ℕ) (bs : List ℕ) (x : Token × List ℕ) → length x.1 ≤ length bs → (y : Token × List ℕ) → y.1 ≡ b ∷ bs → length (cond t x y).1 ≤ length (b ∷ bs)
number_by true ds b bs x h y e = omega arith
number_by false ds b bs x h y e = omega (arith, ap length e)

number_shortens : (ds rest : List ℕ) → length (number_at ds rest).1 ≤ length rest
number_shortens ds [] = omega arith
number_shortens ds (b ∷ bs) = number_by (b == 39) ds b bs (constant_at (value_of ds) (without_flag bs)) (omega (arith, constant_shortens (value_of ds) (without_flag bs), flag_shortens bs)) _ refl

negative_shortens : (ds rest : List ℕ) → length (negative_at ds rest).1 ≤ length rest
negative_shortens [] rest = omega arith
negative_shortens (d ∷ ds) rest = omega arith

token_by_shortens : (s : Start) (b : ℕ) (bs : List ℕ) → Shortens (b ∷ bs) (token_by s b bs)
unfolding token_by
token_by_shortens start.Blank b bs = record { by = tt }
token_by_shortens start.Comment b bs = record { by = tt }
token_by_shortens start.Identifier b bs = record { by = omega (arith, length-drop (prefix_len (is_in class.Visible) bs) bs) }
token_by_shortens start.Quote b bs = string_shortens b bs (string_at place.Plain bs) (string_cuts bs place.Plain)
token_by_shortens start.Minus b bs = record { by = omega (arith, negative_shortens (front class.Decimal bs) (past class.Decimal bs), length-drop (prefix_len (is_in class.Decimal) bs) bs) }
token_by_shortens start.Decimal b bs = record { by = omega (arith, number_shortens (b ∷ front class.Decimal bs) (past class.Decimal bs), length-drop (prefix_len (is_in class.Decimal) bs) bs) }
token_by_shortens start.Letter b bs = record { by = omega (arith, length-drop (prefix_len (is_in class.WordByte) bs) bs) }
token_by_shortens start.Single b bs = record { by = omega arith }

token_at_shortens : (bs : List ℕ) → Shortens bs (token_at bs)
unfolding token_at
token_at_shortens [] = record { by = tt }
token_at_shortens (b ∷ bs) = token_by_shortens (start_of b) b bs

shortens_more : (xs bs : List ℕ) (o : Option (Token × List ℕ)) → length xs ≤ length bs → Shortens xs o → Shortens bs o
shortens_more xs bs None le p = record { by = tt }
shortens_more xs bs (Some x) le p = record { by = omega (arith, p.by) }

pub next_shortens : (bs : List ℕ) → Shortens bs (next bs)
unfolding next
next_shortens bs = shortens_more (past class.Blank bs) bs _ (omega (arith, length-drop (prefix_len (is_in class.Blank) bs) bs)) (token_at_shortens (past class.Blank bs))

pub next_nil : next [] ≡ None
unfolding next token_at
next_nil = refl

same_then : (o : Option (Token × List ℕ)) (f g : List ℕ → List Token) (k : ℕ) → IfSome o (λ x. length x.1 < k) → ((rest : List ℕ) → length rest < k → f rest ≡ g rest) → and_then o f ≡ and_then o g
same_then None f g k p h = refl
same_then (Some x) f g k p h = ap (λ (ts : List Token). x.0 ∷ ts) (h x.1 p)

tokens_same : (n m : ℕ) (bs : List ℕ) → length bs ≤ n → length bs ≤ m → tokens_in n bs ≡ tokens_in m bs
unfolding tokens_in
tokens_same zero zero bs p q = refl
tokens_same zero (suc m) [] p q = sym (ap (λ (o : Option (Token × List ℕ)). and_then o (λ rest. tokens_in m rest)) next_nil)
tokens_same zero (suc m) (b ∷ bs) p q = absurd (omega arith)
tokens_same (suc n) zero [] p q = ap (λ (o : Option (Token × List ℕ)). and_then o (λ rest. tokens_in n rest)) next_nil
tokens_same (suc n) zero (b ∷ bs) p q = absurd (omega arith)
tokens_same (suc n) (suc m) bs p q = same_then (next bs) (λ rest. tokens_in n rest) (λ rest. tokens_in m rest) (length bs) (next_shortens bs).by (λ rest lt. tokens_same n m rest (omega arith) (omega arith))

-- what a line's tokens are, by its first
pub tokens_by_next : (bs : List ℕ) → tokens bs ≡ and_then (next bs) tokens
unfolding tokens tokens_in
tokens_by_next [] = sym (ap (λ (o : Option (Token × List ℕ)). and_then o tokens) next_nil)
tokens_by_next (b ∷ bs) = same_then (next (b ∷ bs)) (λ rest. tokens_in (length bs) rest) tokens (suc (length bs)) (next_shortens (b ∷ bs)).by (λ rest lt. tokens_same (length bs) (length rest) rest (omega arith) (omega arith))

pub next_some : (bs : List ℕ) (x : Token × List ℕ) → next bs ≡ Some x → (tokens bs ≡ x.0 ∷ tokens x.1) × (length x.1 < length bs)
next_some bs x e = (tokens_by_next bs ∙ ap (λ (o : Option (Token × List ℕ)). and_then o tokens) e, (subst (λ (o : Option (Token × List ℕ)). Shortens bs o) e (next_shortens bs)).by)

pub next_none : (bs : List ℕ) → next bs ≡ None → tokens bs ≡ []
next_none bs e = tokens_by_next bs ∙ ap (λ (o : Option (Token × List ℕ)). and_then o tokens) e

-- the empty line
pub tokens_nil : tokens [] ≡ []
tokens_nil = next_none [] next_nil

-- ---- within the limits

some_is : {A : Type 0} (x y : A) → ◌≡◌ {A = Option A} (Some x) (Some y) → x ≡ y
some_is x y e = cc

first_is : (x : Token × List ℕ) (t : Token) (rest : List ℕ) → ◌≡◌ {A = Option (Token × List ℕ)} (Some (limited_first x)) (Some (t, rest)) → (limited x.0 ≡ t) × (x.1 ≡ rest)
first_is x t rest e =
    let same : limited_first x ≡ (t, rest) = some_is (limited_first x) (t, rest) e in
    (ap (λ (y : Token × List ℕ). y.0) same, ap (λ (y : Token × List ℕ). y.1) same)

pub limited_some : (bs : List ℕ) (t : Token) (rest : List ℕ) (o : Option (Token × List ℕ)) → option_map limited_first o ≡ Some (t, rest) → next bs ≡ o → (map limited (tokens bs) ≡ t ∷ map limited (tokens rest)) × (length rest < length bs)
limited_some bs t rest None e h = absurd cc
limited_some bs t rest (Some x) e h =
    let first = first_is x t rest e in
    let more = next_some bs x h in
    let len : length x.1 ≡ length rest = ap length first.1 in
    (ap (map limited) more.0 ∙ ap (λ (u : Token). u ∷ map limited (tokens x.1)) first.0 ∙ ap (λ (r : List ℕ). t ∷ map limited (tokens r)) first.1, omega (arith, more.1))

pub limited_none : (bs : List ℕ) (o : Option (Token × List ℕ)) → option_map limited_first o ≡ None → next bs ≡ o → map limited (tokens bs) ≡ []
limited_none bs None e h = ap (map limited) (next_none bs h)
limited_none bs (Some x) e h = absurd cc
