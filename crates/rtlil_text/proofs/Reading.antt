-- A text line by line.
use Rattle.std.proofs.Common.{◌≡◌, ℕ, ◌+◌, Bool, true, false, cond, List, [], ◌∷◌, length, map, Result, Ok, Err, refl, sym, ap, ◌∙◌, ◌⊎◌, inl, inr}
use Rattle.std.specs.Prelude.{◌==◌}
use Rattle.rtlil_lex.specs.declared.token.Token.{Token}
use Rattle.rtlil_lex.specs.Lex.{tokens}
use Rattle.rtlil_lex.specs.Limits.{limited}
use Rattle.rtlil_lex.specs.Lines.{onto_first, lines, token_lines, BeginsWithLine}
use Rattle.rtlil_text.specs.declared.doc.Doc.{Doc}
use Rattle.rtlil_text.specs.declared.fault.Refusal.{Refusal}
use Rattle.rtlil_text.specs.declared.fault.Refusal.TheVariants as refusal
use Rattle.rtlil_text.specs.declared.fault.TextFault.{TextFault}
use Rattle.rtlil_text.specs.declared.state.State.{State}
use Rattle.rtlil_text.specs.ReadText.{line_at, fault, on_line, last_line, at_end, read_lines, IsMemory, at_line}
use Rattle.rtlil_text.specs.Text.{limited_lines}

pub record HasLine (ls : List (List ℕ)) : Type 0 where
  first : List ℕ
  others : List (List ℕ)
  is : ls ≡ first ∷ others

onto_some : (b : ℕ) (ls : List (List ℕ)) → HasLine (onto_first b ls)
onto_some b [] = record { first = b ∷ []; others = []; is = refl }
onto_some b (l ∷ ls) = record { first = b ∷ l; others = ls; is = refl }

either_some : (t : Bool) (b : ℕ) (ls : List (List ℕ)) → HasLine (cond t ([] ∷ ls) (onto_first b ls))
either_some true b ls = record { first = []; others = ls; is = refl }
either_some false b ls = onto_some b ls

some_line : (bs : List ℕ) → HasLine (lines bs)
unfolding lines
some_line [] = record { first = []; others = []; is = refl }
some_line (b ∷ bs) = either_some (b == 10) b (lines bs)

abbrev lines_of : List ℕ → List (List Token)
lines_of bs = limited_lines (token_lines bs)

pub read_last : (st : State) (n last : ℕ) (bs line : List ℕ) → lines bs ≡ line ∷ [] → read_lines 64 st n last (lines_of bs) ≡ at_end 64 st n last (map limited (tokens line))
unfolding read_lines
read_last st n last bs line e = ap (λ (ls : List (List ℕ)). read_lines 64 st n last (limited_lines (map tokens ls))) e

read_two : (st : State) (n last : ℕ) (line : List ℕ) (ls : List (List ℕ)) → HasLine ls
    → read_lines 64 st n last (limited_lines (map tokens (line ∷ ls))) ≡ on_line n (line_at 64 st (map limited (tokens line))) (λ next. read_lines 64 next (n + 1) (last_line (map limited (tokens line)) n last) (limited_lines (map tokens ls)))
unfolding read_lines
read_two st n last line [] h = let k = h.is in absurd cc
read_two st n last line (l ∷ ls) h = refl

read_on : (st : State) (n last : ℕ) (bs line tail : List ℕ) → BeginsWithLine bs line tail
    → read_lines 64 st n last (lines_of bs) ≡ on_line n (line_at 64 st (map limited (tokens line))) (λ next. read_lines 64 next (n + 1) (last_line (map limited (tokens line)) n last) (lines_of tail))
read_on st n last bs line tail s =
    ap (λ (ls : List (List ℕ)). read_lines 64 st n last (limited_lines (map tokens ls))) s.first ∙ read_two st n last line (lines tail) (some_line tail)

line_ok : (n : ℕ) (r : Result State Refusal) (next : State) (g : State → Result Doc TextFault) → at_line n r ≡ Ok next → on_line n r g ≡ g next
line_ok n (Ok x) next g e = let same : x ≡ next = cc in ap g same
line_ok n (Err c) next g e = absurd cc

line_err : (n : ℕ) (r : Result State Refusal) (f : TextFault) (g : State → Result Doc TextFault) → at_line n r ≡ Err f → on_line n r g ≡ Err f
line_err n (Ok x) f g e = absurd cc
line_err n (Err c) f g e = let same : fault n c ≡ f = cc in ap (λ (x : TextFault). Err x) same

-- a line, and those behind it
pub read_more : (st next : State) (n last : ℕ) (bs line tail : List ℕ) (ts : List Token) → BeginsWithLine bs line tail → ts ≡ map limited (tokens line) → at_line n (line_at 64 st ts) ≡ Ok next
    → read_lines 64 st n last (lines_of bs) ≡ read_lines 64 next (n + 1) (last_line ts n last) (lines_of tail)
read_more st next n last bs line tail ts s t e =
    read_on st n last bs line tail s
    ∙ line_ok n (line_at 64 st (map limited (tokens line))) next (λ x. read_lines 64 x (n + 1) (last_line (map limited (tokens line)) n last) (lines_of tail)) (ap (λ (us : List Token). at_line n (line_at 64 st us)) (sym t) ∙ e)
    ∙ ap (λ (us : List Token). read_lines 64 next (n + 1) (last_line us n last) (lines_of tail)) (sym t)

-- a fault of a line is the text's
pub fails : (st : State) (n last : ℕ) (bs line tail : List ℕ) (ts : List Token) (f : TextFault) (whole : Result Doc TextFault) → BeginsWithLine bs line tail → ts ≡ map limited (tokens line)
    → IsMemory f ⊎ (at_line n (line_at 64 st ts) ≡ Err f) → read_lines 64 st n last (lines_of bs) ≡ whole → IsMemory f ⊎ (whole ≡ Err f)
fails st n last bs line tail ts f whole s t (inl m) h = inl m
fails st n last bs line tail ts f whole s t (inr e) h =
    inr (sym h ∙ read_on st n last bs line tail s ∙ line_err n (line_at 64 st (map limited (tokens line))) f (λ x. read_lines 64 x (n + 1) (last_line (map limited (tokens line)) n last) (lines_of tail)) (ap (λ (us : List Token). at_line n (line_at 64 st us)) (sym t) ∙ e))

-- a line that does not end
pub ends_wrong : (st next : State) (n last : ℕ) (ts : List Token) → (length ts == 0) ≡ false → at_line n (line_at 64 st ts) ≡ Ok next → at_end 64 st n last ts ≡ Err (fault n refusal.Grammar)
unfolding at_end
ends_wrong st next n last [] h e = absurd cc
ends_wrong st next n last (t ∷ ts) h e = line_ok n (line_at 64 st (t ∷ ts)) next (λ x. Err (fault n refusal.Grammar)) e
