-- A text's lines, by its first.
use Rattle.std.proofs.Common.{◌≡◌, ℕ, suc, ◌+◌, ◌-◌, ◌≤◌, Bool, true, false, cond, List, [], ◌∷◌, ◌++◌, length, take, drop, refl, sym, ap, ◌∙◌, arith}
use Rattle.std.specs.Prelude.{◌==◌, not}
use Rattle.std.specs.List.{prefix_len, list_all}
use Rattle.std.proofs.Math.Numerals.{one-add}
use Rattle.std.proofs.lemmas.List.{take_all, take-append-drop, length-append}
use Rattle.rtlil_lex.specs.declared.bytes.Class.TheVariants as class
use Rattle.rtlil_lex.specs.Bytes.{is_on_line}
use Rattle.rtlil_lex.specs.Lex.{front, past}
use Rattle.rtlil_lex.specs.Lines.{onto_first, lines, BeginsWithLine}
use Rattle.rtlil_lex.proofs.Runs.{both}

abbrev behind_lines : List ℕ → List (List ℕ)
behind_lines [] = []
behind_lines (b ∷ bs) = lines bs

cut_at : (t : Bool) (b : ℕ) (bs : List ℕ) (k : ℕ) → lines bs ≡ take k bs ∷ behind_lines (drop k bs)
    → cond t ([] ∷ lines bs) (onto_first b (lines bs)) ≡ take (cond (not t) (1 + k) 0) (b ∷ bs) ∷ behind_lines (drop (cond (not t) (1 + k) 0) (b ∷ bs))
cut_at true b bs k h = refl
cut_at false b bs k h = rw (one-add, h) refl

lines_cut : (bs : List ℕ) → lines bs ≡ front class.OnLine bs ∷ behind_lines (past class.OnLine bs)
unfolding lines
lines_cut [] = refl
lines_cut (b ∷ bs) = cut_at (b == 10) b bs (prefix_len is_on_line bs) (lines_cut bs)

pub split_last : (bs : List ℕ) → past class.OnLine bs ≡ [] → lines bs ≡ front class.OnLine bs ∷ []
split_last bs e = lines_cut bs ∙ ap (λ (r : List ℕ). front class.OnLine bs ∷ behind_lines r) e

pub split_more : (bs : List ℕ) (b : ℕ) (tail : List ℕ) → past class.OnLine bs ≡ b ∷ tail → BeginsWithLine bs (front class.OnLine bs) tail
split_more bs b tail e =
    let whole : length (front class.OnLine bs ++ past class.OnLine bs) ≡ length bs = ap length (take-append-drop (prefix_len is_on_line bs) bs) in
    record {
      first = lines_cut bs ∙ ap (λ (r : List ℕ). front class.OnLine bs ∷ behind_lines r) e;
      shorter = omega (arith, length-append (front class.OnLine bs) (past class.OnLine bs), whole, ap length e);
    }

pub first_and_rest : (r : List ℕ) → 1 ≤ length r → (b : ℕ) × (r ≡ b ∷ take (length r - 1) (drop 1 r))
first_and_rest [] h = absurd (omega arith)
first_and_rest (b ∷ bs) h = (b, ap (λ (t : List ℕ). b ∷ t) (sym (take_all (suc (length bs) - 1) bs (omega arith))))

feed_is : (b : ℕ) (bs : List ℕ) (t : Bool) → b == 10 ≡ t → not t ≡ true → (cond (b == 10) ([] ∷ lines bs) (onto_first b (lines bs))) ≡ onto_first b (lines bs)
feed_is b bs true e h = absurd cc
feed_is b bs false e h = rw e refl

-- a line with its line feed in front
pub lines_then : (l rest : List ℕ) → list_all is_on_line l ≡ true → lines (l ++ (10 ∷ rest)) ≡ l ∷ lines rest
unfolding lines
lines_then [] rest h = refl
lines_then (b ∷ l) rest h =
    let k = both (is_on_line b) (list_all is_on_line l) h in
    feed_is b (l ++ (10 ∷ rest)) (b == 10) refl k.0 ∙ ap (onto_first b) (lines_then l rest k.1)

pub lines_nil : lines [] ≡ [] ∷ []
unfolding lines
lines_nil = refl
