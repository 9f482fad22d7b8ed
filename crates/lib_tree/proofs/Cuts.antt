-- A text's lines, by its first.
use Rattle.std.proofs.Common.{◌≡◌, ℕ, suc, ◌+◌, ◌-◌, ◌≤◌, Bool, true, false, cond, List, [], ◌∷◌, length, take, drop, refl, sym, ap, ◌∙◌, arith}
use Rattle.std.specs.Prelude.{◌==◌, not}
use Rattle.std.specs.List.{prefix_len}
use Rattle.std.proofs.Math.Numerals.{one-add}
use Rattle.std.proofs.lemmas.List.{length-append, take_all, take-append-drop}
use Rattle.lib_tree.specs.declared.lex.Class.TheVariants as class
use Rattle.lib_tree.specs.Lex.{is_in, front, past}
use Rattle.lib_tree.specs.Reading.{onto_first, lines}

abbrev pub behind_lines : List ℕ → List (List ℕ)
behind_lines [] = []
behind_lines (b ∷ bs) = lines bs

cut_at : (t : Bool) (b : ℕ) (bs : List ℕ) (k : ℕ) → lines bs ≡ take k bs ∷ behind_lines (drop k bs)
    → cond t ([] ∷ lines bs) (onto_first b (lines bs)) ≡ take (cond (not t) (1 + k) 0) (b ∷ bs) ∷ behind_lines (drop (cond (not t) (1 + k) 0) (b ∷ bs))
cut_at true b bs k h = refl
cut_at false b bs k h = rw (one-add, h) refl

pub lines_cut : (bs : List ℕ) → lines bs ≡ front class.Line bs ∷ behind_lines (past class.Line bs)
unfolding lines
lines_cut [] = refl
lines_cut (b ∷ bs) = cut_at (b == 10) b bs (prefix_len (is_in class.Line) bs) (lines_cut bs)

parts_length : (k : ℕ) (bs : List ℕ) → length (take k bs) + length (drop k bs) ≡ length bs
parts_length k bs = sym (length-append (take k bs) (drop k bs)) ∙ ap length (take-append-drop k bs)

pub split_last : (bs : List ℕ) → past class.Line bs ≡ [] → lines bs ≡ front class.Line bs ∷ []
split_last bs e = lines_cut bs ∙ ap (λ (r : List ℕ). front class.Line bs ∷ behind_lines r) e

pub front_length : (bs : List ℕ) → length (front class.Line bs) ≤ length bs
front_length bs = omega (arith, parts_length (prefix_len (is_in class.Line) bs) bs)

pub split_more : (bs : List ℕ) (b : ℕ) (tail : List ℕ) → past class.Line bs ≡ b ∷ tail → lines bs ≡ front class.Line bs ∷ lines tail
split_more bs b tail e = lines_cut bs ∙ ap (λ (r : List ℕ). front class.Line bs ∷ behind_lines r) e

pub tail_length : (bs : List ℕ) (b : ℕ) (tail : List ℕ) → past class.Line bs ≡ b ∷ tail → length tail + length (front class.Line bs) + 1 ≤ length bs
tail_length bs b tail e = omega (arith, parts_length (prefix_len (is_in class.Line) bs) bs, ap length e)

pub first_and_rest : (r : List ℕ) → 1 ≤ length r → (b : ℕ) × (r ≡ b ∷ take (length r - 1) (drop 1 r))
first_and_rest [] h = absurd (omega arith)
first_and_rest (b ∷ bs) h = (b, ap (λ (t : List ℕ). b ∷ t) (sym (take_all (suc (length bs) - 1) bs (omega arith))))
