-- The bits of numbers and strings, piece by piece.
use Rattle.std.proofs.Common.{◌≡◌, ℕ, zero, suc, ◌+◌, ◌-◌, ◌/◌, ◌<◌, ◌≤◌, List, [], ◌∷◌, ◌++◌, length, take, get_or, refl, ap, ◌∙◌, sym, arith, append_assoc, append-nil}
use Rattle.std.proofs.lemmas.List.{take_more}
use Rattle.lib_core.specs.declared.library.Tri.{Tri}
use Rattle.cell_consts.specs.Consts.{low_bit, low_bits, text_bits}

-- the lowest bit comes first
pub low_bits_step : (left n : ℕ) → 0 < left → low_bits left n ≡ low_bit n ∷ low_bits (left - 1) (n / 2)
unfolding low_bits
low_bits_step zero n h = absurd (omega arith)
low_bits_step (suc k) n h = let e : k ≡ suc k - 1 = omega arith in ap (λ m. low_bit n ∷ low_bits m (n / 2)) e

pub low_bits_none : (left n : ℕ) → left ≤ 0 → low_bits left n ≡ []
unfolding low_bits
low_bits_none zero n h = refl
low_bits_none (suc k) n h = absurd (omega arith)

-- the last byte stands lowest
text_bits_end : (bs : List ℕ) (b : ℕ) → text_bits (bs ++ b ∷ []) ≡ low_bits 8 b ++ text_bits bs
unfolding text_bits
text_bits_end [] b = sym (append-nil (low_bits 8 b))
text_bits_end (c ∷ bs) b = ap (λ bits. bits ++ low_bits 8 c) (text_bits_end bs b) ∙ append_assoc (low_bits 8 b) (text_bits bs) (low_bits 8 c)

pub text_bits_more : (bs : List ℕ) (i d : ℕ) → i < length bs → text_bits (take (i + 1) bs) ≡ low_bits 8 (get_or bs i d) ++ text_bits (take i bs)
text_bits_more bs i d h = ap text_bits (take_more bs i d h) ∙ text_bits_end (take i bs) (get_or bs i d)

-- no byte is left
pub text_bits_done : (items : List Tri) (bs : List ℕ) (i : ℕ) → i ≤ 0 → items ++ text_bits (take i bs) ≡ text_bits bs → items ≡ text_bits bs
unfolding text_bits
text_bits_done items bs zero h e = sym (append-nil items) ∙ e
text_bits_done items bs (suc i) h e = absurd (omega arith)
