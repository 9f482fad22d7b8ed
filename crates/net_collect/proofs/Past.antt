-- Bits that are written past the end change nothing.
use Rattle.std.proofs.Common.{◌≡◌, ℕ, ◌+◌, ◌≤◌, List, [], ◌∷◌, length, get_or, refl, ap, ◌∙◌, arith}
use Rattle.std.specs.Prelude.{slice_set}
use Rattle.std.proofs.lemmas.Grind.{common_steps}
use Rattle.net_core.specs.declared.bits.Bit.{Bit}
use Rattle.net_collect.specs.declared.contents.Start.{Start}
use Rattle.net_collect.specs.Contents.{blank, over, put_bits}

unchanged : (table : List Start) (place : ℕ) (s : Start) → length table ≤ place → slice_set table place s ≡ table
unchanged table place s past = grind (arith, common_steps)

pub put_past : (table : List Start) (priority : ℕ) (es bs : List Bit) (place : ℕ) → length table ≤ place → put_bits priority es bs place table ≡ table
unfolding put_bits
put_past table priority [] bs place past = refl
put_past table priority (e ∷ es) [] place past = refl
put_past table priority (e ∷ es) (b ∷ bs) place past =
    ap (put_bits priority es bs (place + 1)) (unchanged table place (over priority e b (get_or table place blank)) past) ∙ put_past table priority es bs (place + 1) (omega (arith, past))
