-- The enables of one word more.
use Rattle.std.proofs.Common.{◌≡◌, ℕ, zero, suc, ◌+◌, List, [], ◌++◌, refl, ap, ◌∙◌, sym, append_assoc, arith}
use Rattle.std.proofs.lemmas.Grind.{common_steps}
use Rattle.net_core.specs.declared.bits.Bit.{Bit}
use Rattle.net_collect.specs.Contents.{enables}

pub none : (en : List Bit) → enables 0 en ≡ []
unfolding enables
none en = refl

alone : (en : List Bit) → en ++ [] ≡ en
alone en = search common_steps

pub one_more : (words : ℕ) (en : List Bit) → enables (words + 1) en ≡ enables words en ++ en
unfolding enables
one_more zero en = alone en
one_more (suc words) en =
    let e : suc words + 1 ≡ suc (words + 1) = omega arith in
    ap (λ k. enables k en) e ∙ ap (λ xs. en ++ xs) (one_more words en) ∙ sym (append_assoc en (enables words en) en)
