-- Places for bits that are left out, one by one.
use Rattle.std.proofs.Common.{◌≡◌, ℕ, zero, suc, ◌+◌, ◌-◌, ◌<◌, ◌≤◌, List, [], ◌∷◌, ◌++◌, replicate, sym, ap, ◌∙◌, append_assoc, append-nil, arith}
use Rattle.net_wires.specs.declared.source.Source.{Source}
use Rattle.net_wires.specs.declared.source.Source.TheVariants.{At, Loose}
use Rattle.net_wires.specs.Settled.{settled}

pub place_turn : (next left : ℕ) (xs new old : List Source) → 0 < left → xs ++ settled next (replicate left Loose) ≡ old → new ≡ xs ++ At next ∷ [] → new ++ settled (next + 1) (replicate (left - 1) Loose) ≡ old
place_turn next zero xs new old h was after = absurd (omega arith)
place_turn next (suc left) xs new old h was after =
    let e : suc left - 1 ≡ left = omega arith in
    ap (λ ys. ys ++ settled (next + 1) (replicate (suc left - 1) Loose)) after ∙ append_assoc xs (At next ∷ []) _
    ∙ ap (λ n. xs ++ At next ∷ settled (next + 1) (replicate n Loose)) e ∙ was

pub place_done : (next left : ℕ) (xs old : List Source) → left ≤ 0 → xs ++ settled next (replicate left Loose) ≡ old → xs ≡ old
place_done next zero xs old h was = sym (append-nil xs) ∙ was
place_done next (suc left) xs old h was = absurd (omega arith)
