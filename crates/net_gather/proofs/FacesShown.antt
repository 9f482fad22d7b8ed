-- The modules of a file one by one.
use Rattle.std.proofs.Common.{◌≡◌, ℕ, ◌-◌, ◌≤◌, ◌<◌, length, get_or, take, drop, List, [], ◌∷◌, ◌++◌, sym, ap, subst, ◌∙◌, arith, append_assoc, append-nil}
use Rattle.rtlil_text.specs.declared.doc.DocModule.{DocModule}
use Rattle.net_wires.proofs.Places.{front}
use Rattle.net_gather.specs.Faces.{AllOutputs, AreOutputs}

-- one module more
pub outputs_turn : (all : List DocModule) (m : DocModule) (rest : List DocModule) (old new : List (List (List ℕ × ℕ))) (o : List (List ℕ × ℕ))
    → ((more : List (List (List ℕ × ℕ))) → AllOutputs (m ∷ rest) more → AllOutputs all (old ++ more)) → AreOutputs m o → new ≡ old ++ o ∷ []
    → (more : List (List (List ℕ × ℕ))) → AllOutputs rest more → AllOutputs all (new ++ more)
outputs_turn all m rest old new o go here after more there =
    subst (AllOutputs all) (sym (ap (λ (xs : List (List (List ℕ × ℕ))). xs ++ more) after ∙ append_assoc old (o ∷ []) more)) (go (o ∷ more) (here, there))

pub turn : (all rest : List DocModule) (m : DocModule) (old new : List (List (List ℕ × ℕ))) (o : List (List ℕ × ℕ)) → 1 ≤ length rest → m ≡ get_or rest 0 m
    → ((more : List (List (List ℕ × ℕ))) → AllOutputs rest more → AllOutputs all (old ++ more)) → AreOutputs m o → new ≡ old ++ o ∷ []
    → (more : List (List (List ℕ × ℕ))) → AllOutputs (take (length rest - 1) (drop 1 rest)) more → AllOutputs all (new ++ more)
turn all rest m old new o h first go = outputs_turn all m (take (length rest - 1) (drop 1 rest)) old new o (λ more there. go more (subst (λ (ms : List DocModule). AllOutputs ms more) (sym (front rest m h first)) there))

-- none is left
pub outputs_done : (all rest : List DocModule) (old : List (List (List ℕ × ℕ))) → length rest < 1 → ((more : List (List (List ℕ × ℕ))) → AllOutputs rest more → AllOutputs all (old ++ more)) → AllOutputs all old
outputs_done all [] old h go = subst (AllOutputs all) (append-nil old) (go [] tt)
outputs_done all (m ∷ ms) old h go = absurd (omega arith)
