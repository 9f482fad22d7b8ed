-- What is kept of the inouts of modules tells what their interfaces tell.
use Rattle.std.proofs.Common.{◌≡◌, ℕ, ◌-◌, ◌≤◌, ◌<◌, length, get_or, take, drop, List, [], ◌∷◌, ◌++◌, sym, ap, subst, ◌∙◌, arith, append_assoc, append-nil}
use Rattle.rtlil_text.specs.declared.doc.DocModule.{DocModule}
use Rattle.net_wires.proofs.Places.{front}
use Rattle.net_checks.specs.Inouts.{AllInouts, AreInouts}

-- one module more
inouts_turn : (all : List DocModule) (m : DocModule) (rest : List DocModule) (old new : List (List (List ℕ × ℕ))) (o : List (List ℕ × ℕ))
    → ((more : List (List (List ℕ × ℕ))) → AllInouts (m ∷ rest) more → AllInouts all (old ++ more)) → AreInouts m o → new ≡ old ++ o ∷ []
    → (more : List (List (List ℕ × ℕ))) → AllInouts rest more → AllInouts all (new ++ more)
inouts_turn all m rest old new o go here after more there =
    subst (AllInouts all) (sym (ap (λ (xs : List (List (List ℕ × ℕ))). xs ++ more) after ∙ append_assoc old (o ∷ []) more)) (go (o ∷ more) (here, there))

pub turn : (all rest : List DocModule) (m : DocModule) (old new : List (List (List ℕ × ℕ))) (o : List (List ℕ × ℕ)) → 1 ≤ length rest → m ≡ get_or rest 0 m
    → ((more : List (List (List ℕ × ℕ))) → AllInouts rest more → AllInouts all (old ++ more)) → AreInouts m o → new ≡ old ++ o ∷ []
    → (more : List (List (List ℕ × ℕ))) → AllInouts (take (length rest - 1) (drop 1 rest)) more → AllInouts all (new ++ more)
turn all rest m old new o h first go = inouts_turn all m (take (length rest - 1) (drop 1 rest)) old new o (λ more there. go more (subst (λ (ms : List DocModule). AllInouts ms more) (sym (front rest m h first)) there))

-- none is left
pub inouts_done : (all rest : List DocModule) (old : List (List (List ℕ × ℕ))) → length rest < 1 → ((more : List (List (List ℕ × ℕ))) → AllInouts rest more → AllInouts all (old ++ more)) → AllInouts all old
inouts_done all [] old h go = subst (AllInouts all) (append-nil old) (go [] tt)
inouts_done all (m ∷ ms) old h go = absurd (omega arith)
