-- Halts are handed on, and faults of several passes stand one behind the other.
use Rattle.std.proofs.Common.{◌≡◌, List, [], ◌++◌, Result, Ok, Err, sym, ap, subst, ◌∙◌}
use Rattle.std.specs.Result.{IsErrAnd}
use Rattle.net_checks.specs.declared.fault.ModuleFault.{ModuleFault}
use Rattle.net_checks.specs.declared.fault.ModuleHalt.{ModuleHalt}
use Rattle.net_checks.specs.Finds.{FindsFirst, Halts}

-- the halt of a call is handed on
pub finds_err : {X : Type 0} (r : Result X ModuleHalt) (e : ModuleHalt) (fs : List ModuleFault) (P : X → Type 0) → IsErrAnd r (λ x. x ≡ e) → Halts e fs → FindsFirst r fs P
finds_err (Ok x) e fs P p s = absurd p
finds_err (Err x) e fs P p s = subst (λ (y : ModuleHalt). Halts y fs) (sym p) s

-- the last pass is all, where the others find nothing
pub last_pass : (as' bs cs ds : List ModuleFault) → as' ≡ [] → bs ≡ [] → cs ≡ [] → as' ++ (bs ++ (cs ++ ds)) ≡ ds
last_pass as' bs cs ds a b c =
    ap (λ (xs : List ModuleFault). xs ++ (bs ++ (cs ++ ds))) a ∙ ap (λ (xs : List ModuleFault). xs ++ (cs ++ ds)) b ∙ ap (λ (xs : List ModuleFault). xs ++ ds) c
