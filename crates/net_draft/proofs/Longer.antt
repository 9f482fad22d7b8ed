-- Names with `_` behind them.
use Rattle.std.proofs.Common.{◌≡◌, ℕ, List, [], ◌∷◌, ◌++◌, sym, subst}
use Rattle.net_draft.specs.Naming.{IsLonger, same, longer}

pub begins : (wanted name : List ℕ) → name ≡ wanted → IsLonger wanted name
begins wanted name e = subst (λ n. IsLonger wanted n) (sym e) same

pub goes_on : (wanted name next : List ℕ) → IsLonger wanted name → next ≡ name ++ 95 ∷ [] → IsLonger wanted next
goes_on wanted name next h e = subst (λ n. IsLonger wanted n) (sym e) (longer name h)
