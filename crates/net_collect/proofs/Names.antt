-- The steps of making a name longer until it is free.
use Rattle.std.proofs.Common.{◌≡◌, ℕ, zero, suc, ◌+◌, ◌≤◌, true, false, List, [], ◌∷◌, ◌++◌, refl, ap, ◌∙◌, arith}
use Rattle.std.specs.Prelude.{if◌then◌else◌}
use Rattle.net_collect.specs.Naming.{is_among, longer}

pub longest_name : (left : ℕ) (taken : List (List ℕ)) (name : List ℕ) → left ≤ 0 → longer left taken name ≡ name
unfolding longer
longest_name zero taken name h = refl
longest_name (suc left) taken name h = absurd (omega (arith, h))

pub free_at_once : (left : ℕ) (taken : List (List ℕ)) (name : List ℕ) → is_among name taken ≡ false → longer left taken name ≡ name
unfolding longer
free_at_once zero taken name h = refl
free_at_once (suc left) taken name h = ap (λ b. if b then longer left taken (name ++ 95 ∷ []) else name) h

pub longer_name : (left more : ℕ) (taken : List (List ℕ)) (name : List ℕ) → is_among name taken ≡ true → more ≡ left + 1 → longer more taken name ≡ longer left taken (name ++ 95 ∷ [])
unfolding longer
longer_name left zero taken name h e = absurd (omega (arith, e))
longer_name left (suc more) taken name h e =
    let same : more ≡ left = omega (arith, e) in
    ap (λ b. if b then longer more taken (name ++ 95 ∷ []) else name) h ∙ ap (λ k. longer k taken (name ++ 95 ∷ [])) same
