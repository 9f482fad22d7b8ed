-- The place of a number in a list.
use Rattle.std.proofs.Common.{◌≡◌, ℕ, zero, suc, cond, List, [], ◌∷◌, Option, Some, None, refl, ap, ◌∙◌, arith, nat_eq}
use Rattle.std.specs.Prelude.{slice_get}
use Rattle.std.proofs.lemmas.Bool.{eq-eqb, ne_eqb}
use Rattle.std.proofs.lemmas.Option.{same_Some}
use Rattle.net_core.specs.Valid.{AreApart}
use Rattle.net_edit.proofs.Lists.{Has}

abbrev pub later : Option ℕ → Option ℕ
later None = None
later (Some k) = Some (suc k)

abbrev pub place_of : List ℕ → ℕ → Option ℕ
place_of [] n = None
place_of (x ∷ xs) n = cond (nat_eq x n) (Some 0) (later (place_of xs n))

pub place_found : (xs : List ℕ) → AreApart xs → (k n : ℕ) → slice_get xs k ≡ Some n → place_of xs n ≡ Some k
place_found [] apart k n h = cc
place_found (x ∷ xs) apart zero n h = ap (λ b. cond b (Some 0) (later (place_of xs n))) (eq-eqb x n (same_Some x n h))
place_found (x ∷ xs) apart (suc k) n h =
    let off : x ≡ n → ⊥ = λ e. let q = apart 0 (suc k) n (ap Some e) h in omega (arith, q) in
    ap (λ b. cond b (Some 0) (later (place_of xs n))) (ne_eqb x n off) ∙ ap later (place_found xs (λ a b y p q. let e = apart (suc a) (suc b) y p q in omega (arith, e)) k n h)

pub place_missing : (xs : List ℕ) (n : ℕ) → (Has xs n → ⊥) → place_of xs n ≡ None
place_missing [] n h = refl
place_missing (x ∷ xs) n h = ap (λ b. cond b (Some 0) (later (place_of xs n))) (ne_eqb x n (λ e. h (0, ap Some e))) ∙ ap later (place_missing xs n (λ (k, at). h (suc k, at)))
