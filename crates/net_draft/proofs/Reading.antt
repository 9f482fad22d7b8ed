-- Lists as loops read them: the first item, and what is behind it.
use Rattle.std.proofs.Common.{◌≡◌, suc, ◌-◌, ◌<◌, ◌≤◌, List, [], ◌∷◌, length, take, drop, get_or, refl, sym, ap, ◌∙◌, arith}
use Rattle.std.proofs.Math.Seq.{take-length}

pub split : {X : Type 0} (xs : List X) (x : X) → 1 ≤ length xs → x ≡ get_or xs 0 x → xs ≡ x ∷ take (length xs - 1) (drop 1 xs)
split [] x some is = absurd (omega (arith, some))
split (y ∷ ys) x some is =
    let e : suc (length ys) - 1 ≡ length ys = omega arith in
    let all : take (suc (length ys) - 1) ys ≡ ys = ap (λ n. take n ys) e ∙ take-length ys in
    sym (ap (λ z. z ∷ take (suc (length ys) - 1) ys) is ∙ ap (λ zs. y ∷ zs) all)

pub none_left : {X : Type 0} (xs : List X) → length xs < 1 → xs ≡ []
none_left [] h = refl
none_left (y ∷ ys) h = absurd (omega (arith, h))
