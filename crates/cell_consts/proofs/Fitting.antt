-- A list that is cut to a length, or filled up to it.
use Rattle.std.proofs.Common.{◌≡◌, ℕ, zero, suc, ◌-◌, min, List, [], ◌∷◌, ◌++◌, length, map, take, replicate, refl, ap, ◌∙◌, sym, arith, length-take}
use Rattle.std.proofs.lemmas.List.{take-map, length-map}

cut_twice : {X : Type 0} (width m : ℕ) (xs : List X) → m ≡ min (length xs) width → take width (take m xs) ≡ take width xs
cut_twice zero m xs e = refl
cut_twice (suc w) m [] e = let none : m ≡ 0 = omega arith in ap (λ k. take (suc w) (take k [])) none
cut_twice (suc w) zero (x ∷ xs) e = absurd (omega arith)
cut_twice (suc w) (suc m) (x ∷ xs) e = ap (λ ys. x ∷ ys) (cut_twice w m xs (omega arith))

-- cut first, and then filled up
pub cut_and_filled : {X : Type 0} (d : X) (width m count : ℕ) (xs taken whole : List X) → m ≡ min (length xs) width → taken ≡ take m xs → count ≡ length taken → whole ≡ take width taken ++ replicate (width - count) d → whole ≡ take width xs ++ replicate (width - length xs) d
cut_and_filled d width m count xs taken whole e t counted w =
    let cut : take width taken ≡ take width xs = ap (take width) t ∙ cut_twice width m xs e in
    let there : count ≡ min m (length xs) = counted ∙ ap length t ∙ length-take m xs in
    let left : width - count ≡ width - length xs = omega arith in
    w ∙ ap (λ ys. ys ++ replicate (width - count) d) cut ∙ ap (λ n. take width xs ++ replicate n d) left

pub cut_mapped_and_filled : {X Y : Type 0} (f : X → Y) (d : Y) (width m count : ℕ) (xs : List X) (taken whole : List Y) → m ≡ min (length xs) width → taken ≡ map f (take m xs) → count ≡ length taken → whole ≡ take width taken ++ replicate (width - count) d → whole ≡ take width (map f xs) ++ replicate (width - length xs) d
cut_mapped_and_filled f d width m count xs taken whole e t counted w =
    let same : width - length (map f xs) ≡ width - length xs = ap (λ n. width - n) (length-map xs f) in
    let bound : m ≡ min (length (map f xs)) width = e ∙ ap (λ n. min n width) (sym (length-map xs f)) in
    cut_and_filled d width m count (map f xs) taken whole bound (t ∙ sym (take-map f m xs)) counted w ∙ ap (λ n. take width (map f xs) ++ replicate n d) same
