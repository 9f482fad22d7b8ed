-- A list in the place of an item.
use Rattle.std.proofs.Common.{◌≡◌, ℕ, zero, suc, ◌+◌, ◌-◌, ◌<◌, List, [], ◌∷◌, ◌++◌, length, take, drop, refl, ap, ◌∙◌, arith, length-append}
use Rattle.std.specs.List.{remove}
use Rattle.net_edit.specs.Edits.{spliced, tail_rotated}

drop_whole : {X : Type 0} (xs ys : List X) → drop (length xs) (xs ++ ys) ≡ ys
drop_whole [] ys = refl
drop_whole (x ∷ xs) ys = drop_whole xs ys

take_whole : {X : Type 0} (xs ys : List X) → take (length xs) (xs ++ ys) ≡ xs
take_whole [] ys = refl
take_whole (x ∷ xs) ys = ap (λ l. x ∷ l) (take_whole xs ys)

taken : {X : Type 0} (xs ys : List X) (i : ℕ) → i < length xs → take i (remove (xs ++ ys) i) ≡ take i xs
taken [] ys i lt = absurd (omega (arith, lt))
taken (x ∷ xs) ys zero lt = refl
taken (x ∷ xs) ys (suc i) lt = ap (λ l. x ∷ l) (taken xs ys i (omega (arith, lt)))

dropped : {X : Type 0} (xs ys : List X) (i : ℕ) → i < length xs → drop i (remove (xs ++ ys) i) ≡ drop (suc i) xs ++ ys
dropped [] ys i lt = absurd (omega (arith, lt))
dropped (x ∷ xs) ys zero lt = refl
dropped (x ∷ xs) ys (suc i) lt = dropped xs ys i (omega (arith, lt))

removed_length : {X : Type 0} (xs : List X) (i : ℕ) → i < length xs → length (remove xs i) + 1 ≡ length xs
removed_length [] i lt = absurd (omega (arith, lt))
removed_length (x ∷ xs) zero lt = omega arith
removed_length (x ∷ xs) (suc i) lt = let r = removed_length xs i (omega (arith, lt)) in omega (arith, r)

rest_length : {X : Type 0} (xs : List X) (i : ℕ) → i < length xs → length (drop (suc i) xs) + suc i ≡ length xs
rest_length [] i lt = absurd (omega (arith, lt))
rest_length (x ∷ xs) zero lt = omega arith
rest_length (x ∷ xs) (suc i) lt = let r = rest_length xs i (omega (arith, lt)) in omega (arith, r)

rotated : {X : Type 0} (xs ys zs : List X) (n : ℕ) → zs ≡ xs ++ ys → n ≡ length xs → drop n zs ++ take n zs ≡ ys ++ xs
rotated xs ys zs n e f = (λ i. drop (f i) (e i) ++ take (f i) (e i)) ∙ (λ i. drop_whole xs ys i ++ take_whole xs ys i)

pub spliced_is : {X : Type 0} (old pushed gone new more : List X) (i count : ℕ) → i < length old → pushed ≡ old ++ more → gone ≡ remove pushed i → count ≡ length more → new ≡ tail_rotated gone i count → new ≡ spliced old i more
spliced_is old pushed gone new more i count lt e f c r =
    let all : gone ≡ remove (old ++ more) i = f ∙ ap (λ l. remove l i) e in
    let whole = length-append old more in
    let size : length (remove (old ++ more) i) + 1 ≡ length (old ++ more) = removed_length (old ++ more) i (omega (arith, lt, whole)) in
    let few = rest_length old i lt in
    let long : length gone ≡ length (remove (old ++ more) i) = ap length all in
    let n : length gone - i - count ≡ length (drop (suc i) old) = omega (arith, long, size, whole, few, c, lt) in
    let tail : drop i gone ≡ drop (suc i) old ++ more = ap (drop i) all ∙ dropped old more i lt in
    let front : take i gone ≡ take i old = ap (take i) all ∙ taken old more i lt in
    let turned = rotated (drop (suc i) old) more (drop i gone) (length gone - i - count) tail n in
    let next : suc i ≡ i + 1 = omega arith in
    r ∙ (λ k. front k ++ turned k) ∙ ap (λ j. take i old ++ (more ++ drop j old)) next
