-- Bits that are put behind one another, the highest first, and cut.
use Rattle.std.proofs.Common.{◌≡◌, ◌⊎◌, inl, inr, ℕ, zero, suc, ◌+◌, ◌-◌, ◌<◌, ◌≤◌, Bool, true, false, cond, nat_lt, List, [], ◌∷◌, ◌++◌, length, take, drop, reverse, min, refl, sym, ap, subst, ◌∙◌, arith, append_assoc, append-nil, length-append, length-drop}
use Rattle.std.proofs.Math.ListN.{drop_of_length-le}
use Rattle.std.proofs.Math.Nat.{min-eq_left, min-eq_right, min-le_left}
use Rattle.std.proofs.lemmas.List.{reverse-append, length-reverse, length-take, length-take-le, take-append-drop}
use Rattle.std.proofs.lemmas.Bool.{cases_lt}
use Rattle.net_wires.specs.declared.breach.BuildCode.TheVariants as code
use Rattle.net_wires.specs.declared.breach.Stop.{Stop}
use Rattle.net_wires.specs.declared.breach.Stop.TheVariants as stop
use Rattle.net_wires.specs.declared.source.Source.{Source}
use Rattle.net_wires.specs.declared.source.Source.TheVariants.{At}
use Rattle.net_wires.specs.Finds.{breach, Stops}
use Rattle.net_wires.specs.Signals.{cut, cut_breaches, number_bits, run_bits, text_bits, upto}

-- ---- bits that are counted down

run_at : (base low k : ℕ) → base + low + k ≡ base + (low + k)
run_at base low k = omega arith

split : (a b : ℕ) → (a ≤ b) ⊎ (b < a)
split a b = elim (cases_lt b a) [ inl h ↦ inr h | inr h ↦ inl h ]

pub ltb-from : (a b : ℕ) → a < b → nat_lt a b ≡ true
ltb-from a b h = grind (arith, h)

pub ltb-not : (a b : ℕ) → b ≤ a → nat_lt a b ≡ false
ltb-not a b h = grind (arith, h)

pub upto_pred : {X : Type 0} (f : ℕ → X) (n : ℕ) → 0 < n → upto f n ≡ upto f (n - 1) ++ f (n - 1) ∷ []
upto_pred f zero h = absurd (omega (arith, h))
upto_pred f (suc n) h = let e : suc n - 1 ≡ n = omega arith in ap (λ k. upto f k ++ f k ∷ []) (sym e)

pub down : {X : Type 0} (f : ℕ → X) (n : ℕ) (xs : List X) → 0 < n → (xs ++ f (n - 1) ∷ []) ++ reverse (upto f (n - 1)) ≡ xs ++ reverse (upto f n)
down f n xs h = append_assoc xs (f (n - 1) ∷ []) (reverse (upto f (n - 1))) ∙ ap (λ (zs : List _). xs ++ zs) (sym (ap reverse (upto_pred f n h) ∙ reverse-append (upto f (n - 1)) (f (n - 1) ∷ [])))

-- a turn of such a loop
pub down_turn : {X : Type 0} (f : ℕ → X) (n : ℕ) (old xs new : List X) (x : X) → 0 < n → xs ++ reverse (upto f n) ≡ old → x ≡ f (n - 1) → new ≡ xs ++ x ∷ [] → new ++ reverse (upto f (n - 1)) ≡ old
down_turn f n old xs new x h was is after = ap (λ (zs : List _). zs ++ reverse (upto f (n - 1))) (after ∙ ap (λ y. xs ++ y ∷ []) is) ∙ down f n xs h ∙ was

pub down_done : {X : Type 0} (f : ℕ → X) (n : ℕ) (old xs : List X) → n ≤ 0 → xs ++ reverse (upto f n) ≡ old → xs ≡ old
down_done f n old xs h was = let z : n ≡ 0 = omega (arith, h) in sym (append-nil xs) ∙ ap (λ k. xs ++ reverse (upto f k)) (sym z) ∙ was

pub text_turn : (b : ℕ) (bs : List ℕ) (old xs new : List Source) → xs ++ reverse (text_bits (b ∷ bs)) ≡ old → new ≡ xs ++ reverse (number_bits b 8) → new ++ reverse (text_bits bs) ≡ old
text_turn b bs old xs new was after =
    ap (λ (zs : List Source). zs ++ reverse (text_bits bs)) after ∙ append_assoc xs (reverse (number_bits b 8)) (reverse (text_bits bs))
    ∙ ap (λ (zs : List Source). xs ++ zs) (sym (reverse-append (text_bits bs) (number_bits b 8))) ∙ was

-- ---- cuts

pub length_upto : {X : Type 0} (f : ℕ → X) (n : ℕ) → length (upto f n) ≡ n
length_upto f zero = refl
length_upto f (suc n) = length-append (upto f n) (f n ∷ []) ∙ omega (arith, length_upto f n)

drop_more : {X : Type 0} (l : ℕ) (xs ys : List X) → l ≤ length xs → drop l (xs ++ ys) ≡ drop l xs ++ ys
drop_more zero xs ys h = refl
drop_more (suc l) [] ys h = absurd (omega (arith, h))
drop_more (suc l) (x ∷ xs) ys h = drop_more l xs ys (omega (arith, h))

drop_front : {X : Type 0} (xs ys : List X) → drop (length xs) (xs ++ ys) ≡ ys
drop_front [] ys = refl
drop_front (x ∷ xs) ys = drop_front xs ys

take_front : {X : Type 0} (xs ys : List X) → take (length xs) (xs ++ ys) ≡ xs
take_front [] ys = refl
take_front (x ∷ xs) ys = ap (λ (zs : List _). x ∷ zs) (take_front xs ys)

-- what stands from l on
upto_from : {X : Type 0} (f : ℕ → X) (l m : ℕ) → upto f (l + m) ≡ upto f l ++ upto (λ k. f (l + k)) m
upto_from f l zero = let e : l + 0 ≡ l = omega arith in ap (upto f) e ∙ sym (append-nil (upto f l))
upto_from f l (suc m) =
    let e : l + suc m ≡ suc (l + m) = omega arith in
    ap (upto f) e ∙ ap (λ (zs : List _). zs ++ f (l + m) ∷ []) (upto_from f l m) ∙ append_assoc (upto f l) (upto (λ k. f (l + k)) m) (f (l + m) ∷ [])

drop_upto : {X : Type 0} (f : ℕ → X) (l m : ℕ) → drop l (upto f (l + m)) ≡ upto (λ k. f (l + k)) m
drop_upto f l m = ap (drop l) (upto_from f l m) ∙ ap (λ n. drop n (upto f l ++ upto (λ k. f (l + k)) m)) (sym (length_upto f l)) ∙ drop_front (upto f l) (upto (λ k. f (l + k)) m)

take_upto : {X : Type 0} (f : ℕ → X) (l m : ℕ) → take l (upto f (l + m)) ≡ upto f l
take_upto f l m = ap (take l) (upto_from f l m) ∙ ap (λ n. take n (upto f l ++ upto (λ k. f (l + k)) m)) (sym (length_upto f l)) ∙ take_front (upto f l) (upto (λ k. f (l + k)) m)

upto_same : {X : Type 0} (f g : ℕ → X) (n : ℕ) → ((k : ℕ) → f k ≡ g k) → upto f n ≡ upto g n
upto_same f g zero h = refl
upto_same f g (suc n) h = ap (λ (zs : List _). zs ++ f n ∷ []) (upto_same f g n h) ∙ ap (λ x. upto g n ++ x ∷ []) (h n)

-- a cut from b to before e, of n bits
cut_upto : {X : Type 0} (f : ℕ → X) (n b e : ℕ) → b ≤ e → e ≤ n → take (e - b) (drop b (upto f n)) ≡ upto (λ k. f (b + k)) (e - b)
cut_upto f n b e h k =
    let rest : n ≡ b + (e - b + (n - e)) = omega (arith, h, k) in
    ap (λ m. take (e - b) (drop b (upto f m))) rest ∙ ap (take (e - b)) (drop_upto f b (e - b + (n - e))) ∙ take_upto (λ j. f (b + j)) (e - b) (n - e)

past_cut : {X : Type 0} (high low : ℕ) (xs : List X) → high + 1 ≤ low → take (high + 1 - low) (drop low xs) ≡ []
past_cut high low xs h = let e : high + 1 - low ≡ 0 = omega (arith, h) in ap (λ n. take n (drop low xs)) e

-- ---- the code's cuts: from the smaller of low and end to before end

run_cut_at : (base width high low b : ℕ) → high < width → (low ≤ high + 1) ⊎ (high + 1 < low) → (low ≤ high + 1 → b ≡ low) → (high + 1 < low → b ≡ high + 1)
    → run_bits (base + b) (high + 1 - b) ≡ cut high low (run_bits base width)
run_cut_at base width high low b h (inl le) at past =
    let f : ℕ → Source = λ k. At (base + k) in
    let is = at le in
    ap (λ n. run_bits (base + n) (high + 1 - n)) is
    ∙ upto_same (λ k. At (base + low + k)) (λ k. f (low + k)) (high + 1 - low) (λ k. ap At (run_at base low k))
    ∙ sym (cut_upto f width low (high + 1) le (omega (arith, h)))
run_cut_at base width high low b h (inr lt) at past =
    let z : high + 1 - b ≡ 0 = omega (arith, past lt) in
    ap (run_bits (base + b)) z ∙ sym (past_cut high low (run_bits base width) (omega (arith, lt)))

pub run_cut : (base width high low : ℕ) → high < width → run_bits (base + min low (high + 1)) (high + 1 - min low (high + 1)) ≡ cut high low (run_bits base width)
run_cut base width high low h = run_cut_at base width high low (min low (high + 1)) h (split low (high + 1)) (λ le. min-eq_left le) (λ lt. min-eq_right (omega (arith, lt)))

parts_cut : {X : Type 0} (A B C : List X) (skip : ℕ) → skip ≤ length A
    → reverse (drop (length A) (take (length A + length B) (A ++ (B ++ C)))) ≡ take (length B) (drop (length C) (reverse (drop skip (A ++ (B ++ C)))))
parts_cut A B C skip h =
    let left : take (length A + length B) (A ++ (B ++ C)) ≡ A ++ B =
    ap (λ n. take n (A ++ (B ++ C))) (sym (length-append A B)) ∙ ap (take (length (A ++ B))) (sym (append_assoc A B C)) ∙ take_front (A ++ B) C in
    let right : reverse (drop skip (A ++ (B ++ C))) ≡ reverse C ++ (reverse B ++ reverse (drop skip A)) =
    ap reverse (drop_more skip A (B ++ C) h) ∙ reverse-append (drop skip A) (B ++ C) ∙ ap (λ (zs : List _). zs ++ reverse (drop skip A)) (reverse-append B C) ∙ append_assoc (reverse C) (reverse B) (reverse (drop skip A)) in
    ap reverse (ap (drop (length A)) left ∙ drop_front A B)
    ∙ sym (ap (λ (zs : List _). take (length B) (drop (length C) zs)) right
    ∙ ap (λ n. take (length B) (drop n (reverse C ++ (reverse B ++ reverse (drop skip A))))) (sym (length-reverse C))
    ∙ ap (take (length B)) (drop_front (reverse C) (reverse B ++ reverse (drop skip A)))
    ∙ ap (λ n. take n (reverse B ++ reverse (drop skip A))) (sym (length-reverse B)) ∙ take_front (reverse B) (reverse (drop skip A)))

held_cut_in : {X : Type 0} (xs : List X) (skip b e : ℕ) → 0 < e → b ≤ e → e ≤ length xs - skip → e ≤ length xs
    → reverse (drop (length xs - e) (take (length xs - b) xs)) ≡ take (e - b) (drop b (reverse (drop skip xs)))
held_cut_in {X} xs skip b e some h room small =
    let A : List X = take (length xs - e) xs in
    let D : List X = drop (length xs - e) xs in
    let B : List X = take (e - b) D in
    let C : List X = drop (e - b) D in
    let whole : A ++ (B ++ C) ≡ xs = ap (λ (zs : List X). A ++ zs) (take-append-drop (e - b) D) ∙ take-append-drop (length xs - e) xs in
    let la : length A ≡ length xs - e = length-take-le (length xs - e) xs (omega arith) in
    let ld : length D ≡ e = length-drop (length xs - e) xs ∙ omega (arith, small) in
    let lb : length B ≡ e - b = length-take-le (e - b) D (omega (arith, ld)) in
    let lc : length C ≡ b = length-drop (e - b) D ∙ omega (arith, ld, h) in
    let lab : length A + length B ≡ length xs - b = omega (arith, la, lb, h, small) in
    let p = parts_cut A B C skip (omega (arith, la, room, some)) in
    let q : reverse (drop (length A) (take (length A + length B) xs)) ≡ take (length B) (drop (length C) (reverse (drop skip xs))) =
    subst (λ (zs : List X). reverse (drop (length A) (take (length A + length B) zs)) ≡ take (length B) (drop (length C) (reverse (drop skip zs)))) whole p in
    ap (λ n. reverse (drop (length xs - e) (take n xs))) (sym lab) ∙ ap (λ n. reverse (drop n (take (length A + length B) xs))) (sym la) ∙ q
    ∙ ap (λ n. take n (drop (length C) (reverse (drop skip xs)))) lb ∙ ap (λ n. take (e - b) (drop n (reverse (drop skip xs)))) lc

held_cut_at : {X : Type 0} (xs : List X) (skip high low b : ℕ) → high + 1 ≤ length xs - skip → (low ≤ high + 1) ⊎ (high + 1 < low) → (low ≤ high + 1 → b ≡ low) → (high + 1 < low → b ≡ high + 1)
    → reverse (drop (length xs - (high + 1)) (take (length xs - b) xs)) ≡ take (high + 1 - low) (drop low (reverse (drop skip xs)))
held_cut_at xs skip high low b room (inl le) at past = ap (λ n. reverse (drop (length xs - (high + 1)) (take (length xs - n) xs))) (at le) ∙ held_cut_in xs skip low (high + 1) (omega arith) le room (omega (arith, room))
held_cut_at xs skip high low b room (inr lt) at past =
    let none : length (take (length xs - (high + 1)) xs) ≤ length xs - (high + 1) = omega (arith, length-take (length xs - (high + 1)) xs, min-le_left (length xs - (high + 1)) (length xs)) in
    ap (λ n. reverse (drop (length xs - (high + 1)) (take (length xs - n) xs))) (past lt) ∙ ap reverse (drop_of_length-le (take (length xs - (high + 1)) xs) none) ∙ sym (past_cut high low (reverse (drop skip xs)) (omega (arith, lt)))

pub held_cut : {X : Type 0} (xs : List X) (skip high low : ℕ) → high + 1 ≤ length xs - skip
    → reverse (drop (length xs - (high + 1)) (take (length xs - min low (high + 1)) xs)) ≡ take (high + 1 - low) (drop low (reverse (drop skip xs)))
held_cut xs skip high low room = held_cut_at xs skip high low (min low (high + 1)) room (split low (high + 1)) (λ le. min-eq_left le) (λ lt. min-eq_right (omega (arith, lt)))

-- ---- what a cut breaks

pub in_range : (high width : ℕ) → high < width → cut_breaches high width ≡ []
in_range high width h = ap (λ (b : Bool). cond b [] (breach code.Range ∷ [])) (ltb-from high width h)

pub out_of_range : (high width : ℕ) → width ≤ high → (s : Stop) → s ≡ stop.Broken (breach code.Range) → Stops s (cut_breaches high width)
out_of_range high width h s e = subst (λ (x : Stop). Stops x (cut_breaches high width)) (sym e) ([], ap (λ (b : Bool). cond b [] (breach code.Range ∷ [])) (ltb-not high width h))

pub length_run : (base width : ℕ) → length (run_bits base width) ≡ width
length_run base width = length_upto (λ k. At (base + k)) width

pub length_held : {X : Type 0} (xs : List X) (skip : ℕ) → length (reverse (drop skip xs)) ≡ length xs - skip
length_held xs skip = length-reverse (drop skip xs) ∙ length-drop skip xs
