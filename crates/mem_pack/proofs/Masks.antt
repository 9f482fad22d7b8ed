-- The masks of a port, found again among those of all ports.
use Rattle.std.proofs.Common.{◌≡◌, ℕ, zero, suc, ◌+◌, ◌-◌, ◌*◌, ◌^◌, ◌<◌, ◌≤◌, Bool, true, false, List, [], ◌∷◌, ◌++◌, map, replicate, length, get_or, refl, ap, ◌∙◌, sym, arith, append_assoc}
use Rattle.std.specs.Prelude.{◌&&◌, ◌||◌, nat_lt}
use Rattle.std.specs.List.{AllByRecursion as Every, flat_map, list_any}
use Rattle.std.proofs.Math.Nat.{suc-mul}
use Rattle.std.proofs.lemmas.Bool.Decides.{nat_tests}
use Rattle.std.proofs.lemmas.List.{get_or_at, length-append, length-replicate}
use Rattle.std.proofs.lemmas.List.Concat.{flat_map-append}
use Rattle.std.proofs.lemmas.Nat.{pow_pos}
use Rattle.net_core.specs.Values.{bit_at}
use Rattle.mem_collect.specs.Pieces.{flag_or_false}
use Rattle.mem_collect.specs.declared.spans.PortSpan.{PortSpan}
use Rattle.mem_pack.specs.Numbers.{numbers, each_number, copies}
use Rattle.mem_pack.specs.Lists.{mask_rows}
use Rattle.mem_pack.proofs.Pieces.{pieces_length, row_length, words_first}
use Rattle.mem_pack.proofs.Ports.{span_at, spans_of}
use Rattle.mem_pack.proofs.Steps.{copies_step}

sum_of : (a b c : ℕ) → a + b + c ≡ a + (b + c)
sum_of a b c = omega arith

is_below : (a b : ℕ) → a < b → nat_lt a b ≡ true
is_below a b h = grind (arith, nat_tests)

no_more : (t b : Bool) → b ≡ false → (t && b) ≡ b
no_more true b h = refl
no_more false b h = sym h

times_suc : (n m : ℕ) → m + n * m ≡ suc n * m
times_suc n m = let e = suc-mul n m in omega (arith, e)

copies_length : {X : Type 0} (n : ℕ) (xs : List X) → length (copies n xs) ≡ n * length xs
copies_length zero xs = omega arith
copies_length (suc n) xs = length-append xs (copies n xs) ∙ ap (λ m. length xs + m) (copies_length n xs) ∙ times_suc n (length xs)

-- a row of flags that stands somewhere, at the first number of each port
row_back : (ks : List ℕ) (bs front rest : List Bool) (off first : ℕ) → length bs ≡ length ks → length front ≡ off + first
    → map (λ (s : PortSpan). flag_or_false (front ++ (each_number ks bs ++ rest)) (off + s.first)) (spans_of first ks) ≡ bs
row_back [] [] front rest off first h e = refl
row_back [] (b ∷ bs) front rest off first h e = absurd (omega arith)
row_back (k ∷ ks) [] front rest off first h e = absurd (omega arith)
row_back (k ∷ ks) (b ∷ bs) front rest off first h e =
    let here : flag_or_false (front ++ ((replicate (2 ^ k) b ++ each_number ks bs) ++ rest)) (off + first) ≡ b =
    ap (λ xs. get_or (front ++ ((xs ++ each_number ks bs) ++ rest)) (off + first) false) (words_first k b)
    ∙ get_or_at front b ((replicate (2 ^ k - 1) b ++ each_number ks bs) ++ rest) false (off + first) e in
    let moved : front ++ ((replicate (2 ^ k) b ++ each_number ks bs) ++ rest) ≡ (front ++ replicate (2 ^ k) b) ++ (each_number ks bs ++ rest) =
    ap (λ xs. front ++ xs) (append_assoc (replicate (2 ^ k) b) (each_number ks bs) rest)
    ∙ sym (append_assoc front (replicate (2 ^ k) b) (each_number ks bs ++ rest)) in
    let longer : length (front ++ replicate (2 ^ k) b) ≡ off + (first + 2 ^ k) =
    length-append front (replicate (2 ^ k) b) ∙ (λ i. e i + length-replicate (2 ^ k) b i) ∙ sum_of off first (2 ^ k) in
    let more : map (λ (s : PortSpan). flag_or_false (front ++ ((replicate (2 ^ k) b ++ each_number ks bs) ++ rest)) (off + s.first)) (spans_of (first + 2 ^ k) ks) ≡ bs =
    ap (λ xs. map (λ (s : PortSpan). flag_or_false xs (off + s.first)) (spans_of (first + 2 ^ k) ks)) moved
    ∙ row_back ks bs (front ++ replicate (2 ^ k) b) rest off (first + 2 ^ k) (omega arith) longer in
    λ i. here i ∷ more i

rows_length : (wide : ℕ) (ks : List ℕ) (bs : List Bool) → length bs ≡ length ks → length (mask_rows wide ks bs) ≡ 2 ^ wide * numbers ks
rows_length wide ks bs h = copies_length (2 ^ wide) (each_number ks bs) ∙ ap (λ n. 2 ^ wide * n) (row_length ks bs h)

lengths : {A : Type 0} (w : A → ℕ) (f : A → List Bool) (ks : List ℕ) (xs : List A) → Every (λ q. length (f q) ≡ length ks) xs → Every (λ q. length (mask_rows (w q) ks (f q)) ≡ 2 ^ w q * numbers ks) xs
lengths w f ks [] h = tt
lengths w f ks (x ∷ xs) h = (rows_length (w x) ks (f x) h.0, lengths w f ks xs h.1)

-- the mask of one port
pub mask_back : {A : Type 0} (w : A → ℕ) (f : A → List Bool) (ks : List ℕ) (b : List A) (p : A) (a : List A) → Every (λ q. length (f q) ≡ length ks) b → length (f p) ≡ length ks
    → map (λ (s : PortSpan). flag_or_false (flat_map (λ q. mask_rows (w q) ks (f q)) (b ++ p ∷ a)) (numbers (map w b) * numbers ks + s.first)) (spans_of 0 ks) ≡ f p
mask_back w f ks b p a h e =
    let front = flat_map (λ q. mask_rows (w q) ks (f q)) b in
    let rest = copies (2 ^ w p - 1) (each_number ks (f p)) ++ flat_map (λ q. mask_rows (w q) ks (f q)) a in
    let split : flat_map (λ q. mask_rows (w q) ks (f q)) (b ++ p ∷ a) ≡ front ++ (each_number ks (f p) ++ rest) =
    flat_map-append (λ q. mask_rows (w q) ks (f q)) b (p ∷ a)
    ∙ ap (λ xs. front ++ (xs ++ flat_map (λ q. mask_rows (w q) ks (f q)) a)) (copies_step (2 ^ w p) (each_number ks (f p)) (pow_pos (w p)))
    ∙ ap (λ xs. front ++ xs) (append_assoc (each_number ks (f p)) (copies (2 ^ w p - 1) (each_number ks (f p))) (flat_map (λ q. mask_rows (w q) ks (f q)) a)) in
    let long : length front ≡ numbers (map w b) * numbers ks = pieces_length (λ q. mask_rows (w q) ks (f q)) w (numbers ks) b (lengths w f ks b h) in
    let there : length front ≡ numbers (map w b) * numbers ks + 0 = omega (arith, long) in
    ap (λ xs. map (λ (s : PortSpan). flag_or_false xs (numbers (map w b) * numbers ks + s.first)) (spans_of 0 ks)) split
    ∙ row_back ks (f p) front rest (numbers (map w b) * numbers ks) 0 e there

-- all masks together
pub masks_length : {A : Type 0} (w : A → ℕ) (f : A → List Bool) (ks : List ℕ) (xs : List A) → Every (λ q. length (f q) ≡ length ks) xs → length (flat_map (λ q. mask_rows (w q) ks (f q)) xs) ≡ numbers (map w xs) * numbers ks
masks_length w f ks xs h = pieces_length (λ q. mask_rows (w q) ks (f q)) w (numbers ks) xs (lengths w f ks xs h)

-- ---- flags that are false

pub none_both : {S : Type 0} (f g : S → Bool) (ss : List S) → ((j : ℕ) → (bit_at (map f ss) j && bit_at (map g ss) j) ≡ false) → list_any (λ s. f s && g s) ss ≡ false
none_both f g [] h = refl
none_both f g (s ∷ ss) h = λ i. h 0 i || none_both f g ss (λ j. h (suc j)) i

none_wins : (f : PortSpan → Bool) (own : ℕ) (ss : List PortSpan) → ((j : ℕ) → bit_at (map f ss) j ≡ false) → map (λ (s : PortSpan). nat_lt s.first own && f s) ss ≡ map f ss
none_wins f own [] h = refl
none_wins f own (s ∷ ss) h = λ i. no_more (nat_lt s.first own) (f s) (h 0) i ∷ none_wins f own ss (λ j. h (suc j)) i

-- over later ports no port wins, so that only earlier ones are looked at is no loss
pub lower_wins : (f : PortSpan → Bool) (own first : ℕ) (before after : List ℕ) → first + numbers before ≡ own
    → ((j : ℕ) → length before ≤ j → bit_at (map f (spans_of first (before ++ after))) j ≡ false)
    → map (λ (s : PortSpan). nat_lt s.first own && f s) (spans_of first (before ++ after)) ≡ map f (spans_of first (before ++ after))
lower_wins f own first [] after e h = none_wins f own (spans_of first after) (λ j. h j (omega arith))
lower_wins f own first (k ∷ ks) after e h =
    let small : nat_lt first own ≡ true = is_below first own (omega (arith, e, pow_pos k)) in
    let more = lower_wins f own (first + 2 ^ k) ks after (omega (arith, e)) (λ j l. h (suc j) (omega (arith, l))) in
    λ i. (small i && f (span_at first k)) ∷ more i
