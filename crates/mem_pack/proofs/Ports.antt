-- The ports of a side, found again by their continuations.
use Rattle.std.proofs.Common.{◌≡◌, ℕ, zero, suc, ◌+◌, ◌-◌, ◌^◌, ◌≤◌, Bool, true, false, List, [], ◌∷◌, ◌++◌, map, replicate, length, refl, ap, ◌∙◌, arith, append_assoc}
use Rattle.std.specs.Prelude.{◌&&◌, ◌||◌}
use Rattle.std.specs.List.{AllByRecursion as Every, list_all, list_any}
use Rattle.std.proofs.lemmas.Nat.{pow_pos}
use Rattle.mem_rows.specs.Groups.{are_ports, is_group, sizes_from}
use Rattle.mem_collect.specs.Spans.{span, spans, spans_from, wide_of}
use Rattle.mem_collect.specs.declared.spans.PortSpan.{PortSpan}
use Rattle.mem_pack.specs.Numbers.{numbers, continuations}
use Rattle.mem_pack.proofs.Powers.{small_exponent}

abbrev pub span_at : ℕ → ℕ → PortSpan
span_at first k = record { first = first; words = 2 ^ k; wide = k }

-- the ports of these powers, from a number on
abbrev pub spans_of : ℕ → List ℕ → List PortSpan
spans_of first [] = []
spans_of first (k ∷ ks) = span_at first k ∷ spans_of (first + 2 ^ k) ks

pub few : (ks : List ℕ) → numbers ks ≤ 64 → Every (λ k. k ≤ 6) ks
few [] h = tt
few (k ∷ ks) h = (small_exponent k (omega arith), few ks (omega arith))

-- ---- powers up to 6

wide_back : (k : ℕ) → k ≤ 6 → wide_of (2 ^ k) ≡ k
wide_back zero h = refl
wide_back (suc zero) h = refl
wide_back (suc (suc zero)) h = refl
wide_back (suc (suc (suc zero))) h = refl
wide_back (suc (suc (suc (suc zero)))) h = refl
wide_back (suc (suc (suc (suc (suc zero))))) h = refl
wide_back (suc (suc (suc (suc (suc (suc zero)))))) h = refl
wide_back (suc (suc (suc (suc (suc (suc (suc k))))))) h = absurd (omega arith)

group_back : (k : ℕ) → k ≤ 6 → is_group (2 ^ k) ≡ true
group_back zero h = refl
group_back (suc zero) h = refl
group_back (suc (suc zero)) h = refl
group_back (suc (suc (suc zero))) h = refl
group_back (suc (suc (suc (suc zero)))) h = refl
group_back (suc (suc (suc (suc (suc zero))))) h = refl
group_back (suc (suc (suc (suc (suc (suc zero)))))) h = refl
group_back (suc (suc (suc (suc (suc (suc (suc k))))))) h = absurd (omega arith)

-- ---- spans

walk : (n first words : ℕ) (rest : List Bool) → spans_from first words (replicate n true ++ rest) ≡ spans_from first (words + n) rest
unfolding spans_from
walk zero first words rest = let e : words ≡ words + 0 = omega arith in ap (λ w. spans_from first w rest) e
walk (suc n) first words rest =
    let e : words + 1 + n ≡ words + suc n = omega arith in
    walk n first (words + 1) rest ∙ ap (λ w. spans_from first w rest) e

all_words : (k : ℕ) → 1 + (2 ^ k - 1) ≡ 2 ^ k
all_words k = omega (arith, pow_pos k)

span_back : (first k : ℕ) → k ≤ 6 → span first (2 ^ k) ≡ span_at first k
span_back first k h = λ i. record { first = first; words = 2 ^ k; wide = wide_back k h i }

run : (k first : ℕ) (ks : List ℕ) → k ≤ 6 → Every (λ j. j ≤ 6) ks → spans_from first 1 (replicate (2 ^ k - 1) true ++ continuations ks) ≡ spans_of first (k ∷ ks)
unfolding spans_from
run k first [] h s =
    walk (2 ^ k - 1) first 1 [] ∙ ap (λ w. spans_from first w []) (all_words k) ∙ ap (λ x. x ∷ []) (span_back first k h)
run k first (j ∷ ks) h s =
    walk (2 ^ k - 1) first 1 (continuations (j ∷ ks))
    ∙ ap (λ w. spans_from first w (continuations (j ∷ ks))) (all_words k)
    ∙ (λ i. span_back first k h i ∷ run j (first + 2 ^ k) ks s.0 s.1 i)

pub spans_back : (ks : List ℕ) → numbers ks ≤ 64 → spans (continuations ks) ≡ spans_of 0 ks
unfolding spans
spans_back [] h = refl
spans_back (k ∷ ks) h = let s = few (k ∷ ks) h in run k 0 ks s.0 s.1

pub spans_length : (first : ℕ) (ks : List ℕ) → length (spans_of first ks) ≡ length ks
spans_length first [] = refl
spans_length first (k ∷ ks) = ap suc (spans_length (first + 2 ^ k) ks)

-- ---- the sizes of ports

sized : (n here : ℕ) (rest : List Bool) → sizes_from here (replicate n true ++ rest) ≡ sizes_from (here + n) rest
sized zero here rest = let e : here ≡ here + 0 = omega arith in ap (λ w. sizes_from w rest) e
sized (suc n) here rest =
    let e : here + 1 + n ≡ here + suc n = omega arith in
    sized n (here + 1) rest ∙ ap (λ w. sizes_from w rest) e

sizes_run : (k : ℕ) (ks : List ℕ) → k ≤ 6 → Every (λ j. j ≤ 6) ks → list_all is_group (sizes_from 1 (replicate (2 ^ k - 1) true ++ continuations ks)) ≡ true
sizes_run k [] h s =
    ap (list_all is_group) (sized (2 ^ k - 1) 1 []) ∙ ap (λ w. is_group w && true) (all_words k) ∙ ap (λ t. t && true) (group_back k h)
sizes_run k (j ∷ ks) h s =
    ap (list_all is_group) (sized (2 ^ k - 1) 1 (continuations (j ∷ ks)))
    ∙ ap (λ w. list_all is_group (sizes_from w (continuations (j ∷ ks)))) (all_words k)
    ∙ (λ i. group_back k h i && sizes_run j ks s.0 s.1 i)

pub groups_back : (ks : List ℕ) → numbers ks ≤ 64 → are_ports (continuations ks) ≡ true
unfolding are_ports
groups_back [] h = refl
groups_back (k ∷ ks) h = let s = few (k ∷ ks) h in sizes_run k ks s.0 s.1

-- ---- what is made of each port

after_one : {A : Type 0} (w : A → ℕ) (b : List A) (p : A) → numbers (map w b) + 2 ^ w p ≡ numbers (map w (b ++ p ∷ []))
after_one w [] p = omega arith
after_one w (q ∷ qs) p = let e = after_one w qs p in omega (arith, e)

pub mapped : {A Y : Type 0} (w : A → ℕ) (F : PortSpan → Y) (v : A → Y) (before after : List A)
    → ((b : List A) (p : A) (a : List A) → b ++ p ∷ a ≡ before ++ after → F (span_at (numbers (map w b)) (w p)) ≡ v p)
    → map F (spans_of (numbers (map w before)) (map w after)) ≡ map v after
mapped w F v before [] h = refl
mapped w F v before (p ∷ ps) h =
    let here = h before p ps refl in
    let more = mapped w F v (before ++ p ∷ []) ps (λ b q a e. h b q a (e ∙ append_assoc before (p ∷ []) ps)) in
    let rest = ap (λ n. map F (spans_of n (map w ps))) (after_one w before p) ∙ more in
    λ i. here i ∷ rest i

pub none_mapped : {A : Type 0} (w : A → ℕ) (F : PortSpan → Bool) (before after : List A)
    → ((b : List A) (p : A) (a : List A) → b ++ p ∷ a ≡ before ++ after → F (span_at (numbers (map w b)) (w p)) ≡ false)
    → list_any F (spans_of (numbers (map w before)) (map w after)) ≡ false
none_mapped w F before [] h = refl
none_mapped w F before (p ∷ ps) h =
    let here = h before p ps refl in
    let more = none_mapped w F (before ++ p ∷ []) ps (λ b q a e. h b q a (e ∙ append_assoc before (p ∷ []) ps)) in
    let rest = ap (λ n. list_any F (spans_of n (map w ps))) (after_one w before p) ∙ more in
    λ i. here i || rest i
