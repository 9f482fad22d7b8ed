-- One step of what is written by counting.
use Rattle.std.proofs.Common.{◌≡◌, ℕ, zero, suc, ◌+◌, ◌-◌, ◌<◌, ◌≤◌, List, [], ◌∷◌, ◌++◌, replicate, refl, ap, ◌∙◌, arith, append_assoc}
use Rattle.net_core.specs.declared.bits.Bit.{Bit}
use Rattle.mem_pack.specs.Numbers.{addresses_from, copies, word_address}

pub times_step : {X : Type 0} (left : ℕ) (x : X) → 0 < left → replicate left x ≡ x ∷ replicate (left - 1) x
times_step zero x h = absurd (omega arith)
times_step (suc k) x h = let e : k ≡ suc k - 1 = omega arith in ap (λ n. x ∷ replicate n x) e

pub times_none : {X : Type 0} (left : ℕ) (x : X) → left ≤ 0 → replicate left x ≡ []
times_none zero x h = refl
times_none (suc k) x h = absurd (omega arith)

pub copies_step : {X : Type 0} (left : ℕ) (xs : List X) → 0 < left → copies left xs ≡ xs ++ copies (left - 1) xs
copies_step zero xs h = absurd (omega arith)
copies_step (suc k) xs h = let e : k ≡ suc k - 1 = omega arith in ap (λ n. xs ++ copies n xs) e

pub copies_none : {X : Type 0} (left : ℕ) (xs : List X) → left ≤ 0 → copies left xs ≡ []
copies_none zero xs h = refl
copies_none (suc k) xs h = absurd (omega arith)

pub addresses_step : (wide : ℕ) (addr : List Bit) (place words : ℕ) → place < words → addresses_from wide addr place (words - place) ≡ word_address wide addr place ++ addresses_from wide addr (place + 1) (words - (place + 1))
addresses_step wide addr place words h =
    let e : words - place ≡ suc (words - (place + 1)) = omega arith in
    ap (λ n. addresses_from wide addr place n) e

pub addresses_none : (wide : ℕ) (addr : List Bit) (place words : ℕ) → words ≤ place → addresses_from wide addr place (words - place) ≡ []
addresses_none wide addr place words h =
    let e : words - place ≡ 0 = omega arith in
    ap (λ n. addresses_from wide addr place n) e

-- ---- two or three items that are put at the end

pub two_put : {X : Type 0} (old middle new : List X) (a b x y : X) → middle ≡ old ++ a ∷ [] → new ≡ middle ++ b ∷ [] → a ≡ x → b ≡ y → new ≡ old ++ (x ∷ y ∷ [])
two_put old middle new a b x y p q e f =
    q ∙ (λ i. p i ++ b ∷ []) ∙ append_assoc old (a ∷ []) (b ∷ []) ∙ (λ i. old ++ (e i ∷ f i ∷ []))

pub three_put : {X : Type 0} (old first second new : List X) (a b c x y z : X) → first ≡ old ++ a ∷ [] → second ≡ first ++ b ∷ [] → new ≡ second ++ c ∷ [] → a ≡ x → b ≡ y → c ≡ z
    → new ≡ old ++ (x ∷ y ∷ z ∷ [])
three_put old first second new a b c x y z p q r e f g =
    r ∙ ap (λ xs. xs ++ c ∷ []) (two_put old first second a b x y p q e f) ∙ append_assoc old (x ∷ y ∷ []) (c ∷ []) ∙ (λ i. old ++ (x ∷ y ∷ g i ∷ []))
