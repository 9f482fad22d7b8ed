-- The values of bits, one after the other.
use Rattle.std.proofs.Common.{◌≡◌, ℕ, zero, suc, ◌+◌, ◌<◌, ◌≤◌, Bool, List, [], ◌∷◌, ◌++◌, take, length, get_or, Some, refl, sym, ap, add-one, ◌∙◌, arith}
use Rattle.std.proofs.lemmas.Option.{slice_get-get_or}
use Rattle.net_core.specs.declared.bits.Bit.{Bit}
use Rattle.net_core.specs.declared.bits.Bit.TheVariants.{Net}
use Rattle.net_core.specs.Nodes.{HasNet}
use Rattle.net_core.specs.Values.{Valuation, value_of, values_of}

values_suc : (v : Valuation) (bits : List Bit) (k : ℕ) (b : Bit) → k < length bits → b ≡ get_or bits k b → values_of v (take (suc k) bits) ≡ values_of v (take k bits) ++ value_of v b ∷ []
values_suc v [] k b lt is = absurd (omega (arith, lt))
values_suc v (x ∷ xs) zero b lt is = ap (λ z. value_of v z ∷ []) (sym is)
values_suc v (x ∷ xs) (suc k) b lt is = ap (λ l. value_of v x ∷ l) (values_suc v xs k b (omega (arith, lt)) is)

pub values_more : (v : Valuation) (bits : List Bit) (k : ℕ) (b : Bit) (done next : List Bool) (x : Bool) → k < length bits → b ≡ get_or bits k b → done ≡ values_of v (take k bits) → next ≡ done ++ x ∷ [] → x ≡ value_of v b → next ≡ values_of v (take (k + 1) bits)
values_more v bits k b done next x lt is so_far pushed here =
    pushed ∙ ap (λ l. l ++ x ∷ []) so_far ∙ ap (λ z. values_of v (take k bits) ++ z ∷ []) here ∙ sym (ap (λ n. values_of v (take n bits)) (add-one k) ∙ values_suc v bits k b lt is)

all_taken : {X : Type 0} (xs : List X) (k : ℕ) → length xs ≤ k → take k xs ≡ xs
all_taken [] zero h = refl
all_taken [] (suc k) h = refl
all_taken (x ∷ xs) zero h = absurd (omega (arith, h))
all_taken (x ∷ xs) (suc k) h = ap (λ l. x ∷ l) (all_taken xs k (omega (arith, h)))

pub values_all : (v : Valuation) (bits : List Bit) (k : ℕ) (line : List Bool) → length bits ≤ k → line ≡ values_of v (take k bits) → line ≡ values_of v bits
values_all v bits k line end is = is ∙ ap (values_of v) (all_taken bits k end)

pub bit_below : (bits : List Bit) (k : ℕ) (b : Bit) (limit : ℕ) → k < length bits → b ≡ get_or bits k b → ((n : ℕ) → HasNet bits n → n < limit) → (n : ℕ) → b ≡ Net n → n < limit
bit_below bits k b limit lt is below n e = below n (k, slice_get-get_or bits k b lt ∙ ap Some (sym is ∙ e))
