-- What read registers keep, bit by bit.
use Rattle.std.proofs.Common.{◌≡◌, ◌≢◌, ℕ, zero, suc, ◌+◌, ◌-◌, ◌<◌, ◌≤◌, Bool, false, ◌||◌, List, [], ◌∷◌, length, get_or, set, refl, sym, ap, ◌∙◌, ⊎_elim, arith}
use Rattle.std.specs.List.{list_any, range_with_len}
use Rattle.std.proofs.lemmas.List.{get_or-set_same, get_or-set_other}
use Rattle.std.proofs.lemmas.Bool.{cases_eq}
use Rattle.net_core.specs.Values.{Valuation, bit_at, tri_of}
use Rattle.net_core.specs.Ram.{Slot}
use Rattle.ram_step.specs.declared.nexts.Next.{Next}
use Rattle.ram_step.specs.declared.nexts.Next.TheVariants.{Same, Shown, Reset, Open, Loaded}
use Rattle.ram_step.specs.Nexts.{tri_next}

pub any_step : (test : ℕ → Bool) (place width : ℕ) → place < width → list_any test (range_with_len place (width - place)) ≡ (test place || list_any test (range_with_len (place + 1) (width - (place + 1))))
any_step test place width h =
    let z : width - place ≡ suc (width - (place + 1)) = omega arith in
    ap (λ n. list_any test (range_with_len place n)) z

pub any_end : (test : ℕ → Bool) (place width : ℕ) → width ≤ place → list_any test (range_with_len place (width - place)) ≡ false
any_end test place width h =
    let z : width - place ≡ 0 = omega arith in
    ap (λ n. list_any test (range_with_len place n)) z

pub bit_at_is : (xs : List Bool) (k : ℕ) → bit_at xs k ≡ get_or xs k false
bit_at_is [] k = refl
bit_at_is (x ∷ xs) zero = refl
bit_at_is (x ∷ xs) (suc k) = bit_at_is xs k

pub below_other : (j at : ℕ) → j < at + 1 → j ≢ at → j < at
below_other j at h apart = omega arith

-- one more bit is put
pub put_more : (f : ℕ → Bool) (xs : List Bool) (at : ℕ) (bit : Bool) → at < length xs → bit ≡ f at → ((j : ℕ) → j < at → get_or xs j false ≡ f j) → (j : ℕ) → j < at + 1 → get_or (set xs at bit) j false ≡ f j
put_more f xs at bit inside e each j h =
    ⊎_elim
    (λ (same : j ≡ at). ap (λ i. get_or (set xs at bit) i false) same ∙ get_or-set_same xs at bit false inside ∙ e ∙ ap f (sym same))
    (λ apart. get_or-set_other xs at j bit false apart ∙ each j (below_other j at h apart))
    (cases_eq j at)

pub put_above : (old xs : List Bool) (at : ℕ) (bit : Bool) → ((j : ℕ) → at ≤ j → get_or xs j false ≡ get_or old j false) → (j : ℕ) → at + 1 ≤ j → get_or (set xs at bit) j false ≡ get_or old j false
put_above old xs at bit each j h = get_or-set_other xs at j bit false (λ e. absurd (omega arith)) ∙ each j (omega arith)

-- what comes next of a place depends on what is kept of it alone
pub tri_next_same : {limbs : ℕ} (v : Valuation) (s : Slot) (kept other : ℕ → Bool) (k : ℕ) (next : Next limbs) → kept k ≡ other k → tri_next v s kept k next ≡ tri_next v s other k next
tri_next_same v s kept other k Same e = ap tri_of e
tri_next_same v s kept other k Shown e = refl
tri_next_same v s kept other k Reset e = refl
tri_next_same v s kept other k Open e = refl
tri_next_same v s kept other k (Loaded row from) e = refl
