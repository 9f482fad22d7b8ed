-- Listed writes that hit nothing: masks that differ at them alone tell the same.
use Rattle.std.proofs.Common.{◌≡◌, ℕ, zero, suc, ◌+◌, ◌*◌, ◌-◌, ◌^◌, Bool, true, false, cond, not, ◌&&◌, ◌||◌, List, [], ◌∷◌, Option, Some, None, refl, sym, ap, ◌∙◌, arith, nat_eq, nat_le, nat_lt}
use Rattle.std.specs.Prelude.{slice_get}
use Rattle.std.proofs.lemmas.Bool.{eqb-true}
use Rattle.lib_core.specs.declared.library.Tri.{Tri}
use Rattle.lib_core.specs.declared.library.Tri.TheVariants.{Any}
use Rattle.net_core.specs.declared.mems.WrPort.{WrPort}
use Rattle.net_core.specs.Memory.{Frame, base_of, hit, hits, is_hit, any_hit, winner, tri_or_any, all_masked, none_masked, loaded}
use Rattle.net_core.specs.Values.{Valuation, Happening, values_of, bit_at, has_edge}
use Rattle.rewriting.specs.Reads.{is_listed, mask_without, mask_with}

pub listed_at : (writes : List ℕ) (l : ℕ) → is_listed writes l ≡ true → (a : ℕ) × (slice_get writes a ≡ Some l)
listed_at [] l h = cc
listed_at (w ∷ writes) l h =
    let P : Bool → Type 0 = λ b. nat_eq w l ≡ b → (b || is_listed writes l) ≡ true → (a : ℕ) × (slice_get (w ∷ writes) a ≡ Some l) in
    let f : P (nat_eq w l) = elim (nat_eq w l) as P [ true ↦ λ e g. (0, ap Some (eqb-true w l e)) | false ↦ λ e g. let (a, at) = listed_at writes l g in (suc a, at) ] in
    f refl h

and_open : (a b : Bool) → b ≡ false → (a && not b) ≡ a
and_open true b e = ap not e
and_open false b e = refl

or_open : (a b : Bool) → b ≡ false → (a || b) ≡ a
or_open true b e = refl
or_open false b e = e

without_at : (writes : List ℕ) (bits : List Bool) (from k : ℕ) → is_listed writes (from + k) ≡ false → bit_at (mask_without writes from bits) k ≡ bit_at bits k
without_at writes [] from k h = refl
without_at writes (b ∷ bits) from zero h = let e : from + 0 ≡ from = omega arith in and_open b (is_listed writes from) (ap (is_listed writes) (sym e) ∙ h)
without_at writes (b ∷ bits) from (suc k) h = let e : suc from + k ≡ from + suc k = omega arith in without_at writes bits (suc from) k (ap (is_listed writes) e ∙ h)

with_at : (writes : List ℕ) (bits : List Bool) (from k : ℕ) → is_listed writes (from + k) ≡ false → bit_at (mask_with writes from bits) k ≡ bit_at bits k
with_at writes [] from k h = refl
with_at writes (b ∷ bits) from zero h = let e : from + 0 ≡ from = omega arith in or_open b (is_listed writes from) (ap (is_listed writes) (sym e) ∙ h)
with_at writes (b ∷ bits) from (suc k) h = let e : suc from + k ≡ from + suc k = omega arith in with_at writes bits (suc from) k (ap (is_listed writes) e ∙ h)

-- two masks are the same but at listed writes
abbrev pub SameOffList : List ℕ → List Bool → List Bool → Type 0
SameOffList writes a b = (k : ℕ) → is_listed writes k ≡ false → bit_at a k ≡ bit_at b k

pub without_same : (writes : List ℕ) (bits : List Bool) → SameOffList writes (mask_without writes 0 bits) bits
without_same writes bits k h = let e : 0 + k ≡ k = omega arith in without_at writes bits 0 k (ap (is_listed writes) e ∙ h)

pub with_same : (writes : List ℕ) (bits : List Bool) → SameOffList writes (mask_with writes 0 bits) bits
with_same writes bits k h = let e : 0 + k ≡ k = omega arith in with_at writes bits 0 k (ap (is_listed writes) e ∙ h)

-- the listed ones among these hits hit nothing; they are those from a place on
abbrev pub Misses : List ℕ → ℕ → List (Option Bool) → Type 0
Misses writes at [] = Unit {0}
Misses writes at (h ∷ hs) = (is_listed writes at ≡ true → is_hit h ≡ false) × Misses writes (suc at) hs

all_one : (listed hit a b : Bool) → (listed ≡ true → hit ≡ false) → (listed ≡ false → a ≡ b) → (not hit || a) ≡ (not hit || b)
all_one true hit a b miss same = (λ i. not (miss refl i) || a) ∙ (λ i. not (sym (miss refl) i) || b)
all_one false hit a b miss same = ap (λ z. not hit || z) (same refl)

all_same : (writes : List ℕ) (a b : List Bool) → SameOffList writes a b → (at : ℕ) (hs : List (Option Bool)) → Misses writes at hs → all_masked a at hs ≡ all_masked b at hs
all_same writes a b same at [] miss = refl
all_same writes a b same at (h ∷ hs) miss =
    let one = all_one (is_listed writes at) (is_hit h) (bit_at a at) (bit_at b at) miss.0 (same at) in
    let rest = all_same writes a b same (suc at) hs miss.1 in
    (λ i. one i && rest i)

none_same : (writes : List ℕ) (a b : List Bool) → SameOffList writes a b → (at : ℕ) (hs : List (Option Bool)) → Misses writes at hs → none_masked a at hs ≡ none_masked b at hs
none_same writes a b same at [] miss = refl
none_same writes a b same at (h ∷ hs) miss =
    let one = all_one (is_listed writes at) (is_hit h) (not (bit_at a at)) (not (bit_at b at)) miss.0 (λ e. ap not (same at e)) in
    let rest = none_same writes a b same (suc at) hs miss.1 in
    (λ i. one i && rest i)

pub loaded_same : (writes : List ℕ) (trans coll other more : List Bool) → SameOffList writes trans other → SameOffList writes coll more → (ws : List WrPort) (hs : List (Option Bool)) (old : Tri) → Misses writes 0 hs → loaded trans coll ws hs old ≡ loaded other more ws hs old
loaded_same writes trans coll other more t c ws hs old miss =
    let a = all_same writes trans other t 0 hs miss in
    let b = none_same writes trans other t 0 hs miss in
    let d = none_same writes coll more c 0 hs miss in
    (λ i. cond (any_hit hs) (cond (a i) (tri_or_any (winner hs 0 ws hs)) (cond (b i && d i) old Any)) old)

-- a write that is not enabled hits nothing
no_hit : (inputs : List ℕ) (f : Frame) (e : Happening) (u : Valuation) (word k : ℕ) (w : WrPort) → ((b : ℕ) → bit_at (values_of u w.en) b ≡ false) → is_hit (hit inputs f e u word k w) ≡ false
no_hit inputs f e u word k w off =
    let address = f.offset + word in
    let base = base_of u w.addr in
    let place = (address - base) * f.width + k in
    let front = has_edge inputs e.edge w.clock && nat_le base address && nat_lt address (base + 2 ^ w.wide) in
    ap (λ b. is_hit (cond b (Some (bit_at (values_of u w.value) place)) None)) (and_false front (bit_at (values_of u w.en) place) (off place))
  where
    and_false : (a b : Bool) → b ≡ false → (a && b) ≡ false
    and_false true b e = e
    and_false false b e = refl

pub misses : (writes : List ℕ) (inputs : List ℕ) (f : Frame) (e : Happening) (u : Valuation) (word k at : ℕ) (ws : List WrPort) → ((l : ℕ) (w : WrPort) → slice_get ws l ≡ Some w → is_listed writes (at + l) ≡ true → (b : ℕ) → bit_at (values_of u w.en) b ≡ false) → Misses writes at (hits inputs f e u word k ws)
misses writes inputs f e u word k at [] off = tt
misses writes inputs f e u word k at (w ∷ ws) off = (
  λ listed. no_hit inputs f e u word k w (off 0 w refl (let e : at + 0 ≡ at = omega arith in ap (is_listed writes) e ∙ listed)),
  misses writes inputs f e u word k (suc at) ws (λ l z there listed. off (suc l) z there (let e : at + suc l ≡ suc at + l = omega arith in ap (is_listed writes) e ∙ listed)),
)
