-- Walks along connects.
use Rattle.std.proofs.Common.{◌≡◌, ◌⊎◌, inl, inr, ℕ, zero, suc, ◌+◌, ◌*◌, ◌-◌, ◌^◌, ◌<◌, ◌≤◌, true, List, length, map, get_or, Some, refl, sym, ap, subst, ◌∙◌, arith}
use Rattle.std.specs.Prelude.{slice_get}
use Rattle.std.proofs.lemmas.List.{get_or-map, get_or_past, length-map}
use Rattle.std.proofs.lemmas.Bool.{cases_lt}
use Rattle.std.proofs.lemmas.Option.{get_or_from_slice_get, slice_get_within}
use Rattle.std.proofs.lemmas.Option.{slice_get-get_or}
use Rattle.net_wires.specs.declared.link.Link.{Link}
use Rattle.net_wires.specs.declared.link.Link.TheVariants.{Zero, One, End, To}
use Rattle.net_wires.specs.Doubling.{doubled, power, Within}
use Rattle.net_wires.specs.Ties.{is_end, onward, walk, Leads, OnRing}
use Rattle.net_wires.proofs.Pigeons.{pigeons, Twice}

pub walk_end : (t : List Link) (n : ℕ) (x : Link) → is_end x ≡ true → walk t n x ≡ x
walk_end t zero x h = refl
walk_end t (suc n) Zero h = walk_end t n Zero h
walk_end t (suc n) One h = walk_end t n One h
walk_end t (suc n) (End i) h = walk_end t n (End i) h
walk_end t (suc n) (To i) h = cc

pub walk_more : (t : List Link) (n m : ℕ) (x : Link) → walk t (n + m) x ≡ walk t m (walk t n x)
walk_more t zero m x = let e : 0 + m ≡ m = omega arith in ap (λ k. walk t k x) e
walk_more t (suc n) m x = let e : suc n + m ≡ suc (n + m) = omega arith in ap (λ k. walk t k x) e ∙ walk_more t n m (onward t x)

doubled_to : (t : List Link) (i : ℕ) → (i < length t) ⊎ (length t ≤ i) → get_or (map (onward t) t) i (To i) ≡ onward t (get_or t i (To i))
doubled_to t i (inl h) = get_or-map (onward t) t i (To i) (To i) h
doubled_to t i (inr h) = get_or_past (map (onward t) t) i (To i) (omega (arith, h, length-map t (onward t))) ∙ sym (ap (onward t) (get_or_past t i (To i) h) ∙ get_or_past t i (To i) h)

pub onward_doubled : (t : List Link) (x : Link) → onward (doubled t) x ≡ onward t (onward t x)
onward_doubled t Zero = refl
onward_doubled t One = refl
onward_doubled t (End i) = refl
onward_doubled t (To i) = doubled_to t i (cases_lt i (length t))

twice : (r : ℕ) → 2 ^ suc r ≡ 2 ^ r + 2 ^ r
twice r = grind arith

pub onward_power : (t : List Link) (r : ℕ) (x : Link) → onward (power t r) x ≡ walk t (2 ^ r) x
onward_power t zero x = refl
onward_power t (suc r) x =
    onward_doubled (power t r) x ∙ onward_power t r (onward (power t r) x) ∙ ap (walk t (2 ^ r)) (onward_power t r x)
    ∙ sym (walk_more t (2 ^ r) (2 ^ r) x) ∙ ap (λ k. walk t k x) (sym (twice r))

pub length_power : (t : List Link) (r : ℕ) → length (power t r) ≡ length t
length_power t zero = refl
length_power t (suc r) = length-map (power t r) (onward (power t r)) ∙ length_power t r

-- what stands at a bit after r rounds lies 2 ^ r connects further
pub at_power : (t : List Link) (r i : ℕ) (x : Link) → slice_get (power t r) i ≡ Some x → walk t (2 ^ r) (To i) ≡ x
at_power t r i x h = sym (onward_power t r (To i)) ∙ get_or_from_slice_get (power t r) i x (To i) h

pub kind : (y : Link) → (is_end y ≡ true) ⊎ ((w : ℕ) × (y ≡ To w))
kind Zero = inl refl
kind One = inl refl
kind (End i) = inl refl
kind (To i) = inr (i, refl)

pub not_end : (j : ℕ) (y : Link) → is_end y ≡ true → y ≡ To j → ⊥
not_end j y h e = let f : is_end (To j) ≡ true = subst (λ (z : Link). is_end z ≡ true) e h in cc

walk_last : (t : List Link) (k : ℕ) (x : Link) → walk t (suc k) x ≡ onward t (walk t k x)
walk_last t k x = let e : suc k ≡ k + 1 = omega arith in ap (λ n. walk t n x) e ∙ walk_more t k 1 x

-- each step of a walk that has not ended is a bit
record Still (t : List Link) (x : Link) : Type 0 where
  bit : ℕ
  is : x ≡ To bit
  there : bit < length t

onward_still : (t : List Link) (x y : Link) → Within t → Still t x → onward t x ≡ y → (is_end y ≡ true → ⊥) → Still t y
onward_still t x y w s e ne =
    elim (kind y) [
      | inl h ↦ absurd (ne h)
      | inr (j, is) ↦
          let got : get_or t s.bit (To s.bit) ≡ To j = sym (ap (onward t) s.is) ∙ e ∙ is in
          record { bit = j; is = is; there = w s.bit j (slice_get-get_or t s.bit (To s.bit) s.there ∙ ap Some got) }
    ]

stays : (t : List Link) (n i j : ℕ) → Within t → i < length t → walk t n (To i) ≡ To j → (k : ℕ) → k ≤ n → Still t (walk t k (To i))
stays t n i j w h e zero le = record { bit = i; is = refl; there = h }
stays t n i j w h e (suc k) le =
    let before : Still t (walk t k (To i)) = stays t n i j w h e k (omega (arith, le)) in
    let rest : suc k + (n - suc k) ≡ n = omega (arith, le) in
    let whole : walk t n (To i) ≡ walk t (n - suc k) (walk t (suc k) (To i)) = ap (λ m. walk t m (To i)) (sym rest) ∙ walk_more t (suc k) (n - suc k) (To i) in
    onward_still t (walk t k (To i)) (walk t (suc k) (To i)) w before (sym (walk_last t k (To i)))
    (λ ended. not_end j (walk t (suc k) (To i)) ended (sym (walk_end t (n - suc k) (walk t (suc k) (To i)) ended) ∙ sym whole ∙ e))

abbrev bit_of : Link → ℕ
bit_of (To i) = i
bit_of x = 0

bit_is : (t : List Link) (x : Link) → Still t x → x ≡ To (bit_of x)
bit_is t x s = s.is ∙ ap To (sym (ap bit_of s.is))

bit_there : (t : List Link) (x : Link) → Still t x → bit_of x < length t
bit_there t x s = subst (λ (k : ℕ). k < length t) (sym (ap bit_of s.is)) s.there

-- and leads to a place
pub lands : (t : List Link) (n i j : ℕ) → Within t → i < length t → walk t n (To i) ≡ To j → j < length t
lands t n i j w h e = let s = stays t n i j w h e n (omega arith) in subst (λ (k : ℕ). k < length t) (ap bit_of (sym s.is ∙ e)) s.there

-- a walk over as many connects as there are bits has ended, or goes round
pub comes_round : (t : List Link) (n i j : ℕ) → Within t → i < length t → length t ≤ n → walk t n (To i) ≡ To j → OnRing t j
comes_round t n i j w h long e =
    let at : (k : ℕ) → k ≤ length t → Still t (walk t k (To i)) = λ k le. stays t n i j w h e k (omega (arith, le, long)) in
    let p : Twice (λ k. bit_of (walk t k (To i))) (length t) = pigeons (length t) (λ k. bit_of (walk t k (To i))) (λ k le. bit_there t (walk t k (To i)) (at k le)) in
    let a = p.first in
    let b = p.second in
    let sa : Still t (walk t a (To i)) = at a (omega (arith, p.before, p.until)) in
    let sb : Still t (walk t b (To i)) = at b p.until in
    let same : walk t a (To i) ≡ walk t b (To i) = bit_is t (walk t a (To i)) sa ∙ ap To p.same ∙ sym (bit_is t (walk t b (To i)) sb) in
    let from_a : a + (n - a) ≡ n = omega (arith, p.before, p.until, long) in
    let from_b : b + (n - a) ≡ n + suc (b - a - 1) = omega (arith, p.before, p.until, long) in
    let x = walk t (n - a) in
    let here : walk t n (To i) ≡ walk t (n - a) (walk t a (To i)) = ap (λ m. walk t m (To i)) (sym from_a) ∙ walk_more t a (n - a) (To i) in
    let there : walk t (n - a) (walk t b (To i)) ≡ walk t (suc (b - a - 1)) (walk t n (To i)) = sym (walk_more t b (n - a) (To i)) ∙ ap (λ m. walk t m (To i)) from_b ∙ walk_more t n (suc (b - a - 1)) (To i) in
    (b - a - 1, ap (walk t (suc (b - a - 1))) (sym e) ∙ sym there ∙ ap (walk t (n - a)) (sym same) ∙ sym here ∙ e)

zero_times : (n : ℕ) → 0 * suc n ≡ 0
zero_times n = grind arith

suc_times : (m n : ℕ) → suc m * suc n ≡ suc n + m * suc n
suc_times m n = grind arith

round_again : (t : List Link) (j n : ℕ) → walk t (suc n) (To j) ≡ To j → (m : ℕ) → walk t (m * suc n) (To j) ≡ To j
round_again t j n e zero = ap (λ k. walk t k (To j)) (zero_times n)
round_again t j n e (suc m) = ap (λ k. walk t k (To j)) (suc_times m n) ∙ walk_more t (suc n) (m * suc n) (To j) ∙ ap (walk t (m * suc n)) e ∙ round_again t j n e m

further : (a n : ℕ) → a + (a * suc n - a) ≡ a * suc n
further a n = grind arith

-- and what lies on a ring never ends
pub rings_last : (t : List Link) (j : ℕ) → OnRing t j → (e : Link) → Leads t (To j) e → ⊥
rings_last t j r e l =
    let around : (m : ℕ) → walk t (m * suc r.0) (To j) ≡ To j = λ m. round_again t j r.0 r.1 m in
    let stop = l.0 in
    let far : stop + (stop * suc r.0 - stop) ≡ stop * suc r.0 = further stop r.0 in
    let last : walk t (stop * suc r.0) (To j) ≡ e = ap (λ k. walk t k (To j)) (sym far) ∙ walk_more t stop (stop * suc r.0 - stop) (To j) ∙ ap (walk t (stop * suc r.0 - stop)) l.1 ∙ walk_end t (stop * suc r.0 - stop) e l.2 in
    not_end j e l.2 (sym last ∙ around stop)

-- what is left after enough rounds lies on a ring
pub found_ring : (t : List Link) (r k i : ℕ) → Within t → length t ≤ 2 ^ r → slice_get (power t r) k ≡ Some (To i) → OnRing t i
found_ring t r k i w long at =
    let h : k < length t = omega (arith, slice_get_within (power t r) k (To i) at, length_power t r) in
    comes_round t (2 ^ r) k i w h long (at_power t r k (To i) at)

times : (a n : ℕ) → a * n + (a * suc n - a * n) ≡ a * suc n
times a n = grind arith

times_more : (a n : ℕ) → a * suc n ≡ a * n + a
times_more a n = grind arith

-- and each bit of a ring is left at some bit
pub ring_found : (t : List Link) (r i : ℕ) → Within t → i < length t → OnRing t i → (k : ℕ) × (slice_get (power t r) k ≡ Some (To i))
ring_found t r i w h ring =
    let n = ring.0 in
    let p : ℕ = 2 ^ r in
    let around : walk t (p * suc n) (To i) ≡ To i = round_again t i n ring.1 p in
    let s : Still t (walk t (p * n) (To i)) = stays t (p * suc n) i i w h around (p * n) (omega (arith, times_more p n)) in
    let k = s.bit in
    let there : walk t p (To k) ≡ To i = ap (walk t p) (sym s.is) ∙ sym (walk_more t (p * n) p (To i)) ∙ ap (λ m. walk t m (To i)) (sym (times_more p n)) ∙ around in
    let in_power : k < length (power t r) = omega (arith, s.there, length_power t r) in
    (k, slice_get-get_or (power t r) k (To k) in_power ∙ ap Some (onward_power t r (To k) ∙ there))
