-- What reaches a bit by addresses is what reaches it by bits that are counted from address 0.
use Rattle.std.proofs.Common.{◌≡◌, ℕ, ◌+◌, ◌-◌, ◌*◌, ◌/◌, ◌%◌, ◌^◌, ◌<◌, ◌≤◌, Bool, true, false, ◌&&◌, cond, nat_le, nat_lt, List, [], ◌∷◌, map, Option, Some, None, refl, sym, ap, ◌∙◌, ⊎_elim, arith, add-mul, mul_comm, mul-le-mul_right, mod-lt, div-add-mod'}
use Rattle.std.proofs.lemmas.Bool.{cases_lt, lt-ltb, le-ltb, le-leb, lt-leb, leb-true}
use Rattle.std.proofs.lemmas.Nat.{div-mul-add, mod-mul-add}
use Rattle.lib_core.specs.declared.library.Tri.{Tri}
use Rattle.lib_core.specs.declared.library.Tri.TheVariants.{Any}
use Rattle.lib_core.specs.Rams.{tri_at}
use Rattle.net_core.specs.declared.bits.Event.{Event}
use Rattle.net_core.specs.declared.mems.Mem.{Mem}
use Rattle.net_core.specs.declared.mems.WrPort.{WrPort}
use Rattle.net_core.specs.Values.{Valuation, values_of, bit_at, has_edge}
use Rattle.net_core.specs.Memory.{frame_of, base_of, hit, hits, read_bit}
use Rattle.ram_step.specs.Moments.{inputs_alone, moment_of}
use Rattle.sim_cells.specs.Places.{write_base, base_hit, base_hits, place_of, at_place}

-- a bit of the words by its address
split : (o p w : ℕ) → (o + p / w) * w + p % w ≡ o * w + p
split o p w =
    let d = add-mul o (p / w) w in
    let e = div-add-mod' p w in
    omega (arith, d, e)

from_below : (b o p w : ℕ) → b ≤ o + p / w → b * w ≤ o * w + p
from_below b o p w h =
    let s = split o p w in
    let m : b * w ≤ (o + p / w) * w = mul-le-mul_right w h in
    omega (arith, s, m)

to_above : (b o p w : ℕ) → 1 ≤ w → o + p / w < b → o * w + p < b * w
to_above b o p w some h =
    let s = split o p w in
    let m : (o + p / w + 1) * w ≤ b * w = mul-le-mul_right w (let z : o + p / w + 1 ≤ b = omega (arith, h) in z) in
    let d = add-mul (o + p / w) 1 w in
    let r : p % w < w = mod-lt p (omega (arith, some)) in
    let one : 1 * w ≡ w = omega arith in
    omega (arith, s, m, d, r, one)

le_same : (b o p w : ℕ) → 1 ≤ w → nat_le (b * w) (o * w + p) ≡ nat_le b (o + p / w)
le_same b o p w some =
    ⊎_elim
    (λ above. lt-leb (b * w) (o * w + p) (to_above b o p w some above) ∙ sym (lt-leb b (o + p / w) above))
    (λ below. le-leb (b * w) (o * w + p) (from_below b o p w below) ∙ sym (le-leb b (o + p / w) below))
    (cases_lt (o + p / w) b)

lt_same : (b o p w : ℕ) → 1 ≤ w → nat_lt (o * w + p) (b * w) ≡ nat_lt (o + p / w) b
lt_same b o p w some =
    ⊎_elim
    (λ above. lt-ltb (o * w + p) (b * w) (to_above b o p w some above) ∙ sym (lt-ltb (o + p / w) b above))
    (λ below. le-ltb (o * w + p) (b * w) (from_below b o p w below) ∙ sym (le-ltb (o + p / w) b below))
    (cases_lt (o + p / w) b)

group_end : (b n w : ℕ) → b * w + w * n ≡ (b + n) * w
group_end b n w =
    let d = add-mul b n w in
    let c = mul_comm w n in
    omega (arith, d, c)

lane_same : (b o p w : ℕ) → b ≤ o + p / w → o * w + p - b * w ≡ (o + p / w - b) * w + p % w
lane_same b o p w h =
    let s = split o p w in
    let q = o + p / w - b in
    let e : o + p / w ≡ b + q = omega (arith, h) in
    let d = add-mul b q w in
    let f : (o + p / w) * w ≡ (b + q) * w = ap (λ z. z * w) e in
    omega (arith, s, d, f)

-- a test of the lower end settles the rest
and_first : {X : Type 0} (a a' b b' : Bool) (f g : Bool) (y z n : X) → a ≡ a' → b ≡ b' → (a' ≡ true → (f ≡ g) × (y ≡ z)) → cond (a && b && f) y n ≡ cond (a' && b' && g) z n
and_first a true b b' f g y z n e h k =
    let r = k refl in
    ap (λ t. cond (t && b && f) y n) e ∙ ap (λ t. cond (true && t && f) y n) h ∙ ap (λ t. cond (true && b' && t) y n) r.0 ∙ ap (λ t. cond (true && b' && g) t n) r.1
and_first a false b b' f g y z n e h k = ap (λ t. cond (t && b && f) y n) e

and_two : {X : Type 0} (a a' b b' : Bool) (y z n : X) → a ≡ a' → b ≡ b' → (a' ≡ true → y ≡ z) → cond (a && b) y n ≡ cond (a' && b') z n
and_two a true b b' y z n e h k = ap (λ t. cond (t && b) y n) e ∙ ap (λ t. cond (true && t) y n) h ∙ ap (λ t. cond (true && b') t n) (k refl)
and_two a false b b' y z n e h k = ap (λ t. cond (t && b) y n) e

by_edge : (x : Mem) (v : Valuation) (place : ℕ) (w : WrPort) (edge : Bool) → 1 ≤ x.width → base_hit x v place w (cond edge (Some (base_of v w.addr * x.width)) None) ≡ cond (edge && nat_le (base_of v w.addr) (x.offset + place / x.width) && nat_lt (x.offset + place / x.width) (base_of v w.addr + 2 ^ w.wide) && bit_at (values_of v w.en) ((x.offset + place / x.width - base_of v w.addr) * x.width + place % x.width)) (Some (bit_at (values_of v w.value) ((x.offset + place / x.width - base_of v w.addr) * x.width + place % x.width))) None
by_edge x v place w false some = refl
by_edge x v place w true some =
    let base = base_of v w.addr in
    let address = x.offset + place / x.width in
    let bit = x.offset * x.width + place in
    and_first (nat_le (base * x.width) bit) (nat_le base address) (nat_lt bit (base * x.width + x.width * 2 ^ w.wide)) (nat_lt address (base + 2 ^ w.wide))
    (bit_at (values_of v w.en) (bit - base * x.width)) (bit_at (values_of v w.en) ((address - base) * x.width + place % x.width))
    (Some (bit_at (values_of v w.value) (bit - base * x.width))) (Some (bit_at (values_of v w.value) ((address - base) * x.width + place % x.width))) None
    (le_same base x.offset place x.width some)
    (ap (nat_lt bit) (group_end base (2 ^ w.wide) x.width) ∙ lt_same (base + 2 ^ w.wide) x.offset place x.width some)
    (λ h.
    let p = lane_same base x.offset place x.width (leb-true base address h) in
    (ap (bit_at (values_of v w.en)) p, ap (λ z. Some (bit_at (values_of v w.value) z)) p))

pub hit_is : (x : Mem) (e : Event) (v : Valuation) (place : ℕ) (w : WrPort) → 1 ≤ x.width → base_hit x v place w (write_base x v e w) ≡ hit (inputs_alone e) (frame_of x) (moment_of e) v (place / x.width) (place % x.width) w
hit_is x e v place w some = by_edge x v place w (has_edge (inputs_alone e) (moment_of e).edge w.clock) some

pub hits_are : (x : Mem) (e : Event) (v : Valuation) (place : ℕ) (ws : List WrPort) → 1 ≤ x.width → base_hits x v place ws (map (write_base x v e) ws) ≡ hits (inputs_alone e) (frame_of x) (moment_of e) v (place / x.width) (place % x.width) ws
hits_are x e v place [] some = refl
hits_are x e v place (w ∷ ws) some =
    let one = hit_is x e v place w some in
    let rest = hits_are x e v place ws some in
    λ i. one i ∷ rest i

at_cond : (t : Bool) (p : ℕ) (here : ℕ → Tri) → at_place (cond t (Some p) None) here ≡ cond t (here p) Any
at_cond true p here = refl
at_cond false p here = refl

pub at_same : (o : Option ℕ) (f g : ℕ → Tri) → ((p : ℕ) → f p ≡ g p) → at_place o f ≡ at_place o g
at_same None f g h = refl
at_same (Some p) f g h = h p

-- what stands at a place of a read's data
pub read_is : (x : Mem) (base k : ℕ) (here : ℕ → ℕ → Tri) → 1 ≤ x.width → at_place (place_of x (base * x.width + k)) (λ p. here (p / x.width) (p % x.width)) ≡ read_bit (frame_of x) base k here
read_is x base k here some =
    let w = x.width in
    let bit = base * w + k in
    let address = base + k / w in
    at_cond (nat_le (x.offset * w) bit && nat_lt bit (x.offset * w + x.size * w)) (bit - x.offset * w) (λ p. here (p / w) (p % w))
    ∙ and_two (nat_le (x.offset * w) bit) (nat_le x.offset address) (nat_lt bit (x.offset * w + x.size * w)) (nat_lt address (x.offset + x.size))
    (here ((bit - x.offset * w) / w) ((bit - x.offset * w) % w)) (here (address - x.offset) (k % w)) Any
    (le_same x.offset base k w some)
    (ap (nat_lt bit) (sym (add-mul x.offset x.size w)) ∙ lt_same (x.offset + x.size) base k w some)
    (λ h.
    let p = lane_same x.offset base k w (leb-true x.offset address h) in
    let r : k % w < w = mod-lt k (omega (arith, some)) in
    ap (λ z. here (z / w) (z % w)) p
    ∙ ap (λ z. here z (((address - x.offset) * w + k % w) % w)) (div-mul-add (address - x.offset) w (k % w) r)
    ∙ ap (here (address - x.offset)) (mod-mul-add (address - x.offset) w (k % w) r))

pub content_is : (x : Mem) (words : List Tri) (p : ℕ) → tri_at words p ≡ tri_at words (p / x.width * x.width + p % x.width)
content_is x words p = ap (tri_at words) (sym (div-add-mod' p x.width))
