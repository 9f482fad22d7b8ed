-- Where connects make no ring, bits that solve them are determined by their order.
use Rattle.std.proofs.Common.{◌≡◌, inl, inr, ℕ, zero, suc, ◌+◌, ◌<◌, true, List, [], ◌∷◌, length, get_or, Some, refl, sym, ap, ◌∙◌, subst, arith}
use Rattle.std.specs.Prelude.{slice_get}
use Rattle.std.proofs.lemmas.Bool.{cases_eq}
use Rattle.std.proofs.lemmas.Option.{same_Some, slice_get-get_or}
use Rattle.net_core.specs.declared.bits.Bit.{Bit}
use Rattle.net_core.specs.declared.bits.Bit.TheVariants as bits
use Rattle.net_wires.specs.declared.link.Link.{Link}
use Rattle.net_wires.specs.declared.link.Link.TheVariants as links
use Rattle.net_wires.specs.Doubling.{Within}
use Rattle.net_wires.specs.Nets.{HasNoRing, InOrder, Solves}
use Rattle.net_wires.specs.Ties.{is_end, walk, Leads}
use Rattle.net_wires.proofs.Saying.{number_of}
use Rattle.net_wires.proofs.Walks.{comes_round, kind, lands, walk_end}

-- ---- each place has an end

pub has_end : (t : List Link) → Within t → HasNoRing t → (i : ℕ) → i < length t → (e : Link) × Leads t (links.To i) e
has_end t w none i h =
    elim (kind (walk t (length t) (links.To i))) [
      | inl is ↦ (walk t (length t) (links.To i), (length t, refl, is))
      | inr (j, is) ↦ absurd (none j (lands t (length t) i j w h is) (comes_round t (length t) i j w h (omega arith) is))
    ]

-- a table in which each end is its own
abbrev pub OwnEnds : List Link → Type 0
OwnEnds t = (l p : ℕ) → slice_get t l ≡ Some (links.End p) → p ≡ l

-- what stands at a place with this end
abbrev Shows : List Link → List Bit → ℕ → Link → Type 0
Shows t new i links.Zero = slice_get new i ≡ Some bits.Zero
Shows t new i links.One = slice_get new i ≡ Some bits.One
Shows t new i (links.End p) = (slice_get t p ≡ Some (links.End p)) × (slice_get new i ≡ slice_get new p)
Shows t new i (links.To j) = Unit {0}

as_before : (t : List Link) (new : List Bit) (i r : ℕ) (e : Link) → slice_get new i ≡ slice_get new r → Shows t new r e → Shows t new i e
as_before t new i r links.Zero same s = same ∙ s
as_before t new i r links.One same s = same ∙ s
as_before t new i r (links.End p) same s = (s.0, same ∙ s.1)
as_before t new i r (links.To j) same s = tt

by_link : (t : List Link) (new : List Bit) → OwnEnds t → Within t → Solves t new → (n i : ℕ) (x e : Link) → slice_get t i ≡ Some x → walk t n x ≡ e → ((r : ℕ) → r < length t → walk t n (links.To r) ≡ e → Shows t new r e) → Shows t new i e
by_link t new own w s n i links.Zero e at to rec = subst (Shows t new i) (sym (walk_end t n links.Zero refl) ∙ to) (s.zero i at)
by_link t new own w s n i links.One e at to rec = subst (Shows t new i) (sym (walk_end t n links.One refl) ∙ to) (s.one i at)
by_link t new own w s n i (links.End p) e at to rec =
    let here : p ≡ i = own i p at in
    subst (Shows t new i) (sym (walk_end t n (links.End p) refl) ∙ to) (ap (slice_get t) here ∙ at, ap (slice_get new) (sym here))
by_link t new own w s n i (links.To r) e at to rec = as_before t new i r e (s.equal i r at (w i r at)) (rec r (w i r at) to)

shows : (t : List Link) (new : List Bit) → OwnEnds t → Within t → Solves t new → (n i : ℕ) (e : Link) → i < length t → walk t n (links.To i) ≡ e → is_end e ≡ true → Shows t new i e
shows t new own w s zero i e h to end = let no_end : is_end (links.To i) ≡ true = subst (λ (y : Link). is_end y ≡ true) (sym to) end in cc
shows t new own w s (suc n) i e h to end =
    by_link t new own w s n i (get_or t i (links.To i)) e (slice_get-get_or t i (links.To i) h) to (λ r k q. shows t new own w s n r e k q end)

-- ---- two solutions are alike

record NetEnd (t : List Link) (new : List Bit) (e : Link) (k : ℕ) : Type 0 where
  at : ℕ
  is : e ≡ links.End at
  own : slice_get t at ≡ Some (links.End at)
  has : slice_get new at ≡ Some (bits.Net k)

net_end : (t : List Link) (new : List Bit) → (i k : ℕ) (e : Link) → is_end e ≡ true → Shows t new i e → slice_get new i ≡ Some (bits.Net k) → NetEnd t new e k
net_end t new i k links.Zero h s at = let x = same_Some bits.Zero (bits.Net k) (sym s ∙ at) in cc
net_end t new i k links.One h s at = let x = same_Some bits.One (bits.Net k) (sym s ∙ at) in cc
net_end t new i k (links.End p) h s at = record { at = p; is = refl; own = s.0; has = sym s.1 ∙ at }
net_end t new i k (links.To j) h s at = cc

record Alike (a b : List Bit) : Type 0 where
  zero_too : (i : ℕ) → i < length a → slice_get a i ≡ Some bits.Zero → slice_get b i ≡ Some bits.Zero
  one_too : (i : ℕ) → i < length a → slice_get a i ≡ Some bits.One → slice_get b i ≡ Some bits.One
  net_too : (i k : ℕ) → i < length a → slice_get a i ≡ Some (bits.Net k) → (l : ℕ) × (slice_get b i ≡ Some (bits.Net l))
  same : (i j k : ℕ) → i < length a → j < length a → slice_get a i ≡ Some (bits.Net k) → slice_get a j ≡ Some (bits.Net k) → slice_get b i ≡ slice_get b j
  back : (i j k : ℕ) → i < length a → j < length a → slice_get b i ≡ Some (bits.Net k) → slice_get b j ≡ Some (bits.Net k) → slice_get a i ≡ slice_get a j

zero_at : (t : List Link) (a b : List Bit) → Solves t a → (i : ℕ) (e : Link) → is_end e ≡ true → Shows t a i e → Shows t b i e → slice_get a i ≡ Some bits.Zero → slice_get b i ≡ Some bits.Zero
zero_at t a b s i links.Zero h p q at = q
zero_at t a b s i links.One h p q at = let x = same_Some bits.One bits.Zero (sym p ∙ at) in cc
zero_at t a b s i (links.End r) h p q at = let k = s.net r p.0 in let x = same_Some (bits.Net k.0) bits.Zero (sym k.1 ∙ sym p.1 ∙ at) in cc
zero_at t a b s i (links.To j) h p q at = cc

one_at : (t : List Link) (a b : List Bit) → Solves t a → (i : ℕ) (e : Link) → is_end e ≡ true → Shows t a i e → Shows t b i e → slice_get a i ≡ Some bits.One → slice_get b i ≡ Some bits.One
one_at t a b s i links.Zero h p q at = let x = same_Some bits.Zero bits.One (sym p ∙ at) in cc
one_at t a b s i links.One h p q at = q
one_at t a b s i (links.End r) h p q at = let k = s.net r p.0 in let x = same_Some (bits.Net k.0) bits.One (sym k.1 ∙ sym p.1 ∙ at) in cc
one_at t a b s i (links.To j) h p q at = cc

module _ (t : List Link) (own : OwnEnds t) (w : Within t) (none : HasNoRing t) where
  end_of : (i : ℕ) → i < length t → (e : Link) × Leads t (links.To i) e
  end_of i h = has_end t w none i h

  shown : (new : List Bit) → Solves t new → (i : ℕ) (h : i < length t) → Shows t new i (end_of i h).0
  shown new s i h = let l = (end_of i h).1 in shows t new own w s l.0 i (end_of i h).0 h l.1 l.2

  net_at : (a b : List Bit) → Solves t a → Solves t b → (i k : ℕ) → i < length t → slice_get a i ≡ Some (bits.Net k) → (l : ℕ) × (slice_get b i ≡ Some (bits.Net l))
  net_at a b sa sb i k h at =
      let n = net_end t a i k (end_of i h).0 (end_of i h).1.2 (shown a sa i h) at in
      let q : Shows t b i (links.End n.at) = subst (Shows t b i) n.is (shown b sb i h) in
      let m = sb.net n.at n.own in
      (m.0, q.1 ∙ m.1)

  same_at : (a b : List Bit) → Solves t a → Solves t b → (i j k : ℕ) → i < length t → j < length t → slice_get a i ≡ Some (bits.Net k) → slice_get a j ≡ Some (bits.Net k) → slice_get b i ≡ slice_get b j
  same_at a b sa sb i j k h g at too =
      let n = net_end t a i k (end_of i h).0 (end_of i h).1.2 (shown a sa i h) at in
      let m = net_end t a j k (end_of j g).0 (end_of j g).1.2 (shown a sa j g) too in
      let one : n.at ≡ m.at = sa.apart n.at m.at k n.own m.own n.has m.has in
      let p : Shows t b i (links.End n.at) = subst (Shows t b i) n.is (shown b sb i h) in
      let q : Shows t b j (links.End m.at) = subst (Shows t b j) m.is (shown b sb j g) in
      p.1 ∙ ap (slice_get b) one ∙ sym q.1

  alike : (a b : List Bit) → length a ≡ length t → Solves t a → Solves t b → Alike a b
  alike a b long sa sb =
      let inside : (i : ℕ) → i < length a → i < length t = λ i h. omega (arith, h, long) in
      record {
        zero_too = λ i h at. zero_at t a b sa i (end_of i (inside i h)).0 (end_of i (inside i h)).1.2 (shown a sa i (inside i h)) (shown b sb i (inside i h)) at;
        one_too = λ i h at. one_at t a b sa i (end_of i (inside i h)).0 (end_of i (inside i h)).1.2 (shown a sa i (inside i h)) (shown b sb i (inside i h)) at;
        net_too = λ i k h at. net_at a b sa sb i k (inside i h) at;
        same = λ i j k h g at too. same_at a b sa sb i j k (inside i h) (inside j g) at too;
        back = λ i j k h g at too. same_at b a sb sa i j k (inside i h) (inside j g) at too;
      }

-- ---- and equal where they are in order

-- the lists agree before i, and hold all nets below n there
record Before (a b : List Bit) (i n : ℕ) : Type 0 where
  equal : (j : ℕ) → j < i → slice_get a j ≡ slice_get b j
  nets : (k : ℕ) → k < n → (j : ℕ) × (j < i) × (slice_get a j ≡ Some (bits.Net k))

old_more : (a b : List Bit) (i n : ℕ) → slice_get a i ≡ slice_get b i → Before a b i n → Before a b (suc i) n
old_more a b i n here p = record {
  equal = λ j h. elim (cases_eq j i) [ inl e ↦ ap (slice_get a) e ∙ here ∙ ap (slice_get b) (sym e) | inr ne ↦ p.equal j (omega (arith, h, ne)) ];
  nets = λ k h. let q = p.nets k h in (q.0, omega (arith, q.1), q.2);
}

new_more : (a b : List Bit) (i n : ℕ) → slice_get a i ≡ slice_get b i → slice_get a i ≡ Some (bits.Net n) → Before a b i n → Before a b (suc i) (suc n)
new_more a b i n here is p =
    let q = old_more a b i n here p in
    record {
      equal = q.equal;
      nets = λ k h. elim (cases_eq k n) [ inl e ↦ (i, omega arith, is ∙ ap (λ m. Some (bits.Net m)) (sym e)) | inr ne ↦ q.nets k (omega (arith, h, ne)) ];
    }

same_net : (k l : ℕ) → Some (bits.Net k) ≡ Some (bits.Net l) → k ≡ l
same_net k l e = ap number_of (same_Some (bits.Net k) (bits.Net l) e)

abbrev Equal : List Bit → List Bit → ℕ → ℕ → Type 0
Equal xs ys na nb = (xs ≡ ys) × (na ≡ nb)

module _ (a b : List Bit) (alike_ab : Alike a b) where
  net_turn : (i n na nb k l : ℕ) (xs ys : List Bit) → i < length a → slice_get a i ≡ Some (bits.Net k) → slice_get b i ≡ Some (bits.Net l) → Before a b i n → InOrder n (bits.Net k ∷ xs) na → InOrder n (bits.Net l ∷ ys) nb
      → ((m : ℕ) → Before a b (suc i) m → InOrder m xs na → InOrder m ys nb → Equal xs ys na nb) → Equal (bits.Net k ∷ xs) (bits.Net l ∷ ys) na nb
  net_turn i n na nb k l xs ys h at too p (inl (low, ra)) ob rec =
      let q = p.nets k low in
      let was : slice_get b q.0 ≡ Some (bits.Net k) = sym (p.equal q.0 q.1) ∙ q.2 in
      let e : k ≡ l = same_net k l (sym was ∙ alike_ab.same q.0 i k (omega (arith, h, q.1)) h q.2 at ∙ too) in
      elim ob [
        | inl (_, rb) ↦ let r = rec n (old_more a b i n (at ∙ ap (λ m. Some (bits.Net m)) e ∙ sym too) p) ra rb in (ap (λ m. bits.Net m ∷ xs) e ∙ ap (λ (zs : List Bit). bits.Net l ∷ zs) r.0, r.1)
        | inr (new, _) ↦ absurd (omega (arith, e, low, new))
      ]
  net_turn i n na nb k l xs ys h at too p (inr (new, ra)) ob rec =
      elim ob [
        | inl (low, _) ↦
            let q = p.nets l low in
            let was : slice_get b q.0 ≡ Some (bits.Net l) = sym (p.equal q.0 q.1) ∙ q.2 in
            let e : l ≡ k = same_net l k (sym q.2 ∙ alike_ab.back q.0 i l (omega (arith, h, q.1)) h was too ∙ at) in
            absurd (omega (arith, e, low, new))
        | inr (fresh, rb) ↦
            let e : k ≡ l = new ∙ sym fresh in
            let r = rec (suc n) (new_more a b i n (at ∙ ap (λ m. Some (bits.Net m)) e ∙ sym too) (at ∙ ap (λ m. Some (bits.Net m)) new) p) ra rb in
            (ap (λ m. bits.Net m ∷ xs) e ∙ ap (λ (zs : List Bit). bits.Net l ∷ zs) r.0, r.1)
      ]

  -- what is left of the lists from i on
  abbrev From : ℕ → List Bit → List Bit → Type 0
  From i xs whole = (k : ℕ) → slice_get xs k ≡ slice_get whole (i + k)

  from_next : (i : ℕ) (x : Bit) (xs whole : List Bit) → From i (x ∷ xs) whole → From (suc i) xs whole
  from_next i x xs whole f k = let e : i + suc k ≡ suc i + k = omega arith in f (suc k) ∙ ap (slice_get whole) e

  from_here : (i : ℕ) (x : Bit) (xs whole : List Bit) → From i (x ∷ xs) whole → slice_get whole i ≡ Some x
  from_here i x xs whole f = let e : i ≡ i + 0 = omega arith in ap (slice_get whole) e ∙ sym (f 0)

  same_from : (xs ys : List Bit) (i n na nb : ℕ) → i + length xs ≡ length a → length xs ≡ length ys → From i xs a → From i ys b → Before a b i n → InOrder n xs na → InOrder n ys nb → Equal xs ys na nb
  same_from [] [] i n na nb long same fa fb p oa ob = (refl, oa ∙ sym ob)
  same_from [] (y ∷ ys) i n na nb long same fa fb p oa ob = absurd (omega (arith, same))
  same_from (x ∷ xs) [] i n na nb long same fa fb p oa ob = absurd (omega (arith, same))
  same_from (bits.Zero ∷ xs) (y ∷ ys) i n na nb long same fa fb p oa ob =
      let at = from_here i bits.Zero xs a fa in
      let too = alike_ab.zero_too i (omega (arith, long)) at in
      let is : bits.Zero ≡ y = same_Some bits.Zero y (sym too ∙ from_here i y ys b fb) in
      let rb : InOrder n ys nb = subst (λ (z : Bit). InOrder n (z ∷ ys) nb) (sym is) ob in
      let r = same_from xs ys (suc i) n na nb (omega (arith, long)) (omega (arith, same)) (from_next i bits.Zero xs a fa) (from_next i y ys b fb) (old_more a b i n (at ∙ sym too) p) oa rb in
      (ap (λ (z : Bit). z ∷ xs) is ∙ ap (λ (zs : List Bit). y ∷ zs) r.0, r.1)
  same_from (bits.One ∷ xs) (y ∷ ys) i n na nb long same fa fb p oa ob =
      let at = from_here i bits.One xs a fa in
      let too = alike_ab.one_too i (omega (arith, long)) at in
      let is : bits.One ≡ y = same_Some bits.One y (sym too ∙ from_here i y ys b fb) in
      let rb : InOrder n ys nb = subst (λ (z : Bit). InOrder n (z ∷ ys) nb) (sym is) ob in
      let r = same_from xs ys (suc i) n na nb (omega (arith, long)) (omega (arith, same)) (from_next i bits.One xs a fa) (from_next i y ys b fb) (old_more a b i n (at ∙ sym too) p) oa rb in
      (ap (λ (z : Bit). z ∷ xs) is ∙ ap (λ (zs : List Bit). y ∷ zs) r.0, r.1)
  same_from (bits.Net k ∷ xs) (y ∷ ys) i n na nb long same fa fb p oa ob =
      let at = from_here i (bits.Net k) xs a fa in
      let here : i < length a = omega (arith, long) in
      let m = alike_ab.net_too i k here at in
      let is : bits.Net m.0 ≡ y = same_Some (bits.Net m.0) y (sym m.1 ∙ from_here i y ys b fb) in
      let o : InOrder n (bits.Net m.0 ∷ ys) nb = subst (λ (z : Bit). InOrder n (z ∷ ys) nb) (sym is) ob in
      let r = net_turn i n na nb k m.0 xs ys here at m.1 p oa o (λ q before ra rb. same_from xs ys (suc i) q na nb (omega (arith, long)) (omega (arith, same)) (from_next i (bits.Net k) xs a fa) (from_next i y ys b fb) before ra rb) in
      (r.0 ∙ ap (λ (z : Bit). z ∷ ys) is, r.1)

pub one_solution : (t : List Link) (a b : List Bit) (k l : ℕ) → OwnEnds t → Within t → HasNoRing t → length a ≡ length t → length b ≡ length t → Solves t a → InOrder 0 a k → Solves t b → InOrder 0 b l → (a ≡ b) × (k ≡ l)
one_solution t a b k l own w none la lb sa oa sb ob =
    same_from a b (alike t own w none a b la sa sb) a b 0 0 k l (omega arith) (la ∙ sym lb) (λ j. let e : j ≡ 0 + j = omega arith in ap (slice_get a) e) (λ j. let e : j ≡ 0 + j = omega arith in ap (slice_get b) e)
    (record { equal = λ j h. absurd (omega (arith, h)); nets = λ j h. absurd (omega (arith, h)) }) oa ob
