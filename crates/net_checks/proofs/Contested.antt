-- The wire with a bit that is joined with one that is driven twice.
use Rattle.std.proofs.Common.{◌≡◌, ◌⊎◌, inl, inr, ℕ, ◌+◌, ◌<◌, ◌≤◌, Bool, false, ◌||◌, ◌&&◌, cond, List, [], ◌∷◌, map, length, Some, refl, sym, ap, ◌∙◌, arith}
use Rattle.std.specs.Prelude.{nat_eq, slice_get}
use Rattle.std.specs.List.{list_any, range_with_len}
use Rattle.std.proofs.lemmas.Bool.{cases_lt}
use Rattle.std.proofs.lemmas.List.{get_or_past}
use Rattle.std.proofs.lemmas.List.FromFn.{get_or-map-range_with_len}
use Rattle.std.proofs.lemmas.Option.{slice_get-get_or}
use Rattle.rtlil_text.specs.declared.doc.Item.{Item}
use Rattle.rtlil_text.specs.declared.doc.Item.TheVariants as item
use Rattle.net_wires.specs.declared.following.Followed.{Followed}
use Rattle.net_wires.specs.declared.link.Link.{Link}
use Rattle.net_wires.specs.declared.link.Link.TheVariants.{Zero, One, End, To}
use Rattle.net_wires.specs.Doubling.{Within}
use Rattle.net_wires.specs.Spans.{wire_bits}
use Rattle.net_wires.specs.Ties.{Circles, Follows, Leads, walk}
use Rattle.net_wires.proofs.Saying.{one_end}
use Rattle.net_wires.proofs.Walks.{comes_round, kind, rings_last, walk_end, walk_more}
use Rattle.net_checks.specs.Driven.{are_joined, end_of, is_joined_with, is_one_end}
use Rattle.net_checks.specs.Joined.{AreJoined, end_at, HasEnds}
use Rattle.net_checks.specs.Marks.{is_marked, wire_with}
use Rattle.net_checks.proofs.Ranges.{any_same, any_same_from}

-- ---- ends

-- after as many connects as there are places the end is reached
pub end_is : (t : List Link) (p : ℕ) (e : Link) → Within t → p < length t → Leads t (To p) e → end_of t p ≡ e
end_is t p e w h l =
    elim (kind (end_of t p)) [
      | inl ended ↦ one_end t (To p) (end_of t p) e (length t, refl, ended) l
      | inr (k, is) ↦
          let n = l.0 in
          let order : length t + n ≡ n + length t = omega arith in
          let there : walk t n (To k) ≡ e =
          ap (walk t n) (sym is) ∙ sym (walk_more t (length t) n (To p)) ∙ ap (λ m. walk t m (To p)) order ∙ walk_more t n (length t) (To p) ∙ ap (walk t (length t)) l.1 ∙ walk_end t (length t) e l.2 in
          absurd (rings_last t k (comes_round t (length t) p k w h (omega arith) is) e (n, there, l.2))
    ]

-- and a place that leads onto a ring has none
pub no_end : (t : List Link) (p j : ℕ) → Circles t p j → (k : ℕ) × (end_of t p ≡ To k)
no_end t p j c =
    elim (kind (end_of t p)) [
      | inr found ↦ found
      | inl ended ↦
          let n = c.0 in
          let order : n + length t ≡ length t + n = omega arith in
          let there : walk t (length t) (To j) ≡ end_of t p =
          ap (walk t (length t)) (sym c.1) ∙ sym (walk_more t n (length t) (To p)) ∙ ap (λ m. walk t m (To p)) order ∙ walk_more t (length t) n (To p) ∙ walk_end t n (end_of t p) ended in
          absurd (rings_last t j c.2 (end_of t p) (length t, there, ended))
    ]

-- one end, or none of both
abbrev AreAlike : Link → Link → Type 0
AreAlike x y = (x ≡ y) ⊎ (((j : ℕ) × (x ≡ To j)) × ((k : ℕ) × (y ≡ To k)))

never : (x : Link) (j k : ℕ) → is_one_end x (To j) ≡ is_one_end x (To k)
never (End a) j k = refl
never Zero j k = refl
never One j k = refl
never (To a) j k = refl

second : (x y z : Link) → AreAlike y z → is_one_end x y ≡ is_one_end x z
second x y z (inl e) = ap (is_one_end x) e
second x y z (inr ((j, a), (k, b))) = ap (is_one_end x) a ∙ never x j k ∙ sym (ap (is_one_end x) b)

first : (x y z : Link) → AreAlike x z → is_one_end x y ≡ is_one_end z y
first x y z (inl e) = ap (λ w. is_one_end w y) e
first x y z (inr ((j, a), (k, b))) = ap (λ w. is_one_end w y) a ∙ sym (ap (λ w. is_one_end w y) b)

alike : (t : List Link) (f : Followed) (p : ℕ) → Within t → Follows t f → p < length t → AreAlike (end_at f.ends p) (end_of t p)
alike t f p w fs h =
    let at : slice_get f.ends p ≡ Some (end_at f.ends p) = slice_get-get_or f.ends p Zero (omega (arith, h, fs.long)) in
    elim (kind (end_at f.ends p)) [
      | inl ended ↦ inl (sym (end_is t p (end_at f.ends p) w h (fs.leads p (end_at f.ends p) at ended)))
      | inr (j, is) ↦ inr ((j, is), no_end t p j (fs.circles p j (at ∙ ap Some is)))
    ]

zero_no_end : (e : ℕ) → Zero ≡ End e → ⊥
zero_no_end e h = cc

pub has_ends : (t : List Link) (f : Followed) → Within t → Follows t f → HasEnds t f.ends
has_ends t f w fs = record {
  long = fs.long;
  inside = λ p e is. elim (cases_lt p (length f.ends)) [
    | inl h ↦ let r : e < length t = fs.inside p (End e) (slice_get-get_or f.ends p Zero h ∙ ap Some is) in omega (arith, r, fs.long)
    | inr h ↦ absurd (zero_no_end e (sym (get_or_past f.ends p Zero h) ∙ is))
  ];
  joins = λ p q hp hq.
      first (end_at f.ends p) (end_at f.ends q) (end_of t p) (alike t f p w fs hp) ∙ second (end_of t p) (end_at f.ends q) (end_of t q) (alike t f q w fs hq);
}

-- ---- wires

pub wire_same : (f g : ℕ → Bool) (n from : ℕ) (items : List Item) → ((p : ℕ) → p < n → f p ≡ g p) → from + wire_bits items ≤ n → wire_with f from items ≡ wire_with g from items
wire_same f g n from [] h le = refl
wire_same f g n from (item.Param p ∷ is) h le = wire_same f g n from is h le
wire_same f g n from (item.Wire w ∷ is) h le =
    ap (λ b. cond b (Some w.name) (wire_with f (from + w.width) is)) (any_same_from f g from w.width (λ q lo hi. h q (omega (arith, hi, le))))
    ∙ ap (λ o. cond (list_any g (range_with_len from w.width)) (Some w.name) o) (wire_same f g n (from + w.width) is h (omega (arith, le)))
wire_same f g n from (item.Mem m ∷ is) h le = wire_same f g n from is h le
wire_same f g n from (item.Cell c ∷ is) h le = wire_same f g n from is h le
wire_same f g n from (item.Connect l r ∷ is) h le = wire_same f g n from is h le

-- marks of what is so, and ends of places, give what is joined with it
pub joined_same : (t ends : List Link) (so : ℕ → Bool) (marks found : List Bool) (n p : ℕ) → HasEnds t ends → n ≡ length t → marks ≡ map so (range_with_len 0 n) → AreJoined marks ends found → p < n
    → is_marked found p ≡ is_joined_with (end_of t) so n p
joined_same t ends so marks found n p he all is a h =
    let all_ends : length ends ≡ n = he.long ∙ sym all in
    let mark_at : (q : ℕ) → q < n → is_marked marks q ≡ so q =
    λ q hq. ap (λ (ms : List Bool). is_marked ms q) is ∙ get_or-map-range_with_len so 0 n q q false hq (omega arith) in
    a.each p (omega (arith, h, all_ends)) ∙ ap (λ k. is_joined_with (end_at ends) (is_marked marks) k p) all_ends
    ∙ any_same (λ q. is_marked marks q && are_joined (end_at ends) p q) (λ q. so q && are_joined (end_of t) p q) n
    (λ q hq. ap (λ b. b && are_joined (end_at ends) p q) (mark_at q hq) ∙ ap (λ b. so q && (nat_eq p q || b)) (he.joins p q (omega (arith, h, all)) (omega (arith, hq, all))))
