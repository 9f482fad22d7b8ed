-- Connects among the first places: more places change nothing for these, and are their own ends.
use Rattle.std.proofs.Common.{◌≡◌, inl, inr, ℕ, zero, suc, ◌<◌, ◌≤◌, List, [], ◌∷◌, length, get_or, Some, refl, sym, ap, ◌∙◌, arith}
use Rattle.std.specs.Prelude.{slice_get, slice_set}
use Rattle.std.proofs.lemmas.Bool.{cases_eq}
use Rattle.std.proofs.lemmas.List.{length-set}
use Rattle.std.proofs.lemmas.Option.{get_or_from_slice_get, slice_get-get_or}
use Rattle.net_wires.specs.declared.link.Link.{Link}
use Rattle.net_wires.specs.declared.link.Link.TheVariants as links
use Rattle.net_wires.specs.declared.source.Pair.{Pair}
use Rattle.net_wires.specs.declared.source.Source.{Source}
use Rattle.net_wires.specs.declared.source.Source.TheVariants as source
use Rattle.net_wires.specs.Links.{IsWithin, link_of, links_of, own, PairsWithin, tie_all, tie_left, tie_pair}
use Rattle.net_wires.specs.Ties.{IsInside, Leads, onward, walk}
use Rattle.net_wires.proofs.Driven.{range_at}
use Rattle.net_wires.proofs.Places.{set_other, set_same}
use Rattle.net_wires.proofs.Ready.{length_links, links_in}

abbrev AgreeBelow : ℕ → List Link → List Link → Type 0
AgreeBelow n t s = (p : ℕ) → p < n → slice_get t p ≡ slice_get s p

set_here : (t : List Link) (p : ℕ) (x : Link) → p < length t → slice_get (slice_set t p x) p ≡ Some x
set_here t p x h = set_same t p (get_or t p x) x (slice_get-get_or t p x h)

set_agrees : (n : ℕ) (t s : List Link) (l : ℕ) (x : Link) → l < length t → l < length s → AgreeBelow n t s → AgreeBelow n (slice_set t l x) (slice_set s l x)
set_agrees n t s l x ht hs a p h =
    elim (cases_eq p l) [
      | inl e ↦ ap (λ k. slice_get (slice_set t l x) k) e ∙ set_here t l x ht ∙ sym (set_here s l x hs) ∙ ap (λ k. slice_get (slice_set s l x) k) (sym e)
      | inr ne ↦ set_other t l p x ne ∙ a p h ∙ sym (set_other s l p x ne)
    ]

tie_agrees : (n : ℕ) (t s : List Link) (l r : Source) → n ≤ length t → n ≤ length s → IsWithin n l → AgreeBelow n t s → AgreeBelow n (tie_left t l r) (tie_left s l r)
tie_agrees n t s source.Zero r ht hs w a = a
tie_agrees n t s source.One r ht hs w a = a
tie_agrees n t s source.Loose r ht hs w a = a
tie_agrees n t s (source.At l) r ht hs w a = set_agrees n t s l (link_of l r) (omega (arith, ht, w)) (omega (arith, hs, w)) a

tie_long : (t : List Link) (l r : Source) → length (tie_left t l r) ≡ length t
tie_long t source.Zero r = refl
tie_long t source.One r = refl
tie_long t source.Loose r = refl
tie_long t (source.At l) r = length-set t l (link_of l r)

ties_agree : (n : ℕ) (t s : List Link) (ps : List Pair) → n ≤ length t → n ≤ length s → PairsWithin n ps → AgreeBelow n t s → AgreeBelow n (tie_all t ps) (tie_all s ps)
ties_agree n t s [] ht hs w a = a
ties_agree n t s (q ∷ qs) ht hs w a =
    let more_t = tie_long t q.left q.right in
    let more_s = tie_long s q.left q.right in
    ties_agree n (tie_pair t q) (tie_pair s q) qs (omega (arith, ht, more_t)) (omega (arith, hs, more_s)) w.1.1 (tie_agrees n t s q.left q.right ht hs w.0 a)

own_long : (n : ℕ) → n ≤ length (own n)
own_long n = let e = length_links n [] in omega (arith, e)

pub same_front : (n m : ℕ) (ps : List Pair) → n ≤ m → PairsWithin n ps → (p : ℕ) → p < n → slice_get (links_of m ps) p ≡ slice_get (links_of n ps) p
same_front n m ps le w p h =
    let long_n = own_long n in
    let long_m = own_long m in
    ties_agree n (own m) (own n) ps (omega (arith, le, long_m)) long_n w (λ q k. range_at links.End m q (omega (arith, k, le)) ∙ sym (range_at links.End n q k)) p h

-- ---- places behind

tie_past : (n p : ℕ) (t : List Link) (l r : Source) → n ≤ p → IsWithin n l → slice_get (tie_left t l r) p ≡ slice_get t p
tie_past n p t source.Zero r le w = refl
tie_past n p t source.One r le w = refl
tie_past n p t source.Loose r le w = refl
tie_past n p t (source.At l) r le w = set_other t l p (link_of l r) (λ e. omega (arith, e, le, w))

ties_past : (n p : ℕ) (t : List Link) (ps : List Pair) → n ≤ p → PairsWithin n ps → slice_get (tie_all t ps) p ≡ slice_get t p
ties_past n p t [] le w = refl
ties_past n p t (q ∷ qs) le w = ties_past n p (tie_pair t q) qs le w.1.1 ∙ tie_past n p t q.left q.right le w.0

pub past_front : (n m : ℕ) (ps : List Pair) (p : ℕ) → PairsWithin n ps → n ≤ p → p < m → slice_get (links_of m ps) p ≡ Some (links.End p)
past_front n m ps p w le h = ties_past n p (own m) ps le w ∙ range_at links.End m p h

-- ---- walks

module _ (n m : ℕ) (ps : List Pair) (le : n ≤ m) (w : PairsWithin n ps) where
  abbrev small : List Link
  small = links_of n ps

  abbrev big : List Link
  big = links_of m ps

  at_small : (p : ℕ) → p < n → slice_get small p ≡ Some (get_or small p (links.To p))
  at_small p h = let long = length_links n ps in slice_get-get_or small p (links.To p) (omega (arith, h, long))

  onward_same : (x : Link) → IsInside n x → onward big x ≡ onward small x
  onward_same links.Zero h = refl
  onward_same links.One h = refl
  onward_same (links.End p) h = refl
  onward_same (links.To p) h = get_or_from_slice_get big p (get_or small p (links.To p)) (links.To p) (same_front n m ps le w p h ∙ at_small p h)

  onward_inside : (x : Link) → IsInside n x → IsInside n (onward small x)
  onward_inside links.Zero h = tt
  onward_inside links.One h = tt
  onward_inside (links.End p) h = h
  onward_inside (links.To p) h = links_in n ps w p (get_or small p (links.To p)) (at_small p h)

  walk_same : (k : ℕ) (x : Link) → IsInside n x → walk big k x ≡ walk small k x
  walk_same zero x h = refl
  walk_same (suc k) x h = ap (walk big k) (onward_same x h) ∙ walk_same k (onward small x) (onward_inside x h)

  pub leads_up : (p : ℕ) (e : Link) → p < n → Leads small (links.To p) e → Leads big (links.To p) e
  leads_up p e h l = (l.0, walk_same l.0 (links.To p) h ∙ l.1, l.2)

  pub leads_down : (p : ℕ) (e : Link) → p < n → Leads big (links.To p) e → Leads small (links.To p) e
  leads_down p e h l = (l.0, sym (walk_same l.0 (links.To p) h) ∙ l.1, l.2)
