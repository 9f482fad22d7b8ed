-- A table of connects is fit to be followed, and what is left has ends.
use Rattle.std.proofs.Common.{◌≡◌, ◌⊎◌, inl, inr, ℕ, zero, suc, ◌+◌, ◌^◌, ◌<◌, ◌≤◌, Bool, true, false, cond, List, [], ◌∷◌, map, length, get_or, replicate, Some, refl, sym, ap, ◌∙◌, subst, arith}
use Rattle.std.specs.Prelude.{slice_get, slice_set}
use Rattle.std.specs.List.{list_all, list_any, range_with_len}
use Rattle.std.proofs.lemmas.List.{length-set, get_or_past}
use Rattle.std.proofs.lemmas.List.FromFn.{length-map-range_with_len}
use Rattle.std.proofs.lemmas.Bool.{cases_eq, cases_lt}
use Rattle.std.proofs.lemmas.Option.{same_Some, slice_get-get_or}
use Rattle.net_wires.specs.declared.following.Followed.{Followed}
use Rattle.net_wires.specs.declared.link.Link.{Link}
use Rattle.net_wires.specs.declared.link.Link.TheVariants as links
use Rattle.net_wires.specs.declared.source.Pair.{Pair}
use Rattle.net_wires.specs.declared.source.Source.{Source}
use Rattle.net_wires.specs.declared.source.Source.TheVariants as source
use Rattle.net_wires.specs.Doubling.{mark_all, power, Tied, Within}
use Rattle.net_wires.specs.Links.{own, link_of, tie_left, tie_pair, tie_all, links_of, IsWithin, PairsWithin}
use Rattle.net_wires.specs.declared.breach.BuildCode.TheVariants as code
use Rattle.net_wires.specs.declared.breach.Stop.{Stop}
use Rattle.net_wires.specs.declared.breach.Stop.TheVariants as stop
use Rattle.net_wires.specs.Finds.{breach, Stops}
use Rattle.net_wires.specs.Nets.{ring_breaches}
use Rattle.net_wires.specs.Numbers.{EndsWithin}
use Rattle.net_wires.specs.Ties.{is_end, onward, walk, AllInside, Follows, IsInside, Marks}
use Rattle.net_wires.proofs.Marking.{on_ring, marks_right}
use Rattle.net_wires.proofs.Places.{set_other}
use Rattle.net_wires.proofs.Walks.{at_power, length_power}

own_from : (a k n : ℕ) → a + k ≤ n → AllInside n (map links.End (range_with_len a k))
own_from a zero n h i x at = cc
own_from a (suc k) n h zero x at = subst (IsInside n) (same_Some (links.End a) x at) (omega (arith, h))
own_from a (suc k) n h (suc i) x at = own_from (a + 1) k n (omega (arith, h)) i x at

pub set_is : {X : Type 0} (xs : List X) (i k : ℕ) (x y : X) → slice_get (slice_set xs i y) k ≡ Some x → (y ≡ x) ⊎ (slice_get xs k ≡ Some x)
set_is [] i k x y h = cc
set_is (a ∷ xs) zero zero x y h = inl (same_Some y x h)
set_is (a ∷ xs) zero (suc k) x y h = inr h
set_is (a ∷ xs) (suc i) zero x y h = inr h
set_is (a ∷ xs) (suc i) (suc k) x y h = set_is xs i k x y h

link_in : (n l : ℕ) (r : Source) → l < n → IsWithin n r → IsInside n (link_of l r)
link_in n l source.Zero h k = tt
link_in n l source.One h k = tt
link_in n l source.Loose h k = h
link_in n l (source.At p) h k = k

tie_in : (n : ℕ) (t : List Link) (l r : Source) → IsWithin n l → IsWithin n r → AllInside n t → AllInside n (tie_left t l r)
tie_in n t source.Zero r h k all = all
tie_in n t source.One r h k all = all
tie_in n t source.Loose r h k all = all
tie_in n t (source.At l) r h k all = λ i x at. elim (set_is t l i x (link_of l r) at) [ inl e ↦ subst (IsInside n) e (link_in n l r h k) | inr old ↦ all i x old ]

ties_in : (n : ℕ) (t : List Link) (ps : List Pair) → PairsWithin n ps → AllInside n t → AllInside n (tie_all t ps)
ties_in n t [] w all = all
ties_in n t (p ∷ ps) w all = ties_in n (tie_pair t p) ps w.1.1 (tie_in n t p.left p.right w.0 w.1.0 all)

length_tie : (t : List Link) (l r : Source) → length (tie_left t l r) ≡ length t
length_tie t source.Zero r = refl
length_tie t source.One r = refl
length_tie t source.Loose r = refl
length_tie t (source.At l) r = length-set t l (link_of l r)

length_ties : (t : List Link) (ps : List Pair) → length (tie_all t ps) ≡ length t
length_ties t [] = refl
length_ties t (p ∷ ps) = length_ties (tie_pair t p) ps ∙ length_tie t p.left p.right

pub length_links : (n : ℕ) (ps : List Pair) → length (links_of n ps) ≡ n
length_links n ps = length_ties (own n) ps ∙ length-map-range_with_len links.End 0 n

pub links_in : (n : ℕ) (ps : List Pair) → PairsWithin n ps → AllInside n (links_of n ps)
links_in n ps w = ties_in n (own n) ps w (own_from 0 n n (omega arith))

pub links_within : (n : ℕ) (ps : List Pair) → PairsWithin n ps → Within (links_of n ps)
links_within n ps w i j at = let h : j < n = links_in n ps w i (links.To j) at in omega (arith, h, length_links n ps)

onward_to : (n : ℕ) (t : List Link) (p : ℕ) → AllInside n t → p < n → (p < length t) ⊎ (length t ≤ p) → IsInside n (get_or t p (links.To p))
onward_to n t p all h (inl lt) = all p (get_or t p (links.To p)) (slice_get-get_or t p (links.To p) lt)
onward_to n t p all h (inr le) = subst (IsInside n) (sym (get_or_past t p (links.To p) le)) h

onward_in : (n : ℕ) (t : List Link) (x : Link) → AllInside n t → IsInside n x → IsInside n (onward t x)
onward_in n t links.Zero all h = tt
onward_in n t links.One all h = tt
onward_in n t (links.End p) all h = h
onward_in n t (links.To p) all h = onward_to n t p all h (cases_lt p (length t))

map_in : (n : ℕ) (t xs : List Link) → AllInside n t → AllInside n xs → AllInside n (map (onward t) xs)
map_in n t [] all those i x at = cc
map_in n t (y ∷ ys) all those zero x at = subst (IsInside n) (same_Some (onward t y) x at) (onward_in n t y all (those 0 y refl))
map_in n t (y ∷ ys) all those (suc i) x at = map_in n t ys all (λ k z e. those (suc k) z e) i x at

pub power_in : (n : ℕ) (t : List Link) (r : ℕ) → AllInside n t → AllInside n (power t r)
power_in n t zero all = all
power_in n t (suc r) all = map_in n (power t r) (power t r) (power_in n t r all) (power_in n t r all)

-- ---- what following gives

inside_at : (n m : ℕ) (xs : List Link) → n ≡ m → AllInside n xs → AllInside m xs
inside_at n m xs e all = subst (λ (k : ℕ). AllInside k xs) e all

pub follows : (n : ℕ) (ps : List Pair) (r : List Link) (f : Followed) → n < 2 ^ 31 → PairsWithin n ps → Tied (links_of n ps) r → f.ends ≡ r → f.rings ≡ mark_all (replicate (length r) false) r → Follows (links_of n ps) f
follows n ps r f short w d is marks =
    let t = links_of n ps in
    let lt = length_links n ps in
    let inside = links_within n ps w in
    let small : length t < 2 ^ 32 = omega (arith, short, lt) in
    let at_ends : (i : ℕ) (e : Link) → slice_get f.ends i ≡ Some e → slice_get (power t d.rounds) i ≡ Some e = λ i e at. ap (λ (xs : List Link). slice_get xs i) (sym d.is ∙ sym is) ∙ at in
    let far : (i : ℕ) (e : Link) → slice_get f.ends i ≡ Some e → walk t (2 ^ d.rounds) (links.To i) ≡ e = λ i e at. at_power t d.rounds i e (at_ends i e at) in
    record {
      long = ap length (is ∙ d.is) ∙ length_power t d.rounds;
      leads = λ i e at h. (2 ^ d.rounds, far i e at, h);
      circles = λ i j at. (2 ^ d.rounds, far i (links.To j) at, on_ring t r d i j inside small (ap (λ (xs : List Link). slice_get xs i) (sym is) ∙ at));
      inside = inside_at n (length t) f.ends (sym lt) (subst (AllInside n) (sym (is ∙ d.is)) (power_in n t d.rounds (links_in n ps w)));
      rings = subst (Marks t) (sym marks) (marks_right t r d inside small);
    }

-- ---- without rings

-- nothing is marked
no_mark : (ms : List Bool) → list_any (λ on. on) ms ≡ false → (i : ℕ) → slice_get ms i ≡ Some true → ⊥
no_mark [] h i at = cc
no_mark (true ∷ ms) h i at = cc
no_mark (false ∷ ms) h zero at = let e = same_Some false true at in cc
no_mark (false ∷ ms) h (suc i) at = no_mark ms h i at

all_ends : (r : List Link) → ((k i : ℕ) → slice_get r k ≡ Some (links.To i) → ⊥) → list_all is_end r ≡ true
all_ends [] h = refl
all_ends (links.Zero ∷ r) h = all_ends r (λ k i at. h (suc k) i at)
all_ends (links.One ∷ r) h = all_ends r (λ k i at. h (suc k) i at)
all_ends (links.End p ∷ r) h = all_ends r (λ k i at. h (suc k) i at)
all_ends (links.To p ∷ r) h = absurd (h 0 p refl)

pub end_at : (r : List Link) (i : ℕ) (e : Link) → list_all is_end r ≡ true → slice_get r i ≡ Some e → is_end e ≡ true
end_at [] i e h at = cc
end_at (links.Zero ∷ r) zero e h at = ap is_end (sym (same_Some links.Zero e at))
end_at (links.One ∷ r) zero e h at = ap is_end (sym (same_Some links.One e at))
end_at (links.End p ∷ r) zero e h at = ap is_end (sym (same_Some (links.End p) e at))
end_at (links.To p ∷ r) i e h at = cc
end_at (links.Zero ∷ r) (suc i) e h at = end_at r i e h at
end_at (links.One ∷ r) (suc i) e h at = end_at r i e h at
end_at (links.End p ∷ r) (suc i) e h at = end_at r i e h at

pub ended : (t : List Link) (f : Followed) → Follows t f → list_any (λ on. on) f.rings ≡ false → list_all is_end f.ends ≡ true
ended t f d none =
    all_ends f.ends (λ k j at.
    let inside : j < length t = d.inside k (links.To j) at in
    let c = d.circles k j at in
    no_mark f.rings none j (d.rings.whole j inside c.2))

pub ends_within : (t : List Link) (f : Followed) → Follows t f → EndsWithin f.ends
ends_within t f d k p at = let h : p < length t = d.inside k (links.End p) at in omega (arith, h, d.long)

pub no_ring : (ms : List Bool) → list_any (λ on. on) ms ≡ false → ring_breaches ms ≡ []
no_ring ms h = ap (λ (b : Bool). cond b (breach code.CombLoop ∷ []) []) h

pub some_ring : (ms : List Bool) → list_any (λ on. on) ms ≡ true → (s : Stop) → s ≡ stop.Broken (breach code.CombLoop) → Stops s (ring_breaches ms)
some_ring ms h s e = subst (λ (x : Stop). Stops x (ring_breaches ms)) (sym e) ([], ap (λ (b : Bool). cond b (breach code.CombLoop ∷ []) []) h)

-- ---- each end is its own

abbrev end_number : Link → ℕ
end_number (links.End p) = p
end_number x = 0

abbrev OwnFrom : ℕ → List Link → Type 0
OwnFrom a t = (l p : ℕ) → slice_get t l ≡ Some (links.End p) → p ≡ a + l

own_range : (a n : ℕ) → OwnFrom a (map links.End (range_with_len a n))
own_range a zero l p at = cc
own_range a (suc n) zero p at = let e = same_Some (links.End a) (links.End p) at in omega (arith, ap end_number e)
own_range a (suc n) (suc l) p at = let r = own_range (a + 1) n l p at in omega (arith, r)

own_link : (l p : ℕ) (r : Source) → link_of l r ≡ links.End p → p ≡ l
own_link l p source.Zero e = cc
own_link l p source.One e = cc
own_link l p source.Loose e = sym (ap end_number e)
own_link l p (source.At q) e = cc

own_set : (t : List Link) (i : ℕ) (r : Source) → OwnFrom 0 t → OwnFrom 0 (slice_set t i (link_of i r))
own_set t i r o l p at =
    elim (cases_eq l i) [
      | inl e ↦ elim (set_is t i l (links.End p) (link_of i r) at) [ inl is ↦ let q = own_link i p r is in omega (arith, q, e) | inr old ↦ o l p old ]
      | inr ne ↦ o l p (sym (set_other t i l (link_of i r) ne) ∙ at)
    ]

own_tie : (t : List Link) (l r : Source) → OwnFrom 0 t → OwnFrom 0 (tie_left t l r)
own_tie t source.Zero r o = o
own_tie t source.One r o = o
own_tie t source.Loose r o = o
own_tie t (source.At l) r o = own_set t l r o

own_ties : (t : List Link) (ps : List Pair) → OwnFrom 0 t → OwnFrom 0 (tie_all t ps)
own_ties t [] o = o
own_ties t (p ∷ ps) o = own_ties (tie_pair t p) ps (own_tie t p.left p.right o)

pub links_own : (n : ℕ) (ps : List Pair) (l p : ℕ) → slice_get (links_of n ps) l ≡ Some (links.End p) → p ≡ l
links_own n ps l p at = let r = own_ties (own n) ps (own_range 0 n) l p at in omega (arith, r)
