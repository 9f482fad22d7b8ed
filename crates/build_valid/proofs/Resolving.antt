-- Bits that solve connects without rings are those that following gives.
use Rattle.std.proofs.Common.{◌≡◌, inl, inr, ℕ, zero, suc, ◌<◌, true, List, [], ◌∷◌, ◌++◌, map, length, Option, Some, None, refl, sym, ap, ◌∙◌, subst, arith}
use Rattle.std.specs.Prelude.{slice_get}
use Rattle.std.specs.List.{range_with_len}
use Rattle.std.proofs.lemmas.List.{length-map}
use Rattle.std.proofs.lemmas.List.FromFn.{length-map-range_with_len}
use Rattle.std.proofs.lemmas.Option.{same_Some, slice_get_within}
use Rattle.net_core.specs.declared.bits.Bit.{Bit}
use Rattle.net_core.specs.declared.bits.Bit.TheVariants as bits
use Rattle.net_wires.specs.declared.link.Link.{Link}
use Rattle.net_wires.specs.declared.link.Link.TheVariants as links
use Rattle.net_wires.specs.declared.source.Pair.{Pair}
use Rattle.net_wires.specs.Doubling.{Within}
use Rattle.net_wires.specs.Links.{links_of, PairsWithin}
use Rattle.net_wires.specs.Nets.{HasNoRing, InOrder, Resolves, Solves}
use Rattle.net_wires.specs.Numbers.{appear, find, IsBit, is_net, is_one, is_zero, nets, Numbered, unless, with_end}
use Rattle.net_wires.specs.Ties.{is_end, Leads, walk}
use Rattle.net_wires.proofs.Driven.{range_at}
use Rattle.net_wires.proofs.Joins.{found_last, kept_appear}
use Rattle.net_wires.proofs.Ordering.{in_order}
use Rattle.net_wires.proofs.Ready.{length_links, links_own, links_within}
use Rattle.net_wires.proofs.Saying.{says}
use Rattle.net_wires.proofs.Solving as solving
use Rattle.net_wires.proofs.Unique.{one_solution, OwnEnds}
use Rattle.net_wires.proofs.Walks.{comes_round, kind, lands}

-- ---- numbers of ends

found_here : (seen : List ℕ) (es : List Link) (p : ℕ) (o : Option ℕ) → find seen p ≡ o → (j : ℕ) × (find (appear (unless o seen (seen ++ p ∷ [])) es) p ≡ Some j)
found_here seen es p (Some j) was = (j, kept_appear seen es p j was)
found_here seen es p None was = (length seen, kept_appear (seen ++ p ∷ []) es p (length seen) (found_last seen p was))

found_there : (seen : List ℕ) (es : List Link) (k p : ℕ) → slice_get es k ≡ Some (links.End p) → (j : ℕ) × (find (appear seen es) p ≡ Some j)
found_there seen [] k p at = absurd cc
found_there seen (e ∷ es) zero p at =
    subst (λ (x : Link). (j : ℕ) × (find (appear (with_end seen x) es) p ≡ Some j)) (sym (same_Some e (links.End p) at)) (found_here seen es p (find seen p) refl)
found_there seen (e ∷ es) (suc k) p at = found_there (with_end seen e) es k p at

abbrev net_or : Option ℕ → Bit
net_or None = bits.Zero
net_or (Some k) = bits.Net k

-- the bit of an end
abbrev bit_for : List ℕ → Link → Bit
bit_for seen links.Zero = bits.Zero
bit_for seen links.One = bits.One
bit_for seen (links.End p) = net_or (find seen p)
bit_for seen (links.To p) = bits.Zero

bit_is : (seen : List ℕ) (e : Link) → is_end e ≡ true → ((p : ℕ) → e ≡ links.End p → (j : ℕ) × (find seen p ≡ Some j)) → IsBit seen e (bit_for seen e)
bit_is seen links.Zero h f = is_zero
bit_is seen links.One h f = is_one
bit_is seen (links.End p) h f = let there = f p refl in subst (λ (o : Option ℕ). IsBit seen (links.End p) (net_or o)) (sym there.1) (is_net p there.0 there.1)
bit_is seen (links.To p) h f = absurd cc

mapped_at : {X Y : Type 0} (f : X → Y) (xs : List X) (k : ℕ) (x : X) → slice_get xs k ≡ Some x → slice_get (map f xs) k ≡ Some (f x)
mapped_at f [] k x e = absurd cc
mapped_at f (y ∷ ys) zero x e = ap (λ z. Some (f z)) (same_Some y x e)
mapped_at f (y ∷ ys) (suc k) x e = mapped_at f ys k x e

numbered : (ends : List Link) → ((k : ℕ) (e : Link) → slice_get ends k ≡ Some e → is_end e ≡ true) → Numbered ends (map (bit_for (nets ends)) ends) (length (nets ends))
numbered ends stop = record {
  long = length-map ends (bit_for (nets ends));
  each = λ k e b at is.
      let here : bit_for (nets ends) e ≡ b = same_Some (bit_for (nets ends) e) b (sym (mapped_at (bit_for (nets ends)) ends k e at) ∙ is) in
      subst (IsBit (nets ends) e) here (bit_is (nets ends) e (stop k e at) (λ p same. found_there [] ends k p (at ∙ ap (λ x. Some x) same)));
  all = refl;
}

-- ---- ends of places

module _ (t : List Link) (within : Within t) (none : HasNoRing t) where
  stops : (i : ℕ) → i < length t → is_end (walk t (length t) (links.To i)) ≡ true
  stops i h =
      elim (kind (walk t (length t) (links.To i))) [
        | inl is ↦ is
        | inr (j, is) ↦ absurd (none j (lands t (length t) i j within h is) (comes_round t (length t) i j within h (omega arith) is))
      ]

  abbrev far : ℕ → Link
  far i = walk t (length t) (links.To i)

  abbrev ends_of : List Link
  ends_of = map far (range_with_len 0 (length t))

  ends_long : length ends_of ≡ length t
  ends_long = length-map-range_with_len far 0 (length t)

  end_is : (i : ℕ) (e : Link) → slice_get ends_of i ≡ Some e → (i < length t) × (far i ≡ e)
  end_is i e at =
      let h : i < length t = omega (arith, slice_get_within ends_of i e at, ends_long) in
      (h, same_Some (far i) e (sym (range_at far (length t) i h) ∙ at))

  leads : (i : ℕ) (e : Link) → slice_get ends_of i ≡ Some e → Leads t (links.To i) e
  leads i e at = let is = end_is i e at in (length t, is.1, subst (λ (x : Link). is_end x ≡ true) is.1 (stops i is.0))

  following : Resolves t (map (bit_for (nets ends_of)) ends_of) (length (nets ends_of))
  following = record { ends = ends_of; long = ends_long; leads = leads; numbered = numbered ends_of (λ k e at. (leads k e at).2) }

resolved_order : (t : List Link) (new : List Bit) (count : ℕ) → Resolves t new count → InOrder 0 new count
resolved_order t new count r =
    subst (λ (k : ℕ). InOrder 0 new k) (sym r.numbered.all)
    (in_order [] r.ends new r.numbered.long (λ k e at. (r.leads k e at).2) (λ k e b he hb. says (nets r.ends) e b (r.numbered.each k e b he hb)))

by_order : (t : List Link) (new : List Bit) (count : ℕ) (a : List Bit) (k : ℕ) → OwnEnds t → Within t → HasNoRing t → length new ≡ length t → Solves t new → InOrder 0 new count → Resolves t a k → Resolves t new count
by_order t new count a k own within none long solves order r =
    let long_too : length a ≡ length t = r.numbered.long ∙ r.long in
    let same = one_solution t a new k count own within none long_too long (solving.solves t r.ends a k r.long r.leads r.numbered) (resolved_order t a k r) solves order in
    subst (Resolves t new) same.1 (subst (λ (bs : List Bit). Resolves t bs k) same.0 r)

pub resolving : (n : ℕ) (ps : List Pair) (new : List Bit) (count : ℕ) → PairsWithin n ps → HasNoRing (links_of n ps) → length new ≡ n → Solves (links_of n ps) new → InOrder 0 new count → Resolves (links_of n ps) new count
resolving n ps new count w none long solves order =
    let t = links_of n ps in
    let inside = links_within n ps w in
    by_order t new count _ _ (links_own n ps) inside none (long ∙ sym (length_links n ps)) solves order (following t inside none)
