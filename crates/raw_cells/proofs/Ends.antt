-- Connects followed far enough are at their end.
use Rattle.std.proofs.Common.{◌≡◌, inl, inr, ℕ, suc, ◌+◌, ◌<◌, Bool, true, List, [], ◌∷◌, ◌++◌, map, length, Some, refl, sym, ap, ◌∙◌, append_assoc, arith}
use Rattle.std.specs.Prelude.{slice_get}
use Rattle.std.specs.List.{range_with_len}
use Rattle.std.proofs.lemmas.Option.{slice_get_within}
use Rattle.net_wires.specs.declared.following.Followed.{Followed}
use Rattle.net_wires.specs.declared.link.Link.{Link}
use Rattle.net_wires.specs.declared.link.Link.TheVariants.{To}
use Rattle.net_wires.specs.declared.source.Pair.{Pair}
use Rattle.net_wires.specs.Doubling.{Within}
use Rattle.net_wires.specs.Links.{links_of, PairsWithin}
use Rattle.net_wires.specs.Ties.{Circles, Follows, is_end, Leads, walk}
use Rattle.net_wires.proofs.Ready.{links_within}
use Rattle.net_wires.proofs.Walks.{comes_round, kind, rings_last, walk_end, walk_more}
use Rattle.raw_cells.specs.Tied.{digits_of, end_bit, end_of, end_root, link_bits, link_roots}

-- two walks from one place, one behind the other
swapped : (t : List Link) (n m : ℕ) (x : Link) → walk t m (walk t n x) ≡ walk t n (walk t m x)
swapped t n m x = let e : n + m ≡ m + n = omega arith in sym (walk_more t n m x) ∙ ap (λ k. walk t k x) e ∙ walk_more t m n x

-- where a walk is that goes on behind an end
past_end : (t : List Link) (n m : ℕ) (x e : Link) → walk t n x ≡ e → is_end e ≡ true → walk t n (walk t m x) ≡ e
past_end t n m x e is end = swapped t m n x ∙ ap (walk t m) is ∙ walk_end t m e end

pub end_found : (t : List Link) (i : ℕ) (e : Link) → Within t → i < length t → Leads t (To i) e → end_of t i ≡ e
end_found t i e w h l =
    elim (kind (end_of t i)) [
      | inl end ↦ sym (walk_end t l.0 (end_of t i) end) ∙ past_end t l.0 (length t) (To i) e l.1 l.2
      | inr (j, is) ↦ absurd (rings_last t j (comes_round t (length t) i j w h (omega arith) is) e (l.0, ap (walk t l.0) (sym is) ∙ past_end t l.0 (length t) (To i) e l.1 l.2, l.2))
    ]

pub no_end : (t : List Link) (i j : ℕ) → Circles t i j → (k : ℕ) × (end_of t i ≡ To k)
no_end t i j c =
    elim (kind (end_of t i)) [
      | inl end ↦ absurd (rings_last t j c.2 (end_of t i) (length t, ap (walk t (length t)) (sym c.1) ∙ swapped t c.0 (length t) (To i) ∙ walk_end t c.0 (end_of t i) end, end))
      | inr r ↦ r
    ]

-- what is alike at all places of rings is told by what was followed
same_end : {X : Type 0} (g : Link → X) (t : List Link) (f : Followed) → ((a b : ℕ) → g (To a) ≡ g (To b)) → Within t → Follows t f → (i : ℕ) (x : Link) → slice_get f.ends i ≡ Some x → g x ≡ g (end_of t i)
same_end g t f alike w k i x at =
    let h : i < length t = omega (arith, slice_get_within f.ends i x at, k.long) in
    elim (kind x) [
      | inl end ↦ ap g (sym (end_found t i x w h (k.leads i x at end)))
      | inr (j, is) ↦ let r = no_end t i j (k.circles i j (at ∙ ap Some is)) in ap g is ∙ alike j r.0 ∙ ap g (sym r.1)
    ]

by_places : {X : Type 0} (g : Link → X) (h : ℕ → X) (a : ℕ) (xs : List Link) → ((i : ℕ) (x : Link) → slice_get xs i ≡ Some x → g x ≡ h (a + i)) → map g xs ≡ map h (range_with_len a (length xs))
by_places g h a [] all = refl
by_places g h a (x ∷ xs) all =
    let here : a + 0 ≡ a = omega arith in
    let rest = by_places g h (a + 1) xs (λ i y at. let e : a + suc i ≡ a + 1 + i = omega arith in all (suc i) y at ∙ ap h e) in
    ap (λ y. y ∷ map g xs) (all 0 x refl ∙ ap h here) ∙ ap (λ ys. h a ∷ ys) rest

pub ends_are : {X : Type 0} (g : Link → X) (t : List Link) (f : Followed) → ((a b : ℕ) → g (To a) ≡ g (To b)) → Within t → Follows t f → map g f.ends ≡ map (λ p. g (end_of t p)) (range_with_len 0 (length t))
ends_are g t f alike w k =
    by_places g (λ p. g (end_of t p)) 0 f.ends (λ i x at. let e : i ≡ 0 + i = omega arith in same_end g t f alike w k i x at ∙ ap (λ p. g (end_of t p)) e)
    ∙ ap (λ n. map (λ p. g (end_of t p)) (range_with_len 0 n)) k.long

pub two_behind : {X : Type 0} (xs ys zs whole : List X) (a b : X) → xs ≡ whole → ys ≡ xs ++ a ∷ [] → zs ≡ ys ++ b ∷ [] → zs ≡ whole ++ a ∷ b ∷ []
two_behind xs ys zs whole a b e f g = g ∙ ap (λ us. us ++ b ∷ []) (f ∙ ap (λ us. us ++ a ∷ []) e) ∙ append_assoc whole (a ∷ []) (b ∷ [])

-- the bits, and the clocks, at the ends of connects
pub bits_are : (n : ℕ) (ps : List Pair) (f : Followed) → PairsWithin n ps → Follows (links_of n ps) f → map end_bit f.ends ≡ link_bits (links_of n ps)
bits_are n ps f w k = ends_are end_bit (links_of n ps) f (λ a b. refl) (links_within n ps w) k

pub roots_are : (n : ℕ) (ps : List Pair) (f : Followed) (ds : List Bool) → PairsWithin n ps → Follows (links_of n ps) f → ds ≡ digits_of n ps → map (end_root n ds) f.ends ≡ link_roots (links_of n ps) n (digits_of n ps)
roots_are n ps f ds w k e = ap (λ es. map (end_root n es) f.ends) e ∙ ends_are (end_root n (digits_of n ps)) (links_of n ps) f (λ a b. refl) (links_within n ps w) k
