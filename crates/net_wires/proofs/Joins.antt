-- Nets join a list at their first bit.
use Rattle.std.proofs.Common.{◌≡◌, inl, inr, ℕ, suc, ◌+◌, ◌<◌, Bool, true, false, cond, List, [], ◌∷◌, ◌++◌, length, Option, Some, None, refl, sym, ap, subst, ◌∙◌, arith, length-append, take, get_or}
use Rattle.std.specs.Prelude.{slice_get, slice_set, option_map, ◌==◌}
use Rattle.std.proofs.lemmas.Bool.{cases_eq, eq-eqb}
use Rattle.std.proofs.lemmas.List.{length-set, take_more}
use Rattle.std.proofs.lemmas.Option.{same_Some, slice_get_within}
use Rattle.net_wires.specs.declared.link.Link.{Link}
use Rattle.net_wires.specs.declared.link.Link.TheVariants as links
use Rattle.net_core.specs.declared.bits.Bit.{Bit}
use Rattle.net_wires.specs.Numbers.{find, unless, with_end, appear, nets, IsBit, is_zero, is_one, is_net, Numbered, Table}
use Rattle.net_wires.proofs.Places.{set_same, set_other, get_more}

-- the place that a new last net gives
abbrev pub later : Option ℕ → Bool → ℕ → Option ℕ
later (Some k) b n = Some k
later None b n = cond b (Some n) None

later_suc : (o : Option ℕ) (b : Bool) (n : ℕ) → option_map suc (later o b n) ≡ later (option_map suc o) b (suc n)
later_suc (Some k) b n = refl
later_suc None true n = refl
later_suc None false n = refl

first_of_two : (c b : Bool) (o : Option ℕ) (n : ℕ) → cond c (Some 0) (option_map suc (later o b n)) ≡ later (cond c (Some 0) (option_map suc o)) b (suc n)
first_of_two true b o n = refl
first_of_two false b o n = later_suc o b n

by_test : (b : Bool) → cond b (Some 0) (option_map suc None) ≡ later None b 0
by_test true = refl
by_test false = refl

pub find_more : (xs : List ℕ) (p q : ℕ) → find (xs ++ p ∷ []) q ≡ later (find xs q) (p == q) (length xs)
find_more [] p q = by_test (p == q)
find_more (x ∷ xs) p q = ap (λ (o : Option ℕ). cond (x == q) (Some 0) (option_map suc o)) (find_more xs p q) ∙ first_of_two (x == q) (p == q) (find xs q) (length xs)

-- what was found stays where it was
pub kept : (xs : List ℕ) (p q k : ℕ) → find xs q ≡ Some k → find (xs ++ p ∷ []) q ≡ Some k
kept xs p q k h = find_more xs p q ∙ ap (λ (o : Option ℕ). later o (p == q) (length xs)) h

kept_unless : (o : Option ℕ) (seen : List ℕ) (p q k : ℕ) → find seen q ≡ Some k → find (unless o seen (seen ++ p ∷ [])) q ≡ Some k
kept_unless (Some n) seen p q k h = h
kept_unless None seen p q k h = kept seen p q k h

pub kept_with : (seen : List ℕ) (e : Link) (q k : ℕ) → find seen q ≡ Some k → find (with_end seen e) q ≡ Some k
kept_with seen links.Zero q k h = h
kept_with seen links.One q k h = h
kept_with seen (links.To i) q k h = h
kept_with seen (links.End p) q k h = kept_unless (find seen p) seen p q k h

pub kept_appear : (seen : List ℕ) (es : List Link) (q k : ℕ) → find seen q ≡ Some k → find (appear seen es) q ≡ Some k
kept_appear seen [] q k h = h
kept_appear seen (e ∷ es) q k h = kept_appear (with_end seen e) es q k (kept_with seen e q k h)

pub found_last : (xs : List ℕ) (p : ℕ) → find xs p ≡ None → find (xs ++ p ∷ []) p ≡ Some (length xs)
found_last xs p h = find_more xs p p ∙ ap (λ (o : Option ℕ). later o (p == p) (length xs)) h ∙ ap (λ (b : Bool). later None b (length xs)) (eq-eqb p p refl)

later_false : (o : Option ℕ) (n : ℕ) → later o false n ≡ o
later_false (Some k) n = refl
later_false None n = refl

other : (p q : ℕ) → (q ≡ p → ⊥) → (p == q) ≡ false
other p q ne = grind (arith, ne)

not_last : (xs : List ℕ) (p q : ℕ) → (q ≡ p → ⊥) → find (xs ++ p ∷ []) q ≡ find xs q
not_last xs p q ne = find_more xs p q ∙ ap (λ (b : Bool). later (find xs q) b (length xs)) (other p q ne) ∙ later_false (find xs q) (length xs)

-- the table after a net that was met
joined_old_at : (table : List (Option ℕ)) (seen : List ℕ) (p k : ℕ) (o : Option ℕ) → find seen p ≡ o → o ≡ Some k → unless o seen (seen ++ p ∷ []) ≡ seen
joined_old_at table seen p k (Some n) h e = refl
joined_old_at table seen p k None h e = cc

pub joined_old : (table : List (Option ℕ)) (seen : List ℕ) (count p k : ℕ) → slice_get table p ≡ Some (Some k) → p < length table → Table table seen → count ≡ length seen
    → Table table (with_end seen (links.End p)) × (count ≡ length (with_end seen (links.End p))) × (find (with_end seen (links.End p)) p ≡ Some k)
joined_old table seen count p k at lt t c =
    let f : find seen p ≡ Some k = same_Some (find seen p) (Some k) (sym (t.at p lt) ∙ at) in
    let same : seen ≡ with_end seen (links.End p) = sym (joined_old_at table seen p k (find seen p) refl f) in
    (subst (Table table) same t, c ∙ ap length same, ap (λ (s : List ℕ). find s p) (sym same) ∙ f)

-- and after a new one
pub joined_new : (table : List (Option ℕ)) (seen : List ℕ) (count p : ℕ) → slice_get table p ≡ Some None → p < length table → Table table seen → count ≡ length seen
    → Table (slice_set table p (Some count)) (with_end seen (links.End p)) × (count + 1 ≡ length (with_end seen (links.End p))) × (find (with_end seen (links.End p)) p ≡ Some count)
joined_new table seen count p at lt t c =
    let none : find seen p ≡ None = same_Some (find seen p) None (sym (t.at p lt) ∙ at) in
    let more : seen ++ p ∷ [] ≡ with_end seen (links.End p) = ap (λ (o : Option ℕ). unless o seen (seen ++ p ∷ [])) (sym none) in
    let after : Table (slice_set table p (Some count)) (seen ++ p ∷ []) = record {
      at = λ q h. elim (cases_eq q p) [
        | inl e ↦ ap (slice_get (slice_set table p (Some count))) e ∙ set_same table p None (Some count) at ∙ ap Some (ap Some c ∙ sym (found_last seen p none) ∙ ap (find (seen ++ p ∷ [])) (sym e))
        | inr ne ↦ set_other table p q (Some count) ne ∙ t.at q (omega (arith, h, length-set table p (Some count))) ∙ ap Some (sym (not_last seen p q ne))
      ];
    } in
    (subst (Table (slice_set table p (Some count))) more after, omega (arith, c, length-append seen (p ∷ [])) ∙ ap length more, ap (λ (s : List ℕ). find s p) (sym more) ∙ found_last seen p none ∙ ap Some (sym c))

pub appear_more : (seen : List ℕ) (es : List Link) (e : Link) → appear seen (es ++ e ∷ []) ≡ with_end (appear seen es) e
appear_more seen [] e = refl
appear_more seen (x ∷ es) e = appear_more (with_end seen x) es e

kept_bit : (seen : List ℕ) (x : Link) (e : Link) (b : Bit) → IsBit seen e b → IsBit (with_end seen x) e b
kept_bit seen x e b (is_zero) = is_zero
kept_bit seen x e b (is_one) = is_one
kept_bit seen x e b (is_net p k h) = is_net p k (kept_with seen x p k h)

-- one bit more
pub numbered_more : (es : List Link) (bs : List Bit) (count more : ℕ) (e : Link) (b : Bit) → Numbered es bs count → IsBit (with_end (nets es) e) e b → more ≡ length (with_end (nets es) e)
    → Numbered (es ++ e ∷ []) (bs ++ b ∷ []) more
numbered_more es bs count more e b n is c =
    let seen : with_end (nets es) e ≡ nets (es ++ e ∷ []) = sym (appear_more [] es e) in
    record {
      long = length-append bs (b ∷ []) ∙ ap (λ k. k + 1) n.long ∙ sym (length-append es (e ∷ []));
      each = λ k x y hx hy. subst (λ (s : List ℕ). IsBit s x y) seen (elim (get_more es e k x hx) [
        | inl old ↦ elim (get_more bs b k y hy) [
          | inl old_y ↦ kept_bit (nets es) e x y (n.each k x y old old_y)
          | inr (at, q) ↦ absurd (omega (arith, slice_get_within es k x old, n.long, at))
        ]
        | inr (at, q) ↦ elim (get_more bs b k y hy) [
          | inl old_y ↦ absurd (omega (arith, slice_get_within bs k y old_y, n.long, at))
          | inr (at_y, r) ↦ subst (λ (z : Link). IsBit (with_end (nets es) e) z y) q (subst (λ (z : Bit). IsBit (with_end (nets es) e) e z) r is)
        ]
      ]);
      all = c ∙ ap length seen;
    }

-- a turn of the loop that numbers
pub numbered_turn : (ends : List Link) (i : ℕ) (bs : List Bit) (count more : ℕ) (table : List (Option ℕ)) (b : Bit) (d : Link) → i < length ends → Numbered (take i ends) bs count
    → Table table (with_end (nets (take i ends)) (get_or ends i d)) × (more ≡ length (with_end (nets (take i ends)) (get_or ends i d))) × IsBit (with_end (nets (take i ends)) (get_or ends i d)) (get_or ends i d) b
    → Numbered (take (i + 1) ends) (bs ++ b ∷ []) more × Table table (nets (take (i + 1) ends))
numbered_turn ends i bs count more table b d h n j =
    let e = get_or ends i d in
    let longer : take i ends ++ e ∷ [] ≡ take (i + 1) ends = sym (take_more ends i d h) in (
      subst (λ (es : List Link). Numbered es (bs ++ b ∷ []) more) longer (numbered_more (take i ends) bs count more e b n j.2 j.1),
      subst (Table table) (sym (appear_more [] (take i ends) e) ∙ ap nets longer) j.0,
    )
