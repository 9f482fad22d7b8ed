-- Places that are joined with marked ones are found by the marks of their ends.
use Rattle.std.proofs.Common.{◌≡◌, inl, inr, ℕ, zero, suc, ◌+◌, ◌<◌, Bool, true, false, ◌||◌, ◌&&◌, List, [], ◌∷◌, map, length, refl, sym, ap, subst, ◌∙◌, arith}
use Rattle.std.specs.Prelude.{nat_eq, slice_set}
use Rattle.std.specs.List.{list_any, range_with_len}
use Rattle.std.proofs.lemmas.Bool.{cases_eq}
use Rattle.std.proofs.lemmas.List.{length-set}
use Rattle.std.proofs.lemmas.List.FromFn.{get_or-map-range_with_len, length-map-range_with_len}
use Rattle.net_wires.specs.declared.link.Link.{Link}
use Rattle.net_wires.specs.declared.link.Link.TheVariants.{Zero, One, End, To}
use Rattle.net_checks.specs.Driven.{is_joined_with, is_one_end}
use Rattle.net_checks.specs.Joined.{AreJoined, AreReached, end_at, is_end_marked, is_reached, mark_end, mark_end_if}
use Rattle.net_checks.specs.Marks.{is_marked}
use Rattle.net_checks.proofs.Ranges.{any_either, any_more, any_never, any_one}

-- ---- marks

pub marked_here : (ms : List Bool) (p : ℕ) → p < length ms → is_marked (slice_set ms p true) p ≡ true
marked_here [] p h = absurd (omega (arith, h))
marked_here (m ∷ ms) zero h = refl
marked_here (m ∷ ms) (suc p) h = marked_here ms p (omega (arith, h))

pub marked_there : (ms : List Bool) (k p : ℕ) → (p ≡ k → ⊥) → is_marked (slice_set ms k true) p ≡ is_marked ms p
marked_there [] k p ne = refl
marked_there (m ∷ ms) zero zero ne = absurd (ne refl)
marked_there (m ∷ ms) zero (suc p) ne = refl
marked_there (m ∷ ms) (suc k) zero ne = refl
marked_there (m ∷ ms) (suc k) (suc p) ne = marked_there ms k p (λ e. ne (ap suc e))

-- ---- ends of marked places

length_mark : (found : List Bool) (x : Link) → length (mark_end found x) ≡ length found
length_mark found (End k) = length-set found k true
length_mark found Zero = refl
length_mark found One = refl
length_mark found (To k) = refl

or_true : (a : Bool) → a || true ≡ true
or_true true = refl
or_true false = refl

or_false : (a : Bool) → a || false ≡ a
or_false true = refl
or_false false = refl

eq_true : (e k : ℕ) → e ≡ k → nat_eq e k ≡ true
eq_true e k h = grind (arith, h)

eq_false : (e k : ℕ) → (e ≡ k → ⊥) → nat_eq e k ≡ false
eq_false e k h = grind (arith, h)

marked_one : (found : List Bool) (x : Link) (e : ℕ) → e < length found → is_marked (mark_end found x) e ≡ (is_marked found e || is_one_end (End e) x)
marked_one found Zero e h = sym (or_false (is_marked found e))
marked_one found One e h = sym (or_false (is_marked found e))
marked_one found (To k) e h = sym (or_false (is_marked found e))
marked_one found (End k) e h =
    elim (cases_eq e k) [
      | inl same ↦
          ap (λ n. is_marked (slice_set found n true) e) (sym same) ∙ marked_here found e h ∙ sym (ap (λ b. is_marked found e || b) (eq_true e k same) ∙ or_true (is_marked found e))
      | inr ne ↦ marked_there found k e ne ∙ sym (ap (λ b. is_marked found e || b) (eq_false e k ne) ∙ or_false (is_marked found e))
    ]

marked_if : (found : List Bool) (on : Bool) (x : Link) (e : ℕ) → e < length found → is_marked (mark_end_if found on x) e ≡ (is_marked found e || (on && is_one_end (End e) x))
marked_if found true x e h = marked_one found x e h
marked_if found false x e h = sym (or_false (is_marked found e))

length_if : (found : List Bool) (on : Bool) (x : Link) → length (mark_end_if found on x) ≡ length found
length_if found true x = length_mark found x
length_if found false x = refl

-- one place more
pub reached_turn : (marks : List Bool) (ends : List Link) (i : ℕ) (old new : List Bool) (on : Bool) (x : Link)
    → AreReached marks ends i old → on ≡ is_marked marks i → x ≡ end_at ends i → new ≡ mark_end_if old on x → AreReached marks ends (i + 1) new
reached_turn marks ends i old new on x r is_on is_end after =
    subst (AreReached marks ends (i + 1)) (sym after) (record {
      long = length_if old on x ∙ r.long;
      each = λ e h.
          marked_if old on x e (omega (arith, h, r.long))
          ∙ ap (λ b. b || (on && is_one_end (End e) x)) (r.each e h)
          ∙ ap (λ b. is_reached marks ends i e || (b && is_one_end (End e) x)) is_on
          ∙ ap (λ y. is_reached marks ends i e || (is_marked marks i && is_one_end (End e) y)) is_end
          ∙ sym (any_more (λ q. is_marked marks q && is_one_end (End e) (end_at ends q)) i);
    })

-- ---- joined places

by_end : (marks : List Bool) (ends : List Link) (found : List Bool) (x : Link) → AreReached marks ends (length ends) found → ((e : ℕ) → x ≡ End e → e < length ends)
    → list_any (λ q. is_marked marks q && is_one_end x (end_at ends q)) (range_with_len 0 (length ends)) ≡ is_end_marked found x
by_end marks ends found (End e) r inside = sym (r.each e (inside e refl))
by_end marks ends found Zero r inside = any_never (is_marked marks) (range_with_len 0 (length ends))
by_end marks ends found One r inside = any_never (is_marked marks) (range_with_len 0 (length ends))
by_end marks ends found (To p) r inside = any_never (is_marked marks) (range_with_len 0 (length ends))

parts : (ends : ℕ → Link) (so : ℕ → Bool) (n p : ℕ) → p < n → is_joined_with ends so n p ≡ (so p || list_any (λ q. so q && is_one_end (ends p) (ends q)) (range_with_len 0 n))
parts ends so n p h =
    any_either so (nat_eq p) (λ q. is_one_end (ends p) (ends q)) (range_with_len 0 n)
    ∙ ap (λ b. b || list_any (λ q. so q && is_one_end (ends p) (ends q)) (range_with_len 0 n)) (any_one so p n h)

pub joined_are : (marks : List Bool) (ends : List Link) (reached found : List Bool) → AreReached marks ends (length ends) reached → ((p e : ℕ) → end_at ends p ≡ End e → e < length ends)
    → found ≡ map (λ p. is_marked marks p || is_end_marked reached (end_at ends p)) (range_with_len 0 (length ends)) → AreJoined marks ends found
joined_are marks ends reached found r inside is =
    subst (AreJoined marks ends) (sym is) (record {
      long = length-map-range_with_len (λ p. is_marked marks p || is_end_marked reached (end_at ends p)) 0 (length ends);
      each = λ p h.
          get_or-map-range_with_len (λ k. is_marked marks k || is_end_marked reached (end_at ends k)) 0 (length ends) p p false h (omega arith)
          ∙ sym (parts (end_at ends) (is_marked marks) (length ends) p h ∙ ap (λ b. is_marked marks p || b) (by_end marks ends reached (end_at ends p) r (λ e at. inside p e at)));
    })
