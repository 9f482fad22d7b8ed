-- Marks of bits tell which bits are among them.
use Rattle.std.proofs.Common.{◌≡◌, inl, inr, ℕ, zero, suc, Bool, true, false, ◌||◌, List, [], ◌∷◌, length, replicate, refl, sym, ap, subst, ◌∙◌, arith}
use Rattle.std.specs.Prelude.{slice_set, ◌==◌}
use Rattle.std.specs.List.{list_any}
use Rattle.std.proofs.lemmas.Bool.{cases_eq, eq-eqb}
use Rattle.std.proofs.lemmas.List.{length-set, length-replicate}
use Rattle.net_wires.specs.declared.source.Source.{Source}
use Rattle.net_wires.specs.declared.source.Source.TheVariants as source
use Rattle.net_wires.specs.Drivers.{is_place}
use Rattle.net_wires.specs.Links.{IsWithin, SourcesWithin}
use Rattle.net_checks.specs.Inouts.{is_among}
use Rattle.net_checks.specs.Marks.{is_marked, is_source_marked, mark_source, mark_sources}
use Rattle.net_checks.proofs.Joining.{marked_here, marked_there}

or_true : (a : Bool) → a || true ≡ true
or_true true = refl
or_true false = refl

or_false : (a : Bool) → a || false ≡ a
or_false true = refl
or_false false = refl

or_assoc : (a b c : Bool) → (a || b) || c ≡ a || (b || c)
or_assoc true b c = refl
or_assoc false b c = refl

differ : (k p : ℕ) → (p ≡ k → ⊥) → (k == p) ≡ false
differ k p ne = grind (arith, ne)

length_mark : (ms : List Bool) (s : Source) → length (mark_source ms s) ≡ length ms
length_mark ms source.Zero = refl
length_mark ms source.One = refl
length_mark ms source.Loose = refl
length_mark ms (source.At k) = length-set ms k true

marked_one : (ms : List Bool) (s : Source) (p : ℕ) → IsWithin (length ms) s → is_marked (mark_source ms s) p ≡ (is_marked ms p || is_place p s)
marked_one ms source.Zero p w = sym (or_false (is_marked ms p))
marked_one ms source.One p w = sym (or_false (is_marked ms p))
marked_one ms source.Loose p w = sym (or_false (is_marked ms p))
marked_one ms (source.At k) p w =
    elim (cases_eq p k) [
      | inl e ↦ ap (is_marked (slice_set ms k true)) e ∙ marked_here ms k w ∙ sym (ap (λ b. is_marked ms p || b) (eq-eqb k p (sym e)) ∙ or_true (is_marked ms p))
      | inr ne ↦ marked_there ms k p ne ∙ sym (ap (λ b. is_marked ms p || b) (differ k p ne) ∙ or_false (is_marked ms p))
    ]

marked_all : (ms : List Bool) (ss : List Source) (p : ℕ) → SourcesWithin (length ms) ss → is_marked (mark_sources ms ss) p ≡ (is_marked ms p || list_any (is_place p) ss)
marked_all ms [] p w = sym (or_false (is_marked ms p))
marked_all ms (s ∷ ss) p w =
    marked_all (mark_source ms s) ss p (subst (λ n. SourcesWithin n ss) (sym (length_mark ms s)) w.1) ∙ ap (λ b. b || list_any (is_place p) ss) (marked_one ms s p w.0)
    ∙ or_assoc (is_marked ms p) (is_place p s) (list_any (is_place p) ss)

unmarked : (n p : ℕ) → is_marked (replicate n false) p ≡ false
unmarked zero p = refl
unmarked (suc n) zero = refl
unmarked (suc n) (suc p) = unmarked n p

pub marked_is : (n : ℕ) (ms : List Bool) (ss : List Source) → SourcesWithin n ss → ms ≡ mark_sources (replicate n false) ss → (s : Source) → is_source_marked ms s ≡ is_among ss s
marked_is n ms ss w is source.Zero = refl
marked_is n ms ss w is source.One = refl
marked_is n ms ss w is source.Loose = refl
marked_is n ms ss w is (source.At p) =
    ap (λ (xs : List Bool). is_marked xs p) is ∙ marked_all (replicate n false) ss p (subst (λ k. SourcesWithin k ss) (sym (length-replicate n false)) w) ∙ ap (λ b. b || list_any (is_place p) ss) (unmarked n p)

-- tests that agree are one
pub one_test : (f g : Source → Bool) → ((s : Source) → f s ≡ g s) → f ≡ g
one_test f g h = λ i s. h s i
