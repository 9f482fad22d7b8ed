-- What a bit says of its end.
use Rattle.std.proofs.Common.{◌≡◌, ℕ, suc, ◌+◌, Bool, true, false, cond, List, [], ◌∷◌, Option, Some, None, refl, sym, ap, ◌∙◌, arith}
use Rattle.std.specs.Prelude.{slice_get, option_map, ◌==◌}
use Rattle.std.proofs.lemmas.Bool.{eqb-true}
use Rattle.std.proofs.lemmas.Option.{same_Some}
use Rattle.net_core.specs.declared.bits.Bit.{Bit}
use Rattle.net_core.specs.declared.bits.Bit.TheVariants as bits
use Rattle.net_wires.specs.declared.link.Link.{Link}
use Rattle.net_wires.specs.declared.link.Link.TheVariants as links
use Rattle.net_wires.specs.Numbers.{find, IsBit, is_zero, is_one, is_net}
use Rattle.net_wires.specs.Ties.{walk, Leads}
use Rattle.net_wires.proofs.Walks.{walk_end, walk_more}

-- an end is one
pub one_end : (t : List Link) (x e f : Link) → Leads t x e → Leads t x f → e ≡ f
one_end t x e f l m =
    let a = l.0 in
    let b = m.0 in
    let swap : a + b ≡ b + a = omega arith in
    sym (walk_more t a b x ∙ ap (walk t b) l.1 ∙ walk_end t b e l.2) ∙ ap (λ n. walk t n x) swap ∙ (walk_more t b a x ∙ ap (walk t a) m.1 ∙ walk_end t a f m.2)

-- what a bit of a net's number says of its end
abbrev pub Says : List ℕ → Link → Bit → Type 0
Says seen links.Zero b = b ≡ bits.Zero
Says seen links.One b = b ≡ bits.One
Says seen (links.End p) b = (k : ℕ) × (find seen p ≡ Some k) × (b ≡ bits.Net k)
Says seen (links.To p) b = Unit {0}

pub says : (seen : List ℕ) (e : Link) (b : Bit) → IsBit seen e b → Says seen e b
says seen e b (is_zero) = refl
says seen e b (is_one) = refl
says seen e b (is_net p k h) = (k, h, refl)

at_rest : (x : ℕ) (xs : List ℕ) (p k : ℕ) (o : Option ℕ) → ((i : ℕ) → o ≡ Some i → slice_get xs i ≡ Some p) → option_map suc o ≡ Some k → slice_get (x ∷ xs) k ≡ Some p
at_rest x xs p k None rec g = cc
at_rest x xs p k (Some i) rec g = ap (slice_get (x ∷ xs)) (sym (same_Some (suc i) k g)) ∙ rec i refl

at_head : (x : ℕ) (xs : List ℕ) (p k : ℕ) (b : Bool) → (x == p) ≡ b → ((i : ℕ) → find xs p ≡ Some i → slice_get xs i ≡ Some p) → cond b (Some 0) (option_map suc (find xs p)) ≡ Some k → slice_get (x ∷ xs) k ≡ Some p
at_head x xs p k true e rec g = ap (slice_get (x ∷ xs)) (sym (same_Some 0 k g)) ∙ ap Some (eqb-true x p e)
at_head x xs p k false e rec g = at_rest x xs p k (find xs p) rec g

pub found_at : (xs : List ℕ) (p k : ℕ) → find xs p ≡ Some k → slice_get xs k ≡ Some p
found_at [] p k h = cc
found_at (x ∷ xs) p k h = at_head x xs p k (x == p) refl (λ i e. found_at xs p i e) h

abbrev pub number_of : Bit → ℕ
number_of (bits.Net k) = k
number_of b = 0
