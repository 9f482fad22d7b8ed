-- Texts that begin with others.
use Rattle.std.proofs.Common.{◌≡◌, ℕ, ◌+◌, Bool, true, false, ◌&&◌, List, [], ◌∷◌, ◌++◌, length, take, drop, Option, Some, None, refl, ap, ◌∙◌, sym}
use Rattle.std.specs.Prelude.{nat_eq, MatchOption}
use Rattle.std.specs.Borrow.{Bor}
use Rattle.std.specs.Option.{option_copied}
use Rattle.std.specs.Str.{bytes_eq}
use Rattle.ram_rows.specs.RamNames.{is_rest}

and_assoc : (a b c : Bool) → (a && (b && c)) ≡ ((a && b) && c)
and_assoc true b c = refl
and_assoc false b c = refl

in_two : (text front rest : List ℕ) → bytes_eq text (front ++ rest) ≡ (bytes_eq (take (length front) text) front && bytes_eq (drop (length front) text) rest)
in_two text [] rest = refl
in_two [] (f ∷ fs) rest = refl
in_two (t ∷ ts) (f ∷ fs) rest = ap (λ b. nat_eq t f && b) (in_two ts fs rest) ∙ and_assoc (nat_eq t f) _ _

pub begins : (text front : List ℕ) (r : Option (Bor (List ℕ)))
    → MatchOption r (bytes_eq (take (length front) text) front ≡ false) (λ x. (bytes_eq (take (length front) text) front ≡ true) × (x.now ≡ drop (length front) text) × (length x.now + length front ≡ length text))
    → (rest : List ℕ) → bytes_eq text (front ++ rest) ≡ is_rest (option_copied r) rest
begins text front None h rest = in_two text front rest ∙ ap (λ b. b && bytes_eq (drop (length front) text) rest) h
begins text front (Some x) h rest =
    in_two text front rest ∙ ap (λ b. b && bytes_eq (drop (length front) text) rest) h.0 ∙ ap (λ t. bytes_eq t rest) (sym h.1)
