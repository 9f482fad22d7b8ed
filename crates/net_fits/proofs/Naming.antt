-- Identifiers of a text are names.
use Rattle.std.proofs.Common.{◌≡◌, ℕ, ◌≤◌, Bool, true, false, not, ◌&&◌, ◌||◌, List, [], ◌∷◌, length, nat_eq, refl, arith}
use Rattle.std.specs.List.{list_all}
use Rattle.rtlil_lex.specs.Bytes.{is_on_line, is_visible}
use Rattle.rtlil_lex.specs.Spelling.{IsIdentifier}
use Rattle.net_core.specs.Valid.{is_white, IsName}

and_left : (a b : Bool) → (a && b) ≡ true → a ≡ true
and_left true b e = refl
and_left false b e = absurd cc

and_right : (a b : Bool) → (a && b) ≡ true → b ≡ true
and_right true b e = e
and_right false b e = absurd cc

both : (a b : Bool) → a ≡ true → b ≡ true → (a && b) ≡ true
both true b d e = e
both false b d e = absurd cc

-- space, tab and carriage return, and the line feed
four : (a b c d : Bool) → not (a || b || c) ≡ true → not d ≡ true → not (a || (b || (d || c))) ≡ true
four true b c d e f = absurd cc
four false true c d e f = absurd cc
four false false true d e f = absurd cc
four false false false true e f = absurd cc
four false false false false e f = refl

no_white : (b : ℕ) → is_visible b ≡ true → is_on_line b ≡ true → not (is_white b) ≡ true
no_white b v l = four (nat_eq b 32) (nat_eq b 9) (nat_eq b 13) (nat_eq b 10) v l

none_white : (bs : List ℕ) → list_all is_visible bs ≡ true → list_all is_on_line bs ≡ true → list_all (λ x. not (is_white x)) bs ≡ true
none_white [] v l = refl
none_white (b ∷ bs) v l =
    both (not (is_white b)) (list_all (λ x. not (is_white x)) bs) (no_white b (and_left (is_visible b) _ v) (and_left (is_on_line b) _ l))
    (none_white bs (and_right (is_visible b) _ v) (and_right (is_on_line b) _ l))

pub identifier_is_name : (n : List ℕ) → IsIdentifier n → IsName n
identifier_is_name [] i = absurd i.begins
identifier_is_name (a ∷ []) i = absurd (let long : 2 ≤ length (a ∷ []) = i.long in omega arith)
identifier_is_name (a ∷ b ∷ bs) i =
    both (nat_eq a 92 || nat_eq a 36) (list_all (λ x. not (is_white x)) (b ∷ bs)) i.begins
    (none_white (b ∷ bs) (and_right (is_visible a) _ i.visible) (and_right (is_on_line a) _ i.on_line))
