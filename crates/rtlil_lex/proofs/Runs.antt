-- Runs of bytes that belong together.
use Rattle.std.proofs.Common.{◌≡◌, ℕ, Bool, true, false, List, [], ◌∷◌, ◌++◌, length, take, drop, refl}
use Rattle.std.specs.Prelude.{◌&&◌}
use Rattle.std.specs.List.{prefix_len, list_all}
use Rattle.std.proofs.lemmas.List.{take_at, drop_at}
use Rattle.std.proofs.Math.Numerals.{one-add}
use Rattle.rtlil_lex.specs.Bytes.{Ends}

pub both : (a b : Bool) → (a && b) ≡ true → (a ≡ true) × (b ≡ true)
both true b e = (refl, e)
both false b e = absurd cc

pub and_is : (a b : Bool) → a ≡ true → b ≡ true → (a && b) ≡ true
and_is a b p q = rw (p, q) refl

-- a run that ends is as long as it is
pub span : (p : ℕ → Bool) (xs rest : List ℕ) → list_all p xs ≡ true → Ends p rest → prefix_len p (xs ++ rest) ≡ length xs
span p [] [] h s = refl
span p [] (b ∷ bs) h s = rw s refl
span p (x ∷ xs) rest h s = let k = both (p x) (list_all p xs) h in rw (k.0, span p xs rest k.1 s) (one-add (length xs))

pub span_front : (p : ℕ → Bool) (xs rest : List ℕ) → list_all p xs ≡ true → Ends p rest → take (prefix_len p (xs ++ rest)) (xs ++ rest) ≡ xs
span_front p xs rest h s = rw (span p xs rest h s) (take_at xs rest (length xs) refl)

pub span_past : (p : ℕ → Bool) (xs rest : List ℕ) → list_all p xs ≡ true → Ends p rest → drop (prefix_len p (xs ++ rest)) (xs ++ rest) ≡ rest
span_past p xs rest h s = rw (span p xs rest h s) (drop_at xs rest (length xs) refl)

front_at : (p : ℕ → Bool) (b : ℕ) (bs : List ℕ) (t : Bool) → p b ≡ t → list_all p (take (prefix_len p bs) bs) ≡ true → list_all p (take (prefix_len p (b ∷ bs)) (b ∷ bs)) ≡ true
front_at p b bs true e h = rw (e, one-add (prefix_len p bs), e) h
front_at p b bs false e h = rw e refl

pub front_all : (p : ℕ → Bool) (bs : List ℕ) → list_all p (take (prefix_len p bs) bs) ≡ true
front_all p [] = refl
front_all p (b ∷ bs) = front_at p b bs (p b) refl (front_all p bs)

past_at : (p : ℕ → Bool) (b : ℕ) (bs : List ℕ) (t : Bool) → p b ≡ t → Ends p (drop (prefix_len p bs) bs) → Ends p (drop (prefix_len p (b ∷ bs)) (b ∷ bs))
past_at p b bs true e h = rw (e, one-add (prefix_len p bs)) h
past_at p b bs false e h = rw e e

pub past_ends : (p : ℕ → Bool) (bs : List ℕ) → Ends p (drop (prefix_len p bs) bs)
past_ends p [] = tt
past_ends p (b ∷ bs) = past_at p b bs (p b) refl (past_ends p bs)
