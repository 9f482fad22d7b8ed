-- Tokens one after the other, and the first refusal among them.
use Rattle.std.proofs.Common.{◌≡◌, List, [], ◌∷◌, ◌++◌, Result, Ok, Err, refl, ap, ◌⊎◌, inl, inr}
use Rattle.rtlil_lex.specs.declared.token.Token.{Token}
use Rattle.rtlil_text.specs.declared.fault.Refusal.{Refusal}
use Rattle.rtlil_text.specs.Read.{◌>>=◌, steps}

pub bind_ok : {A B : Type 0} (r : Result A Refusal) (f : A → Result B Refusal) (y : B) → (r >>= f) ≡ Ok y → (x : A) × (r ≡ Ok x) × (f x ≡ Ok y)
bind_ok (Ok x) f y e = (x, refl, e)
bind_ok (Err d) f y e = absurd cc

pub bind_err : {A B : Type 0} (r : Result A Refusal) (f : A → Result B Refusal) (c : Refusal) → (r >>= f) ≡ Err c → (r ≡ Err c) ⊎ ((x : A) × (r ≡ Ok x) × (f x ≡ Err c))
bind_err (Ok x) f c e = inr (x, refl, e)
bind_err (Err d) f c e = inl cc

abbrev pub done : {A : Type 0} → A → Result A Refusal
done x = Ok x

pub ok_is : {A : Type 0} (x y : A) → done x ≡ done y → x ≡ y
ok_is x y e = cc

abbrev pub failed : {A : Type 0} → Refusal → Result A Refusal
failed c = Err c

pub err_is : {A : Type 0} (c d : Refusal) → failed {A = A} c ≡ failed d → c ≡ d
err_is c d e = cc

pub not_both : {A : Type 0} (r : Result A Refusal) (x : A) (c : Refusal) → r ≡ Ok x → r ≡ Err c → ⊥
not_both (Ok y) x c e h = absurd cc
not_both (Err d) x c e h = absurd cc

module _ {S : Type 0} (f : S → Token → Result S Refusal) where
  pub steps_nil : (s : S) → steps f s [] ≡ Ok s
  unfolding steps
  steps_nil s = refl

  pub steps_cons : (s : S) (t : Token) (ts : List Token) → steps f s (t ∷ ts) ≡ (f s t >>= λ next. steps f next ts)
  unfolding steps
  steps_cons s t ts = refl

  pub steps_first : (s n : S) (t : Token) (ts : List Token) → f s t ≡ Ok n → steps f s (t ∷ ts) ≡ steps f n ts
  unfolding steps
  steps_first s n t ts e = rw e refl

  pub steps_one : (s n : S) (t : Token) → f s t ≡ Ok n → steps f s (t ∷ []) ≡ Ok n
  unfolding steps
  steps_one s n t e = rw e refl

  pub steps_on : (s n : S) (a b : List Token) → steps f s a ≡ Ok n → steps f s (a ++ b) ≡ steps f n b
  unfolding steps
  steps_on s n [] b e = ap (λ (x : S). steps f x b) (ok_is s n e)
  steps_on s n (t ∷ a) b e =
      let k = bind_ok (f s t) (λ next. steps f next a) n e in
      rw k.1 (steps_on k.0 n a b k.2)

  pub steps_refused : (s : S) (t : Token) (ts : List Token) (c : Refusal) → f s t ≡ Err c → steps f s (t ∷ ts) ≡ Err c
  unfolding steps
  steps_refused s t ts c e = rw e refl

-- one machine within another
pub steps_within : {S P : Type 0} (f : S → Token → Result S Refusal) (g : P → Token → Result P Refusal) (e : S → P)
    → ((s n : S) (t : Token) → f s t ≡ Ok n → g (e s) t ≡ Ok (e n)) → (s n : S) (ts : List Token) → steps f s ts ≡ Ok n → steps g (e s) ts ≡ Ok (e n)
unfolding steps
steps_within f g e h s n [] k = ap (λ x. done (e x)) (ok_is s n k)
steps_within f g e h s n (t ∷ ts) k =
    let b = bind_ok (f s t) (λ next. steps f next ts) n k in
    rw (h s b.0 t b.1) (steps_within f g e h b.0 n ts b.2)
