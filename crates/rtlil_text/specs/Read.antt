-- What reading gives, seen by its first refusal.
use Rattle.std.specs.Prelude.{◌≡◌, ℕ, List, [], ◌∷◌, ◌++◌, Result, Ok, Err, if◌then◌else◌}
use Rattle.rtlil_lex.specs.declared.token.Token.{Token}
use Rattle.rtlil_lex.specs.declared.token.Token.TheVariants as token
use Rattle.rtlil_text.specs.declared.fault.Refusal.{Refusal}
use Rattle.rtlil_text.specs.declared.fault.Refusal.TheVariants as refusal
use Rattle.rtlil_text.specs.declared.fault.Stop.{Stop}
use Rattle.rtlil_text.specs.declared.fault.Stop.TheVariants as stop
use Rattle.rtlil_text.specs.Grammar.{has}

infixl 10 ◌>>=◌
abbrev pub ◌>>=◌ : {A B : Type 0} → Result A Refusal → (A → Result B Refusal) → Result B Refusal
(Ok x) >>= f = f x
(Err e) >>= f = Err e

-- What a function returned is what reading gives, unless memory ran out.
abbrev pub Stops : {Y : Type 0} → Stop → Result Y Refusal → Type 0
Stops stop.Memory read = Unit {0}
Stops (stop.Refused r) read = read ≡ Err r

abbrev pub Gives : {Y : Type 0} → Result Y Stop → Result Y Refusal → Type 0
Gives (Ok x) read = read ≡ Ok x
Gives (Err e) read = Stops e read

-- why a token is refused that may not stand where it does
unfoldable pub refusal_at : Token → Refusal
refusal_at token.Bad = refusal.Token
refusal_at (token.Over seen) = refusal.Limit seen
refusal_at t = refusal.Grammar

-- tokens one after the other
unfoldable pub steps : {S : Type 0} → (S → Token → Result S Refusal) → S → List Token → Result S Refusal
steps f s [] = Ok s
steps f s (t ∷ ts) = f s t >>= λ next. steps f next ts

-- names with one more, if it is new
unfoldable pub with_name : List (List ℕ) → List ℕ → List (List ℕ)
with_name ns n = if has ns n then ns else ns ++ n ∷ []
