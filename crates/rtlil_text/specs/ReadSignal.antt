-- What one token does to a signal that is being read; limit is how deep braces may stand.
use Rattle.std.specs.Prelude.{ℕ, ℤ, pos, negsuc, zero, suc, ◌+◌, Bool, false, [], ◌∷◌, ◌++◌, Result, Ok, Err, nat_lt, ◌==◌, if◌then◌else◌}
use Rattle.rtlil_lex.specs.declared.token.Token.{Token}
use Rattle.rtlil_lex.specs.declared.token.Token.TheVariants as token
use Rattle.rtlil_text.specs.declared.doc.DocConst.TheVariants as const
use Rattle.rtlil_text.specs.declared.doc.Part.{Part}
use Rattle.rtlil_text.specs.declared.doc.Part.TheVariants as part
use Rattle.rtlil_text.specs.declared.fault.Refusal.{Refusal}
use Rattle.rtlil_text.specs.declared.fault.Refusal.TheVariants as refusal
use Rattle.rtlil_text.specs.declared.signal.Signal.{Signal}
use Rattle.rtlil_text.specs.declared.signal.Spot.{Spot}
use Rattle.rtlil_text.specs.declared.signal.Spot.TheVariants as spot
use Rattle.rtlil_text.specs.Read.{◌>>=◌, refusal_at}

unfoldable pub no_signal : Signal
no_signal = record { parts = []; depth = 0; spot = spot.Begin }

unfoldable pub whole_at : ℕ → Spot → Bool
whole_at depth spot.After = depth == 0
whole_at depth s = false

-- one signal was read and nothing more
unfoldable pub is_whole : Signal → Bool
is_whole s = whole_at s.depth s.spot

unfoldable pub count_of : ℤ → Result ℕ Refusal
count_of (pos n) = Ok n
count_of (negsuc n) = Err refusal.Grammar

unfoldable pub count_in : Token → Result ℕ Refusal
count_in (token.Number z) = count_of z
count_in t = Err (refusal_at t)

abbrev pub with_part : Signal → Part → ℕ → Spot → Result Signal Refusal
with_part s p depth next = Ok (record { parts = s.parts ++ p ∷ []; depth = depth; spot = next })

unfoldable pub opened : ℕ → Signal → Result Signal Refusal
opened limit s = if nat_lt s.depth limit then with_part s part.Begin (s.depth + 1) spot.Begin else Err (refusal.Limit (limit + 1))

unfoldable pub closed_at : Signal → ℕ → Result Signal Refusal
closed_at s zero = Err refusal.Grammar
closed_at s (suc depth) = with_part s part.End depth spot.After

unfoldable pub closed : Signal → Result Signal Refusal
closed s = closed_at s s.depth

abbrev pub base_in : Signal → Part → Result Signal Refusal
base_in s p = with_part s p s.depth spot.After

unfoldable pub base_step : ℕ → Signal → Token → Result Signal Refusal
base_step limit s token.OpenBrace = opened limit s
base_step limit s token.CloseBrace = closed s
base_step limit s (token.Id n) = base_in s (part.Wire n)
base_step limit s (token.Digits ds) = base_in s (part.Fixed (const.Digits ds))
base_step limit s (token.Number z) = base_in s (part.Fixed (const.Number z))
base_step limit s (token.Text t) = base_in s (part.Fixed (const.Text t))
base_step limit s t = Err (refusal_at t)

abbrev pub at_spot : Signal → Spot → Result Signal Refusal
at_spot s next = Ok (record s { spot = next })

-- behind a signal that stands by itself only a slice may follow
unfoldable pub after_step : ℕ → Signal → Token → Result Signal Refusal
after_step limit s token.OpenBracket = at_spot s spot.High
after_step limit s t = if s.depth == 0 then Err (refusal_at t) else base_step limit s t

abbrev pub sliced : Signal → ℕ → ℕ → Result Signal Refusal
sliced s high low = with_part s (part.Slice high low) s.depth spot.After

unfoldable pub colon_step : Signal → ℕ → Token → Result Signal Refusal
colon_step s high token.Colon = at_spot s (spot.Low high)
colon_step s high token.CloseBracket = sliced s high high
colon_step s high t = Err (refusal_at t)

unfoldable pub close_step : Signal → ℕ → ℕ → Token → Result Signal Refusal
close_step s high low token.CloseBracket = sliced s high low
close_step s high low t = Err (refusal_at t)

unfoldable pub low_step : Signal → ℕ → ℕ → Result Signal Refusal
low_step s high low = if nat_lt high low then Err refusal.Grammar else at_spot s (spot.Close high low)

unfoldable pub spot_step : ℕ → Signal → Spot → Token → Result Signal Refusal
spot_step limit s spot.Begin t = base_step limit s t
spot_step limit s spot.After t = after_step limit s t
spot_step limit s spot.High t = count_in t >>= λ high. at_spot s (spot.Colon high)
spot_step limit s (spot.Colon high) t = colon_step s high t
spot_step limit s (spot.Low high) t = count_in t >>= λ low. low_step s high low
spot_step limit s (spot.Close high low) t = close_step s high low t

unfoldable pub signal_step : ℕ → Signal → Token → Result Signal Refusal
signal_step limit s t = spot_step limit s s.spot t
