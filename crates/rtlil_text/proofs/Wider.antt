-- What a limit of depth changes: a brace that stands too deep.
use Rattle.std.proofs.Common.{◌≡◌, ℕ, pos, zero, suc, ◌+◌, ◌<◌, ◌≤◌, Bool, true, false, cond, List, [], ◌∷◌, ◌++◌, Result, Ok, Err, refl, sym, ap, subst, ◌∙◌, arith, ◌⊎◌, inl, inr}
use Rattle.std.specs.Prelude.{◌==◌, ◌&&◌, not, nat_lt}
use Rattle.std.proofs.lemmas.Bool.{ltb-true, lt-ltb}
use Rattle.rtlil_lex.specs.declared.token.Token.{Token}
use Rattle.rtlil_lex.specs.declared.token.Token.TheVariants as token
use Rattle.rtlil_text.specs.declared.doc.Part.{Part}
use Rattle.rtlil_text.specs.declared.doc.Part.TheVariants as part
use Rattle.rtlil_text.specs.declared.fault.Refusal.{Refusal}
use Rattle.rtlil_text.specs.declared.fault.Refusal.TheVariants as refusal
use Rattle.rtlil_text.specs.declared.place.Place.{Place}
use Rattle.rtlil_text.specs.declared.place.Place.TheVariants as place
use Rattle.rtlil_text.specs.declared.place.Statement.{Statement}
use Rattle.rtlil_text.specs.declared.signal.Signal.{Signal}
use Rattle.rtlil_text.specs.declared.signal.Spot.{Spot}
use Rattle.rtlil_text.specs.declared.signal.Spot.TheVariants as spot
use Rattle.rtlil_text.specs.declared.state.State.{State}
use Rattle.rtlil_text.specs.Read.{◌>>=◌, refusal_at, steps}
use Rattle.rtlil_text.specs.ReadSignal.{no_signal, is_whole, count_in, opened, closed, closed_at, base_step, after_step, colon_step, close_step, low_step, spot_step, signal_step}
use Rattle.rtlil_text.specs.ReadLine.{begins_slice, left_step, step, finish, statement_at}
use Rattle.rtlil_text.specs.ReadState.{advance}
use Rattle.rtlil_text.specs.ReadText.{line_at, run}
use Rattle.rtlil_text.proofs.Steps.{bind_ok, bind_err, done, failed, err_is}
use Rattle.rtlil_text.proofs.SignalSays.{at}
use Rattle.rtlil_text.proofs.SignalFound.{count_is}
use Rattle.rtlil_text.proofs.Codes.{Own, before, count_code, IsPlain, plain_code}

-- ---- what is read is read with more room

module _ (less limit : ℕ) (le : less ≤ limit) where
  opened_wider : (d : ℕ) (ps : List Part) (sp : Spot) (n : Signal) (b : Bool) → nat_lt d less ≡ b
      → cond b (done {A = Signal} (record { parts = ps ++ part.Begin ∷ []; depth = d + 1; spot = spot.Begin })) (Err (refusal.Limit (less + 1))) ≡ Ok n → opened limit (at ps d sp) ≡ Ok n
  unfolding opened
  opened_wider d ps sp n true h e = let lt : d < limit = omega (arith, ltb-true d less h) in rw (lt-ltb d limit lt) e
  opened_wider d ps sp n false h e = absurd cc

  base_wider : (d : ℕ) (ps : List Part) (sp : Spot) (t : Token) (n : Signal) → base_step less (at ps d sp) t ≡ Ok n → base_step limit (at ps d sp) t ≡ Ok n
  unfolding base_step opened
  base_wider d ps sp token.OpenBrace n e = opened_wider d ps sp n (nat_lt d less) refl e
  base_wider d ps sp token.CloseBrace n e = e
  base_wider d ps sp (token.Id m) n e = e
  base_wider d ps sp (token.Digits ds) n e = e
  base_wider d ps sp (token.Number z) n e = e
  base_wider d ps sp (token.Text x) n e = e
  base_wider d ps sp t n e = absurd cc

  rest_wider : (d : ℕ) (ps : List Part) (t : Token) (n : Signal) (b : Bool) → cond b (Err (refusal_at t)) (base_step less (at ps d spot.After) t) ≡ Ok n → cond b (Err (refusal_at t)) (base_step limit (at ps d spot.After) t) ≡ Ok n
  rest_wider d ps t n true e = absurd cc
  rest_wider d ps t n false e = base_wider d ps spot.After t n e

  after_wider : (d : ℕ) (ps : List Part) (t : Token) (n : Signal) → after_step less (at ps d spot.After) t ≡ Ok n → after_step limit (at ps d spot.After) t ≡ Ok n
  unfolding after_step
  after_wider d ps token.OpenBracket n e = e
  after_wider d ps t n e = rest_wider d ps t n (d == 0) e

  spot_wider : (d : ℕ) (ps : List Part) (sp : Spot) (t : Token) (n : Signal) → spot_step less (at ps d sp) sp t ≡ Ok n → spot_step limit (at ps d sp) sp t ≡ Ok n
  unfolding spot_step
  spot_wider d ps spot.Begin t n e = base_wider d ps spot.Begin t n e
  spot_wider d ps spot.After t n e = after_wider d ps t n e
  spot_wider d ps spot.High t n e = e
  spot_wider d ps (spot.Colon h) t n e = e
  spot_wider d ps (spot.Low h) t n e = e
  spot_wider d ps (spot.Close h l) t n e = e

  pub signal_wider : (s : Signal) (t : Token) (n : Signal) → signal_step less s t ≡ Ok n → signal_step limit s t ≡ Ok n
  unfolding signal_step
  signal_wider s t n e = spot_wider s.depth s.parts s.spot t n e

  bound_wider : (s : Signal) (t : Token) (f : Signal → Place) (q : Place) → (signal_step less s t >>= λ n. done (f n)) ≡ Ok q → (signal_step limit s t >>= λ n. done (f n)) ≡ Ok q
  bound_wider s t f q e =
      let b = bind_ok (signal_step less s t) (λ n. done (f n)) q e in
      rw (signal_wider s t b.0 b.1) b.2

  left_wider : (s : Signal) (t : Token) (q : Place) (b : Bool)
      → cond b (signal_step less no_signal t >>= (λ r. done (place.Right s.parts r))) (signal_step less s t >>= (λ l. done (place.Left l))) ≡ Ok q
      → cond b (signal_step limit no_signal t >>= (λ r. done (place.Right s.parts r))) (signal_step limit s t >>= (λ l. done (place.Left l))) ≡ Ok q
  left_wider s t q true e = bound_wider no_signal t (λ r. place.Right s.parts r) q e
  left_wider s t q false e = bound_wider s t (λ l. place.Left l) q e

  pub step_wider : (st : State) (p : Place) (t : Token) (q : Place) → step less st p t ≡ Ok q → step limit st p t ≡ Ok q
  unfolding step left_step
  step_wider st (place.Left s) t q e = left_wider s t q (is_whole s && not (begins_slice t)) e
  step_wider st (place.Right l s) t q e = bound_wider s t (λ n. place.Right l n) q e
  step_wider st (place.PinValue m s) t q e = bound_wider s t (λ n. place.PinValue m n) q e
  step_wider st p t q e = e

  pub steps_wider : (st : State) (p : Place) (ts : List Token) (q : Place) → steps (step less st) p ts ≡ Ok q → steps (step limit st) p ts ≡ Ok q
  unfolding steps
  steps_wider st p [] q e = e
  steps_wider st p (t ∷ ts) q e =
      let b = bind_ok (step less st p t) (λ n. steps (step less st) n ts) q e in
      rw (step_wider st p t b.0 b.1) (steps_wider st b.0 ts q b.2)

  pub statement_wider : (st : State) (ts : List Token) (s : Statement) → statement_at less st ts ≡ Ok s → statement_at limit st ts ≡ Ok s
  statement_wider st ts s e =
      let b = bind_ok (steps (step less st) place.Start ts) (λ p. finish p) s e in
      rw (steps_wider st place.Start ts b.0 b.1) b.2

  pub line_wider : (st : State) (ts : List Token) (next : State) → line_at less st ts ≡ Ok next → line_at limit st ts ≡ Ok next
  unfolding line_at
  line_wider st ts next e =
      let b = bind_ok (statement_at less st ts) (λ s. done (advance st s)) next e in
      rw (statement_wider st ts b.0 b.1) b.2

  pub run_wider : (st : State) (tss : List (List Token)) (last : State) → run less st tss ≡ Ok last → run limit st tss ≡ Ok last
  unfolding run
  run_wider st [] last e = e
  run_wider st (ts ∷ tss) last e =
      let b = bind_ok (line_at less st ts) (λ n. run less n tss) last e in
      rw (line_wider st ts b.0 b.1) (run_wider b.0 tss last b.2)

-- ---- what is refused is refused with more room too, but for a brace

-- why a step is refused at a limit: at every limit alike, or by a brace that stands too deep
pub record TooDeep {S : Type 0} (f : ℕ → S → Token → Result S Refusal) (limit : ℕ) (s : S) (t : Token) (c : Refusal) : Type 0 where
  pub brace : t ≡ token.OpenBrace
  pub code : c ≡ refusal.Limit (limit + 1)
  pub next : S
  pub goes : f (limit + 1) s t ≡ Ok next

-- at every limit alike, by the token itself
pub record Alike {S : Type 0} (f : ℕ → S → Token → Result S Refusal) (s : S) (t : Token) (c : Refusal) : Type 0 where
  pub refused : (other : ℕ) → f other s t ≡ Err c
  pub code : Own t c

abbrev pub Refused : {S : Type 0} → (ℕ → S → Token → Result S Refusal) → ℕ → S → Token → Refusal → Type 0
Refused {S} f limit s t c = Alike f s t c ⊎ TooDeep f limit s t c

own : (t : Token) (c : Refusal) → failed {A = Signal} (refusal_at t) ≡ failed c → Own t c
own t c e = sym (err_is {A = Signal} (refusal_at t) c e)

module _ (limit : ℕ) where
  opened_refused : (d : ℕ) (ps : List Part) (sp : Spot) (c : Refusal) (b : Bool) → d ≤ limit → nat_lt d limit ≡ b
      → cond b (done {A = Signal} (record { parts = ps ++ part.Begin ∷ []; depth = d + 1; spot = spot.Begin })) (Err (refusal.Limit (limit + 1))) ≡ Err c → TooDeep base_step limit (at ps d sp) token.OpenBrace c
  unfolding base_step opened
  opened_refused d ps sp c true le h e = absurd cc
  opened_refused d ps sp c false le h e =
      let lt : d < limit + 1 = omega arith in
      record { brace = refl; code = sym (err_is {A = Signal} (refusal.Limit (limit + 1)) c e); next = record { parts = ps ++ part.Begin ∷ []; depth = d + 1; spot = spot.Begin }; goes = rw (lt-ltb d (limit + 1) lt) refl }

  closed_code : (d : ℕ) (ps : List Part) (sp : Spot) (c : Refusal) → closed_at (at ps d sp) d ≡ Err c → Own token.CloseBrace c
  unfolding closed_at refusal_at
  closed_code zero ps sp c e = sym (err_is {A = Signal} refusal.Grammar c e)
  closed_code (suc d) ps sp c e = absurd cc

  base_refused : (d : ℕ) (ps : List Part) (sp : Spot) (t : Token) (c : Refusal) → d ≤ limit → base_step limit (at ps d sp) t ≡ Err c → Refused base_step limit (at ps d sp) t c
  unfolding base_step opened closed
  base_refused d ps sp token.OpenBrace c le e = inr (opened_refused d ps sp c (nat_lt d limit) le refl e)
  base_refused d ps sp token.CloseBrace c le e = inl (record { refused = λ other. e; code = closed_code d ps sp c e })
  base_refused d ps sp (token.Id n) c le e = absurd cc
  base_refused d ps sp (token.Digits ds) c le e = absurd cc
  base_refused d ps sp (token.Number z) c le e = absurd cc
  base_refused d ps sp (token.Text x) c le e = absurd cc
  base_refused d ps sp t c le e = inl (record { refused = λ other. e; code = own t c e })

  abbrev RestRefused : ℕ → List Part → Token → Refusal → Bool → Type 0
  RestRefused d ps t c b = (((other : ℕ) → cond b (Err (refusal_at t)) (base_step other (at ps d spot.After) t) ≡ Err c) × Own t c) ⊎ ((b ≡ false) × TooDeep base_step limit (at ps d spot.After) t c)

  rest_refused : (d : ℕ) (ps : List Part) (t : Token) (c : Refusal) (b : Bool) → d ≤ limit → cond b (Err (refusal_at t)) (base_step limit (at ps d spot.After) t) ≡ Err c → RestRefused d ps t c b
  rest_refused d ps t c true le e = inl (λ other. e, own t c e)
  rest_refused d ps t c false le e = elim (base_refused d ps spot.After t c le e) as (λ x. RestRefused d ps t c false) [ inl h ↦ inl (h.refused, h.code) | inr h ↦ inr (refl, h) ]

  after_deep : (d : ℕ) (ps : List Part) (t : Token) (c : Refusal) → (d == 0) ≡ false → TooDeep base_step limit (at ps d spot.After) t c → TooDeep after_step limit (at ps d spot.After) t c
  unfolding after_step
  after_deep d ps t c z h =
      let k : after_step (limit + 1) (at ps d spot.After) token.OpenBrace ≡ Ok h.next = rw z (subst (λ (u : Token). base_step (limit + 1) (at ps d spot.After) u ≡ Ok h.next) h.brace h.goes) in
      record { brace = h.brace; code = h.code; next = h.next; goes = subst (λ (u : Token). after_step (limit + 1) (at ps d spot.After) u ≡ Ok h.next) (sym h.brace) k }

  after_by : (d : ℕ) (ps : List Part) (t : Token) (c : Refusal) → ((other : ℕ) → after_step other (at ps d spot.After) t ≡ cond (d == 0) (Err (refusal_at t)) (base_step other (at ps d spot.After) t)) → RestRefused d ps t c (d == 0) → Refused after_step limit (at ps d spot.After) t c
  after_by d ps t c is (inl h) = inl (record { refused = λ other. is other ∙ h.0 other; code = h.1 })
  after_by d ps t c is (inr h) = inr (after_deep d ps t c h.0 h.1)

  after_refused : (d : ℕ) (ps : List Part) (t : Token) (c : Refusal) → d ≤ limit → after_step limit (at ps d spot.After) t ≡ Err c → Refused after_step limit (at ps d spot.After) t c
  unfolding after_step
  after_refused d ps token.OpenBracket c le e = absurd cc
  after_refused d ps t c le e = after_by d ps t c (λ other. refl) (rest_refused d ps t c (d == 0) le e)

  colon_code : (s : Signal) (h : ℕ) (t : Token) (c : Refusal) → colon_step s h t ≡ Err c → Own t c
  unfolding colon_step
  colon_code s h token.Colon c e = absurd cc
  colon_code s h token.CloseBracket c e = absurd cc
  colon_code s h t c e = own t c e

  close_code : (s : Signal) (h l : ℕ) (t : Token) (c : Refusal) → close_step s h l t ≡ Err c → Own t c
  unfolding close_step
  close_code s h l token.CloseBracket c e = absurd cc
  close_code s h l t c e = own t c e

  low_at : (s : Signal) (h l : ℕ) (c : Refusal) (b : Bool) → cond b (Err refusal.Grammar) (done {A = Signal} (record s { spot = spot.Close h l })) ≡ Err c → c ≡ refusal.Grammar
  low_at s h l c true e = sym (err_is {A = Signal} refusal.Grammar c e)
  low_at s h l c false e = absurd cc

  number_own : (l : ℕ) (t : Token) (c : Refusal) → t ≡ token.Number (pos l) → c ≡ refusal.Grammar → Own t c
  unfolding refusal_at
  number_own l t c e h = h ∙ ap refusal_at (sym e)

  low_code : (s : Signal) (h : ℕ) (t : Token) (c : Refusal) → (count_in t >>= λ l. low_step s h l) ≡ Err c → Own t c
  unfolding low_step
  low_code s h t c e =
      elim (bind_err (count_in t) (λ l. low_step s h l) c e) [
        | inl failed ↦ count_code t c failed
        | inr went ↦ number_own went.0 t c (count_is t went.0 went.1) (low_at s h went.0 c (nat_lt h went.0) went.2)
      ]

  deeper : (d : ℕ) (ps : List Part) (t : Token) (c : Refusal) (sp : Spot) (f : ℕ → Signal → Token → Result Signal Refusal) → ((other : ℕ) → signal_step other (at ps d sp) t ≡ f other (at ps d sp) t) → Refused f limit (at ps d sp) t c → Refused signal_step limit (at ps d sp) t c
  deeper d ps t c sp f is (inl h) = inl (record { refused = λ other. is other ∙ h.refused other; code = h.code })
  deeper d ps t c sp f is (inr h) = inr (record { brace = h.brace; code = h.code; next = h.next; goes = is (limit + 1) ∙ h.goes })

  spot_refused : (d : ℕ) (ps : List Part) (sp : Spot) (t : Token) (c : Refusal) → d ≤ limit → spot_step limit (at ps d sp) sp t ≡ Err c → Refused signal_step limit (at ps d sp) t c
  unfolding signal_step spot_step
  spot_refused d ps spot.Begin t c le e = deeper d ps t c spot.Begin base_step (λ other. refl) (base_refused d ps spot.Begin t c le e)
  spot_refused d ps spot.After t c le e = deeper d ps t c spot.After after_step (λ other. refl) (after_refused d ps t c le e)
  spot_refused d ps spot.High t c le e = inl (record { refused = λ other. e; code = count_code t c (before (count_in t) (λ h. record { parts = ps; depth = d; spot = spot.Colon h }) c e) })
  spot_refused d ps (spot.Colon h) t c le e = inl (record { refused = λ other. e; code = colon_code (at ps d (spot.Colon h)) h t c e })
  spot_refused d ps (spot.Low h) t c le e = inl (record { refused = λ other. e; code = low_code (at ps d (spot.Low h)) h t c e })
  spot_refused d ps (spot.Close h l) t c le e = inl (record { refused = λ other. e; code = close_code (at ps d (spot.Close h l)) h l t c e })

  pub signal_refused : (s : Signal) (t : Token) (c : Refusal) → s.depth ≤ limit → signal_step limit s t ≡ Err c → Refused signal_step limit s t c
  unfolding signal_step
  signal_refused s t c le e = spot_refused s.depth s.parts s.spot t c le e

  -- a signal within a place
  within_refused : (s : Signal) (t : Token) (c : Refusal) (f : Signal → Place) (g : ℕ → Result Place Refusal) → s.depth ≤ limit
      → ((l : ℕ) → g l ≡ (signal_step l s t >>= λ n. done (f n))) → g limit ≡ Err c
      → (((other : ℕ) → g other ≡ Err c) × Own t c) ⊎ ((t ≡ token.OpenBrace) × (c ≡ refusal.Limit (limit + 1)) × (q : Place) × (g (limit + 1) ≡ Ok q))
  within_refused s t c f g le is e =
      elim (bind_err (signal_step limit s t) (λ n. done (f n)) c (sym (is limit) ∙ e)) [
        | inl failed ↦ elim (signal_refused s t c le failed) [
          | inl h ↦ inl (λ other. is other ∙ rw (h.refused other) refl, h.code)
          | inr h ↦ inr (h.brace, h.code, f h.next, is (limit + 1) ∙ rw h.goes refl)
        ]
        | inr went ↦ let k : done (f went.0) ≡ Err c = went.2 in absurd cc
      ]

  deep_place : (st : State) (p : Place) (t : Token) (c : Refusal) → (((other : ℕ) → step other st p t ≡ Err c) × Own t c) ⊎ ((t ≡ token.OpenBrace) × (c ≡ refusal.Limit (limit + 1)) × (q : Place) × (step (limit + 1) st p t ≡ Ok q))
      → Refused (λ l. step l st) limit p t c
  deep_place st p t c (inl h) = inl (record { refused = h.0; code = h.1 })
  deep_place st p t c (inr h) = inr (record { brace = h.0; code = h.1; next = h.2; goes = h.3 })

  left_is : (s : Signal) (t : Token) (b : Bool) → (is_whole s && not (begins_slice t)) ≡ b → (l : ℕ) → left_step l s t ≡ cond b (signal_step l no_signal t >>= (λ r. done (place.Right s.parts r))) (signal_step l s t >>= (λ m. done (place.Left m)))
  unfolding left_step
  left_is s t b e l = rw e refl

  left_refused : (s : Signal) (t : Token) (c : Refusal) (b : Bool) → (is_whole s && not (begins_slice t)) ≡ b → s.depth ≤ limit → left_step limit s t ≡ Err c
      → (((other : ℕ) → left_step other s t ≡ Err c) × Own t c) ⊎ ((t ≡ token.OpenBrace) × (c ≡ refusal.Limit (limit + 1)) × (q : Place) × (left_step (limit + 1) s t ≡ Ok q))
  unfolding no_signal
  left_refused s t c true q le e = within_refused no_signal t c (λ r. place.Right s.parts r) (λ l. left_step l s t) (omega arith) (left_is s t true q) e
  left_refused s t c false q le e = within_refused s t c (λ m. place.Left m) (λ l. left_step l s t) le (left_is s t false q) e

  -- no more braces are open than may be
  abbrev pub Deep : Place → Type 0
  Deep (place.Left s) = s.depth ≤ limit
  Deep (place.Right l s) = s.depth ≤ limit
  Deep (place.PinValue n s) = s.depth ≤ limit
  Deep p = Unit {0}

  abbrev pub IsBegun : Place → Type 0
  IsBegun place.Start = ⊥
  IsBegun p = Unit {0}

  plainly : (st : State) (p : Place) (t : Token) (c : Refusal) → IsPlain p → ((other : ℕ) → step other st p t ≡ Err c) → Refused (λ l. step l st) limit p t c
  plainly st p t c h e = inl (record { refused = e; code = plain_code limit st p t c h (e limit) })

  pub step_refused : (st : State) (p : Place) (t : Token) (c : Refusal) → IsBegun p → Deep p → step limit st p t ≡ Err c → Refused (λ l. step l st) limit p t c
  unfolding step
  step_refused st place.Start t c b le e = absurd b
  step_refused st (place.Left s) t c b le e = deep_place st (place.Left s) t c (left_refused s t c (is_whole s && not (begins_slice t)) refl le e)
  step_refused st (place.Right l s) t c b le e = deep_place st (place.Right l s) t c (within_refused s t c (λ n. place.Right l n) (λ k. step k st (place.Right l s) t) le (λ k. refl) e)
  step_refused st (place.PinValue m s) t c b le e = deep_place st (place.PinValue m s) t c (within_refused s t c (λ n. place.PinValue m n) (λ k. step k st (place.PinValue m s) t) le (λ k. refl) e)
  step_refused st p t c b le e = plainly st p t c tt (λ other. e)

pub start_alike : (limit other : ℕ) (st : State) (t : Token) (c : Refusal) → step limit st place.Start t ≡ Err c → step other st place.Start t ≡ Err c
unfolding step
start_alike limit other st t c e = e
