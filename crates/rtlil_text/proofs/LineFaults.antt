-- A line stops at its first fault.
use Rattle.std.proofs.Common.{◌≡◌, ℕ, ◌+◌, ◌≤◌, List, [], ◌∷◌, ◌++◌, Result, Ok, Err, refl, sym, ap, subst, ◌∙◌, append_assoc, append-nil, arith, ◌⊎◌, inl, inr}
use Rattle.rtlil_lex.specs.declared.token.Token.{Token}
use Rattle.rtlil_lex.specs.declared.token.Token.TheVariants as token
use Rattle.rtlil_lex.specs.declared.token.Word.TheVariants as word
use Rattle.rtlil_text.specs.declared.fault.Refusal.{Refusal}
use Rattle.rtlil_text.specs.declared.fault.Refusal.TheVariants as refusal
use Rattle.rtlil_text.specs.declared.place.Place.{Place}
use Rattle.rtlil_text.specs.declared.place.Place.TheVariants as place
use Rattle.rtlil_text.specs.declared.place.Statement.{Statement}
use Rattle.rtlil_text.specs.declared.signal.Signal.{Signal}
use Rattle.rtlil_text.specs.declared.state.State.{State}
use Rattle.rtlil_text.specs.Read.{◌>>=◌, refusal_at, steps}
use Rattle.rtlil_text.specs.ReadLine.{step, finish, statement_at}
use Rattle.rtlil_text.specs.Text.{here, IsOrdinary}
use Rattle.rtlil_text.proofs.Steps.{failed, ok_is, err_is, not_both, steps_nil, steps_first, steps_on, steps_refused}
use Rattle.rtlil_text.proofs.SignalFound.{HoldsSignal}
use Rattle.rtlil_text.proofs.LineFound.{Holds, some_token, steps_found}
use Rattle.rtlil_text.proofs.LineSays.{run, goes, next}
use Rattle.rtlil_text.proofs.Wider.{TooDeep, Refused, Deep, IsBegun, step_refused, start_alike, steps_wider}
use Rattle.rtlil_text.proofs.Completes.{place_goes_on}
use Rattle.rtlil_text.proofs.Codes.{Own, FirstCode, start_code, end_code}

-- with any limit of depth from this one on, no line goes on so
abbrev pub NeverGoes : ℕ → State → List Token → List Token → Type 0
NeverGoes limit st front rest = (other : ℕ) → limit ≤ other → (more : List Token) (s : Statement) → statement_at other st (front ++ here rest more) ≡ Ok s → ⊥

-- why a line is refused where rest stands behind its front
abbrev pub LineCause : ℕ → State → List Token → List Token → Refusal → Type 0
LineCause limit st front rest refusal.Token = (ts : List Token) × (rest ≡ token.Bad ∷ ts)
LineCause limit st front rest refusal.Process = (ts : List Token) × (front ≡ []) × (rest ≡ token.Word word.Process ∷ ts)
LineCause limit st front rest (refusal.Limit seen) = ((ts : List Token) × (rest ≡ token.Over seen ∷ ts)) ⊎ ((ts : List Token) × (rest ≡ token.OpenBrace ∷ ts) × (seen ≡ limit + 1) × (more : List Token) × (s : Statement) × (statement_at (limit + 1) st (front ++ here rest more) ≡ Ok s))
LineCause limit st front rest refusal.Grammar = IsOrdinary front rest × NeverGoes limit st front rest

pub record LineFault (limit : ℕ) (st : State) (ts : List Token) (c : Refusal) : Type 0 where
  pub front : List Token
  pub rest : List Token
  pub parts : ts ≡ front ++ rest
  pub can : (more : List Token) × (s : Statement) × (statement_at limit st (front ++ more) ≡ Ok s)
  pub cannot : (more : List Token) (s : Statement) → statement_at limit st (front ++ here rest more) ≡ Ok s → ⊥
  pub why : LineCause limit st front rest c

-- ---- depth

signal_depth : (limit : ℕ) (s : Signal) (ts : List Token) → HoldsSignal limit s ts → s.depth ≤ limit
signal_depth limit s ts h = omega (arith, h.nests.sum)

holds_deep : (limit : ℕ) (st : State) (p : Place) (ts : List Token) → Holds limit st p ts → Deep limit p
holds_deep limit st (place.Left s) ts h = signal_depth limit s h.0.signal h.0.holds
holds_deep limit st (place.Right l s) ts h = signal_depth limit s h.0.right h.0.holds
holds_deep limit st (place.PinValue n s) ts h = signal_depth limit s h.0.signal h.0.holds
holds_deep limit st p ts h = tt

-- ---- a token that is refused

-- what stands before it is read
record Before (limit : ℕ) (st : State) (front : List Token) (p : Place) : Type 0 where
  reads : steps (step limit st) place.Start front ≡ Ok p
  holds : Holds limit st p front

not_start_of : (limit : ℕ) (p : Place) → IsBegun limit p → p ≡ place.Start → ⊥
not_start_of limit place.Start g e = g
not_start_of limit p g e = absurd cc

by_token : (limit : ℕ) (st : State) (front : List Token) (t : Token) (ts : List Token) (c : Refusal) → (front ≡ [] → t ≡ token.Word word.Process → ⊥) → Own t c → NeverGoes limit st front (t ∷ ts) → LineCause limit st front (t ∷ ts) c
unfolding refusal_at
by_token limit st front token.Bad ts c first own never = subst (λ (x : Refusal). LineCause limit st front (token.Bad ∷ ts) x) (sym own) (ts, refl)
by_token limit st front (token.Over seen) ts c first own never = subst (λ (x : Refusal). LineCause limit st front (token.Over seen ∷ ts) x) (sym own) (inl (ts, refl))
by_token limit st front (token.Word word.Process) ts c first own never = subst (λ (x : Refusal). LineCause limit st front (token.Word word.Process ∷ ts) x) (sym own) (λ e. first e refl, never)
by_token limit st front t ts c first own never = subst (λ (x : Refusal). LineCause limit st front (t ∷ ts) x) (sym own) (tt, never)

module _ (limit : ℕ) (st : State) (front : List Token) (p : Place) (b : Before limit st front p) where
  goes_on : (more : List Token) × (s : Statement) × (statement_at limit st (front ++ more) ≡ Ok s)
  goes_on = let k = place_goes_on limit st p in (k.tokens, k.statement, goes limit st place.Start p front k.tokens b.reads ∙ k.is)

  -- a token that is refused at a limit is refused there whatever follows
  stuck : (other : ℕ) (t : Token) (c : Refusal) → limit ≤ other → step other st p t ≡ Err c → (more : List Token) (s : Statement) → statement_at other st (front ++ t ∷ more) ≡ Ok s → ⊥
  stuck other t c le e more s k =
      let same = goes other st place.Start p front (t ∷ more) (steps_wider limit other le st place.Start front p b.reads) in
      let bad : run other st p (t ∷ more) ≡ Err c = ap (λ (r : Result Place Refusal). r >>= λ q. finish q) (steps_refused (step other st) p t more c e) in
      not_both (run other st p (t ∷ more)) s c (sym same ∙ k) bad

  ends_stuck : (other : ℕ) (c : Refusal) → limit ≤ other → finish p ≡ Err c → (s : Statement) → statement_at other st (front ++ []) ≡ Ok s → ⊥
  ends_stuck other c le e s k =
      let same = goes other st place.Start p front [] (steps_wider limit other le st place.Start front p b.reads) in
      let bad : run other st p [] ≡ Err c = ap (λ (r : Result Place Refusal). r >>= λ q. finish q) (steps_nil (step other st) p) ∙ e in
      not_both (run other st p []) s c (sym same ∙ k) bad

  never : (t : Token) (ts : List Token) (c : Refusal) → ((other : ℕ) → step other st p t ≡ Err c) → NeverGoes limit st front (t ∷ ts)
  never t ts c h other le more s k = stuck other t c le (h other) more s k

  begun_front : IsBegun limit p → front ≡ [] → ⊥
  begun_front g e = not_start_of limit p g (sym (ok_is {A = Place} place.Start p (sym (steps_nil (step limit st) place.Start) ∙ ap (steps (step limit st) place.Start) (sym e) ∙ b.reads)))

  cause_alike : (t : Token) (ts : List Token) (c : Refusal) → (front ≡ [] → t ≡ token.Word word.Process → ⊥) → Own t c → ((other : ℕ) → step other st p t ≡ Err c) → LineCause limit st front (t ∷ ts) c
  cause_alike t ts c first own h = by_token limit st front t ts c first own (never t ts c h)

  cause_deep : (t : Token) (ts : List Token) (c : Refusal) → TooDeep (λ l. step l st) limit p t c → LineCause limit st front (t ∷ ts) c
  cause_deep t ts c h =
      let k = place_goes_on (limit + 1) st h.next in
      let before = steps_wider limit (limit + 1) (omega arith) st place.Start front p b.reads in
      let whole : statement_at (limit + 1) st (front ++ t ∷ k.tokens) ≡ Ok k.statement = goes (limit + 1) st place.Start p front (t ∷ k.tokens) before ∙ next (limit + 1) st p h.next t k.tokens h.goes ∙ k.is in
      subst (λ (x : Refusal). LineCause limit st front (t ∷ ts) x) (sym h.code) (inr (ts, ap (λ (x : Token). x ∷ ts) h.brace, refl, k.tokens, k.statement, whole))

  cause_begun : (t : Token) (ts : List Token) (c : Refusal) → IsBegun limit p → Refused (λ l. step l st) limit p t c → LineCause limit st front (t ∷ ts) c
  cause_begun t ts c g (inl h) = cause_alike t ts c (λ e k. begun_front g e) h.code h.refused
  cause_begun t ts c g (inr h) = cause_deep t ts c h

  token_fault : (t : Token) (ts : List Token) (c : Refusal) → LineCause limit st front (t ∷ ts) c → step limit st p t ≡ Err c → LineFault limit st (front ++ t ∷ ts) c
  token_fault t ts c why e = record {
    front = front;
    rest = t ∷ ts;
    parts = refl;
    can = goes_on;
    cannot = stuck limit t c (omega arith) e;
    why = why;
  }

  end_fault : (c : Refusal) → finish p ≡ Err c → LineFault limit st front c
  end_fault c e = record {
    front = front;
    rest = [];
    parts = sym (append-nil front);
    can = goes_on;
    cannot = λ more s k. ends_stuck limit c (omega arith) e s k;
    why = subst (λ (x : Refusal). LineCause limit st front [] x) (sym (end_code p c e)) (tt, λ other le more s k. ends_stuck other c le e s k);
  }

begun_behind : (limit : ℕ) (st : State) (p : Place) (ts : List Token) (t : Token) → Holds limit st p (ts ++ t ∷ []) → IsBegun limit p
begun_behind limit st place.Start ts t h = some_token ts t h
begun_behind limit st p ts t h = tt

reads_more : (limit : ℕ) (st : State) (front : List Token) (p q : Place) (t : Token) → Before limit st front p → step limit st p t ≡ Ok q → Before limit st (front ++ t ∷ []) q
reads_more limit st front p q t b h =
    let k : steps (step limit st) place.Start (front ++ t ∷ []) ≡ Ok q = steps_on (step limit st) place.Start p front (t ∷ []) b.reads ∙ steps_first (step limit st) p q t [] h ∙ steps_nil (step limit st) q in
    record { reads = k; holds = steps_found limit st place.Start q [] (front ++ t ∷ []) k refl }

faults : (limit : ℕ) (st : State) (ts front : List Token) (p : Place) → Before limit st front p → IsBegun limit p → (c : Refusal) → (steps (step limit st) p ts >>= λ q. finish q) ≡ Err c → LineFault limit st (front ++ ts) c
unfolding steps
faults limit st [] front p b g c e = subst (λ (x : List Token). LineFault limit st x c) (sym (append-nil front)) (end_fault limit st front p b c e)
faults limit st (t ∷ ts) front p b g c e = by_step (step limit st p t) refl e (λ n on k h. faults limit st ts (front ++ t ∷ []) n on k c h) where
  by_step : (r : Result Place Refusal) → step limit st p t ≡ r → ((r >>= λ n. steps (step limit st) n ts) >>= λ x. finish x) ≡ Err c
      → ((n : Place) → Before limit st (front ++ t ∷ []) n → IsBegun limit n → (steps (step limit st) n ts >>= λ x. finish x) ≡ Err c → LineFault limit st ((front ++ t ∷ []) ++ ts) c) → LineFault limit st (front ++ t ∷ ts) c
  by_step (Err x) h k again =
      let own : step limit st p t ≡ Err c = h ∙ ap (λ (y : Refusal). failed {A = Place} y) (err_is {A = Statement} x c k) in
      token_fault limit st front p b t ts c (cause_begun limit st front p b t ts c g (step_refused limit st p t c g (holds_deep limit st p front b.holds) own)) own
  by_step (Ok n) h k again =
      let on = reads_more limit st front p n t b h in
      subst (λ (x : List Token). LineFault limit st x c) (append_assoc front (t ∷ []) ts) (again n on (begun_behind limit st n front t on.holds) k)

first_cause : (limit : ℕ) (st : State) (b : Before limit st [] place.Start) (t : Token) (ts : List Token) (c : Refusal) → step limit st place.Start t ≡ Err c → FirstCode t c → LineCause limit st [] (t ∷ ts) c
first_cause limit st b t ts c e (inl h) = subst (λ (x : Refusal). LineCause limit st [] (t ∷ ts) x) (sym h.1) (ts, refl, ap (λ (x : Token). x ∷ ts) h.0)
first_cause limit st b t ts c e (inr h) = cause_alike limit st [] place.Start b t ts c (λ x k. h.1 k) h.0 (λ other. start_alike limit other st t c e)

at_start : (limit : ℕ) (st : State) → Before limit st [] place.Start
at_start limit st = record { reads = steps_nil (step limit st) place.Start; holds = refl }

pub line_fault : (limit : ℕ) (st : State) (ts : List Token) (c : Refusal) → statement_at limit st ts ≡ Err c → LineFault limit st ts c
unfolding steps
line_fault limit st [] c e = end_fault limit st [] place.Start (at_start limit st) c e
line_fault limit st (t ∷ ts) c e = by_step (step limit st place.Start t) refl e where
  by_step : (r : Result Place Refusal) → step limit st place.Start t ≡ r → ((r >>= λ n. steps (step limit st) n ts) >>= λ x. finish x) ≡ Err c → LineFault limit st (t ∷ ts) c
  by_step (Err x) h k =
      let own : step limit st place.Start t ≡ Err c = h ∙ ap (λ (y : Refusal). failed {A = Place} y) (err_is {A = Statement} x c k) in
      token_fault limit st [] place.Start (at_start limit st) t ts c (first_cause limit st (at_start limit st) t ts c own (start_code limit st t c own)) own
  by_step (Ok n) h k =
      let on = reads_more limit st [] place.Start n t (at_start limit st) h in
      faults limit st ts (t ∷ []) n on (begun_behind limit st n [] t on.holds) c k
