-- What was read of a signal is what the grammar says.
use Rattle.std.proofs.Common.{◌≡◌, ℕ, pos, negsuc, zero, suc, ◌+◌, ◌<◌, ◌≤◌, Bool, true, false, cond, List, [], ◌∷◌, ◌++◌, Ok, Err, refl, sym, ap, subst, ◌∙◌, append_assoc, append-nil, arith, add-one}
use Rattle.std.specs.Prelude.{◌==◌, nat_lt}
use Rattle.std.proofs.lemmas.Bool.{ltb-true, ltb-false}
use Rattle.std.proofs.Math.Dec.{eqb-suc-zero}
use Rattle.rtlil_lex.specs.declared.token.Token.{Token}
use Rattle.rtlil_lex.specs.declared.token.Token.TheVariants as token
use Rattle.rtlil_text.specs.declared.doc.DocConst.TheVariants as const
use Rattle.rtlil_text.specs.declared.doc.Part.{Part}
use Rattle.rtlil_text.specs.declared.doc.Part.TheVariants as part
use Rattle.rtlil_text.specs.declared.fault.Refusal.TheVariants as refusal
use Rattle.rtlil_text.specs.declared.signal.Signal.{Signal}
use Rattle.rtlil_text.specs.declared.signal.Spot.{Spot}
use Rattle.rtlil_text.specs.declared.signal.Spot.TheVariants as spot
use Rattle.rtlil_text.specs.Read.{◌>>=◌, refusal_at}
use Rattle.rtlil_text.specs.Grammar.{IsSlice, alone, range, IsSignal, fixed, wire, slice, group, AreSignals, none, more, NestsWithin}
use Rattle.rtlil_text.specs.ReadSignal.{no_signal, whole_at, is_whole, count_of, count_in, opened, closed, closed_at, base_step, at_spot, after_step, colon_step, close_step, low_step, spot_step, signal_step}
use Rattle.rtlil_text.proofs.Steps.{bind_ok, done, ok_is}

-- ---- braces that are open, with the signals in each

pub record InBrace (Outer : List Part → List Token → Type 0) (ps : List Part) (ts : List Token) : Type 0 where
  pub before : List Part
  pub inner : List Part
  pub us : List Token
  pub vs : List Token
  pub outer : Outer before us
  pub signals : AreSignals inner vs
  pub parts : ps ≡ before ++ (part.Begin ∷ inner)
  pub tokens : ts ≡ us ++ (token.OpenBrace ∷ vs)

abbrev pub Pending : ℕ → List Part → List Token → Type 0
Pending zero ps ts = (ps ≡ []) × (ts ≡ [])
Pending (suc d) ps ts = InBrace (Pending d) ps ts

-- one more signal stands behind
pub record After (d : ℕ) (ps : List Part) (ts : List Token) : Type 0 where
  pub before : List Part
  pub last : List Part
  pub us : List Token
  pub vs : List Token
  pub outer : Pending d before us
  pub signal : IsSignal last vs
  pub parts : ps ≡ before ++ last
  pub tokens : ts ≡ us ++ vs

-- and a slice that did not end yet
pub record Slicing (d : ℕ) (ps : List Part) (ts open_tokens : List Token) : Type 0 where
  pub us : List Token
  pub after : After d ps us
  pub tokens : ts ≡ us ++ open_tokens

abbrev pub HoldsSpot : Spot → ℕ → List Part → List Token → Type 0
HoldsSpot spot.Begin d ps ts = Pending d ps ts
HoldsSpot spot.After d ps ts = After d ps ts
HoldsSpot spot.High d ps ts = Slicing d ps ts (token.OpenBracket ∷ [])
HoldsSpot (spot.Colon high) d ps ts = Slicing d ps ts (token.OpenBracket ∷ token.Number (pos high) ∷ [])
HoldsSpot (spot.Low high) d ps ts = Slicing d ps ts (token.OpenBracket ∷ token.Number (pos high) ∷ token.Colon ∷ [])
HoldsSpot (spot.Close high low) d ps ts = (low ≤ high) × Slicing d ps ts (token.OpenBracket ∷ token.Number (pos high) ∷ token.Colon ∷ token.Number (pos low) ∷ [])

-- with d braces open, so much room is left for what follows
pub record Nested (limit d : ℕ) (ps : List Part) : Type 0 where
  pub room : ℕ
  pub sum : d + room ≡ limit
  pub goes : (qs : List Part) → NestsWithin room qs → NestsWithin limit (ps ++ qs)

pub record HoldsParts (limit : ℕ) (ps : List Part) (d : ℕ) (sp : Spot) (ts : List Token) : Type 0 where
  pub spelled : HoldsSpot sp d ps ts
  pub nests : Nested limit d ps

abbrev pub HoldsSignal : ℕ → Signal → List Token → Type 0
HoldsSignal limit s ts = HoldsParts limit s.parts s.depth s.spot ts

-- ---- lists of signals

pub signals_end : (ps qs : List Part) (ts us : List Token) → AreSignals ps ts → IsSignal qs us → AreSignals (ps ++ qs) (ts ++ us)
signals_end ps qs ts us none h =
    subst (λ (x : List Part). AreSignals x us) (append-nil qs) (subst (λ (x : List Token). AreSignals (qs ++ []) x) (append-nil us) (more h none))
signals_end ps qs ts us (more {ps = a} {qs = b} {ts = c} {us = d} first rest) h =
    subst (λ (x : List Part). AreSignals x ((c ++ d) ++ us)) (sym (append_assoc a b qs)) (subst (λ (x : List Token). AreSignals (a ++ (b ++ qs)) x) (sym (append_assoc c d us)) (more first (signals_end b qs d us rest h)))

pub after_pending : (d : ℕ) (ps : List Part) (ts : List Token) → After (suc d) ps ts → Pending (suc d) ps ts
after_pending d ps ts a =
    let o = a.outer in
    record {
      before = o.before;
      inner = o.inner ++ a.last;
      us = o.us;
      vs = o.vs ++ a.vs;
      outer = o.outer;
      signals = signals_end o.inner a.last o.vs a.vs o.signals a.signal;
      parts = a.parts ∙ ap (λ (x : List Part). x ++ a.last) o.parts ∙ append_assoc o.before (part.Begin ∷ o.inner) a.last;
      tokens = a.tokens ∙ ap (λ (x : List Token). x ++ a.vs) o.tokens ∙ append_assoc o.us (token.OpenBrace ∷ o.vs) a.vs;
    }

-- ---- room for braces

nested_on : (limit d : ℕ) (ps : List Part) (p : Part) → ((room : ℕ) (qs : List Part) → NestsWithin room qs → NestsWithin room (p ∷ qs)) → Nested limit d ps → Nested limit d (ps ++ p ∷ [])
nested_on limit d ps p keeps n = record {
  room = n.room;
  sum = n.sum;
  goes = λ qs h. subst (λ (x : List Part). NestsWithin limit x) (sym (append_assoc ps (p ∷ []) qs)) (n.goes (p ∷ qs) (keeps n.room qs h));
}

nested_begin : (limit d : ℕ) (ps : List Part) → d < limit → Nested limit d ps → Nested limit (d + 1) (ps ++ part.Begin ∷ [])
nested_begin limit d ps lt n = begin_with n.room n.sum n.goes where
  begin_with : (room : ℕ) → d + room ≡ limit → ((qs : List Part) → NestsWithin room qs → NestsWithin limit (ps ++ qs)) → Nested limit (d + 1) (ps ++ part.Begin ∷ [])
  begin_with zero s g = absurd (omega arith)
  begin_with (suc room) s g = record { room = room; sum = omega arith; goes = λ qs h. subst (λ (x : List Part). NestsWithin limit x) (sym (append_assoc ps (part.Begin ∷ []) qs)) (g (part.Begin ∷ qs) h) }

nested_end : (limit d : ℕ) (ps : List Part) → Nested limit (suc d) ps → Nested limit d (ps ++ part.End ∷ [])
nested_end limit d ps n = record {
  room = suc n.room;
  sum = omega (arith, n.sum);
  goes = λ qs h. subst (λ (x : List Part). NestsWithin limit x) (sym (append_assoc ps (part.End ∷ []) qs)) (n.goes (part.End ∷ qs) h);
}

pub nothing_read : (limit : ℕ) → HoldsSignal limit no_signal []
unfolding no_signal
nothing_read limit = record { spelled = (refl, refl); nests = record { room = limit; sum = omega arith; goes = λ qs h. h } }

-- ---- one token

put : (limit d : ℕ) (ps : List Part) (p : Part) (t : Token) (ts : List Token) (n : Signal) → IsSignal (p ∷ []) (t ∷ []) → ((room : ℕ) (qs : List Part) → NestsWithin room qs → NestsWithin room (p ∷ qs))
    → Pending d ps ts → Nested limit d ps → done (record { parts = ps ++ p ∷ []; depth = d; spot = spot.After }) ≡ done n → HoldsSignal limit n (ts ++ t ∷ [])
put limit d ps p t ts n is keeps h nests e =
    subst (λ (x : Signal). HoldsSignal limit x (ts ++ t ∷ [])) (ok_is {A = Signal} (record { parts = ps ++ p ∷ []; depth = d; spot = spot.After }) n e)
    (record { spelled = record { before = ps; last = p ∷ []; us = ts; vs = t ∷ []; outer = h; signal = is; parts = refl; tokens = refl }; nests = nested_on limit d ps p keeps nests })

opened_found : (limit d : ℕ) (ps : List Part) (ts : List Token) (n : Signal) (b : Bool) → nat_lt d limit ≡ b → Pending d ps ts → Nested limit d ps
    → cond b (done (record { parts = ps ++ part.Begin ∷ []; depth = d + 1; spot = spot.Begin })) (Err (refusal.Limit (limit + 1))) ≡ done n → HoldsSignal limit n (ts ++ token.OpenBrace ∷ [])
opened_found limit d ps ts n false lt h nests e = absurd cc
opened_found limit d ps ts n true lt h nests e =
    let fits : d < limit = ltb-true d limit lt in
    let k : Pending (suc d) (ps ++ part.Begin ∷ []) (ts ++ token.OpenBrace ∷ []) = record { before = ps; inner = []; us = ts; vs = []; outer = h; signals = none; parts = refl; tokens = refl } in
    let k1 : Pending (d + 1) (ps ++ part.Begin ∷ []) (ts ++ token.OpenBrace ∷ []) = subst (λ (x : ℕ). Pending x (ps ++ part.Begin ∷ []) (ts ++ token.OpenBrace ∷ [])) (sym (add-one d)) k in
    subst (λ (x : Signal). HoldsSignal limit x (ts ++ token.OpenBrace ∷ [])) (ok_is {A = Signal} (record { parts = ps ++ part.Begin ∷ []; depth = d + 1; spot = spot.Begin }) n e)
    (record { spelled = k1; nests = nested_begin limit d ps fits nests })

closed_found : (limit d : ℕ) (ps : List Part) (sp : Spot) (ts : List Token) (n : Signal) → closed_at (record { parts = ps; depth = d; spot = sp }) d ≡ Ok n → Pending d ps ts → Nested limit d ps → HoldsSignal limit n (ts ++ token.CloseBrace ∷ [])
unfolding closed_at
closed_found limit zero ps sp ts n e h nests = absurd cc
closed_found limit (suc d) ps sp ts n e h nests =
    subst (λ (x : Signal). HoldsSignal limit x (ts ++ token.CloseBrace ∷ [])) (ok_is {A = Signal} (record { parts = ps ++ part.End ∷ []; depth = d; spot = spot.After }) n e)
    (record {
      spelled = record {
        before = h.before;
        last = part.Begin ∷ (h.inner ++ part.End ∷ []);
        us = h.us;
        vs = token.OpenBrace ∷ (h.vs ++ token.CloseBrace ∷ []);
        outer = h.outer;
        signal = group h.signals;
        parts = ap (λ (x : List Part). x ++ part.End ∷ []) h.parts ∙ append_assoc h.before (part.Begin ∷ h.inner) (part.End ∷ []);
        tokens = ap (λ (x : List Token). x ++ token.CloseBrace ∷ []) h.tokens ∙ append_assoc h.us (token.OpenBrace ∷ h.vs) (token.CloseBrace ∷ []);
      };
      nests = nested_end limit d ps nests;
    })

base_found : (limit d : ℕ) (ps : List Part) (sp : Spot) (t : Token) (ts : List Token) (n : Signal) → base_step limit (record { parts = ps; depth = d; spot = sp }) t ≡ Ok n → Pending d ps ts → Nested limit d ps → HoldsSignal limit n (ts ++ t ∷ [])
unfolding base_step opened closed
base_found limit d ps sp token.OpenBrace ts n e h nests = opened_found limit d ps ts n (nat_lt d limit) refl h nests e
base_found limit d ps sp token.CloseBrace ts n e h nests = closed_found limit d ps sp ts n e h nests
base_found limit d ps sp (token.Id m) ts n e h nests = put limit d ps (part.Wire m) (token.Id m) ts n (wire m) (λ room qs k. k) h nests e
base_found limit d ps sp (token.Digits ds) ts n e h nests = put limit d ps (part.Fixed (const.Digits ds)) (token.Digits ds) ts n (fixed (const.Digits ds)) (λ room qs k. k) h nests e
base_found limit d ps sp (token.Number z) ts n e h nests = put limit d ps (part.Fixed (const.Number z)) (token.Number z) ts n (fixed (const.Number z)) (λ room qs k. k) h nests e
base_found limit d ps sp (token.Text x) ts n e h nests = put limit d ps (part.Fixed (const.Text x)) (token.Text x) ts n (fixed (const.Text x)) (λ room qs k. k) h nests e
base_found limit d ps sp t ts n e h nests = absurd cc

base_after : (limit d : ℕ) (ps : List Part) (t : Token) (ts : List Token) (n : Signal) → cond (d == 0) (Err (refusal_at t)) (base_step limit (record { parts = ps; depth = d; spot = spot.After }) t) ≡ Ok n → After d ps ts → Nested limit d ps → HoldsSignal limit n (ts ++ t ∷ [])
base_after limit zero ps t ts n e h nests = absurd cc
base_after limit (suc d) ps t ts n e h nests = base_found limit (suc d) ps spot.After t ts n (rw (eqb-suc-zero d) at e) (after_pending d ps ts h) nests

after_found : (limit d : ℕ) (ps : List Part) (t : Token) (ts : List Token) (n : Signal) → after_step limit (record { parts = ps; depth = d; spot = spot.After }) t ≡ Ok n → After d ps ts → Nested limit d ps → HoldsSignal limit n (ts ++ t ∷ [])
unfolding after_step
after_found limit d ps token.OpenBracket ts n e h nests =
    subst (λ (x : Signal). HoldsSignal limit x (ts ++ token.OpenBracket ∷ [])) (ok_is {A = Signal} (record { parts = ps; depth = d; spot = spot.High }) n e)
    (record { spelled = record { us = ts; after = h; tokens = refl }; nests = nests })
after_found limit d ps t ts n e h nests = base_after limit d ps t ts n e h nests

pub count_is : (t : Token) (n : ℕ) → count_in t ≡ Ok n → t ≡ token.Number (pos n)
unfolding count_in count_of
count_is (token.Number (pos m)) n e = ap (λ (x : ℕ). token.Number (pos x)) (ok_is m n e)
count_is (token.Number (negsuc m)) n e = absurd cc
count_is t n e = absurd cc

-- what a slice that did not end goes on with
slicing_on : (d : ℕ) (ps : List Part) (ts a : List Token) (t : Token) → Slicing d ps ts a → Slicing d ps (ts ++ t ∷ []) (a ++ t ∷ [])
slicing_on d ps ts a t s = record { us = s.us; after = s.after; tokens = ap (λ (x : List Token). x ++ t ∷ []) s.tokens ∙ append_assoc s.us a (t ∷ []) }

high_found : (limit d : ℕ) (ps : List Part) (t : Token) (ts : List Token) (n : Signal) → (count_in t >>= λ high. at_spot (record { parts = ps; depth = d; spot = spot.High }) (spot.Colon high)) ≡ Ok n
    → Slicing d ps ts (token.OpenBracket ∷ []) → Nested limit d ps → HoldsSignal limit n (ts ++ t ∷ [])
high_found limit d ps t ts n e h nests =
    let b = bind_ok (count_in t) (λ high. at_spot (record { parts = ps; depth = d; spot = spot.High }) (spot.Colon high)) n e in
    let k : Slicing d ps (ts ++ t ∷ []) (token.OpenBracket ∷ token.Number (pos b.0) ∷ []) =
    subst (λ (u : Token). Slicing d ps (ts ++ t ∷ []) (token.OpenBracket ∷ u ∷ [])) (count_is t b.0 b.1) (slicing_on d ps ts (token.OpenBracket ∷ []) t h) in
    subst (λ (x : Signal). HoldsSignal limit x (ts ++ t ∷ [])) (ok_is {A = Signal} (record { parts = ps; depth = d; spot = spot.Colon b.0 }) n b.2) (record { spelled = k; nests = nests })

sliced_found : (limit d high low : ℕ) (ps : List Part) (ts us : List Token) (n : Signal) → IsSlice high low us → done (record { parts = ps ++ part.Slice high low ∷ []; depth = d; spot = spot.After }) ≡ done n
    → Slicing d ps ts us → Nested limit d ps → HoldsSignal limit n ts
sliced_found limit d high low ps ts us n is e h nests =
    let a = h.after in
    subst (λ (x : Signal). HoldsSignal limit x ts) (ok_is {A = Signal} (record { parts = ps ++ part.Slice high low ∷ []; depth = d; spot = spot.After }) n e)
    (record {
      spelled = record {
        before = a.before;
        last = a.last ++ part.Slice high low ∷ [];
        us = a.us;
        vs = a.vs ++ us;
        outer = a.outer;
        signal = slice a.signal is;
        parts = ap (λ (x : List Part). x ++ part.Slice high low ∷ []) a.parts ∙ append_assoc a.before a.last (part.Slice high low ∷ []);
        tokens = h.tokens ∙ ap (λ (x : List Token). x ++ us) a.tokens ∙ append_assoc a.us a.vs us;
      };
      nests = nested_on limit d ps (part.Slice high low) (λ room qs k. k) nests;
    })

colon_found : (limit d high : ℕ) (ps : List Part) (t : Token) (ts : List Token) (n : Signal) → colon_step (record { parts = ps; depth = d; spot = spot.Colon high }) high t ≡ Ok n
    → Slicing d ps ts (token.OpenBracket ∷ token.Number (pos high) ∷ []) → Nested limit d ps → HoldsSignal limit n (ts ++ t ∷ [])
unfolding colon_step
colon_found limit d high ps token.Colon ts n e h nests =
    subst (λ (x : Signal). HoldsSignal limit x (ts ++ token.Colon ∷ [])) (ok_is {A = Signal} (record { parts = ps; depth = d; spot = spot.Low high }) n e)
    (record { spelled = slicing_on d ps ts (token.OpenBracket ∷ token.Number (pos high) ∷ []) token.Colon h; nests = nests })
colon_found limit d high ps token.CloseBracket ts n e h nests = sliced_found limit d high high ps (ts ++ token.CloseBracket ∷ []) _ n (alone high) e (slicing_on d ps ts (token.OpenBracket ∷ token.Number (pos high) ∷ []) token.CloseBracket h) nests
colon_found limit d high ps t ts n e h nests = absurd cc

low_at : (limit d high low : ℕ) (ps : List Part) (ts : List Token) (n : Signal) (b : Bool) → nat_lt high low ≡ b
    → cond b (Err refusal.Grammar) (done (record { parts = ps; depth = d; spot = spot.Close high low })) ≡ done n
    → Slicing d ps ts (token.OpenBracket ∷ token.Number (pos high) ∷ token.Colon ∷ token.Number (pos low) ∷ []) → Nested limit d ps → HoldsSignal limit n ts
low_at limit d high low ps ts n true lt e h nests = absurd cc
low_at limit d high low ps ts n false lt e h nests =
    subst (λ (x : Signal). HoldsSignal limit x ts) (ok_is {A = Signal} (record { parts = ps; depth = d; spot = spot.Close high low }) n e)
    (record { spelled = (ltb-false high low lt, h); nests = nests })

low_found : (limit d high : ℕ) (ps : List Part) (t : Token) (ts : List Token) (n : Signal) → (count_in t >>= λ low. low_step (record { parts = ps; depth = d; spot = spot.Low high }) high low) ≡ Ok n
    → Slicing d ps ts (token.OpenBracket ∷ token.Number (pos high) ∷ token.Colon ∷ []) → Nested limit d ps → HoldsSignal limit n (ts ++ t ∷ [])
unfolding low_step
low_found limit d high ps t ts n e h nests =
    let b = bind_ok (count_in t) (λ low. low_step (record { parts = ps; depth = d; spot = spot.Low high }) high low) n e in
    let k : Slicing d ps (ts ++ t ∷ []) (token.OpenBracket ∷ token.Number (pos high) ∷ token.Colon ∷ token.Number (pos b.0) ∷ []) =
    subst (λ (u : Token). Slicing d ps (ts ++ t ∷ []) (token.OpenBracket ∷ token.Number (pos high) ∷ token.Colon ∷ u ∷ [])) (count_is t b.0 b.1) (slicing_on d ps ts (token.OpenBracket ∷ token.Number (pos high) ∷ token.Colon ∷ []) t h) in
    low_at limit d high b.0 ps (ts ++ t ∷ []) n (nat_lt high b.0) refl b.2 k nests

close_found : (limit d high low : ℕ) (ps : List Part) (t : Token) (ts : List Token) (n : Signal) → close_step (record { parts = ps; depth = d; spot = spot.Close high low }) high low t ≡ Ok n
    → low ≤ high → Slicing d ps ts (token.OpenBracket ∷ token.Number (pos high) ∷ token.Colon ∷ token.Number (pos low) ∷ []) → Nested limit d ps → HoldsSignal limit n (ts ++ t ∷ [])
unfolding close_step
close_found limit d high low ps token.CloseBracket ts n e le h nests =
    sliced_found limit d high low ps (ts ++ token.CloseBracket ∷ []) _ n (range high low le) e (slicing_on d ps ts (token.OpenBracket ∷ token.Number (pos high) ∷ token.Colon ∷ token.Number (pos low) ∷ []) token.CloseBracket h) nests
close_found limit d high low ps t ts n e le h nests = absurd cc

spot_found : (limit d : ℕ) (ps : List Part) (sp : Spot) (t : Token) (ts : List Token) (n : Signal) → spot_step limit (record { parts = ps; depth = d; spot = sp }) sp t ≡ Ok n
    → HoldsSpot sp d ps ts → Nested limit d ps → HoldsSignal limit n (ts ++ t ∷ [])
unfolding spot_step
spot_found limit d ps spot.Begin t ts n e h nests = base_found limit d ps spot.Begin t ts n e h nests
spot_found limit d ps spot.After t ts n e h nests = after_found limit d ps t ts n e h nests
spot_found limit d ps spot.High t ts n e h nests = high_found limit d ps t ts n e h nests
spot_found limit d ps (spot.Colon high) t ts n e h nests = colon_found limit d high ps t ts n e h nests
spot_found limit d ps (spot.Low high) t ts n e h nests = low_found limit d high ps t ts n e h nests
spot_found limit d ps (spot.Close high low) t ts n e h nests = close_found limit d high low ps t ts n e h.0 h.1 nests

pub signal_found : (limit : ℕ) (s n : Signal) (t : Token) (ts : List Token) → signal_step limit s t ≡ Ok n → HoldsSignal limit s ts → HoldsSignal limit n (ts ++ t ∷ [])
unfolding signal_step
signal_found limit s n t ts e h = spot_found limit s.depth s.parts s.spot t ts n e h.spelled h.nests

-- ---- the end of a signal

pub record Signalled (limit : ℕ) (ps : List Part) (ts : List Token) : Type 0 where
  pub is : IsSignal ps ts
  pub nests : NestsWithin limit ps

whole_parts : (limit d : ℕ) (ps : List Part) (ts : List Token) → d == 0 ≡ true → After d ps ts → Nested limit d ps → Signalled limit ps ts
whole_parts limit (suc d) ps ts e a n = let h : false ≡ true = rw (eqb-suc-zero d) at e in absurd cc
whole_parts limit zero ps ts e a n =
    let parts : ps ≡ a.last = a.parts ∙ ap (λ (x : List Part). x ++ a.last) a.outer.0 in
    let tokens : ts ≡ a.vs = a.tokens ∙ ap (λ (x : List Token). x ++ a.vs) a.outer.1 in
    record {
      is = subst (λ (x : List Part). IsSignal x ts) (sym parts) (subst (λ (x : List Token). IsSignal a.last x) (sym tokens) a.signal);
      nests = subst (λ (x : List Part). NestsWithin limit x) (append-nil ps) (n.goes [] tt);
    }

whole_spot : (limit d : ℕ) (ps : List Part) (sp : Spot) (ts : List Token) → whole_at d sp ≡ true → HoldsSpot sp d ps ts → Nested limit d ps → Signalled limit ps ts
unfolding whole_at
whole_spot limit d ps spot.After ts e h n = whole_parts limit d ps ts e h n
whole_spot limit d ps spot.Begin ts e h n = absurd cc
whole_spot limit d ps spot.High ts e h n = absurd cc
whole_spot limit d ps (spot.Colon high) ts e h n = absurd cc
whole_spot limit d ps (spot.Low high) ts e h n = absurd cc
whole_spot limit d ps (spot.Close high low) ts e h n = absurd cc

pub whole_found : (limit : ℕ) (s : Signal) (ts : List Token) → is_whole s ≡ true → HoldsSignal limit s ts → Signalled limit s.parts ts
unfolding is_whole
whole_found limit s ts e h = whole_spot limit s.depth s.parts s.spot ts e h.spelled h.nests
