-- What the grammar says of a signal is read so.
use Rattle.std.proofs.Common.{◌≡◌, ℕ, pos, zero, suc, ◌+◌, ◌<◌, ◌≤◌, List, [], ◌∷◌, ◌++◌, Result, Ok, refl, sym, ap, subst, ◌∙◌, append_assoc, append-nil, arith, add-one}
use Rattle.std.proofs.lemmas.Bool.{lt-ltb, le-ltb}
use Rattle.std.proofs.Math.Dec.{eqb-suc-zero}
use Rattle.rtlil_lex.specs.declared.token.Token.{Token}
use Rattle.rtlil_lex.specs.declared.token.Token.TheVariants as token
use Rattle.rtlil_text.specs.declared.doc.DocConst.{DocConst}
use Rattle.rtlil_text.specs.declared.doc.DocConst.TheVariants as const
use Rattle.rtlil_text.specs.declared.doc.Part.{Part}
use Rattle.rtlil_text.specs.declared.doc.Part.TheVariants as part
use Rattle.rtlil_text.specs.declared.fault.Refusal.{Refusal}
use Rattle.rtlil_text.specs.declared.signal.Signal.{Signal}
use Rattle.rtlil_text.specs.declared.signal.Spot.{Spot}
use Rattle.rtlil_text.specs.declared.signal.Spot.TheVariants as spot
use Rattle.rtlil_text.specs.Read.{steps}
use Rattle.rtlil_text.specs.Grammar.{const_token, IsSlice, alone, range, IsSignal, fixed, wire, slice, group, AreSignals, none, more, NestsWithin}
use Rattle.rtlil_text.specs.ReadSignal.{no_signal, count_of, count_in, opened, closed, closed_at, base_step, after_step, colon_step, close_step, low_step, spot_step, signal_step}
use Rattle.rtlil_text.proofs.Steps.{done, steps_on, steps_first, steps_nil}

abbrev pub at : List Part → ℕ → Spot → Signal
at ps d sp = record { parts = ps; depth = d; spot = sp }

-- where a signal may begin: at a begin, or behind another one within braces
abbrev pub MayBegin : ℕ → Spot → Type 0
MayBegin d spot.Begin = Unit {0}
MayBegin zero spot.After = ⊥
MayBegin (suc d) spot.After = Unit {0}
MayBegin d s = ⊥

abbrev Plain : Token → Type 0
Plain token.OpenBracket = ⊥
Plain t = Unit {0}

plain_after : (limit d : ℕ) (s : Signal) (t : Token) → Plain t → s.depth ≡ suc d → after_step limit s t ≡ base_step limit s t
unfolding after_step
plain_after limit d s token.OpenBracket p e = absurd p
plain_after limit d s t p e = rw (e, eqb-suc-zero d) refl

based : (limit d : ℕ) (ps : List Part) (sp : Spot) (t : Token) → MayBegin d sp → Plain t → signal_step limit (at ps d sp) t ≡ base_step limit (at ps d sp) t
unfolding signal_step spot_step
based limit d ps spot.Begin t m p = refl
based limit zero ps spot.After t m p = absurd m
based limit (suc d) ps spot.After t m p = plain_after limit d (at ps (suc d) spot.After) t p refl
based limit d ps spot.High t m p = absurd m
based limit d ps (spot.Colon h) t m p = absurd m
based limit d ps (spot.Low h) t m p = absurd m
based limit d ps (spot.Close h l) t m p = absurd m

const_plain : (c : DocConst) → Plain (const_token c)
const_plain (const.Digits ds) = tt
const_plain (const.Number z) = tt
const_plain (const.Text t) = tt

const_base : (limit d : ℕ) (ps : List Part) (sp : Spot) (c : DocConst) → base_step limit (at ps d sp) (const_token c) ≡ Ok (at (ps ++ part.Fixed c ∷ []) d spot.After)
unfolding base_step
const_base limit d ps sp (const.Digits ds) = refl
const_base limit d ps sp (const.Number z) = refl
const_base limit d ps sp (const.Text t) = refl

wire_base : (limit d : ℕ) (ps : List Part) (sp : Spot) (n : List ℕ) → base_step limit (at ps d sp) (token.Id n) ≡ Ok (at (ps ++ part.Wire n ∷ []) d spot.After)
unfolding base_step
wire_base limit d ps sp n = refl

open_base : (limit d : ℕ) (ps : List Part) (sp : Spot) → d < limit → base_step limit (at ps d sp) token.OpenBrace ≡ Ok (at (ps ++ part.Begin ∷ []) (suc d) spot.Begin)
unfolding base_step opened
open_base limit d ps sp lt = rw (lt-ltb d limit lt, add-one) refl

close_base : (limit d : ℕ) (ps : List Part) (sp : Spot) → base_step limit (at ps (suc d) sp) token.CloseBrace ≡ Ok (at (ps ++ part.End ∷ []) d spot.After)
unfolding base_step closed closed_at
close_base limit d ps sp = refl

-- ---- slices

slice_open : (limit d : ℕ) (ps : List Part) → signal_step limit (at ps d spot.After) token.OpenBracket ≡ Ok (at ps d spot.High)
unfolding signal_step spot_step after_step
slice_open limit d ps = refl

slice_high : (limit d h : ℕ) (ps : List Part) → signal_step limit (at ps d spot.High) (token.Number (pos h)) ≡ Ok (at ps d (spot.Colon h))
unfolding signal_step spot_step count_in count_of
slice_high limit d h ps = refl

slice_alone : (limit d h : ℕ) (ps : List Part) → signal_step limit (at ps d (spot.Colon h)) token.CloseBracket ≡ Ok (at (ps ++ part.Slice h h ∷ []) d spot.After)
unfolding signal_step spot_step colon_step
slice_alone limit d h ps = refl

slice_colon : (limit d h : ℕ) (ps : List Part) → signal_step limit (at ps d (spot.Colon h)) token.Colon ≡ Ok (at ps d (spot.Low h))
unfolding signal_step spot_step colon_step
slice_colon limit d h ps = refl

slice_low : (limit d h l : ℕ) (ps : List Part) → l ≤ h → signal_step limit (at ps d (spot.Low h)) (token.Number (pos l)) ≡ Ok (at ps d (spot.Close h l))
unfolding signal_step spot_step count_in count_of low_step
slice_low limit d h l ps le = rw (le-ltb h l le) refl

slice_close : (limit d h l : ℕ) (ps : List Part) → signal_step limit (at ps d (spot.Close h l)) token.CloseBracket ≡ Ok (at (ps ++ part.Slice h l ∷ []) d spot.After)
unfolding signal_step spot_step close_step
slice_close limit d h l ps = refl

abbrev pub run : ℕ → Signal → List Token → Result Signal Refusal
run limit s ts = steps (signal_step limit) s ts

first : (limit : ℕ) (s n : Signal) (t : Token) (ts : List Token) → signal_step limit s t ≡ Ok n → run limit s (t ∷ ts) ≡ run limit n ts
first limit s n t ts e = steps_first (signal_step limit) s n t ts e

slice_says : (limit d high low : ℕ) (ps : List Part) (us : List Token) → IsSlice high low us → run limit (at ps d spot.After) us ≡ Ok (at (ps ++ part.Slice high low ∷ []) d spot.After)
slice_says limit d high low ps us (alone n) =
    first limit (at ps d spot.After) (at ps d spot.High) token.OpenBracket _ (slice_open limit d ps)
    ∙ first limit (at ps d spot.High) (at ps d (spot.Colon n)) (token.Number (pos n)) _ (slice_high limit d n ps)
    ∙ first limit (at ps d (spot.Colon n)) (at (ps ++ part.Slice n n ∷ []) d spot.After) token.CloseBracket [] (slice_alone limit d n ps)
    ∙ steps_nil (signal_step limit) (at (ps ++ part.Slice n n ∷ []) d spot.After)
slice_says limit d high low ps us (range h l le) =
    first limit (at ps d spot.After) (at ps d spot.High) token.OpenBracket _ (slice_open limit d ps)
    ∙ first limit (at ps d spot.High) (at ps d (spot.Colon h)) (token.Number (pos h)) _ (slice_high limit d h ps)
    ∙ first limit (at ps d (spot.Colon h)) (at ps d (spot.Low h)) token.Colon _ (slice_colon limit d h ps)
    ∙ first limit (at ps d (spot.Low h)) (at ps d (spot.Close h l)) (token.Number (pos l)) _ (slice_low limit d h l ps le)
    ∙ first limit (at ps d (spot.Close h l)) (at (ps ++ part.Slice h l ∷ []) d spot.After) token.CloseBracket [] (slice_close limit d h l ps)
    ∙ steps_nil (signal_step limit) (at (ps ++ part.Slice h l ∷ []) d spot.After)

-- ---- room that signals leave for what follows

mutual
  signal_leaves : (room : ℕ) (ps : List Part) (ts : List Token) (qs : List Part) → IsSignal ps ts → NestsWithin room (ps ++ qs) → NestsWithin room qs
  signal_leaves room ps ts qs (fixed c) h = h
  signal_leaves room ps ts qs (wire n) h = h
  signal_leaves room ps ts qs (slice {ps = xs} {ts = us} {high = hi} {low = lo} is sl) h = signal_leaves room xs us (part.Slice hi lo ∷ qs) is (subst (λ (x : List Part). NestsWithin room x) (append_assoc xs (part.Slice hi lo ∷ []) qs) h)
  signal_leaves zero ps ts qs (group {ps = inner} {ts = us} are) h = absurd h
  signal_leaves (suc room) ps ts qs (group {ps = inner} {ts = us} are) h = signals_leave room inner us (part.End ∷ qs) are (subst (λ (x : List Part). NestsWithin room x) (append_assoc inner (part.End ∷ []) qs) h)

  signals_leave : (room : ℕ) (ps : List Part) (ts : List Token) (qs : List Part) → AreSignals ps ts → NestsWithin room (ps ++ qs) → NestsWithin room qs
  signals_leave room ps ts qs none h = h
  signals_leave room ps ts qs (more {ps = xs} {qs = bs} {ts = us} {us = vs} is are) h = signals_leave room bs vs qs are (signal_leaves room xs us (bs ++ qs) is (subst (λ (x : List Part). NestsWithin room x) (append_assoc xs bs qs) h))

-- ---- signals

base_first : (limit d : ℕ) (ps : List Part) (sp : Spot) (n : Signal) (t : Token) (ts : List Token) → MayBegin d sp → Plain t → base_step limit (at ps d sp) t ≡ Ok n → run limit (at ps d sp) (t ∷ ts) ≡ run limit n ts
base_first limit d ps sp n t ts m p e = first limit (at ps d sp) n t ts (based limit d ps sp t m p ∙ e)

begins_inside : (d : ℕ) → MayBegin (suc d) spot.Begin
begins_inside d = tt

begins_behind : (d : ℕ) → MayBegin (suc d) spot.After
begins_behind d = tt

-- the place behind signals within braces
abbrev behind : List Token → Spot → Spot
behind [] sp = sp
behind (t ∷ ts) sp = spot.After

record Over (limit : ℕ) (front : List Part) (d : ℕ) (sp : Spot) (ps : List Part) (ts : List Token) : Type 0 where
  next : Spot
  may : MayBegin d next
  is : run limit (at front d sp) ts ≡ Ok (at (front ++ ps) d next)

mutual
  signal_goes : (limit d room : ℕ) (front : List Part) (sp : Spot) (ps qs : List Part) (ts : List Token) → d + room ≡ limit → MayBegin d sp → IsSignal ps ts → NestsWithin room (ps ++ qs)
      → run limit (at front d sp) ts ≡ Ok (at (front ++ ps) d spot.After)
  signal_goes limit d room front sp ps qs ts s m (fixed c) h = base_first limit d front sp (at (front ++ part.Fixed c ∷ []) d spot.After) (const_token c) [] m (const_plain c) (const_base limit d front sp c) ∙ steps_nil (signal_step limit) (at (front ++ part.Fixed c ∷ []) d spot.After)
  signal_goes limit d room front sp ps qs ts s m (wire n) h = base_first limit d front sp (at (front ++ part.Wire n ∷ []) d spot.After) (token.Id n) [] m tt (wire_base limit d front sp n) ∙ steps_nil (signal_step limit) (at (front ++ part.Wire n ∷ []) d spot.After)
  signal_goes limit d room front sp ps qs ts s m (slice {ps = xs} {ts = us} {us = vs} {high = hi} {low = lo} is sl) h =
      let k = signal_goes limit d room front sp xs (part.Slice hi lo ∷ qs) us s m is (subst (λ (x : List Part). NestsWithin room x) (append_assoc xs (part.Slice hi lo ∷ []) qs) h) in
      steps_on (signal_step limit) (at front d sp) (at (front ++ xs) d spot.After) us vs k
      ∙ slice_says limit d hi lo (front ++ xs) vs sl
      ∙ ap (λ (x : List Part). done (at x d spot.After)) (append_assoc front xs (part.Slice hi lo ∷ []))
  signal_goes limit d zero front sp ps qs ts s m (group {ps = inner} {ts = us} are) h = absurd h
  signal_goes limit d (suc room) front sp ps qs ts s m (group {ps = inner} {ts = us} are) h =
      let h2 = subst (λ (x : List Part). NestsWithin room x) (append_assoc inner (part.End ∷ []) qs) h in
      let o = signals_go limit d room (front ++ part.Begin ∷ []) spot.Begin inner (part.End ∷ qs) us (omega arith) tt are h2 in
      let n = at (front ++ part.Begin ∷ []) (suc d) spot.Begin in
      let e = at ((front ++ part.Begin ∷ []) ++ inner) (suc d) o.next in
      base_first limit d front sp n token.OpenBrace (us ++ token.CloseBrace ∷ []) m tt (open_base limit d front sp (omega arith))
      ∙ steps_on (signal_step limit) n e us (token.CloseBrace ∷ []) o.is
      ∙ base_first limit (suc d) ((front ++ part.Begin ∷ []) ++ inner) o.next (at (((front ++ part.Begin ∷ []) ++ inner) ++ part.End ∷ []) d spot.After) token.CloseBrace [] o.may tt (close_base limit d ((front ++ part.Begin ∷ []) ++ inner) o.next)
      ∙ steps_nil (signal_step limit) (at (((front ++ part.Begin ∷ []) ++ inner) ++ part.End ∷ []) d spot.After)
      ∙ ap (λ (x : List Part). done (at x d spot.After)) (simp append_assoc)

  signals_go : (limit d room : ℕ) (front : List Part) (sp : Spot) (ps qs : List Part) (ts : List Token) → suc d + room ≡ limit → MayBegin (suc d) sp → AreSignals ps ts → NestsWithin room (ps ++ qs) → Over limit front (suc d) sp ps ts
  signals_go limit d room front sp ps qs ts s m none h = record { next = sp; may = m; is = steps_nil (signal_step limit) (at front (suc d) sp) ∙ ap (λ (x : List Part). done (at x (suc d) sp)) (sym (append-nil front)) }
  signals_go limit d room front sp ps qs ts s m (more {ps = xs} {qs = bs} {ts = us} {us = vs} is are) h =
      let h2 = subst (λ (x : List Part). NestsWithin room x) (append_assoc xs bs qs) h in
      let k = signal_goes limit (suc d) room front sp xs (bs ++ qs) us s m is h2 in
      let o = signals_go limit d room (front ++ xs) spot.After bs qs vs s tt are (signal_leaves room xs us (bs ++ qs) is h2) in
      record {
        next = o.next;
        may = o.may;
        is = steps_on (signal_step limit) (at front (suc d) sp) (at (front ++ xs) (suc d) spot.After) us vs k ∙ o.is ∙ ap (λ (x : List Part). done (at x (suc d) o.next)) (append_assoc front xs bs);
      }

pub signal_says : (limit : ℕ) (ps : List Part) (ts : List Token) → IsSignal ps ts → NestsWithin limit ps → run limit no_signal ts ≡ Ok (at ps 0 spot.After)
unfolding no_signal
signal_says limit ps ts is h = signal_goes limit 0 limit [] spot.Begin ps [] ts (omega arith) tt is (subst (λ (x : List Part). NestsWithin limit x) (sym (append-nil ps)) h)
