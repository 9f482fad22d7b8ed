-- The parts of a signal, read from the left, give its bits and what is wrong with it.
use Rattle.std.proofs.Common.{◌≡◌, List, [], ◌∷◌, ◌++◌, length, refl, sym, ap, ◌∙◌, append_assoc, append-nil}
use Rattle.rtlil_lex.specs.declared.token.Token.{Token}
use Rattle.rtlil_text.specs.declared.doc.Part.{Part}
use Rattle.rtlil_text.specs.declared.doc.Part.TheVariants as part
use Rattle.rtlil_text.specs.Grammar as grammar
use Rattle.rtlil_text.specs.Grammar.{IsSignal, AreSignals}
use Rattle.net_wires.specs.declared.breach.Breach.{Breach}
use Rattle.net_wires.specs.declared.source.Source.{Source}
use Rattle.net_wires.specs.Parts.{State, start, put, opened, closed, step, steps, bits_in, signal_bits, part_breaches, parts_breaches}
use Rattle.net_wires.specs.Signals.{Signal, fixed, wire, slice, group, Signals, none, more, parts_of, parts_of_all, bits_of, bits_of_all, breaches_of, breaches_of_all, cut_breaches}
use Rattle.net_wires.specs.Spans.{Entry}

pub steps_append : (names : List Entry) (st : State) (ps qs : List Part) → steps names st (ps ++ qs) ≡ steps names (steps names st ps) qs
steps_append names st [] qs = refl
steps_append names st (p ∷ ps) qs = steps_append names (step names st p) ps qs

pub breaches_append : (names : List Entry) (st : State) (ps qs : List Part) → parts_breaches names st (ps ++ qs) ≡ parts_breaches names st ps ++ parts_breaches names (steps names st ps) qs
breaches_append names st [] qs = refl
breaches_append names st (p ∷ ps) qs =
    ap (λ (bs : List Breach). part_breaches names st p ++ bs) (breaches_append names (step names st p) ps qs)
    ∙ sym (append_assoc (part_breaches names st p) (parts_breaches names (step names st p) ps) (parts_breaches names (steps names (step names st p) ps) qs))

-- braces that close leave the group as the last signal
closing : (st inner : State) (bits : List Source) → inner.outer ≡ (st.last ++ st.before) ∷ st.outer → bits_in inner ≡ bits → closed inner.outer inner ≡ put st bits
closing st inner bits e f = ap (λ (o : List (List Source)). closed o inner) e ∙ ap (put st) f

mutual
  pub signal_steps : (names : List Entry) (s : Signal) (st : State) → steps names st (parts_of s) ≡ put st (bits_of names s)
  signal_steps names (fixed c) st = refl
  signal_steps names (wire n) st = refl
  signal_steps names (slice s high low) st = steps_append names st (parts_of s) (part.Slice high low ∷ []) ∙ ap (λ (x : State). step names x (part.Slice high low)) (signal_steps names s st)
  signal_steps names (group ss) st =
      let inner = signals_steps names ss (opened st) in
      steps_append names (opened st) (parts_of_all ss) (part.End ∷ [])
      ∙ closing st (steps names (opened st) (parts_of_all ss)) (bits_of_all names ss) inner.0 (inner.1 ∙ append-nil (bits_of_all names ss))

  pub signals_steps : (names : List Entry) (ss : Signals) (st : State)
      → ((steps names st (parts_of_all ss)).outer ≡ st.outer) × (bits_in (steps names st (parts_of_all ss)) ≡ bits_of_all names ss ++ bits_in st)
  signals_steps names none st = (refl, refl)
  signals_steps names (more s ss) st =
      let first = steps_append names st (parts_of s) (parts_of_all ss) ∙ ap (λ (x : State). steps names x (parts_of_all ss)) (signal_steps names s st) in
      let rest = signals_steps names ss (put st (bits_of names s)) in (
        ap (λ (x : State). x.outer) first ∙ rest.0,
        ap bits_in first ∙ rest.1 ∙ sym (append_assoc (bits_of_all names ss) (bits_of names s) (bits_in st)),
      )

pub signal_gives : (names : List Entry) (s : Signal) → signal_bits names (parts_of s) ≡ bits_of names s
signal_gives names s = ap bits_in (signal_steps names s start) ∙ append-nil (bits_of names s)

mutual
  pub signal_breaks : (names : List Entry) (s : Signal) (st : State) → parts_breaches names st (parts_of s) ≡ breaches_of names s
  signal_breaks names (fixed c) st = refl
  signal_breaks names (wire n) st = append-nil (breaches_of names (wire n))
  signal_breaks names (slice s high low) st =
      breaches_append names st (parts_of s) (part.Slice high low ∷ []) ∙ ap (λ (bs : List Breach). bs ++ parts_breaches names (steps names st (parts_of s)) (part.Slice high low ∷ [])) (signal_breaks names s st)
      ∙ ap (λ (bs : List Breach). breaches_of names s ++ bs) (append-nil (cut_breaches high (length (steps names st (parts_of s)).last)) ∙ ap (λ (x : State). cut_breaches high (length x.last)) (signal_steps names s st))
  signal_breaks names (group ss) st = breaches_append names (opened st) (parts_of_all ss) (part.End ∷ []) ∙ append-nil (parts_breaches names (opened st) (parts_of_all ss)) ∙ signals_break names ss (opened st)

  pub signals_break : (names : List Entry) (ss : Signals) (st : State) → parts_breaches names st (parts_of_all ss) ≡ breaches_of_all names ss
  signals_break names none st = refl
  signals_break names (more s ss) st =
      breaches_append names st (parts_of s) (parts_of_all ss) ∙ ap (λ (bs : List Breach). bs ++ parts_breaches names (steps names st (parts_of s)) (parts_of_all ss)) (signal_breaks names s st)
      ∙ ap (λ (bs : List Breach). breaches_of names s ++ bs) (signals_break names ss (steps names st (parts_of s)))

-- ---- what the grammar calls a signal

mutual
  pub spelled : (ps : List Part) (ts : List Token) → IsSignal ps ts → (s : Signal) × (parts_of s ≡ ps)
  spelled ps ts (grammar.fixed c) = (fixed c, refl)
  spelled ps ts (grammar.wire n) = (wire n, refl)
  spelled ps ts (grammar.slice {ps = xs} {ts = us} {high = high} {low = low} is cut) =
      let s = spelled xs us is in
      (slice s.0 high low, ap (λ (zs : List Part). zs ++ part.Slice high low ∷ []) s.1)
  spelled ps ts (grammar.group {ps = xs} {ts = us} are) =
      let ss = all_spelled xs us are in
      (group ss.0, ap (λ (zs : List Part). part.Begin ∷ (zs ++ part.End ∷ [])) ss.1)

  pub all_spelled : (ps : List Part) (ts : List Token) → AreSignals ps ts → (ss : Signals) × (parts_of_all ss ≡ ps)
  all_spelled ps ts grammar.none = (none, refl)
  all_spelled ps ts (grammar.more {ps = xs} {qs = ys} {ts = us} {us = vs} is are) =
      let s = spelled xs us is in
      let ss = all_spelled ys vs are in
      (more s.0 ss.0, ap (λ (zs : List Part). zs ++ parts_of_all ss.0) s.1 ∙ ap (λ (zs : List Part). xs ++ zs) ss.1)
