-- A signal that some tokens of a text spell is whole, and a whole signal is spelled by the tokens of its printed form.
use Rattle.std.proofs.Common.{◌≡◌, ℕ, pos, ◌<◌, ◌≤◌, ◌^◌, Bool, true, false, List, [], ◌∷◌, ◌++◌, refl, sym, ap, subst, ◌∙◌, append-nil, arith}
use Rattle.std.specs.Prelude.{◌==◌}
use Rattle.std.proofs.lemmas.Bool.{eqb-true}
use Rattle.std.proofs.lemmas.List.Concat.{flat_map-append}
use Rattle.rtlil_lex.specs.declared.token.Token.{Token}
use Rattle.rtlil_lex.specs.declared.token.Token.TheVariants as token
use Rattle.rtlil_lex.specs.Spelling.{KnownFit, Fits}
use Rattle.rtlil_lex.proofs.Pieces.{AllOf}
use Rattle.rtlil_text.specs.declared.doc.DocConst.{DocConst}
use Rattle.rtlil_text.specs.declared.doc.DocConst.TheVariants as const
use Rattle.rtlil_text.specs.declared.doc.Part.{Part}
use Rattle.rtlil_text.specs.declared.doc.Part.TheVariants as part
use Rattle.rtlil_text.specs.Grammar.{const_token, IsSlice, alone, range, IsSignal, fixed, wire, slice, group, AreSignals, none, more}
use Rattle.rtlil_print.specs.WellFormed as whole
use Rattle.rtlil_print.specs.WellFormed.{IsConst, IsWhole, AreWhole}
use Rattle.rtlil_print.proofs.Canonical.{slice_tokens, part_tokens, signal_tokens, PartFits}

-- ---- lists

pub known_append : (a b : List Token) → KnownFit (a ++ b) → KnownFit a × KnownFit b
known_append [] b k = (tt, k)
known_append (t ∷ a) b k = let r = known_append a b k.1 in ((k.0, r.0), r.1)

pub all_append : {X : Type 0} (P : X → Type 0) (xs ys : List X) → AllOf P xs → AllOf P ys → AllOf P (xs ++ ys)
all_append P [] ys p q = q
all_append P (x ∷ xs) ys p q = (p.0, all_append P xs ys p.1 q)

pub all_parts : {X : Type 0} (P : X → Type 0) (xs ys : List X) → AllOf P (xs ++ ys) → AllOf P xs × AllOf P ys
all_parts P [] ys p = (tt, p)
all_parts P (x ∷ xs) ys p = let r = all_parts P xs ys p.1 in ((p.0, r.0), r.1)

-- ---- constants and slices

pub const_is : (c : DocConst) (ts : List Token) → KnownFit (const_token c ∷ ts) → IsConst c
const_is (const.Digits ds) ts k = tt
const_is (const.Number z) ts k = k.0 tt
const_is (const.Text t) ts k = tt

pub const_fits : (c : DocConst) → IsConst c → Fits (const_token c)
const_fits (const.Digits ds) f = tt
const_fits (const.Number z) f = f
const_fits (const.Text t) f = tt

slice_by : (h l : ℕ) (b : Bool) → h == l ≡ b → l ≤ h → IsSlice h l (slice_tokens h l)
slice_by h l true e le = rw e (subst (λ (x : ℕ). IsSlice h x (token.OpenBracket ∷ token.Number (pos h) ∷ token.CloseBracket ∷ [])) (eqb-true h l e) (alone h))
slice_by h l false e le = rw e (range h l le)

slice_whole : (h l : ℕ) (ps : List Part) (us : List Token) → IsSlice h l us → KnownFit us → IsWhole ps → IsWhole (ps ++ part.Slice h l ∷ [])
slice_whole h l ps us (alone n) k w = whole.slice n n (omega arith) (k.1.0 tt) w
slice_whole h l ps us (range a b le) k w = whole.slice a b le (k.1.0 tt) w

-- ---- signals

mutual
  pub signal_whole : (ps : List Part) (ts : List Token) → IsSignal ps ts → KnownFit ts → IsWhole ps
  signal_whole ps ts (fixed c) k = whole.fixed c (const_is c [] k)
  signal_whole ps ts (wire n) k = whole.wire n (k.0 tt)
  signal_whole ps ts (slice {ps = xs} {ts = us} {us = vs} {high = h} {low = l} is sl) k =
      let r = known_append us vs k in
      slice_whole h l xs vs sl r.1 (signal_whole xs us is r.0)
  signal_whole ps ts (group {ps = inner} {ts = us} are) k = whole.group (signals_whole inner us are (known_append us (token.CloseBrace ∷ []) k.1).0)

  signals_whole : (ps : List Part) (ts : List Token) → AreSignals ps ts → KnownFit ts → AreWhole ps
  signals_whole ps ts none k = whole.none
  signals_whole ps ts (more {ps = xs} {qs = bs} {ts = us} {us = vs} is are) k =
      let r = known_append us vs k in
      whole.more (signal_whole xs us is r.0) (signals_whole bs vs are r.1)

low_fits : (h l : ℕ) → l ≤ h → h < 2 ^ 31 → l < 2 ^ 31
low_fits h l le lt = omega arith

mutual
  pub whole_fits : (ps : List Part) → IsWhole ps → AllOf PartFits ps
  whole_fits ps (whole.fixed c f) = (const_fits c f, tt)
  whole_fits ps (whole.wire n f) = (f, tt)
  whole_fits ps (whole.slice {ps = xs} h l le lt is) = all_append PartFits xs (part.Slice h l ∷ []) (whole_fits xs is) ((lt, low_fits h l le lt), tt)
  whole_fits ps (whole.group {ps = inner} are) = (tt, all_append PartFits inner (part.End ∷ []) (wholes_fit inner are) (tt, tt))

  wholes_fit : (ps : List Part) → AreWhole ps → AllOf PartFits ps
  wholes_fit ps whole.none = tt
  wholes_fit ps (whole.more {ps = xs} {qs = bs} is are) = all_append PartFits xs bs (whole_fits xs is) (wholes_fit bs are)

sliced_tokens : (xs : List Part) (h l : ℕ) → signal_tokens xs ++ slice_tokens h l ≡ signal_tokens (xs ++ part.Slice h l ∷ [])
sliced_tokens xs h l = ap (λ (z : List Token). signal_tokens xs ++ z) (sym (append-nil (slice_tokens h l))) ∙ sym (flat_map-append part_tokens xs (part.Slice h l ∷ []))

grouped_tokens : (xs : List Part) → token.OpenBrace ∷ (signal_tokens xs ++ token.CloseBrace ∷ []) ≡ signal_tokens (part.Begin ∷ (xs ++ part.End ∷ []))
grouped_tokens xs = ap (λ (z : List Token). token.OpenBrace ∷ z) (sym (flat_map-append part_tokens xs (part.End ∷ [])))

mutual
  pub whole_says : (ps : List Part) → IsWhole ps → IsSignal ps (signal_tokens ps)
  whole_says ps (whole.fixed c f) = fixed c
  whole_says ps (whole.wire n f) = wire n
  whole_says ps (whole.slice {ps = xs} h l le lt is) =
      subst (λ (z : List Token). IsSignal (xs ++ part.Slice h l ∷ []) z) (sliced_tokens xs h l) (slice (whole_says xs is) (slice_by h l (h == l) refl le))
  whole_says ps (whole.group {ps = inner} are) =
      subst (λ (z : List Token). IsSignal (part.Begin ∷ (inner ++ part.End ∷ [])) z) (grouped_tokens inner) (group (wholes_say inner are))

  wholes_say : (ps : List Part) → AreWhole ps → AreSignals ps (signal_tokens ps)
  wholes_say ps whole.none = none
  wholes_say ps (whole.more {ps = xs} {qs = bs} is are) =
      subst (λ (z : List Token). AreSignals (xs ++ bs) z) (sym (flat_map-append part_tokens xs bs)) (more (whole_says xs is) (wholes_say bs are))
