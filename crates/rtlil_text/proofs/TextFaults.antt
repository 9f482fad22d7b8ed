-- A text stops at its first fault.
use Rattle.std.proofs.Common.{◌≡◌, ℕ, suc, ◌+◌, Bool, true, false, cond, List, [], ◌∷◌, ◌++◌, length, Result, Ok, Err, refl, sym, ap, subst, ◌∙◌, append_assoc, append-nil, ◌⊎◌, inl, inr, arith}
use Rattle.std.specs.Prelude.{IfErr}
use Rattle.std.proofs.lemmas.List.{length_push}
use Rattle.rtlil_lex.specs.declared.token.Token.{Token}
use Rattle.rtlil_text.specs.declared.doc.Doc.{Doc}
use Rattle.rtlil_text.specs.declared.fault.Refusal.{Refusal}
use Rattle.rtlil_text.specs.declared.fault.Refusal.TheVariants as refusal
use Rattle.rtlil_text.specs.declared.fault.TextFault.{TextFault}
use Rattle.rtlil_text.specs.declared.place.Statement.{Statement}
use Rattle.rtlil_text.specs.declared.state.Open.TheVariants as open_
use Rattle.rtlil_text.specs.declared.state.State.{State}
use Rattle.rtlil_text.specs.Grammar.{All}
use Rattle.rtlil_text.specs.Read.{◌>>=◌}
use Rattle.rtlil_text.specs.ReadLine.{statement_at}
use Rattle.rtlil_text.specs.ReadState.{start, advance}
use Rattle.rtlil_text.specs.ReadText.{line_at, run, IsClosed, is_closed, finish_text, last_line, on_line, at_end, read_lines, fault, GivesDoc}
use Rattle.rtlil_text.specs.Reads.{EndsBlank}
use Rattle.rtlil_text.specs.Text.{IsDocument, here, Begins, BeginsWith, DeepBeginsWith, IsCause, FaultInLine, EndsEarly, IsFirstFault, no_memory}
use Rattle.rtlil_text.proofs.Steps.{bind_ok, bind_err, done, ok_is}
use Rattle.rtlil_text.proofs.Advance.{canon}
use Rattle.rtlil_text.proofs.DocSays.{document_says, some_depth, run_nil, blank_line}
use Rattle.rtlil_text.proofs.Completes.{completes}
use Rattle.rtlil_text.proofs.Wider.{run_wider}
use Rattle.rtlil_text.proofs.LineFaults.{NeverGoes, LineCause, line_fault}
use Rattle.rtlil_text.proofs.Documents.{is_closed_again, to_document, to_deep}

pub run_append : (limit : ℕ) (st next : State) (tss uss : List (List Token)) → run limit st tss ≡ Ok next → run limit st (tss ++ uss) ≡ run limit next uss
unfolding run
run_append limit st next [] uss e = ap (λ (s : State). run limit s uss) (ok_is st next e)
run_append limit st next (ts ∷ tss) uss e =
    let b = bind_ok (line_at limit st ts) (λ s. run limit s tss) next e in
    rw b.1 (run_append limit b.0 next tss uss b.2)

run_cons : (limit : ℕ) (st : State) (ts : List Token) (tss : List (List Token)) → run limit st (ts ∷ tss) ≡ (line_at limit st ts >>= λ next. run limit next tss)
unfolding run
run_cons limit st ts tss = refl

line_says : (limit : ℕ) (st : State) (ts : List Token) (s : Statement) → statement_at limit st ts ≡ Ok s → line_at limit st ts ≡ Ok (advance st s)
unfolding line_at
line_says limit st ts s e = rw e refl

line_back : (limit : ℕ) (st next : State) (ts : List Token) → line_at limit st ts ≡ Ok next → (s : Statement) × (statement_at limit st ts ≡ Ok s)
unfolding line_at
line_back limit st next ts e = let b = bind_ok (statement_at limit st ts) (λ s. done (advance st s)) next e in (b.0, b.1)

line_refused : (limit : ℕ) (st : State) (ts : List Token) (c : Refusal) → line_at limit st ts ≡ Err c → statement_at limit st ts ≡ Err c
unfolding line_at
line_refused limit st ts c e =
    elim (bind_err (statement_at limit st ts) (λ s. done (advance st s)) c e) [ inl h ↦ h | inr h ↦ let k : done (advance st h.0) ≡ Err c = h.2 in absurd cc ]

-- a line that is read goes on to a document
one_line : (limit : ℕ) (before : List (List Token)) (st : State) (ts : List Token) (s : Statement) → run limit start before ≡ Ok st → statement_at limit st ts ≡ Ok s
    → (later : List (List Token)) × (last : State) × (run limit start (before ++ ts ∷ later) ≡ Ok last) × IsClosed last
one_line limit before st ts s h e =
    let k = completes limit (advance st s) in
    (k.later, k.last, run_append limit start st before (ts ∷ k.later) h ∙ run_cons limit st ts k.later ∙ rw (line_says limit st ts s e) k.is, k.closed)

-- a document's line is read
line_of : (limit : ℕ) (before : List (List Token)) (st last : State) (ts : List Token) (later : List (List Token)) → run limit start before ≡ Ok st → run limit start (before ++ ts ∷ later) ≡ Ok last → (s : Statement) × (statement_at limit st ts ≡ Ok s)
line_of limit before st last ts later h e =
    let b = bind_ok (line_at limit st ts) (λ next. run limit next later) last (sym (run_cons limit st ts later) ∙ sym (run_append limit start st before (ts ∷ later) h) ∙ e) in
    line_back limit st b.0 ts b.1

module _ (before : List (List Token)) (st : State) (h : run 64 start before ≡ Ok st) where
  begins : (front : List Token) → ((more : List Token) × (s : Statement) × (statement_at 64 st (front ++ more) ≡ Ok s)) → Begins before front
  begins front can =
      let k = one_line 64 before st (front ++ can.0) can.1 h can.2 in
      (can.0, k.0, to_document (before ++ (front ++ can.0) ∷ k.0) k.1 k.2 k.3)

  begins_with : (front rest : List Token) → ((more : List Token) (s : Statement) → statement_at 64 st (front ++ here rest more) ≡ Ok s → ⊥) → BeginsWith before front rest → ⊥
  begins_with front rest cannot w =
      let e = document_says 64 w.2.0 (before ++ (front ++ here rest w.0) ∷ w.1) w.2.1 w.2.2 in
      let k = line_of 64 before st (canon w.2.1.autoidx w.2.0.modules open_.File []) (front ++ here rest w.0) w.1 h e in
      cannot w.0 k.0 k.1

  deep_never : (front rest : List Token) → NeverGoes 64 st front rest → DeepBeginsWith before front rest → ⊥
  deep_never front rest never w =
      let d = some_depth w.2.0 in
      let e = document_says d.0 w.2.0 (before ++ (front ++ here rest w.0) ∷ w.1) w.2.1 d.2 in
      let k = line_of d.0 before st (canon w.2.1.autoidx w.2.0.modules open_.File []) (front ++ here rest w.0) w.1 (run_wider 64 d.0 d.1 start before st h) e in
      never d.0 d.1 w.0 k.0 k.1

  deep_begins : (front rest : List Token) (more : List Token) (s : Statement) → statement_at 65 st (front ++ here rest more) ≡ Ok s → DeepBeginsWith before front rest
  deep_begins front rest more s e =
      let k = one_line 65 before st (front ++ here rest more) s (run_wider 64 65 (omega arith) start before st h) e in
      (more, k.0, to_deep 65 (before ++ (front ++ here rest more) ∷ k.0) k.1 k.2 k.3)

  cause : (front rest : List Token) (c : Refusal) → LineCause 64 st front rest c → IsCause before front rest c
  cause front rest refusal.Token k = k
  cause front rest refusal.Process k = k
  cause front rest (refusal.Limit seen) (inl k) = inl k
  cause front rest (refusal.Limit seen) (inr k) = inr (k.0, k.1, k.2, deep_begins front rest k.3 k.4 k.5)
  cause front rest refusal.Grammar k = (k.0, deep_never front rest k.1)

  in_line : (behind : List (List Token)) (ts : List Token) (c : Refusal) → line_at 64 st ts ≡ Err c → FaultInLine (before ++ ts ∷ behind) (length before) c
  in_line behind ts c e =
      let f = line_fault 64 st ts c (line_refused 64 st ts c e) in
      record {
        before = before;
        front = f.front;
        rest = f.rest;
        behind = behind;
        parts = ap (λ (t : List Token). before ++ t ∷ behind) f.parts;
        place = refl;
        can = begins f.front f.can;
        cannot = begins_with f.front f.rest f.cannot;
        why = cause f.front f.rest c f.why;
      }

-- ---- the end of the text

-- the last line with a token stands in line last, or none has a token and nothing was read
pub record LastLine (tss : List (List Token)) (last : ℕ) : Type 0 where
  pub before : List (List Token)
  pub first : Token
  pub others : List Token
  pub behind : List (List Token)
  pub parts : tss ≡ before ++ (first ∷ others) ∷ behind
  pub blank : All (λ ts. ts ≡ []) behind
  pub place : last ≡ suc (length before)

abbrev pub LastOrNone : List (List Token) → State → ℕ → Type 0
LastOrNone tss st last = LastLine tss last ⊎ (st ≡ start)

all_blank_more : (tss : List (List Token)) → All (λ ts. ts ≡ []) tss → All (λ (ts : List Token). ts ≡ []) (tss ++ [] ∷ [])
all_blank_more [] h = (refl, tt)
all_blank_more (ts ∷ tss) h = (h.0, all_blank_more tss h.1)

last_blank : (tss : List (List Token)) (last : ℕ) → LastLine tss last → LastLine (tss ++ [] ∷ []) last
last_blank tss last k = record {
  before = k.before;
  first = k.first;
  others = k.others;
  behind = k.behind ++ [] ∷ [];
  parts = ap (λ (x : List (List Token)). x ++ [] ∷ []) k.parts ∙ append_assoc k.before ((k.first ∷ k.others) ∷ k.behind) ([] ∷ []);
  blank = all_blank_more k.behind k.blank;
  place = k.place;
}

last_more : (tss : List (List Token)) (st next : State) (ts : List Token) (n last : ℕ) → n ≡ suc (length tss) → line_at 64 st ts ≡ Ok next → LastOrNone tss st last → LastOrNone (tss ++ ts ∷ []) next (last_line ts n last)
unfolding last_line
last_more tss st next [] n last h e (inl k) = inl (last_blank tss last k)
last_more tss st next [] n last h e (inr k) = inr (sym (ok_is st next (sym (blank_line 64 st) ∙ e)) ∙ k)
last_more tss st next (t ∷ ts) n last h e k = inl (record { before = tss; first = t; others = ts; behind = []; parts = refl; blank = tt; place = h })

start_closed : is_closed start ≡ true
unfolding is_closed start
start_closed = refl

closed_from : (tss : List (List Token)) (st : State) → run 64 start tss ≡ Ok st → IsDocument tss → is_closed st ≡ true
closed_from tss st h d =
    let e = document_says 64 d.0 tss d.1 d.2 in
    let same : canon d.1.autoidx d.0.modules open_.File [] ≡ st = ok_is (canon d.1.autoidx d.0.modules open_.File []) st (sym e ∙ h) in
    subst (λ (x : State). is_closed x ≡ true) same (is_closed_again (canon d.1.autoidx d.0.modules open_.File []) (record { outside = refl; no_attrs = refl }))

early : (tss : List (List Token)) (st : State) (last : ℕ) → run 64 start tss ≡ Ok st → LastLine tss last → (EndsBlank tss → IsDocument tss → ⊥) → EndsEarly tss last
early tss st last h k cannot =
    let c = completes 64 st in
    record {
      before = k.before;
      first = k.first;
      others = k.others;
      behind = k.behind;
      parts = k.parts;
      blank = k.blank;
      place = k.place;
      can = (c.later, to_document (tss ++ c.later) c.last (run_append 64 start st tss c.later h ∙ c.is) c.closed);
      cannot = cannot;
    }

abbrev wrong : TextFault → Result Doc TextFault
wrong f = Err f

wrong_is : (f g : TextFault) → wrong f ≡ wrong g → f ≡ g
wrong_is f g e = cc

finish_fault : (tss : List (List Token)) (st : State) (last : ℕ) (f : TextFault) (b : Bool) → is_closed st ≡ b → cond b (Ok (record { modules = st.modules })) (wrong (fault last refusal.Grammar)) ≡ wrong f → run 64 start tss ≡ Ok st → LastOrNone tss st last → IsFirstFault tss f
finish_fault tss st last f true q e h k = absurd cc
finish_fault tss st last f false q e h (inl k) = inr (last, sym (wrong_is (fault last refusal.Grammar) f e), early tss st last h k (λ ends d. let x : true ≡ false = sym (closed_from tss st h d) ∙ q in absurd cc))
finish_fault tss st last f false q e h (inr k) = let x : true ≡ false = sym start_closed ∙ ap is_closed (sym k) ∙ q in absurd cc

finished_fault : (tss : List (List Token)) (st : State) (last : ℕ) (f : TextFault) → finish_text st last ≡ Err f → run 64 start tss ≡ Ok st → LastOrNone tss st last → IsFirstFault tss f
unfolding finish_text
finished_fault tss st last f e h k = finish_fault tss st last f (is_closed st) refl e h k

goes_on : (before : List (List Token)) (ts : List Token) (st next : State) → run 64 start before ≡ Ok st → line_at 64 st ts ≡ Ok next → run 64 start (before ++ ts ∷ []) ≡ Ok next
goes_on before ts st next h e = run_append 64 start st before (ts ∷ []) h ∙ run_cons 64 st ts [] ∙ rw e (run_nil 64 next)

not_blank : (before : List (List Token)) (t : Token) (ts : List Token) → EndsBlank (before ++ (t ∷ ts) ∷ []) → ⊥
not_blank [] t ts e = absurd cc
not_blank (x ∷ []) t ts e = absurd cc
not_blank (x ∷ y ∷ before) t ts e = not_blank (y ∷ before) t ts e

last_fault : (before : List (List Token)) (st : State) (n : ℕ) (t : Token) (ts : List Token) (f : TextFault) (r : Result State Refusal) → line_at 64 st (t ∷ ts) ≡ r → run 64 start before ≡ Ok st → n ≡ suc (length before)
    → on_line n r (λ next. wrong (fault n refusal.Grammar)) ≡ wrong f → IsFirstFault (before ++ (t ∷ ts) ∷ []) f
last_fault before st n t ts f (Ok next) q h k e =
    inr (
      n,
      sym (wrong_is (fault n refusal.Grammar) f e),
      early (before ++ (t ∷ ts) ∷ []) next n (goes_on before (t ∷ ts) st next h q) (record { before = before; first = t; others = ts; behind = []; parts = refl; blank = tt; place = k }) (λ ends d. not_blank before t ts ends),
    )
last_fault before st n t ts f (Err c) q h k e = inl (length before, c, sym (wrong_is (fault n c) f e) ∙ ap (λ (m : ℕ). fault m c) k, in_line before st h [] (t ∷ ts) c q)

at_end_fault : (before : List (List Token)) (st : State) (n last : ℕ) (ts : List Token) (f : TextFault) → run 64 start before ≡ Ok st → n ≡ suc (length before) → LastOrNone before st last → at_end 64 st n last ts ≡ Err f → IsFirstFault (before ++ ts ∷ []) f
unfolding at_end
at_end_fault before st n last [] f h k l e = finished_fault (before ++ [] ∷ []) st last f e (goes_on before [] st st h (blank_line 64 st)) (blank_more l) where
  blank_more : LastOrNone before st last → LastOrNone (before ++ [] ∷ []) st last
  blank_more (inl x) = inl (last_blank before last x)
  blank_more (inr x) = inr x
at_end_fault before st n last (t ∷ ts) f h k l e = last_fault before st n t ts f (line_at 64 st (t ∷ ts)) refl h k e

more_fault : (before : List (List Token)) (st : State) (n : ℕ) (ts : List Token) (rest : List (List Token)) (f : TextFault) (g : State → Result Doc TextFault) (r : Result State Refusal) → line_at 64 st ts ≡ r → run 64 start before ≡ Ok st → n ≡ suc (length before)
    → ((next : State) → line_at 64 st ts ≡ Ok next → run 64 start (before ++ ts ∷ []) ≡ Ok next → g next ≡ Err f → IsFirstFault ((before ++ ts ∷ []) ++ rest) f)
    → on_line n r g ≡ wrong f → IsFirstFault (before ++ ts ∷ rest) f
more_fault before st n ts rest f g (Ok next) q h k again e =
    subst (λ (tss : List (List Token)). IsFirstFault tss f) (append_assoc before (ts ∷ []) rest) (again next q (goes_on before ts st next h q) e)
more_fault before st n ts rest f g (Err c) q h k again e = inl (length before, c, sym (wrong_is (fault n c) f e) ∙ ap (λ (m : ℕ). fault m c) k, in_line before st h rest ts c q)

pub lines_fault : (tss before : List (List Token)) (st : State) (n last : ℕ) (f : TextFault) → run 64 start before ≡ Ok st → n ≡ suc (length before) → LastOrNone before st last → read_lines 64 st n last tss ≡ Err f → IsFirstFault (before ++ tss) f
unfolding read_lines
lines_fault [] before st n last f h k l e = subst (λ (x : List (List Token)). IsFirstFault x f) (sym (append-nil before)) (finished_fault before st last f e h l)
lines_fault (ts ∷ []) before st n last f h k l e = at_end_fault before st n last ts f h k l e
lines_fault (ts ∷ us ∷ tss) before st n last f h k l e =
    more_fault before st n ts (us ∷ tss) f (λ next. read_lines 64 next (n + 1) (last_line ts n last) (us ∷ tss)) (line_at 64 st ts) refl h k
    (λ next q h2 e2. lines_fault (us ∷ tss) (before ++ ts ∷ []) next (n + 1) (last_line ts n last) f h2 (omega (arith, k, length_push before ts)) (last_more before st next ts n last k q l) e2) e

pub is_first_fault : (tss : List (List Token)) (r : Result Doc TextFault) → GivesDoc r (read_lines 64 start 1 1 tss) → IfErr r (λ f. (f ≡ no_memory) ⊎ IsFirstFault tss f)
is_first_fault tss (Ok d) g = tt
is_first_fault tss (Err f) (inl m) = inl m
is_first_fault tss (Err f) (inr e) = inr (lines_fault tss [] start 1 1 f (run_nil 64 start) refl (inr refl) e)
