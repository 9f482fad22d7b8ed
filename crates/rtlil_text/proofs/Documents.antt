-- Reading a text line by line, and the grammar, say the same.
use Rattle.std.proofs.Common.{◌≡◌, ℕ, ◌+◌, Bool, true, false, cond, List, [], ◌∷◌, ◌++◌, length, Option, Some, None, Result, Ok, Err, refl, sym, ap, subst, ◌∙◌, append_assoc, append-nil, inl, inr}
use Rattle.std.specs.Prelude.{IfOk}
use Rattle.std.specs.List.{flat_map}
use Rattle.std.proofs.lemmas.Bool.{eqb-true}
use Rattle.std.proofs.lemmas.List.{nil_from_length}
use Rattle.std.proofs.lemmas.List.Concat.{flat_map-append}
use Rattle.rtlil_lex.specs.declared.token.Token.{Token}
use Rattle.rtlil_lex.specs.declared.token.Token.TheVariants as token
use Rattle.rtlil_lex.specs.Lines.{token_lines}
use Rattle.rtlil_lex.proofs.Within.{NoneOver, limited_same}
use Rattle.rtlil_text.specs.declared.doc.Doc.{Doc}
use Rattle.rtlil_text.specs.declared.doc.DocAttr.{DocAttr}
use Rattle.rtlil_text.specs.declared.doc.DocConst.{DocConst}
use Rattle.rtlil_text.specs.declared.doc.DocConst.TheVariants as const
use Rattle.rtlil_text.specs.declared.doc.DocFlag.{DocFlag}
use Rattle.rtlil_text.specs.declared.doc.DocFlag.TheVariants as flag
use Rattle.rtlil_text.specs.declared.doc.DocModule.{DocModule}
use Rattle.rtlil_text.specs.declared.doc.Part.{Part}
use Rattle.rtlil_text.specs.declared.fault.Refusal.{Refusal}
use Rattle.rtlil_text.specs.declared.fault.Refusal.TheVariants as refusal
use Rattle.rtlil_text.specs.declared.fault.TextFault.{TextFault}
use Rattle.rtlil_text.specs.declared.place.Statement.{Statement}
use Rattle.rtlil_text.specs.declared.place.Statement.TheVariants as says
use Rattle.rtlil_text.specs.declared.state.Open.{Open}
use Rattle.rtlil_text.specs.declared.state.Open.TheVariants as open_
use Rattle.rtlil_text.specs.declared.state.State.{State}
use Rattle.rtlil_text.specs.Grammar.{const_token, IsSlice, alone, range, IsSignal, fixed, wire, slice, group, AreSignals, none, more, WireOption, width, offset, input, output, inout, upto, signed, wire_option_tokens, MemOption, mem_width, mem_size, mem_offset, mem_option_tokens, flag_tokens, value_tokens, Says, autoidx, attribute, module_line, parameter, wire_line, memory, cell, connect, cell_parameter, pin, end, EachSays, no_lines, more_lines, written, Spells, DocNests, IsFile, modules_alone, with_autoidx, module_statements, All, StatementNests, attributes}
use Rattle.rtlil_text.specs.ReadState.{start}
use Rattle.rtlil_text.specs.ReadText.{line_at, run, IsClosed, closed_at, is_closed, finish_text, last_line, on_line, at_end, read_lines, fault, GivesDoc}
use Rattle.rtlil_text.specs.Reads.{EndsBlank, Reads}
use Rattle.rtlil_text.specs.Text.{limited_lines, IsWithinLimits, IsDocument, IsDeepDocument, IsReadAs}
use Rattle.rtlil_text.proofs.Steps.{bind_ok, ok_is}
use Rattle.rtlil_text.proofs.Advance.{canon}
use Rattle.rtlil_text.proofs.DocFound.{Spelled, run_found, nothing_read}
use Rattle.rtlil_text.proofs.DocSays.{document_says, all_split, blank_line}

-- ---- no token of a document is over a limit

over_both : (a b : List Token) → NoneOver a → NoneOver b → NoneOver (a ++ b)
over_both [] b h k = k
over_both (t ∷ a) b h k = (h.0, over_both a b h.1 k)

const_over : (c : DocConst) (ts : List Token) → NoneOver ts → NoneOver (const_token c ∷ ts)
const_over (const.Digits ds) ts h = (λ e. e, h)
const_over (const.Number z) ts h = (λ e. e, h)
const_over (const.Text t) ts h = (λ e. e, h)

slice_over : (high low : ℕ) (ts : List Token) → IsSlice high low ts → NoneOver ts
slice_over high low ts (alone n) = (λ e. e, (λ e. e, (λ e. e, tt)))
slice_over high low ts (range h l le) = (λ e. e, (λ e. e, (λ e. e, (λ e. e, (λ e. e, tt)))))

mutual
  signal_over : (ps : List Part) (ts : List Token) → IsSignal ps ts → NoneOver ts
  signal_over ps ts (fixed c) = const_over c [] tt
  signal_over ps ts (wire n) = (λ e. e, tt)
  signal_over ps ts (slice {ps = qs} {ts = us} {us = vs} {high = h} {low = l} is sl) = over_both us vs (signal_over qs us is) (slice_over h l vs sl)
  signal_over ps ts (group {ps = qs} {ts = us} are) = (λ e. e, over_both us (token.CloseBrace ∷ []) (signals_over qs us are) (λ e. e, tt))

  signals_over : (ps : List Part) (ts : List Token) → AreSignals ps ts → NoneOver ts
  signals_over ps ts none = tt
  signals_over ps ts (more {ps = qs} {qs = rs} {ts = us} {us = vs} is are) = over_both us vs (signal_over qs us is) (signals_over rs vs are)

option_over : (o : WireOption) → NoneOver (wire_option_tokens o)
option_over (width n) = (λ e. e, (λ e. e, tt))
option_over (offset z) = (λ e. e, (λ e. e, tt))
option_over (input n) = (λ e. e, (λ e. e, tt))
option_over (output n) = (λ e. e, (λ e. e, tt))
option_over (inout n) = (λ e. e, (λ e. e, tt))
option_over upto = (λ e. e, tt)
option_over signed = (λ e. e, tt)

options_over : (os : List WireOption) (ts : List Token) → NoneOver ts → NoneOver (flat_map wire_option_tokens os ++ ts)
options_over [] ts h = h
options_over (o ∷ os) ts h = subst NoneOver (sym (append_assoc (wire_option_tokens o) (flat_map wire_option_tokens os) ts)) (over_both (wire_option_tokens o) (flat_map wire_option_tokens os ++ ts) (option_over o) (options_over os ts h))

mem_option_over : (o : MemOption) → NoneOver (mem_option_tokens o)
mem_option_over (mem_width n) = (λ e. e, (λ e. e, tt))
mem_option_over (mem_size n) = (λ e. e, (λ e. e, tt))
mem_option_over (mem_offset n) = (λ e. e, (λ e. e, tt))

mem_options_over : (os : List MemOption) (ts : List Token) → NoneOver ts → NoneOver (flat_map mem_option_tokens os ++ ts)
mem_options_over [] ts h = h
mem_options_over (o ∷ os) ts h = subst NoneOver (sym (append_assoc (mem_option_tokens o) (flat_map mem_option_tokens os) ts)) (over_both (mem_option_tokens o) (flat_map mem_option_tokens os ++ ts) (mem_option_over o) (mem_options_over os ts h))

value_over : (v : Option DocConst) → NoneOver (value_tokens v)
value_over None = tt
value_over (Some c) = const_over c [] tt

flag_over : (f : DocFlag) (ts : List Token) → NoneOver ts → NoneOver (flag_tokens f ++ ts)
flag_over flag.Plain ts h = h
flag_over flag.Signed ts h = (λ e. e, h)
flag_over flag.Real ts h = (λ e. e, h)

says_over : (s : Statement) (ts : List Token) → Says s ts → NoneOver ts
says_over s ts (autoidx z) = (λ e. e, (λ e. e, tt))
says_over s ts (attribute a) = (λ e. e, (λ e. e, const_over a.value [] tt))
says_over s ts (module_line n) = (λ e. e, (λ e. e, tt))
says_over s ts (parameter n v) = (λ e. e, (λ e. e, value_over v))
says_over s ts (wire_line os n) = (λ e. e, options_over os (token.Id n ∷ []) (λ e. e, tt))
says_over s ts (memory os n) = (λ e. e, mem_options_over os (token.Id n ∷ []) (λ e. e, tt))
says_over s ts (cell k n) = (λ e. e, (λ e. e, (λ e. e, tt)))
says_over s ts (connect {l = l} {r = r} {ts = us} {us = vs} il ir) = (λ e. e, over_both us vs (signal_over l us il) (signal_over r vs ir))
says_over s ts (cell_parameter f n c) = (λ e. e, flag_over f (token.Id n ∷ const_token c ∷ []) (λ e. e, const_over c [] tt))
says_over s ts (pin {v = v} {ts = us} n is) = (λ e. e, (λ e. e, signal_over v us is))
says_over s ts end = (λ e. e, tt)

each_over : (ss : List Statement) (tss : List (List Token)) → EachSays ss tss → All NoneOver tss
each_over ss tss no_lines = tt
each_over ss tss (more_lines {s = s} {ss = rs} {ts = ts} {tss = us} w rest) = (says_over s ts w, each_over rs us rest)

-- lines that say a document are within the limits of their tokens
short_lines : (tss : List (List Token)) → All NoneOver (written (limited_lines tss)) → limited_lines tss ≡ tss
short_lines [] h = refl
short_lines ([] ∷ tss) h = ap (λ (x : List (List Token)). [] ∷ x) (short_lines tss h)
short_lines ((t ∷ ts) ∷ tss) h = rw (limited_same (t ∷ ts) h.0, short_lines tss h.1) refl

pub spelled_short : (d : Doc) (tss : List (List Token)) → Spells d (limited_lines tss) → limited_lines tss ≡ tss
spelled_short d tss s = short_lines tss (each_over s.statements (written (limited_lines tss)) s.lines)

-- ---- lines and documents

without_autoidx : (limit : ℕ) (seen : Bool) (ms : List DocModule) (ss : List Statement) → IsFile seen ms ss → All (StatementNests limit) ss → All (StatementNests limit) (flat_map module_statements ms)
without_autoidx limit seen ms ss (modules_alone xs) h = h
without_autoidx limit seen ms ss (with_autoidx before behind) h =
    let k = all_split (StatementNests limit) (flat_map module_statements before) (says.Autoidx ∷ flat_map module_statements behind) h in
    subst (λ (x : List Statement). All (StatementNests limit) x) (sym (flat_map-append module_statements before behind)) (all_join (flat_map module_statements before) (flat_map module_statements behind) k.0 k.1.1) where
      all_join : (a b : List Statement) → All (StatementNests limit) a → All (StatementNests limit) b → All (StatementNests limit) (a ++ b)
      all_join [] b x y = y
      all_join (s ∷ a) b x y = (x.0, all_join a b x.1 y)

closed_found : (limit : ℕ) (tss : List (List Token)) (r : List Statement) (seen : Bool) (ms : List DocModule) (o : Open) (attrs : List DocAttr) (st : State) → EachSays r (written tss) → st ≡ canon seen ms o attrs → Spelled limit seen ms o attrs r → o ≡ open_.File → attrs ≡ []
    → Spells (record { modules = ms }) tss × DocNests limit (record { modules = ms })
closed_found limit tss r seen ms (open_.Module m) attrs st w e p oe ae = absurd cc
closed_found limit tss r seen ms (open_.Cell m c) attrs st w e p oe ae = absurd cc
closed_found limit tss r seen ms open_.File attrs st w e p oe ae =
    let whole : r ≡ p.ended = p.parts ∙ ap (λ (x : List DocAttr). p.ended ++ attributes x) ae ∙ append-nil p.ended in
    let order : IsFile seen ms r = subst (λ (x : List Statement). IsFile seen ms x) (sym whole) p.order in
    (record { autoidx = seen; statements = r; lines = w; order = order; names = p.names }, without_autoidx limit seen ms r order p.nests)

pub document_found : (limit : ℕ) (tss : List (List Token)) (st : State) → run limit start tss ≡ Ok st → IsClosed st → Spells (record { modules = st.modules }) tss × DocNests limit (record { modules = st.modules })
document_found limit tss st e c =
    let r = run_found limit start st [] tss e (nothing_read limit) in
    let k = r.canonical in
    let modules : st.modules ≡ k.ms = ap (λ (x : State). x.modules) k.is in
    let f = closed_found limit tss r.statements k.seen k.ms k.o k.attrs st r.lines k.is k.spelled (sym (ap (λ (x : State). x.current) k.is) ∙ c.outside) (sym (ap (λ (x : State). x.attrs) k.is) ∙ c.no_attrs) in
    subst (λ (x : List DocModule). Spells (record { modules = x }) tss × DocNests limit (record { modules = x })) (sym modules) f

-- ---- texts

abbrev read : List (List Token) → Result Doc TextFault
read tss = read_lines 64 start 1 1 tss

abbrev good : Doc → Result Doc TextFault
good d = Ok d

good_is : (d e : Doc) → good d ≡ good e → d ≡ e
good_is d e h = cc

closed_bool : (o : Open) (attrs : List DocAttr) → closed_at o attrs ≡ true → (o ≡ open_.File) × (attrs ≡ [])
closed_bool open_.File attrs e = (refl, nil_from_length attrs (eqb-true (length attrs) 0 e))
closed_bool (open_.Module m) attrs e = absurd cc
closed_bool (open_.Cell m c) attrs e = absurd cc

pub is_closed_found : (st : State) → is_closed st ≡ true → IsClosed st
unfolding is_closed
is_closed_found st e = let k = closed_bool st.current st.attrs e in record { outside = k.0; no_attrs = k.1 }

pub is_closed_again : (st : State) → IsClosed st → is_closed st ≡ true
unfolding is_closed
is_closed_again st c = rw (c.outside, c.no_attrs) refl

finish_at : (st : State) (last : ℕ) (d : Doc) (b : Bool) → is_closed st ≡ b → cond b (good (record { modules = st.modules })) (Err (fault last refusal.Grammar)) ≡ Ok d → IsClosed st × (d ≡ record { modules = st.modules })
finish_at st last d true h e = (is_closed_found st h, sym (good_is (record { modules = st.modules }) d e))
finish_at st last d false h e = absurd cc

finish_found : (st : State) (last : ℕ) (d : Doc) → finish_text st last ≡ Ok d → IsClosed st × (d ≡ record { modules = st.modules })
unfolding finish_text
finish_found st last d e = finish_at st last d (is_closed st) refl e

pub finish_again : (st : State) (last : ℕ) → IsClosed st → finish_text st last ≡ Ok (record { modules = st.modules })
unfolding finish_text
finish_again st last c = rw (is_closed_again st c) refl

-- the document behind lines
pub record Finds (st : State) (tss : List (List Token)) (d : Doc) : Type 0 where
  pub last : State
  pub is : run 64 st tss ≡ Ok last
  pub closed : IsClosed last
  pub value : d ≡ record { modules = last.modules }

finds_here : (st : State) (n : ℕ) (d : Doc) → finish_text st n ≡ Ok d → Finds st [] d
unfolding run
finds_here st n d e = let k = finish_found st n d e in record { last = st; is = refl; closed = k.0; value = k.1 }

no_doc : (n : ℕ) (r : Result State Refusal) (d : Doc) → on_line n r (λ next. Err (fault n refusal.Grammar)) ≡ Ok d → ⊥
no_doc n (Ok next) d e = absurd cc
no_doc n (Err c) d e = absurd cc

finds_blank : (st : State) (d : Doc) → Finds st [] d → Finds st ([] ∷ []) d
unfolding run
finds_blank st d f = record { last = f.last; is = rw (blank_line 64 st) f.is; closed = f.closed; value = f.value }

end_found : (st : State) (n last : ℕ) (ts : List Token) (d : Doc) → at_end 64 st n last ts ≡ Ok d → (ts ≡ []) × Finds st (ts ∷ []) d
unfolding at_end
end_found st n last [] d e = (refl, finds_blank st d (finds_here st last d e))
end_found st n last (t ∷ ts) d e = absurd (no_doc n (line_at 64 st (t ∷ ts)) d e)

more_found : (st : State) (ts : List Token) (tss : List (List Token)) (n : ℕ) (d : Doc) (r : Result State Refusal) (f : State → Result Doc TextFault) → line_at 64 st ts ≡ r → on_line n r f ≡ Ok d
    → ((next : State) → f next ≡ Ok d → EndsBlank tss × Finds next tss d) → EndsBlank tss × Finds st (ts ∷ tss) d
unfolding run
more_found st ts tss n d (Ok next) f q e again = let k = again next e in (k.0, record { last = k.1.last; is = rw q k.1.is; closed = k.1.closed; value = k.1.value })
more_found st ts tss n d (Err c) f q e again = absurd cc

lines_found : (st : State) (n last : ℕ) (tss : List (List Token)) (d : Doc) → read_lines 64 st n last tss ≡ Ok d → EndsBlank tss × Finds st tss d
unfolding read_lines
lines_found st n last [] d e = (tt, finds_here st last d e)
lines_found st n last (ts ∷ []) d e = end_found st n last ts d e
lines_found st n last (ts ∷ us ∷ tss) d e =
    more_found st ts (us ∷ tss) n d (line_at 64 st ts) (λ next. read_lines 64 next (n + 1) (last_line ts n last) (us ∷ tss)) refl e
    (λ next h. lines_found next (n + 1) (last_line ts n last) (us ∷ tss) d h)

abbrev lines_of : List ℕ → List (List Token)
lines_of bs = limited_lines (token_lines bs)

found_reads : (bs : List ℕ) (d : Doc) → EndsBlank (lines_of bs) → Finds start (lines_of bs) d → Reads bs d × IsWithinLimits bs d
found_reads bs d ends f =
    let k = document_found 64 (lines_of bs) f.last f.is f.closed in
    let s : Spells d (lines_of bs) = subst (λ (x : Doc). Spells x (lines_of bs)) (sym f.value) k.0 in
    let short : lines_of bs ≡ token_lines bs = spelled_short d (token_lines bs) s in
    (record { ends = subst EndsBlank short ends; spelled = subst (λ (x : List (List Token)). Spells d x) short s }, record { short = short; depth = subst (λ (x : Doc). DocNests 64 x) (sym f.value) k.1 })

pub is_found : (bs : List ℕ) (r : Result Doc TextFault) → GivesDoc r (read (lines_of bs)) → IfOk r (λ d. Reads bs d × IsWithinLimits bs d)
is_found bs (Err f) g = tt
is_found bs (Ok d) g = let k = lines_found start 1 1 (lines_of bs) d g in found_reads bs d k.0 k.1

-- ---- what a document says is read

here_again : (st : State) (n : ℕ) (d : Doc) → Finds st [] d → finish_text st n ≡ Ok d
unfolding run
here_again st n d f =
    let same : st ≡ f.last = ok_is st f.last f.is in
    finish_again st n (subst IsClosed (sym same) f.closed) ∙ ap (λ (s : State). good (record { modules = s.modules })) same ∙ ap good (sym f.value)

unblank : (st : State) (d : Doc) → Finds st ([] ∷ []) d → Finds st [] d
unfolding run
unblank st d f = record { last = f.last; is = rw (blank_line 64 st) at f.is; closed = f.closed; value = f.value }

first_line : (st : State) (ts : List Token) (tss : List (List Token)) (d : Doc) → Finds st (ts ∷ tss) d → (next : State) × (line_at 64 st ts ≡ Ok next) × Finds next tss d
unfolding run
first_line st ts tss d f = let b = bind_ok (line_at 64 st ts) (λ next. run 64 next tss) f.last f.is in (b.0, b.1, record { last = f.last; is = b.2; closed = f.closed; value = f.value })

end_again : (st : State) (n last : ℕ) (ts : List Token) (d : Doc) → ts ≡ [] → Finds st (ts ∷ []) d → at_end 64 st n last ts ≡ Ok d
unfolding at_end
end_again st n last [] d e f = here_again st last d (unblank st d f)
end_again st n last (t ∷ ts) d e f = absurd cc

lines_again : (st : State) (n last : ℕ) (tss : List (List Token)) (d : Doc) → EndsBlank tss → Finds st tss d → read_lines 64 st n last tss ≡ Ok d
unfolding read_lines
lines_again st n last [] d ends f = here_again st last d f
lines_again st n last (ts ∷ []) d ends f = end_again st n last ts d ends f
lines_again st n last (ts ∷ us ∷ tss) d ends f =
    let k = first_line st ts (us ∷ tss) d f in
    rw k.1 (lines_again k.0 (n + 1) (last_line ts n last) (us ∷ tss) d ends k.2)

pub only : (bs : List ℕ) (d : Doc) → Reads bs d → IsWithinLimits bs d → read (lines_of bs) ≡ Ok d
only bs d r w =
    let e = document_says 64 d (token_lines bs) r.spelled w.depth in
    subst (λ (x : List (List Token)). read x ≡ Ok d) (sym w.short)
    (lines_again start 1 1 (token_lines bs) d r.ends (record { last = canon r.spelled.autoidx d.modules open_.File []; is = e; closed = record { outside = refl; no_attrs = refl }; value = refl }))

as_read : (r : Result Doc TextFault) (d : Doc) (read_as : Result Doc TextFault) → GivesDoc r read_as → read_as ≡ Ok d → IsReadAs r d
as_read (Ok e) d x g h = good_is e d (sym g ∙ h)
as_read (Err f) d x (inl m) h = m
as_read (Err f) d x (inr m) h = let k : good d ≡ Err f = sym h ∙ m in absurd cc

pub only_gives : (bs : List ℕ) (r : Result Doc TextFault) (d : Doc) → GivesDoc r (read (lines_of bs)) → Reads bs d → IsWithinLimits bs d → IsReadAs r d
only_gives bs r d g reads w = as_read r d (read (lines_of bs)) g (only bs d reads w)

pub to_document : (tss : List (List Token)) (st : State) → run 64 start tss ≡ Ok st → IsClosed st → IsDocument tss
to_document tss st e c = let k = document_found 64 tss st e c in (record { modules = st.modules }, k.0, k.1)

pub to_deep : (limit : ℕ) (tss : List (List Token)) (st : State) → run limit start tss ≡ Ok st → IsClosed st → IsDeepDocument tss
to_deep limit tss st e c = let k = document_found limit tss st e c in (record { modules = st.modules }, k.0)
