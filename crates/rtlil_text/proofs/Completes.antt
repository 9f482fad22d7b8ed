-- Every place of a line goes on to the end of a line, and every state to the end of a document.
use Rattle.std.proofs.Common.{◌≡◌, ℕ, pos, zero, suc, ◌+◌, ◌<◌, Bool, true, false, List, [], ◌∷◌, ◌++◌, length, replicate, Some, None, Result, Ok, refl, ap, ◌∙◌, arith}
use Rattle.std.specs.Prelude.{◌==◌, ◌||◌, ◌&&◌}
use Rattle.std.specs.List.{list_any}
use Rattle.std.specs.Str.{bytes_eq}
use Rattle.std.proofs.lemmas.List.{length-replicate}
use Rattle.std.proofs.lemmas.Bool.{le-ltb}
use Rattle.std.proofs.Math.Dec.{eqb-suc-zero}
use Rattle.rtlil_lex.specs.declared.token.Token.{Token}
use Rattle.rtlil_lex.specs.declared.token.Token.TheVariants as token
use Rattle.rtlil_lex.specs.declared.token.Word.TheVariants as word
use Rattle.rtlil_text.specs.declared.doc.DocAttr.{DocAttr}
use Rattle.rtlil_text.specs.declared.doc.DocConst.TheVariants as const
use Rattle.rtlil_text.specs.declared.doc.DocFlag.TheVariants as flag
use Rattle.rtlil_text.specs.declared.doc.DocMem.{DocMem}
use Rattle.rtlil_text.specs.declared.doc.DocModule.{DocModule}
use Rattle.rtlil_text.specs.declared.doc.DocWire.{DocWire}
use Rattle.rtlil_text.specs.declared.doc.Item.TheVariants as item
use Rattle.rtlil_text.specs.declared.doc.Part.{Part}
use Rattle.rtlil_text.specs.declared.doc.Part.TheVariants as part
use Rattle.rtlil_text.specs.declared.fault.Refusal.{Refusal}
use Rattle.rtlil_text.specs.declared.place.MemField.{MemField}
use Rattle.rtlil_text.specs.declared.place.Place.{Place}
use Rattle.rtlil_text.specs.declared.place.Place.TheVariants as place
use Rattle.rtlil_text.specs.declared.place.Statement.{Statement}
use Rattle.rtlil_text.specs.declared.place.Statement.TheVariants as says
use Rattle.rtlil_text.specs.declared.place.WireField.{WireField}
use Rattle.rtlil_text.specs.declared.place.WireField.TheVariants as wire_field
use Rattle.rtlil_text.specs.declared.signal.Signal.{Signal}
use Rattle.rtlil_text.specs.declared.signal.Spot.{Spot}
use Rattle.rtlil_text.specs.declared.signal.Spot.TheVariants as spot
use Rattle.rtlil_text.specs.declared.state.Open.{Open}
use Rattle.rtlil_text.specs.declared.state.Open.TheVariants as open_
use Rattle.rtlil_text.specs.declared.state.State.{State}
use Rattle.rtlil_text.specs.declared.state.Taken.{Taken}
use Rattle.rtlil_text.specs.Grammar.{has, Says, end, module_line, wire_line, fixed, with_wire_option, width, offset, input, output, inout, named_wire, plain_wire}
use Rattle.rtlil_text.specs.Read.{◌>>=◌, steps}
use Rattle.rtlil_text.specs.ReadSignal.{no_signal, base_step, closed, closed_at, after_step, spot_step, signal_step, colon_step, close_step, low_step, count_in, count_of}
use Rattle.rtlil_text.specs.ReadLine.{name_in, number_in, const_in, step, finish, parameter_value, wire_number, mem_number, mem_set}
use Rattle.rtlil_text.specs.ReadState.{advance, begin_module, put_wire, with_item, end as end_state, end_of}
use Rattle.rtlil_text.specs.ReadText.{run as run_lines, IsClosed}
use Rattle.rtlil_text.proofs.Steps.{steps_nil, steps_first, steps_within}
use Rattle.rtlil_text.proofs.SignalSays.{at, signal_says}
use Rattle.rtlil_text.proofs.LineFound.{Allowed}
use Rattle.rtlil_text.proofs.LineSays.{run, next, ends, goes, finished, new_read, wire_options_read, mem_options_read, right_step, pin_step, left_goes, right_read, finish_right, finish_pin, value_read, named_read, flag_read, says_read}
use Rattle.rtlil_text.proofs.DocSays.{run_nil, run_line}

-- ---- a name that is new

and_false : (a : Bool) → (a && false) ≡ false
and_false true = refl
and_false false = refl

shorter : (a b : List ℕ) → length b < length a → bytes_eq a b ≡ false
shorter [] b h = absurd (omega arith)
shorter (x ∷ xs) [] h = refl
shorter (x ∷ xs) (y ∷ ys) h = rw (shorter xs ys (omega arith)) (and_false (x == y))

or_false : (a b : Bool) → a ≡ false → b ≡ false → (a || b) ≡ false
or_false a b p q = rw (p, q) refl

abbrev sizes : List (List ℕ) → ℕ
sizes [] = 0
sizes (n ∷ ns) = length n + sizes ns

-- more bytes than in all of the names
abbrev pub fresh : List (List ℕ) → List ℕ
fresh ns = 92 ∷ replicate (suc (sizes ns)) 97

none_is : (ns : List (List ℕ)) (n : List ℕ) → sizes ns < length n → has ns n ≡ false
unfolding has
none_is [] n h = refl
none_is (m ∷ ns) n h = or_false (bytes_eq n m) (list_any (λ x. bytes_eq n x) ns) (shorter n m (omega arith)) (none_is ns n (omega arith))

pub fresh_new : (ns : List (List ℕ)) → has ns (fresh ns) ≡ false
fresh_new ns = none_is ns (fresh ns) (omega (arith, length-replicate {A = ℕ} (suc (sizes ns)) 97))

-- ---- signals

pub record Ends (limit : ℕ) (s : Signal) : Type 0 where
  pub tokens : List Token
  pub parts : List Part
  pub is : steps (signal_step limit) s tokens ≡ Ok (at parts 0 spot.After)

module _ (limit : ℕ) where
  on_by : (s n : Signal) (t : Token) → signal_step limit s t ≡ Ok n → Ends limit n → Ends limit s
  on_by s n t e k = record { tokens = t ∷ k.tokens; parts = k.parts; is = steps_first (signal_step limit) s n t k.tokens e ∙ k.is }

  closes : (d : ℕ) (ps : List Part) → signal_step limit (at ps (suc d) spot.After) token.CloseBrace ≡ Ok (at (ps ++ part.End ∷ []) d spot.After)
  unfolding signal_step spot_step after_step base_step closed closed_at
  closes d ps = rw (eqb-suc-zero d) refl

  ends_after : (d : ℕ) (ps : List Part) → Ends limit (at ps d spot.After)
  ends_after zero ps = record { tokens = []; parts = ps; is = steps_nil (signal_step limit) (at ps 0 spot.After) }
  ends_after (suc d) ps = on_by (at ps (suc d) spot.After) (at (ps ++ part.End ∷ []) d spot.After) token.CloseBrace (closes d ps) (ends_after d (ps ++ part.End ∷ []))

  ends_spot : (d : ℕ) (ps : List Part) (sp : Spot) → Ends limit (at ps d sp)
  unfolding signal_step spot_step base_step colon_step close_step low_step count_in count_of
  ends_spot d ps spot.Begin = on_by (at ps d spot.Begin) (at (ps ++ part.Fixed (const.Number (pos 0)) ∷ []) d spot.After) (token.Number (pos 0)) refl (ends_after d (ps ++ part.Fixed (const.Number (pos 0)) ∷ []))
  ends_spot d ps spot.After = ends_after d ps
  ends_spot d ps (spot.Colon h) = on_by (at ps d (spot.Colon h)) (at (ps ++ part.Slice h h ∷ []) d spot.After) token.CloseBracket refl (ends_after d (ps ++ part.Slice h h ∷ []))
  ends_spot d ps spot.High = on_by (at ps d spot.High) (at ps d (spot.Colon 0)) (token.Number (pos 0)) refl (on_by (at ps d (spot.Colon 0)) (at (ps ++ part.Slice 0 0 ∷ []) d spot.After) token.CloseBracket refl (ends_after d (ps ++ part.Slice 0 0 ∷ [])))
  ends_spot d ps (spot.Close h l) = on_by (at ps d (spot.Close h l)) (at (ps ++ part.Slice h l ∷ []) d spot.After) token.CloseBracket refl (ends_after d (ps ++ part.Slice h l ∷ []))
  ends_spot d ps (spot.Low h) = on_by (at ps d (spot.Low h)) (at ps d (spot.Close h 0)) (token.Number (pos 0)) (rw (le-ltb h 0 (omega arith)) refl) (on_by (at ps d (spot.Close h 0)) (at (ps ++ part.Slice h 0 ∷ []) d spot.After) token.CloseBracket refl (ends_after d (ps ++ part.Slice h 0 ∷ [])))

  pub signal_ends : (s : Signal) → Ends limit s
  signal_ends s = ends_spot s.depth s.parts s.spot

-- ---- places

pub record GoesOn (limit : ℕ) (st : State) (p : Place) : Type 0 where
  pub tokens : List Token
  pub statement : Statement
  pub is : run limit st p tokens ≡ Ok statement

module _ (limit : ℕ) (st : State) where
  onward : (p q : Place) (t : Token) → step limit st p t ≡ Ok q → GoesOn limit st q → GoesOn limit st p
  onward p q t e k = record { tokens = t ∷ k.tokens; statement = k.statement; is = next limit st p q t k.tokens e ∙ k.is }

  over_signal : (s : Signal) (f : Signal → Place) (x : Statement) → ((s n : Signal) (t : Token) → signal_step limit s t ≡ Ok n → step limit st (f s) t ≡ Ok (f n)) → ((ps : List Part) → (r : Statement) × (finish (f (at ps 0 spot.After)) ≡ Ok r)) → GoesOn limit st (f s)
  over_signal s f x h g =
      let k = signal_ends limit s in
      let r = g k.parts in
      let e = steps_within (signal_step limit) (step limit st) f h s (at k.parts 0 spot.After) k.tokens k.is in
      record { tokens = k.tokens; statement = r.0; is = ap (λ (y : Result Place Refusal). y >>= λ q. finish q) e ∙ r.1 }

  from_left : (s : Signal) → GoesOn limit st (place.Left s)
  from_left s =
      let k = signal_ends limit s in
      let e = steps_within (signal_step limit) (step limit st) (λ x. place.Left x) (left_goes limit st) s (at k.parts 0 spot.After) k.tokens k.is in
      let right : steps (signal_step limit) no_signal (token.Number (pos 0) ∷ []) ≡ Ok (at (part.Fixed (const.Number (pos 0)) ∷ []) 0 spot.After) = signal_says limit (part.Fixed (const.Number (pos 0)) ∷ []) (token.Number (pos 0) ∷ []) (fixed (const.Number (pos 0))) tt in
      record {
        tokens = k.tokens ++ token.Number (pos 0) ∷ [];
        statement = says.Connect k.parts (part.Fixed (const.Number (pos 0)) ∷ []);
        is = goes limit st (place.Left s) (place.Left (at k.parts 0 spot.After)) k.tokens (token.Number (pos 0) ∷ []) e ∙ right_read limit st k.parts (part.Fixed (const.Number (pos 0)) ∷ []) (token.Number (pos 0) ∷ []) right;
      }

  at_wire : (w : DocWire) → GoesOn limit st (place.WireOption w)
  at_wire w = let n = fresh st.names.wires in record { tokens = token.Id n ∷ []; statement = says.Wire (named_wire n w); is = wire_options_read limit st w [] n (fresh_new st.names.wires) }

  at_mem : (m : DocMem) → GoesOn limit st (place.MemOption m)
  at_mem m = let n = fresh st.names.memories in record { tokens = token.Id n ∷ []; statement = says.Memory (record m { name = n }); is = mem_options_read limit st m [] n (fresh_new st.names.memories) }

  wire_waits : (w : DocWire) (field : WireField) → (v : DocWire) × (wire_number w field (token.Number (pos 0)) ≡ Ok v)
  unfolding wire_number count_in count_of number_in
  wire_waits w wire_field.Width = (with_wire_option (width 0) w, refl)
  wire_waits w wire_field.Offset = (with_wire_option (offset (pos 0)) w, refl)
  wire_waits w wire_field.Input = (with_wire_option (input 0) w, refl)
  wire_waits w wire_field.Output = (with_wire_option (output 0) w, refl)
  wire_waits w wire_field.Inout = (with_wire_option (inout 0) w, refl)

  mem_waits : (m : DocMem) (field : MemField) → mem_number m field (token.Number (pos 0)) ≡ Ok (mem_set field 0 m)
  unfolding mem_number count_in count_of
  mem_waits m field = refl

  last : (p : Place) (s : Statement) (t : Token) → step limit st p t ≡ Ok (place.Done s) → GoesOn limit st p
  last p s t e = onward p (place.Done s) t e (record { tokens = []; statement = s; is = finished limit st s })

  pub place_goes_on : (p : Place) → GoesOn limit st p
  unfolding step finish number_in name_in parameter_value const_in
  place_goes_on place.Start = record { tokens = []; statement = says.Blank; is = ends limit st place.Start }
  place_goes_on place.AutoidxNumber = last place.AutoidxNumber says.Autoidx (token.Number (pos 0)) refl
  place_goes_on place.AttributeName = onward place.AttributeName (place.AttributeValue []) (token.Id []) refl (last (place.AttributeValue []) (says.Attribute (record { name = []; value = const.Number (pos 0) })) (token.Number (pos 0)) refl)
  place_goes_on (place.AttributeValue n) = last (place.AttributeValue n) (says.Attribute (record { name = n; value = const.Number (pos 0) })) (token.Number (pos 0)) refl
  place_goes_on place.ModuleName = let n = fresh st.names.modules in last place.ModuleName (says.Module n) (token.Id n) (rw (new_read limit st st.names.modules n (fresh_new st.names.modules)) refl)
  place_goes_on place.ParameterName = onward place.ParameterName (place.ParameterValue []) (token.Id []) refl (record { tokens = []; statement = says.Parameter (record { flag = flag.Plain; name = []; value = None }); is = ends limit st (place.ParameterValue []) })
  place_goes_on (place.ParameterValue n) = record { tokens = []; statement = says.Parameter (record { flag = flag.Plain; name = n; value = None }); is = ends limit st (place.ParameterValue n) }
  place_goes_on (place.WireOption w) = at_wire w
  place_goes_on (place.WireNumber w field) = let v = wire_waits w field in onward (place.WireNumber w field) (place.WireOption v.0) (token.Number (pos 0)) (rw v.1 refl) (at_wire v.0)
  place_goes_on (place.MemOption m) = at_mem m
  place_goes_on (place.MemNumber m field) = onward (place.MemNumber m field) (place.MemOption (mem_set field 0 m)) (token.Number (pos 0)) (rw (mem_waits m field) refl) (at_mem (mem_set field 0 m))
  place_goes_on place.CellKind = let n = fresh st.names.cells in onward place.CellKind (place.CellName []) (token.Id []) refl (last (place.CellName []) (says.Cell [] n) (token.Id n) (rw (new_read limit st st.names.cells n (fresh_new st.names.cells)) refl))
  place_goes_on (place.CellName k) = let n = fresh st.names.cells in last (place.CellName k) (says.Cell k n) (token.Id n) (rw (new_read limit st st.names.cells n (fresh_new st.names.cells)) refl)
  place_goes_on (place.Left s) = from_left s
  place_goes_on (place.Right l s) = over_signal s (λ x. place.Right l x) says.End (right_step limit st l) (λ ps. (says.Connect l ps, finish_right limit st l ps))
  place_goes_on place.CellParameterFlag = let n = fresh st.names.parameters in record { tokens = token.Id n ∷ token.Number (pos 0) ∷ []; statement = says.CellParameter (record { flag = flag.Plain; name = n; value = Some (const.Number (pos 0)) }); is = flag_read limit st flag.Plain n (const.Number (pos 0)) (fresh_new st.names.parameters) }
  place_goes_on (place.CellParameterName f) = let n = fresh st.names.parameters in record { tokens = token.Id n ∷ token.Number (pos 0) ∷ []; statement = says.CellParameter (record { flag = f; name = n; value = Some (const.Number (pos 0)) }); is = named_read limit st f n (const.Number (pos 0)) (fresh_new st.names.parameters) }
  place_goes_on (place.CellParameterValue f n) = record { tokens = token.Number (pos 0) ∷ []; statement = says.CellParameter (record { flag = f; name = n; value = Some (const.Number (pos 0)) }); is = value_read limit st f n (const.Number (pos 0)) }
  place_goes_on place.PinName =
      let n = fresh st.names.pins in
      onward place.PinName (place.PinValue n no_signal) (token.Id n) (rw (new_read limit st st.names.pins n (fresh_new st.names.pins)) refl)
      (over_signal no_signal (λ x. place.PinValue n x) says.End (pin_step limit st n) (λ ps. (says.Pin n ps, finish_pin limit st n ps)))
  place_goes_on (place.PinValue n s) = over_signal s (λ x. place.PinValue n x) says.End (pin_step limit st n) (λ ps. (says.Pin n ps, finish_pin limit st n ps))
  place_goes_on (place.Done s) = record { tokens = []; statement = s; is = finished limit st s }

-- ---- states

pub record Completes (limit : ℕ) (st : State) : Type 0 where
  pub later : List (List Token)
  pub last : State
  pub is : run_lines limit st later ≡ Ok last
  pub closed : IsClosed last

by_line : (limit : ℕ) (st : State) (s : Statement) (ts : List Token) → Says s ts → Allowed limit st s → Completes limit (advance st s) → Completes limit st
by_line limit st s ts w h k = record { later = ts ∷ k.later; last = k.last; is = run_line limit st s ts k.later (says_read limit st s ts w h) ∙ k.is; closed = k.closed }

closed_here : (limit : ℕ) (st : State) → IsClosed st → Completes limit st
closed_here limit st c = record { later = []; last = st; is = run_nil limit st; closed = c }

abbrev state : List DocModule → Open → List DocAttr → Bool → Taken → State
state ms o attrs seen ns = record { modules = ms; current = o; attrs = attrs; autoidx = seen; names = ns }

from_module : (limit : ℕ) (ms : List DocModule) (m : DocModule) (attrs : List DocAttr) (seen : Bool) (ns : Taken) → Completes limit (state ms (open_.Module m) attrs seen ns)
unfolding advance end_state end_of put_wire with_item
from_module limit ms m [] seen ns = by_line limit (state ms (open_.Module m) [] seen ns) says.End (token.Word word.End ∷ []) end refl (closed_here limit (advance (state ms (open_.Module m) [] seen ns) says.End) (record { outside = refl; no_attrs = refl }))
from_module limit ms m (a ∷ more) seen ns =
    let n = fresh ns.wires in
    let st = state ms (open_.Module m) (a ∷ more) seen ns in
    let s = says.Wire (named_wire n plain_wire) in
    by_line limit st s (token.Word word.Wire ∷ token.Id n ∷ []) (wire_line [] n) (tt, fresh_new ns.wires)
    (by_line limit (advance st s) says.End (token.Word word.End ∷ []) end refl (closed_here limit (advance (advance st s) says.End) (record { outside = refl; no_attrs = refl })))

completes_by : (limit : ℕ) (ms : List DocModule) (o : Open) (attrs : List DocAttr) (seen : Bool) (ns : Taken) → Completes limit (state ms o attrs seen ns)
unfolding advance end_state end_of begin_module
completes_by limit ms open_.File [] seen ns = closed_here limit (state ms open_.File [] seen ns) (record { outside = refl; no_attrs = refl })
completes_by limit ms open_.File (a ∷ more) seen ns =
    let n = fresh ns.modules in
    let st = state ms open_.File (a ∷ more) seen ns in
    by_line limit st (says.Module n) (token.Word word.Module ∷ token.Id n ∷ []) (module_line n) (tt, fresh_new ns.modules)
    (by_line limit (advance st (says.Module n)) says.End (token.Word word.End ∷ []) end refl (closed_here limit (advance (advance st (says.Module n)) says.End) (record { outside = refl; no_attrs = refl })))
completes_by limit ms (open_.Module m) attrs seen ns = from_module limit ms m attrs seen ns
completes_by limit ms (open_.Cell m c) attrs seen ns =
    let st = state ms (open_.Cell m c) attrs seen ns in
    let after = advance st says.End in
    by_line limit st says.End (token.Word word.End ∷ []) end tt (from_module limit ms (record m { items = m.items ++ item.Cell c ∷ [] }) attrs seen after.names)

pub completes : (limit : ℕ) (st : State) → Completes limit st
completes limit st = completes_by limit st.modules st.current st.attrs st.autoidx st.names
