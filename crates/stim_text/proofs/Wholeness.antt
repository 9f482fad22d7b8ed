-- Values and edges of events, line by line.
use Rattle.std.proofs.Common.{◌≡◌, ℕ, zero, suc, ◌+◌, ◌<◌, ◌≤◌, Bool, true, false, List, [], ◌∷◌, ◌++◌, length, replicate, Option, Some, None, Result, Ok, Err, slice_get, refl, sym, ap, subst, ◌∙◌, arith, length-append}
use Rattle.std.specs.Prelude.{nat_lt, slice_set, if◌then◌else◌, codes}
use Rattle.std.specs.Str.{bytes_eq}
use Rattle.std.proofs.lemmas.Option.{none-some}
use Rattle.std.proofs.Math.ListN.{length-set}
use Rattle.std.proofs.lemmas.List.{length-replicate}
use Rattle.std.proofs.lemmas.Bool.{ltb-true}
use Rattle.net_core.specs.declared.bits.Bit.{Bit}
use Rattle.net_core.specs.declared.bits.Bit.TheVariants as bit
use Rattle.net_core.specs.declared.bits.Edge.{Edge}
use Rattle.net_core.specs.declared.bits.Event.{Event}
use Rattle.net_core.specs.declared.modules.Module.{Module}
use Rattle.net_core.specs.Ports.{nets_of, inputs_of}
use Rattle.net_core.specs.Valid.{Each}
use Rattle.stim_text.specs.declared.fault.StimCode.{StimCode}
use Rattle.stim_text.specs.declared.fault.StimCode.TheVariants as code
use Rattle.stim_text.specs.declared.fault.StimFault.{StimFault}
use Rattle.stim_text.specs.declared.names.Span.{Span}
use Rattle.stim_text.specs.declared.read.State.{State}
use Rattle.stim_text.specs.declared.says.Says.{Says}
use Rattle.stim_text.specs.declared.says.Says.TheVariants as says
use Rattle.stim_text.specs.declared.tables.Tables.{Tables}
use Rattle.stim_text.specs.Inputs.{wire_at, pin_at, has_net, tables_of}
use Rattle.stim_text.specs.Spoken.{lines, spoken, number_below, value_in}
use Rattle.stim_text.specs.Stimulus.{Reading, set_bits, set_at, edge_of, edge_index, edge_at, set_words, pin_words, go_words, edge_words, command, words_say, line_says, put, net_values, event, start, with_event, advance, and_advance, line_at, fault, on_line, read_lines, read}
use Rattle.stim_text.specs.Whole.{IsInput, IsWholeEvent, AreWholeEvents, EventsAreWhole}

-- ---- edges are those of inputs

net_placed : (bits : List Bit) (k n : ℕ) → slice_get bits k ≡ Some (bit.Net n) → IsInput (nets_of bits) n
net_placed [] k n h = absurd (none-some (bit.Net n) h)
net_placed (bit.Zero ∷ bs) zero n h = cc
net_placed (bit.One ∷ bs) zero n h = cc
net_placed (bit.Net m ∷ bs) zero n h =
    let e : m ≡ n = cc in
    (0, ap (λ x. Some x) e)
net_placed (bit.Zero ∷ bs) (suc k) n h = net_placed bs k n h
net_placed (bit.One ∷ bs) (suc k) n h = net_placed bs k n h
net_placed (bit.Net m ∷ bs) (suc k) n h =
    let (place, at) = net_placed bs k n h in
    (suc place, at)

-- the edge of an event that a line ends is one of an input
abbrev pub EdgeFits : List ℕ → Option Edge → Type 0
EdgeFits inputs None = Unit {0}
EdgeFits inputs (Some e) = IsInput inputs e.net

abbrev pub SaysFit : List ℕ → Says → Type 0
SaysFit inputs says.Nothing = Unit {0}
SaysFit inputs (says.Set place bits) = Unit {0}
SaysFit inputs (says.Event e) = EdgeFits inputs e

abbrev pub ReadingFits : List ℕ → Reading → Type 0
ReadingFits inputs (Ok s) = SaysFit inputs s
ReadingFits inputs (Err c) = Unit {0}

chosen : (P : Reading → Type 0) (b : Bool) (x y : Reading) → P x → P y → P (if b then x else y)
chosen P true x y p q = p
chosen P false x y p q = q

edge_fits : (t : Tables) (rising : Bool) (k : ℕ) (o : Option Bit) → slice_get t.bits k ≡ o → ReadingFits (nets_of t.bits) (edge_of t.roots rising o)
unfolding edge_of
edge_fits t rising k None e = tt
edge_fits t rising k (Some bit.Zero) e = tt
edge_fits t rising k (Some bit.One) e = tt
edge_fits t rising k (Some (bit.Net n)) e =
    chosen (ReadingFits (nets_of t.bits)) (has_net t.roots n) (Ok (says.Event (Some (record { net = n; rising = rising })))) (Err code.Clock) (net_placed t.bits k n e) tt

index_fits : (t : Tables) (rising : Bool) (from : ℕ) (o : Option ℕ) → ReadingFits (nets_of t.bits) (edge_index t rising from o)
index_fits t rising from None = tt
index_fits t rising from (Some k) = edge_fits t rising (from + k) (slice_get t.bits (from + k)) refl

at_fits : (t : Tables) (rising : Bool) (o : Option Span) (w : List ℕ) → ReadingFits (nets_of t.bits) (edge_at t rising o w)
unfolding edge_at
at_fits t rising None w = tt
at_fits t rising (Some s) w = index_fits t rising s.start (number_below s.width w)

edge_words_fit : (t : Tables) (rising : Bool) (ws : List (List ℕ)) → ReadingFits (nets_of t.bits) (edge_words t rising ws)
unfolding edge_words
edge_words_fit t rising [] = tt
edge_words_fit t rising (a ∷ []) = tt
edge_words_fit t rising (a ∷ b ∷ []) = at_fits t rising (wire_at t.wires a) b
edge_words_fit t rising (a ∷ b ∷ c ∷ []) = at_fits t rising (pin_at t.pins a b) c
edge_words_fit t rising (a ∷ b ∷ c ∷ d ∷ ws) = tt

set_bits_fit : (inputs : List ℕ) (place : ℕ) (r : Result (List Bool) StimCode) → ReadingFits inputs (set_bits place r)
set_bits_fit inputs place (Ok bits) = tt
set_bits_fit inputs place (Err c) = tt

set_fits : (inputs : List ℕ) (o : Option Span) (w : List ℕ) → ReadingFits inputs (set_at o w)
unfolding set_at
set_fits inputs None w = tt
set_fits inputs (Some s) w = set_bits_fit inputs s.start (value_in s.width w)

set_words_fit : (t : Tables) (ws : List (List ℕ)) → ReadingFits (nets_of t.bits) (set_words t ws)
unfolding set_words
set_words_fit t [] = tt
set_words_fit t (a ∷ []) = tt
set_words_fit t (a ∷ b ∷ []) = set_fits (nets_of t.bits) (wire_at t.wires a) b
set_words_fit t (a ∷ b ∷ c ∷ ws) = tt

pin_words_fit : (t : Tables) (ws : List (List ℕ)) → ReadingFits (nets_of t.bits) (pin_words t ws)
unfolding pin_words
pin_words_fit t [] = tt
pin_words_fit t (a ∷ []) = tt
pin_words_fit t (a ∷ b ∷ []) = tt
pin_words_fit t (a ∷ b ∷ c ∷ []) = set_fits (nets_of t.bits) (pin_at t.pins a b) c
pin_words_fit t (a ∷ b ∷ c ∷ d ∷ ws) = tt

go_words_fit : (inputs : List ℕ) (ws : List (List ℕ)) → ReadingFits inputs (go_words ws)
unfolding go_words
go_words_fit inputs [] = tt
go_words_fit inputs (a ∷ ws) = tt

chosen_of : (P : Reading → Type 0) (a b c d e : Bool) (v w x y z last : Reading) → P v → P w → P x → P y → P z → P last → P (if a then v else (if b then w else (if c then x else (if d then y else (if e then z else last)))))
chosen_of P true b c d e v w x y z last pv pw px py pz pl = pv
chosen_of P false true c d e v w x y z last pv pw px py pz pl = pw
chosen_of P false false true d e v w x y z last pv pw px py pz pl = px
chosen_of P false false false true e v w x y z last pv pw px py pz pl = py
chosen_of P false false false false e v w x y z last pv pw px py pz pl = chosen P e z last pz pl

command_fits : (t : Tables) (c : List ℕ) (ws : List (List ℕ)) → ReadingFits (nets_of t.bits) (command t c ws)
unfolding command
command_fits t c ws =
    chosen_of (ReadingFits (nets_of t.bits)) (bytes_eq c (codes "set")) (bytes_eq c (codes "pin")) (bytes_eq c (codes "go")) (bytes_eq c (codes "rise")) (bytes_eq c (codes "fall"))
    (set_words t ws) (pin_words t ws) (go_words ws) (edge_words t true ws) (edge_words t false ws) (Err code.Line)
    (set_words_fit t ws) (pin_words_fit t ws) (go_words_fit (nets_of t.bits) ws) (edge_words_fit t true ws) (edge_words_fit t false ws) tt

words_fit : (t : Tables) (ws : List (List ℕ)) → ReadingFits (nets_of t.bits) (words_say t ws)
words_fit t [] = tt
words_fit t (c ∷ ws) = command_fits t c ws

line_fits : (t : Tables) (l : List ℕ) → ReadingFits (nets_of t.bits) (line_says t l)
unfolding line_says
line_fits t l = words_fit t (spoken l)

-- ---- values are as many as inputs

put_length : (place : ℕ) (vs values : List Bool) → length (put place vs values) ≡ length values
unfolding put
put_length place [] values = refl
put_length place (v ∷ vs) values = put_length (place + 1) vs (slice_set values place v) ∙ length-set values place v

values_length : (bits : List Bit) (values : List Bool) → length values ≡ length bits → length (net_values bits values) ≡ length (nets_of bits)
unfolding net_values
values_length [] values e = refl
values_length (bit.Zero ∷ bs) [] e = absurd (omega (arith, e))
values_length (bit.One ∷ bs) [] e = absurd (omega (arith, e))
values_length (bit.Net n ∷ bs) [] e = absurd (omega (arith, e))
values_length (bit.Zero ∷ bs) (v ∷ values) e = values_length bs values (omega (arith, e))
values_length (bit.One ∷ bs) (v ∷ values) e = values_length bs values (omega (arith, e))
values_length (bit.Net n ∷ bs) (v ∷ values) e = omega (arith, values_length bs values (omega (arith, e)))

-- ---- states

pub record IsWholeState (t : Tables) (st : State) : Type 0 where
  pub values : length st.values ≡ length t.bits
  pub few : length st.events ≤ 65536
  pub each : Each st.events (IsWholeEvent (nets_of t.bits))

edge_is : (inputs : List ℕ) (o : Option Edge) (e : Edge) → EdgeFits inputs o → o ≡ Some e → IsInput inputs e.net
edge_is inputs None e fits h = absurd (none-some e h)
edge_is inputs (Some d) e fits h =
    let same : d ≡ e = cc in
    subst (λ (x : Edge). IsInput inputs x.net) same fits

some_same : {X : Type 0} (x y : X) → Some x ≡ Some y → x ≡ y
some_same x y e = cc

each_pushed : {X : Type 0} (P : X → Type 0) (xs : List X) (y : X) → Each xs P → P y → Each (xs ++ y ∷ []) P
each_pushed P [] y all p zero x h = subst P (some_same y x h) p
each_pushed P [] y all p (suc i) x h = absurd (none-some x h)
each_pushed P (z ∷ xs) y all p zero x h = all 0 x h
each_pushed P (z ∷ xs) y all p (suc i) x h = each_pushed P xs y (λ j w at. all (suc j) w at) p i x h

ok_same : {X : Type 0} (x y : X) → ◌≡◌ {A = Result X StimCode} (Ok x) (Ok y) → x ≡ y
ok_same x y e = cc

no_err : {X : Type 0} (c : StimCode) (y : X) → ◌≡◌ {A = Result X StimCode} (Err c) (Ok y) → ⊥
no_err c y e = cc

event_by : (t : Tables) (st next : State) (e : Option Edge) (b : Bool) → nat_lt (length st.events) 65536 ≡ b → IsWholeState t st → EdgeFits (nets_of t.bits) e
    → ◌≡◌ {A = Result State StimCode} (if b then Ok (record st { events = st.events ++ event t.bits st.values e ∷ [] }) else Err code.Limit) (Ok next) → IsWholeState t next
event_by t st next e true few whole fits is =
    subst (IsWholeState t) (ok_same _ next is)
    (record {
      values = whole.values;
      few = omega (arith, ltb-true (length st.events) 65536 few, length-append st.events (event t.bits st.values e ∷ []));
      each = each_pushed (IsWholeEvent (nets_of t.bits)) st.events (event t.bits st.values e) whole.each
          (record { values = values_length t.bits st.values whole.values; edge = λ d h. edge_is (nets_of t.bits) e d fits h });
    })
event_by t st next e false few whole fits is = absurd (no_err code.Limit next is)

advanced : (t : Tables) (st next : State) (s : Says) → IsWholeState t st → SaysFit (nets_of t.bits) s → ◌≡◌ {A = Result State StimCode} (advance t st s) (Ok next) → IsWholeState t next
unfolding advance with_event
advanced t st next says.Nothing whole fits is = subst (IsWholeState t) (ok_same st next is) whole
advanced t st next (says.Set place bits) whole fits is =
    subst (IsWholeState t) (ok_same _ next is)
    (record { values = put_length place bits st.values ∙ whole.values; few = whole.few; each = whole.each })
advanced t st next (says.Event e) whole fits is = event_by t st next e (nat_lt (length st.events) 65536) refl whole fits is

read_on : (t : Tables) (st next : State) (r : Reading) → IsWholeState t st → ReadingFits (nets_of t.bits) r → ◌≡◌ {A = Result State StimCode} (and_advance t st r) (Ok next) → IsWholeState t next
read_on t st next (Ok s) whole fits is = advanced t st next s whole fits is
read_on t st next (Err c) whole fits is = absurd (no_err c next is)

after_line : (t : Tables) (st next : State) (l : List ℕ) → IsWholeState t st → ◌≡◌ {A = Result State StimCode} (line_at t st l) (Ok next) → IsWholeState t next
unfolding line_at
after_line t st next l whole is = read_on t st next (line_says t l) whole (line_fits t l) is

-- ---- texts

pub record AreWhole (t : Tables) (events : List Event) : Type 0 where
  pub few : length events ≤ 65536
  pub each : Each events (IsWholeEvent (nets_of t.bits))

events_same : (x y : List Event) → ◌≡◌ {A = Result (List Event) StimFault} (Ok x) (Ok y) → x ≡ y
events_same x y e = cc

no_fault : (f : StimFault) (y : List Event) → ◌≡◌ {A = Result (List Event) StimFault} (Err f) (Ok y) → ⊥
no_fault f y e = cc

through : (t : Tables) (n : ℕ) (r : Result State StimCode) (f : State → Result (List Event) StimFault) (events : List Event) → ((next : State) → r ≡ Ok next → f next ≡ Ok events → AreWhole t events)
    → ◌≡◌ {A = Result (List Event) StimFault} (on_line n r f) (Ok events) → AreWhole t events
through t n (Ok next) f events whole is = whole next refl is
through t n (Err c) f events whole is = absurd (no_fault (fault n c) events is)

all_lines : (t : Tables) (st : State) (n : ℕ) (ls : List (List ℕ)) (events : List Event) → IsWholeState t st → ◌≡◌ {A = Result (List Event) StimFault} (read_lines t st n ls) (Ok events) → AreWhole t events
unfolding read_lines
all_lines t st n [] events whole is = subst (AreWhole t) (events_same st.events events is) (record { few = whole.few; each = whole.each })
all_lines t st n (l ∷ ls) events whole is =
    through t n (line_at t st l) (λ next. read_lines t next (n + 1) ls) events (λ next at rest. all_lines t next (n + 1) ls events (after_line t st next l whole at) rest) is

begins : (t : Tables) → IsWholeState t (start t)
unfolding start
begins t = record {
  values = length-replicate (length t.bits) false;
  few = omega arith;
  each = λ i x h. absurd (none-some x h);
}

pub events_are_whole : EventsAreWhole
unfolding read tables_of
events_are_whole m bytes events is =
    let whole = all_lines (tables_of m) (start (tables_of m)) 1 (lines bytes) events (begins (tables_of m)) is in
    record { few = whole.few; each = whole.each }
