-- What is read of a line is a statement that the line says, and one that may stand there.
use Rattle.std.proofs.Common.{◌≡◌, ℕ, ℤ, pos, Bool, true, false, cond, List, [], ◌∷◌, ◌++◌, length, Some, None, Ok, Err, refl, sym, ap, subst, ◌∙◌, append_assoc, append-nil}
use Rattle.std.specs.Prelude.{◌&&◌, not}
use Rattle.std.specs.List.{flat_map}
use Rattle.std.proofs.lemmas.Bool.{eqb-true}
use Rattle.std.proofs.lemmas.List.{nil_from_length}
use Rattle.std.proofs.lemmas.List.Concat.{flat_map-append}
use Rattle.rtlil_lex.specs.declared.token.Token.{Token}
use Rattle.rtlil_lex.specs.declared.token.Token.TheVariants as token
use Rattle.rtlil_lex.specs.declared.token.Word.{Word}
use Rattle.rtlil_lex.specs.declared.token.Word.TheVariants as word
use Rattle.rtlil_text.specs.declared.doc.DocAttr.{DocAttr}
use Rattle.rtlil_text.specs.declared.doc.DocConst.{DocConst}
use Rattle.rtlil_text.specs.declared.doc.DocConst.TheVariants as const
use Rattle.rtlil_text.specs.declared.doc.DocFlag.{DocFlag}
use Rattle.rtlil_text.specs.declared.doc.DocFlag.TheVariants as flag
use Rattle.rtlil_text.specs.declared.doc.DocMem.{DocMem}
use Rattle.rtlil_text.specs.declared.doc.DocWire.{DocWire}
use Rattle.rtlil_text.specs.declared.doc.Part.{Part}
use Rattle.rtlil_text.specs.declared.fault.Refusal.TheVariants as refusal
use Rattle.rtlil_text.specs.declared.place.MemField.{MemField}
use Rattle.rtlil_text.specs.declared.place.MemField.TheVariants as mem_field
use Rattle.rtlil_text.specs.declared.place.Place.{Place}
use Rattle.rtlil_text.specs.declared.place.Place.TheVariants as place
use Rattle.rtlil_text.specs.declared.place.Statement.{Statement}
use Rattle.rtlil_text.specs.declared.place.Statement.TheVariants as says
use Rattle.rtlil_text.specs.declared.place.WireField.{WireField}
use Rattle.rtlil_text.specs.declared.place.WireField.TheVariants as wire_field
use Rattle.rtlil_text.specs.declared.signal.Signal.{Signal}
use Rattle.rtlil_text.specs.declared.state.Open.{Open}
use Rattle.rtlil_text.specs.declared.state.Open.TheVariants as open_
use Rattle.rtlil_text.specs.declared.state.State.{State}
use Rattle.rtlil_text.specs.Grammar.{const_token, NestsWithin, WireOption, width, offset, input, output, inout, upto, signed, wire_option_tokens, with_wire_option, with_wire_options, plain_wire, named_wire, MemOption, mem_width, mem_size, mem_offset, mem_option_tokens, with_mem_option, with_mem_options, plain_mem, named_mem, flag_tokens, param, Says, autoidx, attribute, module_line, parameter, wire_line, memory, cell, connect, cell_parameter, pin, end, has}
use Rattle.rtlil_text.specs.Read.{◌>>=◌, steps}
use Rattle.rtlil_text.specs.ReadSignal.{no_signal, is_whole, count_in, signal_step}
use Rattle.rtlil_text.specs.ReadLine.{name_in, if_new, new_name, number_in, const_in, only_if, file_word, module_word, cell_word, is_bare, word_in, start_step, parameter_value, wire_word, wire_done, wire_option, wire_number, mem_word, mem_done, mem_option, mem_set, mem_number, begins_slice, left_step, named_step, flag_step, step, whole_of, finish, statement_at}
use Rattle.rtlil_text.proofs.Steps.{bind_ok, done, ok_is}
use Rattle.rtlil_text.proofs.SignalFound.{HoldsSignal, Signalled, nothing_read, signal_found, whole_found, count_is}

-- ---- where a statement may stand

abbrev pub AtFile : Open → Type 0
AtFile open_.File = Unit {0}
AtFile o = ⊥

abbrev pub AtModule : Open → Type 0
AtModule (open_.Module m) = Unit {0}
AtModule o = ⊥

abbrev pub AtCell : Open → Type 0
AtCell (open_.Cell m c) = Unit {0}
AtCell o = ⊥

abbrev pub AttributesAt : Open → Type 0
AttributesAt (open_.Cell m c) = ⊥
AttributesAt o = Unit {0}

-- no attribute stands before the end of a module
abbrev pub EndsAt : Open → List DocAttr → Type 0
EndsAt open_.File attrs = ⊥
EndsAt (open_.Module m) attrs = attrs ≡ []
EndsAt (open_.Cell m c) attrs = Unit {0}

abbrev pub Allowed : ℕ → State → Statement → Type 0
Allowed limit st says.Blank = Unit {0}
Allowed limit st says.Autoidx = AtFile st.current × (st.attrs ≡ []) × (st.autoidx ≡ false)
Allowed limit st (says.Attribute a) = AttributesAt st.current
Allowed limit st (says.Module n) = AtFile st.current × (has st.names.modules n ≡ false)
Allowed limit st (says.Parameter p) = AtModule st.current × (st.attrs ≡ [])
Allowed limit st (says.Wire w) = AtModule st.current × (has st.names.wires w.name ≡ false)
Allowed limit st (says.Memory m) = AtModule st.current × (has st.names.memories m.name ≡ false)
Allowed limit st (says.Cell k n) = AtModule st.current × (has st.names.cells n ≡ false)
Allowed limit st (says.Connect l r) = AtModule st.current × (st.attrs ≡ []) × NestsWithin limit l × NestsWithin limit r
Allowed limit st (says.CellParameter p) = AtCell st.current × (has st.names.parameters p.name ≡ false)
Allowed limit st (says.Pin n v) = AtCell st.current × (has st.names.pins n ≡ false) × NestsWithin limit v
Allowed limit st says.End = EndsAt st.current st.attrs

-- ---- what a place within a line knows of the tokens before it

-- a statement that a line says, or nothing on a line without tokens
abbrev pub SaysOrBlank : Statement → List Token → Type 0
SaysOrBlank says.Blank ts = ts ≡ []
SaysOrBlank s ts = Says s ts

pub record WireSoFar (w : DocWire) (ts : List Token) : Type 0 where
  pub options : List WireOption
  pub tokens : ts ≡ token.Word word.Wire ∷ flat_map wire_option_tokens options
  pub value : w ≡ with_wire_options plain_wire options

pub record MemSoFar (m : DocMem) (ts : List Token) : Type 0 where
  pub options : List MemOption
  pub tokens : ts ≡ token.Word word.Memory ∷ flat_map mem_option_tokens options
  pub value : m ≡ with_mem_options plain_mem options

abbrev pub wire_field_word : WireField → Word
wire_field_word wire_field.Width = word.Width
wire_field_word wire_field.Offset = word.Offset
wire_field_word wire_field.Input = word.Input
wire_field_word wire_field.Output = word.Output
wire_field_word wire_field.Inout = word.Inout

abbrev pub mem_field_word : MemField → Word
mem_field_word mem_field.Width = word.Width
mem_field_word mem_field.Size = word.Size
mem_field_word mem_field.Offset = word.Offset

pub record WireWaits (w : DocWire) (field : WireField) (ts : List Token) : Type 0 where
  pub before : List Token
  pub wire : WireSoFar w before
  pub tokens : ts ≡ before ++ token.Word (wire_field_word field) ∷ []

pub record MemWaits (m : DocMem) (field : MemField) (ts : List Token) : Type 0 where
  pub before : List Token
  pub mem : MemSoFar m before
  pub tokens : ts ≡ before ++ token.Word (mem_field_word field) ∷ []

pub record InLeft (limit : ℕ) (s : Signal) (ts : List Token) : Type 0 where
  pub signal : List Token
  pub holds : HoldsSignal limit s signal
  pub tokens : ts ≡ token.Word word.Connect ∷ signal

pub record InRight (limit : ℕ) (l : List Part) (s : Signal) (ts : List Token) : Type 0 where
  pub left : List Token
  pub right : List Token
  pub whole : Signalled limit l left
  pub holds : HoldsSignal limit s right
  pub tokens : ts ≡ token.Word word.Connect ∷ (left ++ right)

pub record InPin (limit : ℕ) (n : List ℕ) (s : Signal) (ts : List Token) : Type 0 where
  pub signal : List Token
  pub holds : HoldsSignal limit s signal
  pub tokens : ts ≡ token.Word word.Connect ∷ token.Id n ∷ signal

abbrev pub Holds : ℕ → State → Place → List Token → Type 0
Holds limit st place.Start ts = ts ≡ []
Holds limit st place.AutoidxNumber ts = (ts ≡ token.Word word.Autoidx ∷ []) × Allowed limit st says.Autoidx
Holds limit st place.AttributeName ts = (ts ≡ token.Word word.Attribute ∷ []) × AttributesAt st.current
Holds limit st (place.AttributeValue n) ts = (ts ≡ token.Word word.Attribute ∷ token.Id n ∷ []) × AttributesAt st.current
Holds limit st place.ModuleName ts = (ts ≡ token.Word word.Module ∷ []) × AtFile st.current
Holds limit st place.ParameterName ts = (ts ≡ token.Word word.Parameter ∷ []) × AtModule st.current × (st.attrs ≡ [])
Holds limit st (place.ParameterValue n) ts = (ts ≡ token.Word word.Parameter ∷ token.Id n ∷ []) × AtModule st.current × (st.attrs ≡ [])
Holds limit st (place.WireOption w) ts = WireSoFar w ts × AtModule st.current
Holds limit st (place.WireNumber w field) ts = WireWaits w field ts × AtModule st.current
Holds limit st (place.MemOption m) ts = MemSoFar m ts × AtModule st.current
Holds limit st (place.MemNumber m field) ts = MemWaits m field ts × AtModule st.current
Holds limit st place.CellKind ts = (ts ≡ token.Word word.Cell ∷ []) × AtModule st.current
Holds limit st (place.CellName k) ts = (ts ≡ token.Word word.Cell ∷ token.Id k ∷ []) × AtModule st.current
Holds limit st (place.Left s) ts = InLeft limit s ts × AtModule st.current × (st.attrs ≡ [])
Holds limit st (place.Right l s) ts = InRight limit l s ts × AtModule st.current × (st.attrs ≡ [])
Holds limit st place.CellParameterFlag ts = (ts ≡ token.Word word.Parameter ∷ []) × AtCell st.current
Holds limit st (place.CellParameterName f) ts = (ts ≡ token.Word word.Parameter ∷ flag_tokens f) × AtCell st.current
Holds limit st (place.CellParameterValue f n) ts = (ts ≡ token.Word word.Parameter ∷ (flag_tokens f ++ token.Id n ∷ [])) × AtCell st.current × (has st.names.parameters n ≡ false)
Holds limit st place.PinName ts = (ts ≡ token.Word word.Connect ∷ []) × AtCell st.current
Holds limit st (place.PinValue n s) ts = InPin limit n s ts × AtCell st.current × (has st.names.pins n ≡ false)
Holds limit st (place.Done s) ts = SaysOrBlank s ts × Allowed limit st s × (ts ≡ [] → ⊥)

-- ---- tokens by what was read of them

name_is : (t : Token) (n : List ℕ) → name_in t ≡ Ok n → t ≡ token.Id n
unfolding name_in
name_is (token.Id m) n e = ap (λ (x : List ℕ). token.Id x) (ok_is m n e)
name_is t n e = absurd cc

new_at : (taken : List (List ℕ)) (m n : List ℕ) (b : Bool) → has taken m ≡ b → cond b (Err refusal.Grammar) (done m) ≡ done n → (m ≡ n) × (has taken n ≡ false)
new_at taken m n true h e = absurd cc
new_at taken m n false h e = let same : m ≡ n = ok_is m n e in (same, subst (λ (x : List ℕ). has taken x ≡ false) same h)

new_is : (taken : List (List ℕ)) (t : Token) (n : List ℕ) → new_name taken t ≡ Ok n → (t ≡ token.Id n) × (has taken n ≡ false)
unfolding new_name
new_is taken t n e =
    let b = bind_ok (name_in t) (λ m. if_new taken m) n e in
    let k = new_at taken b.0 n (has taken b.0) refl b.2 in
    (name_is t b.0 b.1 ∙ ap (λ (x : List ℕ). token.Id x) k.0, k.1)

number_is : (t : Token) (z : ℤ) → number_in t ≡ Ok z → t ≡ token.Number z
unfolding number_in
number_is (token.Number y) z e = ap (λ (x : ℤ). token.Number x) (ok_is y z e)
number_is t z e = absurd cc

const_is : (t : Token) (c : DocConst) → const_in t ≡ Ok c → t ≡ const_token c
unfolding const_in
const_is (token.Digits ds) c e = ap const_token (ok_is (const.Digits ds) c e)
const_is (token.Number z) c e = ap const_token (ok_is (const.Number z) c e)
const_is (token.Text x) c e = ap const_token (ok_is (const.Text x) c e)
const_is t c e = absurd cc

only_is : (b : Bool) (p q : Place) → only_if b p ≡ Ok q → (b ≡ true) × (p ≡ q)
only_is true p q e = (refl, ok_is p q e)
only_is false p q e = absurd cc

both_true : (a b : Bool) → (a && b) ≡ true → (a ≡ true) × (b ≡ true)
both_true true b e = (refl, e)
both_true false b e = absurd cc

not_true : (a : Bool) → not a ≡ true → a ≡ false
not_true true e = absurd cc
not_true false e = refl

bare_is : (st : State) → is_bare st ≡ true → st.attrs ≡ []
unfolding is_bare
bare_is st e = nil_from_length st.attrs (eqb-true (length st.attrs) 0 e)

-- one token more
one_more : (us vs : List Token) (t u : Token) → us ≡ vs → t ≡ u → us ++ t ∷ [] ≡ vs ++ u ∷ []
one_more us vs t u e h = cc

pub some_token : (us : List Token) (t : Token) → us ++ t ∷ [] ≡ [] → ⊥
some_token [] t e = absurd cc
some_token (u ∷ us) t e = absurd cc

-- a place that was read
reached : (limit : ℕ) (st : State) (p q : Place) (ts : List Token) → done p ≡ done q → Holds limit st p ts → Holds limit st q ts
reached limit st p q ts e h = subst (λ (x : Place). Holds limit st x ts) (ok_is p q e) h

-- ---- the first word of a line

word_of_file : (limit : ℕ) (st : State) (w : Word) (q : Place) → AtFile st.current → file_word (is_bare st) st.autoidx w ≡ Ok q → Holds limit st q (token.Word w ∷ [])
unfolding file_word
word_of_file limit st word.Attribute q at e = reached limit st place.AttributeName q (token.Word word.Attribute ∷ []) e (refl, attributes_at st.current at) where
  attributes_at : (o : Open) → AtFile o → AttributesAt o
  attributes_at open_.File h = tt
  attributes_at (open_.Module m) h = absurd h
  attributes_at (open_.Cell m c) h = absurd h
word_of_file limit st word.Module q at e = reached limit st place.ModuleName q (token.Word word.Module ∷ []) e (refl, at)
word_of_file limit st word.Autoidx q at e =
    let k = only_is (is_bare st && not st.autoidx) place.AutoidxNumber q e in
    let b = both_true (is_bare st) (not st.autoidx) k.0 in
    subst (λ (x : Place). Holds limit st x (token.Word word.Autoidx ∷ [])) k.1 (refl, (at, bare_is st b.0, not_true st.autoidx b.1))
word_of_file limit st w q at e = absurd cc

attributes_in_module : (o : Open) → AtModule o → AttributesAt o
attributes_in_module open_.File h = absurd h
attributes_in_module (open_.Module m) h = tt
attributes_in_module (open_.Cell m c) h = absurd h

ends_in_module : (o : Open) (attrs : List DocAttr) → AtModule o → attrs ≡ [] → EndsAt o attrs
ends_in_module open_.File attrs h e = absurd h
ends_in_module (open_.Module m) attrs h e = e
ends_in_module (open_.Cell m c) attrs h e = absurd h

word_of_module : (limit : ℕ) (st : State) (w : Word) (q : Place) → AtModule st.current → module_word (is_bare st) w ≡ Ok q → Holds limit st q (token.Word w ∷ [])
unfolding module_word
word_of_module limit st word.Attribute q at e = reached limit st place.AttributeName q (token.Word word.Attribute ∷ []) e (refl, attributes_in_module st.current at)
word_of_module limit st word.Wire q at e = reached limit st (place.WireOption plain_wire) q (token.Word word.Wire ∷ []) e (record { options = []; tokens = refl; value = refl }, at)
word_of_module limit st word.Memory q at e = reached limit st (place.MemOption plain_mem) q (token.Word word.Memory ∷ []) e (record { options = []; tokens = refl; value = refl }, at)
word_of_module limit st word.Cell q at e = reached limit st place.CellKind q (token.Word word.Cell ∷ []) e (refl, at)
word_of_module limit st word.Parameter q at e =
    let k = only_is (is_bare st) place.ParameterName q e in
    subst (λ (x : Place). Holds limit st x (token.Word word.Parameter ∷ [])) k.1 (refl, at, bare_is st k.0)
word_of_module limit st word.Connect q at e =
    let k = only_is (is_bare st) (place.Left no_signal) q e in
    subst (λ (x : Place). Holds limit st x (token.Word word.Connect ∷ [])) k.1 (record { signal = []; holds = nothing_read limit; tokens = refl }, at, bare_is st k.0)
word_of_module limit st word.End q at e =
    let k = only_is (is_bare st) (place.Done says.End) q e in
    subst (λ (x : Place). Holds limit st x (token.Word word.End ∷ [])) k.1 (end, ends_in_module st.current st.attrs at (bare_is st k.0), λ h. absurd cc)
word_of_module limit st w q at e = absurd cc

ends_in_cell : (o : Open) (attrs : List DocAttr) → AtCell o → EndsAt o attrs
ends_in_cell open_.File attrs h = absurd h
ends_in_cell (open_.Module m) attrs h = absurd h
ends_in_cell (open_.Cell m c) attrs h = tt

word_of_cell : (limit : ℕ) (st : State) (w : Word) (q : Place) → AtCell st.current → cell_word w ≡ Ok q → Holds limit st q (token.Word w ∷ [])
unfolding cell_word
word_of_cell limit st word.Parameter q at e = reached limit st place.CellParameterFlag q (token.Word word.Parameter ∷ []) e (refl, at)
word_of_cell limit st word.Connect q at e = reached limit st place.PinName q (token.Word word.Connect ∷ []) e (refl, at)
word_of_cell limit st word.End q at e = reached limit st (place.Done says.End) q (token.Word word.End ∷ []) e (end, ends_in_cell st.current st.attrs at, λ h. absurd cc)
word_of_cell limit st w q at e = absurd cc

word_found : (limit : ℕ) (st : State) (o : Open) (w : Word) (q : Place) → st.current ≡ o → word_in o (is_bare st) st.autoidx w ≡ Ok q → Holds limit st q (token.Word w ∷ [])
unfolding word_in
word_found limit st open_.File w q at e = word_of_file limit st w q (subst AtFile (sym at) tt) e
word_found limit st (open_.Module m) w q at e = word_of_module limit st w q (subst AtModule (sym at) tt) e
word_found limit st (open_.Cell m c) w q at e = word_of_cell limit st w q (subst AtCell (sym at) tt) e

start_found : (limit : ℕ) (st : State) (t : Token) (q : Place) → start_step st t ≡ Ok q → Holds limit st q (t ∷ [])
unfolding start_step
start_found limit st (token.Word w) q e = word_found limit st st.current w q refl e
start_found limit st t q e = absurd cc

-- ---- wires and memories

with_more : (w : DocWire) (os : List WireOption) (o : WireOption) → with_wire_options w (os ++ o ∷ []) ≡ with_wire_option o (with_wire_options w os)
with_more w [] o = refl
with_more w (p ∷ os) o = with_more (with_wire_option p w) os o

wire_more : (w : DocWire) (ts a : List Token) (o : WireOption) → WireSoFar w ts → wire_option_tokens o ≡ a → WireSoFar (with_wire_option o w) (ts ++ a)
wire_more w ts a o s e =
    record {
      options = s.options ++ o ∷ [];
      tokens = ap (λ (x : List Token). x ++ a) s.tokens ∙ ap (λ (x : List Token). token.Word word.Wire ∷ (flat_map wire_option_tokens s.options ++ x)) (sym e ∙ sym (append-nil (wire_option_tokens o))) ∙ ap (λ (x : List Token). token.Word word.Wire ∷ x) (sym (flat_map-append wire_option_tokens s.options (o ∷ [])));
      value = ap (λ (x : DocWire). with_wire_option o x) s.value ∙ sym (with_more plain_wire s.options o);
    }

wire_waits : (limit : ℕ) (st : State) (w : DocWire) (field : WireField) (q : Place) (ts : List Token) → done (place.WireNumber w field) ≡ done q → WireSoFar w ts → AtModule st.current → Holds limit st q (ts ++ token.Word (wire_field_word field) ∷ [])
wire_waits limit st w field q ts e s at = reached limit st (place.WireNumber w field) q (ts ++ token.Word (wire_field_word field) ∷ []) e (record { before = ts; wire = s; tokens = refl }, at)

wire_word_found : (limit : ℕ) (st : State) (w : DocWire) (x : Word) (q : Place) (ts : List Token) → wire_word w x ≡ Ok q → WireSoFar w ts → AtModule st.current → Holds limit st q (ts ++ token.Word x ∷ [])
unfolding wire_word
wire_word_found limit st w word.Width q ts e s at = wire_waits limit st w wire_field.Width q ts e s at
wire_word_found limit st w word.Offset q ts e s at = wire_waits limit st w wire_field.Offset q ts e s at
wire_word_found limit st w word.Input q ts e s at = wire_waits limit st w wire_field.Input q ts e s at
wire_word_found limit st w word.Output q ts e s at = wire_waits limit st w wire_field.Output q ts e s at
wire_word_found limit st w word.Inout q ts e s at = wire_waits limit st w wire_field.Inout q ts e s at
wire_word_found limit st w word.Upto q ts e s at = reached limit st (place.WireOption (with_wire_option upto w)) q (ts ++ token.Word word.Upto ∷ []) e (wire_more w ts (token.Word word.Upto ∷ []) upto s refl, at)
wire_word_found limit st w word.Signed q ts e s at = reached limit st (place.WireOption (with_wire_option signed w)) q (ts ++ token.Word word.Signed ∷ []) e (wire_more w ts (token.Word word.Signed ∷ []) signed s refl, at)
wire_word_found limit st w x q ts e s at = absurd cc

wire_done_found : (limit : ℕ) (st : State) (w : DocWire) (t : Token) (q : Place) (ts : List Token) → wire_done st.names.wires w t ≡ Ok q → WireSoFar w ts → AtModule st.current → Holds limit st q (ts ++ t ∷ [])
unfolding wire_done
wire_done_found limit st w t q ts e s at =
    let b = bind_ok (new_name st.names.wires t) (λ n. Ok (place.Done (says.Wire (named_wire n w)))) q e in
    let n = new_is st.names.wires t b.0 b.1 in
    let line : ts ++ t ∷ [] ≡ token.Word word.Wire ∷ (flat_map wire_option_tokens s.options ++ token.Id b.0 ∷ []) = one_more ts (token.Word word.Wire ∷ flat_map wire_option_tokens s.options) t (token.Id b.0) s.tokens n.0 in
    let is : Says (says.Wire (named_wire b.0 w)) (ts ++ t ∷ []) =
    subst (λ (x : List Token). Says (says.Wire (named_wire b.0 w)) x) (sym line)
    (subst (λ (x : DocWire). Says (says.Wire (named_wire b.0 x)) (token.Word word.Wire ∷ (flat_map wire_option_tokens s.options ++ token.Id b.0 ∷ []))) (sym s.value) (wire_line s.options b.0)) in
    reached limit st (place.Done (says.Wire (named_wire b.0 w))) q (ts ++ t ∷ []) b.2 (is, (at, n.1), some_token ts t)

wire_found : (limit : ℕ) (st : State) (w : DocWire) (t : Token) (q : Place) (ts : List Token) → wire_option st.names.wires w t ≡ Ok q → WireSoFar w ts → AtModule st.current → Holds limit st q (ts ++ t ∷ [])
unfolding wire_option
wire_found limit st w (token.Word x) q ts e s at = wire_word_found limit st w x q ts e s at
wire_found limit st w t q ts e s at = wire_done_found limit st w t q ts e s at

wire_set : (w : DocWire) (field : WireField) (o : WireOption) (t u : Token) (ts : List Token) → WireWaits w field ts → t ≡ u → wire_option_tokens o ≡ token.Word (wire_field_word field) ∷ u ∷ [] → WireSoFar (with_wire_option o w) (ts ++ t ∷ [])
wire_set w field o t u ts s e h =
    let k = wire_more w s.before (token.Word (wire_field_word field) ∷ u ∷ []) o s.wire h in
    let same : s.before ++ (token.Word (wire_field_word field) ∷ u ∷ []) ≡ ts ++ t ∷ [] =
    sym (append_assoc s.before (token.Word (wire_field_word field) ∷ []) (u ∷ [])) ∙ sym (one_more ts (s.before ++ token.Word (wire_field_word field) ∷ []) t u s.tokens e) in
    subst (λ (x : List Token). WireSoFar (with_wire_option o w) x) same k

counted : (w v : DocWire) (field : WireField) (t : Token) (ts : List Token) (f : ℕ → WireOption) → (count_in t >>= λ n. done (with_wire_option (f n) w)) ≡ done v
    → ((n : ℕ) → wire_option_tokens (f n) ≡ token.Word (wire_field_word field) ∷ token.Number (pos n) ∷ []) → WireWaits w field ts → WireSoFar v (ts ++ t ∷ [])
counted w v field t ts f e h s =
    let b = bind_ok (count_in t) (λ n. done (with_wire_option (f n) w)) v e in
    subst (λ (x : DocWire). WireSoFar x (ts ++ t ∷ [])) (ok_is (with_wire_option (f b.0) w) v b.2) (wire_set w field (f b.0) t (token.Number (pos b.0)) ts s (count_is t b.0 b.1) (h b.0))

wire_number_found : (w v : DocWire) (field : WireField) (t : Token) (ts : List Token) → wire_number w field t ≡ Ok v → WireWaits w field ts → WireSoFar v (ts ++ t ∷ [])
unfolding wire_number
wire_number_found w v wire_field.Width t ts e s = counted w v wire_field.Width t ts width e (λ n. refl) s
wire_number_found w v wire_field.Input t ts e s = counted w v wire_field.Input t ts input e (λ n. refl) s
wire_number_found w v wire_field.Output t ts e s = counted w v wire_field.Output t ts output e (λ n. refl) s
wire_number_found w v wire_field.Inout t ts e s = counted w v wire_field.Inout t ts inout e (λ n. refl) s
wire_number_found w v wire_field.Offset t ts e s =
    let b = bind_ok (number_in t) (λ z. done (with_wire_option (offset z) w)) v e in
    subst (λ (x : DocWire). WireSoFar x (ts ++ t ∷ [])) (ok_is (with_wire_option (offset b.0) w) v b.2) (wire_set w wire_field.Offset (offset b.0) t (token.Number b.0) ts s (number_is t b.0 b.1) refl)

mem_with_more : (m : DocMem) (os : List MemOption) (o : MemOption) → with_mem_options m (os ++ o ∷ []) ≡ with_mem_option o (with_mem_options m os)
mem_with_more m [] o = refl
mem_with_more m (p ∷ os) o = mem_with_more (with_mem_option p m) os o

mem_more : (m : DocMem) (ts a : List Token) (o : MemOption) → MemSoFar m ts → mem_option_tokens o ≡ a → MemSoFar (with_mem_option o m) (ts ++ a)
mem_more m ts a o s e =
    record {
      options = s.options ++ o ∷ [];
      tokens = ap (λ (x : List Token). x ++ a) s.tokens ∙ ap (λ (x : List Token). token.Word word.Memory ∷ (flat_map mem_option_tokens s.options ++ x)) (sym e ∙ sym (append-nil (mem_option_tokens o))) ∙ ap (λ (x : List Token). token.Word word.Memory ∷ x) (sym (flat_map-append mem_option_tokens s.options (o ∷ [])));
      value = ap (λ (x : DocMem). with_mem_option o x) s.value ∙ sym (mem_with_more plain_mem s.options o);
    }

mem_waits : (limit : ℕ) (st : State) (m : DocMem) (field : MemField) (q : Place) (ts : List Token) → done (place.MemNumber m field) ≡ done q → MemSoFar m ts → AtModule st.current → Holds limit st q (ts ++ token.Word (mem_field_word field) ∷ [])
mem_waits limit st m field q ts e s at = reached limit st (place.MemNumber m field) q (ts ++ token.Word (mem_field_word field) ∷ []) e (record { before = ts; mem = s; tokens = refl }, at)

mem_word_found : (limit : ℕ) (st : State) (m : DocMem) (x : Word) (q : Place) (ts : List Token) → mem_word m x ≡ Ok q → MemSoFar m ts → AtModule st.current → Holds limit st q (ts ++ token.Word x ∷ [])
unfolding mem_word
mem_word_found limit st m word.Width q ts e s at = mem_waits limit st m mem_field.Width q ts e s at
mem_word_found limit st m word.Size q ts e s at = mem_waits limit st m mem_field.Size q ts e s at
mem_word_found limit st m word.Offset q ts e s at = mem_waits limit st m mem_field.Offset q ts e s at
mem_word_found limit st m x q ts e s at = absurd cc

mem_done_found : (limit : ℕ) (st : State) (m : DocMem) (t : Token) (q : Place) (ts : List Token) → mem_done st.names.memories m t ≡ Ok q → MemSoFar m ts → AtModule st.current → Holds limit st q (ts ++ t ∷ [])
unfolding mem_done
mem_done_found limit st m t q ts e s at =
    let b = bind_ok (new_name st.names.memories t) (λ n. Ok (place.Done (says.Memory (named_mem n m)))) q e in
    let n = new_is st.names.memories t b.0 b.1 in
    let line : ts ++ t ∷ [] ≡ token.Word word.Memory ∷ (flat_map mem_option_tokens s.options ++ token.Id b.0 ∷ []) = one_more ts (token.Word word.Memory ∷ flat_map mem_option_tokens s.options) t (token.Id b.0) s.tokens n.0 in
    let is : Says (says.Memory (named_mem b.0 m)) (ts ++ t ∷ []) =
    subst (λ (x : List Token). Says (says.Memory (named_mem b.0 m)) x) (sym line)
    (subst (λ (x : DocMem). Says (says.Memory (named_mem b.0 x)) (token.Word word.Memory ∷ (flat_map mem_option_tokens s.options ++ token.Id b.0 ∷ []))) (sym s.value) (memory s.options b.0)) in
    reached limit st (place.Done (says.Memory (named_mem b.0 m))) q (ts ++ t ∷ []) b.2 (is, (at, n.1), some_token ts t)

mem_found : (limit : ℕ) (st : State) (m : DocMem) (t : Token) (q : Place) (ts : List Token) → mem_option st.names.memories m t ≡ Ok q → MemSoFar m ts → AtModule st.current → Holds limit st q (ts ++ t ∷ [])
unfolding mem_option
mem_found limit st m (token.Word x) q ts e s at = mem_word_found limit st m x q ts e s at
mem_found limit st m t q ts e s at = mem_done_found limit st m t q ts e s at

mem_set_found : (m : DocMem) (field : MemField) (n : ℕ) (t : Token) (ts : List Token) → t ≡ token.Number (pos n) → MemWaits m field ts → MemSoFar (mem_set field n m) (ts ++ t ∷ [])
unfolding mem_set
mem_set_found m field n t ts e s =
    let same : s.before ++ (token.Word (mem_field_word field) ∷ token.Number (pos n) ∷ []) ≡ ts ++ t ∷ [] =
    sym (append_assoc s.before (token.Word (mem_field_word field) ∷ []) (token.Number (pos n) ∷ [])) ∙ sym (one_more ts (s.before ++ token.Word (mem_field_word field) ∷ []) t (token.Number (pos n)) s.tokens e) in
    subst (λ (x : List Token). MemSoFar (mem_set field n m) x) same (each field s.before s.mem) where
      each : (f : MemField) (before : List Token) → MemSoFar m before → MemSoFar (mem_set f n m) (before ++ (token.Word (mem_field_word f) ∷ token.Number (pos n) ∷ []))
      each mem_field.Width before k = mem_more m before (token.Word word.Width ∷ token.Number (pos n) ∷ []) (mem_width n) k refl
      each mem_field.Size before k = mem_more m before (token.Word word.Size ∷ token.Number (pos n) ∷ []) (mem_size n) k refl
      each mem_field.Offset before k = mem_more m before (token.Word word.Offset ∷ token.Number (pos n) ∷ []) (mem_offset n) k refl

mem_number_found : (m v : DocMem) (field : MemField) (t : Token) (ts : List Token) → mem_number m field t ≡ Ok v → MemWaits m field ts → MemSoFar v (ts ++ t ∷ [])
unfolding mem_number
mem_number_found m v field t ts e s =
    let b = bind_ok (count_in t) (λ n. done (mem_set field n m)) v e in
    subst (λ (x : DocMem). MemSoFar x (ts ++ t ∷ [])) (ok_is (mem_set field b.0 m) v b.2) (mem_set_found m field b.0 t ts (count_is t b.0 b.1) s)

-- ---- connects

left_at : (limit : ℕ) (st : State) (s : Signal) (t : Token) (q : Place) (ts : List Token) (b : Bool) → (is_whole s && not (begins_slice t)) ≡ b
    → cond b (signal_step limit no_signal t >>= (λ r. done (place.Right s.parts r))) (signal_step limit s t >>= (λ l. done (place.Left l))) ≡ done q
    → InLeft limit s ts → AtModule st.current → st.attrs ≡ [] → Holds limit st q (ts ++ t ∷ [])
left_at limit st s t q ts false w e h at bare =
    let b = bind_ok (signal_step limit s t) (λ l. done (place.Left l)) q e in
    reached limit st (place.Left b.0) q (ts ++ t ∷ []) b.2
    (record { signal = h.signal ++ t ∷ []; holds = signal_found limit s b.0 t h.signal b.1 h.holds; tokens = ap (λ (x : List Token). x ++ t ∷ []) h.tokens }, at, bare)
left_at limit st s t q ts true w e h at bare =
    let b = bind_ok (signal_step limit no_signal t) (λ r. done (place.Right s.parts r)) q e in
    let whole = both_true (is_whole s) (not (begins_slice t)) w in
    reached limit st (place.Right s.parts b.0) q (ts ++ t ∷ []) b.2
    (record { left = h.signal; right = t ∷ []; whole = whole_found limit s h.signal whole.0 h.holds; holds = signal_found limit no_signal b.0 t [] b.1 (nothing_read limit); tokens = ap (λ (x : List Token). x ++ t ∷ []) h.tokens }, at, bare)

left_found : (limit : ℕ) (st : State) (s : Signal) (t : Token) (q : Place) (ts : List Token) → left_step limit s t ≡ Ok q → InLeft limit s ts → AtModule st.current → st.attrs ≡ [] → Holds limit st q (ts ++ t ∷ [])
unfolding left_step
left_found limit st s t q ts e h at bare = left_at limit st s t q ts (is_whole s && not (begins_slice t)) refl e h at bare

named_found : (limit : ℕ) (st : State) (f : DocFlag) (t : Token) (q : Place) (ts : List Token) → (new_name st.names.parameters t >>= λ n. done (place.CellParameterValue f n)) ≡ done q
    → ts ≡ token.Word word.Parameter ∷ flag_tokens f → AtCell st.current → Holds limit st q (ts ++ t ∷ [])
named_found limit st f t q ts e h at =
    let b = bind_ok (new_name st.names.parameters t) (λ n. done (place.CellParameterValue f n)) q e in
    let n = new_is st.names.parameters t b.0 b.1 in
    reached limit st (place.CellParameterValue f b.0) q (ts ++ t ∷ []) b.2 (one_more ts (token.Word word.Parameter ∷ flag_tokens f) t (token.Id b.0) h n.0, at, n.1)

flag_found : (limit : ℕ) (st : State) (t : Token) (q : Place) (ts : List Token) → flag_step st.names.parameters t ≡ Ok q → ts ≡ token.Word word.Parameter ∷ [] → AtCell st.current → Holds limit st q (ts ++ t ∷ [])
unfolding flag_step named_step
flag_found limit st (token.Word word.Signed) q ts e h at = reached limit st (place.CellParameterName flag.Signed) q (ts ++ token.Word word.Signed ∷ []) e (ap (λ (x : List Token). x ++ token.Word word.Signed ∷ []) h, at)
flag_found limit st (token.Word word.Real) q ts e h at = reached limit st (place.CellParameterName flag.Real) q (ts ++ token.Word word.Real ∷ []) e (ap (λ (x : List Token). x ++ token.Word word.Real ∷ []) h, at)
flag_found limit st t q ts e h at = named_found limit st flag.Plain t q ts e h at

-- ---- one token of a line

said : (s : Statement) (ts us : List Token) → us ≡ ts → Says s ts → Says s us
said s ts us e h = subst (λ (x : List Token). Says s x) (sym e) h

pub step_found : (limit : ℕ) (st : State) (p q : Place) (t : Token) (ts : List Token) → step limit st p t ≡ Ok q → Holds limit st p ts → Holds limit st q (ts ++ t ∷ [])
unfolding step parameter_value
step_found limit st place.Start q t ts e h = subst (λ (x : List Token). Holds limit st q (x ++ t ∷ [])) (sym h) (start_found limit st t q e)
step_found limit st place.AutoidxNumber q t ts e h =
    let b = bind_ok (number_in t) (λ z. done (place.Done says.Autoidx)) q e in
    reached limit st (place.Done says.Autoidx) q (ts ++ t ∷ []) b.2 (said says.Autoidx _ (ts ++ t ∷ []) (one_more ts (token.Word word.Autoidx ∷ []) t (token.Number b.0) h.0 (number_is t b.0 b.1)) (autoidx b.0), h.1, some_token ts t)
step_found limit st place.AttributeName q t ts e h =
    let b = bind_ok (name_in t) (λ n. done (place.AttributeValue n)) q e in
    reached limit st (place.AttributeValue b.0) q (ts ++ t ∷ []) b.2 (one_more ts (token.Word word.Attribute ∷ []) t (token.Id b.0) h.0 (name_is t b.0 b.1), h.1)
step_found limit st (place.AttributeValue n) q t ts e h =
    let b = bind_ok (const_in t) (λ c. done (place.Done (says.Attribute (record { name = n; value = c })))) q e in
    reached limit st (place.Done (says.Attribute (record { name = n; value = b.0 }))) q (ts ++ t ∷ []) b.2
    (said (says.Attribute (record { name = n; value = b.0 })) _ (ts ++ t ∷ []) (one_more ts (token.Word word.Attribute ∷ token.Id n ∷ []) t (const_token b.0) h.0 (const_is t b.0 b.1)) (attribute (record { name = n; value = b.0 })), h.1, some_token ts t)
step_found limit st place.ModuleName q t ts e h =
    let b = bind_ok (new_name st.names.modules t) (λ n. done (place.Done (says.Module n))) q e in
    let n = new_is st.names.modules t b.0 b.1 in
    reached limit st (place.Done (says.Module b.0)) q (ts ++ t ∷ []) b.2 (said (says.Module b.0) _ (ts ++ t ∷ []) (one_more ts (token.Word word.Module ∷ []) t (token.Id b.0) h.0 n.0) (module_line b.0), (h.1, n.1), some_token ts t)
step_found limit st place.ParameterName q t ts e h =
    let b = bind_ok (name_in t) (λ n. done (place.ParameterValue n)) q e in
    reached limit st (place.ParameterValue b.0) q (ts ++ t ∷ []) b.2 (one_more ts (token.Word word.Parameter ∷ []) t (token.Id b.0) h.0 (name_is t b.0 b.1), h.1, h.2)
step_found limit st (place.ParameterValue n) q t ts e h =
    let b = bind_ok (const_in t) (λ c. done (place.Done (says.Parameter (param flag.Plain n (Some c))))) q e in
    reached limit st (place.Done (says.Parameter (param flag.Plain n (Some b.0)))) q (ts ++ t ∷ []) b.2
    (said (says.Parameter (param flag.Plain n (Some b.0))) _ (ts ++ t ∷ []) (one_more ts (token.Word word.Parameter ∷ token.Id n ∷ []) t (const_token b.0) h.0 (const_is t b.0 b.1)) (parameter n (Some b.0)), (h.1, h.2), some_token ts t)
step_found limit st (place.WireOption w) q t ts e h = wire_found limit st w t q ts e h.0 h.1
step_found limit st (place.WireNumber w field) q t ts e h =
    let b = bind_ok (wire_number w field t) (λ next. done (place.WireOption next)) q e in
    reached limit st (place.WireOption b.0) q (ts ++ t ∷ []) b.2 (wire_number_found w b.0 field t ts b.1 h.0, h.1)
step_found limit st (place.MemOption m) q t ts e h = mem_found limit st m t q ts e h.0 h.1
step_found limit st (place.MemNumber m field) q t ts e h =
    let b = bind_ok (mem_number m field t) (λ next. done (place.MemOption next)) q e in
    reached limit st (place.MemOption b.0) q (ts ++ t ∷ []) b.2 (mem_number_found m b.0 field t ts b.1 h.0, h.1)
step_found limit st place.CellKind q t ts e h =
    let b = bind_ok (name_in t) (λ k. done (place.CellName k)) q e in
    reached limit st (place.CellName b.0) q (ts ++ t ∷ []) b.2 (one_more ts (token.Word word.Cell ∷ []) t (token.Id b.0) h.0 (name_is t b.0 b.1), h.1)
step_found limit st (place.CellName k) q t ts e h =
    let b = bind_ok (new_name st.names.cells t) (λ n. done (place.Done (says.Cell k n))) q e in
    let n = new_is st.names.cells t b.0 b.1 in
    reached limit st (place.Done (says.Cell k b.0)) q (ts ++ t ∷ []) b.2 (said (says.Cell k b.0) _ (ts ++ t ∷ []) (one_more ts (token.Word word.Cell ∷ token.Id k ∷ []) t (token.Id b.0) h.0 n.0) (cell k b.0), (h.1, n.1), some_token ts t)
step_found limit st (place.Left s) q t ts e h = left_found limit st s t q ts e h.0 h.1 h.2
step_found limit st (place.Right l s) q t ts e h =
    let b = bind_ok (signal_step limit s t) (λ next. done (place.Right l next)) q e in
    let k = h.0 in
    reached limit st (place.Right l b.0) q (ts ++ t ∷ []) b.2
    (record { left = k.left; right = k.right ++ t ∷ []; whole = k.whole; holds = signal_found limit s b.0 t k.right b.1 k.holds; tokens = ap (λ (x : List Token). x ++ t ∷ []) k.tokens ∙ ap (λ (x : List Token). token.Word word.Connect ∷ x) (append_assoc k.left k.right (t ∷ [])) }, h.1, h.2)
step_found limit st place.CellParameterFlag q t ts e h = flag_found limit st t q ts e h.0 h.1
step_found limit st (place.CellParameterName f) q t ts e h = named_found limit st f t q ts e h.0 h.1
step_found limit st (place.CellParameterValue f n) q t ts e h =
    let b = bind_ok (const_in t) (λ c. done (place.Done (says.CellParameter (param f n (Some c))))) q e in
    let line : ts ++ t ∷ [] ≡ token.Word word.Parameter ∷ (flag_tokens f ++ token.Id n ∷ const_token b.0 ∷ []) =
    one_more ts (token.Word word.Parameter ∷ (flag_tokens f ++ token.Id n ∷ [])) t (const_token b.0) h.0 (const_is t b.0 b.1) ∙ ap (λ (x : List Token). token.Word word.Parameter ∷ x) (append_assoc (flag_tokens f) (token.Id n ∷ []) (const_token b.0 ∷ [])) in
    reached limit st (place.Done (says.CellParameter (param f n (Some b.0)))) q (ts ++ t ∷ []) b.2 (said (says.CellParameter (param f n (Some b.0))) _ (ts ++ t ∷ []) line (cell_parameter f n b.0), (h.1, h.2), some_token ts t)
step_found limit st place.PinName q t ts e h =
    let b = bind_ok (new_name st.names.pins t) (λ n. done (place.PinValue n no_signal)) q e in
    let n = new_is st.names.pins t b.0 b.1 in
    reached limit st (place.PinValue b.0 no_signal) q (ts ++ t ∷ []) b.2 (record { signal = []; holds = nothing_read limit; tokens = one_more ts (token.Word word.Connect ∷ []) t (token.Id b.0) h.0 n.0 }, h.1, n.1)
step_found limit st (place.PinValue n s) q t ts e h =
    let b = bind_ok (signal_step limit s t) (λ next. done (place.PinValue n next)) q e in
    let k = h.0 in
    reached limit st (place.PinValue n b.0) q (ts ++ t ∷ []) b.2
    (record { signal = k.signal ++ t ∷ []; holds = signal_found limit s b.0 t k.signal b.1 k.holds; tokens = ap (λ (x : List Token). x ++ t ∷ []) k.tokens }, h.1, h.2)
step_found limit st (place.Done s) q t ts e h = absurd cc

-- ---- lines

pub steps_found : (limit : ℕ) (st : State) (p q : Place) (ts us : List Token) → steps (step limit st) p us ≡ Ok q → Holds limit st p ts → Holds limit st q (ts ++ us)
unfolding steps
steps_found limit st p q ts [] e h = subst (λ (x : List Token). Holds limit st q x) (sym (append-nil ts)) (subst (λ (x : Place). Holds limit st x ts) (ok_is p q e) h)
steps_found limit st p q ts (u ∷ us) e h =
    let b = bind_ok (step limit st p u) (λ next. steps (step limit st) next us) q e in
    subst (λ (x : List Token). Holds limit st q x) (append_assoc ts (u ∷ []) us) (steps_found limit st b.0 q (ts ++ u ∷ []) us b.2 (step_found limit st p b.0 u ts b.1 h))

-- what the line was found to say
abbrev pub Found : ℕ → State → Statement → List Token → Type 0
Found limit st s ts = SaysOrBlank s ts × Allowed limit st s

found_is : (limit : ℕ) (st : State) (s r : Statement) (ts : List Token) → done s ≡ done r → Found limit st s ts → Found limit st r ts
found_is limit st s r ts e h = subst (λ (x : Statement). Found limit st x ts) (ok_is s r e) h

whole_at_end : (s : Signal) (v : List Part) (b : Bool) → is_whole s ≡ b → cond b (done s.parts) (Err refusal.Grammar) ≡ done v → (is_whole s ≡ true) × (s.parts ≡ v)
whole_at_end s v true h e = (h, ok_is s.parts v e)
whole_at_end s v false h e = absurd cc

whole_is : (s : Signal) (v : List Part) → whole_of s ≡ Ok v → (is_whole s ≡ true) × (s.parts ≡ v)
unfolding whole_of
whole_is s v e = whole_at_end s v (is_whole s) refl e

finish_found : (limit : ℕ) (st : State) (p : Place) (s : Statement) (ts : List Token) → finish p ≡ Ok s → Holds limit st p ts → Found limit st s ts
unfolding finish
finish_found limit st place.Start s ts e h = found_is limit st says.Blank s ts e (h, tt)
finish_found limit st (place.ParameterValue n) s ts e h = found_is limit st (says.Parameter (param flag.Plain n None)) s ts e (said (says.Parameter (param flag.Plain n None)) _ ts h.0 (parameter n None), (h.1, h.2))
finish_found limit st (place.Right l x) s ts e h =
    let b = bind_ok (whole_of x) (λ r. done (says.Connect l r)) s e in
    let w = whole_is x b.0 b.1 in
    let k = h.0 in
    let right : Signalled limit b.0 k.right = subst (λ (y : List Part). Signalled limit y k.right) w.1 (whole_found limit x k.right w.0 k.holds) in
    found_is limit st (says.Connect l b.0) s ts b.2 (said (says.Connect l b.0) _ ts k.tokens (connect k.whole.is right.is), (h.1, h.2, k.whole.nests, right.nests))
finish_found limit st (place.PinValue n x) s ts e h =
    let b = bind_ok (whole_of x) (λ v. done (says.Pin n v)) s e in
    let w = whole_is x b.0 b.1 in
    let k = h.0 in
    let value : Signalled limit b.0 k.signal = subst (λ (y : List Part). Signalled limit y k.signal) w.1 (whole_found limit x k.signal w.0 k.holds) in
    found_is limit st (says.Pin n b.0) s ts b.2 (said (says.Pin n b.0) _ ts k.tokens (pin n value.is), (h.1, h.2, value.nests))
finish_found limit st (place.Done r) s ts e h = found_is limit st r s ts e (h.0, h.1)
finish_found limit st p s ts e h = absurd cc

pub statement_found : (limit : ℕ) (st : State) (s : Statement) (ts : List Token) → statement_at limit st ts ≡ Ok s → Found limit st s ts
statement_found limit st s ts e =
    let b = bind_ok (steps (step limit st) place.Start ts) (λ p. finish p) s e in
    finish_found limit st b.0 s ts b.2 (steps_found limit st place.Start b.0 [] ts b.1 refl)
