-- Which code a refused token has.
use Rattle.std.proofs.Common.{◌≡◌, Some, ℕ, ℤ, pos, negsuc, Bool, true, false, cond, List, Result, Ok, Err, refl, sym, ap, ◌⊎◌, inl, inr}
use Rattle.std.specs.Prelude.{not, ◌&&◌}
use Rattle.rtlil_lex.specs.declared.token.Token.{Token}
use Rattle.rtlil_lex.specs.declared.token.Token.TheVariants as token
use Rattle.rtlil_lex.specs.declared.token.Word.{Word}
use Rattle.rtlil_lex.specs.declared.token.Word.TheVariants as word
use Rattle.rtlil_text.specs.declared.doc.DocConst.{DocConst}
use Rattle.rtlil_text.specs.declared.doc.DocFlag.TheVariants as flag
use Rattle.rtlil_text.specs.declared.doc.DocMem.{DocMem}
use Rattle.rtlil_text.specs.declared.doc.DocWire.{DocWire}
use Rattle.rtlil_text.specs.declared.doc.Part.{Part}
use Rattle.rtlil_text.specs.declared.fault.Refusal.{Refusal}
use Rattle.rtlil_text.specs.declared.fault.Refusal.TheVariants as refusal
use Rattle.rtlil_text.specs.declared.place.MemField.{MemField}
use Rattle.rtlil_text.specs.declared.place.Place.{Place}
use Rattle.rtlil_text.specs.declared.place.Place.TheVariants as place
use Rattle.rtlil_text.specs.declared.place.Statement.{Statement}
use Rattle.rtlil_text.specs.declared.place.Statement.TheVariants as says
use Rattle.rtlil_text.specs.declared.place.WireField.{WireField}
use Rattle.rtlil_text.specs.declared.place.WireField.TheVariants as wire_field
use Rattle.rtlil_text.specs.declared.signal.Signal.{Signal}
use Rattle.rtlil_text.specs.declared.state.Open.{Open}
use Rattle.rtlil_text.specs.declared.state.Open.TheVariants as open_
use Rattle.rtlil_text.specs.declared.state.State.{State}
use Rattle.rtlil_text.specs.Grammar.{has}
use Rattle.rtlil_text.specs.Read.{◌>>=◌, refusal_at}
use Rattle.rtlil_text.specs.ReadSignal.{no_signal, is_whole, count_of, count_in}
use Rattle.rtlil_text.specs.ReadLine.{name_in, new_name, number_in, const_in, only_if, file_word, module_word, cell_word, is_bare, word_in, start_step, parameter_value, wire_word, wire_done, wire_option, wire_number, mem_word, mem_done, mem_option, mem_set, mem_number, named_step, flag_step, step, whole_of, finish}
use Rattle.rtlil_text.proofs.Steps.{failed, err_is, done}

-- a refusal that is the token's own
abbrev pub Own : Token → Refusal → Type 0
Own t c = c ≡ refusal_at t

own : {A : Type 0} (t : Token) (c : Refusal) → failed {A = A} (refusal_at t) ≡ failed c → Own t c
own {A} t c e = sym (err_is {A = A} (refusal_at t) c e)

-- what follows a step that does not fail
pub before : {A B : Type 0} (r : Result A Refusal) (f : A → B) (c : Refusal) → (r >>= λ x. done (f x)) ≡ Err c → r ≡ Err c
before (Ok x) f c e = absurd cc
before {A} {B} (Err d) f c e = ap (λ (x : Refusal). failed {A = A} x) (err_is {A = B} d c e)

pub name_code : (t : Token) (c : Refusal) → name_in t ≡ Err c → Own t c
unfolding name_in
name_code (token.Id n) c e = absurd cc
name_code t c e = own {A = List ℕ} t c e

new_at : (taken : List (List ℕ)) (n : List ℕ) (c : Refusal) (b : Bool) → cond b (Err refusal.Grammar) (done n) ≡ Err c → Own (token.Id n) c
unfolding refusal_at
new_at taken n c true e = sym (err_is {A = List ℕ} refusal.Grammar c e)
new_at taken n c false e = absurd cc

pub new_code : (taken : List (List ℕ)) (t : Token) (c : Refusal) → new_name taken t ≡ Err c → Own t c
unfolding new_name name_in
new_code taken (token.Id n) c e = new_at taken n c (has taken n) e
new_code taken t c e = own {A = List ℕ} t c e

pub number_code : (t : Token) (c : Refusal) → number_in t ≡ Err c → Own t c
unfolding number_in
number_code (token.Number z) c e = absurd cc
number_code t c e = own {A = ℤ} t c e

pub const_code : (t : Token) (c : Refusal) → const_in t ≡ Err c → Own t c
unfolding const_in
const_code (token.Digits ds) c e = absurd cc
const_code (token.Number z) c e = absurd cc
const_code (token.Text x) c e = absurd cc
const_code t c e = own {A = DocConst} t c e

pub count_code : (t : Token) (c : Refusal) → count_in t ≡ Err c → Own t c
unfolding count_in count_of refusal_at
count_code (token.Number (pos n)) c e = absurd cc
count_code (token.Number (negsuc n)) c e = sym (err_is {A = ℕ} refusal.Grammar c e)
count_code t c e = own {A = ℕ} t c e

-- ---- words

wire_word_code : (w : DocWire) (x : Word) (c : Refusal) → wire_word w x ≡ Err c → c ≡ refusal.Grammar
unfolding wire_word
wire_word_code w word.Width c e = absurd cc
wire_word_code w word.Offset c e = absurd cc
wire_word_code w word.Input c e = absurd cc
wire_word_code w word.Output c e = absurd cc
wire_word_code w word.Inout c e = absurd cc
wire_word_code w word.Upto c e = absurd cc
wire_word_code w word.Signed c e = absurd cc
wire_word_code w x c e = sym (err_is {A = Place} refusal.Grammar c e)

mem_word_code : (m : DocMem) (x : Word) (c : Refusal) → mem_word m x ≡ Err c → c ≡ refusal.Grammar
unfolding mem_word
mem_word_code m word.Width c e = absurd cc
mem_word_code m word.Size c e = absurd cc
mem_word_code m word.Offset c e = absurd cc
mem_word_code m x c e = sym (err_is {A = Place} refusal.Grammar c e)

wire_code : (taken : List (List ℕ)) (w : DocWire) (t : Token) (c : Refusal) → wire_option taken w t ≡ Err c → Own t c
unfolding wire_option wire_done refusal_at
wire_code taken w (token.Word x) c e = wire_word_code w x c e
wire_code taken w t c e = new_code taken t c (before (new_name taken t) (λ n. place.Done (says.Wire (record w { name = n }))) c e)

mem_code : (taken : List (List ℕ)) (m : DocMem) (t : Token) (c : Refusal) → mem_option taken m t ≡ Err c → Own t c
unfolding mem_option mem_done refusal_at
mem_code taken m (token.Word x) c e = mem_word_code m x c e
mem_code taken m t c e = new_code taken t c (before (new_name taken t) (λ n. place.Done (says.Memory (record m { name = n }))) c e)

wire_number_code : (w : DocWire) (field : WireField) (t : Token) (c : Refusal) → wire_number w field t ≡ Err c → Own t c
unfolding wire_number
wire_number_code w wire_field.Width t c e = count_code t c (before (count_in t) (λ n. record w { width = n }) c e)
wire_number_code w wire_field.Offset t c e = number_code t c (before (number_in t) (λ z. record w { offset = z }) c e)
wire_number_code w wire_field.Input t c e = count_code t c (before (count_in t) (λ n. record w { port = n; input = true }) c e)
wire_number_code w wire_field.Output t c e = count_code t c (before (count_in t) (λ n. record w { port = n; output = true }) c e)
wire_number_code w wire_field.Inout t c e = count_code t c (before (count_in t) (λ n. record w { port = n; input = true; output = true }) c e)

mem_number_code : (m : DocMem) (field : MemField) (t : Token) (c : Refusal) → mem_number m field t ≡ Err c → Own t c
unfolding mem_number
mem_number_code m field t c e = count_code t c (before (count_in t) (λ n. mem_set field n m) c e)

flag_code : (taken : List (List ℕ)) (t : Token) (c : Refusal) → flag_step taken t ≡ Err c → Own t c
unfolding flag_step named_step
flag_code taken (token.Word word.Signed) c e = absurd cc
flag_code taken (token.Word word.Real) c e = absurd cc
flag_code taken t c e = new_code taken t c (before (new_name taken t) (λ n. place.CellParameterValue flag.Plain n) c e)

-- ---- places

-- neither the start of a line nor in a signal
abbrev pub IsPlain : Place → Type 0
IsPlain place.Start = ⊥
IsPlain (place.Left s) = ⊥
IsPlain (place.Right l s) = ⊥
IsPlain (place.PinValue n s) = ⊥
IsPlain p = Unit {0}

pub plain_code : (limit : ℕ) (st : State) (p : Place) (t : Token) (c : Refusal) → IsPlain p → step limit st p t ≡ Err c → Own t c
unfolding step parameter_value
plain_code limit st place.Start t c h e = absurd h
plain_code limit st (place.Left s) t c h e = absurd h
plain_code limit st (place.Right l s) t c h e = absurd h
plain_code limit st (place.PinValue n s) t c h e = absurd h
plain_code limit st place.AutoidxNumber t c h e = number_code t c (before (number_in t) (λ z. place.Done says.Autoidx) c e)
plain_code limit st place.AttributeName t c h e = name_code t c (before (name_in t) (λ n. place.AttributeValue n) c e)
plain_code limit st (place.AttributeValue n) t c h e = const_code t c (before (const_in t) (λ v. place.Done (says.Attribute (record { name = n; value = v }))) c e)
plain_code limit st place.ModuleName t c h e = new_code st.names.modules t c (before (new_name st.names.modules t) (λ n. place.Done (says.Module n)) c e)
plain_code limit st place.ParameterName t c h e = name_code t c (before (name_in t) (λ n. place.ParameterValue n) c e)
plain_code limit st (place.ParameterValue n) t c h e = const_code t c (before (const_in t) (λ v. place.Done (says.Parameter (record { flag = flag.Plain; name = n; value = Some v }))) c e)
plain_code limit st (place.WireOption w) t c h e = wire_code st.names.wires w t c e
plain_code limit st (place.WireNumber w field) t c h e = wire_number_code w field t c (before (wire_number w field t) (λ v. place.WireOption v) c e)
plain_code limit st (place.MemOption m) t c h e = mem_code st.names.memories m t c e
plain_code limit st (place.MemNumber m field) t c h e = mem_number_code m field t c (before (mem_number m field t) (λ v. place.MemOption v) c e)
plain_code limit st place.CellKind t c h e = name_code t c (before (name_in t) (λ k. place.CellName k) c e)
plain_code limit st (place.CellName k) t c h e = new_code st.names.cells t c (before (new_name st.names.cells t) (λ n. place.Done (says.Cell k n)) c e)
plain_code limit st place.CellParameterFlag t c h e = flag_code st.names.parameters t c e
plain_code limit st (place.CellParameterName f) t c h e = new_code st.names.parameters t c (before (new_name st.names.parameters t) (λ n. place.CellParameterValue f n) c e)
plain_code limit st (place.CellParameterValue f n) t c h e = const_code t c (before (const_in t) (λ v. place.Done (says.CellParameter (record { flag = f; name = n; value = Some v }))) c e)
plain_code limit st place.PinName t c h e = new_code st.names.pins t c (before (new_name st.names.pins t) (λ n. place.PinValue n no_signal) c e)
plain_code limit st (place.Done s) t c h e = own {A = Place} t c e

-- ---- the first token of a line

-- a process, or a token of its own refusal
abbrev pub FirstCode : Token → Refusal → Type 0
FirstCode t c = ((t ≡ token.Word word.Process) × (c ≡ refusal.Process)) ⊎ (Own t c × (t ≡ token.Word word.Process → ⊥))

abbrev WordCode : Word → Refusal → Type 0
WordCode w c = ((w ≡ word.Process) × (c ≡ refusal.Process)) ⊎ ((c ≡ refusal.Grammar) × (w ≡ word.Process → ⊥))

only_code : (b : Bool) (p : Place) (c : Refusal) → only_if b p ≡ Err c → c ≡ refusal.Grammar
only_code true p c e = absurd cc
only_code false p c e = sym (err_is {A = Place} refusal.Grammar c e)

grammar : (c : Refusal) → failed {A = Place} refusal.Grammar ≡ failed c → c ≡ refusal.Grammar
grammar c e = sym (err_is {A = Place} refusal.Grammar c e)

process : (c : Refusal) → failed {A = Place} refusal.Process ≡ failed c → c ≡ refusal.Process
process c e = sym (err_is {A = Place} refusal.Process c e)

file_code : (bare seen : Bool) (w : Word) (c : Refusal) → file_word bare seen w ≡ Err c → WordCode w c
unfolding file_word
file_code bare seen word.Attribute c e = absurd cc
file_code bare seen word.Module c e = absurd cc
file_code bare seen word.Autoidx c e = inr (only_code (bare && not seen) place.AutoidxNumber c e, λ h. absurd cc)
file_code bare seen word.Process c e = inl (refl, process c e)
file_code bare seen w c e = inr (grammar c e, λ h. absurd cc)

module_code : (bare : Bool) (w : Word) (c : Refusal) → module_word bare w ≡ Err c → WordCode w c
unfolding module_word
module_code bare word.Attribute c e = absurd cc
module_code bare word.Wire c e = absurd cc
module_code bare word.Memory c e = absurd cc
module_code bare word.Cell c e = absurd cc
module_code bare word.Parameter c e = inr (only_code bare place.ParameterName c e, λ h. absurd cc)
module_code bare word.Connect c e = inr (only_code bare (place.Left no_signal) c e, λ h. absurd cc)
module_code bare word.End c e = inr (only_code bare (place.Done says.End) c e, λ h. absurd cc)
module_code bare word.Process c e = inl (refl, process c e)
module_code bare w c e = inr (grammar c e, λ h. absurd cc)

cell_code : (w : Word) (c : Refusal) → cell_word w ≡ Err c → WordCode w c
unfolding cell_word
cell_code word.Parameter c e = absurd cc
cell_code word.Connect c e = absurd cc
cell_code word.End c e = absurd cc
cell_code word.Process c e = inl (refl, process c e)
cell_code w c e = inr (grammar c e, λ h. absurd cc)

word_code : (o : Open) (bare seen : Bool) (w : Word) (c : Refusal) → word_in o bare seen w ≡ Err c → WordCode w c
unfolding word_in
word_code open_.File bare seen w c e = file_code bare seen w c e
word_code (open_.Module m) bare seen w c e = module_code bare w c e
word_code (open_.Cell m k) bare seen w c e = cell_code w c e

word_is : (w v : Word) → token.Word w ≡ token.Word v → w ≡ v
word_is w v e = cc

of_word : (w : Word) (c : Refusal) → WordCode w c → FirstCode (token.Word w) c
unfolding refusal_at
of_word w c (inl h) = inl (ap (λ (x : Word). token.Word x) h.0, h.1)
of_word w c (inr h) = inr (h.0, λ e. h.1 (word_is w word.Process e))

pub start_code : (limit : ℕ) (st : State) (t : Token) (c : Refusal) → step limit st place.Start t ≡ Err c → FirstCode t c
unfolding step start_step
start_code limit st (token.Word w) c e = of_word w c (word_code st.current (is_bare st) st.autoidx w c e)
start_code limit st t c e = inr (own {A = Place} t c e, λ h. absurd cc)

-- ---- the end of a line

whole_code : (s : Signal) (c : Refusal) (b : Bool) → cond b (done s.parts) (Err refusal.Grammar) ≡ Err c → c ≡ refusal.Grammar
whole_code s c true e = absurd cc
whole_code s c false e = sym (err_is {A = List Part} refusal.Grammar c e)

whole_of_code : (s : Signal) (c : Refusal) → whole_of s ≡ Err c → c ≡ refusal.Grammar
unfolding whole_of
whole_of_code s c e = whole_code s c (is_whole s) e

pub end_code : (p : Place) (c : Refusal) → finish p ≡ Err c → c ≡ refusal.Grammar
unfolding finish
end_code place.Start c e = absurd cc
end_code (place.ParameterValue n) c e = absurd cc
end_code (place.Right l s) c e = whole_of_code s c (before (whole_of s) (λ r. says.Connect l r) c e)
end_code (place.PinValue n s) c e = whole_of_code s c (before (whole_of s) (λ v. says.Pin n v) c e)
end_code (place.Done s) c e = absurd cc
end_code p c e = sym (err_is {A = Statement} refusal.Grammar c e)
