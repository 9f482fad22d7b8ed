-- What one token does to a line that is being read, before which the text was read to a state; limit is how deep braces may stand.
use Rattle.std.specs.Prelude.{ℕ, ℤ, Bool, true, false, not, ◌&&◌, List, length, Some, None, Result, Ok, Err, ◌==◌, if◌then◌else◌}
use Rattle.rtlil_lex.specs.declared.token.Token.{Token}
use Rattle.rtlil_lex.specs.declared.token.Token.TheVariants as token
use Rattle.rtlil_lex.specs.declared.token.Word.{Word}
use Rattle.rtlil_lex.specs.declared.token.Word.TheVariants as word
use Rattle.rtlil_text.specs.declared.doc.DocConst.{DocConst}
use Rattle.rtlil_text.specs.declared.doc.DocConst.TheVariants as const
use Rattle.rtlil_text.specs.declared.doc.DocFlag.TheVariants as flag
use Rattle.rtlil_text.specs.declared.doc.DocMem.{DocMem}
use Rattle.rtlil_text.specs.declared.doc.DocWire.{DocWire}
use Rattle.rtlil_text.specs.declared.doc.Part.{Part}
use Rattle.rtlil_text.specs.declared.fault.Refusal.{Refusal}
use Rattle.rtlil_text.specs.declared.fault.Refusal.TheVariants as refusal
use Rattle.rtlil_text.specs.declared.place.MemField.{MemField}
use Rattle.rtlil_text.specs.declared.place.MemField.TheVariants as mem_field
use Rattle.rtlil_text.specs.declared.place.Place.{Place}
use Rattle.rtlil_text.specs.declared.place.Place.TheVariants as place
use Rattle.rtlil_text.specs.declared.place.Statement.{Statement}
use Rattle.rtlil_text.specs.declared.place.Statement.TheVariants as says
use Rattle.rtlil_text.specs.declared.place.WireField.{WireField}
use Rattle.rtlil_text.specs.declared.place.WireField.TheVariants as wire_field
use Rattle.rtlil_text.specs.declared.signal.Signal.{Signal}
use Rattle.rtlil_text.specs.declared.state.Open.{Open}
use Rattle.rtlil_text.specs.declared.state.Open.TheVariants as open_
use Rattle.rtlil_text.specs.declared.state.State.{State}
use Rattle.rtlil_text.specs.Grammar.{has, plain_wire, plain_mem, named_wire, named_mem, with_wire_option, with_mem_option, width, offset, input, output, inout, upto, signed, mem_width, mem_size, mem_offset, param}
use Rattle.rtlil_text.specs.Read.{◌>>=◌, refusal_at, steps}
use Rattle.rtlil_text.specs.ReadSignal.{no_signal, is_whole, count_in, signal_step}

unfoldable pub name_in : Token → Result (List ℕ) Refusal
name_in (token.Id n) = Ok n
name_in t = Err (refusal_at t)

abbrev pub if_new : List (List ℕ) → List ℕ → Result (List ℕ) Refusal
if_new taken n = if has taken n then Err refusal.Grammar else Ok n

unfoldable pub new_name : List (List ℕ) → Token → Result (List ℕ) Refusal
new_name taken t = name_in t >>= λ n. if_new taken n

unfoldable pub number_in : Token → Result ℤ Refusal
number_in (token.Number z) = Ok z
number_in t = Err (refusal_at t)

unfoldable pub const_in : Token → Result DocConst Refusal
const_in (token.Digits ds) = Ok (const.Digits ds)
const_in (token.Number z) = Ok (const.Number z)
const_in (token.Text t) = Ok (const.Text t)
const_in t = Err (refusal_at t)

abbrev pub only_if : Bool → Place → Result Place Refusal
only_if b p = if b then Ok p else Err refusal.Grammar

unfoldable pub file_word : Bool → Bool → Word → Result Place Refusal
file_word bare seen word.Attribute = Ok place.AttributeName
file_word bare seen word.Module = Ok place.ModuleName
file_word bare seen word.Autoidx = only_if (bare && not seen) place.AutoidxNumber
file_word bare seen word.Process = Err refusal.Process
file_word bare seen w = Err refusal.Grammar

unfoldable pub module_word : Bool → Word → Result Place Refusal
module_word bare word.Attribute = Ok place.AttributeName
module_word bare word.Wire = Ok (place.WireOption plain_wire)
module_word bare word.Memory = Ok (place.MemOption plain_mem)
module_word bare word.Cell = Ok place.CellKind
module_word bare word.Parameter = only_if bare place.ParameterName
module_word bare word.Connect = only_if bare (place.Left no_signal)
module_word bare word.End = only_if bare (place.Done says.End)
module_word bare word.Process = Err refusal.Process
module_word bare w = Err refusal.Grammar

unfoldable pub cell_word : Word → Result Place Refusal
cell_word word.Parameter = Ok place.CellParameterFlag
cell_word word.Connect = Ok place.PinName
cell_word word.End = Ok (place.Done says.End)
cell_word word.Process = Err refusal.Process
cell_word w = Err refusal.Grammar

unfoldable pub is_bare : State → Bool
is_bare st = length st.attrs == 0

unfoldable pub word_in : Open → Bool → Bool → Word → Result Place Refusal
word_in open_.File bare seen w = file_word bare seen w
word_in (open_.Module m) bare seen w = module_word bare w
word_in (open_.Cell m c) bare seen w = cell_word w

unfoldable pub start_step : State → Token → Result Place Refusal
start_step st (token.Word w) = word_in st.current (is_bare st) st.autoidx w
start_step st t = Err (refusal_at t)

unfoldable pub parameter_value : List ℕ → Token → Result Place Refusal
parameter_value n t = const_in t >>= λ c. Ok (place.Done (says.Parameter (param flag.Plain n (Some c))))

unfoldable pub wire_word : DocWire → Word → Result Place Refusal
wire_word w word.Width = Ok (place.WireNumber w wire_field.Width)
wire_word w word.Offset = Ok (place.WireNumber w wire_field.Offset)
wire_word w word.Input = Ok (place.WireNumber w wire_field.Input)
wire_word w word.Output = Ok (place.WireNumber w wire_field.Output)
wire_word w word.Inout = Ok (place.WireNumber w wire_field.Inout)
wire_word w word.Upto = Ok (place.WireOption (with_wire_option upto w))
wire_word w word.Signed = Ok (place.WireOption (with_wire_option signed w))
wire_word w x = Err refusal.Grammar

unfoldable pub wire_done : List (List ℕ) → DocWire → Token → Result Place Refusal
wire_done taken w t = new_name taken t >>= λ n. Ok (place.Done (says.Wire (named_wire n w)))

unfoldable pub wire_option : List (List ℕ) → DocWire → Token → Result Place Refusal
wire_option taken w (token.Word x) = wire_word w x
wire_option taken w t = wire_done taken w t

unfoldable pub wire_number : DocWire → WireField → Token → Result DocWire Refusal
wire_number w wire_field.Width t = count_in t >>= λ n. Ok (with_wire_option (width n) w)
wire_number w wire_field.Offset t = number_in t >>= λ z. Ok (with_wire_option (offset z) w)
wire_number w wire_field.Input t = count_in t >>= λ n. Ok (with_wire_option (input n) w)
wire_number w wire_field.Output t = count_in t >>= λ n. Ok (with_wire_option (output n) w)
wire_number w wire_field.Inout t = count_in t >>= λ n. Ok (with_wire_option (inout n) w)

unfoldable pub mem_word : DocMem → Word → Result Place Refusal
mem_word m word.Width = Ok (place.MemNumber m mem_field.Width)
mem_word m word.Size = Ok (place.MemNumber m mem_field.Size)
mem_word m word.Offset = Ok (place.MemNumber m mem_field.Offset)
mem_word m x = Err refusal.Grammar

unfoldable pub mem_done : List (List ℕ) → DocMem → Token → Result Place Refusal
mem_done taken m t = new_name taken t >>= λ n. Ok (place.Done (says.Memory (named_mem n m)))

unfoldable pub mem_option : List (List ℕ) → DocMem → Token → Result Place Refusal
mem_option taken m (token.Word x) = mem_word m x
mem_option taken m t = mem_done taken m t

unfoldable pub mem_set : MemField → ℕ → DocMem → DocMem
mem_set mem_field.Width n m = with_mem_option (mem_width n) m
mem_set mem_field.Size n m = with_mem_option (mem_size n) m
mem_set mem_field.Offset n m = with_mem_option (mem_offset n) m

unfoldable pub mem_number : DocMem → MemField → Token → Result DocMem Refusal
mem_number m field t = count_in t >>= λ n. Ok (mem_set field n m)

unfoldable pub begins_slice : Token → Bool
begins_slice token.OpenBracket = true
begins_slice t = false

-- behind a whole signal only a slice belongs to it
unfoldable pub left_step : ℕ → Signal → Token → Result Place Refusal
left_step limit s t =
    if is_whole s && not (begins_slice t) then signal_step limit no_signal t >>= (λ r. Ok (place.Right s.parts r))
    else signal_step limit s t >>= (λ l. Ok (place.Left l))

unfoldable pub named_step : List (List ℕ) → Token → Result Place Refusal
named_step taken t = new_name taken t >>= λ n. Ok (place.CellParameterValue flag.Plain n)

unfoldable pub flag_step : List (List ℕ) → Token → Result Place Refusal
flag_step taken (token.Word word.Signed) = Ok (place.CellParameterName flag.Signed)
flag_step taken (token.Word word.Real) = Ok (place.CellParameterName flag.Real)
flag_step taken t = named_step taken t

unfoldable pub step : ℕ → State → Place → Token → Result Place Refusal
step limit st place.Start t = start_step st t
step limit st place.AutoidxNumber t = number_in t >>= λ z. Ok (place.Done says.Autoidx)
step limit st place.AttributeName t = name_in t >>= λ n. Ok (place.AttributeValue n)
step limit st (place.AttributeValue n) t = const_in t >>= λ c. Ok (place.Done (says.Attribute (record { name = n; value = c })))
step limit st place.ModuleName t = new_name st.names.modules t >>= λ n. Ok (place.Done (says.Module n))
step limit st place.ParameterName t = name_in t >>= λ n. Ok (place.ParameterValue n)
step limit st (place.ParameterValue n) t = parameter_value n t
step limit st (place.WireOption w) t = wire_option st.names.wires w t
step limit st (place.WireNumber w field) t = wire_number w field t >>= λ next. Ok (place.WireOption next)
step limit st (place.MemOption m) t = mem_option st.names.memories m t
step limit st (place.MemNumber m field) t = mem_number m field t >>= λ next. Ok (place.MemOption next)
step limit st place.CellKind t = name_in t >>= λ k. Ok (place.CellName k)
step limit st (place.CellName k) t = new_name st.names.cells t >>= λ n. Ok (place.Done (says.Cell k n))
step limit st (place.Left s) t = left_step limit s t
step limit st (place.Right l s) t = signal_step limit s t >>= λ next. Ok (place.Right l next)
step limit st place.CellParameterFlag t = flag_step st.names.parameters t
step limit st (place.CellParameterName f) t = new_name st.names.parameters t >>= λ n. Ok (place.CellParameterValue f n)
step limit st (place.CellParameterValue f n) t = const_in t >>= λ c. Ok (place.Done (says.CellParameter (param f n (Some c))))
step limit st place.PinName t = new_name st.names.pins t >>= λ n. Ok (place.PinValue n no_signal)
step limit st (place.PinValue n s) t = signal_step limit s t >>= λ next. Ok (place.PinValue n next)
step limit st (place.Done s) t = Err (refusal_at t)

unfoldable pub whole_of : Signal → Result (List Part) Refusal
whole_of s = if is_whole s then Ok s.parts else Err refusal.Grammar

unfoldable pub finish : Place → Result Statement Refusal
finish place.Start = Ok says.Blank
finish (place.ParameterValue n) = Ok (says.Parameter (param flag.Plain n None))
finish (place.Right l s) = whole_of s >>= λ r. Ok (says.Connect l r)
finish (place.PinValue n s) = whole_of s >>= λ v. Ok (says.Pin n v)
finish (place.Done s) = Ok s
finish p = Err refusal.Grammar

-- what a line of tokens says
abbrev pub statement_at : ℕ → State → List Token → Result Statement Refusal
statement_at limit st ts = steps (step limit st) place.Start ts >>= λ p. finish p
