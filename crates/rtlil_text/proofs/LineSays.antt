-- What a line says is read, where it may stand.
use Rattle.std.proofs.Common.{◌≡◌, ℕ, ℤ, pos, Bool, true, false, List, [], ◌∷◌, ◌++◌, Option, Some, None, Result, Ok, Err, refl, sym, ap, ◌∙◌, append_assoc}
use Rattle.std.specs.Prelude.{◌==◌, ◌&&◌, not}
use Rattle.std.specs.List.{flat_map}
use Rattle.rtlil_lex.specs.declared.token.Token.{Token}
use Rattle.rtlil_lex.specs.declared.token.Token.TheVariants as token
use Rattle.rtlil_lex.specs.declared.token.Word.{Word}
use Rattle.rtlil_lex.specs.declared.token.Word.TheVariants as word
use Rattle.rtlil_text.specs.declared.doc.DocAttr.{DocAttr}
use Rattle.rtlil_text.specs.declared.doc.DocConst.{DocConst}
use Rattle.rtlil_text.specs.declared.doc.DocConst.TheVariants as const
use Rattle.rtlil_text.specs.declared.doc.DocFlag.{DocFlag}
use Rattle.rtlil_text.specs.declared.doc.DocFlag.TheVariants as flag
use Rattle.rtlil_text.specs.declared.doc.DocMem.{DocMem}
use Rattle.rtlil_text.specs.declared.doc.DocWire.{DocWire}
use Rattle.rtlil_text.specs.declared.doc.Part.{Part}
use Rattle.rtlil_text.specs.declared.fault.Refusal.{Refusal}
use Rattle.rtlil_text.specs.declared.place.MemField.TheVariants as mem_field
use Rattle.rtlil_text.specs.declared.place.Place.{Place}
use Rattle.rtlil_text.specs.declared.place.Place.TheVariants as place
use Rattle.rtlil_text.specs.declared.place.Statement.{Statement}
use Rattle.rtlil_text.specs.declared.place.Statement.TheVariants as says
use Rattle.rtlil_text.specs.declared.place.WireField.TheVariants as wire_field
use Rattle.rtlil_text.specs.declared.signal.Signal.{Signal}
use Rattle.rtlil_text.specs.declared.signal.Spot.{Spot}
use Rattle.rtlil_text.specs.declared.signal.Spot.TheVariants as spot
use Rattle.rtlil_text.specs.declared.state.Open.{Open}
use Rattle.rtlil_text.specs.declared.state.Open.TheVariants as open_
use Rattle.rtlil_text.specs.declared.state.State.{State}
use Rattle.rtlil_text.specs.Grammar.{const_token, IsSignal, NestsWithin, WireOption, width, offset, input, output, inout, upto, signed, wire_option_tokens, with_wire_option, with_wire_options, plain_wire, named_wire, MemOption, mem_width, mem_size, mem_offset, mem_option_tokens, with_mem_option, with_mem_options, plain_mem, named_mem, flag_tokens, value_tokens, param, Says, autoidx, attribute, module_line, parameter, wire_line, memory, cell, connect, cell_parameter, pin, end, has}
use Rattle.rtlil_text.specs.Read.{◌>>=◌, refusal_at, steps}
use Rattle.rtlil_text.specs.ReadSignal.{no_signal, is_whole, whole_at, count_in, count_of, signal_step, spot_step, after_step, base_step}
use Rattle.rtlil_text.specs.ReadLine.{name_in, new_name, number_in, const_in, file_word, module_word, cell_word, is_bare, word_in, start_step, parameter_value, wire_word, wire_done, wire_option, wire_number, mem_word, mem_done, mem_option, mem_set, mem_number, begins_slice, left_step, named_step, flag_step, step, whole_of, finish, statement_at}
use Rattle.rtlil_text.proofs.Steps.{bind_ok, done, ok_is, steps_nil, steps_cons, steps_first, steps_on, steps_within}
use Rattle.rtlil_text.proofs.SignalSays.{at, signal_says}
use Rattle.rtlil_text.proofs.LineFound.{AtFile, AtModule, AtCell, AttributesAt, EndsAt, Allowed}

-- ---- the first word

in_file : (o : Open) (bare seen : Bool) (w : Word) → AtFile o → word_in o bare seen w ≡ file_word bare seen w
unfolding word_in
in_file open_.File bare seen w h = refl
in_file (open_.Module m) bare seen w h = absurd h
in_file (open_.Cell m c) bare seen w h = absurd h

in_module : (o : Open) (bare seen : Bool) (w : Word) → AtModule o → word_in o bare seen w ≡ module_word bare w
unfolding word_in
in_module open_.File bare seen w h = absurd h
in_module (open_.Module m) bare seen w h = refl
in_module (open_.Cell m c) bare seen w h = absurd h

in_cell : (o : Open) (bare seen : Bool) (w : Word) → AtCell o → word_in o bare seen w ≡ cell_word w
unfolding word_in
in_cell open_.File bare seen w h = absurd h
in_cell (open_.Module m) bare seen w h = absurd h
in_cell (open_.Cell m c) bare seen w h = refl

is_bare_from : (st : State) → st.attrs ≡ [] → is_bare st ≡ true
unfolding is_bare
is_bare_from st e = rw e refl

-- ---- lines

module _ (limit : ℕ) (st : State) where
  abbrev pub run : Place → List Token → Result Statement Refusal
  run p ts = steps (step limit st) p ts >>= λ q. finish q

  pub next : (p q : Place) (t : Token) (ts : List Token) → step limit st p t ≡ Ok q → run p (t ∷ ts) ≡ run q ts
  next p q t ts e = ap (λ (r : Result Place Refusal). r >>= λ x. finish x) (steps_first (step limit st) p q t ts e)

  pub ends : (p : Place) → run p [] ≡ finish p
  ends p = ap (λ (r : Result Place Refusal). r >>= λ x. finish x) (steps_nil (step limit st) p)

  pub goes : (p q : Place) (ts us : List Token) → steps (step limit st) p ts ≡ Ok q → run p (ts ++ us) ≡ run q us
  goes p q ts us e = ap (λ (r : Result Place Refusal). r >>= λ x. finish x) (steps_on (step limit st) p q ts us e)

  pub finished : (s : Statement) → run (place.Done s) [] ≡ Ok s
  unfolding finish
  finished s = ends (place.Done s)

  first_file : (w : Word) (q : Place) → AtFile st.current → file_word (is_bare st) st.autoidx w ≡ Ok q → step limit st place.Start (token.Word w) ≡ Ok q
  unfolding step start_step
  first_file w q h e = in_file st.current (is_bare st) st.autoidx w h ∙ e

  first_module : (w : Word) (q : Place) → AtModule st.current → module_word (is_bare st) w ≡ Ok q → step limit st place.Start (token.Word w) ≡ Ok q
  unfolding step start_step
  first_module w q h e = in_module st.current (is_bare st) st.autoidx w h ∙ e

  first_cell : (w : Word) (q : Place) → AtCell st.current → cell_word w ≡ Ok q → step limit st place.Start (token.Word w) ≡ Ok q
  unfolding step start_step
  first_cell w q h e = in_cell st.current (is_bare st) st.autoidx w h ∙ e

  -- constants and names
  pub const_read : (c : DocConst) → const_in (const_token c) ≡ Ok c
  unfolding const_in
  const_read (const.Digits ds) = refl
  const_read (const.Number z) = refl
  const_read (const.Text t) = refl

  pub new_read : (taken : List (List ℕ)) (n : List ℕ) → has taken n ≡ false → new_name taken (token.Id n) ≡ Ok n
  unfolding new_name name_in
  new_read taken n e = rw e refl

  says_autoidx : (z : ℤ) → Allowed limit st says.Autoidx → run place.Start (token.Word word.Autoidx ∷ token.Number z ∷ []) ≡ Ok says.Autoidx
  unfolding step file_word number_in
  says_autoidx z h =
      next place.Start place.AutoidxNumber (token.Word word.Autoidx) (token.Number z ∷ []) (first_file word.Autoidx place.AutoidxNumber h.0 (rw (is_bare_from st h.1, h.2) refl))
      ∙ next place.AutoidxNumber (place.Done says.Autoidx) (token.Number z) [] refl
      ∙ finished says.Autoidx

  attribute_first : (o : Open) → AttributesAt o → (b s : Bool) → word_in o b s word.Attribute ≡ Ok place.AttributeName
  unfolding word_in file_word module_word
  attribute_first open_.File h b s = refl
  attribute_first (open_.Module m) h b s = refl
  attribute_first (open_.Cell m c) h b s = absurd h

  attribute_start : AttributesAt st.current → step limit st place.Start (token.Word word.Attribute) ≡ Ok place.AttributeName
  unfolding step start_step
  attribute_start h = attribute_first st.current h (is_bare st) st.autoidx

  says_attribute : (a : DocAttr) → AttributesAt st.current → run place.Start (token.Word word.Attribute ∷ token.Id a.name ∷ const_token a.value ∷ []) ≡ Ok (says.Attribute a)
  unfolding step name_in
  says_attribute a h =
      next place.Start place.AttributeName (token.Word word.Attribute) (token.Id a.name ∷ const_token a.value ∷ []) (attribute_start h)
      ∙ next place.AttributeName (place.AttributeValue a.name) (token.Id a.name) (const_token a.value ∷ []) refl
      ∙ next (place.AttributeValue a.name) (place.Done (says.Attribute a)) (const_token a.value) [] (rw (const_read a.value) refl)
      ∙ finished (says.Attribute a)

  says_module : (n : List ℕ) → AtFile st.current → has st.names.modules n ≡ false → run place.Start (token.Word word.Module ∷ token.Id n ∷ []) ≡ Ok (says.Module n)
  unfolding step file_word
  says_module n h new =
      next place.Start place.ModuleName (token.Word word.Module) (token.Id n ∷ []) (first_file word.Module place.ModuleName h refl)
      ∙ next place.ModuleName (place.Done (says.Module n)) (token.Id n) [] (rw (new_read st.names.modules n new) refl)
      ∙ finished (says.Module n)

  says_value : (n : List ℕ) (v : Option DocConst) → run (place.ParameterValue n) (value_tokens v) ≡ Ok (says.Parameter (param flag.Plain n v))
  unfolding step parameter_value finish
  says_value n None = ends (place.ParameterValue n)
  says_value n (Some c) = next (place.ParameterValue n) (place.Done (says.Parameter (param flag.Plain n (Some c)))) (const_token c) [] (rw (const_read c) refl) ∙ finished (says.Parameter (param flag.Plain n (Some c)))

  says_parameter : (n : List ℕ) (v : Option DocConst) → AtModule st.current → st.attrs ≡ [] → run place.Start (token.Word word.Parameter ∷ token.Id n ∷ value_tokens v) ≡ Ok (says.Parameter (param flag.Plain n v))
  unfolding step module_word name_in
  says_parameter n v h bare =
      next place.Start place.ParameterName (token.Word word.Parameter) (token.Id n ∷ value_tokens v) (first_module word.Parameter place.ParameterName h (rw (is_bare_from st bare) refl))
      ∙ next place.ParameterName (place.ParameterValue n) (token.Id n) (value_tokens v) refl
      ∙ says_value n v

  wire_option_read : (w : DocWire) (o : WireOption) (ts : List Token) → run (place.WireOption w) (wire_option_tokens o ++ ts) ≡ run (place.WireOption (with_wire_option o w)) ts
  unfolding step wire_option wire_word wire_number count_in count_of number_in
  wire_option_read w (width n) ts = next (place.WireOption w) (place.WireNumber w wire_field.Width) (token.Word word.Width) (token.Number (pos n) ∷ ts) refl ∙ next (place.WireNumber w wire_field.Width) (place.WireOption (with_wire_option (width n) w)) (token.Number (pos n)) ts refl
  wire_option_read w (offset z) ts = next (place.WireOption w) (place.WireNumber w wire_field.Offset) (token.Word word.Offset) (token.Number z ∷ ts) refl ∙ next (place.WireNumber w wire_field.Offset) (place.WireOption (with_wire_option (offset z) w)) (token.Number z) ts refl
  wire_option_read w (input n) ts = next (place.WireOption w) (place.WireNumber w wire_field.Input) (token.Word word.Input) (token.Number (pos n) ∷ ts) refl ∙ next (place.WireNumber w wire_field.Input) (place.WireOption (with_wire_option (input n) w)) (token.Number (pos n)) ts refl
  wire_option_read w (output n) ts = next (place.WireOption w) (place.WireNumber w wire_field.Output) (token.Word word.Output) (token.Number (pos n) ∷ ts) refl ∙ next (place.WireNumber w wire_field.Output) (place.WireOption (with_wire_option (output n) w)) (token.Number (pos n)) ts refl
  wire_option_read w (inout n) ts = next (place.WireOption w) (place.WireNumber w wire_field.Inout) (token.Word word.Inout) (token.Number (pos n) ∷ ts) refl ∙ next (place.WireNumber w wire_field.Inout) (place.WireOption (with_wire_option (inout n) w)) (token.Number (pos n)) ts refl
  wire_option_read w upto ts = next (place.WireOption w) (place.WireOption (with_wire_option upto w)) (token.Word word.Upto) ts refl
  wire_option_read w signed ts = next (place.WireOption w) (place.WireOption (with_wire_option signed w)) (token.Word word.Signed) ts refl

  pub wire_options_read : (w : DocWire) (os : List WireOption) (n : List ℕ) → has st.names.wires n ≡ false → run (place.WireOption w) (flat_map wire_option_tokens os ++ token.Id n ∷ []) ≡ Ok (says.Wire (named_wire n (with_wire_options w os)))
  unfolding step wire_option wire_done
  wire_options_read w [] n new = next (place.WireOption w) (place.Done (says.Wire (named_wire n w))) (token.Id n) [] (rw (new_read st.names.wires n new) refl) ∙ finished (says.Wire (named_wire n w))
  wire_options_read w (o ∷ os) n new =
      ap (λ (x : List Token). run (place.WireOption w) x) (append_assoc (wire_option_tokens o) (flat_map wire_option_tokens os) (token.Id n ∷ []))
      ∙ wire_option_read w o (flat_map wire_option_tokens os ++ token.Id n ∷ [])
      ∙ wire_options_read (with_wire_option o w) os n new

  says_wire : (os : List WireOption) (n : List ℕ) → AtModule st.current → has st.names.wires n ≡ false → run place.Start (token.Word word.Wire ∷ (flat_map wire_option_tokens os ++ token.Id n ∷ [])) ≡ Ok (says.Wire (named_wire n (with_wire_options plain_wire os)))
  unfolding module_word
  says_wire os n h new = next place.Start (place.WireOption plain_wire) (token.Word word.Wire) (flat_map wire_option_tokens os ++ token.Id n ∷ []) (first_module word.Wire (place.WireOption plain_wire) h refl) ∙ wire_options_read plain_wire os n new

  mem_option_read : (m : DocMem) (o : MemOption) (ts : List Token) → run (place.MemOption m) (mem_option_tokens o ++ ts) ≡ run (place.MemOption (with_mem_option o m)) ts
  unfolding step mem_option mem_word mem_number mem_set count_in count_of
  mem_option_read m (mem_width n) ts = next (place.MemOption m) (place.MemNumber m mem_field.Width) (token.Word word.Width) (token.Number (pos n) ∷ ts) refl ∙ next (place.MemNumber m mem_field.Width) (place.MemOption (with_mem_option (mem_width n) m)) (token.Number (pos n)) ts refl
  mem_option_read m (mem_size n) ts = next (place.MemOption m) (place.MemNumber m mem_field.Size) (token.Word word.Size) (token.Number (pos n) ∷ ts) refl ∙ next (place.MemNumber m mem_field.Size) (place.MemOption (with_mem_option (mem_size n) m)) (token.Number (pos n)) ts refl
  mem_option_read m (mem_offset n) ts = next (place.MemOption m) (place.MemNumber m mem_field.Offset) (token.Word word.Offset) (token.Number (pos n) ∷ ts) refl ∙ next (place.MemNumber m mem_field.Offset) (place.MemOption (with_mem_option (mem_offset n) m)) (token.Number (pos n)) ts refl

  pub mem_options_read : (m : DocMem) (os : List MemOption) (n : List ℕ) → has st.names.memories n ≡ false → run (place.MemOption m) (flat_map mem_option_tokens os ++ token.Id n ∷ []) ≡ Ok (says.Memory (named_mem n (with_mem_options m os)))
  unfolding step mem_option mem_done
  mem_options_read m [] n new = next (place.MemOption m) (place.Done (says.Memory (named_mem n m))) (token.Id n) [] (rw (new_read st.names.memories n new) refl) ∙ finished (says.Memory (named_mem n m))
  mem_options_read m (o ∷ os) n new =
      ap (λ (x : List Token). run (place.MemOption m) x) (append_assoc (mem_option_tokens o) (flat_map mem_option_tokens os) (token.Id n ∷ []))
      ∙ mem_option_read m o (flat_map mem_option_tokens os ++ token.Id n ∷ [])
      ∙ mem_options_read (with_mem_option o m) os n new

  says_memory : (os : List MemOption) (n : List ℕ) → AtModule st.current → has st.names.memories n ≡ false → run place.Start (token.Word word.Memory ∷ (flat_map mem_option_tokens os ++ token.Id n ∷ [])) ≡ Ok (says.Memory (named_mem n (with_mem_options plain_mem os)))
  unfolding module_word
  says_memory os n h new = next place.Start (place.MemOption plain_mem) (token.Word word.Memory) (flat_map mem_option_tokens os ++ token.Id n ∷ []) (first_module word.Memory (place.MemOption plain_mem) h refl) ∙ mem_options_read plain_mem os n new

  says_cell : (k n : List ℕ) → AtModule st.current → has st.names.cells n ≡ false → run place.Start (token.Word word.Cell ∷ token.Id k ∷ token.Id n ∷ []) ≡ Ok (says.Cell k n)
  unfolding step module_word name_in
  says_cell k n h new =
      next place.Start place.CellKind (token.Word word.Cell) (token.Id k ∷ token.Id n ∷ []) (first_module word.Cell place.CellKind h refl)
      ∙ next place.CellKind (place.CellName k) (token.Id k) (token.Id n ∷ []) refl
      ∙ next (place.CellName k) (place.Done (says.Cell k n)) (token.Id n) [] (rw (new_read st.names.cells n new) refl)
      ∙ finished (says.Cell k n)

  -- ---- signals within a line

  pub right_step : (l : List Part) (s n : Signal) (t : Token) → signal_step limit s t ≡ Ok n → step limit st (place.Right l s) t ≡ Ok (place.Right l n)
  unfolding step
  right_step l s n t e = rw e refl

  pub pin_step : (m : List ℕ) (s n : Signal) (t : Token) → signal_step limit s t ≡ Ok n → step limit st (place.PinValue m s) t ≡ Ok (place.PinValue m n)
  unfolding step
  pin_step m s n t e = rw e refl

  -- a whole signal goes on with a slice alone
  slices_only : (d : ℕ) (ps : List Part) (t : Token) (n : Signal) → d == 0 ≡ true → begins_slice t ≡ false → after_step limit (at ps d spot.After) t ≡ Ok n → ⊥
  unfolding after_step begins_slice
  slices_only d ps token.OpenBracket n z b e = absurd cc
  slices_only d ps t n z b e = let k : Err (refusal_at t) ≡ done n = rw z at e in absurd cc

  not_ended : (s n : Signal) (t : Token) (w b : Bool) → is_whole s ≡ w → begins_slice t ≡ b → signal_step limit s t ≡ Ok n → (w && not b) ≡ false
  unfolding is_whole whole_at signal_step spot_step
  not_ended s n t false b p q e = refl
  not_ended s n t true true p q e = refl
  not_ended s n t true false p q e = absurd (refuses s.depth s.parts s.spot p e) where
    refuses : (d : ℕ) (ps : List Part) (sp : Spot) → whole_at d sp ≡ true → spot_step limit (at ps d sp) sp t ≡ Ok n → ⊥
    refuses d ps spot.After z k = slices_only d ps t n z q k
    refuses d ps spot.Begin z k = absurd cc
    refuses d ps spot.High z k = absurd cc
    refuses d ps (spot.Colon h) z k = absurd cc
    refuses d ps (spot.Low h) z k = absurd cc
    refuses d ps (spot.Close h l) z k = absurd cc

  pub left_goes : (s n : Signal) (t : Token) → signal_step limit s t ≡ Ok n → step limit st (place.Left s) t ≡ Ok (place.Left n)
  unfolding step left_step
  left_goes s n t e = rw (not_ended s n t (is_whole s) (begins_slice t) refl refl e, e) refl

  begins_right : (t : Token) (n : Signal) → signal_step limit no_signal t ≡ Ok n → begins_slice t ≡ false
  unfolding signal_step spot_step base_step no_signal begins_slice
  begins_right token.OpenBracket n e = absurd cc
  begins_right t n e = refl

  right_begins : (l : List Part) (n : Signal) (t : Token) → signal_step limit no_signal t ≡ Ok n → step limit st (place.Left (at l 0 spot.After)) t ≡ Ok (place.Right l n)
  unfolding step left_step is_whole whole_at
  right_begins l n t e = rw (begins_right t n e, e) refl

  ended : (ps : List Part) → whole_of (at ps 0 spot.After) ≡ Ok ps
  unfolding whole_of is_whole whole_at
  ended ps = refl

  pub finish_right : (l r : List Part) → finish (place.Right l (at r 0 spot.After)) ≡ Ok (says.Connect l r)
  unfolding finish
  finish_right l r = rw (ended r) refl

  pub finish_pin : (n : List ℕ) (v : List Part) → finish (place.PinValue n (at v 0 spot.After)) ≡ Ok (says.Pin n v)
  unfolding finish
  finish_pin n v = rw (ended v) refl

  not_begin : (ps : List Part) → done no_signal ≡ done (at ps 0 spot.After) → ⊥
  unfolding no_signal
  not_begin ps e = let k : spot.Begin ≡ spot.After = ap (λ (x : Signal). x.spot) (ok_is {A = Signal} no_signal (at ps 0 spot.After) e) in absurd cc

  pub right_read : (l r : List Part) (us : List Token) → steps (signal_step limit) no_signal us ≡ Ok (at r 0 spot.After) → run (place.Left (at l 0 spot.After)) us ≡ Ok (says.Connect l r)
  right_read l r [] e = absurd (not_begin r (sym (steps_nil (signal_step limit) no_signal) ∙ e))
  right_read l r (t ∷ us) e =
      let b = bind_ok (signal_step limit no_signal t) (λ n. steps (signal_step limit) n us) (at r 0 spot.After) (sym (steps_cons (signal_step limit) no_signal t us) ∙ e) in
      let k = steps_within (signal_step limit) (step limit st) (λ s. place.Right l s) (right_step l) b.0 (at r 0 spot.After) us b.2 in
      next (place.Left (at l 0 spot.After)) (place.Right l b.0) t us (right_begins l b.0 t b.1)
      ∙ ap (λ (x : Result Place Refusal). x >>= λ q. finish q) k
      ∙ finish_right l r

  says_connect : (l r : List Part) (ts us : List Token) → IsSignal l ts → IsSignal r us → AtModule st.current → st.attrs ≡ [] → NestsWithin limit l → NestsWithin limit r → run place.Start (token.Word word.Connect ∷ (ts ++ us)) ≡ Ok (says.Connect l r)
  unfolding module_word
  says_connect l r ts us il ir h bare nl nr =
      let k = steps_within (signal_step limit) (step limit st) (λ s. place.Left s) left_goes no_signal (at l 0 spot.After) ts (signal_says limit l ts il nl) in
      next place.Start (place.Left no_signal) (token.Word word.Connect) (ts ++ us) (first_module word.Connect (place.Left no_signal) h (rw (is_bare_from st bare) refl))
      ∙ goes (place.Left no_signal) (place.Left (at l 0 spot.After)) ts us k
      ∙ right_read l r us (signal_says limit r us ir nr)

  says_pin : (n : List ℕ) (v : List Part) (ts : List Token) → IsSignal v ts → AtCell st.current → has st.names.pins n ≡ false → NestsWithin limit v → run place.Start (token.Word word.Connect ∷ token.Id n ∷ ts) ≡ Ok (says.Pin n v)
  unfolding step cell_word
  says_pin n v ts is h new nests =
      let k = steps_within (signal_step limit) (step limit st) (λ s. place.PinValue n s) (pin_step n) no_signal (at v 0 spot.After) ts (signal_says limit v ts is nests) in
      next place.Start place.PinName (token.Word word.Connect) (token.Id n ∷ ts) (first_cell word.Connect place.PinName h refl)
      ∙ next place.PinName (place.PinValue n no_signal) (token.Id n) ts (rw (new_read st.names.pins n new) refl)
      ∙ ap (λ (x : Result Place Refusal). x >>= λ q. finish q) k
      ∙ finish_pin n v

  -- ---- parameters of cells

  pub value_read : (f : DocFlag) (n : List ℕ) (c : DocConst) → run (place.CellParameterValue f n) (const_token c ∷ []) ≡ Ok (says.CellParameter (param f n (Some c)))
  unfolding step
  value_read f n c = next (place.CellParameterValue f n) (place.Done (says.CellParameter (param f n (Some c)))) (const_token c) [] (rw (const_read c) refl) ∙ finished (says.CellParameter (param f n (Some c)))

  pub named_read : (f : DocFlag) (n : List ℕ) (c : DocConst) → has st.names.parameters n ≡ false → run (place.CellParameterName f) (token.Id n ∷ const_token c ∷ []) ≡ Ok (says.CellParameter (param f n (Some c)))
  unfolding step
  named_read f n c new = next (place.CellParameterName f) (place.CellParameterValue f n) (token.Id n) (const_token c ∷ []) (rw (new_read st.names.parameters n new) refl) ∙ value_read f n c

  pub flag_read : (f : DocFlag) (n : List ℕ) (c : DocConst) → has st.names.parameters n ≡ false → run place.CellParameterFlag (flag_tokens f ++ token.Id n ∷ const_token c ∷ []) ≡ Ok (says.CellParameter (param f n (Some c)))
  unfolding step flag_step named_step
  flag_read flag.Plain n c new = next place.CellParameterFlag (place.CellParameterValue flag.Plain n) (token.Id n) (const_token c ∷ []) (rw (new_read st.names.parameters n new) refl) ∙ value_read flag.Plain n c
  flag_read flag.Signed n c new = next place.CellParameterFlag (place.CellParameterName flag.Signed) (token.Word word.Signed) (token.Id n ∷ const_token c ∷ []) refl ∙ named_read flag.Signed n c new
  flag_read flag.Real n c new = next place.CellParameterFlag (place.CellParameterName flag.Real) (token.Word word.Real) (token.Id n ∷ const_token c ∷ []) refl ∙ named_read flag.Real n c new

  says_cell_parameter : (f : DocFlag) (n : List ℕ) (c : DocConst) → AtCell st.current → has st.names.parameters n ≡ false → run place.Start (token.Word word.Parameter ∷ (flag_tokens f ++ token.Id n ∷ const_token c ∷ [])) ≡ Ok (says.CellParameter (param f n (Some c)))
  unfolding cell_word
  says_cell_parameter f n c h new =
      next place.Start place.CellParameterFlag (token.Word word.Parameter) (flag_tokens f ++ token.Id n ∷ const_token c ∷ []) (first_cell word.Parameter place.CellParameterFlag h refl)
      ∙ flag_read f n c new

  end_first : (o : Open) (attrs : List DocAttr) (b s : Bool) → EndsAt o attrs → (attrs ≡ [] → b ≡ true) → word_in o b s word.End ≡ Ok (place.Done says.End)
  unfolding word_in module_word cell_word
  end_first open_.File attrs b s h k = absurd h
  end_first (open_.Module m) attrs b s h k = rw (k h) refl
  end_first (open_.Cell m c) attrs b s h k = refl

  end_start : EndsAt st.current st.attrs → step limit st place.Start (token.Word word.End) ≡ Ok (place.Done says.End)
  unfolding step start_step
  end_start h = end_first st.current st.attrs (is_bare st) st.autoidx h (is_bare_from st)

  pub says_read : (s : Statement) (ts : List Token) → Says s ts → Allowed limit st s → statement_at limit st ts ≡ Ok s
  says_read s ts (autoidx z) h = says_autoidx z h
  says_read s ts (attribute a) h = says_attribute a h
  says_read s ts (module_line n) h = says_module n h.0 h.1
  says_read s ts (parameter n v) h = says_parameter n v h.0 h.1
  says_read s ts (wire_line os n) h = says_wire os n h.0 h.1
  says_read s ts (memory os n) h = says_memory os n h.0 h.1
  says_read s ts (cell k n) h = says_cell k n h.0 h.1
  says_read s ts (connect {l = l} {r = r} {ts = vs} {us = us} il ir) h = says_connect l r vs us il ir h.0 h.1 h.2 h.3
  says_read s ts (cell_parameter f n c) h = says_cell_parameter f n c h.0 h.1
  says_read s ts (pin {v = v} {ts = vs} n is) h = says_pin n v vs is h.0 h.1 h.2
  says_read s ts end h = next place.Start (place.Done says.End) (token.Word word.End) [] (end_start h) ∙ finished says.End
