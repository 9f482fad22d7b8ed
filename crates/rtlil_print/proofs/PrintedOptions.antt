-- A wire and a memory that some options make are made by the options of their printed form.
use Rattle.std.proofs.Common.{◌≡◌, ℕ, ℤ, pos, negsuc, Bool, true, false, List, [], ◌∷◌, ◌++◌, refl, sym, ap, ◌∙◌, arith}
use Rattle.std.specs.Prelude.{◌==◌}
use Rattle.std.specs.List.{flat_map}
use Rattle.std.proofs.lemmas.Bool.{eqb-true}
use Rattle.rtlil_lex.specs.Spelling.{KnownFit}
use Rattle.rtlil_text.specs.declared.doc.DocMem.{DocMem}
use Rattle.rtlil_text.specs.declared.doc.DocWire.{DocWire}
use Rattle.rtlil_text.specs.declared.doc.DocAttr.{DocAttr}
use Rattle.rtlil_text.specs.Grammar.{WireOption, width, offset, input, output, inout, upto, signed, wire_option_tokens, with_wire_option, with_wire_options, plain_wire, MemOption, mem_width, mem_size, mem_offset, mem_option_tokens, with_mem_option, with_mem_options, plain_mem}
use Rattle.rtlil_print.specs.WellFormed.{IsPortNumber, IsWire, IsMemory}
use Rattle.rtlil_print.proofs.Canonical.{width_list, offset_list, port_list, flag_list, wire_list, mem_list_of, mem_list}
use Rattle.rtlil_print.proofs.PrintedSignals.{known_append}

-- ---- wires

outputs_fit : (b : Bool) (n : ℕ) → IsPortNumber b true n
outputs_fit true n = tt
outputs_fit false n = tt

plain_fits : IsWire plain_wire
unfolding plain_wire
plain_fits = record { attrs = refl; width = omega arith; offset = omega arith; port = omega arith; number = refl }

option_fits : (o : WireOption) (w : DocWire) → KnownFit (wire_option_tokens o) → IsWire w → IsWire (with_wire_option o w)
option_fits (width n) w k f = record { attrs = f.attrs; width = k.1.0 tt; offset = f.offset; port = f.port; number = f.number }
option_fits (offset z) w k f = record { attrs = f.attrs; width = f.width; offset = k.1.0 tt; port = f.port; number = f.number }
option_fits (input n) w k f = record { attrs = f.attrs; width = f.width; offset = f.offset; port = k.1.0 tt; number = tt }
option_fits (output n) w k f = record { attrs = f.attrs; width = f.width; offset = f.offset; port = k.1.0 tt; number = outputs_fit w.input n }
option_fits (inout n) w k f = record { attrs = f.attrs; width = f.width; offset = f.offset; port = k.1.0 tt; number = tt }
option_fits upto w k f = record { attrs = f.attrs; width = f.width; offset = f.offset; port = f.port; number = f.number }
option_fits signed w k f = record { attrs = f.attrs; width = f.width; offset = f.offset; port = f.port; number = f.number }

options_fit : (os : List WireOption) (w : DocWire) → KnownFit (flat_map wire_option_tokens os) → IsWire w → IsWire (with_wire_options w os)
options_fit [] w k f = f
options_fit (o ∷ os) w k f = let r = known_append (wire_option_tokens o) (flat_map wire_option_tokens os) k in options_fit os (with_wire_option o w) r.1 (option_fits o w r.0 f)

pub wire_fits : (os : List WireOption) → KnownFit (flat_map wire_option_tokens os) → IsWire (with_wire_options plain_wire os)
wire_fits os k = options_fit os plain_wire k plain_fits

-- options leave the name alone
nameless : (os : List WireOption) (w : DocWire) → (with_wire_options w os).name ≡ w.name
nameless [] w = refl
nameless (width n ∷ os) w = nameless os (with_wire_option (width n) w)
nameless (offset z ∷ os) w = nameless os (with_wire_option (offset z) w)
nameless (input n ∷ os) w = nameless os (with_wire_option (input n) w)
nameless (output n ∷ os) w = nameless os (with_wire_option (output n) w)
nameless (inout n ∷ os) w = nameless os (with_wire_option (inout n) w)
nameless (upto ∷ os) w = nameless os (with_wire_option upto w)
nameless (signed ∷ os) w = nameless os (with_wire_option signed w)

pub wire_nameless : (os : List WireOption) → (with_wire_options plain_wire os).name ≡ []
unfolding plain_wire
wire_nameless os = nameless os plain_wire

abbrev whole : ℕ → ℤ → ℕ → Bool → Bool → Bool → Bool → DocWire
whole wide off p i o u s = record { attrs = []; name = []; width = wide; offset = off; port = p; input = i; output = o; upto = u; signed = s }

plain_whole : plain_wire ≡ whole 1 (pos 0) 0 false false false false
unfolding plain_wire
plain_whole = refl

with_append : (w : DocWire) (os ps : List WireOption) → with_wire_options w (os ++ ps) ≡ with_wire_options (with_wire_options w os) ps
with_append w [] ps = refl
with_append w (o ∷ os) ps = with_append (with_wire_option o w) os ps

width_by : (n : ℕ) (b : Bool) → n == 1 ≡ b → with_wire_options (whole 1 (pos 0) 0 false false false false) (width_list n) ≡ whole n (pos 0) 0 false false false false
width_by n true e = rw e (ap (λ (m : ℕ). whole m (pos 0) 0 false false false false) (sym (eqb-true n 1 e)))
width_by n false e = rw e refl

offset_by : (wide n : ℕ) (b : Bool) → n == 0 ≡ b → with_wire_options (whole wide (pos 0) 0 false false false false) (offset_list (pos n)) ≡ whole wide (pos n) 0 false false false false
offset_by wide n true e = rw e (ap (λ (m : ℕ). whole wide (pos m) 0 false false false false) (sym (eqb-true n 0 e)))
offset_by wide n false e = rw e refl

offset_is : (wide : ℕ) (z : ℤ) → with_wire_options (whole wide (pos 0) 0 false false false false) (offset_list z) ≡ whole wide z 0 false false false false
offset_is wide (pos n) = offset_by wide n (n == 0) refl
offset_is wide (negsuc n) = refl

port_is : (wide : ℕ) (z : ℤ) (i o : Bool) (n : ℕ) → IsPortNumber i o n → with_wire_options (whole wide z 0 false false false false) (port_list i o n) ≡ whole wide z n i o false false
port_is wide z true true n f = refl
port_is wide z true false n f = refl
port_is wide z false true n f = refl
port_is wide z false false n f = ap (λ (m : ℕ). whole wide z m false false false false) (sym f)

upto_is : (wide : ℕ) (z : ℤ) (n : ℕ) (i o u : Bool) → with_wire_options (whole wide z n i o false false) (flag_list upto u) ≡ whole wide z n i o u false
upto_is wide z n i o true = refl
upto_is wide z n i o false = refl

signed_is : (wide : ℕ) (z : ℤ) (n : ℕ) (i o u s : Bool) → with_wire_options (whole wide z n i o u false) (flag_list signed s) ≡ whole wide z n i o u s
signed_is wide z n i o u true = refl
signed_is wide z n i o u false = refl

listed : (w : DocWire) → IsWire w → with_wire_options plain_wire (wire_list w) ≡ whole w.width w.offset w.port w.input w.output w.upto w.signed
listed w f =
    let a = width_list w.width in
    let b = offset_list w.offset in
    let c = port_list w.input w.output w.port in
    let d = flag_list upto w.upto in
    let e = flag_list signed w.signed in
    let one : with_wire_options plain_wire a ≡ whole w.width (pos 0) 0 false false false false = ap (λ (x : DocWire). with_wire_options x a) plain_whole ∙ width_by w.width (w.width == 1) refl in
    let two : with_wire_options plain_wire (a ++ b) ≡ whole w.width w.offset 0 false false false false = with_append plain_wire a b ∙ ap (λ (x : DocWire). with_wire_options x b) one ∙ offset_is w.width w.offset in
    let three : with_wire_options plain_wire ((a ++ b) ++ c) ≡ whole w.width w.offset w.port w.input w.output false false = with_append plain_wire (a ++ b) c ∙ ap (λ (x : DocWire). with_wire_options x c) two ∙ port_is w.width w.offset w.input w.output w.port f.number in
    let four : with_wire_options plain_wire (((a ++ b) ++ c) ++ d) ≡ whole w.width w.offset w.port w.input w.output w.upto false = with_append plain_wire ((a ++ b) ++ c) d ∙ ap (λ (x : DocWire). with_wire_options x d) three ∙ upto_is w.width w.offset w.port w.input w.output w.upto in
    with_append plain_wire (((a ++ b) ++ c) ++ d) e ∙ ap (λ (x : DocWire). with_wire_options x e) four ∙ signed_is w.width w.offset w.port w.input w.output w.upto w.signed

pub wire_again : (w : DocWire) → IsWire w → w.name ≡ [] → with_wire_options plain_wire (wire_list w) ≡ w
wire_again w f e =
    listed w f
    ∙ ap (λ (x : List ℕ). record w { attrs = []; name = x }) (sym e)
    ∙ ap (λ (x : List DocAttr). record w { attrs = x }) (sym f.attrs)

-- ---- memories

plain_mem_fits : IsMemory plain_mem
unfolding plain_mem
plain_mem_fits = record { attrs = refl; width = omega arith; size = omega arith; offset = omega arith }

mem_option_fits : (o : MemOption) (m : DocMem) → KnownFit (mem_option_tokens o) → IsMemory m → IsMemory (with_mem_option o m)
mem_option_fits (mem_width n) m k f = record { attrs = f.attrs; width = k.1.0 tt; size = f.size; offset = f.offset }
mem_option_fits (mem_size n) m k f = record { attrs = f.attrs; width = f.width; size = k.1.0 tt; offset = f.offset }
mem_option_fits (mem_offset n) m k f = record { attrs = f.attrs; width = f.width; size = f.size; offset = k.1.0 tt }

mem_options_fit : (os : List MemOption) (m : DocMem) → KnownFit (flat_map mem_option_tokens os) → IsMemory m → IsMemory (with_mem_options m os)
mem_options_fit [] m k f = f
mem_options_fit (o ∷ os) m k f = let r = known_append (mem_option_tokens o) (flat_map mem_option_tokens os) k in mem_options_fit os (with_mem_option o m) r.1 (mem_option_fits o m r.0 f)

pub mem_fits : (os : List MemOption) → KnownFit (flat_map mem_option_tokens os) → IsMemory (with_mem_options plain_mem os)
mem_fits os k = mem_options_fit os plain_mem k plain_mem_fits

mem_name_stays : (os : List MemOption) (m : DocMem) → (with_mem_options m os).name ≡ m.name
mem_name_stays [] m = refl
mem_name_stays (mem_width n ∷ os) m = mem_name_stays os (with_mem_option (mem_width n) m)
mem_name_stays (mem_size n ∷ os) m = mem_name_stays os (with_mem_option (mem_size n) m)
mem_name_stays (mem_offset n ∷ os) m = mem_name_stays os (with_mem_option (mem_offset n) m)

pub mem_nameless : (os : List MemOption) → (with_mem_options plain_mem os).name ≡ []
unfolding plain_mem
mem_nameless os = mem_name_stays os plain_mem

abbrev whole_mem : ℕ → ℕ → ℕ → DocMem
whole_mem wide n off = record { attrs = []; name = []; width = wide; size = n; offset = off }

plain_whole_mem : plain_mem ≡ whole_mem 1 0 0
unfolding plain_mem
plain_whole_mem = refl

with_mem_append : (m : DocMem) (os ps : List MemOption) → with_mem_options m (os ++ ps) ≡ with_mem_options (with_mem_options m os) ps
with_mem_append m [] ps = refl
with_mem_append m (o ∷ os) ps = with_mem_append (with_mem_option o m) os ps

mem_width_by : (n : ℕ) (b : Bool) → n == 1 ≡ b → with_mem_options (whole_mem 1 0 0) (mem_list_of mem_width n 1) ≡ whole_mem n 0 0
mem_width_by n true e = rw e (ap (λ (x : ℕ). whole_mem x 0 0) (sym (eqb-true n 1 e)))
mem_width_by n false e = rw e refl

mem_size_by : (wide n : ℕ) (b : Bool) → n == 0 ≡ b → with_mem_options (whole_mem wide 0 0) (mem_list_of mem_size n 0) ≡ whole_mem wide n 0
mem_size_by wide n true e = rw e (ap (λ (x : ℕ). whole_mem wide x 0) (sym (eqb-true n 0 e)))
mem_size_by wide n false e = rw e refl

mem_offset_by : (wide size n : ℕ) (b : Bool) → n == 0 ≡ b → with_mem_options (whole_mem wide size 0) (mem_list_of mem_offset n 0) ≡ whole_mem wide size n
mem_offset_by wide size n true e = rw e (ap (λ (x : ℕ). whole_mem wide size x) (sym (eqb-true n 0 e)))
mem_offset_by wide size n false e = rw e refl

mem_listed : (m : DocMem) → with_mem_options plain_mem (mem_list m) ≡ whole_mem m.width m.size m.offset
mem_listed m =
    let a = mem_list_of mem_width m.width 1 in
    let b = mem_list_of mem_size m.size 0 in
    let c = mem_list_of mem_offset m.offset 0 in
    let one : with_mem_options plain_mem a ≡ whole_mem m.width 0 0 = ap (λ (x : DocMem). with_mem_options x a) plain_whole_mem ∙ mem_width_by m.width (m.width == 1) refl in
    let two : with_mem_options plain_mem (a ++ b) ≡ whole_mem m.width m.size 0 = with_mem_append plain_mem a b ∙ ap (λ (x : DocMem). with_mem_options x b) one ∙ mem_size_by m.width m.size (m.size == 0) refl in
    with_mem_append plain_mem (a ++ b) c ∙ ap (λ (x : DocMem). with_mem_options x c) two ∙ mem_offset_by m.width m.size m.offset (m.offset == 0) refl

pub mem_again : (m : DocMem) → IsMemory m → m.name ≡ [] → with_mem_options plain_mem (mem_list m) ≡ m
mem_again m f e =
    mem_listed m
    ∙ ap (λ (x : List ℕ). record m { attrs = []; name = x }) (sym e)
    ∙ ap (λ (x : List DocAttr). record m { attrs = x }) (sym f.attrs)
