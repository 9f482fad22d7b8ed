-- The attribute `\init` of wires: what nets are at the start.
use Rattle.std.specs.Prelude.{ℕ, Bool, List, [], ◌∷◌, length, replicate, slice_get, slice_set, Option, Some, None, codes, if◌then◌else◌}
use Rattle.std.specs.Str.{bytes_eq}
use Rattle.lib_core.specs.declared.library.Tri.{Tri}
use Rattle.lib_core.specs.declared.library.Tri.TheVariants.{Any}
use Rattle.net_core.specs.declared.bits.Bit.{Bit}
use Rattle.net_core.specs.declared.bits.Bit.TheVariants.{Zero, One, Net}
use Rattle.net_core.specs.declared.cells.Carried.{Carried}
use Rattle.net_core.specs.declared.cells.Pin.{Pin}
use Rattle.net_core.specs.declared.cells.Reg.{Reg}
use Rattle.net_core.specs.declared.mems.Attr.{Attr}
use Rattle.net_core.specs.declared.modules.Wire.{Wire}
use Rattle.net_core.specs.Shape.{is_defined}
use Rattle.cell_consts.specs.Consts.{attr_bits}
use Rattle.net_draft.specs.declared.starts.Start.{Start}
use Rattle.net_draft.specs.declared.starts.Start.TheVariants as start

-- ---- by nets

unfoldable pub put_values : List Start → List ℕ → List Tri → List Start
put_values starts [] vs = starts
put_values starts (n ∷ ns) [] = starts
put_values starts (n ∷ ns) (v ∷ vs) = put_values (slice_set starts n (start.Is v)) ns vs

-- a register says the start of what it drives
unfoldable pub put_regs : List Start → List Reg → List Start
put_regs starts [] = starts
put_regs starts (r ∷ rs) = put_regs (put_values starts r.q r.init) rs

abbrev pub put_bit : List Start → Bit → List Start
put_bit starts Zero = starts
put_bit starts One = starts
put_bit starts (Net n) = slice_set starts n start.Kept

unfoldable pub put_bits : List Start → List Bit → List Start
put_bits starts [] = starts
put_bits starts (b ∷ bs) = put_bits (put_bit starts b) bs

abbrev pub put_pin : List Start → Pin → List Start
put_pin starts p = if p.drives then put_bits starts p.bits else starts

unfoldable pub put_pins : List Start → List Pin → List Start
put_pins starts [] = starts
put_pins starts (p ∷ ps) = put_pins (put_pin starts p) ps

-- of what a carried cell drives a wire keeps what it said
unfoldable pub put_cells : List Start → List Carried → List Start
put_cells starts [] = starts
put_cells starts (c ∷ cs) = put_cells (put_pins starts c.pins) cs

abbrev pub starts_of : ℕ → List Reg → List Carried → List Start
starts_of nets regs cells = put_cells (put_regs (replicate nets (start.Is Any)) regs) cells

-- ---- by wires

abbrev pub is_init : Attr → Bool
is_init a = bytes_eq a.name (codes "\\init")

-- the first of two that is 0 or 1
abbrev pub or_else : Tri → Tri → Tri
or_else first other = if is_defined first then first else other

-- bits fill what is not said yet, place by place
unfoldable pub put_after : List Tri → List Tri → List Tri
put_after [] bits = []
put_after (t ∷ ts) [] = t ∷ ts
put_after (t ∷ ts) (b ∷ bs) = or_else t b ∷ put_after ts bs

abbrev pub with_attr : List Tri → Attr → List Tri
with_attr said a = if is_init a then put_after said (attr_bits a) else said

unfoldable pub said_by : List Tri → List Attr → List Tri
said_by said [] = said
said_by said (a ∷ as_) = said_by (with_attr said a) as_

abbrev pub said_or : Start → Tri → Tri
said_or (start.Is v) said = v
said_or start.Kept said = said

abbrev pub start_or : Option Start → Tri → Tri
start_or None said = Any
start_or (Some s) said = said_or s said

abbrev pub start_at : List Start → Bit → Tri → Tri
start_at starts Zero said = Any
start_at starts One said = Any
start_at starts (Net n) said = start_or (slice_get starts n) said

unfoldable pub starts_at : List Start → List Bit → List Tri → List Tri
starts_at starts [] said = []
starts_at starts (b ∷ bs) [] = []
starts_at starts (b ∷ bs) (t ∷ ts) = start_at starts b t ∷ starts_at starts bs ts

-- what a wire says of its bits; a constant has no start
abbrev pub wire_starts : List Start → Wire → List Tri
wire_starts starts w = starts_at starts w.bits (said_by (replicate (length w.bits) Any) w.attrs)

-- what the added wire says of its nets
unfoldable pub net_starts : List Start → List ℕ → List Tri
net_starts starts [] = []
net_starts starts (n ∷ ns) = start_at starts (Net n) Any ∷ net_starts starts ns
