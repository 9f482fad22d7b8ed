-- The contents that a declared memory has at the start, from cells of their own. (Yosys manual, memories: `$meminit_v2`.)
use Rattle.std.specs.Prelude.{ℕ, zero, suc, ◌+◌, ◌-◌, ◌*◌, Bool, true, false, ◌&&◌, List, [], ◌∷◌, ◌++◌, map, drop, replicate, get_or, slice_set, Option, Some, None, codes, nat_le, if◌then◌else◌}
use Rattle.lib_core.specs.declared.library.Tri.{Tri}
use Rattle.lib_core.specs.declared.library.Tri.TheVariants as tri
use Rattle.net_core.specs.declared.bits.Bit.{Bit}
use Rattle.net_core.specs.declared.bits.Bit.TheVariants.{Zero, One, Net}
use Rattle.net_core.specs.declared.mems.Mem.{Mem}
use Rattle.cell_consts.specs.Consts.{value_of}
use Rattle.mem_collect.specs.Pieces.{pin_bits}
use Rattle.net_collect.specs.declared.contents.Start.{Start}
use Rattle.net_collect.specs.declared.sides.InitCell.{InitCell}

-- the value of a constant bit; a bit without a driver is open
abbrev pub tri_of_bit : Bit → Tri
tri_of_bit Zero = tri.Zero
tri_of_bit One = tri.One
tri_of_bit (Net n) = tri.Any

abbrev pub tris_of : List Bit → List Tri
tris_of bs = map (λ b. tri_of_bit b) bs

abbrev pub is_enabled : Bit → Bool
is_enabled Zero = false
is_enabled One = true
is_enabled (Net n) = false

-- whether a cell of a priority may write over what is there: the higher one wins, and of equal ones the later cell
abbrev pub yields : Option ℕ → ℕ → Bool
yields None priority = true
yields (Some p) priority = nat_le p priority

abbrev pub over : ℕ → Bit → Bit → Start → Start
over priority en b s = if is_enabled en && yields s.by priority then record { by = Some priority; value = tri_of_bit b } else s

-- nothing is said of a bit
abbrev pub blank : Start
blank = record { by = None; value = tri.Any }

-- bits, each with its enable, are written one after the other from a place on; what lies past the end is dropped
unfoldable pub put_bits : ℕ → List Bit → List Bit → ℕ → List Start → List Start
put_bits priority [] bs place table = table
put_bits priority (e ∷ es) [] place table = table
put_bits priority (e ∷ es) (b ∷ bs) place table = put_bits priority es bs (place + 1) (slice_set table place (over priority e b (get_or table place blank)))

-- each word has the same enables
unfoldable pub enables : ℕ → List Bit → List Bit
enables zero en = []
enables (suc words) en = en ++ enables words en

-- an address that is constant
abbrev pub address_value : List Bit → ℕ
address_value addr = value_of (tris_of addr)

abbrev pub first_of : InitCell → ℕ
first_of c = address_value (pin_bits c.part.pins (codes "\\ADDR"))

-- the words from the cell's address on; those below the memory's first address are dropped
abbrev pub put_cell : Mem → InitCell → List Start → List Start
put_cell m c table =
    put_bits c.row.priority
    (drop ((m.offset - first_of c) * m.width) (enables c.row.words (pin_bits c.part.pins (codes "\\EN"))))
    (drop ((m.offset - first_of c) * m.width) (pin_bits c.part.pins (codes "\\DATA")))
    ((first_of c - m.offset) * m.width)
    table

unfoldable pub put_cells : Mem → List InitCell → List Start → List Start
put_cells m [] table = table
put_cells m (c ∷ cs) table = put_cells m cs (put_cell m c table)

-- the bits that no cell writes are open
unfoldable pub contents : Mem → List InitCell → List Tri
contents m cells = map (λ (s : Start). s.value) (put_cells m cells (replicate (m.size * m.width) blank))
