-- The cell that holds a whole memory: `$mem_v2` with all its ports. (Yosys manual, memories.)
use Rattle.std.specs.Prelude.{ℕ, Bool, true, false, List, [], ◌∷◌, ◌++◌, map, codes}
use Rattle.lib_core.specs.declared.library.Tri.{Tri}
use Rattle.lib_core.specs.declared.library.Tri.TheVariants as tri
use Rattle.net_core.specs.declared.bits.Bit.{Bit}
use Rattle.net_core.specs.declared.cells.Pin.{Pin}
use Rattle.net_core.specs.declared.mems.Attr.{Attr}
use Rattle.net_core.specs.declared.mems.Mem.{Mem}
use Rattle.net_core.specs.declared.modules.MemPart.{MemPart}
use Rattle.net_core.specs.Values.{tri_of}
use Rattle.cell_consts.specs.Consts.{number_attr, bits_attr, text_attr}
use Rattle.mem_pack.specs.Lists as lists

-- a list of no bits is written as one 0
abbrev pub some_bits : List Tri → List Tri
some_bits [] = tri.Zero ∷ []
some_bits (b ∷ bs) = b ∷ bs

unfoldable pub values_attr : List ℕ → List Tri → Attr
values_attr name values = bits_attr name (some_bits values)

unfoldable pub flags_attr : List ℕ → List Bool → Attr
flags_attr name flags = bits_attr name (some_bits (map tri_of flags))

-- ---- parameters

unfoldable pub name_params : Mem → List Attr
name_params m = text_attr (codes "\\MEMID") m.name ∷ number_attr (codes "\\SIZE") m.size ∷ []

unfoldable pub address_params : Mem → List Attr
address_params m = number_attr (codes "\\OFFSET") m.offset ∷ number_attr (codes "\\ABITS") m.abits ∷ []

unfoldable pub word_params : Mem → List Attr
word_params m = number_attr (codes "\\WIDTH") m.width ∷ bits_attr (codes "\\INIT") m.init ∷ []

unfoldable pub read_clock_params : Mem → List Attr
read_clock_params m =
    number_attr (codes "\\RD_PORTS") (lists.read_numbers m.reads) ∷ flags_attr (codes "\\RD_CLK_ENABLE") (lists.read_clocked m.reads)
    ∷ flags_attr (codes "\\RD_CLK_POLARITY") (lists.read_rising m.reads) ∷ []

unfoldable pub read_mask_params : Mem → List Attr
read_mask_params m =
    flags_attr (codes "\\RD_TRANSPARENCY_MASK") (lists.read_trans (lists.write_wides m.writes) m.reads)
    ∷ flags_attr (codes "\\RD_COLLISION_X_MASK") (lists.read_coll (lists.write_wides m.writes) m.reads) ∷ []

unfoldable pub read_port_params : Mem → List Attr
read_port_params m =
    flags_attr (codes "\\RD_WIDE_CONTINUATION") (lists.read_behind m.reads) ∷ flags_attr (codes "\\RD_CE_OVER_SRST") (lists.read_over m.reads) ∷ []

unfoldable pub read_value_params : Mem → List Attr
read_value_params m =
    values_attr (codes "\\RD_ARST_VALUE") (lists.read_arst_values m.reads) ∷ values_attr (codes "\\RD_SRST_VALUE") (lists.read_srst_values m.reads) ∷ []

unfoldable pub read_start_params : Mem → List Attr
read_start_params m = values_attr (codes "\\RD_INIT_VALUE") (lists.read_init_values m.reads) ∷ []

unfoldable pub write_clock_params : Mem → List Attr
write_clock_params m =
    number_attr (codes "\\WR_PORTS") (lists.write_numbers m.writes) ∷ flags_attr (codes "\\WR_CLK_ENABLE") (lists.write_clocked m.writes)
    ∷ flags_attr (codes "\\WR_CLK_POLARITY") (lists.write_rising m.writes) ∷ []

unfoldable pub write_port_params : Mem → List Attr
write_port_params m =
    flags_attr (codes "\\WR_PRIORITY_MASK") (lists.write_prio m.writes)
    ∷ flags_attr (codes "\\WR_WIDE_CONTINUATION") (lists.write_behind m.writes) ∷ []

-- in the order of the cell library
abbrev pub size_params : Mem → List Attr
size_params m = (name_params m ++ address_params m) ++ word_params m

abbrev pub read_params : Mem → List Attr
read_params m = (((read_clock_params m ++ read_mask_params m) ++ read_port_params m) ++ read_value_params m) ++ read_start_params m

abbrev pub write_params : Mem → List Attr
write_params m = write_clock_params m ++ write_port_params m

abbrev pub packed_params : Mem → List Attr
packed_params m = (size_params m ++ read_params m) ++ write_params m

-- ---- pins

abbrev pub input : List ℕ → List Bit → Pin
input name bits = record { name = name; drives = false; bits = bits }

abbrev pub output : List ℕ → List Bit → Pin
output name bits = record { name = name; drives = true; bits = bits }

unfoldable pub read_control_pins : Mem → List Pin
read_control_pins m = input (codes "\\RD_CLK") (lists.read_clocks m.reads) ∷ input (codes "\\RD_EN") (lists.read_en m.reads) ∷ []

unfoldable pub read_reset_pins : Mem → List Pin
read_reset_pins m = input (codes "\\RD_ARST") (lists.read_arst m.reads) ∷ input (codes "\\RD_SRST") (lists.read_srst m.reads) ∷ []

unfoldable pub read_word_pins : Mem → List Pin
read_word_pins m = input (codes "\\RD_ADDR") (lists.read_addr m.reads) ∷ output (codes "\\RD_DATA") (lists.read_words m.reads) ∷ []

unfoldable pub write_control_pins : Mem → List Pin
write_control_pins m = input (codes "\\WR_CLK") (lists.write_clocks m.writes) ∷ input (codes "\\WR_EN") (lists.write_en m.writes) ∷ []

unfoldable pub write_word_pins : Mem → List Pin
write_word_pins m = input (codes "\\WR_ADDR") (lists.write_addr m.writes) ∷ input (codes "\\WR_DATA") (lists.write_words m.writes) ∷ []

-- in the order of the cell library; the pins of a side without ports have no bits
abbrev pub read_pins : Mem → List Pin
read_pins m = (read_control_pins m ++ read_reset_pins m) ++ read_word_pins m

abbrev pub write_pins : Mem → List Pin
write_pins m = write_control_pins m ++ write_word_pins m

abbrev pub packed_pins : Mem → List Pin
packed_pins m = read_pins m ++ write_pins m

-- ---- the cell

-- its name is the memory's
unfoldable pub packed : Mem → MemPart
packed m = record { name = m.name; kind = codes "$mem_v2"; attrs = m.attrs; params = packed_params m; pins = packed_pins m }
