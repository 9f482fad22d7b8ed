-- What the parameters of the memory cells say. (Yosys manual, memories: `$mem_v2`, `$memrd_v2`, `$memrd`, `$memwr_v2`,
-- `$meminit_v2`.)
use Rattle.std.specs.Prelude.{ℕ, Bool, true, false, not, ◌&&◌, ◌||◌, List, [], ◌∷◌, Option, Some, None, codes, nat_eq, get_or, if◌then◌else◌}
use Rattle.std.specs.List.{list_all}
use Rattle.lib_core.specs.declared.library.Tri.{Tri}
use Rattle.net_core.specs.declared.mems.Attr.{Attr}
use Rattle.net_core.specs.Valid.{is_identifier, is_white, is_there}
use Rattle.cell_consts.specs.Consts.{attr_bits}
use Rattle.cell_consts.specs.Params.{flag_at, named, number_at, polarity_at, text_at}
use Rattle.mem_rows.specs.Groups.{are_groups}
use Rattle.mem_rows.specs.declared.whole.WholeRow.{WholeRow}
use Rattle.mem_rows.specs.declared.separate.PortRow.{PortRow}
use Rattle.mem_rows.specs.declared.separate.InitRow.{InitRow}

-- ---- parameters

abbrev pub has : List Attr → List ℕ → Bool
has params name = is_there (named params name)

abbrev pub has_number : List Attr → List ℕ → Bool
has_number params name = is_there (number_at params name)

abbrev pub has_text : List Attr → List ℕ → Bool
has_text params name = is_there (text_at params name)

abbrev pub or_zero : Option ℕ → ℕ
or_zero None = 0
or_zero (Some n) = n

abbrev pub or_empty : Option (List ℕ) → List ℕ
or_empty None = []
or_empty (Some bytes) = bytes

abbrev pub bits_of_found : Option Attr → List Tri
bits_of_found None = []
bits_of_found (Some a) = attr_bits a

abbrev pub number : List Attr → List ℕ → ℕ
number params name = or_zero (number_at params name)

abbrev pub text : List Attr → List ℕ → List ℕ
text params name = or_empty (text_at params name)

abbrev pub bits : List Attr → List ℕ → List Tri
bits params name = bits_of_found (named params name)

-- a number that is there and not 0
abbrev pub has_some : List Attr → List ℕ → Bool
has_some params name = has_number params name && not (nat_eq (number params name) 0)

-- a flag that is there, and one that is set
abbrev pub has_flag : List Attr → List ℕ → Bool
has_flag params name = is_there (flag_at params name)

abbrev pub or_false : Option Bool → Bool
or_false None = false
or_false (Some b) = b

abbrev pub is_set : List Attr → List ℕ → Bool
is_set params name = or_false (flag_at params name)

-- ---- a cell that holds a whole memory

unfoldable pub has_sizes : List Attr → Bool
has_sizes params =
    has_some params (codes "\\SIZE") && has_number params (codes "\\OFFSET") && has_number params (codes "\\ABITS") && has_some params (codes "\\WIDTH")
    && has_number params (codes "\\RD_PORTS") && has_number params (codes "\\WR_PORTS")

unfoldable pub has_read_flags : List Attr → Bool
has_read_flags params =
    has params (codes "\\RD_CLK_ENABLE") && has params (codes "\\RD_CLK_POLARITY") && has params (codes "\\RD_TRANSPARENCY_MASK")
    && has params (codes "\\RD_COLLISION_X_MASK") && has params (codes "\\RD_WIDE_CONTINUATION") && has params (codes "\\RD_CE_OVER_SRST")

unfoldable pub has_read_values : List Attr → Bool
has_read_values params = has params (codes "\\RD_ARST_VALUE") && has params (codes "\\RD_SRST_VALUE") && has params (codes "\\RD_INIT_VALUE")

unfoldable pub has_write_flags : List Attr → Bool
has_write_flags params =
    has params (codes "\\WR_CLK_ENABLE") && has params (codes "\\WR_CLK_POLARITY") && has params (codes "\\WR_PRIORITY_MASK") && has params (codes "\\WR_WIDE_CONTINUATION")

-- the contents are no string
unfoldable pub has_contents : List Attr → Bool
has_contents params = has_flag params (codes "\\INIT")

abbrev pub is_white_byte : ℕ → Bool
is_white_byte b = is_white b

abbrev pub has_no_white : List ℕ → Bool
has_no_white bytes = list_all (λ b. not (is_white b)) bytes

abbrev pub is_name : List ℕ → Bool
is_name bytes = is_identifier bytes

-- the name of the memory is one that a memory can have
unfoldable pub has_memory_name : List Attr → Bool
has_memory_name params = has_text params (codes "\\MEMID") && is_name (text params (codes "\\MEMID"))

-- every parameter is there, numbers where they are wanted
unfoldable pub has_all : List Attr → Bool
has_all params = has_memory_name params && has_contents params && has_sizes params && has_read_flags params && has_read_values params && has_write_flags params

-- the port numbers of both sides make ports
unfoldable pub has_groups : List Attr → Bool
has_groups params =
    are_groups (number params (codes "\\RD_PORTS")) (bits params (codes "\\RD_WIDE_CONTINUATION"))
    && are_groups (number params (codes "\\WR_PORTS")) (bits params (codes "\\WR_WIDE_CONTINUATION"))

unfoldable pub whole_fields : List Attr → WholeRow
whole_fields params = record {
  name = text params (codes "\\MEMID");
  size = number params (codes "\\SIZE");
  offset = number params (codes "\\OFFSET");
  abits = number params (codes "\\ABITS");
  width = number params (codes "\\WIDTH");
  reads = number params (codes "\\RD_PORTS");
  writes = number params (codes "\\WR_PORTS");
}

abbrev pub whole_row : List Attr → Option WholeRow
whole_row params = if has_all params && has_groups params then Some (whole_fields params) else None

-- ---- cells of their own for ports and for contents

-- name, address and width of a part
unfoldable pub has_place : List Attr → Bool
has_place params = has_text params (codes "\\MEMID") && has_number params (codes "\\ABITS") && has_some params (codes "\\WIDTH")

unfoldable pub has_clock : List Attr → Bool
has_clock params = has_flag params (codes "\\CLK_ENABLE") && is_there (polarity_at params (codes "\\CLK_POLARITY"))

unfoldable pub port_fields : List Attr → PortRow
port_fields params = record {
  name = text params (codes "\\MEMID");
  abits = number params (codes "\\ABITS");
  width = number params (codes "\\WIDTH");
  clocked = is_set params (codes "\\CLK_ENABLE");
  rising = or_false (polarity_at params (codes "\\CLK_POLARITY"));
}

unfoldable pub has_read_lists : List Attr → Bool
has_read_lists params =
    has params (codes "\\TRANSPARENCY_MASK") && has params (codes "\\COLLISION_X_MASK") && has params (codes "\\ARST_VALUE")
    && has params (codes "\\SRST_VALUE") && has params (codes "\\INIT_VALUE") && has_flag params (codes "\\CE_OVER_SRST")

-- `$memrd_v2`
abbrev pub read_row : List Attr → Option PortRow
read_row params = if has_place params && has_clock params && has_read_lists params then Some (port_fields params) else None

-- `$memrd`, which is known without a clock alone
abbrev pub takes_no_clock : List Attr → Bool
takes_no_clock params = not (is_set params (codes "\\CLK_ENABLE")) && not (is_set params (codes "\\TRANSPARENT"))

abbrev pub old_read_row : List Attr → Option PortRow
old_read_row params = if has_place params && has_clock params && has_flag params (codes "\\TRANSPARENT") then Some (port_fields params) else None

-- `$memwr_v2`
abbrev pub write_row : List Attr → Option PortRow
write_row params = if has_place params && has_clock params && has_number params (codes "\\PORTID") && has params (codes "\\PRIORITY_MASK") then Some (port_fields params) else None

unfoldable pub init_fields : List Attr → InitRow
init_fields params = record {
  name = text params (codes "\\MEMID");
  abits = number params (codes "\\ABITS");
  width = number params (codes "\\WIDTH");
  words = number params (codes "\\WORDS");
  priority = number params (codes "\\PRIORITY");
}

-- `$meminit_v2`
abbrev pub init_row : List Attr → Option InitRow
init_row params = if has_place params && has_number params (codes "\\WORDS") && has_number params (codes "\\PRIORITY") then Some (init_fields params) else None
