-- The ports of a declared memory, from cells of their own. (Yosys manual, memories: `$memrd_v2`, `$memrd`, `$memwr_v2`.)
use Rattle.std.specs.Prelude.{ℕ, zero, suc, ◌+◌, ◌-◌, ◌*◌, ◌/◌, Bool, false, List, [], ◌∷◌, ◌++◌, length, map, take, replicate, get_or, Some, None, codes, nat_eq, if◌then◌else◌}
use Rattle.lib_core.specs.declared.library.Tri.{Tri}
use Rattle.lib_core.specs.declared.library.Tri.TheVariants.{Any}
use Rattle.net_core.specs.declared.bits.Bit.{Bit}
use Rattle.net_core.specs.declared.bits.Bit.TheVariants.{Zero, One}
use Rattle.net_core.specs.declared.mems.RdPort.{RdPort}
use Rattle.net_core.specs.declared.mems.WrPort.{WrPort}
use Rattle.net_core.specs.declared.modules.MemPart.{MemPart}
use Rattle.net_core.specs.Ports.{nets_of}
use Rattle.net_core.specs.Valid.{is_one_digit}
use Rattle.cell_consts.specs.Consts.{fitted}
use Rattle.mem_rows.specs.Rows.{bits, is_set}
use Rattle.mem_rows.specs.declared.separate.PortRow.{PortRow}
use Rattle.mem_collect.specs.Pieces.{address, bit_or_zero, clock_of, pin_bits}
use Rattle.mem_collect.specs.Spans.{wide_of}
use Rattle.net_collect.specs.declared.ports.Frame.{Frame}
use Rattle.net_collect.specs.declared.sides.ReadCell.{ReadCell}
use Rattle.net_collect.specs.declared.sides.WriteCell.{WriteCell}

-- a port of 2 to this power words of a width
abbrev pub wide_over : ℕ → ℕ → ℕ
wide_over zero port = 0
wide_over (suc n) port = if nat_eq (suc n * (port / suc n)) port then wide_of (port / suc n) else 0

-- an address that is too short has 0 above
abbrev pub padded : ℕ → List Bit → List Bit
padded abits addr = addr ++ replicate (abits - length addr) Zero

-- the address of a port: padded, and its low bits 0 where the port has several words
abbrev pub port_address : Frame → PortRow → MemPart → List Bit
port_address f r p = address (wide_over f.width r.width) (padded f.abits (pin_bits p.pins (codes "\\ADDR")))

-- the bit of a pin of one bit
abbrev pub pin_bit : MemPart → List ℕ → Bit
pin_bit p name = bit_or_zero (pin_bits p.pins name) 0

abbrev pub mask_bit : List Tri → ℕ → Bool
mask_bit mask id = is_one_digit (get_or mask id Any)

-- the bits of a mask, which are numbered by PORTID, for the writes of these numbers; a missing or open bit is not set
abbrev pub mask_at : List Tri → List ℕ → List Bool
mask_at mask ids = map (λ id. mask_bit mask id) ids

abbrev pub port_mask : MemPart → List ℕ → List ℕ → List Bool
port_mask p name ids = mask_at (bits p.params name) ids

abbrev pub port_value : PortRow → MemPart → List ℕ → List Tri
port_value r p name = fitted r.width (bits p.params name)

unfoldable pub clocked_read : Frame → PortRow → MemPart → RdPort
clocked_read f r p = record {
  wide = wide_over f.width r.width;
  clock = Some (clock_of (pin_bit p (codes "\\CLK")) r.rising);
  en = pin_bit p (codes "\\EN");
  addr = port_address f r p;
  out = nets_of (pin_bits p.pins (codes "\\DATA"));
  arst = pin_bit p (codes "\\ARST");
  srst = pin_bit p (codes "\\SRST");
  arst_value = port_value r p (codes "\\ARST_VALUE");
  srst_value = port_value r p (codes "\\SRST_VALUE");
  init_value = port_value r p (codes "\\INIT_VALUE");
  ce_over_srst = is_set p.params (codes "\\CE_OVER_SRST");
  trans = port_mask p (codes "\\TRANSPARENCY_MASK") f.ids;
  coll = port_mask p (codes "\\COLLISION_X_MASK") f.ids;
}

abbrev pub open_value : PortRow → List Tri
open_value r = replicate r.width Any

abbrev pub no_mask : List ℕ → List Bool
no_mask ids = replicate (length ids) false

-- a read without a clock has no enable, no resets and no start value
unfoldable pub direct_read : Frame → PortRow → MemPart → RdPort
direct_read f r p = record {
  wide = wide_over f.width r.width;
  clock = None;
  en = One;
  addr = port_address f r p;
  out = nets_of (pin_bits p.pins (codes "\\DATA"));
  arst = Zero;
  srst = Zero;
  arst_value = open_value r;
  srst_value = open_value r;
  init_value = open_value r;
  ce_over_srst = false;
  trans = no_mask f.ids;
  coll = no_mask f.ids;
}

abbrev pub read_port : Frame → ReadCell → RdPort
read_port f c = if c.clocked then clocked_read f c.row c.part else direct_read f c.row c.part

abbrev pub reads_of : Frame → List ReadCell → List RdPort
reads_of f cells = map (λ c. read_port f c) cells

-- the write at a place wins over those before it whose bits are set, and over no other
abbrev pub priorities : ℕ → List Tri → List ℕ → List Bool
priorities place mask ids = mask_at mask (take place ids) ++ replicate (length ids - place) false

unfoldable pub write_port : Frame → ℕ → WriteCell → WrPort
write_port f place c = record {
  wide = wide_over f.width c.row.width;
  clock = clock_of (pin_bit c.part (codes "\\CLK")) c.row.rising;
  en = pin_bits c.part.pins (codes "\\EN");
  addr = port_address f c.row c.part;
  value = pin_bits c.part.pins (codes "\\DATA");
  prio = priorities place (bits c.part.params (codes "\\PRIORITY_MASK")) f.ids;
}

-- the first of these writes stands at a place
abbrev pub writes_from : Frame → ℕ → List WriteCell → List WrPort
writes_from f place [] = []
writes_from f place (c ∷ cs) = write_port f place c ∷ writes_from f (place + 1) cs
