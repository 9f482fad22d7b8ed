-- Logic cells, registers and cells that are kept as they are, over the bits of places.
use Rattle.std.specs.Prelude.{ℕ, Bool, List, [], map, get_or, codes, if◌then◌else◌}
use Rattle.lib_core.specs.declared.library.Tri.{Tri}
use Rattle.lib_core.specs.declared.library.Tri.TheVariants.{Any}
use Rattle.net_core.specs.declared.bits.Bit.{Bit}
use Rattle.net_core.specs.declared.cells.Carried.{Carried}
use Rattle.net_core.specs.declared.cells.Comb.{Comb}
use Rattle.net_core.specs.declared.cells.Pin.{Pin}
use Rattle.net_core.specs.declared.cells.Reg.{Reg}
use Rattle.net_core.specs.Cells.{has_arst, has_srst}
use Rattle.net_core.specs.Ports.{nets_of}
use Rattle.cell_consts.specs.Consts.{fitted}
use Rattle.cell_rows.specs.declared.comb.CombRow.{CombRow}
use Rattle.cell_rows.specs.declared.reg.RegRow.{RegRow}
use Rattle.net_wires.specs.declared.clock.ClockRoot.{ClockRoot}
use Rattle.raw_cells.specs.declared.raw.Kept.{Kept}
use Rattle.raw_cells.specs.declared.raw.RawPin.{RawPin}
use Rattle.net_cells.specs.declared.cells.Data.{Data}
use Rattle.net_cells.specs.declared.cells.Values.{Values}
use Rattle.raw_cells.specs.Bits.{bit_at, bits_at, bits_of}
use Rattle.raw_cells.specs.Clocks.{clock_at}

unfoldable pub comb_of : List Bit → List ℕ → CombRow → List RawPin → Comb
comb_of places name row pins = record {
  name = name;
  kind = row.kind;
  signed = row.a_signed;
  a = bits_at places pins (codes "\\A");
  b = bits_at places pins (codes "\\B");
  s = bits_at places pins (codes "\\S");
  y = nets_of (bits_at places pins (codes "\\Y"));
}

-- a value of a register that has the reset: a bit for each bit of the register
abbrev pub value_if : Bool → ℕ → List Tri → List Tri
value_if has width bits = if has then fitted width bits else []

-- what to reset to
abbrev pub values_of : RegRow → Values
values_of row = record {
  arst = value_if (has_arst row.kind) row.controls.width row.arst_value;
  srst = value_if (has_srst row.kind) row.controls.width row.srst_value;
}

abbrev pub start_at : List Tri → ℕ → Tri
start_at starts n = get_or starts n Any

abbrev pub starts_at : List Tri → List ℕ → List Tri
starts_at starts nets = map (λ n. start_at starts n) nets

-- the data, with what they are at the start
abbrev pub data_of : List Bit → List Tri → List RawPin → Data
data_of places starts pins = record {
  d = bits_at places pins (codes "\\D");
  q = nets_of (bits_at places pins (codes "\\Q"));
  init = starts_at starts (nets_of (bits_at places pins (codes "\\Q")));
}

-- starts: the value at the start of each net
unfoldable pub reg_of : List Bit → List ClockRoot → List Tri → List ℕ → RegRow → List RawPin → Reg
reg_of places roots starts name row pins = record {
  name = name;
  kind = row.kind;
  clock = clock_at places roots pins (codes "\\CLK") row.controls.rising;
  en = bit_at places pins (codes "\\EN");
  en_high = row.controls.en_high;
  arst = bit_at places pins (codes "\\ARST");
  arst_high = row.controls.arst_high;
  arst_value = (values_of row).arst;
  srst = bit_at places pins (codes "\\SRST");
  srst_high = row.controls.srst_high;
  srst_value = (values_of row).srst;
  d = (data_of places starts pins).d;
  q = (data_of places starts pins).q;
  init = (data_of places starts pins).init;
}

abbrev pub pin_of : List Bit → RawPin → Pin
pin_of places p = record { name = p.name; drives = p.drives; bits = bits_of places p.bits }

abbrev pub pins_of : List Bit → List RawPin → List Pin
pins_of places pins = map (pin_of places) pins

unfoldable pub carried_of : List Bit → List ℕ → Kept → List RawPin → Carried
carried_of places name kept pins = record { name = name; kind = kept.kind; attrs = kept.attrs; params = kept.params; pins = pins_of places pins }
