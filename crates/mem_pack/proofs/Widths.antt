-- The pins of the packed cell have the widths of its table.
use Rattle.std.proofs.Common.{zero, suc, Bool, true, false, List, [], ◌∷◌, ◌++◌, refl, subst}
use Rattle.std.specs.Prelude.{codes, nat_eq, if◌then◌else◌}
use Rattle.std.specs.List.{AllByRecursion as Every}
use Rattle.std.proofs.lemmas.Option.{same_Some}
use Rattle.net_core.specs.declared.mems.Mem.{Mem}
use Rattle.net_core.specs.declared.mems.RdPort.{RdPort}
use Rattle.net_core.specs.declared.mems.WrPort.{WrPort}
use Rattle.net_core.specs.Valid.{Each, MemFits, ReadFits}
use Rattle.mem_rows.specs.Pins as rows
use Rattle.mem_pack.specs.Lists as lists
use Rattle.mem_pack.specs.Packed as table
use Rattle.mem_pack.specs.Laws.{HasPin, packed_row, PackedHasPins}
use Rattle.mem_pack.proofs.Addresses.{all_addresses_length}
use Rattle.mem_pack.proofs.Pieces.{each_length, every, pieces_length}
use Rattle.mem_pack.proofs.ReadBack.{addr_fit, out_fit}
use Rattle.mem_pack.proofs.WriteBack.{addr_fit as write_addr_fit, en_fit, shapes, value_fit, WriteShape}

each_of : {X : Type 0} (P : X → Type 0) (xs : List X) → Every P xs → Each xs P
each_of P [] h i x e = absurd (cc)
each_of P (y ∷ ys) h zero x e = subst P (same_Some y x e) h.0
each_of P (y ∷ ys) h (suc i) x e = each_of P ys h.1 i x e

both : {X : Type 0} (P : X → Type 0) (xs ys : List X) → Every P xs → Every P ys → Every P (xs ++ ys)
both P [] ys h k = k
both P (x ∷ xs) ys h k = (h.0, both P xs ys h.1 k)

unless : {X : Type 0} (P : X → Type 0) (t : Bool) (xs : List X) → Every P xs → Every P (if t then [] else xs)
unless P true xs h = tt
unless P false xs h = h

controls : (m : Mem) → Every (HasPin (table.packed m).pins) (rows.read_clocks (packed_row m))
unfolding rows.read_clocks table.packed table.read_control_pins
controls m = (
  record { pin = table.input (codes "\\RD_CLK") (lists.read_clocks m.reads); named = refl; width = each_length (λ (r : RdPort). r.wide) (λ (r : RdPort). lists.bit_if_clocked r.clock) m.reads; drives = refl },
  (
    record { pin = table.input (codes "\\RD_EN") (lists.read_en m.reads); named = refl; width = each_length (λ (r : RdPort). r.wide) (λ (r : RdPort). r.en) m.reads; drives = refl },
    tt,
  ),
)

resets : (m : Mem) → Every (HasPin (table.packed m).pins) (rows.read_resets (packed_row m))
unfolding rows.read_resets table.packed table.read_control_pins table.read_reset_pins
resets m = (
  record { pin = table.input (codes "\\RD_ARST") (lists.read_arst m.reads); named = refl; width = each_length (λ (r : RdPort). r.wide) (λ (r : RdPort). r.arst) m.reads; drives = refl },
  (
    record { pin = table.input (codes "\\RD_SRST") (lists.read_srst m.reads); named = refl; width = each_length (λ (r : RdPort). r.wide) (λ (r : RdPort). r.srst) m.reads; drives = refl },
    tt,
  ),
)

words : (m : Mem) → Every (ReadFits m) m.reads → Every (HasPin (table.packed m).pins) (rows.read_words (packed_row m))
unfolding rows.read_words table.packed table.read_control_pins table.read_reset_pins table.read_word_pins
words m h = (
  record { pin = table.input (codes "\\RD_ADDR") (lists.read_addr m.reads); named = refl; width = all_addresses_length (λ (r : RdPort). r.wide) (λ (r : RdPort). r.addr) m.abits m.reads (addr_fit m m.reads h); drives = refl },
  (
    record { pin = table.output (codes "\\RD_DATA") (lists.read_words m.reads); named = refl; width = pieces_length (λ (r : RdPort). lists.net_bits r.out) (λ (r : RdPort). r.wide) m.width m.reads (out_fit m m.reads h); drives = refl },
    tt,
  ),
)

written : (m : Mem) → Every (WriteShape m) m.writes → Every (HasPin (table.packed m).pins) (rows.ports_that_write (packed_row m))
unfolding rows.ports_that_write table.packed table.read_control_pins table.read_reset_pins table.read_word_pins table.write_control_pins table.write_word_pins
written m h = (
  record { pin = table.input (codes "\\WR_CLK") (lists.write_clocks m.writes); named = refl; width = each_length (λ (w : WrPort). w.wide) (λ (w : WrPort). lists.clock_bit w.clock) m.writes; drives = refl },
  (
    record { pin = table.input (codes "\\WR_EN") (lists.write_en m.writes); named = refl; width = pieces_length (λ (w : WrPort). w.en) (λ (w : WrPort). w.wide) m.width m.writes (en_fit m m.writes h); drives = refl },
    (
      record { pin = table.input (codes "\\WR_ADDR") (lists.write_addr m.writes); named = refl; width = all_addresses_length (λ (w : WrPort). w.wide) (λ (w : WrPort). w.addr) m.abits m.writes (write_addr_fit m m.writes h); drives = refl },
      (
        record { pin = table.input (codes "\\WR_DATA") (lists.write_words m.writes); named = refl; width = pieces_length (λ (w : WrPort). w.value) (λ (w : WrPort). w.wide) m.width m.writes (value_fit m m.writes h); drives = refl },
        tt,
      ),
    ),
  ),
)

pins_of : (m : Mem) → MemFits m → Every (HasPin (table.packed m).pins) (rows.whole_pins (packed_row m))
pins_of m f =
    let P = HasPin (table.packed m).pins in
    let r = packed_row m in
    let reads = both P (rows.read_controls r) (rows.read_words r) (both P (rows.read_clocks r) (rows.read_resets r) (controls m) (resets m)) (words m (every (ReadFits m) m.reads f.reads)) in
    both P (rows.reading_pins r) (rows.writing_pins r) (unless P (nat_eq r.reads 0) (rows.ports_that_read r) reads) (unless P (nat_eq r.writes 0) (rows.ports_that_write r) (written m (shapes m f)))

pub packed_has_pins : PackedHasPins
packed_has_pins m p = each_of (HasPin (table.packed m).pins) (rows.whole_pins (packed_row m)) (pins_of m p.fits)
