-- The packed cell holds its memory.
use Rattle.std.proofs.Common.{◌≡◌, false, [], map, ◌∙◌, sym}
use Rattle.std.specs.List.{list_any}
use Rattle.std.proofs.lemmas.List.{map-id}
use Rattle.net_core.specs.declared.mems.Mem.{Mem}
use Rattle.net_core.specs.declared.mems.RdPort.{RdPort}
use Rattle.net_core.specs.declared.mems.WrPort.{WrPort}
use Rattle.net_core.specs.Valid.{MemFits, ReadFits}
use Rattle.mem_collect.specs.Unpacked as unpacked
use Rattle.mem_pack.specs.Lists as lists
use Rattle.mem_pack.specs.Packed as table
use Rattle.mem_pack.specs.Laws.{IsPackable, IsSmall, packed_row, UnpackedIsThere}
use Rattle.mem_pack.proofs.Pieces.{every}
use Rattle.mem_pack.proofs.Ports.{mapped, none_mapped, spans_of}
use Rattle.mem_pack.proofs.ReadBack.{none_back, read_back}
use Rattle.mem_pack.proofs.Small.{packable_is_small}
use Rattle.mem_pack.proofs.Views.{init_view, read_lists, read_ports_view, reading_view, write_lists, write_ports_view, writing_view}
use Rattle.mem_pack.proofs.WriteBack.{prio_fit, shapes, write_back}

reads_view : (m : Mem) → MemFits m → IsSmall m → unpacked.reads_of (packed_row m) (table.packed m) ≡ m.reads
reads_view m f s =
    let h = every (ReadFits m) m.reads f.reads in
    let ws = spans_of 0 (lists.write_wides m.writes) in
    (λ i. map (λ p. unpacked.read_of (packed_row m) (reading_view m h i) (write_ports_view m s i) p) (read_ports_view m s i))
    ∙ mapped (λ (r : RdPort). r.wide) (λ p. unpacked.read_of (packed_row m) (read_lists (lists.write_wides m.writes) m.reads) ws p) (λ r. r) [] m.reads (λ b p a e. read_back m b p a e h)
    ∙ map-id m.reads

writes_view : (m : Mem) → MemFits m → IsSmall m → unpacked.writes_of (packed_row m) (table.packed m) ≡ m.writes
writes_view m f s =
    let ws = spans_of 0 (lists.write_wides m.writes) in
    let writing = writing_view m (prio_fit m m.writes (shapes m f)) in
    (λ i. map (λ p. unpacked.write_of (packed_row m) (writing i) (write_ports_view m s i) p) (write_ports_view m s i))
    ∙ mapped (λ (w : WrPort). w.wide) (λ p. unpacked.write_of (packed_row m) (write_lists (lists.write_wides m.writes) m.writes) ws p) (λ w. w) [] m.writes (λ b p a e. write_back m b p a e f)
    ∙ map-id m.writes

overlap_view : (m : Mem) → MemFits m → IsSmall m → unpacked.overlap (packed_row m) (table.packed m) ≡ false
overlap_view m f s =
    let h = every (ReadFits m) m.reads f.reads in
    let ws = spans_of 0 (lists.write_wides m.writes) in
    (λ i. list_any (λ p. unpacked.some_both (packed_row m) (reading_view m h i) (write_ports_view m s i) p) (read_ports_view m s i))
    ∙ none_mapped (λ (r : RdPort). r.wide) (λ p. unpacked.some_both (packed_row m) (read_lists (lists.write_wides m.writes) m.reads) ws p) [] m.reads (λ b p a e. none_back m b p a e h)

mem_view : (m : Mem) → IsPackable m → unpacked.mem_of (packed_row m) (table.packed m) ≡ m
unfolding unpacked.mem_of table.packed
mem_view m p =
    let s = packable_is_small m p in
    λ i. record {
      name = m.name;
      attrs = m.attrs;
      width = m.width;
      size = m.size;
      offset = m.offset;
      abits = m.abits;
      init = init_view m p.fits.init i;
      reads = reads_view m p.fits s i;
      writes = writes_view m p.fits s i;
      origin = sym p.origin i;
      place = sym p.place i;
    }

pub unpacked_is_there : UnpackedIsThere
unpacked_is_there m p = (overlap_view m p.fits (packable_is_small m p), sym (mem_view m p))
