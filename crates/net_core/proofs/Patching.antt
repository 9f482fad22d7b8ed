-- A cell that touches none of some nets allows a wave that is patched there.
use Rattle.std.proofs.Common.{◌≡◌, ℕ, true, not, ◌&&◌, List, [], ◌∷◌, Option, Some, None, refl, sym}
use Rattle.std.specs.List.{list_all}
use Rattle.net_core.specs.declared.bits.Bit.{Bit}
use Rattle.net_core.specs.declared.bits.Clock.{Clock}
use Rattle.net_core.specs.declared.cells.Comb.{Comb}
use Rattle.net_core.specs.declared.cells.Reg.{Reg}
use Rattle.net_core.specs.declared.mems.Mem.{Mem}
use Rattle.net_core.specs.declared.mems.RdPort.{RdPort}
use Rattle.net_core.specs.declared.mems.WrPort.{WrPort}
use Rattle.net_core.specs.declared.rams.SlotUse.{SlotUse}
use Rattle.net_core.specs.declared.rams.RamCell.{RamCell}
use Rattle.net_core.specs.Values.{Wave}
use Rattle.net_core.specs.Alike.{SameBit, SameBits, SameNets, SamePlaces, SameClock, SameReadClock, CombsAlike, RegsAlike, ReadsAlike, WriteAlike, WritesAlike, MemsAlike, UseAlike, UsesAlike, RamsAlike}
use Rattle.net_core.specs.Simulation.{among, SameOff, bit_avoids, bits_avoid, nets_avoid, comb_avoids, reg_avoids, read_avoids, write_avoids, mem_avoids, slot_avoids, ram_avoids, read_outs_avoid, slot_outs_avoid, PatchedIsAllowed}
use Rattle.net_core.proofs.Basics.{and_left, and_right, not_true, all_at}
use Rattle.net_core.proofs.Refining.{value_off, values_off}
use Rattle.net_core.proofs.AlikeCells.{comb_alike, reg_alike, mem_alike}
use Rattle.net_core.proofs.AlikeRams.{ram_alike}

module _ (nets inputs : List ℕ) (v w : Wave) (same : (t : ℕ) → SameOff nets (v t) (w t)) where
  bit_off : (b : Bit) → bit_avoids nets b ≡ true → SameBit v w b b
  bit_off b h t = sym (value_off nets (v t) (w t) (same t) b h)

  bits_off : (bs : List Bit) → bits_avoid nets bs ≡ true → SameBits v w bs bs
  bits_off bs h t = sym (values_off nets (v t) (w t) (same t) bs h)

  nets_off : (ns : List ℕ) → nets_avoid nets ns ≡ true → SameNets v w ns ns
  nets_off ns h k o hk = (o, hk, λ t. sym (same t o (not_true (among nets o) (all_at (λ n. not (among nets n)) ns h k o hk))))

  places_off : (bs : List Bit) → bits_avoid nets bs ≡ true → SamePlaces v w bs bs
  places_off bs h k c hk = (c, hk, bit_off c (all_at (bit_avoids nets) bs h k c hk))

  clock_off : (c : Clock) → SameClock inputs inputs c c
  clock_off c e = refl

  read_clock_off : (c : Option Clock) → SameReadClock inputs inputs c c
  read_clock_off None = tt
  read_clock_off (Some c) = clock_off c

  comb_off : (c : Comb) → comb_avoids nets c ≡ true → nets_avoid nets c.y ≡ true → CombsAlike v w c c
  comb_off c h outs =
      let rest = and_right (bits_avoid nets c.a) (bits_avoid nets c.b && bits_avoid nets c.s) h in
      record {
        kind = refl;
        signed = refl;
        a = bits_off c.a (and_left (bits_avoid nets c.a) (bits_avoid nets c.b && bits_avoid nets c.s) h);
        b = bits_off c.b (and_left (bits_avoid nets c.b) (bits_avoid nets c.s) rest);
        s = bits_off c.s (and_right (bits_avoid nets c.b) (bits_avoid nets c.s) rest);
        width = refl;
        y = nets_off c.y outs;
      }

  reg_off : (r : Reg) → reg_avoids nets r ≡ true → nets_avoid nets r.q ≡ true → RegsAlike inputs inputs v w r r
  reg_off r h outs =
      let two = and_right (bit_avoids nets r.en) (bit_avoids nets r.arst && (bit_avoids nets r.srst && bits_avoid nets r.d)) h in
      let three = and_right (bit_avoids nets r.arst) (bit_avoids nets r.srst && bits_avoid nets r.d) two in
      record {
        kind = refl;
        clock = clock_off r.clock;
        en = bit_off r.en (and_left (bit_avoids nets r.en) (bit_avoids nets r.arst && (bit_avoids nets r.srst && bits_avoid nets r.d)) h);
        en_high = refl;
        arst = bit_off r.arst (and_left (bit_avoids nets r.arst) (bit_avoids nets r.srst && bits_avoid nets r.d) two);
        arst_high = refl;
        arst_value = refl;
        srst = bit_off r.srst (and_left (bit_avoids nets r.srst) (bits_avoid nets r.d) three);
        srst_high = refl;
        srst_value = refl;
        init = refl;
        d = places_off r.d (and_right (bit_avoids nets r.srst) (bits_avoid nets r.d) three);
        q = nets_off r.q outs;
      }

  read_off : (r : RdPort) → read_avoids nets r ≡ true → nets_avoid nets r.out ≡ true → ReadsAlike inputs inputs v w r r
  read_off r h outs =
      let two = and_right (bit_avoids nets r.en) (bit_avoids nets r.arst && (bit_avoids nets r.srst && bits_avoid nets r.addr)) h in
      let three = and_right (bit_avoids nets r.arst) (bit_avoids nets r.srst && bits_avoid nets r.addr) two in
      record {
        clock = read_clock_off r.clock;
        en = bit_off r.en (and_left (bit_avoids nets r.en) (bit_avoids nets r.arst && (bit_avoids nets r.srst && bits_avoid nets r.addr)) h);
        addr = bits_off r.addr (and_right (bit_avoids nets r.srst) (bits_avoid nets r.addr) three);
        out = nets_off r.out outs;
        arst = bit_off r.arst (and_left (bit_avoids nets r.arst) (bit_avoids nets r.srst && bits_avoid nets r.addr) two);
        srst = bit_off r.srst (and_left (bit_avoids nets r.srst) (bits_avoid nets r.addr) three);
        arst_value = refl;
        srst_value = refl;
        init_value = refl;
        ce_over_srst = refl;
        trans = refl;
        coll = refl;
      }

  write_off : (p : WrPort) → write_avoids nets p ≡ true → WriteAlike inputs inputs v w p p
  write_off p h =
      let rest = and_right (bits_avoid nets p.en) (bits_avoid nets p.addr && bits_avoid nets p.value) h in
      record {
        wide = refl;
        prio = refl;
        clock = clock_off p.clock;
        en = bits_off p.en (and_left (bits_avoid nets p.en) (bits_avoid nets p.addr && bits_avoid nets p.value) h);
        addr = bits_off p.addr (and_left (bits_avoid nets p.addr) (bits_avoid nets p.value) rest);
        value = bits_off p.value (and_right (bits_avoid nets p.addr) (bits_avoid nets p.value) rest);
      }

  writes_off : (ps : List WrPort) → list_all (write_avoids nets) ps ≡ true → WritesAlike inputs inputs v w ps ps
  writes_off [] h = tt
  writes_off (p ∷ ps) h = (write_off p (and_left (write_avoids nets p) (list_all (write_avoids nets) ps) h), writes_off ps (and_right (write_avoids nets p) (list_all (write_avoids nets) ps) h))

  mem_off : (x : Mem) → mem_avoids nets x ≡ true → read_outs_avoid nets x ≡ true → MemsAlike inputs inputs v w x x
  mem_off x h outs = record {
    width = refl;
    size = refl;
    offset = refl;
    init = refl;
    writes = writes_off x.writes (and_right (list_all (read_avoids nets) x.reads) (list_all (write_avoids nets) x.writes) h);
    reads = λ j r hr. (r, hr, read_off r (all_at (read_avoids nets) x.reads (and_left (list_all (read_avoids nets) x.reads) (list_all (write_avoids nets) x.writes) h) j r hr) (all_at (λ (p : RdPort). nets_avoid nets p.out) x.reads outs j r hr));
  }

  use_off : (s : SlotUse) → slot_avoids nets s ≡ true → nets_avoid nets s.out ≡ true → UseAlike inputs inputs v w s s
  use_off s h outs =
      let wrbe = bits_avoid nets s.wrbe in
      let wren = bits_avoid nets s.wren && wrbe in
      let value = bits_avoid nets s.value && wren in
      let addr = bits_avoid nets s.addr && value in
      let arst = bit_avoids nets s.arst && addr in
      let srst = bit_avoids nets s.srst && arst in
      let rden = bit_avoids nets s.rden && srst in
      let h2 = and_right (bit_avoids nets s.clken) rden h in
      let h3 = and_right (bit_avoids nets s.rden) srst h2 in
      let h4 = and_right (bit_avoids nets s.srst) arst h3 in
      let h5 = and_right (bit_avoids nets s.arst) addr h4 in
      let h6 = and_right (bits_avoid nets s.addr) value h5 in
      let h7 = and_right (bits_avoid nets s.value) wren h6 in
      record {
        used = refl;
        level = refl;
        clock = clock_off s.clock;
        clken = bit_off s.clken (and_left (bit_avoids nets s.clken) rden h);
        addr = bits_off s.addr (and_left (bits_avoid nets s.addr) value h5);
        rden = bit_off s.rden (and_left (bit_avoids nets s.rden) srst h2);
        srst = bit_off s.srst (and_left (bit_avoids nets s.srst) arst h3);
        arst = bit_off s.arst (and_left (bit_avoids nets s.arst) addr h4);
        out = nets_off s.out outs;
        value = bits_off s.value (and_left (bits_avoid nets s.value) wren h6);
        wren = bits_off s.wren (and_left (bits_avoid nets s.wren) wrbe h7);
        wrbe = bits_off s.wrbe (and_right (bits_avoid nets s.wren) wrbe h7);
        srst_value = refl;
        arst_value = refl;
        init_value = refl;
      }

  uses_off : (ss : List SlotUse) → list_all (slot_avoids nets) ss ≡ true → list_all (λ (s : SlotUse). nets_avoid nets s.out) ss ≡ true → UsesAlike inputs inputs v w ss ss
  uses_off [] h outs = tt
  uses_off (s ∷ ss) h outs =
      (use_off s (and_left (slot_avoids nets s) (list_all (slot_avoids nets) ss) h) (and_left (nets_avoid nets s.out) (list_all (λ (q : SlotUse). nets_avoid nets q.out) ss) outs), uses_off ss (and_right (slot_avoids nets s) (list_all (slot_avoids nets) ss) h) (and_right (nets_avoid nets s.out) (list_all (λ (q : SlotUse). nets_avoid nets q.out) ss) outs))

  ram_off : (c : RamCell) → ram_avoids nets c ≡ true → slot_outs_avoid nets c ≡ true → RamsAlike inputs inputs v w c c
  ram_off c h outs = record { slots = uses_off c.slots h outs; init = refl }

pub patched_is_allowed : PatchedIsAllowed
patched_is_allowed nets inputs events v w same = (
  λ c h outs. comb_alike events v w c c (comb_off nets inputs v w same c h outs),
  λ r h outs. reg_alike inputs inputs events v w r r (reg_off nets inputs v w same r h outs),
  λ x h outs. mem_alike inputs inputs events v w x x (mem_off nets inputs v w same x h outs),
  λ x c h outs. ram_alike inputs inputs v w events x c c (ram_off nets inputs v w same c h outs),
)
