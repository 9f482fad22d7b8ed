-- A read port, found again in the packed cell.
use Rattle.std.proofs.Common.{◌≡◌, ℕ, suc, ◌*◌, ◌^◌, Bool, true, false, List, [], ◌∷◌, ◌++◌, map, replicate, length, Option, Some, None, refl, ap, ◌∙◌, sym, subst}
use Rattle.std.specs.Prelude.{◌&&◌, if◌then◌else◌}
use Rattle.std.specs.List.{AllByRecursion as Every, flat_map, list_any}
use Rattle.std.proofs.Math.Nat.{mul_comm}
use Rattle.std.proofs.lemmas.List.{length-map}
use Rattle.lib_core.specs.declared.library.Tri.{Tri}
use Rattle.lib_core.specs.declared.library.Tri.TheVariants as tri
use Rattle.net_core.specs.declared.bits.Bit.TheVariants.{Zero}
use Rattle.net_core.specs.declared.bits.Clock.{Clock}
use Rattle.net_core.specs.declared.bits.Clock.TheVariants.{Root, Never}
use Rattle.net_core.specs.declared.mems.Mem.{Mem}
use Rattle.net_core.specs.declared.mems.RdPort.{RdPort}
use Rattle.net_core.specs.Ports.{nets_of}
use Rattle.net_core.specs.Valid.{NoneDefined, ReadFits, is_there}
use Rattle.net_core.specs.Values.{bit_at}
use Rattle.mem_collect.specs.Pieces.{clock_of}
use Rattle.mem_collect.specs.declared.spans.PortSpan.{PortSpan}
use Rattle.mem_collect.specs.Unpacked as unpacked
use Rattle.mem_pack.specs.Numbers.{numbers}
use Rattle.mem_pack.specs.Lists as lists
use Rattle.mem_pack.specs.Laws.{packed_row}
use Rattle.mem_pack.proofs.Addresses.{address_back}
use Rattle.mem_pack.proofs.Masks.{mask_back, none_both}
use Rattle.mem_pack.proofs.Pieces.{every_at, every_front, every_weaker, item, piece, pieces_length}
use Rattle.mem_pack.proofs.Ports.{span_at, spans_length, spans_of}
use Rattle.mem_pack.proofs.Views.{arst_fit, coll_fit, init_fit, read_lists, srst_fit, trans_fit, wides_length}

pub clock_back : (c : Clock) → clock_of (lists.clock_bit c) (lists.clock_rises c) ≡ c
clock_back (Root net rising) = refl
clock_back Never = refl

nets_back : (nets : List ℕ) → nets_of (lists.net_bits nets) ≡ nets
nets_back [] = refl
nets_back (n ∷ ns) = ap (λ xs. n ∷ xs) (nets_back ns)

open_back : (vs : List Tri) (n : ℕ) → NoneDefined vs → length vs ≡ n → replicate n tri.Any ≡ vs
open_back [] n h e = ap (λ k. replicate k tri.Any) (sym e)
open_back (v ∷ vs) n h e = ap (λ k. replicate k tri.Any) (sym e) ∙ (λ i. sym (h 0 v refl) i ∷ open_back vs (length vs) (λ k t f. h (suc k) t f) refl i)

clear_back : (bs : List Bool) (n : ℕ) → list_any (λ b. b) bs ≡ false → length bs ≡ n → replicate n false ≡ bs
clear_back [] n h e = ap (λ k. replicate k false) (sym e)
clear_back (true ∷ bs) n h e = absurd (cc)
clear_back (false ∷ bs) n h e = ap (λ k. replicate k false) (sym e) ∙ ap (λ xs. false ∷ xs) (clear_back bs (length bs) h refl)

-- ---- what stands at one read

abbrev at : List RdPort → RdPort → PortSpan
at b p = span_at (numbers (lists.read_wides b)) p.wide

pub out_fit : (m : Mem) (rs : List RdPort) → Every (ReadFits m) rs → Every (λ (r : RdPort). length (lists.net_bits r.out) ≡ 2 ^ r.wide * m.width) rs
out_fit m rs h = every_weaker (ReadFits m) _ (λ r f. length-map r.out _ ∙ f.out ∙ mul_comm m.width (2 ^ r.wide)) rs h

pub addr_fit : (m : Mem) (rs : List RdPort) → Every (ReadFits m) rs → Every (λ (r : RdPort). length r.addr ≡ m.abits) rs
addr_fit m rs h = every_weaker (ReadFits m) _ (λ r f. f.addr.0) rs h

values_at : (m : Mem) (g : RdPort → List Tri) (b : List RdPort) (p : RdPort) (a : List RdPort) → Every (λ (r : RdPort). length (g r) ≡ 2 ^ r.wide * m.width) (b ++ p ∷ a)
    → unpacked.words_of (packed_row m) (at b p) (flat_map g (b ++ p ∷ a)) ≡ g p
values_at m g b p a h =
    piece g b p a (numbers (lists.read_wides b) * m.width) (2 ^ p.wide * m.width)
    (pieces_length g (λ (r : RdPort). r.wide) m.width b (every_front _ b (p ∷ a) h)) (every_at _ b p a h)

out_at : (m : Mem) (b : List RdPort) (p : RdPort) (a : List RdPort) → Every (ReadFits m) (b ++ p ∷ a) → nets_of (unpacked.words_of (packed_row m) (at b p) (lists.read_words (b ++ p ∷ a))) ≡ p.out
out_at m b p a h =
    let g = λ (r : RdPort). lists.net_bits r.out in
    let f = out_fit m (b ++ p ∷ a) h in
    ap nets_of (piece g b p a (numbers (lists.read_wides b) * m.width) (2 ^ p.wide * m.width)
    (pieces_length g (λ (r : RdPort). r.wide) m.width b (every_front _ b (p ∷ a) f)) (every_at _ b p a f))
    ∙ nets_back p.out

addr_at : (m : Mem) (b : List RdPort) (p : RdPort) (a : List RdPort) → Every (ReadFits m) (b ++ p ∷ a) → unpacked.address_of (packed_row m) (at b p) (lists.read_addr (b ++ p ∷ a)) ≡ p.addr
addr_at m b p a h =
    let f = addr_fit m (b ++ p ∷ a) h in
    let here = every_at (ReadFits m) b p a h in
    address_back (λ (r : RdPort). r.wide) (λ (r : RdPort). r.addr) m.abits b p a (every_front _ b (p ∷ a) f) here.addr.0 here.addr.1

trans_at : (m : Mem) (b : List RdPort) (p : RdPort) (a : List RdPort) → Every (ReadFits m) (b ++ p ∷ a)
    → unpacked.masks (packed_row m) (spans_of 0 (lists.write_wides m.writes)) (lists.read_trans (lists.write_wides m.writes) (b ++ p ∷ a)) (at b p) ≡ p.trans
unfolding lists.read_trans
trans_at m b p a h =
    let f = trans_fit m (b ++ p ∷ a) h in
    mask_back (λ (r : RdPort). r.wide) (λ (r : RdPort). r.trans) (lists.write_wides m.writes) b p a (every_front _ b (p ∷ a) f) (every_at _ b p a f)

coll_at : (m : Mem) (b : List RdPort) (p : RdPort) (a : List RdPort) → Every (ReadFits m) (b ++ p ∷ a)
    → unpacked.masks (packed_row m) (spans_of 0 (lists.write_wides m.writes)) (lists.read_coll (lists.write_wides m.writes) (b ++ p ∷ a)) (at b p) ≡ p.coll
unfolding lists.read_coll
coll_at m b p a h =
    let f = coll_fit m (b ++ p ∷ a) h in
    mask_back (λ (r : RdPort). r.wide) (λ (r : RdPort). r.coll) (lists.write_wides m.writes) b p a (every_front _ b (p ∷ a) f) (every_at _ b p a f)

-- ---- the port

clocked_back : (m : Mem) (b : List RdPort) (p : RdPort) (a : List RdPort) (c : Clock) → p.clock ≡ Some c → Every (ReadFits m) (b ++ p ∷ a)
    → unpacked.clocked_read (packed_row m) (read_lists (lists.write_wides m.writes) (b ++ p ∷ a)) (spans_of 0 (lists.write_wides m.writes)) (at b p) ≡ p
unfolding unpacked.clocked_read
clocked_back m b p a c e h =
    let w = λ (r : RdPort). r.wide in
    let bit = item w (λ (r : RdPort). lists.bit_if_clocked r.clock) b p a Zero ∙ ap lists.bit_if_clocked e in
    let edge = item w (λ (r : RdPort). lists.rises_if_clocked r.clock) b p a false ∙ ap lists.rises_if_clocked e in
    let clock = (λ i. Some (clock_of (bit i) (edge i))) ∙ ap (λ k. Some k) (clock_back c) ∙ sym e in
    λ i. record {
      wide = p.wide;
      clock = clock i;
      en = item w (λ (r : RdPort). r.en) b p a Zero i;
      addr = addr_at m b p a h i;
      out = out_at m b p a h i;
      arst = item w (λ (r : RdPort). r.arst) b p a Zero i;
      srst = item w (λ (r : RdPort). r.srst) b p a Zero i;
      arst_value = values_at m (λ (r : RdPort). r.arst_value) b p a (arst_fit m (b ++ p ∷ a) h) i;
      srst_value = values_at m (λ (r : RdPort). r.srst_value) b p a (srst_fit m (b ++ p ∷ a) h) i;
      init_value = values_at m (λ (r : RdPort). r.init_value) b p a (init_fit m (b ++ p ∷ a) h) i;
      ce_over_srst = item w (λ (r : RdPort). r.ce_over_srst) b p a false i;
      trans = trans_at m b p a h i;
      coll = coll_at m b p a h i;
    }

direct_back : (m : Mem) (b : List RdPort) (p : RdPort) (a : List RdPort) → p.clock ≡ None → Every (ReadFits m) (b ++ p ∷ a)
    → unpacked.direct_read (packed_row m) (read_lists (lists.write_wides m.writes) (b ++ p ∷ a)) (spans_of 0 (lists.write_wides m.writes)) (at b p) ≡ p
unfolding unpacked.direct_read
direct_back m b p a e h =
    let f = every_at (ReadFits m) b p a h in
    let once = f.at_once e in
    let count = spans_length 0 (lists.write_wides m.writes) ∙ wides_length m in
    let size = mul_comm m.width (2 ^ p.wide) in
    λ i. record {
      wide = p.wide;
      clock = sym e i;
      en = sym once.en i;
      addr = addr_at m b p a h i;
      out = out_at m b p a h i;
      arst = sym once.arst i;
      srst = sym once.srst i;
      arst_value = open_back p.arst_value (2 ^ p.wide * m.width) once.arst_value (f.arst_value ∙ size) i;
      srst_value = open_back p.srst_value (2 ^ p.wide * m.width) once.srst_value (f.srst_value ∙ size) i;
      init_value = open_back p.init_value (2 ^ p.wide * m.width) once.init_value (f.init_value ∙ size) i;
      ce_over_srst = sym once.order i;
      trans = clear_back p.trans (length (spans_of 0 (lists.write_wides m.writes))) once.trans (f.trans ∙ sym count) i;
      coll = clear_back p.coll (length (spans_of 0 (lists.write_wides m.writes))) once.coll (f.coll ∙ sym count) i;
    }

by_clock : (m : Mem) (b : List RdPort) (p : RdPort) (a : List RdPort) (clock : Option Clock) → p.clock ≡ clock → Every (ReadFits m) (b ++ p ∷ a)
    → unpacked.read_of (packed_row m) (read_lists (lists.write_wides m.writes) (b ++ p ∷ a)) (spans_of 0 (lists.write_wides m.writes)) (at b p) ≡ p
by_clock m b p a (Some c) e h =
    let set = item (λ (r : RdPort). r.wide) (λ (r : RdPort). is_there r.clock) b p a false ∙ ap is_there e in
    ap (λ t. if t
    then unpacked.clocked_read (packed_row m) (read_lists (lists.write_wides m.writes) (b ++ p ∷ a)) (spans_of 0 (lists.write_wides m.writes)) (at b p)
    else unpacked.direct_read (packed_row m) (read_lists (lists.write_wides m.writes) (b ++ p ∷ a)) (spans_of 0 (lists.write_wides m.writes)) (at b p)) set
    ∙ clocked_back m b p a c e h
by_clock m b p a None e h =
    let set = item (λ (r : RdPort). r.wide) (λ (r : RdPort). is_there r.clock) b p a false ∙ ap is_there e in
    ap (λ t. if t
    then unpacked.clocked_read (packed_row m) (read_lists (lists.write_wides m.writes) (b ++ p ∷ a)) (spans_of 0 (lists.write_wides m.writes)) (at b p)
    else unpacked.direct_read (packed_row m) (read_lists (lists.write_wides m.writes) (b ++ p ∷ a)) (spans_of 0 (lists.write_wides m.writes)) (at b p)) set
    ∙ direct_back m b p a e h

pub read_back : (m : Mem) (b : List RdPort) (p : RdPort) (a : List RdPort) → b ++ p ∷ a ≡ m.reads → Every (ReadFits m) m.reads
    → unpacked.read_of (packed_row m) (read_lists (lists.write_wides m.writes) m.reads) (spans_of 0 (lists.write_wides m.writes)) (span_at (numbers (map (λ (r : RdPort). r.wide) b)) p.wide) ≡ p
read_back m b p a e h =
    ap (λ rs. unpacked.read_of (packed_row m) (read_lists (lists.write_wides m.writes) rs) (spans_of 0 (lists.write_wides m.writes)) (at b p)) (sym e)
    ∙ by_clock m b p a p.clock refl (subst (λ rs. Every (ReadFits m) rs) (sym e) h)

-- ---- no read has both masks

none_here : (m : Mem) (b : List RdPort) (p : RdPort) (a : List RdPort) → Every (ReadFits m) (b ++ p ∷ a)
    → unpacked.some_both (packed_row m) (read_lists (lists.write_wides m.writes) (b ++ p ∷ a)) (spans_of 0 (lists.write_wides m.writes)) (at b p) ≡ false
none_here m b p a h =
    let f = every_at (ReadFits m) b p a h in
    let trans = trans_at m b p a h in
    let coll = coll_at m b p a h in
    none_both (λ w. unpacked.mask_bit (packed_row m) (lists.read_trans (lists.write_wides m.writes) (b ++ p ∷ a)) (at b p) w)
    (λ w. unpacked.mask_bit (packed_row m) (lists.read_coll (lists.write_wides m.writes) (b ++ p ∷ a)) (at b p) w)
    (spans_of 0 (lists.write_wides m.writes))
    (λ j. (λ i. bit_at (trans i) j && bit_at (coll i) j) ∙ f.one_mask j)

pub none_back : (m : Mem) (b : List RdPort) (p : RdPort) (a : List RdPort) → b ++ p ∷ a ≡ m.reads → Every (ReadFits m) m.reads
    → unpacked.some_both (packed_row m) (read_lists (lists.write_wides m.writes) m.reads) (spans_of 0 (lists.write_wides m.writes)) (span_at (numbers (map (λ (r : RdPort). r.wide) b)) p.wide) ≡ false
none_back m b p a e h =
    ap (λ rs. unpacked.some_both (packed_row m) (read_lists (lists.write_wides m.writes) rs) (spans_of 0 (lists.write_wides m.writes)) (at b p)) (sym e)
    ∙ none_here m b p a (subst (λ rs. Every (ReadFits m) rs) (sym e) h)
