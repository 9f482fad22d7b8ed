-- A write port, found again in the packed cell.
use Rattle.std.proofs.Common.{◌≡◌, ℕ, ◌+◌, ◌*◌, ◌^◌, ◌≤◌, false, List, ◌∷◌, ◌++◌, map, length, Some, ap, ◌∙◌, sym, subst, arith}
use Rattle.std.specs.Prelude.{◌&&◌, nat_lt, slice_get}
use Rattle.std.specs.List.{AllByRecursion as Every, flat_map}
use Rattle.std.proofs.Math.Nat.{mul_comm}
use Rattle.std.proofs.lemmas.List.{length-map, map-append}
use Rattle.net_core.specs.declared.bits.Bit.{Bit}
use Rattle.net_core.specs.declared.bits.Bit.TheVariants.{Zero}
use Rattle.net_core.specs.declared.mems.Mem.{Mem}
use Rattle.net_core.specs.declared.mems.WrPort.{WrPort}
use Rattle.net_core.specs.Valid.{AddressFits, MemFits, data_width}
use Rattle.net_core.specs.Values.{bit_at}
use Rattle.mem_collect.specs.Pieces.{clock_of, flag_or_false}
use Rattle.mem_collect.specs.declared.spans.PortSpan.{PortSpan}
use Rattle.mem_collect.specs.Unpacked as unpacked
use Rattle.mem_pack.specs.Numbers.{numbers}
use Rattle.mem_pack.specs.Lists as lists
use Rattle.mem_pack.specs.Laws.{packed_row}
use Rattle.mem_pack.proofs.Addresses.{address_back}
use Rattle.mem_pack.proofs.Masks.{lower_wins, mask_back}
use Rattle.mem_pack.proofs.Pieces.{every, every_at, every_front, every_weaker, found_at, item, piece, pieces_length}
use Rattle.mem_pack.proofs.Ports.{span_at, spans_of}
use Rattle.mem_pack.proofs.ReadBack.{clock_back}
use Rattle.mem_pack.proofs.Views.{wides_length, write_lists}

-- what holds of a write wherever it stands
pub record WriteShape (m : Mem) (w : WrPort) : Type 0 where
  pub addr : AddressFits m w.wide w.addr
  pub en : length w.en ≡ data_width m w.wide
  pub value : length w.value ≡ data_width m w.wide
  pub prio : length w.prio ≡ length m.writes

pub shapes : (m : Mem) → MemFits m → Every (WriteShape m) m.writes
shapes m f = every (WriteShape m) m.writes (λ j w e. let h = f.writes j w e in record { addr = h.addr; en = h.en; value = h.value; prio = h.prio })

pub prio_fit : (m : Mem) (ws : List WrPort) → Every (WriteShape m) ws → Every (λ (w : WrPort). length w.prio ≡ length (lists.write_wides m.writes)) ws
prio_fit m ws h = every_weaker (WriteShape m) _ (λ w f. f.prio ∙ sym (wides_length m)) ws h

pub en_fit : (m : Mem) (ws : List WrPort) → Every (WriteShape m) ws → Every (λ (w : WrPort). length w.en ≡ 2 ^ w.wide * m.width) ws
en_fit m ws h = every_weaker (WriteShape m) _ (λ w f. f.en ∙ mul_comm m.width (2 ^ w.wide)) ws h

pub value_fit : (m : Mem) (ws : List WrPort) → Every (WriteShape m) ws → Every (λ (w : WrPort). length w.value ≡ 2 ^ w.wide * m.width) ws
value_fit m ws h = every_weaker (WriteShape m) _ (λ w f. f.value ∙ mul_comm m.width (2 ^ w.wide)) ws h

pub addr_fit : (m : Mem) (ws : List WrPort) → Every (WriteShape m) ws → Every (λ (w : WrPort). length w.addr ≡ m.abits) ws
addr_fit m ws h = every_weaker (WriteShape m) _ (λ w f. f.addr.0) ws h

abbrev at : List WrPort → WrPort → PortSpan
at b p = span_at (numbers (lists.write_wides b)) p.wide

words_at : (m : Mem) (g : WrPort → List Bit) (b : List WrPort) (p : WrPort) (a : List WrPort) → Every (λ (w : WrPort). length (g w) ≡ 2 ^ w.wide * m.width) (b ++ p ∷ a)
    → unpacked.words_of (packed_row m) (at b p) (flat_map g (b ++ p ∷ a)) ≡ g p
words_at m g b p a h =
    piece g b p a (numbers (lists.write_wides b) * m.width) (2 ^ p.wide * m.width)
    (pieces_length g (λ (w : WrPort). w.wide) m.width b (every_front _ b (p ∷ a) h)) (every_at _ b p a h)

addr_at : (m : Mem) (b : List WrPort) (p : WrPort) (a : List WrPort) → Every (WriteShape m) (b ++ p ∷ a) → unpacked.address_of (packed_row m) (at b p) (lists.write_addr (b ++ p ∷ a)) ≡ p.addr
addr_at m b p a h =
    let f = addr_fit m (b ++ p ∷ a) h in
    let here = every_at (WriteShape m) b p a h in
    address_back (λ (w : WrPort). w.wide) (λ (w : WrPort). w.addr) m.abits b p a (every_front _ b (p ∷ a) f) here.addr.0 here.addr.1

-- its priorities, where none stands over a later port
prio_at : (m : Mem) (ks : List ℕ) (b : List WrPort) (p : WrPort) (a : List WrPort) → ks ≡ lists.write_wides b ++ (p.wide ∷ lists.write_wides a) → Every (λ (w : WrPort). length w.prio ≡ length ks) (b ++ p ∷ a)
    → ((j : ℕ) → length b ≤ j → bit_at p.prio j ≡ false)
    → map (λ (s : PortSpan). nat_lt s.first (numbers (lists.write_wides b)) && flag_or_false (lists.prio_rows ks (b ++ p ∷ a)) (numbers (lists.write_wides b) * numbers ks + s.first)) (spans_of 0 ks) ≡ p.prio
unfolding lists.prio_rows
prio_at m ks b p a e f low =
    let own = numbers (lists.write_wides b) in
    let bit = λ (s : PortSpan). flag_or_false (lists.prio_rows ks (b ++ p ∷ a)) (own * numbers ks + s.first) in
    let found : map bit (spans_of 0 ks) ≡ p.prio = mask_back (λ (w : WrPort). w.wide) (λ (w : WrPort). w.prio) ks b p a (every_front _ b (p ∷ a) f) (every_at _ b p a f) in
    let split : map bit (spans_of 0 (lists.write_wides b ++ (p.wide ∷ lists.write_wides a))) ≡ p.prio = ap (λ xs. map bit (spans_of 0 xs)) (sym e) ∙ found in
    let start : 0 + numbers (lists.write_wides b) ≡ own = omega arith in
    let count : length (lists.write_wides b) ≡ length b = length-map b (λ (w : WrPort). w.wide) in
    let less = lower_wins bit own 0 (lists.write_wides b) (p.wide ∷ lists.write_wides a) start
    (λ j l. ap (λ xs. bit_at xs j) split ∙ low j (omega (arith, l, count))) in
    ap (λ xs. map (λ (s : PortSpan). nat_lt s.first own && bit s) (spans_of 0 xs)) e ∙ less ∙ split

port_back : (m : Mem) (b : List WrPort) (p : WrPort) (a : List WrPort) → lists.write_wides m.writes ≡ lists.write_wides b ++ (p.wide ∷ lists.write_wides a) → Every (WriteShape m) (b ++ p ∷ a)
    → ((j : ℕ) → length b ≤ j → bit_at p.prio j ≡ false)
    → unpacked.write_of (packed_row m) (write_lists (lists.write_wides m.writes) (b ++ p ∷ a)) (spans_of 0 (lists.write_wides m.writes)) (at b p) ≡ p
unfolding unpacked.write_of
port_back m b p a e h low =
    let w = λ (x : WrPort). x.wide in
    let bit = item w (λ (x : WrPort). lists.clock_bit x.clock) b p a Zero in
    let edge = item w (λ (x : WrPort). lists.clock_rises x.clock) b p a false in
    let clock = (λ i. clock_of (bit i) (edge i)) ∙ clock_back p.clock in
    λ i. record {
      wide = p.wide;
      clock = clock i;
      en = words_at m (λ (x : WrPort). x.en) b p a (en_fit m (b ++ p ∷ a) h) i;
      addr = addr_at m b p a h i;
      value = words_at m (λ (x : WrPort). x.value) b p a (value_fit m (b ++ p ∷ a) h) i;
      prio = prio_at m (lists.write_wides m.writes) b p a e (prio_fit m (b ++ p ∷ a) h) low i;
    }

pub write_back : (m : Mem) (b : List WrPort) (p : WrPort) (a : List WrPort) → b ++ p ∷ a ≡ m.writes → MemFits m
    → unpacked.write_of (packed_row m) (write_lists (lists.write_wides m.writes) m.writes) (spans_of 0 (lists.write_wides m.writes)) (span_at (numbers (map (λ (w : WrPort). w.wide) b)) p.wide) ≡ p
write_back m b p a e f =
    let place : slice_get m.writes (length b) ≡ Some p = ap (λ ws. slice_get ws (length b)) (sym e) ∙ found_at b p a in
    let here = f.writes (length b) p place in
    let wides : lists.write_wides m.writes ≡ lists.write_wides b ++ (p.wide ∷ lists.write_wides a) = ap lists.write_wides (sym e) ∙ map-append (λ (w : WrPort). w.wide) b (p ∷ a) in
    ap (λ ws. unpacked.write_of (packed_row m) (write_lists (lists.write_wides m.writes) ws) (spans_of 0 (lists.write_wides m.writes)) (at b p)) (sym e)
    ∙ port_back m b p a wides (subst (λ ws. Every (WriteShape m) ws) (sym e) (shapes m f)) here.lower
