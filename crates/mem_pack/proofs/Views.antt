-- What a reader finds in the packed cell, name by name.
use Rattle.std.proofs.Common.{◌≡◌, ℕ, suc, ◌+◌, ◌-◌, ◌*◌, ◌^◌, Bool, true, false, List, [], ◌∷◌, ◌++◌, map, take, replicate, length, refl, ap, ◌∙◌, sym, arith, append-nil}
use Rattle.std.specs.List.{AllByRecursion as Every}
use Rattle.std.proofs.Math.Nat.{mul_comm}
use Rattle.std.proofs.lemmas.List.{length-append, length-map, length-replicate, take_all}
use Rattle.std.proofs.lemmas.Nat.{pow_pos}
use Rattle.lib_core.specs.declared.library.Tri.{Tri}
use Rattle.lib_core.specs.declared.library.Tri.TheVariants as tri
use Rattle.net_core.specs.declared.mems.Mem.{Mem}
use Rattle.net_core.specs.declared.mems.RdPort.{RdPort}
use Rattle.net_core.specs.declared.mems.WrPort.{WrPort}
use Rattle.net_core.specs.Valid.{ReadFits, is_one_digit, is_there}
use Rattle.net_core.specs.Values.{tri_of}
use Rattle.cell_consts.specs.Consts.{fitted, flags}
use Rattle.mem_collect.specs.declared.reading.Reading.{Reading}
use Rattle.mem_collect.specs.declared.writing.Writing.{Writing}
use Rattle.mem_collect.specs.Spans.{spans}
use Rattle.mem_collect.specs.Unpacked as unpacked
use Rattle.mem_pack.specs.Numbers.{numbers, continuations}
use Rattle.mem_pack.specs.Lists as lists
use Rattle.mem_pack.specs.Packed as table
use Rattle.mem_pack.specs.Laws.{IsSmall, packed_row}
use Rattle.mem_pack.proofs.Masks.{masks_length}
use Rattle.mem_pack.proofs.Pieces.{each_length, every_weaker, pieces_length}
use Rattle.mem_pack.proofs.Ports.{spans_back, spans_of}

-- ---- bits that are written are read again

ones_back : (fs : List Bool) → take (length fs) (map is_one_digit (map tri_of fs)) ≡ fs
ones_back [] = refl
ones_back (true ∷ fs) = ap (λ xs. true ∷ xs) (ones_back fs)
ones_back (false ∷ fs) = ap (λ xs. false ∷ xs) (ones_back fs)

nothing_left : {X Y : Type 0} (f : X → Y) (xs : List X) → length xs - length (map f xs) ≡ 0
nothing_left f xs = let e = length-map xs f in omega (arith, e)

taken : (fs : List Bool) → take (length fs) (map is_one_digit (map tri_of fs)) ++ replicate (length fs - length (map tri_of fs)) false ≡ fs
taken fs = (λ i. ones_back fs i ++ replicate (nothing_left tri_of fs i) false) ∙ append-nil fs

flags_here : (fs : List Bool) → flags (length fs) (table.some_bits (map tri_of fs)) ≡ fs
unfolding flags
flags_here [] = refl
flags_here (f ∷ fs) = taken (f ∷ fs)

pub flags_back : (fs : List Bool) (count : ℕ) → length fs ≡ count → flags count (table.some_bits (map tri_of fs)) ≡ fs
flags_back fs count e = ap (λ n. flags n (table.some_bits (map tri_of fs))) (sym e) ∙ flags_here fs

whole : (vs : List Tri) → take (length vs) vs ++ replicate (length vs - length vs) tri.Any ≡ vs
whole vs =
    let none : length vs - length vs ≡ 0 = omega arith in
    (λ i. take_all (length vs) vs (omega arith) i ++ replicate (none i) tri.Any) ∙ append-nil vs

values_here : (vs : List Tri) → fitted (length vs) (table.some_bits vs) ≡ vs
unfolding fitted
values_here [] = refl
values_here (v ∷ vs) = whole (v ∷ vs)

pub values_back : (vs : List Tri) (count : ℕ) → length vs ≡ count → fitted count (table.some_bits vs) ≡ vs
values_back vs count e = ap (λ n. fitted n (table.some_bits vs)) (sym e) ∙ values_here vs

contents_here : (vs : List Tri) → fitted (length vs) vs ≡ vs
unfolding fitted
contents_here vs = whole vs

-- ---- the parameters

abbrev pub read_lists : List ℕ → List RdPort → Reading
read_lists ws rs = record {
  pins = record {
    clocks = lists.read_clocks rs;
    en = lists.read_en rs;
    arst = lists.read_arst rs;
    srst = lists.read_srst rs;
    addr = lists.read_addr rs;
    words = lists.read_words rs;
  };
  flags = record {
    clocked = lists.read_clocked rs;
    rising = lists.read_rising rs;
    over = lists.read_over rs;
    trans = lists.read_trans ws rs;
    coll = lists.read_coll ws rs;
  };
  values = record {
    arst = lists.read_arst_values rs;
    srst = lists.read_srst_values rs;
    init = lists.read_init_values rs;
  };
}

abbrev pub write_lists : List ℕ → List WrPort → Writing
write_lists wides ws = record {
  clocks = lists.write_clocks ws;
  en = lists.write_en ws;
  addr = lists.write_addr ws;
  words = lists.write_words ws;
  rising = lists.write_rising ws;
  prio = lists.prio_rows wides ws;
}

pub wides_length : (m : Mem) → length (lists.write_wides m.writes) ≡ length m.writes
wides_length m = length-map m.writes (λ (w : WrPort). w.wide)

pub trans_fit : (m : Mem) (rs : List RdPort) → Every (ReadFits m) rs → Every (λ (r : RdPort). length r.trans ≡ length (lists.write_wides m.writes)) rs
trans_fit m rs h = every_weaker (ReadFits m) _ (λ r f. f.trans ∙ sym (wides_length m)) rs h

pub coll_fit : (m : Mem) (rs : List RdPort) → Every (ReadFits m) rs → Every (λ (r : RdPort). length r.coll ≡ length (lists.write_wides m.writes)) rs
coll_fit m rs h = every_weaker (ReadFits m) _ (λ r f. f.coll ∙ sym (wides_length m)) rs h

pub arst_fit : (m : Mem) (rs : List RdPort) → Every (ReadFits m) rs → Every (λ (r : RdPort). length r.arst_value ≡ 2 ^ r.wide * m.width) rs
arst_fit m rs h = every_weaker (ReadFits m) _ (λ r f. f.arst_value ∙ mul_comm m.width (2 ^ r.wide)) rs h

pub srst_fit : (m : Mem) (rs : List RdPort) → Every (ReadFits m) rs → Every (λ (r : RdPort). length r.srst_value ≡ 2 ^ r.wide * m.width) rs
srst_fit m rs h = every_weaker (ReadFits m) _ (λ r f. f.srst_value ∙ mul_comm m.width (2 ^ r.wide)) rs h

pub init_fit : (m : Mem) (rs : List RdPort) → Every (ReadFits m) rs → Every (λ (r : RdPort). length r.init_value ≡ 2 ^ r.wide * m.width) rs
init_fit m rs h = every_weaker (ReadFits m) _ (λ r f. f.init_value ∙ mul_comm m.width (2 ^ r.wide)) rs h

flags_view : (m : Mem) → Every (ReadFits m) m.reads → unpacked.read_flags (packed_row m) (table.packed_params m) ≡ (read_lists (lists.write_wides m.writes) m.reads).flags
unfolding unpacked.read_flags lists.read_trans lists.read_coll table.name_params table.address_params table.word_params table.read_clock_params lists.read_numbers lists.read_behind table.flags_attr table.values_attr table.read_mask_params table.read_port_params
flags_view m h =
    let w = λ (r : RdPort). r.wide in
    let n = numbers (lists.read_wides m.reads) in
    let pairs = n * numbers (lists.write_wides m.writes) in
    λ i. record {
      clocked = flags_back (lists.read_clocked m.reads) n (each_length w (λ (r : RdPort). is_there r.clock) m.reads) i;
      rising = flags_back (lists.read_rising m.reads) n (each_length w (λ (r : RdPort). lists.rises_if_clocked r.clock) m.reads) i;
      over = flags_back (lists.read_over m.reads) n (each_length w (λ (r : RdPort). r.ce_over_srst) m.reads) i;
      trans = flags_back (lists.read_trans (lists.write_wides m.writes) m.reads) pairs (masks_length w (λ (r : RdPort). r.trans) (lists.write_wides m.writes) m.reads (trans_fit m m.reads h)) i;
      coll = flags_back (lists.read_coll (lists.write_wides m.writes) m.reads) pairs (masks_length w (λ (r : RdPort). r.coll) (lists.write_wides m.writes) m.reads (coll_fit m m.reads h)) i;
    }

values_view : (m : Mem) → Every (ReadFits m) m.reads → unpacked.read_values (packed_row m) (table.packed_params m) ≡ (read_lists (lists.write_wides m.writes) m.reads).values
unfolding unpacked.read_values table.name_params table.address_params table.word_params table.read_clock_params lists.read_numbers lists.read_behind table.flags_attr table.values_attr table.read_mask_params table.read_port_params table.read_value_params table.read_start_params
values_view m h =
    let w = λ (r : RdPort). r.wide in
    let n = numbers (lists.read_wides m.reads) * m.width in
    λ i. record {
      arst = values_back (lists.read_arst_values m.reads) n (pieces_length (λ (r : RdPort). r.arst_value) w m.width m.reads (arst_fit m m.reads h)) i;
      srst = values_back (lists.read_srst_values m.reads) n (pieces_length (λ (r : RdPort). r.srst_value) w m.width m.reads (srst_fit m m.reads h)) i;
      init = values_back (lists.read_init_values m.reads) n (pieces_length (λ (r : RdPort). r.init_value) w m.width m.reads (init_fit m m.reads h)) i;
    }

pins_view : (m : Mem) → unpacked.read_pins (table.packed m) ≡ (read_lists (lists.write_wides m.writes) m.reads).pins
unfolding unpacked.read_pins table.packed table.read_control_pins table.read_reset_pins table.read_word_pins
pins_view m = refl

pub reading_view : (m : Mem) → Every (ReadFits m) m.reads → unpacked.reading_of (packed_row m) (table.packed m) ≡ read_lists (lists.write_wides m.writes) m.reads
unfolding table.packed
reading_view m h = λ i. record { pins = pins_view m i; flags = flags_view m h i; values = values_view m h i }

front_length : (k : ℕ) (xs : List Bool) → length ((false ∷ replicate (2 ^ k - 1) true) ++ xs) ≡ 2 ^ k + length xs
front_length k xs =
    let one : length ((false ∷ replicate (2 ^ k - 1) true) ++ xs) ≡ suc (length (replicate (2 ^ k - 1) true)) + length xs = length-append (false ∷ replicate (2 ^ k - 1) true) xs in
    let many : length (replicate (2 ^ k - 1) true) ≡ 2 ^ k - 1 = length-replicate (2 ^ k - 1) true in
    omega (arith, one, many, pow_pos k)

pub continuations_length : (ks : List ℕ) → length (continuations ks) ≡ numbers ks
continuations_length [] = refl
continuations_length (k ∷ ks) = front_length k (continuations ks) ∙ ap (λ n. 2 ^ k + n) (continuations_length ks)

pub read_ports_view : (m : Mem) → IsSmall m → unpacked.read_spans (packed_row m) (table.packed m) ≡ spans_of 0 (lists.read_wides m.reads)
unfolding unpacked.read_spans table.packed table.name_params table.address_params table.word_params table.read_clock_params lists.read_numbers lists.read_behind table.flags_attr table.values_attr table.read_mask_params table.read_port_params
read_ports_view m s =
    ap spans (flags_back (continuations (lists.read_wides m.reads)) (numbers (lists.read_wides m.reads)) (continuations_length (lists.read_wides m.reads)))
    ∙ spans_back (lists.read_wides m.reads) s.reads

pub write_ports_view : (m : Mem) → IsSmall m → unpacked.write_spans (packed_row m) (table.packed m) ≡ spans_of 0 (lists.write_wides m.writes)
unfolding unpacked.write_spans table.packed table.name_params table.address_params table.word_params table.read_clock_params lists.read_numbers lists.read_behind table.flags_attr table.values_attr table.read_mask_params table.read_port_params table.read_value_params table.read_start_params table.write_clock_params lists.write_numbers lists.write_behind table.write_port_params
write_ports_view m s =
    ap spans (flags_back (continuations (lists.write_wides m.writes)) (numbers (lists.write_wides m.writes)) (continuations_length (lists.write_wides m.writes)))
    ∙ spans_back (lists.write_wides m.writes) s.writes

pub init_view : (m : Mem) → length m.init ≡ m.size * m.width → unpacked.init_of (packed_row m) (table.packed m) ≡ m.init
unfolding table.packed table.name_params table.address_params table.word_params
init_view m e = ap (λ n. fitted n m.init) (sym e) ∙ contents_here m.init

-- ---- writes

pub writing_view : (m : Mem) → Every (λ (w : WrPort). length w.prio ≡ length (lists.write_wides m.writes)) m.writes → unpacked.writing_of (packed_row m) (table.packed m) ≡ write_lists (lists.write_wides m.writes) m.writes
unfolding unpacked.writing_of lists.prio_rows table.packed table.name_params table.address_params table.word_params table.read_clock_params lists.read_numbers lists.read_behind table.flags_attr table.values_attr table.read_mask_params table.read_port_params table.read_value_params table.read_start_params table.write_clock_params lists.write_numbers lists.write_behind table.write_port_params table.read_control_pins table.read_reset_pins table.read_word_pins table.write_control_pins table.write_word_pins
writing_view m h =
    let w = λ (x : WrPort). x.wide in
    let n = numbers (lists.write_wides m.writes) in
    λ i. record {
      clocks = lists.write_clocks m.writes;
      en = lists.write_en m.writes;
      addr = lists.write_addr m.writes;
      words = lists.write_words m.writes;
      rising = flags_back (lists.write_rising m.writes) n (each_length w (λ (x : WrPort). lists.clock_rises x.clock) m.writes) i;
      prio = flags_back (lists.write_prio m.writes) (n * n) (masks_length w (λ (x : WrPort). x.prio) (lists.write_wides m.writes) m.writes h) i;
    }
