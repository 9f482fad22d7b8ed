-- The cell of a plain choice allows only waves that the memory allows.
use Rattle.std.proofs.Common.{◌≡◌, ℕ, zero, suc, ◌+◌, ◌-◌, ◌*◌, ◌/◌, ◌%◌, ◌^◌, ◌<◌, ◌≤◌, Bool, true, cond, ◌&&◌, List, [], ◌∷◌, map, length, Option, Some, None, refl, sym, ap, ◌∙◌, subst, arith, nat_lt, nat_le}
use Rattle.std.specs.Prelude.{slice_get}
use Rattle.std.specs.List.{range_with_len, list_all}
use Rattle.std.proofs.Math.Nat.{div-eq_of_lt, mod-eq_of_lt, mul-add-mod_self_right, mul_comm, div-one}
use Rattle.std.proofs.lemmas.Bool.{eq-eqb, ne_eqb}
use Rattle.std.proofs.lemmas.Nat.{mul-add-lt, div-mul-add}
use Rattle.std.proofs.lemmas.Option.{same_Some}
use Rattle.lib_core.specs.declared.library.Fill.{Fill}
use Rattle.lib_core.specs.declared.library.Fill.TheVariants as fill
use Rattle.lib_core.specs.declared.library.Group.{Group}
use Rattle.lib_core.specs.declared.library.PortKind.{PortKind}
use Rattle.lib_core.specs.declared.library.PortKind.TheVariants.{Ar, Sw}
use Rattle.lib_core.specs.declared.library.Tri.{Tri}
use Rattle.lib_core.specs.declared.library.Tri.TheVariants as tri
use Rattle.lib_core.specs.declared.library.Variant.{Variant}
use Rattle.lib_core.specs.Rams.{tri_at, last_words, last_width, lies, filled, takes_value, reads_now}
use Rattle.net_core.specs.declared.mems.Mem.{Mem}
use Rattle.net_core.specs.declared.mems.RdPort.{RdPort}
use Rattle.fit_rules.specs.Fits.{variant_at}
use Rattle.net_core.specs.Values.{Wave, Happening, At, Agrees}
use Rattle.net_core.specs.Memory.{Words, frame_of, base_of, hit, hits, written, read_bit, ReadAllows, MemAllows}
use Rattle.net_core.specs.Ram.{Slot, slots_of, word_of, RamAllows}
use Rattle.net_core.specs.Valid.{MemFits, WriteFits, ReadFits}
use Rattle.net_core.proofs.Basics.{and_right, get_left, get_within, get_below}
use Rattle.geom_core.specs.declared.candidates.RamChoice.{RamChoice}
use Rattle.fit_pairs.specs.Items.{fill_admits, is_open, is_low_or_open}
use Rattle.ram_emit.specs.Cell.{write_in, read_in, write_use, read_use, settled, start_bit, contents, cell_of, cell_in}
use Rattle.ram_emit.specs.Laws.{PlainCellShows}
use Rattle.ram_emit.proofs.Padding.{made_at, number_below, number_padded}
use Rattle.ram_emit.proofs.Hits.{one_width, all_words, lies_is, slot_at, WriteMet, hits_alike}
use Rattle.ram_emit.proofs.Slots.{write_stands, read_stands, taken, cell_takes, mem_takes}
use Rattle.ram_emit.proofs.Given.{PlainParts, chosen_variant, plain_parts}

-- what the second may be, the first may be
pub record Allows (a b : Tri) : Type 0 where
  pub agrees : (bit : Bool) → Agrees b bit → Agrees a bit

same_allows : (a b : Tri) → a ≡ b → Allows a b
same_allows a b e = record { agrees = λ bit h. subst (λ t. Agrees t bit) (sym e) h }

zero_le : (n : ℕ) → nat_le 0 n ≡ true
zero_le n = grind arith

-- ---- the contents at the start

open_at : (init : List Tri) (k : ℕ) → list_all is_open init ≡ true → tri_at init k ≡ tri.Any
open_at [] k h = refl
open_at (tri.Zero ∷ ts) zero h = cc
open_at (tri.One ∷ ts) zero h = cc
open_at (tri.Any ∷ ts) zero h = refl
open_at (t ∷ ts) (suc k) h = open_at ts k (and_right (is_open t) (list_all is_open ts) h)

low_at : (init : List Tri) (k : ℕ) → list_all is_low_or_open init ≡ true → Allows (tri_at init k) tri.Zero
low_at [] k h = record { agrees = λ bit e. tt }
low_at (tri.Zero ∷ ts) zero h = record { agrees = λ bit e. e }
low_at (tri.One ∷ ts) zero h = absurd (cc)
low_at (tri.Any ∷ ts) zero h = record { agrees = λ bit e. tt }
low_at (t ∷ ts) (suc k) h = low_at ts k (and_right (is_low_or_open t) (list_all is_low_or_open ts) h)

settled_allows : (f : Fill) (t : Tri) → Allows t (settled f t)
settled_allows fill.Nothing t = record { agrees = λ bit e. e }
settled_allows fill.Zero t = record { agrees = λ bit e. e }
settled_allows fill.Any t = record { agrees = λ bit e. e }
settled_allows fill.NoUndef tri.Zero = record { agrees = λ bit e. e }
settled_allows fill.NoUndef tri.One = record { agrees = λ bit e. e }
settled_allows fill.NoUndef tri.Any = record { agrees = λ bit e. tt }

start_by : (f : Fill) (init given : List Tri) (p k : ℕ) → fill_admits f init ≡ true → (takes_value f ≡ true → tri_at given k ≡ settled f (tri_at init p)) → Allows (tri_at init p) (filled f given k)
start_by fill.Nothing init given p k h g = same_allows (tri_at init p) tri.Any (open_at init p h)
start_by fill.Zero init given p k h g = low_at init p h
start_by fill.Any init given p k h g = same_allows (tri_at init p) (tri_at given k) (sym (g refl))
start_by fill.NoUndef init given p k h g = subst (Allows (tri_at init p)) (sym (g refl)) (settled_allows fill.NoUndef (tri_at init p))

module _ (m : Mem) (c : RamChoice) (x : Variant) (parts : PlainParts m c x) where
  inside : (word k : ℕ) → word < m.size → k < m.width → start_bit x m word k ≡ settled x.fill (tri_at m.init (word * m.width + k))
  inside word k few within =
      let a : nat_lt word m.size ≡ true = grind (arith, few) in
      let b : nat_lt k m.width ≡ true = grind (arith, within) in
      λ i. settled x.fill (cond (a i && b i) (tri_at m.init (word * m.width + k)) tri.Any)

  word_room : (word : ℕ) → word < m.size → word < last_words x
  word_room word few = omega (arith, few, parts.rows, all_words x parts.variant.one)

  bit_room : (k : ℕ) → k < m.width → k < last_width x
  bit_room k within = omega (arith, within, parts.bits, one_width x parts.variant.one)

  content_at : (word k : ℕ) → word < m.size → k < m.width → takes_value x.fill ≡ true → tri_at (contents x m) (word * last_width x + k) ≡ settled x.fill (tri_at m.init (word * m.width + k))
  content_at word k few within takes =
      let room = bit_room k within in
      let f : ℕ → Tri = λ p. start_bit x m (p / last_width x) (p % last_width x) in
      let below : word * last_width x + k < last_words x * last_width x = subst (λ n. word * last_width x + k < n) (mul_comm (last_width x) (last_words x)) (mul-add-lt word (last_width x) k (last_words x) (word_room word few) room) in
      let quotient = div-mul-add word (last_width x) k room in
      let remainder = mul-add-mod_self_right word (last_width x) k ∙ mod-eq_of_lt room in
      ap (λ b. tri_at (cond b (map f (range_with_len 0 (last_words x * last_width x))) []) (word * last_width x + k)) takes
      ∙ made_at f (last_words x * last_width x) (word * last_width x + k) below
      ∙ (λ i. start_bit x m (quotient i) (remainder i))
      ∙ inside word k few within

  starts_within : (word k : ℕ) → word < m.size → k < m.width → Allows (tri_at m.init (word * m.width + k)) (filled x.fill (contents x m) (word * last_width x + k))
  starts_within word k few within = start_by x.fill m.init (contents x m) (word * m.width + k) (word * last_width x + k) parts.start (content_at word k few within)

  -- ---- the ports of the cell

  pub write_here : write_in parts.own m.writes c.writes ≡ Some parts.write
  write_here = (λ i. write_in parts.own (parts.writes i) (parts.groups i)) ∙ ap (λ b. cond b (Some parts.write) None) (eq-eqb parts.own parts.own refl)

  pub write_only : (j : ℕ) → (j ≡ parts.own → ⊥) → write_in j m.writes c.writes ≡ None
  write_only j apart = (λ i. write_in j (parts.writes i) (parts.groups i)) ∙ ap (λ b. cond b (Some parts.write) None) (ne_eqb parts.own j (λ e. apart (sym e)))

  pub read_here : read_in parts.spot m.reads c.reads ≡ Some parts.read
  read_here = (λ i. read_in parts.spot (parts.reads i) (parts.places i)) ∙ ap (λ b. cond b (Some parts.read) None) (eq-eqb parts.spot parts.spot refl)

  pub read_only : (j : ℕ) → (j ≡ parts.spot → ⊥) → read_in j m.reads c.reads ≡ None
  read_only j apart = (λ i. read_in j (parts.reads i) (parts.places i)) ∙ ap (λ b. cond b (Some parts.read) None) (ne_eqb parts.spot j (λ e. apart (sym e)))

  kinds_apart : (a b : PortKind) → a ≡ Ar → b ≡ Sw → a ≡ b → ⊥
  kinds_apart a b p q e = cc

  pub spots_apart : parts.spot ≡ parts.own → ⊥
  spots_apart e =
      let same : Some parts.shows.group ≡ Some parts.stands.group = sym parts.shows.there ∙ ap (slice_get x.groups) e ∙ parts.stands.there in
      kinds_apart parts.shows.group.kind parts.stands.group.kind parts.shows.kind parts.stands.kind (ap (λ (g : Group). g.kind) (same_Some parts.shows.group parts.stands.group same))

  module _ (valid : MemFits m) (inputs : List ℕ) (events : List Happening) (v : Wave) (name : List ℕ) (first : ℕ) (ram : RamAllows inputs x (cell_of x m c name first) events v) where
    abbrev all : List Slot
    all = slots_of x (cell_of x m c name first)

    write_fits : WriteFits m 0 parts.write
    write_fits = valid.writes 0 parts.write (ap (λ ws. slice_get ws 0) parts.writes)

    one_word : (n wide : ℕ) → wide ≡ 0 → n ≡ m.width * 2 ^ wide → n ≡ m.width
    one_word n wide e h = h ∙ ap (λ k. m.width * 2 ^ k) e ∙ (let z : m.width * 1 ≡ m.width = omega arith in z)

    met : WriteMet x parts.stands.group (frame_of m) parts.write
    met = record {
      one = parts.variant.one;
      byte = parts.variant.byte;
      clken = parts.stands.met.clken;
      separate = parts.stands.met.separate;
      wide = parts.write_wide;
      offset = parts.offset;
      enables = one_word (length parts.write.en) parts.write.wide parts.write_wide write_fits.en;
      values = one_word (length parts.write.value) parts.write.wide parts.write_wide write_fits.value;
      room = parts.bits;
      even = parts.even;
    }

    -- ---- contents over time

    abbrev after_event : ℕ → ℕ → ℕ → Tri → Option Happening → Tri
    after_event t word k old None = old
    after_event t word k old (Some e) = written m.writes (hits inputs (frame_of m) e (v t) word k m.writes) old

    mem_words : Words
    mem_words zero word k = tri_at m.init (word * m.width + k)
    mem_words (suc t) word k = after_event t word k (mem_words t word k) (slice_get events t)

    mem_step : (t : ℕ) (e : Happening) → At events t e → (word k : ℕ) → mem_words (suc t) word k ≡ written m.writes (hits inputs (frame_of m) e (v t) word k m.writes) (mem_words t word k)
    unfolding mem_words
    mem_step t e at word k = ap (after_event t word k (mem_words t word k)) at

    mem_taken : (t : ℕ) (e : Happening) → At events t e → (word k : ℕ) → mem_words (suc t) word k ≡ taken (hit inputs (frame_of m) e (v t) word k parts.write) (mem_words t word k)
    mem_taken t e at word k =
        mem_step t e at word k
        ∙ ap (λ ws. written ws (hits inputs (frame_of m) e (v t) word k ws) (mem_words t word k)) parts.writes
        ∙ mem_takes parts.write (hit inputs (frame_of m) e (v t) word k parts.write) (mem_words t word k)

    cell_taken : (t : ℕ) (e : Happening) → At events t e → (word k : ℕ) → word < m.size → k < m.width → ram.words (suc t) word k ≡ taken (hit inputs (frame_of m) e (v t) word k parts.write) (ram.words t word k)
    cell_taken t e at word k few within =
        let (number, net, among) = write_stands x m c parts.write parts.own write_here write_only x.groups 0 0 first parts.own parts.stands.group parts.stands.there (omega arith) parts.stands.names in
        ram.steps t e at word k (word_room word few) (bit_room k within)
        ∙ cell_takes inputs x e (v t) word k (slot_at number parts.own parts.stands.group (write_use x parts.stands.group net parts.write)) all among (ram.words t word k)
        ∙ ap (λ h. taken h (ram.words t word k)) (hits_alike x parts.stands.group (frame_of m) parts.write met inputs e (v t) number parts.own net word k within)

    taken_allows : (h : Option Bool) (a b : Tri) → Allows a b → Allows (taken h a) (taken h b)
    taken_allows None a b i = i
    taken_allows (Some bit) a b i = record { agrees = λ c e. e }

    words_allow : (t : ℕ) → t ≤ length events → (word k : ℕ) → word < m.size → k < m.width → Allows (mem_words t word k) (ram.words t word k)
    unfolding mem_words
    words_allow zero h word k few within = subst (Allows (tri_at m.init (word * m.width + k))) (sym (ram.starts word k (word_room word few) (bit_room k within))) (starts_within word k few within)
    words_allow (suc t) h word k few within =
        let (e, at) = get_within events t (omega (arith, h)) in
        let before = words_allow t (omega (arith, h)) word k few within in
        let here = taken_allows (hit inputs (frame_of m) e (v t) word k parts.write) (mem_words t word k) (ram.words t word k) before in
        subst (λ a. Allows a (ram.words (suc t) word k)) (sym (mem_taken t e at word k)) (subst (Allows (taken (hit inputs (frame_of m) e (v t) word k parts.write) (mem_words t word k))) (sym (cell_taken t e at word k few within)) here)

    -- ---- the read

    abbrev base : ℕ → ℕ
    base t = base_of (v t) parts.read.addr

    read_fits : ReadFits m parts.read
    read_fits = valid.reads 0 parts.read (ap (λ rs. slice_get rs 0) parts.reads)

    base_few : (t : ℕ) → base t < m.size
    base_few t =
        let below : base t < 2 ^ length parts.read.addr = number_below (v t) parts.read.addr in
        let long : 2 ^ length parts.read.addr ≡ 2 ^ m.abits = ap (λ n. 2 ^ n) read_fits.addr.0 in
        omega (arith, below, long, parts.every)

    -- what the read shows of the memory is a bit of the word at its address
    read_is : (t k : ℕ) (here : ℕ → ℕ → Tri) → k < m.width → read_bit (frame_of m) (base t) k here ≡ here (base t) k
    read_is t k here within =
        let place : base t + k / m.width ≡ base t = ap (λ n. base t + n) (div-eq_of_lt within) ∙ (let z : base t + 0 ≡ base t = omega arith in z) in
        let low : nat_le m.offset (base t) ≡ true = ap (λ n. nat_le n (base t)) parts.offset ∙ zero_le (base t) in
        let high : nat_lt (base t) (m.offset + m.size) ≡ true = let q = base_few t in grind (arith, q) in
        let word : base t - m.offset ≡ base t = omega (arith, parts.offset) in
        (λ i. cond (nat_le m.offset (place i) && nat_lt (place i) (m.offset + m.size)) (here (place i - m.offset) (mod-eq_of_lt within i)) tri.Any)
        ∙ (λ i. cond (low i && high i) (here (word i) k) tri.Any)

    read_shows : (t : ℕ) (e : Happening) → At events t e → (k n : ℕ) → slice_get parts.read.out k ≡ Some n → Agrees (read_bit (frame_of m) (base t) k (mem_words t)) (v t n)
    read_shows t e at k n out =
        let (i, number, net, there) = read_stands x m c parts.read parts.spot read_here (write_only parts.spot spots_apart) x.groups 0 0 first parts.spot parts.shows.group parts.shows.there (omega arith) parts.shows.names in
        let slot = slot_at number parts.spot parts.shows.group (read_use x parts.shows.group net parts.read) in
        let within : k < m.width = omega (arith, get_below parts.read.out k n out, one_word (length parts.read.out) parts.read.wide parts.read_wide read_fits.out) in
        let now : reads_now parts.shows.group.kind ≡ true = ap reads_now parts.shows.kind in
        let shown = (ram.slots i slot there).0 refl now t e at k n (get_left parts.read.out _ k n out) in
        let word : word_of (v t) slot ≡ base t = div-one _ ∙ number_padded (v t) parts.read.addr x.abits in
        let lies_here : lies x 0 (word_of (v t) slot) k ≡ (base t, k) = lies_is x parts.variant.one (word_of (v t) slot) k ∙ (λ i. (word i, k)) in
        let cell : Agrees (ram.words t (base t) k) (v t n) = subst (λ (p : ℕ × ℕ). Agrees (ram.words t p.0 p.1) (v t n)) lies_here shown in
        let mem : Agrees (mem_words t (base t) k) (v t n) = (words_allow t (let q = get_below events t e at in omega (arith, q)) (base t) k (base_few t) within).agrees (v t n) cell in
        subst (λ b. Agrees b (v t n)) (sym (read_is t k (mem_words t) within)) mem

    one_read : (j : ℕ) (r : RdPort) → slice_get (parts.read ∷ []) j ≡ Some r → parts.read ≡ r
    one_read zero r h = same_Some parts.read r h
    one_read (suc j) r h = cc

    mem_reads : (j : ℕ) (r : RdPort) → slice_get m.reads j ≡ Some r → ReadAllows inputs (frame_of m) m.writes r.clock r mem_words events v
    mem_reads j r h =
        let same = one_read j r (ap (λ rs. slice_get rs j) (sym parts.reads) ∙ h) in
        let own : ReadAllows inputs (frame_of m) m.writes parts.read.clock parts.read mem_words events v = subst (λ o. ReadAllows inputs (frame_of m) m.writes o parts.read mem_words events v) (sym parts.now) read_shows in
        subst (λ (q : RdPort). ReadAllows inputs (frame_of m) m.writes q.clock q mem_words events v) same own

    pub mem_allows : MemAllows inputs m events v
    unfolding mem_words
    mem_allows = record {
      words = mem_words;
      holds = record {
        starts = λ word k few within. refl;
        steps = λ t e at word k few within. mem_step t e at word k;
      };
      reads = mem_reads;
    }

pub plain_cell_shows : PlainCellShows
plain_cell_shows lib job c name first limits valid plain x h inputs events v ram =
    let there : variant_at lib c.ram c.variant ≡ Some x = sym (chosen_variant lib job.mem c name first) ∙ h in
    let parts = plain_parts lib job c x limits valid plain there in
    mem_allows job.mem c x parts valid inputs events v name first (subst (λ o. RamAllows inputs x (cell_in o job.mem c name first) events v) there ram)
