-- The cell of a plain choice has the shape that its variant asks for.
use Rattle.std.proofs.Common.{◌≡◌, ℕ, zero, suc, ◌+◌, ◌-◌, ◌*◌, ◌/◌, ◌%◌, ◌≤◌, Bool, true, false, cond, not, ◌&&◌, ◌||◌, List, [], ◌∷◌, ◌++◌, map, length, replicate, take, drop, Option, Some, None, refl, sym, ap, ◌∙◌, subst, arith, nat_eq, nat_lt, nat_le}
use Rattle.std.specs.Prelude.{slice_get, slice_index_or}
use Rattle.std.specs.List.{range_with_len, list_all, find}
use Rattle.std.proofs.lemmas.Bool.{eq-eqb, eqb-true}
use Rattle.std.proofs.lemmas.List.{length-append, length-replicate, take_at, drop_at}
use Rattle.std.proofs.lemmas.List.FromFn.{length-range_with_len, length-map-range_with_len}
use Rattle.std.proofs.lemmas.Option.{same_Some}
use Rattle.lib_core.specs.declared.library.Fill.{Fill}
use Rattle.lib_core.specs.declared.library.Fill.TheVariants as fill
use Rattle.lib_core.specs.declared.library.Group.{Group}
use Rattle.lib_core.specs.declared.library.PortKind.TheVariants.{Ar, Sw}
use Rattle.lib_core.specs.declared.library.Tri.{Tri}
use Rattle.lib_core.specs.declared.library.Tri.TheVariants as tri
use Rattle.lib_core.specs.declared.library.Variant.{Variant}
use Rattle.lib_core.specs.Rams.{tri_at, last_words, last_width, kind_reads, kind_writes, kind_clocked, lanes, has_fill, takes_value}
use Rattle.net_core.specs.declared.bits.Bit.{Bit}
use Rattle.net_core.specs.declared.bits.Bit.TheVariants.{Zero as Low}
use Rattle.net_core.specs.declared.bits.Clock.{Clock}
use Rattle.net_core.specs.declared.bits.Clock.TheVariants.{Never}
use Rattle.net_core.specs.declared.mems.Mem.{Mem}
use Rattle.net_core.specs.declared.mems.RdPort.{RdPort}
use Rattle.net_core.specs.declared.mems.WrPort.{WrPort}
use Rattle.net_core.specs.declared.rams.SlotUse.{SlotUse}
use Rattle.net_core.specs.Shape.{is_zero, is_one, is_never, is_low, is_defined, has_length, has_where, zero_unless, value_fits, pins_fit, controls_fit, values_fit, level_fits, reads_by_clken, separate_fits, used_fits, unused_fits, slot_fits, slots_fit, not_used_or_at, level_of_first, levels_alike, contents_fit}
use Rattle.net_core.proofs.Basics.{and_left, and_right, both}
use Rattle.geom_core.specs.declared.candidates.RamChoice.{RamChoice}
use Rattle.fit_pairs.specs.Clocks.{fits_edge}
use Rattle.ram_emit.specs.Cell.{padded, word_bits, low_value, slot_use, new_outputs, no_value, no_enable, idle_use, write_use, read_use, first_use, idle_nets, first_nets, write_in, read_in, idle_uses, group_uses, group_nets, uses_from, settled, contents}
use Rattle.ram_emit.proofs.Given.{GroupMet}

-- ---- Booleans and lists

pub or_true : (b : Bool) → (b || true) ≡ true
or_true true = refl
or_true false = refl

zero_le : (n : ℕ) → nat_le 0 n ≡ true
zero_le n = grind arith

zero_least : (ls : List ℕ) → list_all (λ l. nat_le 0 l) ls ≡ true
zero_least [] = refl
zero_least (l ∷ ls) = both (nat_le 0 l) (list_all (λ l. nat_le 0 l) ls) (zero_le l) (zero_least ls)

le_here : (a b : ℕ) → a ≤ b → nat_le a b ≡ true
le_here a b h = grind (arith, h)

zero_bits : (n : ℕ) → list_all is_zero (replicate n Low) ≡ true
zero_bits zero = refl
zero_bits (suc n) = zero_bits n

low_tris : (n : ℕ) → list_all is_low (replicate n tri.Zero) ≡ true
low_tris zero = refl
low_tris (suc n) = low_tris n

defined_tris : (n : ℕ) → list_all is_defined (replicate n tri.Zero) ≡ true
defined_tris zero = refl
defined_tris (suc n) = defined_tris n

long : {X : Type 0} (xs : List X) (n : ℕ) → length xs ≡ n → has_length xs n ≡ true
long xs n h = eq-eqb (length xs) n h

low_fits : (f : Fill) (n : ℕ) → value_fits f (low_value f n) n ≡ true
low_fits fill.Nothing n = refl
low_fits fill.Zero n = refl
low_fits fill.Any n = both (has_length (replicate n tri.Zero) n) true (long (replicate n tri.Zero) n (length-replicate n tri.Zero)) refl
low_fits fill.NoUndef n = both (has_length (replicate n tri.Zero) n) (list_all is_defined (replicate n tri.Zero)) (long (replicate n tri.Zero) n (length-replicate n tri.Zero)) (defined_tris n)

low_low : (f : Fill) (n : ℕ) → list_all is_low (low_value f n) ≡ true
low_low fill.Nothing n = refl
low_low fill.Zero n = refl
low_low fill.Any n = low_tris n
low_low fill.NoUndef n = low_tris n

all_join : {X : Type 0} (p : X → Bool) (xs ys : List X) → list_all p xs ≡ true → list_all p ys ≡ true → list_all p (xs ++ ys) ≡ true
all_join p [] ys a b = b
all_join p (x ∷ xs) ys a b = both (p x) (list_all p (xs ++ ys)) (and_left (p x) (list_all p xs) a) (all_join p xs ys (and_right (p x) (list_all p xs) a) b)

suc-mul : (a b : ℕ) → suc a * b ≡ b + a * b
suc-mul a b = omega arith

none_there : (b : Bool) → has_where {X = Bit} (b && false) [] 1 ≡ true
none_there true = refl
none_there false = refl

-- ---- one port

module _ (x : Variant) (byte : x.byte ≡ None) (g : Group) (met : GroupMet g) where
  one_lane : lanes x.byte (word_bits x) ≡ 1
  one_lane = ap (λ b. lanes b (word_bits x)) byte

  module _ (used : Bool) (clock : Clock) (addr : List Bit) (out : List ℕ) (value wren : List Bit) where
    abbrev here : SlotUse
    here = slot_use x g used clock addr out value wren

    pins_here : length addr ≡ x.abits → length out ≡ cond (kind_reads g.kind) (word_bits x) 0 → length value ≡ cond (kind_writes g.kind) (word_bits x) 0 → length wren ≡ cond (kind_writes g.kind) 1 0 → pins_fit x g here ≡ true
    pins_here a o v w =
        let enables : cond g.separate 1 (lanes x.byte (word_bits x)) ≡ 1 = (λ i. cond (met.separate i) 1 (one_lane i)) in
        let bytes : has_where {X = Bit} (kind_writes g.kind && g.separate) [] (lanes x.byte (word_bits x)) ≡ true = ap (λ s. has_where {X = Bit} (kind_writes g.kind && s) [] (lanes x.byte (word_bits x))) met.separate ∙ ap (λ n. has_where {X = Bit} (kind_writes g.kind && false) [] n) one_lane ∙ none_there (kind_writes g.kind) in
        let w2 : length wren ≡ cond (kind_writes g.kind) (cond g.separate 1 (lanes x.byte (word_bits x))) 0 = w ∙ ap (λ n. cond (kind_writes g.kind) n 0) (sym enables) in
        both (has_length addr x.abits) _ (long addr x.abits a)
        (both (has_where (kind_reads g.kind) out (word_bits x)) _ (long out _ o)
        (both (has_where (kind_writes g.kind) value (word_bits x)) _ (long value _ v)
        (both (has_where (kind_writes g.kind) wren (cond g.separate 1 (lanes x.byte (word_bits x)))) _ (long wren _ w2) bytes)))

    controls_here : (kind_clocked g.kind || is_never clock) ≡ true → controls_fit g here ≡ true
    controls_here c =
        both (kind_clocked g.kind || is_never clock) _ c
        (both (zero_unless g.clken Low) _ (or_true g.clken)
        (both (zero_unless g.rden Low) _ (or_true g.rden)
        (both (zero_unless (has_fill g.srst) Low) _ (or_true (has_fill g.srst)) (or_true (has_fill g.arst)))))

    values_here : values_fit x g here ≡ true
    values_here =
        both (value_fits g.srst (low_value g.srst (word_bits x)) (word_bits x)) _ (low_fits g.srst (word_bits x))
        (both (value_fits g.arst (low_value g.arst (word_bits x)) (word_bits x)) _ (low_fits g.arst (word_bits x)) (low_fits g.start (word_bits x)))

    used_here : used_fits g here ≡ true
    used_here = (λ i. (not (met.clken i) || (reads_by_clken g || is_one here.clken)) && (not (met.separate i) || separate_fits wren []))

    unused_here : is_never clock ≡ true → list_all is_zero addr ≡ true → list_all is_zero value ≡ true → list_all is_zero wren ≡ true → unused_fits g here ≡ true
    unused_here c a v w =
        both (is_never clock) _ c
        (both (list_all is_zero addr) _ a
        (both (list_all is_zero value) _ v
        (both (list_all is_zero wren) _ w
        (both (list_all is_low (low_value g.srst (word_bits x))) _ (low_low g.srst (word_bits x))
        (both (list_all is_low (low_value g.arst (word_bits x))) _ (low_low g.arst (word_bits x))
        (both (list_all is_low (low_value g.start (word_bits x))) _ (low_low g.start (word_bits x)) (zero_least g.levels)))))))

    fits_by : length addr ≡ x.abits → length out ≡ cond (kind_reads g.kind) (word_bits x) 0 → length value ≡ cond (kind_writes g.kind) (word_bits x) 0 → length wren ≡ cond (kind_writes g.kind) 1 0 → (kind_clocked g.kind || is_never clock) ≡ true → cond used (used_fits g here) (unused_fits g here) ≡ true → slot_fits x g here ≡ true
    fits_by a o v w c u =
        both (pins_fit x g here) _ (pins_here a o v w)
        (both (controls_fit g here) _ (controls_here c)
        (both (values_fit x g here) _ values_here
        (both (level_fits g here) _ met.level u)))

cond_length : {X : Type 0} (b : Bool) (xs : List X) (n : ℕ) → length xs ≡ n → length (cond b xs []) ≡ cond b n 0
cond_length true xs n h = h
cond_length false xs n h = refl

zero_value : (b : Bool) (n : ℕ) → list_all is_zero (cond b (replicate n Low) []) ≡ true
zero_value true n = zero_bits n
zero_value false n = refl

zero_enable : (b : Bool) → list_all is_zero (cond b (Low ∷ []) []) ≡ true
zero_enable true = refl
zero_enable false = refl

filled_up : {X : Type 0} (xs ys : List X) (n : ℕ) → length xs ≤ n → length ys ≡ n - length xs → length (xs ++ ys) ≡ n
filled_up xs ys n h e = length-append xs ys ∙ (let z : length xs + length ys ≡ n = omega (arith, h, e) in z)

padded_length : (xs : List Bit) (n : ℕ) → length xs ≤ n → length (padded xs n) ≡ n
padded_length xs n h = filled_up xs (replicate (n - length xs) Low) n h (length-replicate (n - length xs) Low)

-- what the write and the read of a group are to it
pub record GroupStands (x : Variant) (g : Group) (w : Option WrPort) (r : Option RdPort) : Type 0 where
  pub met : GroupMet g
  pub write : (p : WrPort) → w ≡ Some p → (g.kind ≡ Sw) × (fits_edge g.edge p.clock ≡ true) × (length p.addr ≤ x.abits) × (length p.value ≤ word_bits x)
  pub read : (p : RdPort) → r ≡ Some p → (g.kind ≡ Ar) × (length p.addr ≤ x.abits) × (length p.out ≤ word_bits x)

module _ (x : Variant) (byte : x.byte ≡ None) (g : Group) where
  idle_fits : GroupMet g → (next : ℕ) → slot_fits x g (idle_use x g next) ≡ true
  idle_fits met next =
      fits_by x byte g met false Never (replicate x.abits Low) (new_outputs x g next) (no_value x g) (no_enable g)
      (length-replicate x.abits Low)
      (cond_length (kind_reads g.kind) (range_with_len next (word_bits x)) (word_bits x) (length-range_with_len next (word_bits x)))
      (cond_length (kind_writes g.kind) (replicate (word_bits x) Low) (word_bits x) (length-replicate (word_bits x) Low))
      (cond_length (kind_writes g.kind) (Low ∷ []) 1 refl)
      (or_true (kind_clocked g.kind))
      (unused_here x byte g met false Never (replicate x.abits Low) (new_outputs x g next) (no_value x g) (no_enable g) refl (zero_bits x.abits) (zero_value (kind_writes g.kind) (word_bits x)) (zero_enable (kind_writes g.kind)))

  write_fits : GroupMet g → (next : ℕ) (p : WrPort) → g.kind ≡ Sw → length p.addr ≤ x.abits → length p.value ≤ word_bits x → slot_fits x g (write_use x g next p) ≡ true
  write_fits met next p kind addr value =
      fits_by x byte g met true p.clock (padded p.addr x.abits) (new_outputs x g next) (padded p.value (word_bits x)) (slice_index_or p.en 0 Low ∷ [])
      (padded_length p.addr x.abits addr)
      (cond_length (kind_reads g.kind) (range_with_len next (word_bits x)) (word_bits x) (length-range_with_len next (word_bits x)))
      (padded_length p.value (word_bits x) value ∙ ap (λ k. cond (kind_writes k) (word_bits x) 0) (sym kind))
      (ap (λ k. cond (kind_writes k) 1 0) (sym kind))
      (ap (λ k. kind_clocked k || is_never p.clock) kind)
      (used_here x byte g met true p.clock (padded p.addr x.abits) (new_outputs x g next) (padded p.value (word_bits x)) (slice_index_or p.en 0 Low ∷ []))

  read_fits : GroupMet g → (next : ℕ) (p : RdPort) → g.kind ≡ Ar → length p.addr ≤ x.abits → length p.out ≤ word_bits x → slot_fits x g (read_use x g next p) ≡ true
  read_fits met next p kind addr out =
      let outs : List ℕ = p.out ++ range_with_len next (word_bits x - length p.out) in
      fits_by x byte g met true Never (padded p.addr x.abits) outs (no_value x g) (no_enable g)
      (padded_length p.addr x.abits addr)
      (filled_up p.out (range_with_len next (word_bits x - length p.out)) (word_bits x) out (length-range_with_len next (word_bits x - length p.out)) ∙ ap (λ k. cond (kind_reads k) (word_bits x) 0) (sym kind))
      (cond_length (kind_writes g.kind) (replicate (word_bits x) Low) (word_bits x) (length-replicate (word_bits x) Low))
      (cond_length (kind_writes g.kind) (Low ∷ []) 1 refl)
      (or_true (kind_clocked g.kind))
      (used_here x byte g met true Never (padded p.addr x.abits) outs (no_value x g) (no_enable g))

  first_fits : (w : Option WrPort) (r : Option RdPort) → GroupStands x g w r → (next : ℕ) → slot_fits x g (first_use x g next w r) ≡ true
  first_fits (Some p) r stands next = let h = stands.write p refl in write_fits stands.met next p h.0 h.2 h.3
  first_fits None (Some p) stands next = let h = stands.read p refl in read_fits stands.met next p h.0 h.1 h.2
  first_fits None None stands next = idle_fits stands.met next

  idles_fit : GroupMet g → (count next : ℕ) → list_all (slot_fits x g) (idle_uses x g count next) ≡ true
  idles_fit met zero next = refl
  idles_fit met (suc count) next = both (slot_fits x g (idle_use x g next)) _ (idle_fits met next) (idles_fit met count (next + idle_nets x g))

  group_fits : (w : Option WrPort) (r : Option RdPort) → GroupStands x g w r → (count next : ℕ) → list_all (slot_fits x g) (group_uses x g w r count next) ≡ true
  group_fits w r stands zero next = refl
  group_fits w r stands (suc count) next = both (slot_fits x g (first_use x g next w r)) _ (first_fits w r stands next) (idles_fit stands.met count (next + first_nets x g w r))

  idles_length : (count next : ℕ) → length (idle_uses x g count next) ≡ count
  idles_length zero next = refl
  idles_length (suc count) next = ap suc (idles_length count (next + idle_nets x g))

  pub group_length : (w : Option WrPort) (r : Option RdPort) (count next : ℕ) → length (group_uses x g w r count next) ≡ count
  group_length w r zero next = refl
  group_length w r (suc count) next = ap suc (idles_length count (next + first_nets x g w r))

-- ---- the ports of all groups

module _ (x : Variant) (byte : x.byte ≡ None) (m : Mem) (c : RamChoice) where
  abbrev pub Stand : ℕ → List Group → Type 0
  Stand n gs = (j : ℕ) (g : Group) → slice_get gs j ≡ Some g → GroupStands x g (write_in (n + j) m.writes c.writes) (read_in (n + j) m.reads c.reads)

  pub stand_here : (n : ℕ) (g : Group) (gs : List Group) → Stand n (g ∷ gs) → GroupStands x g (write_in n m.writes c.writes) (read_in n m.reads c.reads)
  stand_here n g gs all = let e : n + 0 ≡ n = omega arith in subst (λ k. GroupStands x g (write_in k m.writes c.writes) (read_in k m.reads c.reads)) e (all 0 g refl)

  pub stand_later : (n : ℕ) (g : Group) (gs : List Group) → Stand n (g ∷ gs) → Stand (n + 1) gs
  stand_later n g gs all j h at = let e : n + suc j ≡ n + 1 + j = omega arith in subst (λ k. GroupStands x h (write_in k m.writes c.writes) (read_in k m.reads c.reads)) e (all (suc j) h at)

  pub uses_fit : (gs : List Group) (n next : ℕ) → Stand n gs → slots_fit x gs (uses_from x m c n gs next) ≡ true
  uses_fit [] n next all = refl
  uses_fit (g ∷ gs) n next all =
      let w = write_in n m.writes c.writes in
      let r = read_in n m.reads c.reads in
      let count = length g.names in
      let here = group_uses x g w r count next in
      let later = uses_from x m c (n + 1) gs (next + group_nets x g w r count) in
      let long : length here ≡ count = group_length x byte g w r count next in
      let room : nat_le count (length (here ++ later)) ≡ true = le_here count (length (here ++ later)) (omega (arith, length-append here later, long)) in
      let first : list_all (slot_fits x g) (take count (here ++ later)) ≡ true = ap (list_all (slot_fits x g)) (take_at here later count long) ∙ group_fits x byte g w r (stand_here n g gs all) count next in
      let rest : slots_fit x gs (drop count (here ++ later)) ≡ true = ap (slots_fit x gs) (drop_at here later count long) ∙ uses_fit gs (n + 1) (next + group_nets x g w r count) (stand_later n g gs all) in
      both (nat_le count (length (here ++ later))) _ room (both (list_all (slot_fits x g) (take count (here ++ later))) _ first rest)

  -- all ports have the first width
  abbrev at_first : SlotUse → Bool
  at_first s = nat_eq s.level 0

  idles_first : (g : Group) (count next : ℕ) → list_all at_first (idle_uses x g count next) ≡ true
  idles_first g zero next = refl
  idles_first g (suc count) next = idles_first g count (next + idle_nets x g)

  group_first : (g : Group) (w : Option WrPort) (r : Option RdPort) (count next : ℕ) → list_all at_first (group_uses x g w r count next) ≡ true
  group_first g w r zero next = refl
  group_first g (Some p) r (suc count) next = idles_first g count (next + first_nets x g (Some p) r)
  group_first g None (Some p) (suc count) next = idles_first g count (next + first_nets x g None (Some p))
  group_first g None None (suc count) next = idles_first g count (next + first_nets x g None None)

  pub uses_first : (gs : List Group) (n next : ℕ) → list_all at_first (uses_from x m c n gs next) ≡ true
  uses_first [] n next = refl
  uses_first (g ∷ gs) n next =
      let w = write_in n m.writes c.writes in
      let r = read_in n m.reads c.reads in
      all_join at_first (group_uses x g w r (length g.names) next) (uses_from x m c (n + 1) gs (next + group_nets x g w r (length g.names))) (group_first g w r (length g.names) next) (uses_first gs (n + 1) (next + group_nets x g w r (length g.names)))

  -- how many ports there are
  pub uses_length : (gs : List Group) (n next most : ℕ) → ((j : ℕ) (g : Group) → slice_get gs j ≡ Some g → length g.names ≤ most) → length (uses_from x m c n gs next) ≤ length gs * most
  uses_length [] n next most few = omega arith
  uses_length (g ∷ gs) n next most few =
      let w = write_in n m.writes c.writes in
      let r = read_in n m.reads c.reads in
      let count = length g.names in
      let here = group_uses x g w r count next in
      let later = uses_from x m c (n + 1) gs (next + group_nets x g w r count) in
      let rest = uses_length gs (n + 1) (next + group_nets x g w r count) most (λ j h at. few (suc j) h at) in
      omega (arith, length-append here later, group_length x byte g w r count next, few 0 g refl, rest, suc-mul (length gs) most)

find_all : (p q : SlotUse → Bool) (ss : List SlotUse) (f : SlotUse) → find p ss ≡ Some f → list_all q ss ≡ true → q f ≡ true
find_all p q [] f h all = cc
find_all p q (s ∷ ss) f h all =
    let P : Bool → Type 0 = λ t. cond t (Some s) (find p ss) ≡ Some f → q f ≡ true in
    let g : P (p s) = elim (p s) as P [
      | true ↦ λ e. subst (λ u. q u ≡ true) (same_Some s f e) (and_left (q s) (list_all q ss) all)
      | false ↦ λ e. find_all p q ss f e (and_right (q s) (list_all q ss) all)
    ] in
    g h

first_alike : (f : SlotUse) (ss : List SlotUse) → f.level ≡ 0 → list_all (λ (s : SlotUse). nat_eq s.level 0) ss ≡ true → list_all (λ s. not_used_or_at s f.level) ss ≡ true
first_alike f [] h all = refl
first_alike f (s ∷ ss) h all =
    both (not_used_or_at s f.level) _ (ap (λ n. not s.used || nat_eq s.level n) h ∙ ap (λ b. not s.used || b) (and_left (nat_eq s.level 0) (list_all (λ (s : SlotUse). nat_eq s.level 0) ss) all) ∙ or_true (not s.used)) (first_alike f ss h (and_right (nat_eq s.level 0) (list_all (λ (s : SlotUse). nat_eq s.level 0) ss) all))

pub all_alike : (ss : List SlotUse) → list_all (λ (s : SlotUse). nat_eq s.level 0) ss ≡ true → levels_alike ss ≡ true
all_alike ss all =
    let P : Option SlotUse → Type 0 = λ o. find (λ (s : SlotUse). s.used) ss ≡ o → level_of_first o ss ≡ true in
    let g : P (find (λ (s : SlotUse). s.used) ss) = elim (find (λ (s : SlotUse). s.used) ss) as P [
      | None ↦ λ e. refl
      | Some f ↦ λ e. first_alike f ss (eqb-true f.level 0 (find_all (λ (s : SlotUse). s.used) (λ (s : SlotUse). nat_eq s.level 0) ss f e all)) all
    ] in
    g refl

-- ---- the contents

settled_defined : (t : Tri) → is_defined (settled fill.NoUndef t) ≡ true
settled_defined tri.Zero = refl
settled_defined tri.One = refl
settled_defined tri.Any = refl

all_defined : (f : ℕ → Tri) (a n : ℕ) → list_all is_defined (map (λ p. settled fill.NoUndef (f p)) (range_with_len a n)) ≡ true
all_defined f a zero = refl
all_defined f a (suc n) = both (is_defined (settled fill.NoUndef (f a))) _ (settled_defined (f a)) (all_defined f (a + 1) n)

made_fits : (k : Fill) (f : ℕ → Tri) (n : ℕ) → value_fits k (cond (takes_value k) (map (λ p. settled k (f p)) (range_with_len 0 n)) []) n ≡ true
made_fits fill.Nothing f n = refl
made_fits fill.Zero f n = refl
made_fits fill.Any f n = both (has_length (map (λ p. settled fill.Any (f p)) (range_with_len 0 n)) n) true (long (map (λ p. settled fill.Any (f p)) (range_with_len 0 n)) n (length-map-range_with_len (λ p. settled fill.Any (f p)) 0 n)) refl
made_fits fill.NoUndef f n = both (has_length (map (λ p. settled fill.NoUndef (f p)) (range_with_len 0 n)) n) _ (long (map (λ p. settled fill.NoUndef (f p)) (range_with_len 0 n)) n (length-map-range_with_len (λ p. settled fill.NoUndef (f p)) 0 n)) (all_defined f 0 n)

pub content_fits : (x : Variant) (m : Mem) → contents_fit x (contents x m) ≡ true
content_fits x m =
    made_fits x.fill (λ p. cond (nat_lt (p / last_width x) m.size && nat_lt (p % last_width x) m.width) (tri_at m.init (p / last_width x * m.width + p % last_width x)) tri.Any) (last_words x * last_width x)

pub made_few : (b : Bool) (f : ℕ → Tri) (n : ℕ) → length (cond b (map f (range_with_len 0 n)) []) ≤ n
made_few true f n = omega (arith, length-map-range_with_len f 0 n)
made_few false f n = omega arith
