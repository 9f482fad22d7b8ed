-- Ports that are put behind each other, with the numbers of their new nets.
use Rattle.std.proofs.Common.{◌≡◌, ℕ, zero, suc, ◌+◌, ◌-◌, ◌*◌, ◌/◌, ◌%◌, ◌<◌, ◌≤◌, ◌^◌, Bool, true, false, cond, List, [], ◌∷◌, ◌++◌, length, map, take, drop, get_or, Option, Some, None, refl, sym, ap, subst, ◌∙◌, arith, append_assoc, append-nil}
use Rattle.std.proofs.Math.Nat.{mul_comm}
use Rattle.std.proofs.Math.Pow.{pow_mono}
use Rattle.std.proofs.lemmas.Nat.{mul-le, mul-add-lt}
use Rattle.lib_core.specs.declared.library.Group.{Group}
use Rattle.lib_core.specs.declared.library.Tri.{Tri}
use Rattle.std.specs.List.{range_with_len}
use Rattle.lib_core.specs.declared.library.Variant.{Variant}
use Rattle.lib_core.specs.Rams.{width_at, kind_reads, takes_value, last_level, last_words, last_width}
use Rattle.net_core.specs.declared.mems.Mem.{Mem}
use Rattle.net_core.specs.declared.mems.RdPort.{RdPort}
use Rattle.net_core.specs.declared.mems.WrPort.{WrPort}
use Rattle.net_core.specs.declared.rams.SlotUse.{SlotUse}
use Rattle.net_core.specs.Valid.{Each}
use Rattle.fit_rules.specs.Limits.{MemLimits, VariantLimits}
use Rattle.ram_emit.specs.Cell.{word_bits, first_use, idle_use, idle_nets, first_nets, idle_uses, group_uses, group_nets, write_in, read_in, uses_from, nets_from, start_bit, contents}
use Rattle.geom_core.specs.declared.candidates.RamChoice.{RamChoice}
use Rattle.std.proofs.lemmas.List.{take_all}

module _ (x : Variant) (g : Group) where
  pub idle_more : (left at : ℕ) (old new whole : List SlotUse) (s : SlotUse) → 0 < left → s ≡ idle_use x g at → new ≡ old ++ s ∷ [] → old ++ idle_uses x g left at ≡ whole → new ++ idle_uses x g (left - 1) (at + idle_nets x g) ≡ whole
  idle_more zero at old new whole s some is put before = absurd (omega arith)
  idle_more (suc left) at old new whole s some is put before =
      let e : suc left - 1 ≡ left = omega arith in
      (λ i. put i ++ idle_uses x g (e i) (at + idle_nets x g)) ∙ append_assoc old (s ∷ []) (idle_uses x g left (at + idle_nets x g)) ∙ ap (λ q. old ++ (q ∷ idle_uses x g left (at + idle_nets x g))) is ∙ before

  pub idle_end : (left at : ℕ) (old whole : List SlotUse) → left ≤ 0 → old ++ idle_uses x g left at ≡ whole → old ≡ whole
  idle_end zero at old whole none before = sym (append-nil old) ∙ before
  idle_end (suc left) at old whole none before = absurd (omega arith)

  pub group_some : (w : Option WrPort) (r : Option RdPort) (count next : ℕ) (old one new : List SlotUse) (s : SlotUse) → 0 < count → s ≡ first_use x g next w r → one ≡ old ++ s ∷ [] → new ≡ one ++ idle_uses x g (count - 1) (next + first_nets x g w r) → new ≡ old ++ group_uses x g w r count next
  group_some w r zero next old one new s some is put rest = absurd (omega arith)
  group_some w r (suc count) next old one new s some is put rest =
      let e : suc count - 1 ≡ count = omega arith in
      rest ∙ (λ i. put i ++ idle_uses x g (e i) (next + first_nets x g w r)) ∙ append_assoc old (s ∷ []) (idle_uses x g count (next + first_nets x g w r)) ∙ ap (λ q. old ++ (q ∷ idle_uses x g count (next + first_nets x g w r))) is

  pub group_none : (w : Option WrPort) (r : Option RdPort) (count next : ℕ) (old : List SlotUse) → count ≤ 0 → old ≡ old ++ group_uses x g w r count next
  group_none w r zero next old none = sym (append-nil old)
  group_none w r (suc count) next old none = absurd (omega arith)

  pub nets_some : (w : Option WrPort) (r : Option RdPort) (count next after : ℕ) → 0 < count → after ≡ next + first_nets x g w r + (count - 1) * idle_nets x g → after ≡ next + group_nets x g w r count
  nets_some w r zero next after some is = absurd (omega arith)
  nets_some w r (suc count) next after some is =
      let e : suc count - 1 ≡ count = omega arith in
      let here : after ≡ next + first_nets x g w r + count * idle_nets x g = is ∙ ap (λ n. next + first_nets x g w r + n * idle_nets x g) e in
      omega (arith, here)

  pub nets_none : (w : Option WrPort) (r : Option RdPort) (count next : ℕ) → count ≤ 0 → next ≡ next + group_nets x g w r count
  nets_none w r zero next none = omega arith
  nets_none w r (suc count) next none = absurd (omega arith)

pub step_nets : (left at n total : ℕ) → 0 < left → at + left * n ≡ total → at + n + (left - 1) * n ≡ total
step_nets zero at n total some before = absurd (omega arith)
step_nets (suc left) at n total some before =
    let e : suc left - 1 ≡ left = omega arith in
    let m : suc left * n ≡ n + left * n = omega arith in
    ap (λ k. at + n + k * n) e ∙ (let z : at + n + left * n ≡ at + suc left * n = omega (arith, m) in z) ∙ before

pub end_nets : (left at n total : ℕ) → left ≤ 0 → at + left * n ≡ total → at ≡ total
end_nets zero at n total none before = omega (arith, before)
end_nets (suc left) at n total none before = absurd (omega arith)

pub few_nets : (count n : ℕ) → count ≤ 8 → n ≤ 1024 → count * n ≤ 8192
few_nets count n c w = mul-le count n 8 1024 c w

-- a property of each group goes on to the first and to the others
pub first_group : (g : Group) (gs : List Group) → Each (g ∷ gs) (λ h. length h.names ≤ 8) → (length g.names ≤ 8) × Each gs (λ h. length h.names ≤ 8)
first_group g gs all = (all 0 g refl, λ j h at. all (suc j) h at)

-- a place of the memory's contents is one of a list
pub place_few : (m : Mem) (word bit : ℕ) → MemLimits m → word < m.size → bit < m.width → word * m.width + bit < 8388608
place_few m word bit limits few within =
    let h : word * m.width + bit < m.width * m.size = mul-add-lt word m.width bit m.size few within in
    let e : m.width * m.size ≡ m.size * m.width = mul_comm m.width m.size in
    omega (arith, h, e, limits.bits)

-- the bits of all words
some_widths : (ws : List ℕ) (k : ℕ) → 1 ≤ width_at ws k → 1 ≤ length ws
some_widths [] k h = absurd (omega arith)
some_widths (w ∷ ws) k h = omega arith

pub all_few : (x : Variant) → VariantLimits x → 1 ≤ last_width x → (last_words x * last_width x ≤ 1073741824) × (last_words x ≤ 1048576)
all_few x limits some =
    let there = some_widths x.widths (last_level x) some in
    let last : last_level x < length x.widths = omega (arith, there) in
    let few = limits.sized.widths.few_bits (last_level x) last in
    let abits = limits.sized.abits in
    let words : last_words x ≤ 2 ^ 20 = pow_mono {i = x.abits - last_level x} {j = 20} (omega (arith, abits)) in
    (mul-le (last_words x) (last_width x) 1048576 1024 words few, words)

none_made : (b : Bool) (f : ℕ → Tri) (n : ℕ) → n ≡ 0 → [] ≡ cond b (map f (range_with_len 0 n)) []
none_made true f n h = sym (ap (λ k. map f (range_with_len 0 k)) h)
none_made false f n h = refl

pub no_contents : (x : Variant) (m : Mem) → last_width x ≡ 0 → [] ≡ contents x m
no_contents x m h =
    none_made (takes_value x.fill) (λ p. start_bit x m (p / last_width x) (p % last_width x)) (last_words x * last_width x) (ap (λ n. last_words x * n) h ∙ (let z : last_words x * 0 ≡ 0 = omega arith in z))

first_width : (ws : List ℕ) → ((k : ℕ) → k < length ws → width_at ws k ≤ 1024) → width_at ws 0 ≤ 1024
first_width [] few = omega arith
first_width (w ∷ ws) few = few 0 (omega arith)

pub word_few : (x : Variant) → VariantLimits x → word_bits x ≤ 1024
word_few x limits = first_width x.widths limits.sized.widths.few_bits

few_if : (b : Bool) (n : ℕ) → n ≤ 1024 → cond b n 0 ≤ 1024
few_if true n h = h
few_if false n h = omega arith

pub idle_few : (x : Variant) (g : Group) → word_bits x ≤ 1024 → idle_nets x g ≤ 1024
idle_few x g h = few_if (kind_reads g.kind) (word_bits x) h

pub first_few : (x : Variant) (g : Group) (w : Option WrPort) (r : Option RdPort) → word_bits x ≤ 1024 → first_nets x g w r ≤ 1024
first_few x g (Some w) r h = idle_few x g h
first_few x g None (Some r) h = omega (arith, h)
first_few x g None None h = idle_few x g h

pub group_few : (x : Variant) (g : Group) (w : Option WrPort) (r : Option RdPort) (count : ℕ) → word_bits x ≤ 1024 → count ≤ 8 → group_nets x g w r count ≤ 8192
group_few x g w r zero h few = omega arith
group_few x g w r (suc count) h few =
    let one = first_few x g w r h in
    let others : count * idle_nets x g ≤ 7168 = mul-le count (idle_nets x g) 7 1024 (omega (arith, few)) (idle_few x g h) in
    omega (arith, one, others)

-- ---- groups one after the other

-- the ports so far and those of the groups that are left are all, and so are their nets; there is room for the rest
pub record Pushed (x : Variant) (m : Mem) (c : RamChoice) (so_far : List SlotUse) (next number : ℕ) (rest : List Group) (whole : List SlotUse) (total : ℕ) : Type 0 where
  pub slots : so_far ++ uses_from x m c number rest next ≡ whole
  pub nets : next + nets_from x m c number rest ≡ total
  pub room : next + 8192 * length rest ≤ 67141632
  pub numbers : number + length rest ≤ 4
  pub names : Each rest (λ g. length g.names ≤ 8)

pub pushed_first : (x : Variant) (m : Mem) (c : RamChoice) (first : ℕ) → VariantLimits x → first ≤ 67108864 → Pushed x m c [] first 0 x.groups (uses_from x m c 0 x.groups first) (first + nets_from x m c 0 x.groups)
pushed_first x m c first limits few = record {
  slots = refl;
  nets = refl;
  room = omega (arith, few, limits.groups);
  numbers = omega (arith, limits.groups);
  names = limits.names;
}

tail_is : (g : Group) (gs : List Group) → take (length (g ∷ gs) - 1) (drop 1 (g ∷ gs)) ≡ gs
tail_is g gs = take_all (length (g ∷ gs) - 1) gs (omega arith)

pub pushed_step : (x : Variant) (m : Mem) (c : RamChoice) (old new : List SlotUse) (next after number : ℕ) (rest : List Group) (g : Group) (w : Option WrPort) (r : Option RdPort) (whole : List SlotUse) (total : ℕ)
    → word_bits x ≤ 1024 → 1 ≤ length rest → g ≡ get_or rest 0 g → w ≡ write_in number m.writes c.writes → r ≡ read_in number m.reads c.reads
    → new ≡ old ++ group_uses x g w r (length g.names) next → after ≡ next + group_nets x g w r (length g.names)
    → Pushed x m c old next number rest whole total → Pushed x m c new after (number + 1) (take (length rest - 1) (drop 1 rest)) whole total
pushed_step x m c old new next after number [] g w r whole total width some is there rides put nets before = absurd (omega arith)
pushed_step x m c old new next after number (f ∷ gs) g w r whole total width some is there rides put nets before =
    let uses : List SlotUse = group_uses x f (write_in number m.writes c.writes) (read_in number m.reads c.reads) (length f.names) next in
    let count : ℕ = group_nets x f (write_in number m.writes c.writes) (read_in number m.reads c.reads) (length f.names) in
    let behind : after ≡ next + count = nets ∙ (λ i. next + group_nets x (is i) (there i) (rides i) (length (is i).names)) in
    let put_here : new ≡ old ++ uses = put ∙ (λ i. old ++ group_uses x (is i) (there i) (rides i) (length (is i).names) next) in
    let few : count ≤ 8192 = group_few x f (write_in number m.writes c.writes) (read_in number m.reads c.reads) (length f.names) width (before.names 0 f refl) in
    let slots : new ++ uses_from x m c (number + 1) gs after ≡ whole =
    (λ i. put_here i ++ uses_from x m c (number + 1) gs (behind i)) ∙ append_assoc old uses (uses_from x m c (number + 1) gs (next + count)) ∙ before.slots in
    let room = before.room in
    let numbers = before.numbers in
    let all = before.nets in
    subst (λ ts. Pushed x m c new after (number + 1) ts whole total) (sym (tail_is f gs)) (record {
      slots = slots;
      nets = omega (arith, behind, all);
      room = omega (arith, behind, few, room);
      numbers = omega (arith, numbers);
      names = λ j h at. before.names (suc j) h at;
    })

pub pushed_last : (x : Variant) (m : Mem) (c : RamChoice) (so_far : List SlotUse) (next number : ℕ) (rest : List Group) (whole : List SlotUse) (total : ℕ) → length rest ≤ 0 → Pushed x m c so_far next number rest whole total → (so_far ≡ whole) × (next ≡ total)
pushed_last x m c so_far next number [] whole total none before = (sym (append-nil so_far) ∙ before.slots, let h = before.nets in omega (arith, h))
pushed_last x m c so_far next number (g ∷ gs) whole total none before = absurd (omega arith)

-- how many new nets there are
few_from : (x : Variant) (m : Mem) (c : RamChoice) → word_bits x ≤ 1024 → (gs : List Group) (n : ℕ) → Each gs (λ g. length g.names ≤ 8) → nets_from x m c n gs ≤ length gs * 8192
few_from x m c width [] n names = omega arith
few_from x m c width (g ∷ gs) n names =
    let here = group_few x g (write_in n m.writes c.writes) (read_in n m.reads c.reads) (length g.names) width (names 0 g refl) in
    let rest = few_from x m c width gs (n + 1) (λ j h at. names (suc j) h at) in
    omega (arith, here, rest)

pub all_nets_few : (x : Variant) (m : Mem) (c : RamChoice) → VariantLimits x → nets_from x m c 0 x.groups ≤ 32768
all_nets_few x m c limits = let few = few_from x m c (word_few x limits) x.groups 0 limits.names in omega (arith, few, limits.groups)
