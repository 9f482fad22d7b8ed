-- A valid module has fewer nodes than 2 to the power 32, and their nets are the module's.
use Rattle.std.proofs.Common.{◌≡◌, ℕ, zero, suc, ◌+◌, ◌^◌, ◌<◌, ◌≤◌, ◌||◌, inl, inr, Bool, true, false, cond, List, [], ◌∷◌, ◌++◌, map, length, Option, Some, None, refl, sym, ap, ◌∙◌, subst, arith, eqb, nat_eq, length-append, append_assoc}
use Rattle.std.specs.Prelude.{slice_get}
use Rattle.std.specs.List.{flat_map, sum_by, count_by, list_any, IsDistinct, AllByRecursion}
use Rattle.std.proofs.lemmas.Option.{same_Some}
use Rattle.std.proofs.lemmas.Bool.{eqb-true, ne_eqb}
use Rattle.std.proofs.lemmas.List.Sums.{sum_by-cons}
use Rattle.std.proofs.lemmas.Map.Steps.{length-le_from_distinct_below}
use Rattle.lib_core.specs.declared.library.Library.{Library}
use Rattle.net_core.specs.declared.bits.Bit.{Bit}
use Rattle.net_core.specs.declared.bits.Bit.TheVariants.{Net}
use Rattle.net_core.specs.declared.bits.Clock.{Clock}
use Rattle.net_core.specs.declared.cells.Comb.{Comb}
use Rattle.net_core.specs.declared.cells.Reg.{Reg}
use Rattle.net_core.specs.declared.mems.Mem.{Mem}
use Rattle.net_core.specs.declared.mems.RdPort.{RdPort}
use Rattle.net_core.specs.declared.rams.RamCell.{RamCell}
use Rattle.net_core.specs.declared.rams.SlotUse.{SlotUse}
use Rattle.net_core.specs.declared.modules.MemPart.{MemPart}
use Rattle.net_core.specs.declared.modules.Module.{Module}
use Rattle.net_core.specs.Nodes.{Node, comb_node, reg_node, read_needs, read_node, slot_node, mem_nodes, ram_nodes, nodes_of, HasNet, Drives, NetsWithin}
use Rattle.net_core.specs.Drivers.{CombOut, RegOut, ReadOut, HasOneDriver}
use Rattle.net_core.specs.Ports.{Interface, wire_bits, bits_of_pins}
use Rattle.net_core.specs.Pins.{comb_bits, reg_bits, read_bits, write_bits, mem_bits, slot_bits, ram_bits, carried_bits, inner_bits, all_bits}
use Rattle.net_core.specs.Valid.{IsValid}
use Rattle.net_core.proofs.Basics.{get_left, get_joined, has_left, has_right}
use Rattle.net_core.proofs.Ordering.{map_at, flat_get, each_node}

-- no net is driven by two nodes of a list
abbrev Alone : List Node → Type 0
Alone ps = (a b n : ℕ) (p q : Node) → slice_get ps a ≡ Some p → slice_get ps b ≡ Some q → Drives p n → Drives q n → a ≡ b

-- the first net that each node drives, where it drives one
abbrev first_net : List ℕ → List ℕ
first_net [] = []
first_net (n ∷ ns) = n ∷ []

abbrev firsts : List Node → List ℕ
firsts [] = []
firsts (p ∷ ps) = first_net p.drives ++ firsts ps

any_place : (xs : List ℕ) (n : ℕ) → list_any (eqb n) xs ≡ true → (k : ℕ) × (slice_get xs k ≡ Some n)
any_place [] n h = cc
any_place (x ∷ xs) n h =
    let P : Bool → Type 0 = λ b. eqb n x ≡ b → (b || list_any (eqb n) xs) ≡ true → (k : ℕ) × (slice_get (x ∷ xs) k ≡ Some n) in
    let f : P (eqb n x) = elim (eqb n x) as P [ true ↦ λ e g. (0, ap Some (sym (eqb-true n x e))) | false ↦ λ e g. let r = any_place xs n g in (suc r.0, r.1) ] in
    f refl h

first_is : (ns : List ℕ) (k n : ℕ) → slice_get (first_net ns) k ≡ Some n → slice_get ns 0 ≡ Some n
first_is [] k n h = cc
first_is (m ∷ ns) zero n h = h
first_is (m ∷ ns) (suc k) n h = cc

first_at : (ps : List Node) (k n : ℕ) → slice_get (firsts ps) k ≡ Some n → (b : ℕ) × (q : Node) × (slice_get ps b ≡ Some q) × Drives q n
first_at [] k n h = cc
first_at (p ∷ ps) k n h =
    elim (get_joined (first_net p.drives) (firsts ps) k n h) [
      | inl g ↦ (0, p, refl, (0, first_is p.drives k n g))
      | inr (j, e, g) ↦ let r = first_at ps j n g in (suc r.0, r.1, r.2, r.3)
    ]

-- a silent node, as it is counted
abbrev is_silent : Node → Bool
is_silent p = nat_eq (length p.drives) 0

one_or_none : (ns : List ℕ) → cond (nat_eq (length ns) 0) 1 0 + length (first_net ns) ≡ 1
one_or_none [] = refl
one_or_none (n ∷ ns) =
    let ne : nat_eq (length (n ∷ ns)) 0 ≡ false = ne_eqb (length (n ∷ ns)) 0 (λ e. omega (arith, e)) in
    ap (λ b. cond b 1 0 + length (first_net (n ∷ ns))) ne

firsts_count : (ps : List Node) → length ps ≡ count_by is_silent ps + length (firsts ps)
firsts_count [] = refl
firsts_count (p ∷ ps) =
    let rest = firsts_count ps in
    let here = one_or_none p.drives in
    let more = sum_by-cons (λ (q : Node). cond (is_silent q) 1 0) p ps in
    let long = length-append (first_net p.drives) (firsts ps) in
    omega (arith, rest, here, more, long)

all_apart : (n : ℕ) (xs : List ℕ) → ((k m : ℕ) → slice_get xs k ≡ Some m → n ≡ m → ⊥) → AllByRecursion (λ y. eqb n y ≡ false) xs
all_apart n [] h = tt
all_apart n (x ∷ xs) h = (ne_eqb n x (h 0 x refl), all_apart n xs (λ k m g. h (suc k) m g))

distinct_joined : (ns rest : List ℕ) → ((n : ℕ) → slice_get ns 0 ≡ Some n → AllByRecursion (λ y. eqb n y ≡ false) rest) → IsDistinct eqb rest → IsDistinct eqb (first_net ns ++ rest)
unfolding IsDistinct
distinct_joined [] rest h d = d
distinct_joined (n ∷ ns) rest h d = (h n refl, d)

suc_same : (a b : ℕ) → suc a ≡ suc b → a ≡ b
suc_same a b e = omega (arith, e)

zero_not : (b : ℕ) → zero ≡ suc b → ⊥
zero_not b e = omega (arith, e)

none_distinct : IsDistinct eqb []
unfolding IsDistinct
none_distinct = tt

firsts_distinct : (ps : List Node) → Alone ps → IsDistinct eqb (firsts ps)
firsts_distinct [] h = none_distinct
firsts_distinct (p ∷ ps) h =
    distinct_joined p.drives (firsts ps) (λ n hn. all_apart n (firsts ps) (λ k m g e. let q = first_at ps k m g in zero_not q.0 (h 0 (suc q.0) m p q.1 refl q.2 (0, hn ∙ ap Some e) q.3))) (firsts_distinct ps (λ a b n q r ha hb dq dr. suc_same a b (h (suc a) (suc b) n q r ha hb dq dr)))

few_nodes : (ps : List Node) (nets : ℕ) → Alone ps → ((a n : ℕ) (p : Node) → slice_get ps a ≡ Some p → Drives p n → n < nets) → length ps ≤ count_by is_silent ps + nets
few_nodes ps nets alone below =
    let few = length-le_from_distinct_below (firsts ps) nets (firsts_distinct ps alone) (λ n h. let k = any_place (firsts ps) n h in let q = first_at ps k.0 n k.1 in below q.0 n q.1 q.2 q.3) in
    omega (arith, few, firsts_count ps)

alone_joined : (xs ys : List Node) → Alone xs → Alone ys → ((a b n : ℕ) (p q : Node) → slice_get xs a ≡ Some p → slice_get ys b ≡ Some q → Drives p n → Drives q n → ⊥) → Alone (xs ++ ys)
alone_joined xs ys ax ay clash a b n p q ha hb dp dq =
    elim (get_joined xs ys a p ha) [
      | inl ga ↦ elim (get_joined xs ys b q hb) [
        | inl gb ↦ ax a b n p q ga gb dp dq
        | inr (j, e, gb) ↦ absurd (clash a j n p q ga gb dp dq)
      ]
      | inr (i, d, ga) ↦ elim (get_joined xs ys b q hb) [
        | inl gb ↦ absurd (clash b i n q p gb ga dq dp)
        | inr (j, e, gb) ↦ let same = ay i j n p q ga gb dp dq in d ∙ ap (λ k. length xs + k) same ∙ sym e
      ]
    ]

-- where the element j of what the element i gives stands
abbrev place_in : {X Y : Type 0} → (X → List Y) → List X → ℕ → ℕ → ℕ
place_in f [] i j = j
place_in f (x ∷ xs) zero j = j
place_in f (x ∷ xs) (suc i) j = length (f x) + place_in f xs i j

flat_find : {X Y : Type 0} (f : X → List Y) (xs : List X) (k : ℕ) (y : Y) → slice_get (flat_map f xs) k ≡ Some y → (i : ℕ) × (x : X) × (j : ℕ) × (slice_get xs i ≡ Some x) × (slice_get (f x) j ≡ Some y) × (k ≡ place_in f xs i j)
flat_find f [] k y h = cc
flat_find f (x ∷ xs) k y h =
    elim (get_joined (f x) (flat_map f xs) k y h) [
      | inl g ↦ (0, x, k, refl, g, refl)
      | inr (j, e, g) ↦ let r = flat_find f xs j y g in (suc r.0, r.1, r.2, r.3, r.4, e ∙ ap (λ n. length (f x) + n) r.5)
    ]

comb_same : (i k j l : ℕ) → CombOut i k ≡ CombOut j l → i ≡ j
comb_same i k j l e = cc

reg_same : (i k j l : ℕ) → RegOut i k ≡ RegOut j l → i ≡ j
reg_same i k j l e = cc

read_same : (i j k a b c : ℕ) → ReadOut i j k ≡ ReadOut a b c → (i ≡ a) × (j ≡ b)
read_same i j k a b c e = (cc, cc)

comb_no_reg : (i k j l : ℕ) → CombOut i k ≡ RegOut j l → ⊥
comb_no_reg i k j l e = cc

comb_no_read : (i k a b c : ℕ) → CombOut i k ≡ ReadOut a b c → ⊥
comb_no_read i k a b c e = cc

reg_no_read : (i k a b c : ℕ) → RegOut i k ≡ ReadOut a b c → ⊥
reg_no_read i k a b c e = cc

module _ (m : Module) (d : HasOneDriver m) where
  abbrev combs : List Node
  combs = map comb_node m.combs

  abbrev regs : List Node
  regs = map reg_node m.regs

  abbrev reads : List Node
  reads = flat_map mem_nodes m.mems

  comb_told : (a n : ℕ) (p : Node) → slice_get combs a ≡ Some p → Drives p n → (k : ℕ) × (d.driver n ≡ CombOut a k)
  comb_told a n p h dp =
      let c = map_at comb_node m.combs a p h in
      let at = subst (λ q. Drives q n) (sym c.2) dp in
      (at.0, d.combs a c.0 c.1 at.0 n at.1)

  reg_told : (a n : ℕ) (p : Node) → slice_get regs a ≡ Some p → Drives p n → (k : ℕ) × (d.driver n ≡ RegOut a k)
  reg_told a n p h dp =
      let r = map_at reg_node m.regs a p h in
      let at = subst (λ q. Drives q n) (sym r.2) dp in
      (at.0, d.regs a r.0 r.1 at.0 n at.1)

  read_told : (a n : ℕ) (p : Node) → slice_get reads a ≡ Some p → Drives p n → (i : ℕ) × (j : ℕ) × (k : ℕ) × (d.driver n ≡ ReadOut i j k) × (a ≡ place_in mem_nodes m.mems i j)
  read_told a n p h dp =
      let x = flat_find mem_nodes m.mems a p h in
      let r = map_at read_node x.1.reads x.2 p x.4 in
      let at = subst (λ q. Drives q n) (sym r.2) dp in
      (x.0, x.2, at.0, d.reads x.0 x.1 x.3 x.2 r.0 r.1 at.0 n at.1, x.5)

  combs_alone : Alone combs
  combs_alone a b n p q ha hb dp dq =
      let one = comb_told a n p ha dp in
      let two = comb_told b n q hb dq in
      comb_same a one.0 b two.0 (sym one.1 ∙ two.1)

  regs_alone : Alone regs
  regs_alone a b n p q ha hb dp dq =
      let one = reg_told a n p ha dp in
      let two = reg_told b n q hb dq in
      reg_same a one.0 b two.0 (sym one.1 ∙ two.1)

  reads_alone : Alone reads
  reads_alone a b n p q ha hb dp dq =
      let one = read_told a n p ha dp in
      let two = read_told b n q hb dq in
      let same = read_same one.0 one.1 one.2 two.0 two.1 two.2 (sym one.3 ∙ two.3) in
      one.4 ∙ ap (λ i. place_in mem_nodes m.mems i one.1) same.0 ∙ ap (place_in mem_nodes m.mems two.0) same.1 ∙ sym two.4

  others_alone : Alone (combs ++ (regs ++ reads))
  others_alone =
      alone_joined combs (regs ++ reads) combs_alone (alone_joined regs reads regs_alone reads_alone (λ a b n p q ha hb dp dq.
      let one = reg_told a n p ha dp in
      let two = read_told b n q hb dq in
      reg_no_read a one.0 two.0 two.1 two.2 (sym one.1 ∙ two.3))) (λ a b n p q ha hb dp dq.
      let one = comb_told a n p ha dp in
      elim (get_joined regs reads b q hb) [
        | inl g ↦ let two = reg_told b n q g dq in comb_no_reg a one.0 b two.0 (sym one.1 ∙ two.1)
        | inr (j, e, g) ↦ let two = read_told j n q g dq in comb_no_read a one.0 two.0 two.1 two.2 (sym one.1 ∙ two.3)
      ])

slots_count : (cs : List RamCell) → length (flat_map ram_nodes cs) ≡ sum_by (λ (c : RamCell). length c.slots) cs
slots_count [] = refl
slots_count (c ∷ cs) =
    let rest = slots_count cs in
    let joined = length-append (ram_nodes c) (flat_map ram_nodes cs) in
    let more = sum_by-cons (λ (x : RamCell). length x.slots) c cs in
    let mapped = length_mapped c.slots in
    omega (arith, rest, joined, more, mapped)
  where
    length_mapped : (ss : List SlotUse) → length (map slot_node ss) ≡ length ss
    length_mapped [] = refl
    length_mapped (s ∷ ss) = ap suc (length_mapped ss)

-- every bit that a node needs is one of the module's
module _ (m : Module) where
  inside : (n : ℕ) → HasNet (inner_bits m) n → HasNet (all_bits m) n
  inside n h = has_right (wire_bits m.wires) (flat_map carried_bits m.carried ++ inner_bits m) n (has_right (flat_map carried_bits m.carried) (inner_bits m) n h)

  abbrev part_bits : List Bit
  part_bits = flat_map (λ (p : MemPart). bits_of_pins p.pins) m.parts

  abbrev after_mems : List Bit
  after_mems = flat_map ram_bits m.rams ++ part_bits

  abbrev after_regs : List Bit
  after_regs = flat_map mem_bits m.mems ++ after_mems

  abbrev after_combs : List Bit
  after_combs = flat_map reg_bits m.regs ++ after_regs

  shifted : (k n : ℕ) (b : Bit) → slice_get (b ∷ []) k ≡ Some (Net n) → b ≡ Net n
  shifted zero n b h = same_Some b (Net n) h
  shifted (suc k) n b h = cc

  comb_needs_in : (i : ℕ) (c : Comb) → slice_get m.combs i ≡ Some c → (n : ℕ) → HasNet (comb_node c).needs n → HasNet (all_bits m) n
  comb_needs_in i c h n needs =
      let at = subst (λ bs. HasNet bs n) (append_assoc c.a c.b c.s) needs in
      inside n (has_left (flat_map comb_bits m.combs) after_combs n (flat_get comb_bits m.combs i c at.0 (Net n) h at.1))

  reg_needs_in : (i : ℕ) (r : Reg) → slice_get m.regs i ≡ Some r → (n : ℕ) → HasNet (reg_node r).needs n → HasNet (all_bits m) n
  reg_needs_in i r h n (k, g) =
      inside n (has_right (flat_map comb_bits m.combs) after_combs n (has_left (flat_map reg_bits m.regs) after_regs n (flat_get reg_bits m.regs i r 1 (Net n) h (ap Some (shifted k n r.arst g)))))

  port_bits : (c : Option Clock) (r : RdPort) (n : ℕ) → HasNet (read_needs c r) n → HasNet (read_bits r) n
  port_bits None r n (k, g) = (suc (suc (suc k)), g)
  port_bits (Some c) r n (k, g) = (1, ap Some (shifted k n r.arst g))

  read_needs_in : (i : ℕ) (x : Mem) → slice_get m.mems i ≡ Some x → (j : ℕ) (r : RdPort) → slice_get x.reads j ≡ Some r → (n : ℕ) → HasNet (read_node r).needs n → HasNet (all_bits m) n
  read_needs_in i x hx j r hr n needs =
      let at = port_bits r.clock r n needs in
      let read = flat_get read_bits x.reads j r at.0 (Net n) hr at.1 in
      let port = has_left (flat_map read_bits x.reads) (flat_map write_bits x.writes) n read in
      inside n (has_right (flat_map comb_bits m.combs) after_combs n (has_right (flat_map reg_bits m.regs) after_regs n (has_left (flat_map mem_bits m.mems) after_mems n (flat_get mem_bits m.mems i x port.0 (Net n) hx port.1))))

  use_bits : (now : Bool) (s : SlotUse) (n : ℕ) → HasNet (cond now s.addr (s.arst ∷ [])) n → HasNet (slot_bits s) n
  use_bits true s n h = let at = has_left s.addr (s.value ++ (s.wren ++ s.wrbe)) n h in (suc (suc (suc (suc at.0))), at.1)
  use_bits false s n (k, g) = (3, ap Some (shifted k n s.arst g))

  slot_needs_in : (i : ℕ) (c : RamCell) → slice_get m.rams i ≡ Some c → (j : ℕ) (s : SlotUse) → slice_get c.slots j ≡ Some s → (n : ℕ) → HasNet (slot_node s).needs n → HasNet (all_bits m) n
  slot_needs_in i c hc j s hs n needs =
      let at = use_bits s.reads_now s n needs in
      let slot = flat_get slot_bits c.slots j s at.0 (Net n) hs at.1 in
      inside n (has_right (flat_map comb_bits m.combs) after_combs n (has_right (flat_map reg_bits m.regs) after_regs n (has_right (flat_map mem_bits m.mems) after_mems n (has_left (flat_map ram_bits m.rams) part_bits n (flat_get ram_bits m.rams i c slot.0 (Net n) hc slot.1)))))

  needs_in : (k : ℕ) (p : Node) → slice_get (nodes_of m) k ≡ Some p → (n : ℕ) → HasNet p.needs n → HasNet (all_bits m) n
  needs_in = each_node m (λ p. (n : ℕ) → HasNet p.needs n → HasNet (all_bits m) n) comb_needs_in reg_needs_in read_needs_in slot_needs_in

pub valid_nodes : (lib : Library) (modules : List Interface) (m : Module) → IsValid lib modules m → (length (nodes_of m) < 2 ^ 32) × NetsWithin m
valid_nodes lib modules m valid =
    let others = map comb_node m.combs ++ (map reg_node m.regs ++ flat_map mem_nodes m.mems) in
    let slots = flat_map ram_nodes m.rams in
    let whole : nodes_of m ≡ others ++ slots =
    ap (λ r. map comb_node m.combs ++ r) (sym (append_assoc (map reg_node m.regs) (flat_map mem_nodes m.mems) slots)) ∙ sym (append_assoc (map comb_node m.combs) (map reg_node m.regs ++ flat_map mem_nodes m.mems) slots) in
    let below : (a n : ℕ) (p : Node) → slice_get others a ≡ Some p → Drives p n → n < m.nets = λ a n p h dp. valid.driven_nets a p (ap (λ ps. slice_get ps a) whole ∙ get_left others slots a p h) n dp in
    let few = few_nodes others m.nets (others_alone m valid.driven) below in
    let long = ap length whole ∙ length-append others slots in
    let slot_count = slots_count m.rams in
    let nets = valid.net_count in
    let silent = valid.silent in
    (omega (arith, few, long, slot_count, nets, silent), record { drives = valid.driven_nets; needs = λ i p h n needs. valid.nets n (needs_in m i p h n needs) })
