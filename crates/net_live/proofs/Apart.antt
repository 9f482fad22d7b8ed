-- Where each net has one driver, no net stands twice among those that are driven.
use Rattle.std.proofs.Common.{◌≡◌, ℕ, zero, suc, ◌+◌, ◌<◌, inl, inr, List, [], ◌∷◌, ◌++◌, Some, refl, sym, ap, subst, ◌∙◌, arith}
use Rattle.std.specs.Prelude.{slice_get}
use Rattle.std.proofs.lemmas.Option.{none-some, same_Some}
use Rattle.net_core.specs.declared.modules.Module.{Module}
use Rattle.net_core.specs.Nodes.{NetsWithin, nodes_of}
use Rattle.net_core.specs.Drivers.{Driver, Free, Input, CombOut, RegOut, ReadOut, SlotOut, HasOneDriver}
use Rattle.net_core.specs.Ports.{inputs_of}
use Rattle.net_core.specs.Valid.{AreApart}
use Rattle.net_core.proofs.Basics.{get_joined}
use Rattle.net_core.proofs.Ordering.{map_at, flat_at}
use Rattle.net_live.specs.Driving.{node_nets, driven_nets, AreBelowApart}
use Rattle.net_live.specs.Sound.{InputsWithin}
use Rattle.net_live.proofs.Drivers.{Entry, nets_in, numbered, place_at, places, comb_places, reg_places, read_places, mem_places, slot_places, ram_places, slots_part, reads_part, regs_part, combs_part, all_places, all_nets, drives_of, nodes_drive}

-- what holds of each entry
abbrev AllOf : (Entry → Type 0) → List Entry → Type 0
AllOf P es = (k : ℕ) (e : Entry) → slice_get es k ≡ Some e → P e

all_joined : (P : Entry → Type 0) (xs ys : List Entry) → AllOf P xs → AllOf P ys → AllOf P (xs ++ ys)
all_joined P xs ys h g k e at =
    elim (get_joined xs ys k e at) as (λ _. P e) [
      | inl l ↦ h k e l
      | inr (j, is, r) ↦ g j e r
    ]

all_one : (P : Entry → Type 0) (e : Entry) → P e → AllOf P (e ∷ [])
all_one P e h zero f at = subst P (same_Some e f at) h
all_one P e h (suc k) f at = absurd (none-some f at)

all_numbered : {X : Type 0} (P : Entry → Type 0) (f : ℕ → X → List Entry) (first : ℕ) (xs : List X) → ((i : ℕ) (x : X) → slice_get xs i ≡ Some x → AllOf P (f (i + first) x)) → AllOf P (numbered f first xs)
all_numbered P f first [] h = λ k e at. absurd (none-some e at)
all_numbered P f first (x ∷ xs) h =
    let now : 0 + first ≡ first = omega arith in
    let here = subst (λ n. AllOf P (f n x)) now (h 0 x refl) in
    let there = all_numbered P f (suc first) xs (λ i y e. let next : suc i + first ≡ i + suc first = omega arith in subst (λ n. AllOf P (f n y)) next (h (suc i) y e)) in
    all_joined P (f first x) (numbered f (suc first) xs) here there

all_from_0 : {X : Type 0} (P : Entry → Type 0) (f : ℕ → X → List Entry) (xs : List X) → ((i : ℕ) (x : X) → slice_get xs i ≡ Some x → AllOf P (f i x)) → AllOf P (numbered f 0 xs)
all_from_0 P f xs h = all_numbered P f 0 xs (λ i x e. let same : i ≡ i + 0 = omega arith in subst (λ n. AllOf P (f n x)) same (h i x e))

all_places_of : (P : Entry → Type 0) (make : ℕ → Driver) (ns : List ℕ) → ((k n : ℕ) → slice_get ns k ≡ Some n → P (record { net = n; place = make k })) → AllOf P (places make ns)
all_places_of P make ns h = all_from_0 P (place_at make) ns (λ k n e. all_one P (record { net = n; place = make k }) (h k n e))

-- numbers of a place: its kind, its item, its port, its bit
abbrev kind_number : Driver → ℕ
kind_number Free = 0
kind_number (Input k) = 1
kind_number (CombOut i k) = 2
kind_number (RegOut i k) = 3
kind_number (ReadOut i j k) = 4
kind_number (SlotOut i j k) = 5

abbrev item_number : Driver → ℕ
item_number Free = 0
item_number (Input k) = 0
item_number (CombOut i k) = i
item_number (RegOut i k) = i
item_number (ReadOut i j k) = i
item_number (SlotOut i j k) = i

abbrev port_number : Driver → ℕ
port_number Free = 0
port_number (Input k) = 0
port_number (CombOut i k) = 0
port_number (RegOut i k) = 0
port_number (ReadOut i j k) = j
port_number (SlotOut i j k) = j

abbrev bit_number : Driver → ℕ
bit_number Free = 0
bit_number (Input k) = k
bit_number (CombOut i k) = k
bit_number (RegOut i k) = k
bit_number (ReadOut i j k) = k
bit_number (SlotOut i j k) = k

abbrev Has : (Driver → ℕ) → ℕ → Entry → Type 0
Has number n e = number e.place ≡ n

abbrev After : (Driver → ℕ) → ℕ → Entry → Type 0
After number n e = n < number e.place

-- no two entries have one place
abbrev Distinct : List Entry → Type 0
Distinct es = (a b : ℕ) (e f : Entry) → slice_get es a ≡ Some e → slice_get es b ≡ Some f → e.place ≡ f.place → a ≡ b

distinct_joined : (number : Driver → ℕ) (n : ℕ) (xs ys : List Entry) → AllOf (Has number n) xs → AllOf (After number n) ys → Distinct xs → Distinct ys → Distinct (xs ++ ys)
distinct_joined number n xs ys at_n after dx dy a b e f p q same =
    let numbers = ap number same in
    elim (get_joined xs ys a e p) as (λ _. a ≡ b) [
      | inl l ↦ elim (get_joined xs ys b f q) as (λ _. a ≡ b) [
        | inl m ↦ dx a b e f l m same
        | inr (j, is, m) ↦ let one = at_n a e l in let other = after j f m in absurd (omega (arith, numbers, one, other))
      ]
      | inr (i, is, l) ↦ elim (get_joined xs ys b f q) as (λ _. a ≡ b) [
        | inl m ↦ let one = at_n b f m in let other = after i e l in absurd (omega (arith, numbers, one, other))
        | inr (j, also, m) ↦ let both = dy i j e f l m same in omega (arith, is, also, both)
      ]
    ]

distinct_one : (e : Entry) → Distinct (e ∷ [])
distinct_one e zero zero x y p q same = refl
distinct_one e zero (suc b) x y p q same = absurd (none-some y q)
distinct_one e (suc a) b x y p q same = absurd (none-some x p)

distinct_numbered : {X : Type 0} (number : Driver → ℕ) (f : ℕ → X → List Entry) → ((i : ℕ) (x : X) → AllOf (Has number i) (f i x)) → ((i : ℕ) (x : X) → Distinct (f i x)) → (first : ℕ) (xs : List X) → Distinct (numbered f first xs)
distinct_numbered number f own each first [] = λ a b e g p q same. absurd (none-some e p)
distinct_numbered number f own each first (x ∷ xs) =
    let after = all_numbered (After number first) f (suc first) xs (λ i y at k e there. let is = own (i + suc first) y k e there in omega (arith, is)) in
    distinct_joined number first (f first x) (numbered f (suc first) xs) (own first x) after (each first x) (distinct_numbered number f own each (suc first) xs)

distinct_places : (make : ℕ → Driver) → ((k : ℕ) → bit_number (make k) ≡ k) → (ns : List ℕ) → Distinct (places make ns)
distinct_places make is ns =
    distinct_numbered bit_number (place_at make) (λ k n. all_one (Has bit_number k) (record { net = n; place = make k }) (is k)) (λ k n. distinct_one (record { net = n; place = make k })) 0 ns

module _ (m : Module) where
  inputs_are : (P : Entry → Type 0) → ((k n : ℕ) → slice_get (inputs_of m) k ≡ Some n → P (record { net = n; place = Input k })) → AllOf P (places Input (inputs_of m))
  inputs_are P h = all_places_of P Input (inputs_of m) h

  distinct_slots : Distinct (slots_part m)
  distinct_slots =
      distinct_numbered item_number ram_places
      (λ i c. all_from_0 (Has item_number i) (slot_places i) c.slots (λ j s e. all_places_of (Has item_number i) (SlotOut i j) s.out (λ k n g. refl)))
      (λ i c. distinct_numbered port_number (slot_places i) (λ j s. all_places_of (Has port_number j) (SlotOut i j) s.out (λ k n g. refl)) (λ j s. distinct_places (SlotOut i j) (λ k. refl) s.out) 0 c.slots)
      0 m.rams

  distinct_reads : Distinct (numbered mem_places 0 m.mems)
  distinct_reads =
      distinct_numbered item_number mem_places
      (λ i x. all_from_0 (Has item_number i) (read_places i) x.reads (λ j r e. all_places_of (Has item_number i) (ReadOut i j) r.out (λ k n g. refl)))
      (λ i x. distinct_numbered port_number (read_places i) (λ j r. all_places_of (Has port_number j) (ReadOut i j) r.out (λ k n g. refl)) (λ j r. distinct_places (ReadOut i j) (λ k. refl) r.out) 0 x.reads)
      0 m.mems

  distinct_regs : Distinct (numbered reg_places 0 m.regs)
  distinct_regs = distinct_numbered item_number reg_places (λ i r. all_places_of (Has item_number i) (RegOut i) r.q (λ k n g. refl)) (λ i r. distinct_places (RegOut i) (λ k. refl) r.q) 0 m.regs

  distinct_combs : Distinct (numbered comb_places 0 m.combs)
  distinct_combs = distinct_numbered item_number comb_places (λ i c. all_places_of (Has item_number i) (CombOut i) c.y (λ k n g. refl)) (λ i c. distinct_places (CombOut i) (λ k. refl) c.y) 0 m.combs

  -- what holds of the entries of each kind
  slots_all : (P : Entry → Type 0) → ((i j k n : ℕ) → P (record { net = n; place = SlotOut i j k })) → AllOf P (slots_part m)
  slots_all P h = all_from_0 P ram_places m.rams (λ i c e. all_from_0 P (slot_places i) c.slots (λ j s g. all_places_of P (SlotOut i j) s.out (λ k n at. h i j k n)))

  reads_all : (P : Entry → Type 0) → ((i j k n : ℕ) → P (record { net = n; place = ReadOut i j k })) → AllOf P (numbered mem_places 0 m.mems)
  reads_all P h = all_from_0 P mem_places m.mems (λ i x e. all_from_0 P (read_places i) x.reads (λ j r g. all_places_of P (ReadOut i j) r.out (λ k n at. h i j k n)))

  regs_all : (P : Entry → Type 0) → ((i k n : ℕ) → P (record { net = n; place = RegOut i k })) → AllOf P (numbered reg_places 0 m.regs)
  regs_all P h = all_from_0 P reg_places m.regs (λ i r e. all_places_of P (RegOut i) r.q (λ k n at. h i k n))

  combs_all : (P : Entry → Type 0) → ((i k n : ℕ) → P (record { net = n; place = CombOut i k })) → AllOf P (numbered comb_places 0 m.combs)
  combs_all P h = all_from_0 P comb_places m.combs (λ i c e. all_places_of P (CombOut i) c.y (λ k n at. h i k n))

  reads_on : (P : Entry → Type 0) → ((i j k n : ℕ) → P (record { net = n; place = ReadOut i j k })) → ((i j k n : ℕ) → P (record { net = n; place = SlotOut i j k })) → AllOf P (reads_part m)
  reads_on P r s = all_joined P (numbered mem_places 0 m.mems) (slots_part m) (reads_all P r) (slots_all P s)

  regs_on : (P : Entry → Type 0) → ((i k n : ℕ) → P (record { net = n; place = RegOut i k })) → ((i j k n : ℕ) → P (record { net = n; place = ReadOut i j k })) → ((i j k n : ℕ) → P (record { net = n; place = SlotOut i j k })) → AllOf P (regs_part m)
  regs_on P q r s = all_joined P (numbered reg_places 0 m.regs) (reads_part m) (regs_all P q) (reads_on P r s)

  combs_on : (P : Entry → Type 0) → ((i k n : ℕ) → P (record { net = n; place = CombOut i k })) → ((i k n : ℕ) → P (record { net = n; place = RegOut i k })) → ((i j k n : ℕ) → P (record { net = n; place = ReadOut i j k })) → ((i j k n : ℕ) → P (record { net = n; place = SlotOut i j k })) → AllOf P (combs_part m)
  combs_on P c q r s = all_joined P (numbered comb_places 0 m.combs) (regs_part m) (combs_all P c) (regs_on P q r s)

  -- all places are apart
  distinct_all : Distinct (all_places m)
  distinct_all =
      let kind = kind_number in
      let reads = distinct_joined kind 4 (numbered mem_places 0 m.mems) (slots_part m) (reads_all (Has kind 4) (λ i j k n. refl)) (slots_all (After kind 4) (λ i j k n. omega arith)) distinct_reads distinct_slots in
      let regs = distinct_joined kind 3 (numbered reg_places 0 m.regs) (reads_part m) (regs_all (Has kind 3) (λ i k n. refl)) (reads_on (After kind 3) (λ i j k n. omega arith) (λ i j k n. omega arith)) distinct_regs reads in
      let combs = distinct_joined kind 2 (numbered comb_places 0 m.combs) (regs_part m) (combs_all (Has kind 2) (λ i k n. refl)) (regs_on (After kind 2) (λ i k n. omega arith) (λ i j k n. omega arith) (λ i j k n. omega arith)) distinct_combs regs in
      distinct_joined kind 1 (places Input (inputs_of m)) (combs_part m) (all_places_of (Has kind 1) Input (inputs_of m) (λ k n e. refl)) (combs_on (After kind 1) (λ i k n. omega arith) (λ i k n. omega arith) (λ i j k n. omega arith) (λ i j k n. omega arith)) (distinct_places Input (λ k. refl) (inputs_of m)) combs

  -- the table tells of each entry its place
  module _ (one : HasOneDriver m) where
    abbrev Told : Entry → Type 0
    Told e = one.driver e.net ≡ e.place

    told_slots : AllOf Told (slots_part m)
    told_slots = all_from_0 Told ram_places m.rams (λ i c e. all_from_0 Told (slot_places i) c.slots (λ j s g. all_places_of Told (SlotOut i j) s.out (one.slots i c e j s g)))

    told_reads : AllOf Told (numbered mem_places 0 m.mems)
    told_reads = all_from_0 Told mem_places m.mems (λ i x e. all_from_0 Told (read_places i) x.reads (λ j r g. all_places_of Told (ReadOut i j) r.out (one.reads i x e j r g)))

    told_regs : AllOf Told (numbered reg_places 0 m.regs)
    told_regs = all_from_0 Told reg_places m.regs (λ i r e. all_places_of Told (RegOut i) r.q (one.regs i r e))

    told_combs : AllOf Told (numbered comb_places 0 m.combs)
    told_combs = all_from_0 Told comb_places m.combs (λ i c e. all_places_of Told (CombOut i) c.y (one.combs i c e))

    told_all : AllOf Told (all_places m)
    told_all =
        let reads = all_joined Told (numbered mem_places 0 m.mems) (slots_part m) told_reads told_slots in
        let regs = all_joined Told (numbered reg_places 0 m.regs) (reads_part m) told_regs reads in
        let combs = all_joined Told (numbered comb_places 0 m.combs) (regs_part m) told_combs regs in
        all_joined Told (places Input (inputs_of m)) (combs_part m) (all_places_of Told Input (inputs_of m) one.inputs) combs

    nets_apart : AreApart (nets_in (all_places m))
    nets_apart a b n p q =
        let (e, at, is) = map_at (λ (z : Entry). z.net) (all_places m) a n p in
        let (f, there, also) = map_at (λ (z : Entry). z.net) (all_places m) b n q in
        let same = sym (told_all a e at) ∙ ap one.driver (is ∙ sym also) ∙ told_all b f there in
        distinct_all a b e f at there same

    pub driven_apart : AreApart (driven_nets m)
    driven_apart = subst AreApart (all_nets m) nets_apart

node_driven : (m : Module) → NetsWithin m → (j n : ℕ) → slice_get (node_nets m) j ≡ Some n → n < m.nets
node_driven m within j n at =
    let (i, p, k, is, g) = flat_at drives_of (nodes_of m) j n (subst (λ ns. slice_get ns j ≡ Some n) (sym (nodes_drive m)) at) in
    within.drives i p is n (k, g)

pub below_apart : (m : Module) → NetsWithin m → InputsWithin m → HasOneDriver m → AreBelowApart m.nets (driven_nets m)
below_apart m within inputs one = record {
  below = λ k n at. elim (get_joined (inputs_of m) (node_nets m) k n at) as (λ _. n < m.nets) [
    | inl l ↦ inputs k n l
    | inr (j, is, r) ↦ node_driven m within j n r
  ];
  apart = driven_apart m one;
}
