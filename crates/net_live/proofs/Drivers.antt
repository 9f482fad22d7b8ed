-- Where no net is driven twice, a table tells the one place that drives each net.
use Rattle.std.proofs.Common.{◌≡◌, ℕ, zero, suc, ◌+◌, true, cond, List, [], ◌∷◌, ◌++◌, length, map, Some, refl, sym, ap, subst, ◌∙◌, arith}
use Rattle.std.specs.Prelude.{slice_get, nat_eq}
use Rattle.std.specs.List.{flat_map, list_all}
use Rattle.std.proofs.lemmas.Bool.{ne_eqb}
use Rattle.std.proofs.lemmas.List.{map-append}
use Rattle.std.proofs.lemmas.List.Folds.{flat_map-map}
use Rattle.std.proofs.lemmas.Grind.{flat_map-append}
use Rattle.std.proofs.lemmas.Option.{none-some, same_Some}
use Rattle.net_core.specs.declared.cells.Comb.{Comb}
use Rattle.net_core.specs.declared.cells.Reg.{Reg}
use Rattle.net_core.specs.declared.mems.Mem.{Mem}
use Rattle.net_core.specs.declared.mems.RdPort.{RdPort}
use Rattle.net_core.specs.declared.rams.RamCell.{RamCell}
use Rattle.net_core.specs.declared.rams.SlotUse.{SlotUse}
use Rattle.net_core.specs.declared.modules.Module.{Module}
use Rattle.net_core.specs.Nodes.{Node, comb_node, reg_node, read_node, slot_node, mem_nodes, ram_nodes, nodes_of, Drives, NetsWithin}
use Rattle.net_core.specs.Drivers.{Driver, Free, Input, CombOut, RegOut, ReadOut, SlotOut, HasOneDriver}
use Rattle.net_core.specs.Ports.{inputs_of}
use Rattle.net_core.specs.Valid.{AreApart}
use Rattle.net_core.proofs.Basics.{get_left, get_right, all_at}
use Rattle.net_core.proofs.Ordering.{map_get, flat_get}
use Rattle.net_live.specs.Driving.{read_nets, slot_nets, node_nets, driven_nets, AreBelowApart, needs_below}
use Rattle.net_live.proofs.Needing.{net_below}

-- a net, and a place that drives it
pub record Entry : Type 0 where
  pub net : ℕ
  pub place : Driver

abbrev pub nets_in : List Entry → List ℕ
nets_in es = map (λ (e : Entry). e.net) es

abbrev pub Among : List Entry → Entry → Type 0
Among es e = (k : ℕ) × (slice_get es k ≡ Some e)

-- what each item gives, by its number
abbrev pub numbered : {X : Type 0} → (ℕ → X → List Entry) → ℕ → List X → List Entry
numbered f i [] = []
numbered f i (x ∷ xs) = f i x ++ numbered f (suc i) xs

-- the places of a list of nets
abbrev pub place_at : (ℕ → Driver) → ℕ → ℕ → List Entry
place_at make k n = record { net = n; place = make k } ∷ []

abbrev pub places : (ℕ → Driver) → List ℕ → List Entry
places make ns = numbered (place_at make) 0 ns

abbrev pub comb_places : ℕ → Comb → List Entry
comb_places i c = places (CombOut i) c.y

abbrev pub reg_places : ℕ → Reg → List Entry
reg_places i r = places (RegOut i) r.q

abbrev pub read_places : ℕ → ℕ → RdPort → List Entry
read_places i j r = places (ReadOut i j) r.out

abbrev pub mem_places : ℕ → Mem → List Entry
mem_places i x = numbered (read_places i) 0 x.reads

abbrev pub slot_places : ℕ → ℕ → SlotUse → List Entry
slot_places i j s = places (SlotOut i j) s.out

abbrev pub ram_places : ℕ → RamCell → List Entry
ram_places i c = numbered (slot_places i) 0 c.slots

-- the nets of places
nets_joined : (xs ys : List Entry) (ns ms : List ℕ) → nets_in xs ≡ ns → nets_in ys ≡ ms → nets_in (xs ++ ys) ≡ ns ++ ms
nets_joined xs ys ns ms h g = map-append (λ (e : Entry). e.net) xs ys ∙ (λ i. h i ++ g i)

numbered_nets : {X : Type 0} (f : ℕ → X → List Entry) (g : X → List ℕ) → ((i : ℕ) (x : X) → nets_in (f i x) ≡ g x) → (i : ℕ) (xs : List X) → nets_in (numbered f i xs) ≡ flat_map g xs
numbered_nets f g h i [] = refl
numbered_nets f g h i (x ∷ xs) = nets_joined (f i x) (numbered f (suc i) xs) (g x) (flat_map g xs) (h i x) (numbered_nets f g h (suc i) xs)

place_nets : (make : ℕ → Driver) (k : ℕ) (ns : List ℕ) → nets_in (numbered (place_at make) k ns) ≡ ns
place_nets make k [] = refl
place_nets make k (n ∷ ns) = ap (λ ms. n ∷ ms) (place_nets make (suc k) ns)

-- what an item gives is among what all give
in_left : (xs ys : List Entry) (e : Entry) → Among xs e → Among (xs ++ ys) e
in_left xs ys e (k, h) = (k, get_left xs ys k e h)

in_right : (xs ys : List Entry) (e : Entry) → Among ys e → Among (xs ++ ys) e
in_right xs ys e (k, h) = (length xs + k, get_right xs ys k ∙ h)

numbered_from : {X : Type 0} (f : ℕ → X → List Entry) (first : ℕ) (xs : List X) (i : ℕ) (x : X) (e : Entry) → slice_get xs i ≡ Some x → Among (f (i + first) x) e → Among (numbered f first xs) e
numbered_from f first [] i x e h g = absurd (none-some x h)
numbered_from f first (y ∷ ys) zero x e h g =
    let here : 0 + first ≡ first = omega arith in
    let one = subst (λ n. Among (f n x) e) here g in
    in_left (f first y) (numbered f (suc first) ys) e (subst (λ z. Among (f first z) e) (sym (same_Some y x h)) one)
numbered_from f first (y ∷ ys) (suc i) x e h g =
    let there : suc i + first ≡ i + suc first = omega arith in
    in_right (f first y) (numbered f (suc first) ys) e (numbered_from f (suc first) ys i x e h (subst (λ n. Among (f n x) e) there g))

numbered_in : {X : Type 0} (f : ℕ → X → List Entry) (xs : List X) (i : ℕ) (x : X) (e : Entry) → slice_get xs i ≡ Some x → Among (f i x) e → Among (numbered f 0 xs) e
numbered_in f xs i x e h g =
    let same : i ≡ i + 0 = omega arith in
    numbered_from f 0 xs i x e h (subst (λ n. Among (f n x) e) same g)

place_in : (make : ℕ → Driver) (ns : List ℕ) (k n : ℕ) → slice_get ns k ≡ Some n → Among (places make ns) (record { net = n; place = make k })
place_in make ns k n h = numbered_in (place_at make) ns k n (record { net = n; place = make k }) h (0, refl)

-- the first place of a net is the only one, where no net stands twice
abbrev first_place : List Entry → ℕ → Driver
first_place [] n = Free
first_place (e ∷ es) n = cond (nat_eq e.net n) e.place (first_place es n)

same_eq : (n : ℕ) → nat_eq n n ≡ true
same_eq n = grind arith

found_at : (es : List Entry) → AreApart (nets_in es) → (k : ℕ) (e : Entry) → slice_get es k ≡ Some e → first_place es e.net ≡ e.place
found_at [] apart k e h = absurd (none-some e h)
found_at (f ∷ es) apart zero e h =
    subst (λ (z : Entry). cond (nat_eq f.net z.net) f.place (first_place es z.net) ≡ z.place) (same_Some f e h) (ap (λ t. cond t f.place (first_place es f.net)) (same_eq f.net))
found_at (f ∷ es) apart (suc k) e h =
    let tail : AreApart (nets_in es) = λ i j x p q. let same = apart (suc i) (suc j) x p q in omega (arith, same) in
    let there = map_get (λ (z : Entry). z.net) es k e h in
    let other = ne_eqb f.net e.net (λ same. let clash = apart 0 (suc k) e.net (ap (λ n. Some n) same) there in omega (arith, clash)) in
    ap (λ t. cond t f.place (first_place es e.net)) other ∙ found_at es tail k e h

found : (es : List Entry) → AreApart (nets_in es) → (e : Entry) → Among es e → first_place es e.net ≡ e.place
found es apart e (k, h) = found_at es apart k e h

module _ (m : Module) where
  abbrev pub slots_part : List Entry
  slots_part = numbered ram_places 0 m.rams

  abbrev pub reads_part : List Entry
  reads_part = numbered mem_places 0 m.mems ++ slots_part

  abbrev pub regs_part : List Entry
  regs_part = numbered reg_places 0 m.regs ++ reads_part

  abbrev pub combs_part : List Entry
  combs_part = numbered comb_places 0 m.combs ++ regs_part

  abbrev pub all_places : List Entry
  all_places = places Input (inputs_of m) ++ combs_part

  pub all_nets : nets_in all_places ≡ driven_nets m
  all_nets =
      let slots = numbered_nets ram_places slot_nets (λ i c. numbered_nets (slot_places i) (λ (s : SlotUse). s.out) (λ j s. place_nets (SlotOut i j) 0 s.out) 0 c.slots) 0 m.rams in
      let reads = numbered_nets mem_places read_nets (λ i x. numbered_nets (read_places i) (λ (r : RdPort). r.out) (λ j r. place_nets (ReadOut i j) 0 r.out) 0 x.reads) 0 m.mems in
      let regs = numbered_nets reg_places (λ (r : Reg). r.q) (λ i r. place_nets (RegOut i) 0 r.q) 0 m.regs in
      let combs = numbered_nets comb_places (λ (c : Comb). c.y) (λ i c. place_nets (CombOut i) 0 c.y) 0 m.combs in
      let third = nets_joined (numbered mem_places 0 m.mems) slots_part _ _ reads slots in
      let second = nets_joined (numbered reg_places 0 m.regs) reads_part _ _ regs third in
      let first = nets_joined (numbered comb_places 0 m.combs) regs_part _ _ combs second in
      nets_joined (places Input (inputs_of m)) combs_part _ _ (place_nets Input 0 (inputs_of m)) first

  -- each place is among all
  input_in : (e : Entry) → Among (places Input (inputs_of m)) e → Among all_places e
  input_in e h = in_left (places Input (inputs_of m)) combs_part e h

  after_inputs : (e : Entry) → Among combs_part e → Among all_places e
  after_inputs e h = in_right (places Input (inputs_of m)) combs_part e h

  comb_in : (e : Entry) → Among (numbered comb_places 0 m.combs) e → Among all_places e
  comb_in e h = after_inputs e (in_left (numbered comb_places 0 m.combs) regs_part e h)

  after_combs : (e : Entry) → Among regs_part e → Among all_places e
  after_combs e h = after_inputs e (in_right (numbered comb_places 0 m.combs) regs_part e h)

  reg_in : (e : Entry) → Among (numbered reg_places 0 m.regs) e → Among all_places e
  reg_in e h = after_combs e (in_left (numbered reg_places 0 m.regs) reads_part e h)

  after_regs : (e : Entry) → Among reads_part e → Among all_places e
  after_regs e h = after_combs e (in_right (numbered reg_places 0 m.regs) reads_part e h)

  read_in : (e : Entry) → Among (numbered mem_places 0 m.mems) e → Among all_places e
  read_in e h = after_regs e (in_left (numbered mem_places 0 m.mems) slots_part e h)

  slot_in : (e : Entry) → Among slots_part e → Among all_places e
  slot_in e h = after_regs e (in_right (numbered mem_places 0 m.mems) slots_part e h)

  pub one_driver : AreApart (driven_nets m) → HasOneDriver m
  one_driver apart =
      let found_there = found all_places (subst AreApart (sym all_nets) apart) in
      record {
        driver = first_place all_places;
        inputs = λ k n h. found_there (record { net = n; place = Input k }) (input_in (record { net = n; place = Input k }) (place_in Input (inputs_of m) k n h));
        combs = λ i c g k n h. let e : Entry = record { net = n; place = CombOut i k } in found_there e (comb_in e (numbered_in comb_places m.combs i c e g (place_in (CombOut i) c.y k n h)));
        regs = λ i r g k n h. let e : Entry = record { net = n; place = RegOut i k } in found_there e (reg_in e (numbered_in reg_places m.regs i r e g (place_in (RegOut i) r.q k n h)));
        reads = λ i x g j r p k n h. let e : Entry = record { net = n; place = ReadOut i j k } in found_there e (read_in e (numbered_in mem_places m.mems i x e g (numbered_in (read_places i) x.reads j r e p (place_in (ReadOut i j) r.out k n h))));
        slots = λ i c g j s p k n h. let e : Entry = record { net = n; place = SlotOut i j k } in found_there e (slot_in e (numbered_in ram_places m.rams i c e g (numbered_in (slot_places i) c.slots j s e p (place_in (SlotOut i j) s.out k n h))));
      }

-- what nodes drive
abbrev pub drives_of : Node → List ℕ
drives_of p = p.drives

flat_flat : {X Y : Type 0} (node : Y → Node) (f : X → List Y) (xs : List X) → flat_map drives_of (flat_map (λ x. map node (f x)) xs) ≡ flat_map (λ x. flat_map (λ y. drives_of (node y)) (f x)) xs
flat_flat node f [] = refl
flat_flat node f (x ∷ xs) =
    let front = flat_map-map drives_of node (f x) in
    let rest = flat_flat node f xs in
    flat_map-append drives_of (map node (f x)) (flat_map (λ y. map node (f y)) xs) ∙ (λ i. front i ++ rest i)

pub nodes_drive : (m : Module) → flat_map drives_of (nodes_of m) ≡ node_nets m
nodes_drive m =
    let slots = flat_flat slot_node (λ (c : RamCell). c.slots) m.rams in
    let reads = flat_flat read_node (λ (x : Mem). x.reads) m.mems in
    let third = flat_map-append drives_of (flat_map mem_nodes m.mems) (flat_map ram_nodes m.rams) ∙ (λ i. reads i ++ slots i) in
    let regs = flat_map-map drives_of reg_node m.regs in
    let second = flat_map-append drives_of (map reg_node m.regs) (flat_map mem_nodes m.mems ++ flat_map ram_nodes m.rams) ∙ (λ i. regs i ++ third i) in
    let combs = flat_map-map drives_of comb_node m.combs in
    flat_map-append drives_of (map comb_node m.combs) (map reg_node m.regs ++ (flat_map mem_nodes m.mems ++ flat_map ram_nodes m.rams)) ∙ (λ i. combs i ++ second i)

node_drive : (m : Module) (i : ℕ) (p : Node) → slice_get (nodes_of m) i ≡ Some p → (n : ℕ) → Drives p n → (k : ℕ) × (slice_get (driven_nets m) k ≡ Some n)
node_drive m i p h n (k, g) =
    let at = flat_get drives_of (nodes_of m) i p k n h g in
    let there = subst (λ ns. slice_get ns at.0 ≡ Some n) (nodes_drive m) at.1 in
    (length (inputs_of m) + at.0, get_right (inputs_of m) (node_nets m) at.0 ∙ there)

pub nets_within : (m : Module) → AreBelowApart m.nets (driven_nets m) → list_all (needs_below m.nets) (nodes_of m) ≡ true → NetsWithin m
nets_within m driven needs = record {
  drives = λ i p h n d. let at = node_drive m i p h n d in driven.below at.0 n at.1;
  needs = λ i p h n has. net_below m.nets p (all_at (needs_below m.nets) (nodes_of m) needs i p h) n has;
}
