-- The places of the nodes stand in the order of the nodes, so an order of the nodes gives one of the places.
use Rattle.std.proofs.Common.{◌≡◌, ℕ, zero, suc, ◌+◌, ◌<◌, inl, inr, List, [], ◌∷◌, ◌++◌, map, length, Option, Some, None, refl, sym, ap, ◌∙◌, subst, arith, length-append}
use Rattle.std.specs.Prelude.{slice_get, option_map, option_and_then}
use Rattle.std.specs.List.{flat_map, range_with_len}
use Rattle.std.proofs.lemmas.Option.{same_Some, slice_get-get_or}
use Rattle.net_core.specs.declared.cells.Comb.{Comb}
use Rattle.net_core.specs.declared.cells.Reg.{Reg}
use Rattle.net_core.specs.declared.mems.Mem.{Mem}
use Rattle.net_core.specs.declared.mems.RdPort.{RdPort}
use Rattle.net_core.specs.declared.rams.RamCell.{RamCell}
use Rattle.net_core.specs.declared.rams.SlotUse.{SlotUse}
use Rattle.net_core.specs.declared.modules.Module.{Module}
use Rattle.net_core.specs.Nodes.{Node, comb_node, reg_node, read_node, slot_node, mem_nodes, ram_nodes, nodes_of, IsNodeOrder}
use Rattle.net_core.proofs.Basics.{get_left, get_right, get_joined, get_below, get_within}
use Rattle.net_core.proofs.Ordering.{map_at, map_get}
use Rattle.sim_settle.specs.declared.places.NodePlace.{NodePlace}
use Rattle.sim_settle.specs.declared.places.NodePlace.TheVariants as place
use Rattle.sim_settle.specs.Places.{node_at, HasNode, each_place, all_places, read_places, slot_places, places_of, place_by, IsPlaceOrder}

-- counted places
range_at : (a n k v : ℕ) → slice_get (range_with_len a n) k ≡ Some v → (v ≡ a + k) × (k < n)
range_at a zero k v h = cc
range_at a (suc n) zero v h = let e = same_Some a v h in (omega (arith, e), omega arith)
range_at a (suc n) (suc k) v h = let r = range_at (a + 1) n k v h in (omega (arith, r.0), omega (arith, r.1))

range_get : (a n k : ℕ) → k < n → slice_get (range_with_len a n) k ≡ Some (a + k)
range_get a zero k h = absurd (omega arith)
range_get a (suc n) zero h = let e : a ≡ a + 0 = omega arith in ap Some e
range_get a (suc n) (suc k) h = let e : a + 1 + k ≡ a + suc k = omega arith in range_get (a + 1) n k (omega arith) ∙ ap Some e

each_at : (f : ℕ → NodePlace) (n k : ℕ) (at : NodePlace) → slice_get (each_place f n) k ≡ Some at → (at ≡ f k) × (k < n)
each_at f n k at h =
    let w = map_at f (range_with_len 0 n) k at h in
    let r = range_at 0 n k w.0 w.1 in
    let e : w.0 ≡ k = omega (arith, r.0) in
    (sym w.2 ∙ ap f e, r.1)

each_get : (f : ℕ → NodePlace) (n k : ℕ) → k < n → slice_get (each_place f n) k ≡ Some (f k)
each_get f n k lt = let e : 0 + k ≡ k = omega arith in map_get f (range_with_len 0 n) k (0 + k) (range_get 0 n k lt) ∙ ap (λ i. Some (f i)) e

length_range : (f : ℕ → NodePlace) (a n : ℕ) → length (map f (range_with_len a n)) ≡ n
length_range f a zero = refl
length_range f a (suc n) = ap suc (length_range f (a + 1) n)

length_map : {X Y : Type 0} (f : X → Y) (xs : List X) → length (map f xs) ≡ length xs
length_map f [] = refl
length_map f (x ∷ xs) = ap suc (length_map f xs)

-- how many stand before an item, each item as large as this, and in all items
abbrev before : {X : Type 0} → (X → ℕ) → List X → ℕ → ℕ
before size [] i = 0
before size (x ∷ xs) zero = 0
before size (x ∷ xs) (suc i) = size x + before size xs i

abbrev total : {X : Type 0} → (X → ℕ) → List X → ℕ
total size [] = 0
total size (x ∷ xs) = size x + total size xs

module _ {X : Type 0} (g : ℕ → ℕ → NodePlace) (size : X → ℕ) where
  abbrev spread : ℕ → List X → List NodePlace
  spread from xs = all_places (λ i x. each_place (g i) (size x)) from xs

  spread_length : (from : ℕ) (xs : List X) → length (spread from xs) ≡ total size xs
  spread_length from [] = refl
  spread_length from (x ∷ xs) =
      let joined = length-append (each_place (g from) (size x)) (spread (from + 1) xs) in
      let here = length_range (g from) 0 (size x) in
      let rest = spread_length (from + 1) xs in
      omega (arith, joined, here, rest)

  spread_at : (from : ℕ) (xs : List X) (k : ℕ) (at : NodePlace) → slice_get (spread from xs) k ≡ Some at → (i : ℕ) × (x : X) × (j : ℕ) × (slice_get xs i ≡ Some x) × (j < size x) × (at ≡ g (from + i) j) × (k ≡ before size xs i + j)
  spread_at from [] k at h = cc
  spread_at from (x ∷ xs) k at h =
      elim (get_joined (each_place (g from) (size x)) (spread (from + 1) xs) k at h) [
        | inl here ↦
            let w = each_at (g from) (size x) k at here in
            let e : from ≡ from + 0 = omega arith in
            (0, x, k, refl, w.1, w.0 ∙ ap (λ f. g f k) e, omega arith)
        | inr (l, e, later) ↦
            let w = spread_at (from + 1) xs l at later in
            let s : from + 1 + w.0 ≡ from + suc w.0 = omega arith in
            let long = length_range (g from) 0 (size x) in
            (suc w.0, w.1, w.2, w.3, w.4, w.5 ∙ ap (λ f. g f w.2) s, omega (arith, e, long, w.6))
      ]

  spread_get : (from : ℕ) (xs : List X) (i : ℕ) (x : X) (j : ℕ) → slice_get xs i ≡ Some x → j < size x → slice_get (spread from xs) (before size xs i + j) ≡ Some (g (from + i) j)
  spread_get from [] i x j h lt = cc
  spread_get from (y ∷ ys) zero x j h lt =
      let same = ap size (same_Some y x h) in
      let e : from ≡ from + 0 = omega arith in
      let z : 0 + j ≡ j = omega arith in
      ap (slice_get (spread from (y ∷ ys))) z ∙ get_left (each_place (g from) (size y)) (spread (from + 1) ys) j (g from j) (each_get (g from) (size y) j (omega (arith, same, lt))) ∙ ap (λ f. Some (g f j)) e
  spread_get from (y ∷ ys) (suc i) x j h lt =
      let long = length_range (g from) 0 (size y) in
      let e : size y + before size ys i + j ≡ length (each_place (g from) (size y)) + (before size ys i + j) = omega (arith, long) in
      let s : from + 1 + i ≡ from + suc i = omega arith in
      ap (slice_get (spread from (y ∷ ys))) e ∙ get_right (each_place (g from) (size y)) (spread (from + 1) ys) (before size ys i + j) ∙ spread_get (from + 1) ys i x j h lt ∙ ap (λ f. Some (g f j)) s

-- lists of nodes in the same way
module _ {X Y : Type 0} (f : X → List Y) (size : X → ℕ) (sized : (x : X) → length (f x) ≡ size x) where
  flat_length : (xs : List X) → length (flat_map f xs) ≡ total size xs
  flat_length [] = refl
  flat_length (x ∷ xs) =
      let joined = length-append (f x) (flat_map f xs) in
      let here = sized x in
      let rest = flat_length xs in
      omega (arith, joined, here, rest)

  flat_at : (xs : List X) (i : ℕ) (x : X) (j : ℕ) (y : Y) → slice_get xs i ≡ Some x → slice_get (f x) j ≡ Some y → slice_get (flat_map f xs) (before size xs i + j) ≡ Some y
  flat_at [] i x j y h g = cc
  flat_at (z ∷ zs) zero x j y h g =
      let e : 0 + j ≡ j = omega arith in
      ap (slice_get (flat_map f (z ∷ zs))) e ∙ get_left (f z) (flat_map f zs) j y (ap (λ w. slice_get (f w) j) (same_Some z x h) ∙ g)
  flat_at (z ∷ zs) (suc i) x j y h g =
      let long = sized z in
      let e : size z + before size zs i + j ≡ length (f z) + (before size zs i + j) = omega (arith, long) in
      ap (slice_get (flat_map f (z ∷ zs))) e ∙ get_right (f z) (flat_map f zs) (before size zs i + j) ∙ flat_at zs i x j y h g

map_some : {X Y : Type 0} (f : X → Y) (o : Option X) (y : Y) → option_map f o ≡ Some y → (x : X) × (o ≡ Some x) × (f x ≡ y)
map_some f None y h = cc
map_some f (Some x) y h = (x, refl, same_Some (f x) y h)

then_some : {X Y : Type 0} (f : X → Option Y) (o : Option X) (y : Y) → option_and_then f o ≡ Some y → (x : X) × (o ≡ Some x) × (f x ≡ Some y)
then_some f None y h = cc
then_some f (Some x) y h = (x, refl, h)

-- the cell of a place that has a node
pub comb_of : (m : Module) (i : ℕ) (p : Node) → node_at m (place.Comb i) ≡ Some p → (c : Comb) × (slice_get m.combs i ≡ Some c) × (comb_node c ≡ p)
comb_of m i p h = map_some comb_node (slice_get m.combs i) p h

pub reg_of : (m : Module) (i : ℕ) (p : Node) → node_at m (place.Reg i) ≡ Some p → (r : Reg) × (slice_get m.regs i ≡ Some r) × (reg_node r ≡ p)
reg_of m i p h = map_some reg_node (slice_get m.regs i) p h

pub read_of : (m : Module) (i j : ℕ) (p : Node) → node_at m (place.Read i j) ≡ Some p → (x : Mem) × (r : RdPort) × (slice_get m.mems i ≡ Some x) × (slice_get x.reads j ≡ Some r) × (read_node r ≡ p)
read_of m i j p h =
    let w = then_some (λ (x : Mem). option_map read_node (slice_get x.reads j)) (slice_get m.mems i) p h in
    let r = map_some read_node (slice_get w.0.reads j) p w.2 in
    (w.0, r.0, w.1, r.1, r.2)

pub slot_of : (m : Module) (i j : ℕ) (p : Node) → node_at m (place.Slot i j) ≡ Some p → (c : RamCell) × (s : SlotUse) × (slice_get m.rams i ≡ Some c) × (slice_get c.slots j ≡ Some s) × (slot_node s ≡ p)
slot_of m i j p h =
    let w = then_some (λ (c : RamCell). option_map slot_node (slice_get c.slots j)) (slice_get m.rams i) p h in
    let s = map_some slot_node (slice_get w.0.slots j) p w.2 in
    (w.0, s.0, w.1, s.1, s.2)

module _ (m : Module) where
  abbrev reads_in : Mem → ℕ
  reads_in x = length x.reads

  abbrev slots_in : RamCell → ℕ
  slots_in c = length c.slots

  -- the number of the node at a place
  abbrev spot : NodePlace → ℕ
  spot (place.Comb i) = i
  spot (place.Reg i) = length m.combs + i
  spot (place.Read i j) = length m.combs + (length m.regs + (before reads_in m.mems i + j))
  spot (place.Slot i j) = length m.combs + (length m.regs + (total reads_in m.mems + (before slots_in m.rams i + j)))

  abbrev comb_part : List NodePlace
  comb_part = each_place place.Comb (length m.combs)

  abbrev reg_part : List NodePlace
  reg_part = each_place place.Reg (length m.regs)

  abbrev read_part : List NodePlace
  read_part = all_places read_places 0 m.mems

  abbrev slot_part : List NodePlace
  slot_part = all_places slot_places 0 m.rams

  combs_long : length comb_part ≡ length m.combs
  combs_long = length_range place.Comb 0 (length m.combs)

  regs_long : length reg_part ≡ length m.regs
  regs_long = length_range place.Reg 0 (length m.regs)

  reads_long : length read_part ≡ total reads_in m.mems
  reads_long = spread_length place.Read reads_in 0 m.mems

  abbrev node_combs : List Node
  node_combs = map comb_node m.combs

  abbrev node_regs : List Node
  node_regs = map reg_node m.regs

  abbrev node_reads : List Node
  node_reads = flat_map mem_nodes m.mems

  abbrev node_slots : List Node
  node_slots = flat_map ram_nodes m.rams

  node_reads_long : length node_reads ≡ total reads_in m.mems
  node_reads_long = flat_length mem_nodes reads_in (λ x. length_map read_node x.reads) m.mems

  same_length : length (places_of m) ≡ length (nodes_of m)
  same_length =
      let a1 = length-append comb_part (reg_part ++ (read_part ++ slot_part)) in
      let a2 = length-append reg_part (read_part ++ slot_part) in
      let a3 = length-append read_part slot_part in
      let b1 = length-append node_combs (node_regs ++ (node_reads ++ node_slots)) in
      let b2 = length-append node_regs (node_reads ++ node_slots) in
      let b3 = length-append node_reads node_slots in
      let c1 = combs_long in
      let c2 = regs_long in
      let c3 = reads_long in
      let c4 = spread_length place.Slot slots_in 0 m.rams in
      let d1 = length_map comb_node m.combs in
      let d2 = length_map reg_node m.regs in
      let d3 = node_reads_long in
      let d4 = flat_length ram_nodes slots_in (λ c. length_map slot_node c.slots) m.rams in
      omega (arith, a1, a2, a3, b1, b2, b3, c1, c2, c3, c4, d1, d2, d3, d4)

  -- a place that stands among the places stands at its node's number, and has a node
  place_is : (k : ℕ) (at : NodePlace) → slice_get (places_of m) k ≡ Some at → (k ≡ spot at) × HasNode m at
  place_is k at h =
      elim (get_joined comb_part (reg_part ++ (read_part ++ slot_part)) k at h) [
        | inl g ↦
            let w = each_at place.Comb (length m.combs) k at g in
            let c = get_within m.combs k w.1 in
            let P : NodePlace → Type 0 = λ q. (k ≡ spot q) × HasNode m q in
            subst P (sym w.0) (refl, (comb_node c.0, ap (option_map comb_node) c.1))
        | inr (k1, e1, h1) ↦ elim (get_joined reg_part (read_part ++ slot_part) k1 at h1) [
          | inl g ↦
              let w = each_at place.Reg (length m.regs) k1 at g in
              let r = get_within m.regs k1 w.1 in
              let long = combs_long in
              let P : NodePlace → Type 0 = λ q. (k ≡ spot q) × HasNode m q in
              subst P (sym w.0) (omega (arith, e1, long), (reg_node r.0, ap (option_map reg_node) r.1))
          | inr (k2, e2, h2) ↦ elim (get_joined read_part slot_part k2 at h2) [
            | inl g ↦
                let w = spread_at place.Read reads_in 0 m.mems k2 at g in
                let r = get_within w.1.reads w.2 w.4 in
                let z : 0 + w.0 ≡ w.0 = omega arith in
                let long = combs_long in
                let longer = regs_long in
                let P : NodePlace → Type 0 = λ q. (k ≡ spot q) × HasNode m q in
                subst P (sym (w.5 ∙ ap (λ i. place.Read i w.2) z)) (omega (arith, e1, e2, long, longer, w.6), (read_node r.0, ap (option_and_then (λ (x : Mem). option_map read_node (slice_get x.reads w.2))) w.3 ∙ ap (option_map read_node) r.1))
            | inr (k3, e3, h3) ↦
                let w = spread_at place.Slot slots_in 0 m.rams k3 at h3 in
                let s = get_within w.1.slots w.2 w.4 in
                let z : 0 + w.0 ≡ w.0 = omega arith in
                let long = combs_long in
                let longer = regs_long in
                let longest = reads_long in
                let P : NodePlace → Type 0 = λ q. (k ≡ spot q) × HasNode m q in
                subst P (sym (w.5 ∙ ap (λ i. place.Slot i w.2) z)) (omega (arith, e1, e2, e3, long, longer, longest, w.6), (slot_node s.0, ap (option_and_then (λ (c : RamCell). option_map slot_node (slice_get c.slots w.2))) w.3 ∙ ap (option_map slot_node) s.1))
          ]
        ]
      ]

  in_regs : (k : ℕ) → slice_get (places_of m) (length m.combs + k) ≡ slice_get (reg_part ++ (read_part ++ slot_part)) k
  in_regs k = ap (λ l. slice_get (places_of m) (l + k)) (sym combs_long) ∙ get_right comb_part (reg_part ++ (read_part ++ slot_part)) k

  in_reads : (k : ℕ) → slice_get (places_of m) (length m.combs + (length m.regs + k)) ≡ slice_get (read_part ++ slot_part) k
  in_reads k = in_regs (length m.regs + k) ∙ ap (λ l. slice_get (reg_part ++ (read_part ++ slot_part)) (l + k)) (sym regs_long) ∙ get_right reg_part (read_part ++ slot_part) k

  in_slots : (k : ℕ) → slice_get (places_of m) (length m.combs + (length m.regs + (total reads_in m.mems + k))) ≡ slice_get slot_part k
  in_slots k = in_reads (total reads_in m.mems + k) ∙ ap (λ l. slice_get (read_part ++ slot_part) (l + k)) (sym reads_long) ∙ get_right read_part slot_part k

  place_get : (at : NodePlace) (p : Node) → node_at m at ≡ Some p → slice_get (places_of m) (spot at) ≡ Some at
  place_get (place.Comb i) p h =
      let w = comb_of m i p h in
      get_left comb_part (reg_part ++ (read_part ++ slot_part)) i (place.Comb i) (each_get place.Comb (length m.combs) i (get_below m.combs i w.0 w.1))
  place_get (place.Reg i) p h =
      let w = reg_of m i p h in
      in_regs i ∙ get_left reg_part (read_part ++ slot_part) i (place.Reg i) (each_get place.Reg (length m.regs) i (get_below m.regs i w.0 w.1))
  place_get (place.Read i j) p h =
      let w = read_of m i j p h in
      let z : 0 + i ≡ i = omega arith in
      in_reads (before reads_in m.mems i + j) ∙ get_left read_part slot_part (before reads_in m.mems i + j) (place.Read i j) (spread_get place.Read reads_in 0 m.mems i w.0 j w.2 (get_below w.0.reads j w.1 w.3) ∙ ap (λ a. Some (place.Read a j)) z)
  place_get (place.Slot i j) p h =
      let w = slot_of m i j p h in
      let z : 0 + i ≡ i = omega arith in
      in_slots (before slots_in m.rams i + j) ∙ spread_get place.Slot slots_in 0 m.rams i w.0 j w.2 (get_below w.0.slots j w.1 w.3) ∙ ap (λ a. Some (place.Slot a j)) z

  among_regs : (k : ℕ) → slice_get (nodes_of m) (length m.combs + k) ≡ slice_get (node_regs ++ (node_reads ++ node_slots)) k
  among_regs k = ap (λ l. slice_get (nodes_of m) (l + k)) (sym (length_map comb_node m.combs)) ∙ get_right node_combs (node_regs ++ (node_reads ++ node_slots)) k

  among_reads : (k : ℕ) → slice_get (nodes_of m) (length m.combs + (length m.regs + k)) ≡ slice_get (node_reads ++ node_slots) k
  among_reads k = among_regs (length m.regs + k) ∙ ap (λ l. slice_get (node_regs ++ (node_reads ++ node_slots)) (l + k)) (sym (length_map reg_node m.regs)) ∙ get_right node_regs (node_reads ++ node_slots) k

  among_slots : (k : ℕ) → slice_get (nodes_of m) (length m.combs + (length m.regs + (total reads_in m.mems + k))) ≡ slice_get node_slots k
  among_slots k = among_reads (total reads_in m.mems + k) ∙ ap (λ l. slice_get (node_reads ++ node_slots) (l + k)) (sym node_reads_long) ∙ get_right node_reads node_slots k

  node_get : (at : NodePlace) (p : Node) → node_at m at ≡ Some p → slice_get (nodes_of m) (spot at) ≡ Some p
  node_get (place.Comb i) p h =
      let w = comb_of m i p h in
      get_left node_combs (node_regs ++ (node_reads ++ node_slots)) i p (map_get comb_node m.combs i w.0 w.1 ∙ ap Some w.2)
  node_get (place.Reg i) p h =
      let w = reg_of m i p h in
      among_regs i ∙ get_left node_regs (node_reads ++ node_slots) i p (map_get reg_node m.regs i w.0 w.1 ∙ ap Some w.2)
  node_get (place.Read i j) p h =
      let w = read_of m i j p h in
      among_reads (before reads_in m.mems i + j) ∙ get_left node_reads node_slots (before reads_in m.mems i + j) p (flat_at mem_nodes reads_in (λ x. length_map read_node x.reads) m.mems i w.0 j p w.2 (map_get read_node w.0.reads j w.1 w.3 ∙ ap Some w.4))
  node_get (place.Slot i j) p h =
      let w = slot_of m i j p h in
      among_slots (before slots_in m.rams i + j) ∙ flat_at ram_nodes slots_in (λ c. length_map slot_node c.slots) m.rams i w.0 j p w.2 (map_get slot_node w.0.slots j w.1 w.3 ∙ ap Some w.4)

  module _ (order : List ℕ) (o : IsNodeOrder (nodes_of m) order) where
    abbrev work : List NodePlace
    work = map (place_by (places_of m)) order

    place_there : (k : ℕ) → k < length (nodes_of m) → slice_get (places_of m) k ≡ Some (place_by (places_of m) k)
    place_there k lt = let same = same_length in slice_get-get_or (places_of m) k (place.Comb 0) (omega (arith, same, lt))

    -- the number and the place at a place of the order
    number_at : (a : ℕ) (at : NodePlace) → slice_get work a ≡ Some at → (slice_get order a ≡ Some (spot at)) × HasNode m at
    number_at a at h =
        let w = map_at (place_by (places_of m)) order a at h in
        let r = place_is w.0 at (place_there w.0 (o.within a w.0 w.1) ∙ ap Some w.2) in
        (w.1 ∙ ap Some r.0, r.1)

    place_order : IsPlaceOrder m work
    place_order = record {
      within = λ a at h. (number_at a at h).1;
      every = λ at has.
          let low = get_below (nodes_of m) (spot at) has.0 (node_get at has.0 has.1) in
          let w = o.every (spot at) low in
          (w.0, map_get (place_by (places_of m)) order w.0 (spot at) w.1 ∙ sym (place_there (spot at) low) ∙ place_get at has.0 has.1);
      once = λ a b at ha hb. o.once a b (spot at) (number_at a at ha).0 (number_at b at hb).0;
      after = λ a b reader writer p q n ha hb hp hq needs drives.
          o.after a b (spot reader) (spot writer) (number_at a reader ha).0 (number_at b writer hb).0 (record { reader = p; writer = q; net = n; reads = node_get reader p hp; writes = node_get writer q hq; needed = needs; driven = drives });
    }

pub places_ordered : (m : Module) (order : List ℕ) → IsNodeOrder (nodes_of m) order → IsPlaceOrder m (map (place_by (places_of m)) order)
places_ordered m order o = place_order m order o

pub places_count : (m : Module) → length (places_of m) ≡ length (nodes_of m)
places_count m = same_length m

-- the node of a place stands among the nodes
pub node_stands : (m : Module) (at : NodePlace) (p : Node) → node_at m at ≡ Some p → (k : ℕ) × (slice_get (nodes_of m) k ≡ Some p)
node_stands m at p h = (spot m at, node_get m at p h)
