-- A list of the nodes, each after those that it depends on, and ranks of the nets that rise along the nodes, give each other.
use Rattle.std.proofs.Common.{◌≡◌, ℕ, zero, suc, ◌+◌, ◌-◌, ◌<◌, ◌≤◌, max, Bool, true, false, cond, ◌||◌, ◌⊎◌, inl, inr, List, [], ◌∷◌, ◌++◌, map, length, Option, Some, None, refl, sym, ap, ◌∙◌, subst, arith, eqb, leb}
use Rattle.std.specs.Prelude.{slice_get}
use Rattle.std.specs.List.{flat_map, list_any, range_with_len}
use Rattle.std.proofs.lemmas.Option.{same_Some}
use Rattle.std.proofs.lemmas.Bool.{eqb-true, eq-eqb}
use Rattle.net_core.specs.declared.bits.Bit.{Bit}
use Rattle.net_core.specs.declared.bits.Bit.TheVariants.{Zero as Low, One as High, Net}
use Rattle.net_core.specs.declared.cells.Comb.{Comb}
use Rattle.net_core.specs.declared.cells.Reg.{Reg}
use Rattle.net_core.specs.declared.mems.Mem.{Mem}
use Rattle.net_core.specs.declared.mems.RdPort.{RdPort}
use Rattle.net_core.specs.declared.rams.RamCell.{RamCell}
use Rattle.net_core.specs.declared.rams.SlotUse.{SlotUse}
use Rattle.net_core.specs.declared.modules.Module.{Module}
use Rattle.net_core.specs.Nodes.{Node, comb_node, reg_node, read_node, slot_node, mem_nodes, ram_nodes, nodes_of, HasNet, Drives, DependsOn, IsNodeOrder, IsCycle, Rises, Ordered, HasNodeOrder}
use Rattle.net_core.proofs.Basics.{get_left, get_right, get_joined, get_below, get_within}
use Rattle.net_core.proofs.Sorting.{sort_in, put, AllAbove, Up, up_sort}

pub map_at : {X Y : Type 0} (f : X → Y) (xs : List X) (k : ℕ) (y : Y) → slice_get (map f xs) k ≡ Some y → (x : X) × (slice_get xs k ≡ Some x) × (f x ≡ y)
map_at f [] k y h = cc
map_at f (x ∷ xs) zero y h = (x, refl, same_Some (f x) y h)
map_at f (x ∷ xs) (suc k) y h = map_at f xs k y h

pub map_get : {X Y : Type 0} (f : X → Y) (xs : List X) (k : ℕ) (x : X) → slice_get xs k ≡ Some x → slice_get (map f xs) k ≡ Some (f x)
map_get f [] k x h = cc
map_get f (y ∷ ys) zero x h = ap (λ z. Some (f z)) (same_Some y x h)
map_get f (y ∷ ys) (suc k) x h = map_get f ys k x h

pub flat_at : {X Y : Type 0} (f : X → List Y) (xs : List X) (k : ℕ) (y : Y) → slice_get (flat_map f xs) k ≡ Some y → (i : ℕ) × (x : X) × (j : ℕ) × (slice_get xs i ≡ Some x) × (slice_get (f x) j ≡ Some y)
flat_at f [] k y h = cc
flat_at f (x ∷ xs) k y h =
    elim (get_joined (f x) (flat_map f xs) k y h) [
      | inl g ↦ (0, x, k, refl, g)
      | inr (j, e, g) ↦ let r = flat_at f xs j y g in (suc r.0, r.1, r.2, r.3, r.4)
    ]

pub flat_get : {X Y : Type 0} (f : X → List Y) (xs : List X) (i : ℕ) (x : X) (j : ℕ) (y : Y) → slice_get xs i ≡ Some x → slice_get (f x) j ≡ Some y → (k : ℕ) × (slice_get (flat_map f xs) k ≡ Some y)
flat_get f [] i x j y h g = cc
flat_get f (z ∷ zs) zero x j y h g = (j, get_left (f z) (flat_map f zs) j y (ap (λ w. slice_get (f w) j) (same_Some z x h) ∙ g))
flat_get f (z ∷ zs) (suc i) x j y h g = let r = flat_get f zs i x j y h g in (length (f z) + r.0, get_right (f z) (flat_map f zs) r.0 ∙ r.1)

-- the four kinds of nodes among all
module _ (m : Module) where
  abbrev slots_part : List Node
  slots_part = flat_map ram_nodes m.rams

  abbrev reads_part : List Node
  reads_part = flat_map mem_nodes m.mems ++ slots_part

  abbrev regs_part : List Node
  regs_part = map reg_node m.regs ++ reads_part

  pub comb_place : (i : ℕ) (c : Comb) → slice_get m.combs i ≡ Some c → (k : ℕ) × (slice_get (nodes_of m) k ≡ Some (comb_node c))
  comb_place i c h = (i, get_left (map comb_node m.combs) regs_part i (comb_node c) (map_get comb_node m.combs i c h))

  pub reg_place : (i : ℕ) (r : Reg) → slice_get m.regs i ≡ Some r → (k : ℕ) × (slice_get (nodes_of m) k ≡ Some (reg_node r))
  reg_place i r h =
      (length (map comb_node m.combs) + i, get_right (map comb_node m.combs) regs_part i ∙ get_left (map reg_node m.regs) reads_part i (reg_node r) (map_get reg_node m.regs i r h))

  pub read_place : (i : ℕ) (x : Mem) → slice_get m.mems i ≡ Some x → (j : ℕ) (r : RdPort) → slice_get x.reads j ≡ Some r → (k : ℕ) × (slice_get (nodes_of m) k ≡ Some (read_node r))
  read_place i x hx j r hr =
      let p = flat_get mem_nodes m.mems i x j (read_node r) hx (map_get read_node x.reads j r hr) in
      let at = length (map reg_node m.regs) + p.0 in
      (length (map comb_node m.combs) + at, get_right (map comb_node m.combs) regs_part at ∙ get_right (map reg_node m.regs) reads_part p.0 ∙ get_left (flat_map mem_nodes m.mems) slots_part p.0 (read_node r) p.1)

  pub slot_place : (i : ℕ) (c : RamCell) → slice_get m.rams i ≡ Some c → (j : ℕ) (s : SlotUse) → slice_get c.slots j ≡ Some s → (k : ℕ) × (slice_get (nodes_of m) k ≡ Some (slot_node s))
  slot_place i c hc j s hs =
      let p = flat_get ram_nodes m.rams i c j (slot_node s) hc (map_get slot_node c.slots j s hs) in
      let low = length (flat_map mem_nodes m.mems) + p.0 in
      let at = length (map reg_node m.regs) + low in
      (length (map comb_node m.combs) + at, get_right (map comb_node m.combs) regs_part at ∙ get_right (map reg_node m.regs) reads_part low ∙ get_right (flat_map mem_nodes m.mems) slots_part p.0 ∙ p.1)

  -- what holds of each kind of node holds of each node
  pub each_node : (P : Node → Type 0) → ((i : ℕ) (c : Comb) → slice_get m.combs i ≡ Some c → P (comb_node c)) → ((i : ℕ) (r : Reg) → slice_get m.regs i ≡ Some r → P (reg_node r)) → ((i : ℕ) (x : Mem) → slice_get m.mems i ≡ Some x → (j : ℕ) (r : RdPort) → slice_get x.reads j ≡ Some r → P (read_node r)) → ((i : ℕ) (c : RamCell) → slice_get m.rams i ≡ Some c → (j : ℕ) (s : SlotUse) → slice_get c.slots j ≡ Some s → P (slot_node s)) → (k : ℕ) (p : Node) → slice_get (nodes_of m) k ≡ Some p → P p
  each_node P combs regs reads slots k p h =
      elim (get_joined (map comb_node m.combs) regs_part k p h) [
        | inl g ↦ let a = map_at comb_node m.combs k p g in subst P a.2 (combs k a.0 a.1)
        | inr (k1, e1, h1) ↦ elim (get_joined (map reg_node m.regs) reads_part k1 p h1) [
          | inl g ↦ let a = map_at reg_node m.regs k1 p g in subst P a.2 (regs k1 a.0 a.1)
          | inr (k2, e2, h2) ↦ elim (get_joined (flat_map mem_nodes m.mems) slots_part k2 p h2) [
            | inl g ↦ let a = flat_at mem_nodes m.mems k2 p g in let b = map_at read_node a.1.reads a.2 p a.4 in subst P b.2 (reads a.0 a.1 a.3 a.2 b.0 b.1)
            | inr (k3, e3, h3) ↦ let a = flat_at ram_nodes m.rams k3 p h3 in let b = map_at slot_node a.1.slots a.2 p a.4 in subst P b.2 (slots a.0 a.1 a.3 a.2 b.0 b.1)
          ]
        ]
      ]

pub all_rise : (m : Module) (o : Ordered m) (k : ℕ) (p : Node) → slice_get (nodes_of m) k ≡ Some p → Rises o.rank p
all_rise m o = each_node m (Rises o.rank) o.combs o.regs o.reads o.slots

pub ordered_by : (m : Module) (rank : ℕ → ℕ) → ((k : ℕ) (p : Node) → slice_get (nodes_of m) k ≡ Some p → Rises rank p) → Ordered m
ordered_by m rank rise = record {
  rank = rank;
  combs = λ i c h. let p = comb_place m i c h in rise p.0 (comb_node c) p.1;
  regs = λ i r h. let p = reg_place m i r h in rise p.0 (reg_node r) p.1;
  reads = λ i x hx j r hr. let p = read_place m i x hx j r hr in rise p.0 (read_node r) p.1;
  slots = λ i c hc j s hs. let p = slot_place m i c hc j s hs in rise p.0 (slot_node s) p.1;
}

-- from a list to ranks: the rank of a net is one more than the last place of a node that drives it
abbrev has_net : List ℕ → ℕ → Bool
has_net xs n = list_any (λ x. eqb x n) xs

or_true : (a b : Bool) → b ≡ true → (a || b) ≡ true
or_true true b h = refl
or_true false b h = h

has_true : (xs : List ℕ) (k n : ℕ) → slice_get xs k ≡ Some n → has_net xs n ≡ true
has_true [] k n h = cc
has_true (x ∷ xs) zero n h = ap (λ b. b || has_net xs n) (eq-eqb x n (same_Some x n h))
has_true (x ∷ xs) (suc k) n h = or_true (eqb x n) (has_net xs n) (has_true xs k n h)

has_place : (xs : List ℕ) (n : ℕ) → has_net xs n ≡ true → (k : ℕ) × (slice_get xs k ≡ Some n)
has_place [] n h = cc
has_place (x ∷ xs) n h =
    let P : Bool → Type 0 = λ b. eqb x n ≡ b → (b || has_net xs n) ≡ true → (k : ℕ) × (slice_get (x ∷ xs) k ≡ Some n) in
    let f : P (eqb x n) = elim (eqb x n) as P [ true ↦ λ e g. (0, ap Some (eqb-true x n e)) | false ↦ λ e g. let r = has_place xs n g in (suc r.0, r.1) ] in
    f refl h

abbrev node_drives : Option Node → ℕ → Bool
node_drives None n = false
node_drives (Some p) n = has_net p.drives n

module _ (nodes : List Node) where
  abbrev here : ℕ → ℕ → ℕ → ℕ
  here at i n = cond (node_drives (slice_get nodes i) n) (suc at) 0

  abbrev rank_from : ℕ → List ℕ → ℕ → ℕ
  rank_from at [] n = 0
  rank_from at (i ∷ is) n = max (here at i n) (rank_from (suc at) is n)

  here_on : (at i n : ℕ) → node_drives (slice_get nodes i) n ≡ true → here at i n ≡ suc at
  here_on at i n h = ap (λ b. cond b (suc at) 0) h

  rank_reaches : (at : ℕ) (is : List ℕ) (n a i : ℕ) → slice_get is a ≡ Some i → node_drives (slice_get nodes i) n ≡ true → suc (at + a) ≤ rank_from at is n
  rank_reaches at [] n a i h d = cc
  rank_reaches at (j ∷ is) n zero i h d =
      let on = here_on at j n (ap (λ k. node_drives (slice_get nodes k) n) (same_Some j i h) ∙ d) in
      omega (arith, on)
  rank_reaches at (j ∷ is) n (suc a) i h d = let rest = rank_reaches (suc at) is n a i h d in omega (arith, rest)

  -- it is 0, or that of a node that drives the net
  rank_cases : (at : ℕ) (is : List ℕ) (n : ℕ) → (rank_from at is n ≡ 0) ⊎ ((a : ℕ) × (i : ℕ) × (slice_get is a ≡ Some i) × (node_drives (slice_get nodes i) n ≡ true) × (rank_from at is n ≡ suc (at + a)))
  rank_cases at [] n = inl refl
  rank_cases at (j ∷ is) n =
      let P : Bool → Type 0 = λ b. node_drives (slice_get nodes j) n ≡ b → (max (cond b (suc at) 0) (rank_from (suc at) is n) ≡ 0) ⊎ ((a : ℕ) × (i : ℕ) × (slice_get (j ∷ is) a ≡ Some i) × (node_drives (slice_get nodes i) n ≡ true) × (max (cond b (suc at) 0) (rank_from (suc at) is n) ≡ suc (at + a))) in
      let f : P (node_drives (slice_get nodes j) n) = elim (node_drives (slice_get nodes j) n) as P [
        | true ↦ λ h. elim (rank_cases (suc at) is n) [
          | inl z ↦ inr (0, j, refl, h, omega (arith, z))
          | inr (a, i, ha, d, e) ↦ inr (suc a, i, ha, d, omega (arith, e))
        ]
        | false ↦ λ h. elim (rank_cases (suc at) is n) [
          | inl z ↦ inl (omega (arith, z))
          | inr (a, i, ha, d, e) ↦ inr (suc a, i, ha, d, omega (arith, e))
        ]
      ] in
      f refl

  node_at : (i : ℕ) (p : Node) (n : ℕ) → slice_get nodes i ≡ Some p → Drives p n → node_drives (slice_get nodes i) n ≡ true
  node_at i p n h (k, d) = ap (λ o. node_drives o n) h ∙ has_true p.drives k n d

  drives_at : (o : Option Node) (n : ℕ) → node_drives o n ≡ true → (p : Node) × (o ≡ Some p) × Drives p n
  drives_at None n h = cc
  drives_at (Some p) n h = (p, refl, has_place p.drives n h)

  ranks_rise : (order : List ℕ) → IsNodeOrder nodes order → (i : ℕ) (p : Node) → slice_get nodes i ≡ Some p → Rises (rank_from 0 order) p
  ranks_rise order o i p h n x d needs =
      let place = o.every i (get_below nodes i p h) in
      let high = rank_reaches 0 order n place.0 i place.1 (node_at i p n h d) in
      elim (rank_cases 0 order x) [
        | inl z ↦ omega (arith, z, high)
        | inr (b, j, hb, dj, e) ↦
            let w = drives_at (slice_get nodes j) x dj in
            let lower = o.after place.0 b i j place.1 hb (record { reader = p; writer = w.0; net = x; reads = h; writes = w.1; needed = needs; driven = w.2 }) in
            omega (arith, e, high, lower)
      ]

pub order_ranks : (m : Module) → HasNodeOrder m → Ordered m
order_ranks m (order, o) = ordered_by m (rank_from (nodes_of m) 0 order) (ranks_rise (nodes_of m) order o)

-- from ranks to a list: the nodes sorted by the highest rank that they need
module _ (rank : ℕ → ℕ) where
  abbrev height : List Bit → ℕ
  height [] = 0
  height (Low ∷ bs) = height bs
  height (High ∷ bs) = height bs
  height (Net n ∷ bs) = max (suc (rank n)) (height bs)

  height_low : (bs : List Bit) (top : ℕ) → ((x : ℕ) → HasNet bs x → rank x < top) → height bs ≤ top
  height_low [] top h = omega arith
  height_low (Low ∷ bs) top h = height_low bs top (λ x (k, g). h x (suc k, g))
  height_low (High ∷ bs) top h = height_low bs top (λ x (k, g). h x (suc k, g))
  height_low (Net n ∷ bs) top h =
      let one = h n (0, refl) in
      let rest = height_low bs top (λ x (k, g). h x (suc k, g)) in
      omega (arith, one, rest)

  net_same : (a b : ℕ) → Some (Net a) ≡ Some (Net b) → a ≡ b
  net_same a b h = cc

  height_high : (bs : List Bit) (x k : ℕ) → slice_get bs k ≡ Some (Net x) → rank x < height bs
  height_high [] x k h = cc
  height_high (Low ∷ bs) x zero h = cc
  height_high (Low ∷ bs) x (suc k) h = height_high bs x k h
  height_high (High ∷ bs) x zero h = cc
  height_high (High ∷ bs) x (suc k) h = height_high bs x k h
  height_high (Net n ∷ bs) x zero h = let e = ap rank (net_same n x h) in omega (arith, e)
  height_high (Net n ∷ bs) x (suc k) h = let rest = height_high bs x k h in omega (arith, rest)

  abbrev node_height : Option Node → ℕ
  node_height None = 0
  node_height (Some p) = height p.needs

-- elements that stand once
abbrev Fresh : ℕ → List ℕ → Type 0
Fresh a [] = Unit {0}
Fresh a (y ∷ ys) = (a ≡ y → ⊥) × Fresh a ys

abbrev Apart : List ℕ → Type 0
Apart [] = Unit {0}
Apart (x ∷ xs) = Fresh x xs × Apart xs

module _ (key : ℕ → ℕ) where
  fresh_put : (a x : ℕ) (ys : List ℕ) → (a ≡ x → ⊥) → Fresh a ys → Fresh a (put key x ys)
  fresh_put a x [] ne f = (ne, tt)
  fresh_put a x (y ∷ ys) ne f =
      let P : Bool → Type 0 = λ b. Fresh a (cond b (x ∷ y ∷ ys) (y ∷ put key x ys)) in
      elim (leb (key x) (key y)) as P [ true ↦ (ne, f) | false ↦ (f.0, fresh_put a x ys ne f.1) ]

  fresh_sort : (a : ℕ) (xs : List ℕ) → Fresh a xs → Fresh a (sort_in key xs)
  fresh_sort a [] f = tt
  fresh_sort a (x ∷ xs) f = fresh_put a x (sort_in key xs) f.0 (fresh_sort a xs f.1)

  apart_put : (x : ℕ) (ys : List ℕ) → Fresh x ys → Apart ys → Apart (put key x ys)
  apart_put x [] f a = (tt, tt)
  apart_put x (y ∷ ys) f a =
      let P : Bool → Type 0 = λ b. Apart (cond b (x ∷ y ∷ ys) (y ∷ put key x ys)) in
      elim (leb (key x) (key y)) as P [ true ↦ (f, a) | false ↦ (fresh_put y x ys (λ e. f.0 (sym e)) a.0, apart_put x ys f.1 a.1) ]

  apart_sort : (xs : List ℕ) → Apart xs → Apart (sort_in key xs)
  apart_sort [] a = tt
  apart_sort (x ∷ xs) a = apart_put x (sort_in key xs) (fresh_sort x xs a.0) (apart_sort xs a.1)

  put_new : (x : ℕ) (ys : List ℕ) → (k : ℕ) × (slice_get (put key x ys) k ≡ Some x)
  put_new x [] = (0, refl)
  put_new x (y ∷ ys) =
      let P : Bool → Type 0 = λ b. (k : ℕ) × (slice_get (cond b (x ∷ y ∷ ys) (y ∷ put key x ys)) k ≡ Some x) in
      elim (leb (key x) (key y)) as P [ true ↦ (0, refl) | false ↦ (let r = put_new x ys in (suc r.0, r.1)) ]

  put_old : (x : ℕ) (ys : List ℕ) (a v : ℕ) → slice_get ys a ≡ Some v → (k : ℕ) × (slice_get (put key x ys) k ≡ Some v)
  put_old x [] a v h = cc
  put_old x (y ∷ ys) zero v h =
      let P : Bool → Type 0 = λ b. (k : ℕ) × (slice_get (cond b (x ∷ y ∷ ys) (y ∷ put key x ys)) k ≡ Some v) in
      elim (leb (key x) (key y)) as P [ true ↦ (1, h) | false ↦ (0, h) ]
  put_old x (y ∷ ys) (suc a) v h =
      let P : Bool → Type 0 = λ b. (k : ℕ) × (slice_get (cond b (x ∷ y ∷ ys) (y ∷ put key x ys)) k ≡ Some v) in
      elim (leb (key x) (key y)) as P [ true ↦ (suc (suc a), h) | false ↦ (let r = put_old x ys a v h in (suc r.0, r.1)) ]

  sort_all : (xs : List ℕ) (a v : ℕ) → slice_get xs a ≡ Some v → (k : ℕ) × (slice_get (sort_in key xs) k ≡ Some v)
  sort_all [] a v h = cc
  sort_all (x ∷ xs) zero v h = let r = put_new x (sort_in key xs) in (r.0, r.1 ∙ h)
  sort_all (x ∷ xs) (suc a) v h = let r = sort_all xs a v h in put_old x (sort_in key xs) r.0 v r.1

  cons_within : (top x : ℕ) (ys : List ℕ) → x < top → ((a v : ℕ) → slice_get ys a ≡ Some v → v < top) → (a v : ℕ) → slice_get (x ∷ ys) a ≡ Some v → v < top
  cons_within top x ys lt h zero v q = subst (λ z. z < top) (same_Some x v q) lt
  cons_within top x ys lt h (suc a) v q = h a v q

  put_within : (top x : ℕ) (ys : List ℕ) → x < top → ((a v : ℕ) → slice_get ys a ≡ Some v → v < top) → (a v : ℕ) → slice_get (put key x ys) a ≡ Some v → v < top
  put_within top x [] lt h a v g = cons_within top x [] lt h a v g
  put_within top x (y ∷ ys) lt h a v g =
      let P : Bool → Type 0 = λ b. slice_get (cond b (x ∷ y ∷ ys) (y ∷ put key x ys)) a ≡ Some v → v < top in
      let f : P (leb (key x) (key y)) = elim (leb (key x) (key y)) as P [
        | true ↦ λ q. cons_within top x (y ∷ ys) lt h a v q
        | false ↦ λ q. cons_within top y (put key x ys) (h 0 y refl) (put_within top x ys lt (λ c w r. h (suc c) w r)) a v q
      ] in
      f g

  sort_within : (top : ℕ) (xs : List ℕ) → ((a v : ℕ) → slice_get xs a ≡ Some v → v < top) → (a v : ℕ) → slice_get (sort_in key xs) a ≡ Some v → v < top
  sort_within top [] h a v g = h a v g
  sort_within top (x ∷ xs) h a v g = put_within top x (sort_in key xs) (h 0 x refl) (sort_within top xs (λ b w q. h (suc b) w q)) a v g

  above_at : (k : ℕ) (ys : List ℕ) (b v : ℕ) → AllAbove key k ys → slice_get ys b ≡ Some v → k ≤ key v
  above_at k [] b v u h = cc
  above_at k (y ∷ ys) zero v u h = let e = ap key (same_Some y v h) in omega (arith, u.0, e)
  above_at k (y ∷ ys) (suc b) v u h = above_at k ys b v u.1 h

  up_at : (ys : List ℕ) (a b i j : ℕ) → Up key ys → slice_get ys a ≡ Some i → slice_get ys b ≡ Some j → a ≤ b → key i ≤ key j
  up_at [] a b i j u hi hj le = cc
  up_at (y ∷ ys) zero zero i j u hi hj le = let e = ap key (sym (same_Some y i hi) ∙ same_Some y j hj) in omega (arith, e)
  up_at (y ∷ ys) zero (suc b) i j u hi hj le = let e = ap key (same_Some y i hi) in let r = above_at (key y) ys b j u.0 hj in omega (arith, e, r)
  up_at (y ∷ ys) (suc a) zero i j u hi hj le = absurd (omega arith)
  up_at (y ∷ ys) (suc a) (suc b) i j u hi hj le = up_at ys a b i j u.1 hi hj (omega arith)

fresh_at : (x : ℕ) (ys : List ℕ) (b : ℕ) → Fresh x ys → slice_get ys b ≡ Some x → ⊥
fresh_at x [] b f h = cc
fresh_at x (y ∷ ys) zero f h = f.0 (sym (same_Some y x h))
fresh_at x (y ∷ ys) (suc b) f h = fresh_at x ys b f.1 h

apart_at : (ys : List ℕ) (a b i : ℕ) → Apart ys → slice_get ys a ≡ Some i → slice_get ys b ≡ Some i → a ≡ b
apart_at [] a b i u h g = cc
apart_at (y ∷ ys) zero zero i u h g = refl
apart_at (y ∷ ys) zero (suc b) i u h g = absurd (fresh_at y ys b u.0 (g ∙ ap Some (sym (same_Some y i h))))
apart_at (y ∷ ys) (suc a) zero i u h g = absurd (fresh_at y ys a u.0 (h ∙ ap Some (sym (same_Some y i g))))
apart_at (y ∷ ys) (suc a) (suc b) i u h g = ap suc (apart_at ys a b i u.1 h g)

range_get : (a n k : ℕ) → k < n → slice_get (range_with_len a n) k ≡ Some (a + k)
range_get a zero k h = absurd (omega arith)
range_get a (suc n) zero h = let e : a ≡ a + 0 = omega arith in ap Some e
range_get a (suc n) (suc k) h = let e : a + 1 + k ≡ a + suc k = omega arith in range_get (a + 1) n k (omega arith) ∙ ap Some e

range_at : (a n k v : ℕ) → slice_get (range_with_len a n) k ≡ Some v → (v ≡ a + k) × (k < n)
range_at a zero k v h = cc
range_at a (suc n) zero v h = let e = same_Some a v h in (omega arith, omega arith)
range_at a (suc n) (suc k) v h = let r = range_at (a + 1) n k v h in (omega (arith, r.0), omega (arith, r.1))

range_fresh : (x a n : ℕ) → x < a → Fresh x (range_with_len a n)
range_fresh x a zero lt = tt
range_fresh x a (suc n) lt = ((λ e. omega (arith, e, lt)), range_fresh x (a + 1) n (omega arith))

range_apart : (a n : ℕ) → Apart (range_with_len a n)
range_apart a zero = tt
range_apart a (suc n) = (range_fresh a (a + 1) n (omega arith), range_apart (a + 1) n)

module _ (nodes : List Node) (rank : ℕ → ℕ) (rise : (k : ℕ) (p : Node) → slice_get nodes k ≡ Some p → Rises rank p) where
  abbrev node_key : ℕ → ℕ
  node_key i = node_height rank (slice_get nodes i)

  abbrev sorted_nodes : List ℕ
  sorted_nodes = sort_in node_key (range_with_len 0 (length nodes))

  lower_key : (i j : ℕ) → DependsOn nodes i j → node_key j < node_key i
  lower_key i j d =
      let low = height_low rank d.writer.needs (rank d.net) (λ y needs. rise j d.writer d.writes d.net y d.driven needs) in
      let high = height_high rank d.reader.needs d.net d.needed.0 d.needed.1 in
      let ki = ap (node_height rank) d.reads in
      let kj = ap (node_height rank) d.writes in
      omega (arith, low, high, ki, kj)

  sorted_order : IsNodeOrder nodes sorted_nodes
  sorted_order = record {
    within = sort_within node_key (length nodes) (range_with_len 0 (length nodes)) (λ a v h. let r = range_at 0 (length nodes) a v h in omega (arith, r.0, r.1));
    every = λ i lt. sort_all node_key (range_with_len 0 (length nodes)) i i (let z : 0 + i ≡ i = omega arith in range_get 0 (length nodes) i lt ∙ ap Some z);
    once = λ a b i. apart_at sorted_nodes a b i (apart_sort node_key (range_with_len 0 (length nodes)) (range_apart 0 (length nodes)));
    after = λ a b i j hi hj d.
        let lower = lower_key i j d in
        let le : a ≤ b → ⊥ = λ q. let up = up_at node_key sorted_nodes a b i j (up_sort node_key (range_with_len 0 (length nodes))) hi hj q in omega (arith, lower, up) in
        omega (arith, le);
  }

pub ranks_order : (m : Module) → Ordered m → HasNodeOrder m
ranks_order m o = (sorted_nodes (nodes_of m) o.rank (all_rise m o), sorted_order (nodes_of m) o.rank (all_rise m o))

-- along a cycle places would fall for ever
module _ (nodes : List Node) (cycle order : List ℕ) (c : IsCycle nodes cycle) (o : IsNodeOrder nodes order) where
  falls : (a i first : ℕ) (p0 p : ℕ) → slice_get cycle 0 ≡ Some first → slice_get order p0 ≡ Some first → slice_get cycle a ≡ Some i → slice_get order p ≡ Some i → p + a ≤ p0
  falls zero i first p0 p h0 o0 h op =
      let same : first ≡ i = same_Some first i (sym h0 ∙ h) in
      let e = o.once p0 p i (o0 ∙ ap Some same) op in
      omega (arith, e)
  falls (suc a) i first p0 p h0 o0 h op =
      let below = get_below cycle (suc a) i h in
      let before = get_within cycle a (omega (arith, below)) in
      let d = c.next a before.0 i before.1 h in
      let place = o.every before.0 (get_below nodes before.0 d.reader d.reads) in
      let up = falls a before.0 first p0 place.0 h0 o0 before.1 place.1 in
      let lower = o.after place.0 p before.0 i place.1 op d in
      omega (arith, up, lower)

  no_order : ⊥
  no_order =
      let first = get_within cycle 0 c.some in
      let count = length cycle in
      let some = c.some in
      let last = get_within cycle (count - 1) (omega (arith, some)) in
      let d = c.round (count - 1) last.0 first.0 (omega (arith, some)) last.1 first.1 in
      let pl = o.every last.0 (get_below nodes last.0 d.reader d.reads) in
      let pf = o.every first.0 (get_below nodes first.0 d.writer d.writes) in
      let down = falls (count - 1) last.0 first.0 pf.0 pl.0 first.1 pf.1 last.1 pl.1 in
      let up = o.after pl.0 pf.0 last.0 first.0 pl.1 pf.1 d in
      omega (arith, down, up)

pub cycle_has_no_order : (nodes : List Node) (cycle order : List ℕ) → IsCycle nodes cycle → IsNodeOrder nodes order → ⊥
cycle_has_no_order nodes cycle order c o = no_order nodes cycle order c o

pub orders_agree : (m : Module) → (Ordered m → HasNodeOrder m) × (HasNodeOrder m → Ordered m)
orders_agree m = (ranks_order m, order_ranks m)
