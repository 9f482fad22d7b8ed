-- Pieces of logic put together.
use Rattle.std.proofs.Common.{◌≡◌, ℕ, zero, suc, ◌+◌, ◌-◌, ◌<◌, ◌≤◌, max, inl, inr, List, [], ◌∷◌, ◌++◌, map, Some, refl, sym, ap, ◌∙◌, arith, append_assoc}
use Rattle.std.specs.List.{range_with_len}
use Rattle.net_core.specs.declared.bits.Bit.{Bit}
use Rattle.net_core.specs.declared.bits.Bit.TheVariants.{Zero, One, Net}
use Rattle.net_core.specs.Values.{Valuation, values_of, value_of}
use Rattle.net_core.proofs.Basics.{get_joined}
use Rattle.net_edit.specs.Edits.{Editing, as_bits, bits_from}
use Rattle.net_edit.specs.Ranks.{bit_height, height, BitsBelow}
use Rattle.net_edit.proofs.Heights.{height_joined}
use Rattle.net_gates.specs.Adds.{Extends}
use Rattle.net_gates.specs.Laws.{ExtensionsCompose, AddsCompose, AddsBeside, AddsAs}
use Rattle.net_gates.proofs.Growing.{run_before, grows_on}

-- ---- lists of bits

map_joined : {X Y : Type 0} (f : X → Y) (xs ys : List X) → map f (xs ++ ys) ≡ map f xs ++ map f ys
map_joined f [] ys = refl
map_joined f (x ∷ xs) ys = ap (λ l. f x ∷ l) (map_joined f xs ys)

range_joined : (a p q : ℕ) → range_with_len a (p + q) ≡ range_with_len a p ++ range_with_len (a + p) q
range_joined a zero q = let e : zero + q ≡ q = omega arith in let f : a ≡ a + zero = omega arith in (λ i. range_with_len (f i) (e i))
range_joined a (suc p) q =
    let e : suc p + q ≡ suc (p + q) = omega arith in
    let f : a + 1 + p ≡ a + suc p = omega arith in
    ap (range_with_len a) e ∙ ap (λ l. a ∷ l) (range_joined (a + 1) p q ∙ ap (λ b. range_with_len (a + 1) p ++ range_with_len b q) f)

-- the bits of nets in two steps
pub bits_joined : (a b c : ℕ) → a ≤ b → b ≤ c → bits_from a (c - a) ≡ bits_from a (b - a) ++ bits_from b (c - b)
bits_joined a b c low high =
    let e : c - a ≡ (b - a) + (c - b) = omega (arith, low, high) in
    let f : a + (b - a) ≡ b = omega (arith, low) in
    ap (bits_from a) e ∙ ap as_bits (range_joined a (b - a) (c - b)) ∙ map_joined (λ n. Net n) (range_with_len a (b - a)) (range_with_len (a + (b - a)) (c - b)) ∙ ap (λ k. bits_from a (b - a) ++ bits_from k (c - b)) f

pub values_joined : (u : Valuation) (xs ys : List Bit) → values_of u (xs ++ ys) ≡ values_of u xs ++ values_of u ys
values_joined u [] ys = refl
values_joined u (x ∷ xs) ys = ap (λ l. value_of u x ∷ l) (values_joined u xs ys)

pub below_joined : (top : ℕ) (xs ys : List Bit) → BitsBelow top xs → BitsBelow top ys → BitsBelow top (xs ++ ys)
below_joined top xs ys h g n (k, at) = elim (get_joined xs ys k (Net n) at) [ inl there ↦ h n (k, there) | inr (j, e, there) ↦ g n (j, there) ]

pub below_more : (top more : ℕ) (bits : List Bit) → top ≤ more → BitsBelow top bits → BitsBelow more bits
below_more top more bits le h n at = let l = h n at in omega (arith, le, l)

-- bits below a limit are as high as they were where the ranks below it are the same
pub height_same : (rank other : ℕ → ℕ) (top : ℕ) → ((n : ℕ) → n < top → other n ≡ rank n) → (bits : List Bit) → BitsBelow top bits → height other bits ≡ height rank bits
height_same rank other top same [] h = refl
height_same rank other top same (b ∷ bs) h =
    let rest : height other bs ≡ height rank bs = height_same rank other top same bs (λ n (k, at). h n (suc k, at)) in
    (λ i. max (first b (λ n e. h n (0, ap Some e)) i) (rest i))
  where
    first : (b : Bit) → ((n : ℕ) → b ≡ Net n → n < top) → bit_height other b ≡ bit_height rank b
    first Zero g = refl
    first One g = refl
    first (Net n) g = ap suc (same n (g n refl))

-- ---- composition

reads_on : (a b c : Editing) → a.netlist.nets ≤ b.netlist.nets → b.netlist.nets ≤ c.netlist.nets → b.reads ≡ a.reads ++ bits_from a.netlist.nets (b.netlist.nets - a.netlist.nets) → c.reads ≡ b.reads ++ bits_from b.netlist.nets (c.netlist.nets - b.netlist.nets) → c.reads ≡ a.reads ++ bits_from a.netlist.nets (c.netlist.nets - a.netlist.nets)
reads_on a b c first second x y =
    let low = bits_from a.netlist.nets (b.netlist.nets - a.netlist.nets) in
    let high = bits_from b.netlist.nets (c.netlist.nets - b.netlist.nets) in
    y ∙ ap (λ l. l ++ high) x ∙ append_assoc a.reads low high ∙ ap (λ l. a.reads ++ l) (sym (bits_joined a.netlist.nets b.netlist.nets c.netlist.nets first second))

pub extensions_compose : ExtensionsCompose
extensions_compose a b c from ys more zs x y below =
    record {
      grows = grows_on a.netlist b.netlist c.netlist x.grows y.grows;
      reads = reads_on a b c x.grows.nets y.grows.nets x.reads y.reads;
      within = y.within;
      below = y.below;
      drivers = λ one. y.drivers (x.drivers one);
      places = λ o.
          let p = x.places o in
          let q = y.places p.order in
          let keeps : height p.order.rank more ≡ height o.rank more = height_same o.rank p.order.rank a.netlist.nets p.same more below in
          record {
            order = q.order;
            same = λ n l. q.same n (let le = x.grows.nets in omega (arith, l, le)) ∙ p.same n l;
            near = omega (arith, q.near, p.near, keeps, height_joined p.order.rank ys more, height_joined o.rank from more, x.grows.nets, y.grows.nets);
          };
    }

pub adds_compose : AddsCompose
adds_compose a b c from ys more zs f g h x y below same = record {
  extends = extensions_compose a b c from ys more zs x.extends y.extends below;
  means = λ lib events v run t e at. y.means lib events v run t e at ∙ same (v t) (x.means lib events v (run_before b.netlist c.netlist y.extends.grows lib events v run) t e at);
}

pub adds_beside : AddsBeside
adds_beside a b c from ys more zs f g x y below =
    let one = x.extends in
    let two = y.extends in
    record {
      extends = record {
        grows = grows_on a.netlist b.netlist c.netlist one.grows two.grows;
        reads = reads_on a b c one.grows.nets two.grows.nets one.reads two.reads;
        within = two.within;
        below = below_joined c.netlist.nets ys zs (below_more b.netlist.nets c.netlist.nets ys two.grows.nets one.below) two.below;
        drivers = λ held. two.drivers (one.drivers held);
        places = λ o.
            let p = one.places o in
            let q = two.places p.order in
            let keeps : height p.order.rank more ≡ height o.rank more = height_same o.rank p.order.rank a.netlist.nets p.same more below in
            let stays : height q.order.rank ys ≡ height p.order.rank ys = height_same p.order.rank q.order.rank b.netlist.nets q.same ys one.below in
            record {
              order = q.order;
              same = λ n l. q.same n (let le = one.grows.nets in omega (arith, l, le)) ∙ p.same n l;
              near = omega (arith, q.near, p.near, keeps, stays, height_joined q.order.rank ys zs, height_joined o.rank from more, one.grows.nets, two.grows.nets);
            };
      };
      means = λ lib events v run t e at.
          let before = x.means lib events v (run_before b.netlist c.netlist two.grows lib events v run) t e at in
          let now = y.means lib events v run t e at in
          values_joined (v t) ys zs ∙ ap (λ l. l ++ values_of (v t) zs) before ∙ ap (λ l. f (v t) ++ l) now;
    }

pub extends_as : (a b : Editing) (from other ys : List Bit) → Extends a b from ys → ((rank : ℕ → ℕ) → height rank from ≤ height rank other) → Extends a b other ys
extends_as a b from other ys x high = record {
  grows = x.grows;
  reads = x.reads;
  within = x.within;
  below = x.below;
  drivers = x.drivers;
  places = λ o. let p = x.places o in record { order = p.order; same = p.same; near = omega (arith, p.near, high o.rank) };
}

pub adds_as : AddsAs
adds_as a b from other ys f g x high same = record {
  extends = extends_as a b from other ys x.extends high;
  means = λ lib events v run t e at. x.means lib events v run t e at ∙ same (v t);
}
