-- Addresses in a range: pieces of logic put together.
use Rattle.std.proofs.Common.{◌≡◌, ℕ, ◌≤◌, Bool, not, ◌&&◌, List, [], ◌∷◌, ◌++◌, refl, ap, arith}
use Rattle.net_core.specs.declared.bits.Bit.{Bit}
use Rattle.net_core.specs.Values.{Valuation, value_of, values_of}
use Rattle.net_edit.specs.Edits.{Editing}
use Rattle.net_edit.specs.Ranks.{height}
use Rattle.net_edit.proofs.Heights.{height_joined}
use Rattle.net_gates.specs.Adds.{Adds, AddsBit, IsReady}
use Rattle.net_gates.specs.Meanings.{both_of, is_below, is_within}
use Rattle.net_gates.proofs.Composing.{below_joined, below_more, adds_compose, adds_beside, adds_as}

-- behind logic, gates may stand over its outputs, and over what was there
pub ready_over : (a b : Editing) (from ys : List Bit) (f : Valuation → List Bool) → Adds a b from ys f → IsReady b ys
ready_over a b from ys f x = record { within = x.extends.within; below = x.extends.below }

pub ready_still : (a b : Editing) (from ys bits : List Bit) (f : Valuation → List Bool) → Adds a b from ys f → IsReady a bits → IsReady b bits
ready_still a b from ys bits f x ready = record { within = x.extends.within; below = below_more a.netlist.nets b.netlist.nets bits x.extends.grows.nets ready.below }

pub ready_pair : (b c d : Editing) (from more : List Bit) (y z : Bit) (f g : Valuation → Bool) → AddsBit b c from y f → AddsBit c d more z g → IsReady d (y ∷ z ∷ [])
ready_pair b c d from more y z f g one two = record {
  within = two.extends.within;
  below = below_joined d.netlist.nets (y ∷ []) (z ∷ []) (below_more c.netlist.nets d.netlist.nets (y ∷ []) two.extends.grows.nets one.extends.below) two.extends.below;
}

one_value : (u : Valuation) (y : Bit) (b : Bool) → values_of u (y ∷ []) ≡ b ∷ [] → value_of u y ≡ b
one_value u y b e = cc

two_values : (u : Valuation) (y z : Bit) (b c : Bool) → values_of u (y ∷ z ∷ []) ≡ b ∷ c ∷ [] → both_of y z u ≡ b && c
two_values u y z b c e =
    let first : value_of u y ≡ b = cc in
    let second : value_of u z ≡ c = cc in
    (λ i. first i && second i)

module _ (a b c d e : Editing) (addr : List Bit) (first end : ℕ) (below reached before y : Bit) (ready : IsReady a addr) (one : AddsBit a b addr below (is_below addr first)) (two : AddsBit b c (below ∷ []) reached (λ u. not (value_of u below))) (three : AddsBit c d addr before (is_below addr end)) (four : AddsBit d e (reached ∷ before ∷ []) y (both_of reached before)) where
  inverted : Adds a c (addr ++ []) (reached ∷ []) (λ u. not (is_below addr first u) ∷ [])
  inverted = adds_compose a b c addr (below ∷ []) [] (reached ∷ []) (λ u. is_below addr first u ∷ []) (λ u. not (value_of u below) ∷ []) (λ u. not (is_below addr first u) ∷ []) one two (λ n (k, at). cc) (λ u h. ap (λ t. not t ∷ []) (one_value u below (is_below addr first u) h))

  pair : Adds a d ((addr ++ []) ++ addr) (reached ∷ before ∷ []) (λ u. not (is_below addr first u) ∷ is_below addr end u ∷ [])
  pair = adds_beside a c d (addr ++ []) (reached ∷ []) addr (before ∷ []) (λ u. not (is_below addr first u) ∷ []) (λ u. is_below addr end u ∷ []) inverted three ready.below

  whole : Adds a e (((addr ++ []) ++ addr) ++ []) (y ∷ []) (λ u. is_within addr first end u ∷ [])
  whole = adds_compose a d e ((addr ++ []) ++ addr) (reached ∷ before ∷ []) [] (y ∷ []) (λ u. not (is_below addr first u) ∷ is_below addr end u ∷ []) (λ u. both_of reached before u ∷ []) (λ u. is_within addr first end u ∷ []) pair four (λ n (k, at). cc) (λ u h. ap (λ t. t ∷ []) (two_values u reached before (not (is_below addr first u)) (is_below addr end u) h))

  as_high : (rank : ℕ → ℕ) → height rank (((addr ++ []) ++ addr) ++ []) ≤ height rank addr
  as_high rank = omega (arith, height_joined rank ((addr ++ []) ++ addr) [], height_joined rank (addr ++ []) addr, height_joined rank addr [])

  pub in_range_adds : AddsBit a e addr y (is_within addr first end)
  in_range_adds = adds_as a e (((addr ++ []) ++ addr) ++ []) addr (y ∷ []) (λ u. is_within addr first end u ∷ []) (λ u. is_within addr first end u ∷ []) whole as_high (λ u. refl)
