-- Where the nodes of a module stand among its cells, and the orders in which these places can be worked off.
use Rattle.std.specs.Prelude.{◌≡◌, ℕ, ◌+◌, ◌^◌, ◌<◌, ◌≤◌, List, [], ◌∷◌, ◌++◌, map, length, Option, Some, slice_get, slice_index_or, option_map, option_and_then}
use Rattle.std.specs.List.{range_with_len}
use Rattle.net_core.specs.declared.mems.Mem.{Mem}
use Rattle.net_core.specs.declared.rams.RamCell.{RamCell}
use Rattle.net_core.specs.declared.modules.Module.{Module}
use Rattle.net_core.specs.Nodes.{Node, comb_node, reg_node, read_node, slot_node, HasNet, Drives}
use Rattle.sim_settle.specs.declared.places.NodePlace.{NodePlace}
use Rattle.sim_settle.specs.declared.places.NodePlace.TheVariants as place

-- the node at a place
abbrev pub node_at : Module → NodePlace → Option Node
node_at m (place.Comb i) = option_map comb_node (slice_get m.combs i)
node_at m (place.Reg i) = option_map reg_node (slice_get m.regs i)
node_at m (place.Read i j) = option_and_then (λ (x : Mem). option_map read_node (slice_get x.reads j)) (slice_get m.mems i)
node_at m (place.Slot i j) = option_and_then (λ (c : RamCell). option_map slot_node (slice_get c.slots j)) (slice_get m.rams i)

-- there is a node at the place
abbrev pub HasNode : Module → NodePlace → Type 0
HasNode m at = (p : Node) × (node_at m at ≡ Some p)

-- there is a node at each of these places
abbrev pub HaveNodes : Module → List NodePlace → Type 0
HaveNodes m work = (a : ℕ) (at : NodePlace) → slice_get work a ≡ Some at → HasNode m at

-- so many places, counted from 0
abbrev pub each_place : (ℕ → NodePlace) → ℕ → List NodePlace
each_place f count = map f (range_with_len 0 count)

-- the places in each item, the items counted from a number
abbrev pub all_places : {X : Type 0} → (ℕ → X → List NodePlace) → ℕ → List X → List NodePlace
all_places f i [] = []
all_places f i (x ∷ xs) = f i x ++ all_places f (i + 1) xs

abbrev pub read_places : ℕ → Mem → List NodePlace
read_places i x = each_place (place.Read i) (length x.reads)

abbrev pub slot_places : ℕ → RamCell → List NodePlace
slot_places i c = each_place (place.Slot i) (length c.slots)

-- the places of the nodes, by the numbers of the nodes
abbrev pub places_of : Module → List NodePlace
places_of m =
    each_place place.Comb (length m.combs) ++ (each_place place.Reg (length m.regs) ++ (all_places read_places 0 m.mems ++ all_places slot_places 0 m.rams))

-- 32 bits name each cell and each port
pub record AreFew (m : Module) : Type 0 where
  pub combs : length m.combs ≤ 2 ^ 32
  pub regs : length m.regs ≤ 2 ^ 32
  pub mems : length m.mems < 2 ^ 32
  pub rams : length m.rams < 2 ^ 32
  pub reads : (i : ℕ) (x : Mem) → slice_get m.mems i ≡ Some x → length x.reads ≤ 2 ^ 32
  pub slots : (i : ℕ) (c : RamCell) → slice_get m.rams i ≡ Some c → length c.slots ≤ 2 ^ 32

-- the place of the node of a number
abbrev pub place_by : List NodePlace → ℕ → NodePlace
place_by places node = slice_index_or places node (place.Comb 0)

-- the places of all nodes, every one once, each after those of all nodes that its own needs
pub record IsPlaceOrder (m : Module) (work : List NodePlace) : Type 0 where
  pub within : (a : ℕ) (at : NodePlace) → slice_get work a ≡ Some at → HasNode m at
  pub every : (at : NodePlace) → HasNode m at → (a : ℕ) × (slice_get work a ≡ Some at)
  pub once : (a b : ℕ) (at : NodePlace) → slice_get work a ≡ Some at → slice_get work b ≡ Some at → a ≡ b
  pub after : (a b : ℕ) (reader writer : NodePlace) (p q : Node) (n : ℕ) → slice_get work a ≡ Some reader → slice_get work b ≡ Some writer → node_at m reader ≡ Some p → node_at m writer ≡ Some q → HasNet p.needs n → Drives q n → b < a
