-- Graphs by rows, each of which tells where a node leads, and the rings of a graph.
use Rattle.std.specs.Prelude.{◌≡◌, ℕ, ◌<◌, ◌≤◌, ◌↔◌, List, map, length, Option, Some, None, slice_get}
use Rattle.net_core.specs.Nodes.{Node, DependsOn}
use Rattle.net_core.specs.Ports.{nets_of}
use Rattle.net_core.specs.Search.{Leads, IsRing}
use Rattle.net_core.specs.Wiring.{drivers_of}
use Rattle.net_loops.specs.declared.nodes.NetNode.{NetNode}

-- the nets that each node drives
abbrev pub drives_in : List NetNode → List (List ℕ)
drives_in nodes = map (λ p. p.drives) nodes

-- where a node leads to those that it depends on: those that drive the nets which it needs
abbrev pub row_of : List (List ℕ) → NetNode → List ℕ
row_of drivers p = drivers_of drivers (nets_of p.needs)

abbrev pub rows_in : List (List ℕ) → List NetNode → List (List ℕ)
rows_in drivers nodes = map (λ p. row_of drivers p) nodes

-- the graph tells on which nodes each node depends
pub record IsGraphOf (nodes : List Node) (graph : List (List ℕ)) : Type 0 where
  pub count : length graph ≡ length nodes
  pub leads : (i j : ℕ) → Leads graph i j ↔ DependsOn nodes i j

-- each row of the one graph tells which nodes of the other lead there
abbrev pub AreTurned : List (List ℕ) → List (List ℕ) → Type 0
AreTurned graph turned = (i j : ℕ) → Leads turned j i ↔ Leads graph i j

-- the node lies on a ring
abbrev pub IsOnRing : List (List ℕ) → ℕ → Type 0
IsOnRing graph i = (ring : List ℕ) × IsRing graph ring × ((a : ℕ) × (slice_get ring a ≡ Some i))

-- a ring from the node, or that it lies on none
abbrev pub IsRingAt : List (List ℕ) → ℕ → Option (List ℕ) → Type 0
IsRingAt graph i None = ¬ (IsOnRing graph i)
IsRingAt graph i (Some ring) = IsRing graph ring × (slice_get ring 0 ≡ Some i)

-- a ring from the first node that lies on any, or that none does
pub record IsFirstRing (graph : List (List ℕ)) (found : List ℕ) : Type 0 where
  pub ring : IsRing graph found
  pub first : (i j : ℕ) → slice_get found 0 ≡ Some i → IsOnRing graph j → i ≤ j

abbrev pub IsRingAnswer : List (List ℕ) → Option (List ℕ) → Type 0
IsRingAnswer graph None = (i : ℕ) → i < length graph → ¬ (IsOnRing graph i)
IsRingAnswer graph (Some ring) = IsFirstRing graph ring

-- each node has a level, and none leads to one of a lower level
pub record AreLevels (graph : List (List ℕ)) (levels : List ℕ) : Type 0 where
  pub count : length levels ≡ length graph
  pub rise : (i j x y : ℕ) → Leads graph i j → slice_get levels i ≡ Some x → slice_get levels j ≡ Some y → x ≤ y
