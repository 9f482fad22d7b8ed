-- Nodes over nets in a list: whether they have a combinational order, and the first of them on a loop.
use Rattle.std.specs.Prelude.{◌≡◌, ℕ, ◌<◌, ◌≤◌, ◌↔◌, List, map, Option, Some, None, slice_get}
use Rattle.net_core.specs.Nodes.{Node, HasNet, Drives, IsNodeOrder, IsCycle, Rises}
use Rattle.net_loops.specs.declared.nodes.NetNode.{NetNode}

-- a node of the list by what it drives and needs
abbrev pub node_of : NetNode → Node
node_of p = record { drives = p.drives; needs = p.needs }

abbrev pub nodes_in : List NetNode → List Node
nodes_in nodes = map node_of nodes

-- every net that a node drives or needs is below this number
pub record NetsBelow (nets : ℕ) (nodes : List Node) : Type 0 where
  pub drives : (i : ℕ) (p : Node) → slice_get nodes i ≡ Some p → (n : ℕ) → Drives p n → n < nets
  pub needs : (i : ℕ) (p : Node) → slice_get nodes i ≡ Some p → (n : ℕ) → HasNet p.needs n → n < nets

-- a combinational order as a list of all nodes
abbrev pub HaveOrder : List Node → Type 0
HaveOrder nodes = (order : List ℕ) × IsNodeOrder nodes order

-- a combinational order by ranks of the nets that rise along all nodes
abbrev pub HaveRanks : List Node → Type 0
HaveRanks nodes = (rank : ℕ → ℕ) × ((i : ℕ) (p : Node) → slice_get nodes i ≡ Some p → Rises rank p)

-- the node numbered i lies on a loop
abbrev pub IsOnLoop : List Node → ℕ → Type 0
IsOnLoop nodes i = (cycle : List ℕ) × IsCycle nodes cycle × ((a : ℕ) × (slice_get cycle a ≡ Some i))

-- a loop that begins with the first of all nodes that lie on any loop
pub record IsFirstLoop (nodes : List Node) (found : List ℕ) : Type 0 where
  pub cycle : IsCycle nodes found
  pub first : (i j : ℕ) → slice_get found 0 ≡ Some i → IsOnLoop nodes j → i ≤ j

-- what is answered of the nodes: that they have an order, or else the first node on a loop with a loop from it
abbrev pub IsLoopAnswer : List Node → Option (List ℕ) → Type 0
IsLoopAnswer nodes None = HaveOrder nodes
IsLoopAnswer nodes (Some cycle) = IsFirstLoop nodes cycle

-- The laws: an order of nodes as a list exists exactly where ranks of the nets do, and none exists where there is a loop.
abbrev pub RanksAgree : Type 0
RanksAgree = (nodes : List Node) → HaveRanks nodes ↔ HaveOrder nodes

abbrev pub LoopHasNoOrder : Type 0
LoopHasNoOrder = (nodes : List Node) (i : ℕ) → IsOnLoop nodes i → ¬ (HaveOrder nodes)
