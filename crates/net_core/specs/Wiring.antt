-- The nodes of a module as a graph: where a node leads to those that it depends on.
use Rattle.std.specs.Prelude.{◌≡◌, ℕ, ◌↔◌, ◌⊎◌, map, Vec, List, [], Some, slice_get, unwrap_or}
use Rattle.std.specs.Global.{Global}
use Rattle.std.specs.List.{flat_map}
use Rattle.net_core.specs.Nodes.{Node, IsCycle, IsNodeOrder}
use Rattle.net_core.specs.declared.search.LoopFault.{LoopFault}
use Rattle.net_core.specs.declared.search.LoopFault.TheVariants.{Loop}
use Rattle.net_core.specs.declared.search.LoopFault.TheVariants as fault
use Rattle.net_core.specs.Ports.{nets_of}
use Rattle.net_core.specs.declared.nodes.NodeNets.{NodeNets}
use Rattle.net_core.specs.Search.{Leads}

-- the nets of a node
abbrev pub node_nets : Node → NodeNets
node_nets p = record { drives = p.drives; needs = nets_of p.needs }

-- the rows of a table
abbrev pub rows : List (Vec ℕ Global) → List (List ℕ)
rows table = map (λ row. row.items) table

-- the node drives these nets too
abbrev pub AddsDriver : List (List ℕ) → List (List ℕ) → ℕ → (ℕ → Type 0) → Type 0
AddsDriver old now node Among = (n j : ℕ) → Leads now n j ↔ (Leads old n j ⊎ ((j ≡ node) × Among n))

-- the table tells for each net the nodes that drive it
abbrev pub TellsDrivers : List NodeNets → List (List ℕ) → Type 0
TellsDrivers nodes table = (n j : ℕ) → Leads table n j ↔ ((p : NodeNets) × (k : ℕ) × (slice_get nodes j ≡ Some p) × (slice_get p.drives k ≡ Some n))

-- the nodes that drive the nets
abbrev pub drivers_of : List (List ℕ) → List ℕ → List ℕ
drivers_of table nets = flat_map (λ n. unwrap_or (slice_get table n) []) nets

-- a loop that is answered is a cycle of the nodes, which have no order
abbrev pub IsCycleFault : List Node → LoopFault → Type 0
IsCycleFault nodes (Loop cycle) = IsCycle nodes cycle × ((order : List ℕ) → ¬ (IsNodeOrder nodes order))
IsCycleFault nodes fault.Memory = Unit {0}
