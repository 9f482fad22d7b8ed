-- A search through a graph, one node after the other, and what holds between its steps. A row of the graph tells where a
-- node leads.
use Rattle.std.specs.Prelude.{◌≡◌, ℕ, suc, ◌<◌, ◌≤◌, ◌⊎◌, List, length, Some, slice_get}
use Rattle.net_core.specs.declared.search.LoopFault.{LoopFault}
use Rattle.net_core.specs.declared.search.LoopFault.TheVariants.{Loop}
use Rattle.net_core.specs.declared.search.LoopFault.TheVariants as fault
use Rattle.net_core.specs.declared.search.Mark.{Mark}
use Rattle.net_core.specs.declared.search.Mark.TheVariants.{New, Opened, Done}

-- a node leads to another
abbrev pub Leads : List (List ℕ) → ℕ → ℕ → Type 0
Leads graph i j = (row : List ℕ) × (k : ℕ) × (slice_get graph i ≡ Some row) × (slice_get row k ≡ Some j)

-- each node leads only to nodes
abbrev pub IsClosed : List (List ℕ) → Type 0
IsClosed graph = (i j : ℕ) → Leads graph i j → j < length graph

-- the nodes in an order, every one once, each after all nodes that it leads to
pub record IsOrder (graph : List (List ℕ)) (order : List ℕ) : Type 0 where
  pub within : (a i : ℕ) → slice_get order a ≡ Some i → i < length graph
  pub every : (i : ℕ) → i < length graph → (a : ℕ) × (slice_get order a ≡ Some i)
  pub once : (a b i : ℕ) → slice_get order a ≡ Some i → slice_get order b ≡ Some i → a ≡ b
  pub after : (a b i j : ℕ) → slice_get order a ≡ Some i → slice_get order b ≡ Some j → Leads graph i j → b < a

-- nodes, at least one, each of which leads to the next, and the last to the first
pub record IsRing (graph : List (List ℕ)) (ring : List ℕ) : Type 0 where
  pub some : 0 < length ring
  pub next : (a i j : ℕ) → slice_get ring a ≡ Some i → slice_get ring (suc a) ≡ Some j → Leads graph i j
  pub round : (a i j : ℕ) → suc a ≡ length ring → slice_get ring a ≡ Some i → slice_get ring 0 ≡ Some j → Leads graph i j

-- The nodes that are done stand in the order, each after all nodes that it leads to. Those that are opened stand on the
-- stack, each of which leads to the next.
pub record Marked (graph : List (List ℕ)) (marks : List Mark) (stack order : List ℕ) : Type 0 where
  pub count : length marks ≡ length graph
  pub ordered : (a i : ℕ) → slice_get order a ≡ Some i → slice_get marks i ≡ Some Done
  pub placed : (i : ℕ) → slice_get marks i ≡ Some Done → (a : ℕ) × (slice_get order a ≡ Some i)
  pub once : (a b i : ℕ) → slice_get order a ≡ Some i → slice_get order b ≡ Some i → a ≡ b
  pub after : (a i j : ℕ) → slice_get order a ≡ Some i → Leads graph i j → (b : ℕ) × (b < a) × (slice_get order b ≡ Some j)
  pub opened : (a i : ℕ) → slice_get stack a ≡ Some i → slice_get marks i ≡ Some Opened
  pub stacked : (i : ℕ) → slice_get marks i ≡ Some Opened → (a : ℕ) × (slice_get stack a ≡ Some i)
  pub apart : (a b i : ℕ) → slice_get stack a ≡ Some i → slice_get stack b ≡ Some i → a ≡ b
  pub path : (a i j : ℕ) → slice_get stack a ≡ Some i → slice_get stack (suc a) ≡ Some j → Leads graph i j

-- how many entries of each row are left to look at
pub record Counted (graph : List (List ℕ)) (marks : List Mark) (left : List ℕ) : Type 0 where
  pub count : length left ≡ length graph
  pub room : (i l : ℕ) (row : List ℕ) → slice_get left i ≡ Some l → slice_get graph i ≡ Some row → l ≤ length row
  pub fresh : (i : ℕ) (row : List ℕ) → slice_get marks i ≡ Some New → slice_get graph i ≡ Some row → slice_get left i ≡ Some (length row)

-- Where an opened node was found to lead: to nodes that are done, to the next on the stack, and from the topmost one to
-- those that come next.
abbrev pub Looked : List (List ℕ) → List Mark → List ℕ → List ℕ → (ℕ → Type 0) → Type 0
Looked graph marks left stack Next =
    (a i l k j : ℕ) (row : List ℕ) → slice_get stack a ≡ Some i → slice_get left i ≡ Some l → l ≤ k → slice_get graph i ≡ Some row → slice_get row k ≡ Some j
    → (slice_get marks j ≡ Some Done) ⊎ ((slice_get stack (suc a) ≡ Some j) ⊎ ((suc a ≡ length stack) × Next j))

pub record Searching (graph : List (List ℕ)) (marks : List Mark) (left stack order : List ℕ) : Type 0 where
  pub marked : Marked graph marks stack order
  pub counted : Counted graph marks left
  pub looked : Looked graph marks left stack (λ j. ⊥)

-- The topmost node leads to one more, which is looked at next.
pub record Going (graph : List (List ℕ)) (marks : List Mark) (left stack order : List ℕ) (target : ℕ) : Type 0 where
  pub marked : Marked graph marks stack order
  pub counted : Counted graph marks left
  pub looked : Looked graph marks left stack (λ j. j ≡ target)
  pub leads : (a i : ℕ) → slice_get stack a ≡ Some i → suc a ≡ length stack → Leads graph i target
  pub some : 0 < length stack
  pub within : target < length graph

-- no node becomes new
abbrev pub NoneNew : List Mark → List Mark → Type 0
NoneNew old now = (i : ℕ) → slice_get now i ≡ Some New → slice_get old i ≡ Some New

-- a loop that is answered is a ring of the graph
abbrev pub IsRingFault : List (List ℕ) → LoopFault → Type 0
IsRingFault graph (Loop nodes) = IsRing graph nodes
IsRingFault graph fault.Memory = Unit {0}
