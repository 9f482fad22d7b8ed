-- The nodes of a module: what each drives, on which bits that depends within a moment, and orders of them.
use Rattle.std.specs.Prelude.{◌≡◌, ◌↔◌, ℕ, suc, ◌<◌, cond, List, [], ◌∷◌, ◌++◌, map, length, Option, Some, None, slice_get}
use Rattle.std.specs.List.{flat_map}
use Rattle.net_core.specs.declared.bits.Bit.{Bit}
use Rattle.net_core.specs.declared.bits.Bit.TheVariants.{Net}
use Rattle.net_core.specs.declared.bits.Clock.{Clock}
use Rattle.net_core.specs.declared.cells.Comb.{Comb}
use Rattle.net_core.specs.declared.cells.Reg.{Reg}
use Rattle.net_core.specs.declared.mems.Mem.{Mem}
use Rattle.net_core.specs.declared.mems.RdPort.{RdPort}
use Rattle.net_core.specs.declared.rams.RamCell.{RamCell}
use Rattle.net_core.specs.declared.rams.SlotUse.{SlotUse}
use Rattle.net_core.specs.declared.modules.Module.{Module}

-- a node: the nets that it drives, and the bits on which their values depend within the moment
pub record Node : Type 0 where
  pub drives : List ℕ
  pub needs : List Bit

-- a logic cell depends on all its operands
abbrev pub comb_node : Comb → Node
comb_node c = record { drives = c.y; needs = c.a ++ c.b ++ c.s }

-- a register depends on its asynchronous reset alone
abbrev pub reg_node : Reg → Node
reg_node r = record { drives = r.q; needs = r.arst ∷ [] }

-- a clocked read depends on its asynchronous reset alone, an asynchronous one on its address
abbrev pub read_needs : Option Clock → RdPort → List Bit
read_needs None r = r.addr
read_needs (Some c) r = r.arst ∷ []

abbrev pub read_node : RdPort → Node
read_node r = record { drives = r.out; needs = read_needs r.clock r }

-- a slot that reads at once depends on its address, every other one on its asynchronous reset alone
abbrev pub slot_node : SlotUse → Node
slot_node s = record { drives = s.out; needs = cond s.reads_now s.addr (s.arst ∷ []) }

abbrev pub mem_nodes : Mem → List Node
mem_nodes x = map read_node x.reads

abbrev pub ram_nodes : RamCell → List Node
ram_nodes c = map slot_node c.slots

-- the nodes by their numbers: logic cells, registers, read ports in memory order, slots in cell order
abbrev pub nodes_of : Module → List Node
nodes_of m = map comb_node m.combs ++ (map reg_node m.regs ++ (flat_map mem_nodes m.mems ++ flat_map ram_nodes m.rams))

-- the bits have the net
abbrev pub HasNet : List Bit → ℕ → Type 0
HasNet bits n = (k : ℕ) × (slice_get bits k ≡ Some (Net n))

-- the node drives the net
abbrev pub Drives : Node → ℕ → Type 0
Drives p n = (k : ℕ) × (slice_get p.drives k ≡ Some n)

-- the node numbered i depends on the node numbered j: it needs a net that the other drives
pub record DependsOn (nodes : List Node) (i j : ℕ) : Type 0 where
  pub reader : Node
  pub writer : Node
  pub net : ℕ
  pub reads : slice_get nodes i ≡ Some reader
  pub writes : slice_get nodes j ≡ Some writer
  pub needed : HasNet reader.needs net
  pub driven : Drives writer net

-- the numbers of the nodes, every one once, each after all nodes that it depends on
pub record IsNodeOrder (nodes : List Node) (order : List ℕ) : Type 0 where
  pub within : (a i : ℕ) → slice_get order a ≡ Some i → i < length nodes
  pub every : (i : ℕ) → i < length nodes → (a : ℕ) × (slice_get order a ≡ Some i)
  pub once : (a b i : ℕ) → slice_get order a ≡ Some i → slice_get order b ≡ Some i → a ≡ b
  pub after : (a b i j : ℕ) → slice_get order a ≡ Some i → slice_get order b ≡ Some j → DependsOn nodes i j → b < a

-- numbers of nodes, at least one, each of which depends on the next, and the last on the first
pub record IsCycle (nodes : List Node) (cycle : List ℕ) : Type 0 where
  pub some : 0 < length cycle
  pub next : (a i j : ℕ) → slice_get cycle a ≡ Some i → slice_get cycle (suc a) ≡ Some j → DependsOn nodes i j
  pub round : (a i j : ℕ) → suc a ≡ length cycle → slice_get cycle a ≡ Some i → slice_get cycle 0 ≡ Some j → DependsOn nodes i j

-- each net that the node drives has a higher rank than each net that it needs
abbrev pub Rises : (ℕ → ℕ) → Node → Type 0
Rises rank p = (n x : ℕ) → Drives p n → HasNet p.needs x → rank x < rank n

-- A combinational order: ranks of the nets that rise along all nodes. That an order of the nodes as a list exists exactly
-- where ranks do is a law.
pub record Ordered (m : Module) : Type 0 where
  pub rank : ℕ → ℕ
  pub combs : (i : ℕ) (c : Comb) → slice_get m.combs i ≡ Some c → Rises rank (comb_node c)
  pub regs : (i : ℕ) (r : Reg) → slice_get m.regs i ≡ Some r → Rises rank (reg_node r)
  pub reads : (i : ℕ) (x : Mem) → slice_get m.mems i ≡ Some x → (j : ℕ) (r : RdPort) → slice_get x.reads j ≡ Some r → Rises rank (read_node r)
  pub slots : (i : ℕ) (c : RamCell) → slice_get m.rams i ≡ Some c → (j : ℕ) (s : SlotUse) → slice_get c.slots j ≡ Some s → Rises rank (slot_node s)

-- a combinational order as a list of all nodes
abbrev pub HasNodeOrder : Module → Type 0
HasNodeOrder m = (order : List ℕ) × IsNodeOrder (nodes_of m) order

-- Every net that a node drives or needs is one of the module's.
pub record NetsWithin (m : Module) : Type 0 where
  pub drives : (i : ℕ) (p : Node) → slice_get (nodes_of m) i ≡ Some p → (n : ℕ) → Drives p n → n < m.nets
  pub needs : (i : ℕ) (p : Node) → slice_get (nodes_of m) i ≡ Some p → (n : ℕ) → HasNet p.needs n → n < m.nets

-- The laws: an order of the nodes as a list exists exactly where ranks of the nets do, and none exists where there is a cycle.
abbrev pub OrdersAgree : Type 0
OrdersAgree = (m : Module) → Ordered m ↔ HasNodeOrder m

abbrev pub CycleHasNoOrder : Type 0
CycleHasNoOrder = (nodes : List Node) (cycle order : List ℕ) → IsCycle nodes cycle → IsNodeOrder nodes order → ⊥
