-- What edits keep.
use Rattle.std.specs.Prelude.{◌≡◌, ◌≢◌, ℕ, ◌<◌, Bool, true, false, List, [], length, Some, slice_get, slice_set}
use Rattle.lib_core.specs.declared.library.Library.{Library}
use Rattle.net_core.specs.declared.bits.Bit.{Bit}
use Rattle.net_core.specs.declared.bits.Bit.TheVariants.{Net}
use Rattle.net_core.specs.declared.bits.Clock.{Clock}
use Rattle.net_core.specs.declared.bits.Clock.TheVariants.{Root, Never}
use Rattle.net_core.specs.declared.cells.Comb.{Comb}
use Rattle.net_core.specs.declared.cells.Reg.{Reg}
use Rattle.net_core.specs.declared.modules.Module.{Module}
use Rattle.net_core.specs.Drivers.{HasOneDriver}
use Rattle.net_core.specs.Nodes.{Node, comb_node, reg_node, nodes_of, HasNet, Drives, Rises, Ordered, NetsWithin}
use Rattle.net_core.specs.Ports.{Interface, inputs_of, clocks_of}
use Rattle.net_core.specs.Simulation.{Simulates}
use Rattle.net_core.specs.Valid.{AreApart}
use Rattle.net_edit.specs.Edits.{Editing, with_nets, with_comb, with_reg}

-- nothing drives the net
pub record IsUndriven (m : Module) (net : ℕ) : Type 0 where
  pub inputs : (k : ℕ) → slice_get (inputs_of m) k ≡ Some net → ⊥
  pub nodes : (i : ℕ) (p : Node) → slice_get (nodes_of m) i ≡ Some p → Drives p net → ⊥

-- every net of the node is one of the module's
pub record IsNodeWithin (m : Module) (p : Node) : Type 0 where
  pub drives : (n : ℕ) → Drives p n → n < m.nets
  pub needs : (n : ℕ) → HasNet p.needs n → n < m.nets

-- What a node drives does not reach what it needs: there is a set of nets with all that it drives, with none that it needs, and
-- with all that a node of the module drives which needs one of the set.
pub record IsCut (m : Module) (p : Node) (above : ℕ → Bool) : Type 0 where
  pub drives : (n : ℕ) → Drives p n → above n ≡ true
  pub needs : (n : ℕ) → HasNet p.needs n → above n ≡ false
  pub closed : (i : ℕ) (q : Node) → slice_get (nodes_of m) i ≡ Some q → (n x : ℕ) → HasNet q.needs x → Drives q n → above x ≡ true → above n ≡ true

-- ranks of a combinational order that also rise along one more node
pub record HasRanks (m : Module) (p : Node) : Type 0 where
  pub order : Ordered m
  pub rises : Rises order.rank p

-- an order with the same ranks
pub record SameRanks (m : Module) (rank : ℕ → ℕ) : Type 0 where
  pub order : Ordered m
  pub same : (n : ℕ) → order.rank n ≡ rank n

-- The laws of order: a node that is cut off has ranks, and cells along which ranks rise may be added.
abbrev pub CutHasRanks : Type 0
CutHasRanks = (m : Module) (p : Node) (above : ℕ → Bool) → IsCut m p above → Ordered m → HasRanks m p

abbrev pub AddedCombIsOrdered : Type 0
AddedCombIsOrdered = (m : Module) (c : Comb) (o : Ordered m) → Rises o.rank (comb_node c) → SameRanks (with_comb m c) o.rank

abbrev pub AddedRegIsOrdered : Type 0
AddedRegIsOrdered = (m : Module) (r : Reg) (o : Ordered m) → Rises o.rank (reg_node r) → SameRanks (with_reg m r) o.rank

-- The clock is one that the module has already, or none.
abbrev pub IsKnownClock : Module → Clock → Type 0
IsKnownClock m Never = Unit {0}
IsKnownClock m (Root net rising) = (k : ℕ) × (edge : Bool) × (slice_get (clocks_of m) k ≡ Some (Root net edge))

-- The laws of runs: each run of the module with more nets, or with a cell more, is one of the module, with the same wave.
abbrev pub AddedNetsSimulate : Type 0
AddedNetsSimulate = (lib : Library) (modules : List Interface) (m : Module) (count : ℕ) → Simulates lib modules [] m (with_nets m count)

abbrev pub AddedCombSimulates : Type 0
AddedCombSimulates = (lib : Library) (modules : List Interface) (m : Module) (c : Comb) → Simulates lib modules [] m (with_comb m c)

abbrev pub AddedRegSimulates : Type 0
AddedRegSimulates = (lib : Library) (modules : List Interface) (m : Module) (r : Reg) → IsKnownClock m r.clock → Simulates lib modules [] m (with_reg m r)

-- The laws of drivers and numbers.
abbrev pub AddedCombHasOneDriver : Type 0
AddedCombHasOneDriver = (m : Module) (c : Comb) → HasOneDriver m → ((k n : ℕ) → slice_get c.y k ≡ Some n → IsUndriven m n) → AreApart c.y → HasOneDriver (with_comb m c)

abbrev pub AddedRegHasOneDriver : Type 0
AddedRegHasOneDriver = (m : Module) (r : Reg) → HasOneDriver m → ((k n : ℕ) → slice_get r.q k ≡ Some n → IsUndriven m n) → AreApart r.q → HasOneDriver (with_reg m r)

abbrev pub AddedCombIsWithin : Type 0
AddedCombIsWithin = (m : Module) (c : Comb) → NetsWithin m → IsNodeWithin m (comb_node c) → NetsWithin (with_comb m c)

abbrev pub AddedRegIsWithin : Type 0
AddedRegIsWithin = (m : Module) (r : Reg) → NetsWithin m → IsNodeWithin m (reg_node r) → NetsWithin (with_reg m r)

-- the edit in which the readers of a net read a bit
abbrev pub with_alias : Editing → ℕ → Bit → Editing
with_alias e net bit = record e { reads = slice_set e.reads net bit }

-- A net may be aliased to a bit: nothing drives it, its readers read itself so far, and those of the bit's net do too, which is
-- another one; and no net is aliased to it. So one pass over the module is enough.
pub record CanAlias (e : Editing) (net : ℕ) (bit : Bit) : Type 0 where
  pub there : net < length e.reads
  pub undriven : IsUndriven e.netlist net
  pub own : slice_get e.reads net ≡ Some (Net net)
  pub other : (k : ℕ) → bit ≡ Net k → k ≢ net
  pub direct : (k : ℕ) → bit ≡ Net k → slice_get e.reads k ≡ Some (Net k)
  pub unled : (n : ℕ) → slice_get e.reads n ≡ Some (Net net) → n ≡ net
