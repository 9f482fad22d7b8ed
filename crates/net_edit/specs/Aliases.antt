-- What a module keeps whose readers read other bits.
use Rattle.std.specs.Prelude.{◌≡◌, ℕ, ◌<◌, ◌≤◌, false, List, Some, slice_get}
use Rattle.lib_core.specs.declared.library.Library.{Library}
use Rattle.net_core.specs.declared.bits.Bit.{Bit}
use Rattle.net_core.specs.declared.bits.Bit.TheVariants.{Net}
use Rattle.net_core.specs.declared.modules.Module.{Module}
use Rattle.net_core.specs.Drivers.{HasOneDriver}
use Rattle.net_core.specs.Nodes.{Node, nodes_of, HasNet, Drives, Ordered, NetsWithin}
use Rattle.net_core.specs.Ports.{Interface, inputs_of, inout_bits}
use Rattle.net_core.specs.Simulation.{Simulates, among}
use Rattle.net_edit.specs.Edits.{Editing}
use Rattle.net_edit.specs.Laws.{SameRanks, CanAlias, with_alias}
use Rattle.net_edit.specs.Redirect.{bit_read, redirected}

-- the readers of the net read the net itself
abbrev pub IsOwn : List Bit → ℕ → Type 0
IsOwn reads net = bit_read reads (Net net) ≡ Net net

-- every net that is driven, or stands among inout bits, is read as itself
pub record IsRedirection (modules : List Interface) (m : Module) (reads : List Bit) : Type 0 where
  pub inputs : (k n : ℕ) → slice_get (inputs_of m) k ≡ Some n → IsOwn reads n
  pub nodes : (i : ℕ) (p : Node) → slice_get (nodes_of m) i ≡ Some p → (n : ℕ) → Drives p n → IsOwn reads n
  pub inouts : (n : ℕ) → HasNet (inout_bits modules m) n → IsOwn reads n

-- all nets but these are read as themselves
abbrev pub AreOwnBut : List ℕ → List Bit → Type 0
AreOwnBut hidden reads = (n : ℕ) → among hidden n ≡ false → IsOwn reads n

-- The laws: each run of the new module is one of the old, but at the nets that are read as other bits.
abbrev pub RedirectedSimulates : Type 0
RedirectedSimulates =
    (lib : Library) (modules : List Interface) (m : Module) (reads : List Bit) (hidden : List ℕ) → IsRedirection modules m reads → AreOwnBut hidden reads → Simulates lib modules hidden m (redirected reads m)

-- An order in which no bit is higher than the net in whose place it is read is one of the new module.
abbrev pub RedirectedIsOrdered : Type 0
RedirectedIsOrdered = (m : Module) (reads : List Bit) (o : Ordered m) → ((n k : ℕ) → bit_read reads (Net n) ≡ Net k → o.rank k ≤ o.rank n) → SameRanks (redirected reads m) o.rank

abbrev pub RedirectedHasOneDriver : Type 0
RedirectedHasOneDriver = (m : Module) (reads : List Bit) → HasOneDriver m → HasOneDriver (redirected reads m)

abbrev pub RedirectedIsWithin : Type 0
RedirectedIsWithin = (m : Module) (reads : List Bit) → NetsWithin m → ((n k : ℕ) → n < m.nets → bit_read reads (Net n) ≡ Net k → k < m.nets) → NetsWithin (redirected reads m)

-- One more alias keeps what the others were.
abbrev pub AliasIsRedirection : Type 0
AliasIsRedirection =
    (modules : List Interface) (e : Editing) (net : ℕ) (bit : Bit) → CanAlias e net bit → (HasNet (inout_bits modules e.netlist) net → ⊥) → IsRedirection modules e.netlist e.reads → IsRedirection modules e.netlist (with_alias e net bit).reads
