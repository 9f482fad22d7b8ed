-- Logic that is added to a module, by what its outputs mean.
use Rattle.std.specs.Prelude.{◌≡◌, ℕ, ◌+◌, ◌-◌, ◌<◌, ◌≤◌, Bool, List, [], ◌∷◌, ◌++◌, Some, slice_get}
use Rattle.lib_core.specs.declared.library.Library.{Library}
use Rattle.net_core.specs.declared.bits.Bit.{Bit}
use Rattle.net_core.specs.declared.cells.Comb.{Comb}
use Rattle.net_core.specs.declared.cells.Reg.{Reg}
use Rattle.net_core.specs.declared.modules.Module.{Module}
use Rattle.net_core.specs.Drivers.{HasOneDriver}
use Rattle.net_core.specs.Nodes.{Ordered, NetsWithin}
use Rattle.net_core.specs.Ports.{inputs_of}
use Rattle.net_core.specs.Runs.{Run}
use Rattle.net_core.specs.Values.{Valuation, Wave, Happening, At, values_of}
use Rattle.net_edit.specs.Edits.{Editing, bits_from}
use Rattle.net_edit.specs.Laws.{IsKnownClock}
use Rattle.net_edit.specs.Ranks.{height, BitsBelow}

-- the module is the old one with more logic cells, registers and nets behind the others
pub record Grows (old new : Module) : Type 0 where
  pub more_combs : List Comb
  pub more_regs : List Reg
  pub combs : new.combs ≡ old.combs ++ more_combs
  pub regs : new.regs ≡ old.regs ++ more_regs
  pub clocks : (i : ℕ) (r : Reg) → slice_get more_regs i ≡ Some r → IsKnownClock old r.clock
  pub nets : old.nets ≤ new.nets
  pub name : new.name ≡ old.name
  pub attrs : new.attrs ≡ old.attrs
  pub wires : new.wires ≡ old.wires
  pub declared : new.declared ≡ old.declared
  pub parts : new.parts ≡ old.parts
  pub mems : new.mems ≡ old.mems
  pub rams : new.rams ≡ old.rams
  pub carried : new.carried ≡ old.carried

-- every net that a node drives or needs, and that an input has, is one of the module's
pub record IsWithin (m : Module) : Type 0 where
  pub nodes : NetsWithin m
  pub inputs : (k n : ℕ) → slice_get (inputs_of m) k ≡ Some n → n < m.nets

-- An order of the new module that keeps the old ranks, and in which the outputs are near above the operands.
pub record Places (old new : Module) (from ys : List Bit) (o : Ordered old) : Type 0 where
  pub order : Ordered new
  pub same : (n : ℕ) → n < old.nets → order.rank n ≡ o.rank n
  pub near : height order.rank ys ≤ height o.rank from + (new.nets - old.nets)

-- what logic or a register over new nets keeps, of which these are the outputs, and these the bits that they depend on
pub record Extends (old new : Editing) (from ys : List Bit) : Type 0 where
  pub grows : Grows old.netlist new.netlist
  pub reads : new.reads ≡ old.reads ++ bits_from old.netlist.nets (new.netlist.nets - old.netlist.nets)
  pub within : IsWithin new.netlist
  pub below : BitsBelow new.netlist.nets ys
  pub drivers : HasOneDriver old.netlist → HasOneDriver new.netlist
  pub places : (o : Ordered old.netlist) → Places old.netlist new.netlist from ys o

-- in each run, at each moment, the bits have these values
abbrev pub Mean : Module → List Bit → (Valuation → List Bool) → Type 0
Mean m ys f = (lib : Library) (events : List Happening) (v : Wave) → Run lib m events v → (t : ℕ) (e : Happening) → At events t e → values_of (v t) ys ≡ f (v t)

-- The module has new logic over these operands, which shows f at these bits.
pub record Adds (old new : Editing) (from ys : List Bit) (f : Valuation → List Bool) : Type 0 where
  pub extends : Extends old new from ys
  pub means : Mean new.netlist ys f

-- the same for one bit
abbrev pub AddsBit : Editing → Editing → List Bit → Bit → (Valuation → Bool) → Type 0
AddsBit old new from y f = Adds old new from (y ∷ []) (λ u. f u ∷ [])

-- gates may stand over these bits
pub record IsReady (e : Editing) (bits : List Bit) : Type 0 where
  pub within : IsWithin e.netlist
  pub below : BitsBelow e.netlist.nets bits
