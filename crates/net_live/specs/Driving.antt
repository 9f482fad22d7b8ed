-- The nets that the parts of a module drive, in one list, and the nets that its nodes need.
use Rattle.std.specs.Prelude.{◌≡◌, ℕ, ◌<◌, Bool, true, List, ◌++◌, Some, slice_get, nat_lt}
use Rattle.std.specs.List.{flat_map, list_all}
use Rattle.net_core.specs.declared.bits.Bit.{Bit}
use Rattle.net_core.specs.declared.bits.Bit.TheVariants.{Zero, One, Net}
use Rattle.net_core.specs.declared.mems.Mem.{Mem}
use Rattle.net_core.specs.declared.rams.RamCell.{RamCell}
use Rattle.net_core.specs.declared.modules.Module.{Module}
use Rattle.net_core.specs.Nodes.{Node}
use Rattle.net_core.specs.Ports.{inputs_of}
use Rattle.net_core.specs.Valid.{AreApart}

-- the nets that the read ports of a memory, and the slots of a RAM cell, drive
abbrev pub read_nets : Mem → List ℕ
read_nets x = flat_map (λ r. r.out) x.reads

abbrev pub slot_nets : RamCell → List ℕ
slot_nets c = flat_map (λ s. s.out) c.slots

-- the nets that nodes drive, and with them those of the inputs; a net with two drivers stands twice
abbrev pub node_nets : Module → List ℕ
node_nets m = flat_map (λ c. c.y) m.combs ++ (flat_map (λ r. r.q) m.regs ++ (flat_map read_nets m.mems ++ flat_map slot_nets m.rams))

abbrev pub driven_nets : Module → List ℕ
driven_nets m = inputs_of m ++ node_nets m

-- numbers below a limit, none of which stands twice
pub record AreBelowApart (limit : ℕ) (nets : List ℕ) : Type 0 where
  pub below : (k n : ℕ) → slice_get nets k ≡ Some n → n < limit
  pub apart : AreApart nets

-- the bit is a constant, or a net below a limit
abbrev pub bit_below : ℕ → Bit → Bool
bit_below limit Zero = true
bit_below limit One = true
bit_below limit (Net n) = nat_lt n limit

abbrev pub needs_below : ℕ → Node → Bool
needs_below limit p = list_all (bit_below limit) p.needs
