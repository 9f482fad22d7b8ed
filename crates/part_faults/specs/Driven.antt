-- Which nets of a module are driven: those of its inputs, and those that a logic cell, a register, a read of a memory, a slot
-- of a RAM cell or a memory cell which is still to be gathered drives.
use Rattle.std.specs.Prelude.{◌≡◌, ◌<◌, ℕ, Bool, true, false, List, [], ◌∷◌, ◌++◌, length, get_or, slice_set, nat_eq, if◌then◌else◌}
use Rattle.std.specs.List.{flat_map, list_any}
use Rattle.net_core.specs.declared.bits.Bit.{Bit}
use Rattle.net_core.specs.declared.bits.Bit.TheVariants.{Zero, One, Net}
use Rattle.net_core.specs.declared.cells.Comb.{Comb}
use Rattle.net_core.specs.declared.cells.Pin.{Pin}
use Rattle.net_core.specs.declared.cells.Reg.{Reg}
use Rattle.net_core.specs.declared.mems.Mem.{Mem}
use Rattle.net_core.specs.declared.mems.RdPort.{RdPort}
use Rattle.net_core.specs.declared.modules.MemPart.{MemPart}
use Rattle.net_core.specs.declared.modules.Module.{Module}
use Rattle.net_core.specs.declared.rams.RamCell.{RamCell}
use Rattle.net_core.specs.declared.rams.SlotUse.{SlotUse}
use Rattle.net_core.specs.Ports.{inputs_of, nets_of}

abbrev pub comb_nets : Comb → List ℕ
comb_nets c = c.y

abbrev pub reg_nets : Reg → List ℕ
reg_nets r = r.q

abbrev pub read_nets : RdPort → List ℕ
read_nets r = r.out

abbrev pub mem_nets : Mem → List ℕ
mem_nets x = flat_map read_nets x.reads

abbrev pub slot_nets : SlotUse → List ℕ
slot_nets s = s.out

abbrev pub ram_nets : RamCell → List ℕ
ram_nets c = flat_map slot_nets c.slots

-- of the pins that the cell drives
abbrev pub pin_nets : Pin → List ℕ
pin_nets p = if p.drives then nets_of p.bits else []

abbrev pub part_nets : MemPart → List ℕ
part_nets p = flat_map pin_nets p.pins

unfoldable pub driven_nets : Module → List ℕ
driven_nets m =
    inputs_of m ++ (flat_map comb_nets m.combs ++ (flat_map reg_nets m.regs
    ++ (flat_map mem_nets m.mems ++ (flat_map ram_nets m.rams ++ flat_map part_nets m.parts))))

unfoldable pub is_driven : Module → ℕ → Bool
is_driven m n = list_any (nat_eq n) (driven_nets m)

abbrev pub is_net : Bit → Bool
is_net Zero = false
is_net One = false
is_net (Net n) = true

abbrev pub is_driven_bit : (ℕ → Bool) → Bit → Bool
is_driven_bit driven Zero = false
is_driven_bit driven One = false
is_driven_bit driven (Net n) = driven n

-- ---- marks

-- a net that is beyond them is not marked
unfoldable pub mark_net : List Bool → ℕ → List Bool
mark_net marks n = slice_set marks n true

-- with what puts the marks of one item, those of each
unfoldable pub mark_each : {X : Type 0} → (List Bool → X → List Bool) → List Bool → List X → List Bool
mark_each mark marks [] = marks
mark_each mark marks (x ∷ xs) = mark_each mark (mark marks x) xs

unfoldable pub mark_nets : List Bool → List ℕ → List Bool
mark_nets marks [] = marks
mark_nets marks (n ∷ ns) = mark_nets (mark_net marks n) ns

unfoldable pub mark_bits : List Bool → List Bit → List Bool
mark_bits marks [] = marks
mark_bits marks (Zero ∷ bs) = mark_bits marks bs
mark_bits marks (One ∷ bs) = mark_bits marks bs
mark_bits marks (Net n ∷ bs) = mark_bits (mark_net marks n) bs

abbrev pub mark_comb : List Bool → Comb → List Bool
mark_comb marks c = mark_nets marks c.y

abbrev pub mark_reg : List Bool → Reg → List Bool
mark_reg marks r = mark_nets marks r.q

abbrev pub mark_read : List Bool → RdPort → List Bool
mark_read marks r = mark_nets marks r.out

abbrev pub mark_mem : List Bool → Mem → List Bool
mark_mem marks x = mark_each mark_read marks x.reads

abbrev pub mark_slot : List Bool → SlotUse → List Bool
mark_slot marks s = mark_nets marks s.out

abbrev pub mark_ram : List Bool → RamCell → List Bool
mark_ram marks c = mark_each mark_slot marks c.slots

abbrev pub mark_pin : List Bool → Pin → List Bool
mark_pin marks p = if p.drives then mark_bits marks p.bits else marks

abbrev pub mark_part : List Bool → MemPart → List Bool
mark_part marks p = mark_each mark_pin marks p.pins

abbrev pub mark_cells : List Bool → Module → List Bool
mark_cells marks m = mark_each mark_part (mark_each mark_ram (mark_each mark_mem (mark_each mark_reg (mark_each mark_comb marks m.combs) m.regs) m.mems) m.rams) m.parts

-- the marks tell of each net within them whether it is driven
abbrev pub TellsDriven : Module → List Bool → Type 0
TellsDriven m marks = (n : ℕ) → n < length marks → get_or marks n false ≡ is_driven m n
