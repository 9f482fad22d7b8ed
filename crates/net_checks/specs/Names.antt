-- The name that a fault of the gathering shows: that of the wire, the memory or the cell, and of a connect the first wire that
-- it names.
use Rattle.std.specs.Prelude.{ℕ, List, [], ◌∷◌, Option, Some, None, slice_get}
use Rattle.rtlil_text.specs.declared.doc.Item.{Item}
use Rattle.rtlil_text.specs.declared.doc.Item.TheVariants as item
use Rattle.rtlil_text.specs.declared.doc.Part.{Part}
use Rattle.rtlil_text.specs.declared.doc.Part.TheVariants as part
use Rattle.net_gather.specs.declared.fault.Fault.{Fault}
use Rattle.net_checks.specs.declared.fault.ModuleFault.{ModuleFault}
use Rattle.net_checks.specs.Finds.{either, shown}

-- the first wire that a signal names, in the order of its parts, whether or not there is such a wire
abbrev pub first_name : List Part → Option (List ℕ)
first_name [] = None
first_name (part.Fixed c ∷ ps) = first_name ps
first_name (part.Wire n ∷ ps) = Some n
first_name (part.Slice high low ∷ ps) = first_name ps
first_name (part.Begin ∷ ps) = first_name ps
first_name (part.End ∷ ps) = first_name ps

-- the left side comes first
abbrev pub connect_name : List Part → List Part → List ℕ
connect_name left right = shown (either (first_name left) (first_name right))

abbrev pub item_name : Item → List ℕ
item_name (item.Param p) = []
item_name (item.Wire w) = w.name
item_name (item.Mem m) = m.name
item_name (item.Cell c) = c.name
item_name (item.Connect l r) = connect_name l r

abbrev pub name_of : Option Item → List ℕ
name_of None = []
name_of (Some i) = item_name i

abbrev pub fault_name : List Item → Fault → List ℕ
fault_name items f = name_of (slice_get items f.item)

-- the fault with its name
abbrev pub fault_of : List Item → Fault → ModuleFault
fault_of items f = record { code = f.breach.code; name = fault_name items f; seen = f.breach.seen }
