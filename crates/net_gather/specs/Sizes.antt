-- Wires and memories: the sizes that a module can have. A bit of a wire is a net.
use Rattle.std.specs.Prelude.{ℕ, ◌+◌, ◌||◌, List, [], ◌∷◌, ◌++◌, Option, Some, None, if◌then◌else◌, nat_eq}
use Rattle.rtlil_text.specs.declared.doc.DocMem.{DocMem}
use Rattle.rtlil_text.specs.declared.doc.Item.{Item}
use Rattle.rtlil_text.specs.declared.doc.Item.TheVariants as item
use Rattle.net_wires.specs.declared.breach.Breach.{Breach}
use Rattle.net_wires.specs.declared.breach.BuildCode.TheVariants as code
use Rattle.net_wires.specs.Finds.{breach}
use Rattle.mem_rows.specs.Limits.{size_limit}
use Rattle.net_gather.specs.declared.fault.Fault.{Fault}
use Rattle.net_gather.specs.Faults.{at, limit_breaches}

-- how many nets a module may have, before its connects join them
abbrev pub most_nets : ℕ
most_nets = 4194304

-- one more than a limit that is passed
abbrev pub seen_breaches : Option ℕ → List Breach
seen_breaches None = []
seen_breaches (Some n) = record { code = code.Limit; seen = n } ∷ []

-- a memory has words, and these have bits
unfoldable pub memory_breaches : DocMem → List Breach
memory_breaches m =
    if nat_eq m.width 0 || nat_eq m.size 0 then breach code.MissingParam ∷ []
    else seen_breaches (size_limit m.size m.offset m.width)

-- how many bits an item has, if it is a wire
abbrev pub item_bits : Item → ℕ
item_bits (item.Wire w) = w.width
item_bits (item.Param p) = 0
item_bits (item.Mem m) = 0
item_bits (item.Cell c) = 0
item_bits (item.Connect l r) = 0

-- what a wire or a memory breaks, where the wires before it have so many bits
abbrev pub size_breaches : ℕ → Item → List Breach
size_breaches bits (item.Wire w) = limit_breaches most_nets (bits + w.width)
size_breaches bits (item.Param p) = []
size_breaches bits (item.Mem m) = memory_breaches m
size_breaches bits (item.Cell c) = []
size_breaches bits (item.Connect l r) = []

-- items are counted from i
abbrev pub size_faults : ℕ → ℕ → List Item → List Fault
size_faults i bits [] = []
size_faults i bits (x ∷ xs) = at i (size_breaches bits x) ++ size_faults (i + 1) (bits + item_bits x) xs
