-- What is answered of a cell that holds a whole memory.
use Rattle.std.specs.Prelude.{◌≡◌, ◌⊎◌, Bool, true, false, Option, Some, Result, Ok, Err}
use Rattle.net_core.specs.declared.mems.Mem.{Mem}
use Rattle.net_core.specs.declared.modules.MemPart.{MemPart}
use Rattle.cell_rows.specs.declared.kinds.MemKind.TheVariants as kind
use Rattle.mem_rows.specs.ByType.{mem_row}
use Rattle.mem_rows.specs.Limits.{IsWithin}
use Rattle.mem_rows.specs.declared.row.MemRow.TheVariants as rows
use Rattle.mem_rows.specs.declared.whole.WholeRow.{WholeRow}
use Rattle.mem_collect.specs.declared.fault.CollectFault.{CollectFault}
use Rattle.mem_collect.specs.declared.fault.CollectCode.TheVariants as code
use Rattle.mem_collect.specs.Unpacked.{mem_of, overlap}

-- the masks overlap and the cell is named, or memory was wanting
abbrev pub IsOverlapFault : MemPart → CollectFault → Type 0
IsOverlapFault part f = (f.code ≡ code.Memory) ⊎ ((f.code ≡ code.MasksOverlap) × (f.name ≡ part.name))

abbrev pub Unpacks : WholeRow → MemPart → Result Mem CollectFault → Type 0
Unpacks row part (Ok mem) = (overlap row part ≡ false) × (mem ≡ mem_of row part)
Unpacks row part (Err f) = (f.code ≡ code.Memory) ⊎ ((f.code ≡ code.MasksOverlap) × (f.name ≡ part.name) × (overlap row part ≡ true))

-- the parameters of the cell say this memory
abbrev pub Says : MemPart → WholeRow → Type 0
Says part row = mem_row kind.Packed part.params ≡ Some (rows.Whole row)

-- a cell `$mem_v2` with all its parameters, of a memory within the limits
abbrev pub IsWhole : MemPart → Type 0
IsWhole part = (row : WholeRow) × Says part row × IsWithin row

abbrev pub UnpacksPart : MemPart → Result Mem CollectFault → Type 0
UnpacksPart part result = (row : WholeRow) → Says part row → Unpacks row part result

abbrev pub IsMemoryFault : CollectFault → Type 0
IsMemoryFault f = f.code ≡ code.Memory
