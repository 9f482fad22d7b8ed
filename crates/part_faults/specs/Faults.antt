-- The rules that the memory cells of a module can break when they are gathered into memories, and which of them each cell
-- breaks. (Yosys manual, memories; the order of the rules is this project's own.)
use Rattle.std.specs.Prelude.{◌≡◌, ◌⊎◌, ℕ, ◌*◌, Bool, false, not, ◌&&◌, ◌||◌, List, [], ◌∷◌, ◌++◌, Option, Some, None, Result, Ok, Err, codes, get_or, nat_eq, slice_get, if◌then◌else◌}
use Rattle.std.specs.List.{list_any}
use Rattle.lib_core.specs.declared.library.Tri.{Tri}
use Rattle.lib_core.specs.declared.library.Tri.TheVariants as tri
use Rattle.net_core.specs.declared.mems.Attr.{Attr}
use Rattle.net_core.specs.declared.mems.Mem.{Mem}
use Rattle.net_core.specs.declared.cells.Pin.{Pin}
use Rattle.net_core.specs.declared.modules.MemPart.{MemPart}
use Rattle.net_core.specs.declared.modules.Module.{Module}
use Rattle.net_core.specs.Valid.{is_one_digit, is_there}
use Rattle.mem_rows.specs.Rows.{bits}
use Rattle.mem_rows.specs.declared.row.MemRow.{MemRow}
use Rattle.mem_rows.specs.declared.row.MemRow.TheVariants as row
use Rattle.mem_collect.specs.declared.fault.CollectCode.{CollectCode}
use Rattle.mem_collect.specs.declared.fault.CollectCode.TheVariants as code
use Rattle.mem_collect.specs.declared.fault.CollectFault.{CollectFault}
use Rattle.mem_collect.specs.Pieces.{pin_bits}
use Rattle.mem_collect.specs.Unpacked.{overlap}
use Rattle.part_faults.specs.Driven.{is_driven, is_driven_bit, is_net}
use Rattle.part_faults.specs.Ids.{ids_in}
use Rattle.part_faults.specs.Writes.{ids_of, port_id}
use Rattle.part_faults.specs.Parts.{memory_named, row_of}

-- ---- the rules, by the places of the memories' names

-- a cell of its own names a memory that is not declared
abbrev pub lacks_memory : (List ℕ → Option ℕ) → MemRow → Bool
lacks_memory memory (row.Whole r) = false
lacks_memory memory (row.Read r) = not (is_there (memory r.name))
lacks_memory memory (row.OldRead r) = not (is_there (memory r.name))
lacks_memory memory (row.Write r) = not (is_there (memory r.name))
lacks_memory memory (row.Init r) = not (is_there (memory r.name))

-- a write port has the number of an earlier one of its memory; the numbers are those of the earlier ones
abbrev pub is_id_twice : (List ℕ → Option ℕ) → (ℕ → List ℕ) → List Attr → MemRow → Bool
is_id_twice memory ids params (row.Whole r) = false
is_id_twice memory ids params (row.Read r) = false
is_id_twice memory ids params (row.OldRead r) = false
is_id_twice memory ids params (row.Write r) = list_any (nat_eq (port_id params)) (ids_in ids (memory r.name))
is_id_twice memory ids params (row.Init r) = false

-- An address or an enable of initial contents that is no constant, or a word of them that is driven. A word that nothing
-- drives is open, which is a constant.
unfoldable pub is_not_constant : (ℕ → Bool) → List Pin → Bool
is_not_constant driven pins =
    list_any is_net (pin_bits pins (codes "\\ADDR")) || (list_any is_net (pin_bits pins (codes "\\EN")) || list_any (is_driven_bit driven) (pin_bits pins (codes "\\DATA")))

abbrev pub has_open_contents : (ℕ → Bool) → List Pin → MemRow → Bool
has_open_contents driven pins (row.Whole r) = false
has_open_contents driven pins (row.Read r) = false
has_open_contents driven pins (row.OldRead r) = false
has_open_contents driven pins (row.Write r) = false
has_open_contents driven pins (row.Init r) = is_not_constant driven pins

-- a mask has the bit of a write port's number; missing and open bits are not set
abbrev pub has_bit : List Tri → ℕ → Bool
has_bit mask id = is_one_digit (get_or mask id tri.Zero)

abbrev pub has_both : List Tri → List Tri → ℕ → Bool
has_both trans coll id = has_bit trans id && has_bit coll id

unfoldable pub some_both : List Attr → List ℕ → Bool
some_both params ids = list_any (has_both (bits params (codes "\\TRANSPARENCY_MASK")) (bits params (codes "\\COLLISION_X_MASK"))) ids

-- a read is both transparent and open to collisions for a write port of its memory; the numbers are those of all of them
abbrev pub masks_overlap : (List ℕ → Option ℕ) → (ℕ → List ℕ) → MemPart → MemRow → Bool
masks_overlap memory ids p (row.Whole r) = overlap r p
masks_overlap memory ids p (row.Read r) = some_both p.params (ids_in ids (memory r.name))
masks_overlap memory ids p (row.OldRead r) = false
masks_overlap memory ids p (row.Write r) = false
masks_overlap memory ids p (row.Init r) = false

-- as wide as 1, 2, 4, .. or 64 words
abbrev pub fits_words : ℕ → ℕ → Bool
fits_words word width =
    nat_eq width word || (nat_eq width (word * 2) || (nat_eq width (word * 4) || (nat_eq width (word * 8) || (nat_eq width (word * 16) || (nat_eq width (word * 32) || nat_eq width (word * 64))))))

abbrev pub port_misfits : Option ℕ → ℕ → Bool
port_misfits None width = false
port_misfits (Some word) width = not (fits_words word width)

abbrev pub init_misfits : Option ℕ → ℕ → Bool
init_misfits None width = false
init_misfits (Some word) width = not (nat_eq width word)

abbrev pub width_of : Option Mem → Option ℕ
width_of None = None
width_of (Some x) = Some x.width

-- the bits of a word of the memory at a place
abbrev pub word_at : List Mem → Option ℕ → Option ℕ
word_at declared None = None
word_at declared (Some k) = width_of (slice_get declared k)

-- a port is no 1, 2, 4, .. or 64 words of its memory wide, or initial contents have words of another width
abbrev pub misfits : List Mem → (List ℕ → Option ℕ) → MemRow → Bool
misfits declared memory (row.Whole r) = false
misfits declared memory (row.Read r) = port_misfits (word_at declared (memory r.name)) r.width
misfits declared memory (row.OldRead r) = port_misfits (word_at declared (memory r.name)) r.width
misfits declared memory (row.Write r) = port_misfits (word_at declared (memory r.name)) r.width
misfits declared memory (row.Init r) = init_misfits (word_at declared (memory r.name)) r.width

-- ---- the first rule that a cell breaks

abbrev pub first_code : Bool → Bool → Bool → Bool → Bool → Option CollectCode
first_code lacks twice unfixed both wide =
    if lacks then Some code.NoMemory
    else (if twice then Some code.PortIdTwice
    else (if unfixed then Some code.NotConstant
    else (if both then Some code.MasksOverlap
    else (if wide then Some code.BadWidth
    else None))))

-- by the numbers of the write ports of each memory that stand before the cell
unfoldable pub row_code : Module → (ℕ → List ℕ) → MemPart → MemRow → Option CollectCode
row_code m earlier p r =
    first_code (lacks_memory (memory_named m) r) (is_id_twice (memory_named m) earlier p.params r) (has_open_contents (is_driven m) p.pins r)
    (masks_overlap (memory_named m) (ids_of (memory_named m) m.parts) p r) (misfits m.declared (memory_named m) r)

abbrev pub code_of_row : Module → (ℕ → List ℕ) → MemPart → Option MemRow → Option CollectCode
code_of_row m earlier p None = None
code_of_row m earlier p (Some r) = row_code m earlier p r

-- of a cell behind these in its module; a cell that is no memory cell, or whose parameters do not read as one, breaks nothing here
abbrev pub code_of : Module → List MemPart → MemPart → Option CollectCode
code_of m earlier p = code_of_row m (ids_of (memory_named m) earlier) p (row_of p)

-- ---- the rules that are broken

abbrev pub entry : List ℕ → Option CollectCode → List CollectFault
entry name None = []
entry name (Some c) = (record { name = name; code = c }) ∷ []

-- by the cells from here on, behind these
abbrev pub faults_from : Module → List MemPart → List MemPart → List CollectFault
faults_from m earlier [] = []
faults_from m earlier (p ∷ ps) = entry p.name (code_of m earlier p) ++ faults_from m (earlier ++ p ∷ []) ps

-- by the memory cells of the module in file order, each with the first rule that it breaks
unfoldable pub part_faults : Module → List CollectFault
part_faults m = faults_from m [] m.parts

-- nothing is found exactly where no rule is broken, and else the first that is; or memory was wanting
abbrev pub Finds : Module → Result Unit CollectFault → Type 0
Finds m (Ok u) = part_faults m ≡ []
Finds m (Err f) = (f.code ≡ code.Memory) ⊎ (slice_get (part_faults m) 0 ≡ Some f)
