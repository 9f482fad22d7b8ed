-- The RAMs of a text one after the other: the library that they are, or the first fault.
use Rattle.std.specs.Prelude.{ℕ, List, [], ◌∷◌, ◌++◌, Option, Some, None, Result, Ok, Err}
use Rattle.lib_core.specs.declared.library.Library.{Library}
use Rattle.lib_core.specs.declared.library.RamKind.{RamKind}
use Rattle.lib_tree.specs.declared.fault.LibFault.{LibFault}
use Rattle.lib_judge.specs.declared.faults.RamFault.{RamFault}
use Rattle.lib_judge.specs.declared.raw.RawRam.{RawRam}
use Rattle.lib_judge.specs.Faults.{ram_fault}
use Rattle.lib_read.specs.Expansion.{kind_of}
use Rattle.lib_read.specs.Reads.{and_name}

abbrev pub fault_at : ℕ → RamFault → LibFault
fault_at line f = record { line = line; code = f.code; seen = f.seen }

abbrev pub onto : List RamKind → Result (List RamKind) LibFault → Result (List RamKind) LibFault
onto ks (Ok more) = Ok (ks ++ more)
onto ks (Err f) = Err f

abbrev pub kind_before : RawRam → Option RamFault → Result (List RamKind) LibFault → Result (List RamKind) LibFault
kind_before ram None r = onto (kind_of ram ∷ []) r
kind_before ram (Some f) r = Err (fault_at ram.line f)

-- the RAMs behind others with these names
unfoldable pub read_kinds : List (List ℕ) → List RawRam → Result (List RamKind) LibFault
read_kinds earlier [] = Ok []
read_kinds earlier (ram ∷ rams) = kind_before ram (ram_fault earlier ram) (read_kinds (and_name earlier ram) rams)

abbrev pub as_library : Result (List RamKind) LibFault → Result Library LibFault
as_library (Ok ks) = Ok (record { rams = ks; budget = None })
as_library (Err f) = Err f

-- the library of all RAMs
unfoldable pub read_rams : List RawRam → Result Library LibFault
read_rams rams = as_library (read_kinds [] rams)
