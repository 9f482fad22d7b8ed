-- Which library a text reads as, and the first fault of a text that reads as none. Limits are no part of what a text reads
-- as: IsWithinLimits says of a library whether this program takes it.
use Rattle.std.specs.Prelude.{◌≡◌, ◌⊎◌, ℕ, false, List, [], ◌∷◌, ◌++◌, length, map, Some, None, ◌==◌}
use Rattle.lib_core.specs.declared.library.Library.{Library}
use Rattle.lib_tree.specs.declared.fault.LibCode.{LibCode}
use Rattle.lib_tree.specs.declared.fault.LibCode.TheVariants as code
use Rattle.lib_tree.specs.declared.fault.LibFault.{LibFault}
use Rattle.lib_tree.specs.declared.statement.Statement.{Statement}
use Rattle.lib_tree.specs.Faults.{IsFirstFault, IsText, placed}
use Rattle.lib_judge.specs.declared.faults.Judged.{Judged}
use Rattle.lib_judge.specs.declared.raw.RawRam.{RawRam}
use Rattle.lib_judge.specs.Faults.{any_bad, any_missing, any_twice, judges_of, named_twice, ram_fault}
use Rattle.lib_judge.specs.Names.{names_of_all}
use Rattle.lib_judge.specs.Raw.{rams_of}
use Rattle.lib_read.specs.Expansion.{all_rows, library_of}

-- what each variant of a RAM is judged to be
abbrev pub all_judges : RawRam → List Judged
all_judges ram = judges_of ram (all_rows ram)

-- a RAM behind others with these names breaks no rule
pub record IsSound (earlier : List (List ℕ)) (ram : RawRam) : Type 0 where
  -- its name is new and no cell's, and the names of its ports are different
  pub names : named_twice earlier ram (names_of_all ram.ports) ≡ false
  -- nothing stands twice in a variant
  pub once : any_twice (all_judges ram) ≡ false
  pub ports : (length ram.ports == 0) ≡ false
  -- nothing is missing in a variant
  pub whole : any_missing (all_judges ram) ≡ false
  -- the widths of each variant fit together
  pub widths : any_bad (all_judges ram) ≡ false

abbrev pub and_name : List (List ℕ) → RawRam → List (List ℕ)
and_name earlier ram = earlier ++ ram.name ∷ []

-- each RAM breaks no rule, behind those before it
unfoldable pub AreSound : List (List ℕ) → List RawRam → Type 0
AreSound earlier [] = Unit {0}
AreSound earlier (ram ∷ rams) = IsSound earlier ram × AreSound (and_name earlier ram) rams

-- what a text reads as
pub record LibReads (bs : List ℕ) (library : Library) : Type 0 where
  pub statements : List Statement
  pub text : IsText bs statements
  pub sound : AreSound [] (rams_of statements)
  pub expansion : library ≡ library_of (rams_of statements)

-- ---- faults

abbrev pub names_of : List RawRam → List (List ℕ)
names_of rams = map (λ ram. ram.name) rams

-- none of the RAMs has a fault, behind those before it
unfoldable pub AreFaultless : List (List ℕ) → List RawRam → Type 0
AreFaultless earlier [] = Unit {0}
AreFaultless earlier (ram ∷ rams) = (ram_fault earlier ram ≡ None) × AreFaultless (and_name earlier ram) rams

-- the first RAM with a fault
pub record IsFaultOfRams (rams : List RawRam) (f : LibFault) : Type 0 where
  pub before : List RawRam
  pub ram : RawRam
  pub behind : List RawRam
  pub parts : rams ≡ before ++ ram ∷ behind
  -- no RAM before it has one
  pub none : AreFaultless [] before
  -- its own fault
  pub own : ram_fault (names_of before) ram ≡ Some (record { code = f.code; seen = f.seen })
  -- the line of its word ram
  pub line : f.line ≡ ram.line

-- the text is statements, and this is the fault of their RAMs
abbrev pub IsRamFault : List ℕ → LibFault → Type 0
IsRamFault bs f = (ss : List Statement) × IsText bs ss × IsFaultOfRams (rams_of ss) f

abbrev pub IsFaultBy : LibCode → List ℕ → LibFault → Type 0
IsFaultBy code.Memory bs f = f ≡ record { line = 0; code = code.Memory; seen = 0 }
IsFaultBy c bs f = IsFirstFault (placed bs) f ⊎ IsRamFault bs f

-- want of memory, or the first fault of the text
abbrev pub IsFault : List ℕ → LibFault → Type 0
IsFault bs f = IsFaultBy f.code bs f
