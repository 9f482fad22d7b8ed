-- The law of libraries that are read.
use Rattle.std.specs.Prelude.{ℕ, List}
use Rattle.lib_core.specs.declared.library.Library.{Library}
use Rattle.lib_read.specs.Limits.{IsWithinLimits}
use Rattle.lib_read.specs.Reads.{LibReads}
use Rattle.build_valid.specs.Libraries.{LibraryFits}

-- The law: a library that a text reads as, within the limits of a reader, is such as the laws of RAM cells take it.
abbrev pub ReadLibraryFits : Type 0
ReadLibraryFits = (bs : List ℕ) (lib : Library) → LibReads bs lib → IsWithinLimits lib → LibraryFits lib
