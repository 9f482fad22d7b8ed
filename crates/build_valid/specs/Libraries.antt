-- What the laws of RAM cells take of a library, as libraries that are read have it.
use Rattle.std.specs.Prelude.{ℕ, ◌*◌, ◌≤◌, ◌<◌, List, length}
use Rattle.std.specs.List.{flat_map}
use Rattle.lib_core.specs.declared.library.Group.{Group}
use Rattle.lib_core.specs.declared.library.Library.{Library}
use Rattle.lib_core.specs.declared.library.RamKind.{RamKind}
use Rattle.lib_core.specs.declared.library.Variant.{Variant}
use Rattle.lib_core.specs.Rams.{last_width, last_words}
use Rattle.rtlil_text.specs.Grammar.{All, AreDistinct}

-- the names of the ports of a variant
abbrev pub port_names : Variant → List (List ℕ)
port_names v = flat_map (λ (g : Group). g.names) v.groups

-- no two ports of a variant have one name
abbrev pub HasPortsApart : Variant → Type 0
HasPortsApart v = AreDistinct (port_names v)

-- a property of each variant of each RAM
abbrev pub EachVariant : (Variant → Type 0) → Library → Type 0
EachVariant P lib = All (λ (k : RamKind). All P k.variants) lib.rams

abbrev pub PortsApart : Library → Type 0
PortsApart lib = EachVariant HasPortsApart lib

-- no two ports of a RAM have one name, and there are not too many variants, ports and bits
pub record LibraryFits (lib : Library) : Type 0 where
  pub apart : PortsApart lib
  pub variants : All (λ (k : RamKind). length k.variants ≤ 256) lib.rams
  pub ports : EachVariant (λ v. length (port_names v) ≤ 32) lib
  pub bits : EachVariant (λ v. last_words v * last_width v ≤ 4194304) lib
  -- no width is 0
  pub widths : EachVariant (λ v. All (λ w. 0 < w) v.widths) lib
