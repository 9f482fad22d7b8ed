-- The library that statements are: a variant for each choice of option values.
use Rattle.std.specs.Prelude.{ℕ, List, [], ◌∷◌, length, map, take, drop, Option, Some, None}
use Rattle.lib_core.specs.declared.library.Choice.{Choice}
use Rattle.lib_core.specs.declared.library.Library.{Library}
use Rattle.lib_core.specs.declared.library.RamKind.{RamKind}
use Rattle.lib_core.specs.declared.library.Variant.{Variant}
use Rattle.lib_tree.specs.declared.statement.Item.{Item}
use Rattle.lib_tree.specs.declared.statement.Item.TheVariants as item
use Rattle.lib_tree.specs.declared.statement.Setting.{Setting}
use Rattle.lib_tree.specs.declared.statement.Statement.{Statement}
use Rattle.lib_tree.specs.declared.statement.Statement.TheVariants as statement
use Rattle.lib_judge.specs.declared.judge.Sizes.{Sizes}
use Rattle.lib_judge.specs.declared.raw.RawRam.{RawRam}
use Rattle.lib_judge.specs.declared.sketch.Sketch.{Sketch}
use Rattle.lib_judge.specs.Faults.{all_options}
use Rattle.lib_judge.specs.Judge.{plain_sizes, sizes_from}
use Rattle.lib_judge.specs.Sketch.{sketch_of}
use Rattle.lib_judge.specs.Variants.{rows_from}
use Rattle.lib_read.specs.Groups.{groups_of}

-- the choices of all options, of the RAM and then of its ports; the last option varies fastest
abbrev pub all_rows : RawRam → List (List Choice)
all_rows ram = rows_from ([] ∷ []) (all_options ram)

-- a variant by what its items say and by the statements that count in each port
abbrev pub sized : RawRam → List Choice → List (List Setting) → Sizes → Variant
sized ram row ports z = record {
  abits = z.abits;
  widths = z.widths;
  per_port = z.per_port;
  byte = z.byte;
  cost = z.cost;
  fill = z.fill;
  options = take (length ram.options) row;
  groups = groups_of ram.ports z.widths ram.ports (drop (length ram.options) row) ports;
}

abbrev pub sketched : RawRam → List Choice → Sketch → Variant
sketched ram row k = sized ram row k.ports (sizes_from plain_sizes k.items)

unfoldable pub variant_of : RawRam → List Choice → Variant
variant_of ram row = sketched ram row (sketch_of ram row)

abbrev pub variants_of : RawRam → List (List Choice) → List Variant
variants_of ram rows = map (λ row. variant_of ram row) rows

abbrev pub style_word : Item → Option (List ℕ)
style_word (item.Style t) = Some t
style_word i = None

abbrev pub style_in : Statement → Option (List ℕ)
style_in (statement.Item i) = style_word i
style_in s = None

abbrev pub first_of : Option (List ℕ) → Option (List ℕ) → Option (List ℕ)
first_of None s = s
first_of (Some r) s = Some r

-- the first style of a block
unfoldable pub style_of : List Statement → Option (List ℕ)
style_of [] = None
style_of (s ∷ ss) = first_of (style_in s) (style_of ss)

unfoldable pub kind_of : RawRam → RamKind
kind_of ram = record { name = ram.name; class = ram.class; style = style_of ram.body; variants = variants_of ram (all_rows ram) }

abbrev pub kinds_of : List RawRam → List RamKind
kinds_of rams = map (λ ram. kind_of ram) rams

abbrev pub library_of : List RawRam → Library
library_of rams = record { rams = kinds_of rams; budget = None }
