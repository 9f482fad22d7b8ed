-- The words of a library's text. Most are those of Yosys' memory_libmap.
use Rattle.std.specs.Prelude.{ℕ, List, Option, Some, None, if◌then◌else◌, codes}
use Rattle.std.specs.Str.{bytes_eq}
use Rattle.lib_core.specs.declared.library.EdgeKind.{EdgeKind}
use Rattle.lib_core.specs.declared.library.EdgeKind.TheVariants as edge
use Rattle.lib_core.specs.declared.library.Fill.{Fill}
use Rattle.lib_core.specs.declared.library.Fill.TheVariants as fill
use Rattle.lib_core.specs.declared.library.PortKind.{PortKind}
use Rattle.lib_core.specs.declared.library.PortKind.TheVariants as kind
use Rattle.lib_core.specs.declared.library.Property.{Property}
use Rattle.lib_core.specs.declared.library.Property.TheVariants as property
use Rattle.lib_core.specs.declared.library.RamClass.{RamClass}
use Rattle.lib_core.specs.declared.library.RamClass.TheVariants as class
use Rattle.lib_core.specs.declared.library.Seen.TheVariants as seen
use Rattle.lib_core.specs.declared.library.SrstGate.{SrstGate}
use Rattle.lib_core.specs.declared.library.SrstGate.TheVariants as gate
use Rattle.lib_tree.specs.declared.token.Word.{Word}
use Rattle.lib_tree.specs.declared.token.Word.TheVariants as word

-- the classes of RAMs
unfoldable pub class_of : List ℕ → Option RamClass
class_of bs =
    if bytes_eq bs (codes "distributed") then Some class.Distributed
    else (if bytes_eq bs (codes "block") then Some class.Block
    else (if bytes_eq bs (codes "huge") then Some class.Huge
    else None))

-- the kinds of ports
unfoldable pub kind_of : List ℕ → Option PortKind
kind_of bs =
    if bytes_eq bs (codes "ar") then Some kind.Ar
    else (if bytes_eq bs (codes "sr") then Some kind.Sr
    else (if bytes_eq bs (codes "sw") then Some kind.Sw
    else (if bytes_eq bs (codes "arsw") then Some kind.Arsw
    else (if bytes_eq bs (codes "srsw") then Some kind.Srsw
    else None))))

-- the properties of ports
unfoldable pub property_of : List ℕ → Option Property
property_of bs =
    if bytes_eq bs (codes "clock") then Some property.Clock
    else (if bytes_eq bs (codes "clken") then Some property.Clken
    else (if bytes_eq bs (codes "rden") then Some property.Rden
    else (if bytes_eq bs (codes "rdwr") then Some property.Rdwr
    else (if bytes_eq bs (codes "wrtrans") then Some property.Wrtrans
    else (if bytes_eq bs (codes "wrprio") then Some property.Wrprio
    else (if bytes_eq bs (codes "rdsrst") then Some property.Rdsrst
    else (if bytes_eq bs (codes "rdarst") then Some property.Rdarst
    else (if bytes_eq bs (codes "rdinit") then Some property.Rdinit
    else (if bytes_eq bs (codes "wrbe_separate") then Some property.WrbeSeparate
    else (if bytes_eq bs (codes "width") then Some property.Width
    else None))))))))))

-- the edges of clocks
unfoldable pub edge_of : List ℕ → Option EdgeKind
edge_of bs =
    if bytes_eq bs (codes "posedge") then Some edge.Pos
    else (if bytes_eq bs (codes "negedge") then Some edge.Neg
    else (if bytes_eq bs (codes "anyedge") then Some edge.Either
    else None))

-- what contents can start with and what resets can give
unfoldable pub fill_of : List ℕ → Option Fill
fill_of bs =
    if bytes_eq bs (codes "none") then Some fill.Nothing
    else (if bytes_eq bs (codes "zero") then Some fill.Zero
    else (if bytes_eq bs (codes "any") then Some fill.Any
    else (if bytes_eq bs (codes "no_undef") then Some fill.NoUndef
    else None)))

-- what a synchronous reset waits for
unfoldable pub gate_of : List ℕ → Option SrstGate
gate_of bs =
    if bytes_eq bs (codes "ungated") then Some gate.Ungated
    else (if bytes_eq bs (codes "gated_clken") then Some gate.Clken
    else (if bytes_eq bs (codes "gated_rden") then Some gate.Rden
    else None))

-- what a port shows of a write
unfoldable pub own_of : List ℕ → Option Word
own_of bs =
    if bytes_eq bs (codes "undefined") then Some word.Undefined
    else (if bytes_eq bs (codes "no_change") then Some word.NoChange
    else (if bytes_eq bs (codes "old") then Some (word.Seen seen.Old)
    else (if bytes_eq bs (codes "new") then Some (word.Seen seen.New)
    else (if bytes_eq bs (codes "new_only") then Some word.NewOnly
    else None))))

-- the words that begin items or stand in them
unfoldable pub item_of : List ℕ → Word
item_of bs =
    if bytes_eq bs (codes "abits") then word.Abits
    else (if bytes_eq bs (codes "widths") then word.Widths
    else (if bytes_eq bs (codes "per_port") then word.PerPort
    else (if bytes_eq bs (codes "global") then word.Global
    else (if bytes_eq bs (codes "byte") then word.Byte
    else (if bytes_eq bs (codes "cost") then word.Cost
    else (if bytes_eq bs (codes "init") then word.Init
    else (if bytes_eq bs (codes "style") then word.Style
    else (if bytes_eq bs (codes "option") then word.RamOption
    else (if bytes_eq bs (codes "portoption") then word.PortOption
    else (if bytes_eq bs (codes "port") then word.Port
    else (if bytes_eq bs (codes "all") then word.All
    else (if bytes_eq bs (codes "tied") then word.Tied
    else word.Other))))))))))))

-- a word of a group, or what else it may be
abbrev pub or_word : {A : Type 0} → (A → Word) → Option A → Word → Word
or_word f None w = w
or_word f (Some a) w = f a

unfoldable pub word_of : List ℕ → Word
word_of bs =
    or_word (λ class. word.Class class) (class_of bs)
    (or_word (λ kind. word.Kind kind) (kind_of bs)
    (or_word (λ property. word.Property property) (property_of bs)
    (or_word (λ edge. word.Edge edge) (edge_of bs)
    (or_word (λ fill. word.Fill fill) (fill_of bs)
    (or_word (λ gate. word.Gate gate) (gate_of bs)
    (or_word (λ word. word) (own_of bs)
    (item_of bs)))))))
