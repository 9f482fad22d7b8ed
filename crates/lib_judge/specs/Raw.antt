-- The RAMs of a text and their ports, each with the statements of its block.
use Rattle.std.specs.Prelude.{ℕ, zero, suc, ◌+◌, List, [], ◌∷◌, take}
use Rattle.lib_core.specs.declared.library.PortKind.{PortKind}
use Rattle.lib_core.specs.declared.library.RamClass.{RamClass}
use Rattle.lib_tree.specs.declared.statement.Scope.TheVariants as scope
use Rattle.lib_tree.specs.declared.statement.Statement.{Statement}
use Rattle.lib_tree.specs.declared.statement.Statement.TheVariants as statement
use Rattle.lib_judge.specs.declared.raw.RawPort.{RawPort}
use Rattle.lib_judge.specs.declared.raw.RawRam.{RawRam}
use Rattle.lib_judge.specs.Variants.{axes, mentions}

-- how many statements stand before the end of the block that they are in, where so many blocks are open in it
unfoldable pub block_length : ℕ → List Statement → ℕ
block_length depth [] = 0
block_length zero (statement.End ∷ ss) = 0
block_length (suc depth) (statement.End ∷ ss) = 1 + block_length depth ss
block_length depth (statement.Ram line class name ∷ ss) = 1 + block_length (depth + 1) ss
block_length depth (statement.Block scope choice ∷ ss) = 1 + block_length (depth + 1) ss
block_length depth (statement.Port kind names ∷ ss) = 1 + block_length (depth + 1) ss
block_length depth (statement.Item i ∷ ss) = 1 + block_length depth ss
block_length depth (statement.Setting s ∷ ss) = 1 + block_length depth ss

-- what stands in the block whose head is before the statements
abbrev pub block : List Statement → List Statement
block ss = take (block_length 0 ss) ss

abbrev pub port_of : PortKind → List (List ℕ) → List Statement → RawPort
port_of kind names behind = record { kind = kind; names = names; body = block behind; options = axes (mentions scope.Port (block behind)) }

unfoldable pub ports_of : List Statement → List RawPort
ports_of [] = []
ports_of (statement.Port kind names ∷ ss) = port_of kind names ss ∷ ports_of ss
ports_of (s ∷ ss) = ports_of ss

abbrev pub ram_of : ℕ → RamClass → List ℕ → List Statement → RawRam
ram_of line class name behind = record { line = line; class = class; name = name; body = block behind; ports = ports_of (block behind); options = axes (mentions scope.Ram (block behind)) }

unfoldable pub rams_of : List Statement → List RawRam
rams_of [] = []
rams_of (statement.Ram line class name ∷ ss) = ram_of line class name ss ∷ rams_of ss
rams_of (s ∷ ss) = rams_of ss
