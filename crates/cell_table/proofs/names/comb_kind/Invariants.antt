use Rattle.std.proofs.Common.{◌≡◌, drop}
use Rattle.cell_table.specs.declared.names.TheConstants.{COMB_KINDS}
use Rattle.cell_table.specs.Names.{comb_type}
use Rattle.cell_table.proofs.Naming.{named}
use Rattle.cell_table.proofs.names.comb_kind.Given as goal

abbrev pub invariant-loop-kind : goal.invariant-loop-kind
invariant-loop-kind l = named comb_type (drop l.kind-index l.kind-items) l.name ≡ named comb_type COMB_KINDS l.name
