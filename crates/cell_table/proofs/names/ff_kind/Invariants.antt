use Rattle.std.proofs.Common.{◌≡◌, drop}
use Rattle.cell_table.specs.declared.names.TheConstants.{FF_KINDS}
use Rattle.cell_table.specs.Names.{ff_type}
use Rattle.cell_table.proofs.Naming.{named}
use Rattle.cell_table.proofs.names.ff_kind.Given as goal

abbrev pub invariant-loop-kind : goal.invariant-loop-kind
invariant-loop-kind l = named ff_type (drop l.kind-index l.kind-items) l.name ≡ named ff_type FF_KINDS l.name
