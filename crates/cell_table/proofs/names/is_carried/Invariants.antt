use Rattle.std.proofs.Common.{◌≡◌, drop}
use Rattle.cell_table.specs.Names.{carried_types}
use Rattle.cell_table.proofs.Naming.{listed}
use Rattle.cell_table.proofs.names.is_carried.Given as goal

abbrev pub invariant-loop-carried : goal.invariant-loop-carried
invariant-loop-carried l = listed (λ text. text.now) (drop l.carried-index l.carried-items) l.name ≡ listed (λ text. text) carried_types l.name
