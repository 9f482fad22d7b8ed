use Rattle.std.proofs.Common.{None, refl, arith}
use Rattle.cell_table.specs.declared.names.TheConstants.{COMB_KINDS}
use Rattle.cell_table.specs.Names.{comb_type}
use Rattle.cell_table.proofs.Naming.{named, named_here, named_later, named_nowhere, named_exactly, comb_found}
use Rattle.cell_table.proofs.names.comb_kind.Goals as goal

pub loop-kind-init : goal.loop-kind-init
loop-kind-init c = refl

pub loop-kind-preserved : goal.loop-kind-preserved
loop-kind-preserved c =
    named_later comb_type COMB_KINDS c.args.name.now c.comb_type.result.now c.as_slice.result.now c.loop-kind.kind-index _ c.eq.result (named comb_type COMB_KINDS c.args.name.now)
    (omega arith) c.comb_type.ensures c.as_slice.ensures c.eq.ensures c.if-eq.false c.loop-kind.invariant

pub returns-then-eq : goal.returns-then-eq
returns-then-eq c =
    named_exactly comb_type COMB_KINDS comb_found c.args.name.now _
    (named_here comb_type COMB_KINDS c.args.name.now c.comb_type.result.now c.as_slice.result.now c.loop-kind.kind-index _ c.eq.result (named comb_type COMB_KINDS c.args.name.now)
    (omega arith) c.comb_type.ensures c.as_slice.ensures c.eq.ensures c.if-eq.true c.loop-kind.invariant)

pub returns : goal.returns
returns c = named_exactly comb_type COMB_KINDS comb_found c.args.name.now None (named_nowhere comb_type COMB_KINDS c.args.name.now c.loop-kind.kind-index (named comb_type COMB_KINDS c.args.name.now) (omega arith) c.loop-kind.invariant)
