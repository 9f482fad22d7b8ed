use Rattle.std.proofs.Common.{true, false, refl, arith}
use Rattle.cell_table.specs.Names.{carried_types}
use Rattle.cell_table.proofs.Naming.{listed, listed_here, listed_later, listed_nowhere, listed_exactly}
use Rattle.cell_table.proofs.names.is_carried.Goals as goal

pub loop-carried-init : goal.loop-carried-init
loop-carried-init c = refl

pub loop-carried-preserved : goal.loop-carried-preserved
loop-carried-preserved c =
    listed_later (λ text. text.now) _ c.args.name.now _ c.as_slice.result.now c.loop-carried.carried-index _ c.eq.result (listed (λ text. text) carried_types c.args.name.now)
    (omega arith) refl c.as_slice.ensures c.eq.ensures c.if-eq.false c.loop-carried.invariant

pub returns-then-eq : goal.returns-then-eq
returns-then-eq c =
    listed_exactly carried_types c.args.name.now true
    (listed_here (λ text. text.now) _ c.args.name.now _ c.as_slice.result.now c.loop-carried.carried-index _ c.eq.result (listed (λ text. text) carried_types c.args.name.now)
    (omega arith) refl c.as_slice.ensures c.eq.ensures c.if-eq.true c.loop-carried.invariant)

pub returns : goal.returns
returns c = listed_exactly carried_types c.args.name.now false (listed_nowhere (λ text. text.now) _ c.args.name.now c.loop-carried.carried-index (listed (λ text. text) carried_types c.args.name.now) (omega arith) c.loop-carried.invariant)
