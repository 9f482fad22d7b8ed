use Rattle.std.proofs.Common.{◌≡◌, ◌∙◌, ap, arith, length}
use Rattle.row_store.specs.Rows.{row_of, rows_cut}
use Rattle.row_store.proofs.Tables.{one_row, one_row_changed}
use Rattle.row_store.proofs.tests.thousand.Goals as goal

pub returns-clause-bits : goal.returns-clause-bits
returns-clause-bits c =
    let rows = c.in_ok-rows.rows in
    let lanes = c.args.lanes.now in
    let bits = c.as_slice.result.now in
    let count : length bits ≡ 1000 = omega (arith, c.as_slice.ensures.value, c.in_ok-bits.ensures.items, c.in_ok-bits.ensures.len) in
    let first = one_row bits 1000 count (omega arith) in
    let cut : rows ≡ rows_cut bits 1000 = c.in_ok-rows.ensures in
    ap (λ r. length (row_of r 0)) c.set_lanes.ensures ∙ (one_row_changed rows lanes lanes lanes 1000 (ap length cut ∙ first.0) (ap (λ r. length (row_of r 0)) cut ∙ first.1)).1
