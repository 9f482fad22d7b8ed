use Rattle.std.proofs.Common.{◌≡◌, ◌-◌, ◌^◌, List, map, ap, sym, subst, ◌∙◌}
use Rattle.std.specs.Prelude.{IfOk}
use Rattle.std.specs.List.{range_with_len}
use Rattle.lib_core.specs.declared.library.Tri.{Tri}
use Rattle.lib_core.specs.Rams.{width_at}
use Rattle.row_store.specs.Rows.{row_cut}
use Rattle.ram_step.proofs.Starting.{start_nothing, start_zero, start_given}
use Rattle.ram_step.proofs.starts.start_rows.Goals as goal

pub returns-in-Nothing : goal.returns-in-Nothing
returns-in-Nothing g c =
    let x = c.args.variant.now in
    let levels = c.requires.levels in
    let width = c.last_level-width.ensures.width ∙ ap (λ ws. width_at ws (g.row.LEVELS - 1)) c.requires.widths ∙ ap (λ n. width_at x.widths (n - 1)) (sym levels) in
    let words = c.last_level-width.ensures.words ∙ ap (λ n. 2 ^ (n - (g.row.LEVELS - 1))) c.requires.abits ∙ ap (λ n. 2 ^ (x.abits - (n - 1))) (sym levels) in
    subst (λ (z : List (List Tri)). IfOk c.same_rows.result (λ rows. rows ≡ z)) (start_nothing x c.args.cell.now c.last_level-width.result.0 c.last_level-width.result.1 width words c.in-Nothing.is) c.same_rows.ensures

pub returns-in-Zero : goal.returns-in-Zero
returns-in-Zero g c =
    let x = c.args.variant.now in
    let levels = c.requires.levels in
    let width = c.last_level-width.ensures.width ∙ ap (λ ws. width_at ws (g.row.LEVELS - 1)) c.requires.widths ∙ ap (λ n. width_at x.widths (n - 1)) (sym levels) in
    let words = c.last_level-width.ensures.words ∙ ap (λ n. 2 ^ (n - (g.row.LEVELS - 1))) c.requires.abits ∙ ap (λ n. 2 ^ (x.abits - (n - 1))) (sym levels) in
    subst (λ (z : List (List Tri)). IfOk c.same_rows-in-Zero.result (λ rows. rows ≡ z)) (start_zero x c.args.cell.now c.last_level-width.result.0 c.last_level-width.result.1 width words c.in-Zero.is) c.same_rows-in-Zero.ensures

pub returns-in-Any : goal.returns-in-Any
returns-in-Any g c =
    let x = c.args.variant.now in
    let levels = c.requires.levels in
    let width = c.last_level-width.ensures.width ∙ ap (λ ws. width_at ws (g.row.LEVELS - 1)) c.requires.widths ∙ ap (λ n. width_at x.widths (n - 1)) (sym levels) in
    let words = c.last_level-width.ensures.words ∙ ap (λ n. 2 ^ (n - (g.row.LEVELS - 1))) c.requires.abits ∙ ap (λ n. 2 ^ (x.abits - (n - 1))) (sym levels) in
    subst (λ (z : List (List Tri)). IfOk c.given_rows.result (λ rows. rows ≡ z))
    (ap (λ (init : List Tri). map (row_cut init c.last_level-width.result.0) (range_with_len 0 c.last_level-width.result.1)) c.as_slice.ensures
    ∙ start_given x c.args.cell.now c.last_level-width.result.0 c.last_level-width.result.1 width words c.in-Any.is)
    c.given_rows.ensures
