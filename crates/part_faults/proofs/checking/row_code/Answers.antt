use Rattle.std.proofs.Common.{ap, ◌∙◌}
use Rattle.cell_rows.specs.Kinds.{found}
use Rattle.part_faults.specs.Driven.{is_driven}
use Rattle.part_faults.specs.Faults.{has_open_contents, is_id_twice, misfits}
use Rattle.part_faults.specs.Ids.{ids_at}
use Rattle.part_faults.specs.Tables.{module_of}
use Rattle.part_faults.proofs.Finding.{code_is}
use Rattle.part_faults.proofs.checking.row_code.Goals as goal

pub returns : goal.returns
returns c =
    let m = module_of c.args.tables.now in
    let memory = found c.args.tables.now.memories in
    let earlier = ids_at c.args.seen.now in
    let r = c.args.row.now in
    code_is m memory earlier (ids_at c.args.tables.now.writes.items) c.args.part.now r c.lacks_memory-lacks.result c.is_id_twice-twice.result c.in_ok-unfixed.unfixed c.in_ok-both.both c.misfits-wide.result c.first_code.result
    c.requires.tells.memories c.requires.tells.writes.ids c.lacks_memory-lacks.ensures
    (c.is_id_twice-twice.ensures ∙ ap (λ ps. is_id_twice memory earlier ps r) c.as_slice.ensures)
    (c.in_ok-unfixed.ensures ∙ ap (λ ps. has_open_contents (is_driven m) ps r) c.as_slice-2.ensures)
    c.in_ok-both.ensures
    (c.misfits-wide.ensures ∙ ap (λ xs. misfits xs memory r) c.as_slice-3.ensures)
    c.first_code.ensures
