use Rattle.std.proofs.Common.{length, ap, refl, ◌∙◌}
use Rattle.cell_rows.specs.Kinds.{found}
use Rattle.part_faults.specs.Faults.{code_of_row}
use Rattle.part_faults.specs.Ids.{ids_at}
use Rattle.part_faults.specs.Parts.{row_of}
use Rattle.part_faults.specs.Tables.{module_of}
use Rattle.part_faults.proofs.Finding.{found_here, going_on, going_start}
use Rattle.part_faults.proofs.Writing.{write_is, write_within}
use Rattle.part_faults.proofs.checking.first_fault.Goals as goal

pub loop-rest-init : goal.loop-rest-init
loop-rest-init c = going_start (module_of c.args.tables.now) c.as_slice-rest.result.now c.in_ok-seen.seen.items (length c.as_slice.result.now) c.as_slice-rest.ensures (ap length c.as_slice.ensures) c.in_ok-seen.ensures.len c.in_ok-seen.ensures.none

pub returns-in-Some : goal.returns-in-Some
returns-in-Some c =
    let m = module_of c.args.tables.now in
    let p = c.part-item.result in
    found_here m c.loop-rest.rest.now p (row_of p) c.in_ok-looked.looked.code c.in-Some.code c.in_ok-fault_at-in-Some.field-0 c.loop-rest.seen.items c.in-len1-up.len_at_least c.part-item.is refl
    (c.in_ok-looked.ensures.code ∙ ap (λ s. code_of_row m (ids_at s) p (row_of p)) c.as_slice-in-len1-up.ensures.value) c.in-Some.is c.in_ok-fault_at-in-Some.ensures c.loop-rest.invariant

pub add_id-requires : goal.add_id-requires
add_id-requires c =
    let p = c.part-item.result in
    write_within (module_of c.args.tables.now) (found c.args.tables.now.memories) (length c.loop-rest.seen.items) p.params (row_of p) c.in_ok-looked.looked.write c.loop-rest.invariant.ids.count c.requires.memories c.in_ok-looked.ensures.write

pub loop-rest-preserved : goal.loop-rest-preserved
loop-rest-preserved c =
    let m = module_of c.args.tables.now in
    let p = c.part-item.result in
    let write = c.in_ok-looked.looked.write in
    going_on m c.loop-rest.rest.now p (row_of p) c.in_ok-looked.looked.code write c.loop-rest.seen.items c.add_id.new.rows.items c.in-len1-up.len_at_least c.part-item.is refl
    (c.in_ok-looked.ensures.code ∙ ap (λ s. code_of_row m (ids_at s) p (row_of p)) c.as_slice-in-len1-up.ensures.value) c.in-None.is
    (write_is m (found c.args.tables.now.memories) p (row_of p) write c.requires.memories refl c.in_ok-looked.ensures.write) c.in_ok-add_id-in-None.ensures.len c.in_ok-add_id-in-None.ensures.ids c.loop-rest.invariant
