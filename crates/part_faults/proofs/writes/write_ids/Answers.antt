use Rattle.std.proofs.Common.{length, ap, refl}
use Rattle.cell_rows.specs.Kinds.{found}
use Rattle.part_faults.specs.Parts.{row_of}
use Rattle.part_faults.proofs.Writing.{noted_next, noted_none, write_is, write_within}
use Rattle.part_faults.proofs.writes.write_ids.Goals as goal

pub loop-rest-init : goal.loop-rest-init
loop-rest-init c = noted_none c.args.module.now c.as_slice-rest.result.now c.in_ok-rows.rows.items (length c.as_slice.result.now) c.as_slice-rest.ensures (ap length c.as_slice.ensures) c.in_ok-rows.ensures.len c.in_ok-rows.ensures.none

pub add_id-requires : goal.add_id-requires
add_id-requires c =
    let p = c.part-item.result in
    write_within c.args.module.now (found c.args.memories.now) (length c.loop-rest.rows.items) p.params (row_of p) c.in_ok-write_of.field-0 c.loop-rest.invariant.ids.count c.requires c.in_ok-write_of.ensures

pub loop-rest-preserved : goal.loop-rest-preserved
loop-rest-preserved c =
    let p = c.part-item.result in
    noted_next c.args.module.now c.loop-rest.rest.now p c.in_ok-write_of.field-0 c.loop-rest.rows.items c.add_id.new.rows.items c.in-len1-up.len_at_least c.part-item.is
    (write_is c.args.module.now (found c.args.memories.now) p (row_of p) c.in_ok-write_of.field-0 c.requires refl c.in_ok-write_of.ensures) c.in_ok-add_id.ensures.len c.in_ok-add_id.ensures.ids c.loop-rest.invariant
