use Rattle.std.proofs.Common.{◌∙◌, ap, sym, arith, Some}
use Rattle.ram_rows.specs.RamRows.{if_there}
use Rattle.ram_rows.proofs.Gathered.{group_step, group_lacks, groups_end}
use Rattle.ram_rows.proofs.row.groups_at.Goals as goal

pub returns-then-not-branch : goal.returns-then-not-branch
returns-then-not-branch c =
    group_lacks c.args.variant.now c.args.level c.args.params.now c.loop-group.slots.items c.push_names.new.slots.items c.args.groups.now c.loop-group.group-index c.group-item.result _ _
    (omega arith) c.group-item.is (ap (λ b. if_there b c.push_names.new.slots.items) (sym c.if-not-branch.true) ∙ c.in_ok-push_names.ensures) c.loop-group.invariant

pub loop-group-preserved : goal.loop-group-preserved
loop-group-preserved c =
    group_step c.args.variant.now c.args.level c.args.params.now c.loop-group.slots.items c.push_names.new.slots.items c.args.groups.now c.loop-group.group-index c.group-item.result _ _
    (omega arith) c.group-item.is (ap (λ b. if_there b c.push_names.new.slots.items) (sym c.if-not-branch.false) ∙ c.in_ok-push_names.ensures) c.loop-group.invariant

pub returns : goal.returns
returns c =
    ap (λ ys. Some ys) c.from_vec.ensures
    ∙ groups_end c.args.variant.now c.args.level c.args.params.now c.loop-group.slots.items c.args.groups.now c.loop-group.group-index _ (omega arith) c.loop-group.invariant
