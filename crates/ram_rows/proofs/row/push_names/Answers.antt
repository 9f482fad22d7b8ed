use Rattle.std.proofs.Common.{◌∙◌, ℕ, ◌+◌, List, length, ap, sym, drop, get_or, arith}
use Rattle.ram_rows.specs.RamRows.{names_at, behind}
use Rattle.ram_rows.proofs.Gathered.{name_step, name_lacks, names_end}
use Rattle.ram_rows.proofs.row.push_names.Goals as goal

pub returns-in-None : goal.returns-in-None
returns-in-None c =
    let same = c.as_slice-name-items.ensures in
    name_lacks c.args.variant.now c.args.group.now c.args.level c.args.params.now c.loop-name.slots.items c.args.group.now.names c.loop-name.name-index c.name-item.result c.name-item.result _
    (omega (arith, ap length same)) (c.name-item.is ∙ ap (λ (xs : List (List ℕ)). get_or xs c.loop-name.name-index c.name-item.result) same) (sym c.in-None.is ∙ c.in_ok-slot.ensures) c.loop-name.invariant

pub loop-name-preserved : goal.loop-name-preserved
loop-name-preserved c =
    let same = c.as_slice-name-items.ensures in
    ap (λ ys. behind ys (names_at c.args.variant.now c.args.group.now c.args.level c.args.params.now (drop (c.loop-name.name-index + 1) c.args.group.now.names))) c.in_ok-push-in-Some.ensures.items
    ∙ name_step c.args.variant.now c.args.group.now c.args.level c.args.params.now c.loop-name.slots.items c.args.group.now.names c.loop-name.name-index c.name-item.result c.name-item.result c.in-Some.slot _
    (omega (arith, ap length same)) (c.name-item.is ∙ ap (λ (xs : List (List ℕ)). get_or xs c.loop-name.name-index c.name-item.result) same) (sym c.in-Some.is ∙ c.in_ok-slot.ensures) c.loop-name.invariant

pub returns : goal.returns
returns c =
    names_end c.args.variant.now c.args.group.now c.args.level c.args.params.now c.loop-name.slots.items c.args.group.now.names c.loop-name.name-index _
    (omega (arith, ap length c.as_slice-name-items.ensures)) c.loop-name.invariant
