use Rattle.std.proofs.Common.{◌∙◌, ap, sym}
use Rattle.std.specs.Prelude.{codes}
use Rattle.ram_rows.specs.RamRows.{values_at, slot_value}
use Rattle.ram_rows.proofs.Gathered.{values_found}
use Rattle.ram_rows.proofs.slots.values_at.Goals as goal

pub returns : goal.returns
unfolding values_at
returns c =
    values_found _ _ _ c.in-Some.srst c.in-Some-2.arst c.in-Some-3.start
    (sym c.in-Some.is ∙ c.in_ok-srst.ensures ∙ ap (λ b. slot_value b c.args.params.now c.args.name.now (codes "RD_SRST_VALUE")) c.takes_value.ensures)
    (sym c.in-Some-2.is ∙ c.in_ok-arst.ensures ∙ ap (λ b. slot_value b c.args.params.now c.args.name.now (codes "RD_ARST_VALUE")) c.takes_value-2.ensures)
    (sym c.in-Some-3.is ∙ c.in_ok-start.ensures ∙ ap (λ b. slot_value b c.args.params.now c.args.name.now (codes "RD_INIT_VALUE")) c.takes_value-3.ensures)
