use Rattle.std.proofs.Common.{◌≡◌, ◌∙◌, Bool, false, ◌||◌, ap, sym}
use Rattle.std.specs.Prelude.{codes}
use Rattle.ram_rows.specs.RamPins.{is_name_if}
use Rattle.ram_rows.proofs.pins.slot_knows_value.Goals as goal

-- the first two do not hold
third : (a b d r : Bool) → a ≡ false → b ≡ false → r ≡ d → r ≡ (a || b || d)
third a b d r p q e = e ∙ sym (λ i. p i || q i || d)

pub returns : goal.returns
returns c =
    third _ _ _ c.is_name_if-3.result
    (ap (λ t. is_name_if t c.args.name.now c.args.slot.now (codes "RD_SRST_VALUE")) (sym c.takes_value.ensures) ∙ sym c.is_name_if.ensures ∙ c.if-is_name_if.false)
    (ap (λ t. is_name_if t c.args.name.now c.args.slot.now (codes "RD_ARST_VALUE")) (sym c.takes_value-2.ensures) ∙ sym c.is_name_if-2.ensures ∙ c.if-is_name_if-2.false)
    (c.is_name_if-3.ensures ∙ ap (λ t. is_name_if t c.args.name.now c.args.slot.now (codes "RD_INIT_VALUE")) c.takes_value-3.ensures)
