use Rattle.std.proofs.Common.{◌≤◌, ap, length, ◌∙◌, arith}
use Rattle.ram_step.proofs.ports.Ports.new.Goals as goal

pub invariant_of-result : goal.invariant_of-result
invariant_of-result g c =
    let few : length c.args.variant.now.widths ≤ 21 = omega (arith, c.requires.sized.levels, c.requires.sized.abits) in
    (c.requires.widths, c.requires.abits, c.requires.sized, c.requires.fits, c.requires.owners, c.requires.few_slots, ap length c.requires.widths ∙ c.requires.levels, omega (arith, few, c.requires.levels))
