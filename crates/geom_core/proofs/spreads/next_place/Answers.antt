use Rattle.std.proofs.Common.{◌≡◌, ◌*◌, ◌^◌, ◌≤◌, ap, arith}
use Rattle.geom_core.specs.declared.spreads.UnitPlace.{UnitPlace}
use Rattle.geom_core.specs.Layout.{changes_after, unit_place, row_bits}
use Rattle.geom_core.proofs.Bounds.{row_few, power_few}
use Rattle.geom_core.proofs.Units.{unit_few}
use Rattle.geom_core.proofs.spreads.next_place.Goals as goal

pub overflow_add-result : goal.overflow_add-result
overflow_add-result c =
    let mem = c.args.mem.now in
    let here : c.args.here.unit ≡ (unit_place mem c.args.fold c.args.unit c.args.bit).unit = ap (λ (p : UnitPlace). p.unit) c.requires.here in
    let few : (unit_place mem c.args.fold c.args.unit c.args.bit).unit ≤ c.args.bit = unit_few (changes_after mem c.args.fold) c.args.unit c.args.bit in
    let bits : row_bits mem c.args.fold ≤ 4194304 = row_few mem.width (2 ^ c.args.fold) c.requires.rows.few_bits (power_few c.args.fold c.requires.fold) in
    omega (arith, here, few, bits, c.requires.bit)
