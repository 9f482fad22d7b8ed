use Rattle.std.proofs.Common.{◌≡◌, ℕ, ◌+◌, ◌-◌, ◌/◌, ◌<◌, ◌≤◌, ap, subst, sym, ◌∙◌, arith, rules}
use Rattle.geom_core.specs.declared.spreads.BitPlace.{BitPlace}
use Rattle.geom_core.specs.Layout as placing
use Rattle.geom_core.proofs.Units.{rises, column_within, bits_apart}
use Rattle.geom_core.proofs.spreads.bit_place.Goals as goal

pub returns-clause-column : goal.returns-clause-column
returns-clause-column c =
    let mem = c.args.mem.now in
    let unit = placing.unit_bits c.args.variant.now c.args.level in
    let units = placing.column_units c.args.variant.now c.args.level in
    let value : c.pin_of.result ≡ placing.bit_place_of mem c.args.variant.now c.args.fold c.args.level c.args.bit = search rules in
    let some : 1 ≤ units = omega (arith, c.column_units.ensures.some, c.column_units.ensures.value) in
    let last : c.args.bit ≤ placing.row_bits mem c.args.fold - 1 = omega (arith, c.requires.bit) in
    let up = rises (placing.changes_after mem c.args.fold) unit c.args.bit (placing.row_bits mem c.args.fold - 1) last in
    rw (ap (λ (p : BitPlace). p.column) value) (column_within (placing.unit_place mem c.args.fold unit c.args.bit).unit (placing.units_of mem c.args.fold unit) units some (omega (arith, up)))

pub returns-clause-apart : goal.returns-clause-apart
returns-clause-apart c = λ other same.
    let unit = placing.unit_bits c.args.variant.now c.args.level in
    let value : c.pin_of.result ≡ placing.bit_place_of c.args.mem.now c.args.variant.now c.args.fold c.args.level c.args.bit = search rules in
    bits_apart (placing.changes_after c.args.mem.now c.args.fold) unit (placing.column_units c.args.variant.now c.args.level) c.args.bit other c.requires.units.some_units (same ∙ value)
