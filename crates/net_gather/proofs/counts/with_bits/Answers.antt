use Rattle.std.proofs.Common.{◌≤◌, ◌+◌, arith}
use Rattle.net_gather.specs.Counts.{pin_size, pins_size}
use Rattle.net_gather.proofs.Overs.{finds_err, first_within, stops_over}
use Rattle.net_gather.proofs.counts.with_bits.Goals as goal

pub returns-in_err-count : goal.returns-in_err-count
returns-in_err-count c =
    let within : c.loop-rest.count + c.pin_size.result ≤ c.args.before + pins_size c.args.long c.args.pins.now =
    omega (arith, first_within (pin_size c.args.long) c.loop-rest.rest.now c.pin-item.result c.in-len1-up.len_at_least c.pin-item.is, c.pin_size.ensures, c.loop-rest.invariant) in
    finds_err c.from_residual.result c.in_err-count.field-0.0 _ _ c.from_residual.ensures.1 (stops_over c.in_err-count.field-0.0 16777216 _ _ within c.in_err-count.ensures)
