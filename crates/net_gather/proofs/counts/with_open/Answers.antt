use Rattle.std.proofs.Common.{◌≤◌, ◌+◌, arith}
use Rattle.net_gather.specs.OpenPins.{bits_open, open_count}
use Rattle.net_gather.specs.declared.open_pin.OpenPin.{OpenPin}
use Rattle.net_gather.proofs.Overs.{finds_err, first_within, stops_over}
use Rattle.net_gather.proofs.counts.with_open.Goals as goal

pub returns-in_err-count : goal.returns-in_err-count
returns-in_err-count c =
    let within : c.loop-rest.count + c.bits_open.result ≤ c.args.before + open_count c.args.pins.now =
    omega (arith, first_within (λ (p : OpenPin). bits_open p.bits) c.loop-rest.rest.now c.pin-item.result c.in-len1-up.len_at_least c.pin-item.is, c.bits_open.ensures, c.loop-rest.invariant) in
    finds_err c.from_residual.result c.in_err-count.field-0.0 _ _ c.from_residual.ensures.1 (stops_over c.in_err-count.field-0.0 4194304 _ _ within c.in_err-count.ensures)
