-- What collecting answers of a module refines it.
use Rattle.std.proofs.Common.{subst, ap}
use Rattle.net_core.specs.Ports.{carried_of, inputs_of, ports_of}
use Rattle.net_core.specs.Runs.{HasTrace}
use Rattle.net_collect.specs.Collected.{collected}
use Rattle.net_whole.specs.Parts.{CollectedRefines}

pub gathers : CollectedRefines
unfolding collected
gathers lib m n made = record {
  inputs = ap inputs_of made.1;
  ports = ap ports_of made.1;
  carried = ap carried_of made.1;
  traces = λ events outs trace. record { faultless = made.0; trace = subst (λ x. HasTrace lib x events outs) made.1 trace };
}
