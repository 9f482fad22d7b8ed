use Rattle.std.proofs.Common.{◌≡◌}
use Rattle.map_flow.proofs.Plans.{plans_fit}
use Rattle.map_flow.proofs.Texts.{are_texts}
use Rattle.map_flow.proofs.map.texts_of.Goals as goal

pub print_report-requires-clause-fit : goal.print_report-requires-clause-fit
print_report-requires-clause-fit c = rw c.as_slice.ensures (plans_fit c.valid_is_within.ensures c.planned_are_plain.ensures c.args.library.now c.args.design c.args.plans.now c.requires.sound c.requires.plans)

pub returns : goal.returns
returns c =
    are_texts c.args.library.now c.args.design c.in_ok-bound.bound c.args.plans.now
    (record { inferred = c.in_ok-inferred.inferred; netlist = c.in_ok-netlist.netlist; report = c.in_ok-report.report })
    c.in_ok-inferred.ensures (rw (← c.as_slice.ensures) c.in_ok-report.ensures) c.in_ok-bound.ensures.bound c.in_ok-bound.ensures.sound c.in_ok-bound.ensures.shapes c.in_ok-netlist.ensures
