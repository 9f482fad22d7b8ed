use Rattle.std.proofs.Common.{◌≡◌, subst}
use Rattle.std.proofs.lemmas.Result.{err_from_is_err_and}
use Rattle.flow_io.specs.Files.{Tells}
use Rattle.flow_top.specs.Command.{sim_files_of}
use Rattle.flow_top.proofs.SimStops.{stimulus_refused, trace_refused, subject_runs, sim_made}
use Rattle.flow_top.proofs.simulating.make_trace.Goals as goal

pub find_traces-requires-clause-runs : goal.find_traces-requires-clause-runs
find_traces-requires-clause-runs g c = λ lives within. subject_runs (sim_files_of c.args.command) (g.D.Desk.files c.args.desk.now) c.in_ok-subject.subject c.in_ok-subject.ensures.found

pub returns-in_err-events-clause-stopped : goal.returns-in_err-events-clause-stopped
returns-in_err-events-clause-stopped g c =
    let asked = sim_files_of c.args.command in
    let p = err_from_is_err_and c.from_residual-in_err-events.result c.from_residual-in_err-events.ensures.1 in
    rw (p.1, p.2) (stimulus_refused asked (g.D.Desk.files c.args.desk.now) (g.D.Desk.read_faults c.args.desk.now) (g.D.Desk.read_faults c.read.new.desk)
    c.in_ok-subject.subject c.in_ok-stimulus.stimulus.items c.in_err-events.field-0.0 c.in_ok-subject.ensures.found
    (subst (λ t. Tells t asked.stimulus c.in_ok-stimulus.stimulus.items) c.in_ok-subject.ensures.files_stay c.in_ok-stimulus.ensures.told) c.in_ok-stimulus.ensures.within
    (rw (← c.as_slice.ensures.value) c.in_err-events.ensures.refused))

pub returns-in_err-text-clause-stopped : goal.returns-in_err-text-clause-stopped
returns-in_err-text-clause-stopped g c =
    let asked = sim_files_of c.args.command in
    let p = err_from_is_err_and c.from_residual-in_err-text.result c.from_residual-in_err-text.ensures.1 in
    rw (p.1, p.2) (trace_refused asked (g.D.Desk.files c.args.desk.now) (g.D.Desk.read_faults c.args.desk.now) (g.D.Desk.read_faults c.read.new.desk)
    c.in_ok-subject.subject c.in_ok-stimulus.stimulus.items c.in_ok-events.events c.in_err-text.field-0.0 c.in_ok-subject.ensures.found
    (subst (λ t. Tells t asked.stimulus c.in_ok-stimulus.stimulus.items) c.in_ok-subject.ensures.files_stay c.in_ok-stimulus.ensures.told) c.in_ok-stimulus.ensures.within
    (rw (← c.as_slice.ensures.value) c.in_ok-events.ensures.found)
    c.in_err-text.ensures.refused)

pub returns-clause-made : goal.returns-clause-made
returns-clause-made g c =
    let asked = sim_files_of c.args.command in
    sim_made asked (g.D.Desk.files c.args.desk.now) c.in_ok-subject.subject c.in_ok-stimulus.stimulus.items c.in_ok-events.events c.in_ok-text.text.items c.in_ok-subject.ensures.found
    (subst (λ t. Tells t asked.stimulus c.in_ok-stimulus.stimulus.items) c.in_ok-subject.ensures.files_stay c.in_ok-stimulus.ensures.told) c.in_ok-stimulus.ensures.within
    (rw (← c.as_slice.ensures.value) c.in_ok-events.ensures.found)
    c.in_ok-text.ensures.found
