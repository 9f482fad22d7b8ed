use Rattle.std.proofs.Common.{[], ◌∷◌}
use Rattle.flow_top.specs.Command.{sim_files_of}
use Rattle.flow_top.specs.Outcome.{look_of}
use Rattle.flow_top.proofs.SimLemmas.{sim_stopped, sim_written, sim_broken}
use Rattle.flow_top.proofs.simulating.simulate.Goals as goal

pub returns-in-Err : goal.returns-in-Err
returns-in-Err g c =
    let look = look_of g.D.Desk.files g.D.Desk.read_faults g.D.Desk.write_faults in
    sim_stopped (sim_files_of c.args.command) (look c.args.desk.now) (look c.make_trace.new.desk) c.in-Err.status c.in-Err.ensures.stopped c.in-Err.ensures.files_stay

pub returns-in-Ok-write_texts : goal.returns-in-Ok-write_texts
returns-in-Ok-write_texts g c =
    let look = look_of g.D.Desk.files g.D.Desk.read_faults g.D.Desk.write_faults in
    let asked = sim_files_of c.args.command in
    sim_written asked (look c.args.desk.now) (look c.write_texts.new.desk) ((asked.trace, c.in-Ok.text.items) ∷ []) c.in-Ok.ensures.made
    (rw (← c.in-Ok.ensures.files_stay, ← c.as_slice.ensures.value) c.in-Ok-write_texts.ensures.written)

pub returns : goal.returns
returns g c =
    let look = look_of g.D.Desk.files g.D.Desk.read_faults g.D.Desk.write_faults in
    let asked = sim_files_of c.args.command in
    rw c.write_status.ensures (sim_broken asked (look c.args.desk.now) (look c.write_texts.new.desk) (g.D.Desk.write_faults c.make_trace.new.desk)
    ((asked.trace, c.in-Ok.text.items) ∷ []) c.in-Err-write_texts.fault
    c.in-Ok.ensures.writes_later c.in-Ok.ensures.made
    (rw (← c.in-Ok.ensures.files_stay, ← c.as_slice.ensures.value) c.in-Err-write_texts.ensures.stops))
