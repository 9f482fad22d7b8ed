use Rattle.std.proofs.Common.{[], ◌∷◌}
use Rattle.flow_top.specs.Command.{files_of}
use Rattle.flow_top.specs.Outcome.{look_of}
use Rattle.flow_top.proofs.OutcomeLemmas.{outcome_stopped, outcome_written, outcome_broken, map_writes}
use Rattle.flow_top.proofs.mapping.map.Goals as goal

pub returns-in-Err : goal.returns-in-Err
returns-in-Err g c =
    let look = look_of g.D.Desk.files g.D.Desk.read_faults g.D.Desk.write_faults in
    let asked = files_of c.args.command in
    outcome_stopped asked (look c.args.desk.now) (look c.refuse.new.desk) (g.D.Desk.read_faults c.prepare.new.desk) (g.D.Desk.write_faults c.prepare.new.desk) c.in-Err.status c.refuse.result
    c.in-Err.ensures.stopped (rw (← c.in-Err.ensures.files_stay) c.refuse.ensures.refused) c.in-Err.ensures.writes_later c.refuse.ensures.reads_later

pub returns-in-Ok-write_texts : goal.returns-in-Ok-write_texts
returns-in-Ok-write_texts g c =
    let look = look_of g.D.Desk.files g.D.Desk.read_faults g.D.Desk.write_faults in
    let asked = files_of c.args.command in
    let made = c.in-Ok.made in
    outcome_written asked (look c.args.desk.now) (look c.write_texts.new.desk) ((asked.inferred, made.inferred.items) ∷ (asked.netlist, made.netlist.items) ∷ (asked.report, made.report.items) ∷ [])
    (map_writes asked (g.D.Desk.files c.args.desk.now) made c.in-Ok.ensures.made)
    (rw (← c.in-Ok.ensures.files_stay, ← c.as_slice.ensures.value, ← c.as_slice-2.ensures.value, ← c.as_slice-3.ensures.value) c.in-Ok-write_texts.ensures.written)

pub returns : goal.returns
returns g c =
    let look = look_of g.D.Desk.files g.D.Desk.read_faults g.D.Desk.write_faults in
    let asked = files_of c.args.command in
    let made = c.in-Ok.made in
    rw c.write_status.ensures (outcome_broken asked (look c.args.desk.now) (look c.write_texts.new.desk) (g.D.Desk.write_faults c.prepare.new.desk)
    ((asked.inferred, made.inferred.items) ∷ (asked.netlist, made.netlist.items) ∷ (asked.report, made.report.items) ∷ []) c.in-Err-write_texts.fault
    c.in-Ok.ensures.writes_later
    (map_writes asked (g.D.Desk.files c.args.desk.now) made c.in-Ok.ensures.made)
    (rw (← c.in-Ok.ensures.files_stay, ← c.as_slice.ensures.value, ← c.as_slice-2.ensures.value, ← c.as_slice-3.ensures.value) c.in-Err-write_texts.ensures.stops))
