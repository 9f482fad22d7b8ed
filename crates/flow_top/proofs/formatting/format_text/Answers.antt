use Rattle.std.proofs.Common.{[], ◌∷◌}
use Rattle.flow_top.specs.Command.{fmt_files_of}
use Rattle.flow_top.specs.Outcome.{look_of}
use Rattle.flow_top.proofs.FmtLemmas.{fmt_stopped, fmt_written, fmt_broken, fmt_writes}
use Rattle.flow_top.proofs.formatting.format_text.Goals as goal

pub returns-in-Err : goal.returns-in-Err
returns-in-Err g c =
    let look = look_of g.D.Desk.files g.D.Desk.read_faults g.D.Desk.write_faults in
    fmt_stopped (fmt_files_of c.args.command) (look c.args.desk.now) (look c.reformat.new.desk) c.in-Err.status c.in-Err.ensures.stopped c.in-Err.ensures.files_stay

pub returns-in-Ok-write_texts : goal.returns-in-Ok-write_texts
returns-in-Ok-write_texts g c =
    let look = look_of g.D.Desk.files g.D.Desk.read_faults g.D.Desk.write_faults in
    let asked = fmt_files_of c.args.command in
    fmt_written asked (look c.args.desk.now) (look c.write_texts.new.desk) ((asked.out, c.in-Ok.text.items) ∷ [])
    (fmt_writes asked (g.D.Desk.files c.args.desk.now) c.in-Ok.text.items c.in-Ok.ensures.made)
    (rw (← c.in-Ok.ensures.files_stay, ← c.as_slice.ensures.value) c.in-Ok-write_texts.ensures.written)

pub returns : goal.returns
returns g c =
    let look = look_of g.D.Desk.files g.D.Desk.read_faults g.D.Desk.write_faults in
    let asked = fmt_files_of c.args.command in
    rw c.write_status.ensures (fmt_broken asked (look c.args.desk.now) (look c.write_texts.new.desk) (g.D.Desk.write_faults c.reformat.new.desk)
    ((asked.out, c.in-Ok.text.items) ∷ []) c.in-Err-write_texts.fault
    c.in-Ok.ensures.writes_later
    (fmt_writes asked (g.D.Desk.files c.args.desk.now) c.in-Ok.text.items c.in-Ok.ensures.made)
    (rw (← c.in-Ok.ensures.files_stay, ← c.as_slice.ensures.value) c.in-Err-write_texts.ensures.stops))
