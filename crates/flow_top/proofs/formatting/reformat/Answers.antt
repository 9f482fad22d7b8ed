use Rattle.std.proofs.Common.{◌≡◌}
use Rattle.std.proofs.lemmas.Result.{err_from_is_err_and}
use Rattle.flow_top.specs.Command.{fmt_files_of}
use Rattle.flow_top.proofs.FmtLemmas.{fmt_refused}
use Rattle.flow_top.proofs.formatting.reformat.Goals as goal

pub returns-in_err-doc-clause-stopped : goal.returns-in_err-doc-clause-stopped
returns-in_err-doc-clause-stopped g c =
    let p = err_from_is_err_and c.from_residual-in_err-doc.result c.from_residual-in_err-doc.ensures.1 in
    rw (p.1, p.2) (fmt_refused (fmt_files_of c.args.command) (g.D.Desk.files c.args.desk.now) (g.D.Desk.read_faults c.args.desk.now) (g.D.Desk.read_faults c.read.new.desk) c.in_ok-bytes.bytes.items c.in_err-doc.field-0.0 c.in_ok-bytes.ensures.told c.in_ok-bytes.ensures.within
    (rw (← c.as_slice.ensures.value) c.in_err-doc.ensures.refused))
