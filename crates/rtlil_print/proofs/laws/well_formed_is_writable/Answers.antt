use Rattle.rtlil_print.specs.Print.{printed}
use Rattle.rtlil_print.proofs.RoundTrip.{printed_reads}
use Rattle.rtlil_print.proofs.laws.well_formed_is_writable.Goals as goal

pub returns : goal.returns
returns c = (printed c.args.doc.now, printed_reads c.args.doc.now c.requires)
