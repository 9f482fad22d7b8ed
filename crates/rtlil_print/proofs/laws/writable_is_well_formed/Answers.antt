use Rattle.rtlil_print.proofs.Statements.{read_well_formed}
use Rattle.rtlil_print.proofs.laws.writable_is_well_formed.Goals as goal

pub returns : goal.returns
returns c = read_well_formed c.requires.0 c.args.doc.now c.requires.1
