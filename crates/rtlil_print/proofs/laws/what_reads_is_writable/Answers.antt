use Rattle.rtlil_print.proofs.laws.what_reads_is_writable.Goals as goal

pub returns : goal.returns
returns c = (c.args.text.now, c.requires)
