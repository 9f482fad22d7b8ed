use Rattle.emu_read.proofs.Outside.{enable_promised, nets_promised}
use Rattle.emu_read.proofs.enable.emulate_enable.Goals as goal

pub returns-clause-rewrites : goal.returns-clause-rewrites
returns-clause-rewrites c = enable_promised c.args.edit.now c.put_outside.new.edit c.args.mem c.args.read c.args.quiet.now c.requires c.in_ok-put_outside.ensures

pub returns-clause-reads : goal.returns-clause-reads
returns-clause-reads c = nets_promised c.args.edit.now c.put_outside.new.edit c.args.mem c.args.read c.args.quiet.now c.requires c.in_ok-put_outside.ensures
