use Rattle.emu_read.proofs.Outside.{outside_put}
use Rattle.emu_read.proofs.enable.put_outside.Goals as goal

pub returns : goal.returns
returns c = λ x p clock is clocked.
    outside_put c.args.edit.now c.nets_outside.new.edit c.free.new.edit c.add_cells.new.edit c.args.mem c.args.read c.args.quiet.now c.args.outline.clock clock c.args.outline.en c.args.outline.out c.args.outline.width c.in_ok-nets.nets.q c.in_ok-nets.nets.held c.in_ok-nets.nets.loaded c.in_ok-q.q x p c.requires c.in_ok-nets.ensures.ok c.in_ok-nets.ensures.q c.in_ok-nets.ensures.held c.in_ok-nets.ensures.loaded c.in_ok-q.ensures c.in_ok-free.ensures c.in_ok-add_cells.ensures is clocked
