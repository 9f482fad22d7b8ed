use Rattle.std.proofs.Common.{◌∙◌}
use Rattle.lib_core.specs.declared.library.Tri.TheVariants as tri
use Rattle.cell_consts.specs.Consts as consts
use Rattle.cell_consts.proofs.Fitting.{cut_and_filled}
use Rattle.cell_consts.proofs.numbers.fitted.Goals as goal

pub returns : goal.returns
unfolding consts.fitted
returns c =
    c.from_vec.ensures
    ∙ cut_and_filled tri.Any c.args.width c.min.result _ c.args.bits.now c.in_ok-list.list.items c.resize.new.self.items c.min.ensures c.in_ok-list.ensures.items c.in_ok-list.list.ok.0 c.in_ok-resize.ensures.items
