use Rattle.std.proofs.Common.{◌∙◌, false}
use Rattle.net_core.specs.Valid.{is_one_digit}
use Rattle.cell_consts.specs.Consts as consts
use Rattle.cell_consts.proofs.Fitting.{cut_mapped_and_filled}
use Rattle.cell_consts.proofs.numbers.flags.Goals as goal

pub returns : goal.returns
unfolding consts.flags
returns c =
    c.from_vec.ensures
    ∙ cut_mapped_and_filled is_one_digit false c.args.count c.min.result _ c.args.bits.now c.in_ok-list.list.items c.resize.new.self.items c.min.ensures c.in_ok-list.ensures c.in_ok-list.list.ok.0 c.in_ok-resize.ensures.items
