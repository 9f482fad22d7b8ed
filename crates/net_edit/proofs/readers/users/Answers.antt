use Rattle.net_edit.proofs.Using.{module_counted}
use Rattle.net_edit.proofs.readers.users.Goals as goal

pub returns : goal.returns
returns c =
    module_counted c.args.module.now c.args.net c.as_slice.result.now c.as_slice-2.result.now c.as_slice-3.result.now c.as_slice-4.result.now c.as_slice-5.result.now c.as_slice-6.result.now c.as_slice-7.result.now c.more_combs-count.result c.more_regs-count.result c.more_mems-count.result c.more_rams-count.result c.more_carried-count.result c.more_parts-count.result c.more_wires.result
    c.as_slice.ensures c.as_slice-2.ensures c.as_slice-3.ensures c.as_slice-4.ensures c.as_slice-5.ensures c.as_slice-6.ensures c.as_slice-7.ensures
    c.more_combs-count.ensures c.more_regs-count.ensures c.more_mems-count.ensures c.more_rams-count.ensures c.more_carried-count.ensures c.more_parts-count.ensures c.more_wires.ensures
