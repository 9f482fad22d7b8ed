use Rattle.net_same.proofs.Learning.{taught_at, renamed_all, all_nets}
use Rattle.net_same.proofs.nets.ListWired.learn.Goals as goal

pub returns : goal.returns
returns g c =
    taught_at (renamed_all g.T.Wired.renamed g.T.Wired.nets) (all_nets g.T.Wired.renamed g.T.Wired.nets) c.args.self.now c.as_slice.result.now c.args.other.now c.as_slice-2.result.now c.args.tables.now c.learn_all.new.tables c.as_slice.ensures c.as_slice-2.ensures c.learn_all.ensures
