use Rattle.row_store.proofs.Tables.{word_seen}
use Rattle.row_store.proofs.rows.Rows.values.Goals as goal

pub returns : goal.returns
returns g c = λ k. (word_seen c.self.inside.width (λ r. r.values) (λ r. r.known) c.self.inside.rows.items c.args.self.now c.args.row k c.index.result.now c.self.view_is c.requires c.index.ensures c.self.invariant.3).0
