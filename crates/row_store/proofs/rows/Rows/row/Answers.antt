use Rattle.row_store.proofs.Tables.{bit_seen}
use Rattle.row_store.proofs.rows.Rows.row.Goals as goal

pub returns : goal.returns
returns g c = λ k inside. bit_seen c.self.inside.width (λ r. r.values) (λ r. r.known) c.self.inside.rows.items c.args.self.now c.args.row k c.index.result.now c.self.view_is c.requires c.index.ensures inside
