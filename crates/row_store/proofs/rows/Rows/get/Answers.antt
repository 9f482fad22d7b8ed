use Rattle.std.proofs.Common.{◌<◌, ◌∙◌, arith}
use Rattle.row_store.proofs.Tables.{width_seen, bit_seen}
use Rattle.row_store.proofs.rows.Rows.get.Goals as goal

pub bit-requires : goal.bit-requires
bit-requires g c =
    let below : c.args.bit < c.self.inside.width = width_seen c.self.inside.width (λ r. r.values) (λ r. r.known) c.self.inside.rows.items c.args.self.now c.args.row c.args.bit c.index-found.result.now c.self.view_is c.requires.row c.index-found.ensures c.requires.bit in
    (omega (arith, c.self.invariant.1), omega (arith, c.self.invariant.0, below))

pub returns : goal.returns
returns g c = c.bit.ensures ∙ bit_seen c.self.inside.width (λ r. r.values) (λ r. r.known) c.self.inside.rows.items c.args.self.now c.args.row c.args.bit c.index-found.result.now c.self.view_is c.requires.row c.index-found.ensures c.requires.bit
