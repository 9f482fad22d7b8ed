use Rattle.row_store.proofs.Tables.{set_seen, set_to}
use Rattle.row_store.proofs.rows.Rows.set_lanes.Goals as goal

pub returns : goal.returns
returns g c =
    let old = c.index.result.now in
    let made = set_to c.self.inside.width c.args.mask.now c.self.inside.inside c.and-mask.result c.args.value.now c.args.known.now c.and-value.result old.values old.known c.chosen.result c.chosen-2.result c.self.invariant.2 c.and-mask.ensures c.and-value.ensures c.chosen.ensures c.chosen-2.ensures in
    set_seen c.self.inside.width (λ r. r.values) (λ r. r.known) c.self.inside.rows.items c.args.self.now c.args.row old (record { values = c.chosen.result; known = c.chosen-2.result }) c.args.mask.now c.args.value.now c.args.known.now c.self.view_is c.requires c.index.ensures made
