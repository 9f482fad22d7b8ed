use Rattle.std.proofs.Common.{◌*◌, refl, sym, subst}
use Rattle.std.specs.List.{All}
use Rattle.std.proofs.lemmas.List.Elements.{All-push}
use Rattle.row_store.specs.Rows.{IsPacked}
use Rattle.row_store.proofs.Tables.{cut_more, packed_is, tri_packed, range_short}
use Rattle.row_store.proofs.rows.Rows.new.Goals as goal

pub loop-row-preserved : goal.loop-row-preserved
loop-row-preserved g c =
    let row = c.packed.result in (
      cut_more c.args.width (λ r. r.values) (λ r. r.known) c.loop-row.rows.items c.push.new.self.items row c.args.init.now _ c.loop-row.row c.in_ok-push.ensures.items c.loop-row.invariant.0 refl (λ k. tri_packed row.values row.known _ k (c.packed.ensures.values k) (c.packed.ensures.known k)),
      subst (All (λ r. IsPacked c.args.width r.values r.known)) (sym c.in_ok-push.ensures.items) (All-push (λ r. IsPacked c.args.width r.values r.known) c.loop-row.rows.items row c.loop-row.invariant.1 (packed_is c.args.width row.values row.known _ (range_short c.args.init.now (c.loop-row.row * c.args.width) c.args.width) c.packed.ensures.values c.packed.ensures.known)),
    )
