use Rattle.std.proofs.Common.{◌≡◌, false, ◌<◌, get_or, ap, sym, ◌∙◌, arith, length}
use Rattle.std.proofs.lemmas.List.{length-set}
use Rattle.std.proofs.lemmas.List.FromFn.{fill_by_all}
use Rattle.net_core.specs.Values.{bit_at}
use Rattle.ram_step.specs.Ports.{slot_of}
use Rattle.ram_step.specs.Picks.{resolved}
use Rattle.ram_step.specs.Moments.{valuation}
use Rattle.ram_step.specs.Nexts.{tri_next}
use Rattle.ram_step.proofs.Keeping.{put_more, put_above, bit_at_is, tri_next_same}
use Rattle.ram_step.proofs.nexts.keep.Goals as goal

pub get-requires : goal.get-requires
get-requires g c = omega (arith, c.loop-place.invariant.0, c.len-width.ensures)

pub loop-place-preserved : goal.loop-place-preserved
loop-place-preserved g c =
    let v = valuation c.args.values.now in
    let s = slot_of c.args.port.now in
    let p = c.loop-place.place in
    let old = c.args.kept.now in
    let kept = c.loop-place.kept in
    let next = c.args.next.now in
    let inv = c.loop-place.invariant in
    let bit = c.resolve.result in
    let inside : p < length kept = omega (arith, inv.0, c.len-width.ensures) in
    let here : c.get.result ≡ bit_at old p = c.get.ensures ∙ inv.2 p (omega arith) ∙ sym (bit_at_is old p) in
    let chosen = c.resolve.ensures ∙ ap (resolved c.args.key c.args.port.now.number p) (c.next_tri-tri.ensures ∙ tri_next_same v s (λ k. c.get.result) (bit_at old) p next here) in (
      ap length c.put.ensures ∙ length-set kept p bit ∙ inv.0,
      λ k h. ap (λ l. get_or l k false) c.put.ensures ∙ put_more (λ j. resolved c.args.key c.args.port.now.number j (tri_next v s (bit_at old) j next)) kept p bit inside chosen inv.1 k h,
      λ k h. ap (λ l. get_or l k false) c.put.ensures ∙ put_above old kept p bit inv.2 k h,
    )

pub returns : goal.returns
returns g c =
    let inv = c.loop-place.invariant in
    fill_by_all (λ k. resolved c.args.key c.args.port.now.number k (tri_next (valuation c.args.values.now) (slot_of c.args.port.now) (bit_at c.args.kept.now) k c.args.next.now)) c.loop-place.kept (length c.args.kept.now) false inv.0
    (λ k h. inv.1 k (omega (arith, c.len-width.ensures)))
