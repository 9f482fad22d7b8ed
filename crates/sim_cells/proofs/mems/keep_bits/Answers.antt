use Rattle.std.proofs.Common.{◌≡◌, ◌<◌, length, false, get_or, ap, sym, ◌∙◌, arith}
use Rattle.std.specs.Prelude.{slice_index}
use Rattle.std.proofs.lemmas.List.{length-set}
use Rattle.std.proofs.lemmas.List.FromFn.{fill_by_all}
use Rattle.net_core.specs.Values.{bit_at}
use Rattle.net_core.specs.Memory.{frame_of}
use Rattle.ram_step.specs.Moments.{inputs_alone, moment_of, valuation}
use Rattle.ram_step.specs.Picks.{pick_number}
use Rattle.sim_cells.specs.Choices.{taken}
use Rattle.sim_cells.specs.Memories.{picked_bit, next_tri, clock_of, contents, kept_width}
use Rattle.sim_cells.proofs.Filling.{put_more, put_above, bit_at_is}
use Rattle.sim_cells.proofs.MemoryRuns.{next_same}
use Rattle.sim_cells.proofs.mems.keep_bits.Goals as goal

pub loop-place-preserved : goal.loop-place-preserved
loop-place-preserved c =
    let x = c.args.mem.now in
    let r = c.args.read.now in
    let v = valuation c.args.values.now in
    let e = c.args.event.now in
    let words = c.args.words.now in
    let old = c.args.kept.now in
    let kept = c.loop-place.kept in
    let p = c.loop-place.place in
    let inv = c.loop-place.invariant in
    let bit = c.take.result in
    let inside : p < length kept = omega (arith, inv.0) in
    let here : get_or kept p false ≡ bit_at old p = inv.3 p (omega arith) ∙ sym (bit_at_is old p) in
    let tri : c.next_tri-tri.result ≡ next_tri words x v e old r p =
    c.next_tri-tri.ensures.tri ∙ next_same (inputs_alone e) (frame_of x) x.writes (clock_of r.clock) r (moment_of e) v (contents x words) (λ k. get_or kept p false) (bit_at old) p (slice_index r.out p) here in
    let chosen : bit ≡ picked_bit c.args.key.now c.args.port (next_tri words x v e old r) p =
    c.take.ensures ∙ ap (λ n. taken c.args.key.now n c.next_tri-tri.result) c.pick_number.ensures ∙ ap (taken c.args.key.now (pick_number c.args.port p)) tri in (
      length-set kept p bit ∙ inv.0,
      c.next_tri-tri.ensures.hits ∙ inv.1,
      put_more (picked_bit c.args.key.now c.args.port (next_tri words x v e old r)) kept p bit inside chosen inv.2,
      put_above old kept p bit inv.3,
    )

pub returns-clause-bits : goal.returns-clause-bits
returns-clause-bits c =
    let inv = c.loop-place.invariant in
    fill_by_all (picked_bit c.args.key.now c.args.port (next_tri c.args.words.now c.args.mem.now (valuation c.args.values.now) c.args.event.now c.args.kept.now c.args.read.now)) c.loop-place.kept (kept_width c.args.read.now) false (inv.0 ∙ c.requires.room)
    (λ k h. inv.2 k (omega (arith, inv.0, c.requires.room)))
