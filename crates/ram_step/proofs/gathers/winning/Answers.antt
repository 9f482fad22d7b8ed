use Rattle.std.proofs.Common.{◌<◌, ◌≤◌, length, ap, ◌∙◌, arith}
use Rattle.net_core.proofs.Basics.{get_within}
use Rattle.net_core.specs.Memory.{tri_or_any}
use Rattle.net_core.specs.Ram.{slot_winner}
use Rattle.ram_step.specs.Hits.{hit_bit, hit_bits}
use Rattle.ram_step.specs.Gathers.{or_else}
use Rattle.ram_step.proofs.Gathering.{winner_more, winner_done, get_map, nothing_known, tri_known}
use Rattle.ram_step.proofs.gathers.winning.Goals as goal

pub loop-number-init : goal.loop-number-init
loop-number-init g c = λ k. ap (λ t. or_else t (slot_winner c.args.ports.now.all (hit_bits c.args.hits.now c.args.row k) c.args.ports.now.all (hit_bits c.args.hits.now c.args.row k))) (nothing_known g.row.LIMBS k)

pub loop-number-preserved : goal.loop-number-preserved
loop-number-preserved g c =
    let n = c.loop-number.number in
    let all = c.args.ports.now.all in
    let hits = c.args.hits.now in
    let inside : n < length all = omega (arith, c.len-number-end.ensures) in
    let s = get_within all n inside in
    let h = get_within hits n (omega (arith, inside, c.requires)) in
    λ k. winner_more _ _ all (hit_bits hits c.args.row k) n s.0 _ _ s.1 (get_map (hit_bit c.args.row k) hits n h.0 h.1) (c.with_winner-won.ensures s.0 s.1 h.0 h.1 k) (c.loop-number.invariant k)

pub returns : goal.returns
returns g c =
    let n = c.loop-number.number in
    let all = c.args.ports.now.all in
    let end : length all ≤ n = omega (arith, c.len-number-end.ensures) in
    λ k. tri_known c.loop-number.won.values c.loop-number.won.known k ∙ ap tri_or_any (winner_done _ all (hit_bits c.args.hits.now c.args.row k) n _ end (c.loop-number.invariant k))
