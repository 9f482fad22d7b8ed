use Rattle.std.proofs.Common.{◌<◌, ◌≤◌, ◌||◌, length, ap, arith}
use Rattle.net_core.proofs.Basics.{get_within}
use Rattle.row_store.proofs.Tables.{no_bit}
use Rattle.ram_step.specs.Ports.{slot_of}
use Rattle.ram_step.specs.Hits.{hit_bit, hit_bits}
use Rattle.ram_step.specs.Gathers.{some_hit}
use Rattle.ram_step.proofs.Gathering.{hits_more, hits_done, get_map, element}
use Rattle.ram_step.proofs.gathers.gather.Goals as goal

pub loop-number-init : goal.loop-number-init
loop-number-init g c = λ k. ap (λ t. t || some_hit c.args.choice (slot_of c.args.own.now) c.args.ports.now.all (hit_bits c.args.hits.now c.args.row k)) (no_bit g.row.LIMBS k)

pub loop-number-preserved : goal.loop-number-preserved
loop-number-preserved g c =
    let n = c.loop-number.number in
    let all = c.args.ports.now.all in
    let hits = c.args.hits.now in
    let inside : n < length all = omega (arith, c.len-number-end.ensures) in
    let s = get_within all n inside in
    let h = element hits n c.index-hits-number.result (omega (arith, inside, c.requires)) c.index-hits-number.is in
    λ k. hits_more _ _ c.args.choice (slot_of c.args.own.now) all (hit_bits hits c.args.row k) n s.0 _ _ s.1 (get_map (hit_bit c.args.row k) hits n c.index-hits-number.result h) (c.with_hit-bits.ensures s.0 s.1 k) (c.loop-number.invariant k)

pub returns : goal.returns
returns g c =
    let n = c.loop-number.number in
    let all = c.args.ports.now.all in
    let end : length all ≤ n = omega (arith, c.len-number-end.ensures) in
    λ k. hits_done _ c.args.choice (slot_of c.args.own.now) all (hit_bits c.args.hits.now c.args.row k) n _ end (c.loop-number.invariant k)
