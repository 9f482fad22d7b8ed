use Rattle.std.proofs.Common.{◌+◌, take}
use Rattle.net_core.specs.Memory.{is_hit, any_hit}
use Rattle.ram_step.specs.Hits.{hit_bit, hit_bits}
use Rattle.ram_step.proofs.Stepping.{any_take, written_more}
use Rattle.ram_step.proofs.Gathering.{get_map, element}
use Rattle.ram_step.proofs.steps.write_all.Goals as goal

pub loop-number-preserved : goal.loop-number-preserved
loop-number-preserved g c =
    let n = c.loop-number.number in
    let hits = c.args.hits.now in
    let h = c.index-hits-number.result in
    let found = element hits n h c.loop-number-test.true c.index-hits-number.is in (
      c.write_hit.ensures.words,
      λ word k below within.
          written_more (is_hit (hit_bit word k h)) (any_hit (take n (hit_bits hits word k))) (any_hit (take (n + 1) (hit_bits hits word k))) _ _ _ _
          (any_take (hit_bits hits word k) n (hit_bit word k h) (get_map (hit_bit word k) hits n h found))
          (c.write_hit.ensures.bits word k below within)
          (c.loop-number.invariant.1 word k below within),
    )
