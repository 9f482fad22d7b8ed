use Rattle.std.proofs.Common.{◌<◌, cond, ap, sym, subst, ◌∙◌}
use Rattle.lib_core.specs.Rams.{last_words}
use Rattle.net_core.specs.Memory.{is_hit, tri_or_any}
use Rattle.net_core.specs.Ram.{slot_winner}
use Rattle.row_store.specs.Limbs.{bit_in}
use Rattle.row_store.specs.Rows.{bit_of}
use Rattle.ram_step.specs.Hits.{hit_bit, hit_bits, InRow}
use Rattle.ram_step.proofs.Stepping.{words_set, bits_set}
use Rattle.ram_step.proofs.steps.write_hit.Goals as goal

pub returns-in-Some-clause-words : goal.returns-in-Some-clause-words
returns-in-Some-clause-words g c =
    let x = c.args.ports.now.variant in
    let hit = c.in-Some.hit in
    let row : hit.row < last_words x = subst (InRow (last_words x)) c.in-Some.is c.requires.row in
    words_set x c.args.rows.now c.set_lanes.new.self hit.row hit.mask c.winning-won.result.values c.winning-won.result.known c.requires.words row c.set_lanes.ensures

pub returns-in-Some-clause-bits : goal.returns-in-Some-clause-bits
returns-in-Some-clause-bits g c = λ word k below within.
    let x = c.args.ports.now.variant in
    let all = c.args.ports.now.all in
    let hits = c.args.hits.now in
    let rows = c.args.rows.now in
    let hit = c.in-Some.hit in
    let row : hit.row < last_words x = subst (InRow (last_words x)) c.in-Some.is c.requires.row in
    bits_set x rows c.set_lanes.new.self hit.row hit.mask c.winning-won.result.values c.winning-won.result.known (bit_in hit.value k)
    (λ w i. tri_or_any (slot_winner all (hit_bits hits w i) all (hit_bits hits w i))) c.requires.words row c.set_lanes.ensures c.winning-won.ensures word k below within
    ∙ ap (λ h. cond (is_hit (hit_bit word k h)) (tri_or_any (slot_winner all (hit_bits hits word k) all (hit_bits hits word k))) (bit_of rows word k)) (sym c.in-Some.is)
