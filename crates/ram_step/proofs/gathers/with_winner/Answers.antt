use Rattle.std.proofs.Common.{◌≡◌, ◌&&◌, ◌||◌, not, cond, Some, None, ap, sym, ◌∙◌, arith}
use Rattle.std.proofs.lemmas.Option.{same_Some}
use Rattle.row_store.specs.Limbs.{bit_in}
use Rattle.ram_step.specs.Ports.{slot_of}
use Rattle.ram_step.specs.Hits.{hit_bits}
use Rattle.ram_step.specs.Gathers.{or_else, known_bit, candidate}
use Rattle.ram_step.proofs.Gathering.{element, winner_bits, hit_here}
use Rattle.ram_step.proofs.gathers.with_winner.Goals as goal

pub returns-else-hit-row : goal.returns-else-hit-row
returns-else-hit-row g c = λ s at_slot h at_hit k.
    let all = c.args.ports.now.all in
    let hs = hit_bits c.args.hits.now c.args.row k in
    let n = c.args.number in
    let own = slot_of c.get-own.result in
    let hit = c.in-Some.hit in
    let kn = bit_in c.args.won.known k in
    let v = bit_in c.args.won.values k in
    let element_here = element c.args.hits.now n c.index-hits-number.result (omega (arith, c.requires.number, c.requires.count)) c.index-hits-number.is in
    let same_slot : own ≡ s = same_Some own s (sym c.get-own.ensures.found ∙ at_slot) in
    let same_hit : Some hit ≡ h = sym c.in-Some.is ∙ same_Some c.index-hits-number.result h (sym element_here ∙ at_hit) in
    let wins = c.and_not-wins.ensures k ∙ ap (λ t. t && not kn) (c.and_not.ensures k) in
    let values = c.or.ensures k ∙ ap (λ t. t || bit_in c.and.result k) (c.and_not-in-Some.ensures k) ∙ ap (λ t. (v && not (bit_in c.and_not-wins.result k)) || t) (c.and.ensures k) in
    winner_bits own all hs (bit_in hit.mask k) (bit_in hit.value k) v kn (bit_in c.gather-beaten.result k) (bit_in c.and_not-wins.result k) (bit_in c.or.result k) (bit_in c.or-in-Some.result k)
    (c.gather-beaten.ensures k) wins values (c.or-in-Some.ensures k)
    ∙ ap (λ z. or_else (known_bit c.args.won.values c.args.won.known k) (candidate z all hs (cond (bit_in hit.mask k) (Some (bit_in hit.value k)) None))) same_slot
    ∙ ap (λ z. or_else (known_bit c.args.won.values c.args.won.known k) (candidate s all hs z)) (hit_here c.args.row k hit h c.if-hit-row.false same_hit)
