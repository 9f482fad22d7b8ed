use Rattle.std.proofs.Common.{◌≡◌, ◌&&◌, ◌||◌, not, length, ap, ◌∙◌}
use Rattle.std.proofs.lemmas.List.{length-map}
use Rattle.row_store.specs.Limbs.{bit_in}
use Rattle.ram_step.specs.Ports.{slot_of}
use Rattle.ram_step.specs.Hits.{hit_bit, hit_bits}
use Rattle.ram_step.proofs.Gathering.{load_bits}
use Rattle.ram_step.proofs.gathers.loaded.Goals as goal

pub returns : goal.returns
returns g c = λ k.
    let all = c.args.ports.now.all in
    let hs = hit_bits c.args.hits.now c.args.row k in
    let made = bit_in c.and_not-made.result k in
    let count : length hs ≡ length all = length-map c.args.hits.now (hit_bit c.args.row k) ∙ c.requires in
    load_bits (slot_of c.args.own.now) all hs (bit_in c.gather-hit.result k) (bit_in c.gather-unmade.result k) (bit_in c.gather-late.result k) made
    (bit_in c.winning-won.result.values k) (bit_in c.winning-won.result.known k) (bit_in c.args.old.now.values k) (bit_in c.args.old.now.known k) (bit_in c.or.result k) (bit_in c.or-2.result k)
    count (c.gather-hit.ensures k) (c.gather-unmade.ensures k) (c.gather-late.ensures k) (c.winning-won.ensures k) (c.and_not-made.ensures k)
    (c.or.ensures k ∙ ap (λ t. t || bit_in c.and_not.result k) (c.and.ensures k) ∙ ap (λ t. (bit_in c.winning-won.result.values k && made) || t) (c.and_not.ensures k))
    (c.or-2.ensures k ∙ ap (λ t. t || bit_in c.and_not-3.result k) (c.and-2.ensures k) ∙ ap (λ t. (bit_in c.winning-won.result.known k && made) || t) (c.and_not-3.ensures k ∙ ap (λ t. t && not (bit_in c.gather-late.result k)) (c.and_not-2.ensures k)))
