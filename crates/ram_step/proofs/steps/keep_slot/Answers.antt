use Rattle.std.proofs.Common.{◌≡◌, ◌<◌, ◌^◌, cond, map, ap, sym, subst, ◌∙◌, arith, rules, length}
use Rattle.std.specs.List.{range_with_len}
use Rattle.std.proofs.lemmas.Option.{same_Some}
use Rattle.net_core.specs.Values.{bit_at}
use Rattle.net_core.specs.Ram.{slot_width}
use Rattle.row_store.proofs.Tables.{made_same}
use Rattle.ram_step.specs.Ports.{slot_of}
use Rattle.ram_step.specs.Picks.{resolved}
use Rattle.ram_step.specs.Moments.{valuation}
use Rattle.ram_step.specs.States.{kept_by}
use Rattle.ram_step.specs.Nexts.{HasRoom, tri_next, next_of}
use Rattle.ram_step.proofs.steps.keep_slot.Goals as goal

pub keep-requires : goal.keep-requires
keep-requires g c =
    let few : g.row.LIMBS < 2 ^ 26 = omega (arith, c.requires.few_limbs) in
    let x = c.args.ports.now.variant in
    let s = slot_of c.get-port.result in
    let used = sym c.keeps.ensures ∙ c.if-not-keeps.false in
    let width : length c.args.kept.now ≡ slot_width x s = c.requires.room s c.get-port.ensures.found ∙ ap (λ t. cond t (slot_width x s) 0) used in
    (search rules, (search rules, (omega (arith, c.get-port.ensures.number, c.get-port.ensures.few), (subst (λ n. HasRoom n c.next_of-next.result) (sym width) c.next_of-next.ensures.room, c.requires.few_limbs))))

pub returns : goal.returns
returns g c = λ s found.
    let x = c.args.ports.now.variant in
    let own = slot_of c.get-port.result in
    let v = valuation c.args.values.now in
    let e = c.args.event.now in
    let rows = c.args.rows.now in
    let old = c.args.kept.now in
    let used = sym c.keeps.ensures ∙ c.if-not-keeps.false in
    let width : length old ≡ slot_width x own = c.requires.room own c.get-port.ensures.found ∙ ap (λ t. cond t (slot_width x own) 0) used in
    let same : own ≡ s = same_Some own s (sym c.get-port.ensures.found ∙ found) in
    c.keep.ensures
    ∙ made_same
    (λ k. resolved c.args.key own.number k (tri_next v own (bit_at old) k c.next_of-next.result))
    (λ k. resolved c.args.key own.number k (next_of c.args.ports.now v e rows own (bit_at old) k))
    0 (length old)
    (λ k low high. ap (resolved c.args.key own.number k) (c.next_of-next.ensures.bits (bit_at old) k (omega (arith, high, width))))
    ∙ ap (λ n. map (λ k. resolved c.args.key own.number k (next_of c.args.ports.now v e rows own (bit_at old) k)) (range_with_len 0 n)) (c.requires.room own c.get-port.ensures.found)
    ∙ ap (λ z. kept_by x z (λ k. resolved c.args.key z.number k (next_of c.args.ports.now v e rows z (bit_at old) k))) same
