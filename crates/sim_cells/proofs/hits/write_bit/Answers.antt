use Rattle.std.proofs.Common.{Bool, List, Option, None, set, get_or, ap, sym, refl, ◌∙◌}
use Rattle.lib_core.specs.Rams.{tri_at}
use Rattle.net_core.specs.Memory.{is_hit, winner, tri_or_any}
use Rattle.ram_step.specs.Moments.{valuation}
use Rattle.sim_cells.specs.Places.{base_hits}
use Rattle.sim_cells.specs.Writes.{won_at}
use Rattle.sim_cells.proofs.Writing.{not_hit, hit_there, none_of}
use Rattle.sim_cells.proofs.hits.write_bit.Goals as goal

pub returns-in-Some-hits-clause-bits : goal.returns-in-Some-hits-clause-bits
returns-in-Some-hits-clause-bits c = λ p h.
    let x = c.args.mem.now in
    let v = valuation c.args.values.now in
    let bases = c.args.bases.now in
    let q = c.in-Some.place in
    let hs : List (Option Bool) = base_hits x v q x.writes bases in
    hit_there x v bases c.args.own c.args.bit q p c.args.words.now (set c.args.words.now q c.won.result) c.won.result c.requires.words
    (sym c.place_of.ensures ∙ c.in-Some.is)
    (ap (λ l. is_hit (get_or l c.args.own None)) (sym c.find_hits.ensures) ∙ ap is_hit c.in-Some-hits.is)
    refl
    (c.won.ensures ∙ ap (λ l. tri_or_any (winner l 0 c.as_slice.result.now l)) c.find_hits.ensures ∙ ap (λ ws. tri_or_any (winner hs 0 ws hs)) c.as_slice.ensures)

pub returns-in_default-clause-bits : goal.returns-in_default-clause-bits
returns-in_default-clause-bits c = λ p h.
    let x = c.args.mem.now in
    let v = valuation c.args.values.now in
    not_hit x v c.args.bases.now c.args.own c.args.bit c.in-Some.place p (won_at x v p c.args.bases.now) (tri_at c.args.words.now p)
    (sym c.place_of.ensures ∙ c.in-Some.is)
    (ap (λ l. is_hit (get_or l c.args.own None)) (sym c.find_hits.ensures) ∙ none_of (get_or c.find_hits.new.hits c.args.own None) c.in_default.not-Some)
