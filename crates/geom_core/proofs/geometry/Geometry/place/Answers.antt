use Rattle.std.proofs.Common.{◌≡◌, ℕ, ◌+◌, ◌-◌, ◌^◌, ◌<◌, ◌≤◌, length, ap, subst, sym, ◌∙◌, arith, rules}
use Rattle.std.proofs.lemmas.Nat.{shr_below}
use Rattle.geom_core.specs.declared.geometry.BasePlace.{BasePlace}
use Rattle.geom_core.specs.Places.{place_in}
use Rattle.geom_core.proofs.Lifting.{lifted_apart}
use Rattle.geom_core.proofs.geometry.Geometry.place.Goals as goal

pub returns-clause-word : goal.returns-clause-word
returns-clause-word g c =
    let count : length c.args.self.now.widths ≡ g.row.LEVELS = search rules in
    let few : length c.args.self.now.widths ≤ c.args.self.now.abits + 1 = c.args.self.now.few_levels in
    let e : c.args.self.now.abits - c.args.level ≡ (c.args.self.now.abits - (g.row.LEVELS - 1)) + (g.row.LEVELS - 1 - c.args.level) = omega arith in
    rw c.lift.ensures.word (shr_below c.args.word (c.args.self.now.abits - (g.row.LEVELS - 1)) (g.row.LEVELS - 1 - c.args.level) (subst (λ (n : ℕ). c.args.word < 2 ^ n) e c.requires.word))

pub returns-clause-apart : goal.returns-clause-apart
returns-clause-apart g c = λ other_word other_bit within same.
    let widths = c.args.self.now.widths in
    let count : length widths ≡ g.row.LEVELS = search rules in
    let value : c.lift.result ≡ place_in widths c.args.level c.args.word c.args.bit = search rules in
    let both = same ∙ value in
    lifted_apart widths c.args.self.now.growing (length widths - 1 - c.args.level) c.args.level c.args.word c.args.bit other_word other_bit (omega arith) c.requires.bit within (ap (λ (p : BasePlace). p.word) both) (ap (λ (p : BasePlace). p.bit) both)
