use Rattle.std.proofs.Common.{◌≡◌, ◌≤◌, List, length, Some, rules, sym, subst}
use Rattle.geom_core.specs.declared.candidates.ReadPlace.{ReadPlace}
use Rattle.fit_rules.specs.Fits.{variant_at}
use Rattle.plan_report.proofs.Fitting.{places_met}
use Rattle.plan_report.proofs.report.push_choice.Goals as goal

pub shape_at-shape-requires-clause-few : goal.shape_at-shape-requires-clause-few
shape_at-shape-requires-clause-few c =
    let is : variant_at c.args.lib.now c.args.choice.now.ram c.args.choice.now.variant ≡ Some c.in-Some.variant.now = first_of (cc, search rules) in
    let few = places_met c.args.lib.now c.args.mem.now c.args.choice.now c.in-Some.variant.now c.requires.fit is in
    subst (λ (ps : List ReadPlace). length ps ≤ 8) (sym c.as_slice-reads.ensures) few
