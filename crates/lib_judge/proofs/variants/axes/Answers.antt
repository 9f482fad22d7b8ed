use Rattle.std.proofs.Common.{ℕ, List, map, sym, ◌∙◌, ap, arith}
use Rattle.std.proofs.lemmas.Grind.{common_steps}
use Rattle.lib_core.specs.declared.library.Choice.{Choice}
use Rattle.lib_judge.specs.Names.{with_name}
use Rattle.lib_judge.specs.Variants.{axes_from, first_name}
use Rattle.lib_judge.proofs.Grouped.{names_put}
use Rattle.lib_judge.proofs.variants.axes.Goals as goal

pub loop-rest-preserved : goal.loop-rest-preserved
unfolding axes_from
loop-rest-preserved c =
    let axes = c.loop-rest.axes.items in
    let item = c.choice-item.result in
    record {
      same = grind (arith, common_steps);
      named = c.in_ok-place.ensures.names ∙ ap (λ (ns : List (List ℕ)). with_name ns item.name) c.loop-rest.invariant.named ∙ sym (names_put axes item) ∙ ap (λ (xs : List (List Choice)). map first_name xs) (sym c.in_ok-add_choice.ensures);
    }
