use Rattle.std.proofs.Common.{◌<◌, [], List, length, set, sym, ◌∙◌, ap, arith}
use Rattle.std.proofs.lemmas.List.{get_or_default}
use Rattle.lib_core.specs.declared.library.Choice.{Choice}
use Rattle.lib_judge.specs.Variants.{with_value}
use Rattle.lib_judge.proofs.Grouped.{put_there}
use Rattle.lib_judge.proofs.variants.add_choice.Goals as goal

pub returns-in_ok-add_value : goal.returns-in_ok-add_value
returns-in_ok-add_value c =
    let axes = c.args.axes.now.items in
    let within : c.args.place < length axes = omega arith in
    let at = c.index_mut.ensures.value ∙ get_or_default axes c.args.place c.index_mut.result.now [] within in
    ap (λ (vs : List Choice). set axes c.args.place vs) (c.in_ok-add_value.ensures ∙ ap (λ (vs : List Choice). with_value vs c.args.choice.now) at)
    ∙ sym (put_there axes c.args.choice.now c.args.place c.requires within)
