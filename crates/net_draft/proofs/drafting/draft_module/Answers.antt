use Rattle.std.proofs.Common.{rules, ◌≡◌, true}
use Rattle.net_draft.proofs.Fitting.{sound_fits}
use Rattle.net_draft.proofs.drafting.draft_module.Goals as goal

pub draft_fitting-requires : goal.draft_fitting-requires
draft_fitting-requires c =
    let sound : c.in_ok-is_sound.field-0 ≡ true = search rules in
    sound_fits c.args.lib.now c.args.module.now (c.in_ok-is_sound.ensures.says sound)
