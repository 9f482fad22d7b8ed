use Rattle.std.proofs.Common.{rules, ap, ◌∙◌}
use Rattle.std.proofs.lemmas.List.Sorted.{answers_always}
use Rattle.net_collect.specs.Sides.{by_id}
use Rattle.net_collect.proofs.Sorted.{write_id, writes_by_id}
use Rattle.net_collect.proofs.sides.by_id.Goals as goal

pub returns : goal.returns
returns c =
    writes_by_id c.into_vec-writes.result.items c.sort_by_key.new.self.items (c.in_ok-sort_by_key.ensures.sorted write_id (answers_always _ _ _ (λ f a r g h. search rules)))
    (c.in_ok-sort_by_key.ensures.stable write_id (answers_always _ _ _ (λ f a r g h. search rules)))
    ∙ ap by_id c.into_vec-writes.ensures
