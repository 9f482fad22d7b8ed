use Rattle.map_flow.proofs.Mapping.{mapped}
use Rattle.map_flow.proofs.laws.texts_are_mapped.Goals as goal

pub returns : goal.returns
returns c = mapped c.planned_are_plain.ensures c.bound_refines.ensures c.bound_keeps.ensures c.same_designs_refine.ensures c.same_designs_live.ensures c.sound_design_is_live.ensures c.refinements_compose.ensures
