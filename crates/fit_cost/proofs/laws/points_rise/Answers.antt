use Rattle.fit_cost.proofs.Rising.{rise_with_places, rise_with_groups}
use Rattle.fit_cost.proofs.laws.points_rise.Goals as goal

pub returns : goal.returns
returns c = record { places = rise_with_places; groups = rise_with_groups }
