-- A site: a memory at a spot of a variant, with what all choices there have in common.
use Rattle.std.specs.Prelude.{◌≡◌, ◌≤◌, [], length}
use Rattle.fit_rules.specs.Limits.{MemLimits, VariantLimits, IsSpot}
use Rattle.fit_rules.specs.Shape.{cells}
use Rattle.fit_cost.specs.Points.{ports_points}
use Rattle.plan_search.specs.declared.sites.Site.{Site}

pub record IsSite (t : Site) : Type 0 where
  pub memory : MemLimits t.job.now.mem
  pub limits : VariantLimits t.variant.now
  pub spot : IsSpot t.variant.now t.spot
  pub few_reads : length t.job.now.mem.reads ≤ 8
  pub few_writes : length t.job.now.mem.writes ≤ 4
  pub cells : t.cells ≡ cells t.job.now.mem t.variant.now t.spot [] []
  pub few_cells : t.cells ≤ 100663296
  pub ports : t.ports ≡ ports_points t.job.now.mem t.variant.now t.spot
  pub few_port_points : t.ports ≤ 35186653791744
