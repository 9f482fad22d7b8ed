-- What follows for the texts of a design with plans.
use Rattle.std.specs.Prelude.{List}
use Rattle.lib_core.specs.declared.library.Library.{Library}
use Rattle.rtlil_text.specs.declared.doc.Doc.{Doc}
use Rattle.net_core.specs.declared.modules.Design.{Design}
use Rattle.fit_rules.specs.declared.plans.Plan.{Plan}
use Rattle.fit_rules.specs.Limits.{LibraryLimits}
use Rattle.net_live.specs.Sound.{IsSoundDesign}
use Rattle.net_whole.specs.Whole.{MeansWhole}
use Rattle.map_flow.specs.declared.map.Made.{Made}
use Rattle.map_flow.specs.Maps.{HasPlans, AreTexts, IsMapped}

-- The law: the document is mapped.
abbrev pub TextsAreMapped : Type 0
TextsAreMapped = (doc : Doc) (lib : Library) (d : Design) (plans : List Plan) (made : Made) → LibraryLimits lib → MeansWhole lib doc d → IsSoundDesign lib d → HasPlans lib d plans → AreTexts lib d plans made → IsMapped doc lib made
