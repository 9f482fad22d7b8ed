-- The text of a document that means a design means it.
use Rattle.std.proofs.Common.{◌≡◌, ℕ, true, List, subst}
use Rattle.lib_core.specs.declared.library.Library.{Library}
use Rattle.rtlil_text.specs.declared.doc.Doc.{Doc}
use Rattle.rtlil_text.specs.Reads.{Reads}
use Rattle.net_core.specs.declared.modules.Design.{Design}
use Rattle.net_unbuild.specs.Unbuilds.{Unbuilds}
use Rattle.fit_rules.specs.declared.plans.Plan.{Plan}
use Rattle.net_live.specs.Sound.{IsSoundDesign}
use Rattle.plan_report.specs.Report.{report}
use Rattle.map_flow.specs.declared.map.Made.{Made}
use Rattle.map_flow.specs.Maps.{TextMeansSame, AreTexts, bound, have_shapes}

pub text_means : (lib : Library) (d : Design) (doc : Doc) (text : List ℕ) → Unbuilds lib d doc → Reads text doc → TextMeansSame lib d text
text_means lib d doc text unbuilds reads = record {
  design = unbuilds.means.design;
  means = record { doc = doc; reads = reads; means = unbuilds.means.means };
  same = unbuilds.means.same;
}

-- the texts of a design with plans, by the design with the RAM cells in the places of its memories
pub are_texts : (lib : Library) (d new : Design) (plans : List Plan) (made : Made) → TextMeansSame lib d made.inferred.items → made.report.items ≡ report lib d plans → new ≡ bound lib d plans → IsSoundDesign lib new → have_shapes lib new ≡ true → TextMeansSame lib new made.netlist.items → AreTexts lib d plans made
are_texts lib d new plans made inferred reported is sound shapes netlist = record {
  inferred = inferred;
  sound = subst (IsSoundDesign lib) is sound;
  shapes = subst (λ e. have_shapes lib e ≡ true) is shapes;
  netlist = subst (λ e. TextMeansSame lib e made.netlist.items) is netlist;
  report = reported;
}
