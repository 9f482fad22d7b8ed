-- What a document becomes that is mapped onto a library. What a text means is said by the grammar of texts, by what a document
-- means, and by how memory cells make memories; refinement and liveness are those of runs of modules.
use Rattle.std.specs.Prelude.{◌≡◌, ℕ, Bool, true, List, [], Some, None}
use Rattle.std.specs.List.{list_all}
use Rattle.lib_core.specs.declared.library.Library.{Library}
use Rattle.rtlil_text.specs.declared.doc.Doc.{Doc}
use Rattle.rtlil_text.specs.Reads.{Reads}
use Rattle.net_core.specs.declared.modules.Design.{Design}
use Rattle.net_core.specs.declared.modules.Module.{Module}
use Rattle.net_core.specs.Runs.{Refines, IsLive}
use Rattle.net_core.specs.Shape.{fits_library}
use Rattle.net_core.specs.Valid.{Each}
use Rattle.fit_rules.specs.declared.plans.Plan.{Plan}
use Rattle.net_build.specs.Builds.{FirstFails}
use Rattle.net_live.specs.Sound.{IsSoundDesign}
use Rattle.net_same.specs.Same.{AreSame}
use Rattle.net_whole.specs.declared.fault.WholeFault.{WholeFault}
use Rattle.net_whole.specs.declared.fault.WholeFault.TheVariants as whole
use Rattle.net_whole.specs.Whole.{MeansWhole, IsUncollected}
use Rattle.plain_plan.specs.declared.planning.Planned.TheVariants as planned_as
use Rattle.plain_plan.specs.Planned.{planned}
use Rattle.plain_plan.specs.Rooms.{first_over}
use Rattle.plain_bind.specs.Bound as binding
use Rattle.plan_report.specs.Report.{report}
use Rattle.map_flow.specs.declared.map.Made.{Made}
use Rattle.map_flow.specs.declared.refusal.MapRefusal.{MapRefusal}
use Rattle.map_flow.specs.declared.refusal.MapRefusal.TheVariants as refusal

-- the design with the RAM cells of plans in the places of its memories
abbrev pub bound : Library → Design → List Plan → Design
bound lib d plans = binding.bound lib d plans

-- each RAM cell has the shape that its variant gives
abbrev pub has_shapes : Library → Module → Bool
has_shapes lib m = list_all (fits_library lib) m.rams

abbrev pub have_shapes : Library → Design → Bool
have_shapes lib d = list_all (has_shapes lib) d.modules

-- ---- texts

-- the text means this design, its memories whole
pub record TextMeans (lib : Library) (text : List ℕ) (d : Design) : Type 0 where
  pub doc : Doc
  pub reads : Reads text doc
  pub means : MeansWhole lib doc d

-- the text means a design that is the same as this one but for the numbers of nets, added wires that are no ports, and the
-- values at the start that wires show
pub record TextMeansSame (lib : Library) (d : Design) (text : List ℕ) : Type 0 where
  pub design : Design
  pub means : TextMeans lib text design
  pub same : AreSame d design

-- ---- plans

-- each memory has the first plain candidate of least points, and each module has room for its plans
pub record HasPlans (lib : Library) (d : Design) (plans : List Plan) : Type 0 where
  pub are : planned lib d ≡ planned_as.Plans plans
  pub room : first_over lib d.modules plans ≡ None

-- the first memory that has no plain candidate
abbrev pub HasNoFit : Library → Design → List ℕ → List ℕ → Type 0
HasNoFit lib d inside memory = planned lib d ≡ planned_as.NoFit inside memory

-- the first module that has no room for its plans
pub record HasNoRoom (lib : Library) (d : Design) (seen : ℕ) : Type 0 where
  pub plans : List Plan
  pub are : planned lib d ≡ planned_as.Plans plans
  pub over : first_over lib d.modules plans ≡ Some seen

-- why a design has no plans; want of memory is free
abbrev pub HasNoPlans : Library → Design → MapRefusal → Type 0
HasNoPlans lib d refusal.Memory = Unit {0}
HasNoPlans lib d (refusal.Build f) = ⊥
HasNoPlans lib d (refusal.Collect f) = ⊥
HasNoPlans lib d (refusal.NoFit inside memory) = HasNoFit lib d inside memory
HasNoPlans lib d (refusal.Room seen) = HasNoRoom lib d seen

-- ---- the mapped design

-- the texts of a design with plans
pub record AreTexts (lib : Library) (d : Design) (plans : List Plan) (made : Made) : Type 0 where
  pub inferred : TextMeansSame lib d made.inferred.items
  pub sound : IsSoundDesign lib (bound lib d plans)
  pub shapes : have_shapes lib (bound lib d plans) ≡ true
  pub netlist : TextMeansSame lib (bound lib d plans) made.netlist.items
  pub report : made.report.items ≡ report lib d plans

-- no memory is left in the module, nor a cell of one
pub record HasNoMemory (m : Module) : Type 0 where
  pub mems : m.mems ≡ []
  pub declared : m.declared ≡ []
  pub parts : m.parts ≡ []

-- The design that the document means, with plans for its memories, has become these texts.
pub record IsMapped (doc : Doc) (lib : Library) (made : Made) : Type 0 where
  pub design : Design
  pub means : MeansWhole lib doc design
  pub plans : List Plan
  pub has_plans : HasPlans lib design plans
  -- what the text of the inferred design means is the design
  pub inferred : Design
  pub inferred_means : TextMeans lib made.inferred.items inferred
  pub inferred_same : AreSame design inferred
  -- what the text of the netlist means is the design with the RAM cells of the plans in the places of its memories
  pub netlist : Design
  pub netlist_means : TextMeans lib made.netlist.items netlist
  pub netlist_same : AreSame (bound lib design plans) netlist
  -- each run of the netlist shows a run of the inferred design and of the design, and every list of happenings has a run
  pub inferred_refines : Refines lib design inferred
  pub inferred_live : IsLive lib inferred
  pub netlist_refines_inferred : Refines lib inferred netlist
  pub netlist_refines : Refines lib design netlist
  pub netlist_live : IsLive lib netlist
  -- no memory is left, and each RAM cell has its shape
  pub no_memory : Each netlist.modules HasNoMemory
  pub shapes : have_shapes lib (bound lib design plans) ≡ true
  -- the report tells the plans and their points
  pub reported : made.report.items ≡ report lib design plans

-- the document means a design that has no plans for this reason
pub record IsUnplanned (doc : Doc) (lib : Library) (r : MapRefusal) : Type 0 where
  pub design : Design
  pub means : MeansWhole lib doc design
  pub none : HasNoPlans lib design r

-- why a design is not mapped; want of memory is free
abbrev pub IsRefused : Doc → Library → MapRefusal → Type 0
IsRefused doc lib refusal.Memory = Unit {0}
IsRefused doc lib (refusal.Build f) = FirstFails lib doc.modules doc.modules f
IsRefused doc lib (refusal.Collect f) = IsUncollected lib doc f
IsRefused doc lib (refusal.NoFit inside memory) = IsUnplanned doc lib (refusal.NoFit inside memory)
IsRefused doc lib (refusal.Room seen) = IsUnplanned doc lib (refusal.Room seen)

abbrev pub refusal_of : WholeFault → MapRefusal
refusal_of whole.Memory = refusal.Memory
refusal_of (whole.Build f) = refusal.Build f
refusal_of (whole.Collect f) = refusal.Collect f
