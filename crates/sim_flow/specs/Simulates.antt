-- What the simulation of a document's design writes. What a document means is said by net_whole, which events a stimulus has by
-- stim_text, what a simulation shows by picked_run, and how it is printed by trace_text.
use Rattle.std.specs.Prelude.{◌≡◌, ℕ, ◌<◌, ◌≤◌, Bool, List, length, map, Result, Ok, Err, Some, slice_get}
use Rattle.lib_core.specs.declared.library.Library.{Library}
use Rattle.rtlil_text.specs.declared.doc.Doc.{Doc}
use Rattle.net_core.specs.declared.bits.Event.{Event}
use Rattle.net_core.specs.declared.modules.Design.{Design}
use Rattle.net_core.specs.declared.modules.Module.{Module}
use Rattle.net_core.specs.Ports.{inputs_of, happening_of}
use Rattle.net_core.specs.Runs.{HasTrace}
use Rattle.picked_run.specs.Conditions.{CanRun}
use Rattle.picked_run.specs.PickedRuns.{IsShown}
use Rattle.stim_text.specs.declared.fault.StimFault.{StimFault}
use Rattle.stim_text.specs.Stimulus.{read, IsMemory}
use Rattle.stim_text.specs.Whole.{AreWholeEvents}
use Rattle.trace_text.specs.Trace.{trace_text}
use Rattle.trace_text.specs.Lengths.{text_bytes, capped}
use Rattle.net_whole.specs.Whole.{MeansWhole}
use Rattle.sim_flow.specs.declared.tracing.TraceRefusal.{TraceRefusal}
use Rattle.sim_flow.specs.declared.tracing.TraceRefusal.TheVariants as refusal
use Rattle.sim_flow.specs.Chosen.{simulated}

-- the module is the one that is simulated of the design that the document means, and it can be
pub record IsSubject (lib : Library) (doc : Doc) (m : Module) : Type 0 where
  pub design : Design
  pub means : MeansWhole lib doc design
  pub is : m ≡ simulated design
  pub runs : CanRun lib m

-- ---- stimulus

abbrev pub HasEvents : Module → List ℕ → List Event → Type 0
HasEvents m stim events = ◌≡◌ {A = Result (List Event) StimFault} (read m stim) (Ok events)

abbrev pub HasFault : Module → List ℕ → StimFault → Type 0
HasFault m stim fault = ◌≡◌ {A = Result (List Event) StimFault} (read m stim) (Err fault)

pub record AreEventsOf (m : Module) (stim : List ℕ) (events : List Event) : Type 0 where
  pub read : HasEvents m stim events
  pub whole : AreWholeEvents m events

-- ---- traces

-- The text is that of traces of the module, one for each seed from 0 on, each what the picked run of that seed shows.
pub record AreTraces (lib : Library) (m : Module) (events : List Event) (seeds : ℕ) (text : List ℕ) : Type 0 where
  pub outs : List (List (List Bool))
  pub count : length outs ≡ seeds
  pub shown : (seed : ℕ) (out : List (List Bool)) → slice_get outs seed ≡ Some out → IsShown lib m seed events out
  pub traces : (seed : ℕ) (out : List (List Bool)) → slice_get outs seed ≡ Some out → HasTrace lib m (map (happening_of (inputs_of m)) events) out
  pub printed : text ≡ trace_text m outs
  pub short : length text ≤ 67108864

-- why there is no text; want of memory is free
abbrev pub IsUntraced : Module → ℕ → ℕ → TraceRefusal → Type 0
IsUntraced m events seeds refusal.Memory = Unit {0}
IsUntraced m events seeds (refusal.Long seen) = (seen ≡ capped (text_bytes m events seeds)) × (67108864 < seen)

-- ---- all of it

-- The text is that of the traces of the module that is simulated of the design that the document means, under the events of the
-- stimulus.
pub record IsSimulated (doc : Doc) (lib : Library) (stim : List ℕ) (seeds : ℕ) (text : List ℕ) : Type 0 where
  pub design : Design
  pub means : MeansWhole lib doc design
  pub events : List Event
  pub reads : HasEvents (simulated design) stim events
  pub traced : AreTraces lib (simulated design) events seeds text
