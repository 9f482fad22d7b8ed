-- The text of what picked runs show.
use Rattle.std.proofs.Common.{◌≡◌, ℕ, zero, suc, ◌+◌, ◌-◌, ◌^◌, ◌<◌, ◌≤◌, Bool, List, [], ◌∷◌, length, map, min, Some, slice_get, refl, sym, ap, subst, ◌∙◌, arith}
use Rattle.std.proofs.lemmas.List.{length-map}
use Rattle.lib_core.specs.declared.library.Library.{Library}
use Rattle.net_core.specs.declared.bits.Bit.{Bit}
use Rattle.net_core.specs.declared.bits.Event.{Event}
use Rattle.net_core.specs.declared.modules.Module.{Module}
use Rattle.net_core.specs.Values.{Valuation, Wave, Happening, values_of}
use Rattle.net_core.specs.Ports.{inputs_of, outputs_of, happening_of}
use Rattle.net_core.specs.Runs.{shown}
use Rattle.net_core.specs.Valid.{Each}
use Rattle.ram_step.specs.Runs.{EdgesAreInputs}
use Rattle.picked_run.specs.Conditions.{CanRun}
use Rattle.picked_run.specs.PickedRuns.{IsShown, ShownIsTrace}
use Rattle.cycle_sim.specs.Traces.{AreShown}
use Rattle.stim_text.specs.Whole.{AreWholeEvents}
use Rattle.trace_text.specs.Trace.{trace_text}
use Rattle.trace_text.specs.Lengths.{text_bytes, capped, HasBits, AreRuns, TextHasBytes}
use Rattle.sim_flow.specs.Simulates.{AreTraces}

values_count : (v : Valuation) (bits : List Bit) → length (values_of v bits) ≡ length bits
values_count v [] = refl
values_count v (b ∷ bs) = omega (arith, values_count v bs)

-- a wave shows a bit for each output at each event
shown_bits : (bits : List Bit) (v : Wave) (t : ℕ) (es : List Happening) → (length (shown bits v t es) ≡ length es) × HasBits (length bits) (shown bits v t es)
shown_bits bits v t [] = (refl, tt)
shown_bits bits v t (e ∷ es) =
    let (count, has) = shown_bits bits v (suc t) es in
    (omega (arith, count), (values_count (v t) bits, has))

-- so many events, with a bit for each output at each of them
one_run : (lib : Library) (m : Module) (seed : ℕ) (events : List Event) (out : List (List Bool)) → IsShown lib m seed events out → (length out ≡ length events) × HasBits (length (outputs_of m)) out
one_run lib m seed events out is =
    let happenings = map (happening_of (inputs_of m)) events in
    let (count, has) = shown_bits (outputs_of m) is.wave 0 happenings in
    (ap (λ (o : List (List Bool)). length o) is.shows ∙ count ∙ length-map events (happening_of (inputs_of m)), subst (HasBits (length (outputs_of m))) (sym is.shows) has)

are_runs : (lib : Library) (m : Module) (events : List Event) (first : ℕ) (outs : List (List (List Bool))) → ((k : ℕ) (out : List (List Bool)) → slice_get outs k ≡ Some out → IsShown lib m (first + k) events out) → AreRuns (length (outputs_of m)) (length events) outs
are_runs lib m events first [] each = tt
are_runs lib m events first (out ∷ outs) each = (
  one_run lib m (first + 0) events out (each 0 out refl),
  are_runs lib m events (first + 1) outs (λ k o at. subst (λ n. IsShown lib m n events o) (omega arith) (each (suc k) o at)),
)

from_zero : (lib : Library) (m : Module) (events : List Event) (seeds : ℕ) (outs : List (List (List Bool))) → AreShown lib m events 0 seeds outs → AreRuns (length (outputs_of m)) (length events) outs
from_zero lib m events seeds outs are = are_runs lib m events 0 outs are.each

from_first : (lib : Library) (m : Module) (seed : ℕ) (events : List Event) (out : List (List Bool)) → IsShown lib m (0 + seed) events out → IsShown lib m seed events out
from_first lib m seed events out is = let e : 0 + seed ≡ seed = omega arith in subst (λ n. IsShown lib m n events out) e is

short : (n seen : ℕ) → seen ≡ capped n → seen ≤ 67108864 → n ≤ 67108864
short n seen e h = omega (arith, e, h)

pub are_traces : ShownIsTrace → TextHasBytes → (lib : Library) (m : Module) (events : List Event) (seeds seen : ℕ) (outs : List (List (List Bool))) (text : List ℕ)
    → CanRun lib m → AreWholeEvents m events → AreShown lib m events 0 seeds outs → seen ≡ capped (text_bytes m (length events) seeds) → seen ≤ 67108864 → text ≡ trace_text m outs
    → AreTraces lib m events seeds text
are_traces traced has_bytes lib m events seeds seen outs text runs whole are told few printed =
    let edges : EdgesAreInputs (inputs_of m) events = λ t event at. (whole.each t event at).edge in
    let bytes : length (trace_text m outs) ≡ text_bytes m (length events) seeds = has_bytes m (length events) seeds outs are.count (from_zero lib m events seeds outs are) in
    record {
      outs = outs;
      count = are.count;
      shown = λ seed out at. from_first lib m seed events out (are.each seed out at);
      traces = λ seed out at. traced lib m seed events out runs edges (from_first lib m seed events out (are.each seed out at));
      printed = printed;
      short = omega (arith, ap (λ (t : List ℕ). length t) printed, bytes, short (text_bytes m (length events) seeds) seen told few);
    }
