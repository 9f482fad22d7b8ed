-- A run of a memory by picks is one that the memory allows.
use Rattle.std.proofs.Common.{◌≡◌, ℕ, zero, suc, ◌+◌, ◌-◌, ◌*◌, ◌%◌, ◌^◌, ◌<◌, Bool, not, ◌&&◌, cond, nat_le, nat_lt, List, [], ◌∷◌, map, length, Option, Some, None, refl, sym, ap, subst, ◌∙◌, mul_comm}
use Rattle.std.specs.Prelude.{slice_get, slice_index}
use Rattle.std.proofs.lemmas.Nat.{div-mul-add, mod-mul-add, mul-add-lt}
use Rattle.std.proofs.lemmas.Option.{get_or_from_slice_get}
use Rattle.lib_core.specs.declared.library.Tri.{Tri}
use Rattle.lib_core.specs.Rams.{tri_at}
use Rattle.net_core.specs.declared.bits.Clock.{Clock}
use Rattle.net_core.specs.declared.bits.Event.{Event}
use Rattle.net_core.specs.declared.mems.Mem.{Mem}
use Rattle.net_core.specs.declared.mems.RdPort.{RdPort}
use Rattle.net_core.specs.declared.mems.WrPort.{WrPort}
use Rattle.net_core.specs.Values.{Valuation, Wave, Happening, bit_at, tri_of, value_of, values_of}
use Rattle.net_core.specs.Memory.{Frame, frame_of, base_of, hit, hits, written, loaded, read_bit, read_resets, read_shows, read_next, ClockedAllows, AsyncAllows, ReadAllows}
use Rattle.net_core.specs.Ports.{happening_of}
use Rattle.net_core.specs.Valid.{MemFits}
use Rattle.net_core.proofs.Basics.{get_below}
use Rattle.ram_step.specs.declared.picks.PickKey.{PickKey}
use Rattle.ram_step.specs.Picks.{pick_number, start_key}
use Rattle.ram_step.specs.Moments.{inputs_alone, moment_of}
use Rattle.ram_step.specs.Runs.{EdgesAreInputs}
use Rattle.row_store.proofs.Tables.{tri_at-made}
use Rattle.sim_cells.specs.Choices.{taken}
use Rattle.sim_cells.specs.Memories.{MemLook, is_clocked, clock_of, contents, kept_width, kept_at, picked_bit, read_start, written_place, next_tri, next_kept, shown_tri}
use Rattle.sim_cells.specs.MemoryRuns.{MemoryRun, MemoryRunIsAllowed}
use Rattle.sim_cells.proofs.Filling.{bit_made}
use Rattle.sim_cells.proofs.ReadLists.{each_at_own}
use Rattle.sim_cells.proofs.Seeing.{SeesAlike, edge_same, agrees_taken, agrees_along, back}

hits_seen : (inputs others : List ℕ) (f : Frame) (e g : Happening) (v : Valuation) (word k : ℕ) (ws : List WrPort) → SeesAlike inputs e others g → hits inputs f e v word k ws ≡ hits others f g v word k ws
hits_seen inputs others f e g v word k [] h = refl
hits_seen inputs others f e g v word k (w ∷ ws) h =
    let address = f.offset + word in
    let base = base_of v w.addr in
    let place = (address - base) * f.width + k in
    let one : hit inputs f e v word k w ≡ hit others f g v word k w = ap (λ t. cond (t && nat_le base address && nat_lt address (base + 2 ^ w.wide) && bit_at (values_of v w.en) place) (Some (bit_at (values_of v w.value) place)) None) (h w.clock) in
    let rest = hits_seen inputs others f e g v word k ws h in
    λ i. one i ∷ rest i

next_seen : (inputs others : List ℕ) (f : Frame) (ws : List WrPort) (c : Clock) (r : RdPort) (e g : Happening) (v : Valuation) (words : ℕ → ℕ → Tri) (kept : ℕ → Bool) (k out : ℕ) → SeesAlike inputs e others g → read_next inputs f ws c r e v words kept k out ≡ read_next others f ws c r g v words kept k out
next_seen inputs others f ws c r e g v words kept k out h =
    let body : Bool → (ℕ → ℕ → Tri) → Tri = λ edge here. cond (value_of v r.arst) (tri_of (v out)) (cond (not edge) (tri_of (kept k)) (cond (read_resets r v) (tri_at r.srst_value k) (cond (value_of v r.en) (read_bit f (base_of v r.addr) k here) (tri_of (kept k))))) in
    let same : (word bit : ℕ) → loaded r.trans r.coll ws (hits inputs f e v word bit ws) (words word bit) ≡ loaded r.trans r.coll ws (hits others f g v word bit ws) (words word bit) = λ word bit. ap (λ hs. loaded r.trans r.coll ws hs (words word bit)) (hits_seen inputs others f e g v word bit ws h) in
    λ i. body (h c i) (λ word bit. same word bit i)

pub next_same : (inputs : List ℕ) (f : Frame) (ws : List WrPort) (c : Clock) (r : RdPort) (e : Happening) (v : Valuation) (words : ℕ → ℕ → Tri) (kept other : ℕ → Bool) (k out : ℕ) → kept k ≡ other k → read_next inputs f ws c r e v words kept k out ≡ read_next inputs f ws c r e v words other k out
next_same inputs f ws c r e v words kept other k out h = ap (λ b. read_next inputs f ws c r e v words (λ j. b) k out) h

-- what is kept over the run; at the start as it was picked
kept_run : (ℕ → MemLook) → PickKey → ℕ → RdPort → ℕ → ℕ → Bool
kept_run state key port r zero k = taken (start_key key) (pick_number port k) (tri_at r.init_value k)
kept_run state key port r (suc t) k = bit_at (kept_at (state (suc t)).kept port) k

module _ (inputs : List ℕ) (x : Mem) (key : ℕ → PickKey) (events : List Event) (v : Wave) (fits : MemFits x) (edges : EdgesAreInputs inputs events) (run : MemoryRun x key events v) where
  alike : (t : ℕ) (e : Event) → slice_get events t ≡ Some e → SeesAlike (inputs_alone e) (moment_of e) inputs (happening_of inputs e)
  alike t e at = λ c. sym (edge_same inputs e.edge (edges t e at) c)

  kept_is : (port : ℕ) (r : RdPort) → slice_get x.reads port ≡ Some r → (t k : ℕ) → k < kept_width r → kept_run run.state (key 0) port r t k ≡ bit_at (kept_at (run.state t).kept port) k
  unfolding kept_run
  kept_is port r found zero k h =
      sym (ap (λ (a : MemLook). bit_at (kept_at a.kept port) k) run.starts
      ∙ ap (λ l. bit_at l k) (each_at_own (read_start (key 0)) x.reads port r found)
      ∙ bit_made (picked_bit (start_key (key 0)) port (tri_at r.init_value)) (kept_width r) k h)
  kept_is port r found (suc t) k h = refl

  words_run : ℕ → ℕ → ℕ → Tri
  words_run t word k = contents x (run.state t).words word k

  clocked : (port : ℕ) (r : RdPort) (c : Clock) → slice_get x.reads port ≡ Some r → r.clock ≡ Some c → ClockedAllows inputs (frame_of x) x.writes c r (λ t word k. contents x (run.state t).words word k) (map (happening_of inputs) events) v
  unfolding kept_run
  clocked port r c found e = record {
    kept = kept_run run.state (key 0) port r;
    starts = λ k. agrees_taken (start_key (key 0)) (pick_number port k) (tri_at r.init_value k);
    shows = λ t h at k n there.
        let w = back (happening_of inputs) events t h at in
        let within : k < kept_width r = subst (λ z. k < cond (is_clocked z) (length r.out) 0) (sym e) (get_below r.out k n there) in
        let kept = kept_is port r found t k within in
        let own : Bool → Tri = λ b. cond (value_of (v t) r.arst) (tri_at r.arst_value k) (tri_of b) in
        let tri : shown_tri (run.state t).words x (v t) (kept_at (run.state t).kept port) r k ≡ own (kept_run run.state (key 0) port r t k) =
        ap (λ o. cond (is_clocked o) (read_shows r (v t) (bit_at (kept_at (run.state t).kept port)) k) (read_bit (frame_of x) (base_of (v t) r.addr) k (contents x (run.state t).words))) e ∙ ap own (sym kept) in
        agrees_along (key t) (pick_number port k) (own (kept_run run.state (key 0) port r t k)) (v t n) (run.shows t w.0 w.1.0 port r found k n there ∙ ap (taken (key t) (pick_number port k)) tri);
    steps = λ t h at k out there.
        let w = back (happening_of inputs) events t h at in
        let event = w.0 in
        let a = run.state t in
        let within : k < kept_width r = subst (λ z. k < cond (is_clocked z) (length r.out) 0) (sym e) (get_below r.out k out there) in
        let kept = kept_is port r found t k within in
        let net : slice_index r.out k ≡ out = get_or_from_slice_get r.out k out 0 there in
        let old : ℕ → Bool = bit_at (kept_at a.kept port) in
        let mine : ℕ → Bool = kept_run run.state (key 0) port r t in
        let words : ℕ → ℕ → Tri = contents x a.words in
        let tri : next_tri a.words x (v t) event (kept_at a.kept port) r k ≡ read_next inputs (frame_of x) x.writes c r h (v t) words mine k out =
        ap (λ o. read_next (inputs_alone event) (frame_of x) x.writes (clock_of o) r (moment_of event) (v t) words old k (slice_index r.out k)) e
        ∙ ap (read_next (inputs_alone event) (frame_of x) x.writes c r (moment_of event) (v t) words old k) net
        ∙ next_same (inputs_alone event) (frame_of x) x.writes c r (moment_of event) (v t) words old mine k out (sym kept)
        ∙ next_seen (inputs_alone event) inputs (frame_of x) x.writes c r (moment_of event) (happening_of inputs event) (v t) words mine k out (alike t event w.1.0)
        ∙ ap (λ z. read_next inputs (frame_of x) x.writes c r z (v t) words mine k out) w.1.1 in
        let stepped : bit_at (kept_at (run.state (suc t)).kept port) k ≡ taken (key t) (pick_number port k) (next_tri a.words x (v t) event (kept_at a.kept port) r k) =
        ap (λ (z : MemLook). bit_at (kept_at z.kept port) k) (run.steps t event w.1.0)
        ∙ ap (λ l. bit_at l k) (each_at_own (next_kept a x (v t) event (key t)) x.reads port r found)
        ∙ bit_made (picked_bit (key t) port (next_tri a.words x (v t) event (kept_at a.kept port) r)) (kept_width r) k within in
        agrees_along (key t) (pick_number port k) (read_next inputs (frame_of x) x.writes c r h (v t) words mine k out) (kept_run run.state (key 0) port r (suc t) k) (stepped ∙ ap (taken (key t) (pick_number port k)) tri);
  }

  at_once : (port : ℕ) (r : RdPort) → slice_get x.reads port ≡ Some r → r.clock ≡ None → AsyncAllows (frame_of x) r (λ t word k. contents x (run.state t).words word k) (map (happening_of inputs) events) v
  at_once port r found e t h at k n there =
      let w = back (happening_of inputs) events t h at in
      let tri = ap (λ o. cond (is_clocked o) (read_shows r (v t) (bit_at (kept_at (run.state t).kept port)) k) (read_bit (frame_of x) (base_of (v t) r.addr) k (contents x (run.state t).words))) e in
      agrees_along (key t) (pick_number port k) (read_bit (frame_of x) (base_of (v t) r.addr) k (contents x (run.state t).words)) (v t n) (run.shows t w.0 w.1.0 port r found k n there ∙ ap (taken (key t) (pick_number port k)) tri)

  reads_by : (port : ℕ) (r : RdPort) (o : Option Clock) → slice_get x.reads port ≡ Some r → r.clock ≡ o → ReadAllows inputs (frame_of x) x.writes o r (λ t word k. contents x (run.state t).words word k) (map (happening_of inputs) events) v
  reads_by port r None found e = at_once port r found e
  reads_by port r (Some c) found e = clocked port r c found e

pub allowed : MemoryRunIsAllowed
allowed inputs x key events v fits edges run = record {
  words = λ t word k. contents x (run.state t).words word k;
  holds = record {
    starts = λ word k below within. ap (λ (a : MemLook). contents x a.words word k) run.starts;
    steps = λ t h at word k below within.
        let w = back (happening_of inputs) events t h at in
        let e = w.0 in
        let p = word * x.width + k in
        let inside : p < x.size * x.width = subst (λ n. p < n) (mul_comm x.width x.size) (mul-add-lt word x.width k x.size below within) in
        let old : Tri = contents x (run.state t).words word k in
        ap (λ (a : MemLook). contents x a.words word k) (run.steps t e w.1.0)
        ∙ tri_at-made (written_place (run.state t) x (v t) e) (x.size * x.width) p inside
        ∙ ap (λ n. written x.writes (hits (inputs_alone e) (frame_of x) (moment_of e) (v t) n (p % x.width) x.writes) old) (div-mul-add word x.width k within)
        ∙ ap (λ n. written x.writes (hits (inputs_alone e) (frame_of x) (moment_of e) (v t) word n x.writes) old) (mod-mul-add word x.width k within)
        ∙ ap (λ hs. written x.writes hs old) (hits_seen (inputs_alone e) inputs (frame_of x) (moment_of e) (happening_of inputs e) (v t) word k x.writes (alike inputs x key events v fits edges run t e w.1.0))
        ∙ ap (λ z. written x.writes (hits inputs (frame_of x) z (v t) word k x.writes) old) w.1.1;
  };
  reads = λ j r found. reads_by inputs x key events v fits edges run j r r.clock found refl;
}
