-- A run of a register by picks is one that the register allows.
use Rattle.std.proofs.Common.{◌≡◌, ℕ, zero, suc, ◌<◌, Bool, not, cond, List, length, refl, sym, ap, ◌∙◌}
use Rattle.std.specs.Prelude.{slice_index, slice_index_or}
use Rattle.std.proofs.lemmas.Option.{get_or_from_slice_get}
use Rattle.lib_core.specs.declared.library.Tri.{Tri}
use Rattle.lib_core.specs.Rams.{tri_at}
use Rattle.net_core.specs.declared.bits.Bit.{Bit}
use Rattle.net_core.specs.declared.bits.Bit.TheVariants.{Zero as Low}
use Rattle.net_core.specs.declared.bits.Event.{Event}
use Rattle.net_core.specs.declared.cells.Reg.{Reg}
use Rattle.net_core.specs.Values.{Valuation, Wave, Happening, bit_at, tri_of, value_of}
use Rattle.net_core.specs.Cells.{in_arst, in_srst, enabled, reg_next}
use Rattle.net_core.specs.Ports.{happening_of}
use Rattle.net_core.proofs.Basics.{get_below}
use Rattle.ram_step.specs.declared.picks.PickKey.{PickKey}
use Rattle.ram_step.specs.Picks.{start_key}
use Rattle.ram_step.specs.Moments.{inputs_alone, moment_of}
use Rattle.sim_cells.specs.Choices.{taken}
use Rattle.sim_cells.specs.Registers.{reg_next_tri}
use Rattle.sim_cells.specs.RegisterRuns.{RegisterRun, RegisterRunIsAllowed}
use Rattle.sim_cells.proofs.Filling.{bit_made}
use Rattle.sim_cells.proofs.Moving.{reg_next_same}
use Rattle.sim_cells.proofs.Seeing.{SeesAlike, edge_same, agrees_taken, agrees_along, back}

reg_next_seen : (inputs others : List ℕ) (r : Reg) (e f : Happening) (v : Valuation) (kept : ℕ → Bool) (k q : ℕ) (d : Bit) → SeesAlike inputs e others f → reg_next inputs r e v kept k q d ≡ reg_next others r f v kept k q d
reg_next_seen inputs others r e f v kept k q d h =
    ap (λ b. cond (in_arst r v) (tri_of (v q)) (cond (not b) (tri_of (kept k)) (cond (in_srst r v) (tri_at r.srst_value k) (cond (enabled r v) (tri_of (value_of v d)) (tri_of (kept k)))))) (h r.clock)

-- what is kept over the run; at the start as it was picked
kept_run : (ℕ → List Bool) → PickKey → Reg → ℕ → ℕ → Bool
kept_run state key r zero k = taken (start_key key) k (tri_at r.init k)
kept_run state key r (suc t) k = bit_at (state (suc t)) k

kept_is : (r : Reg) (key : ℕ → PickKey) (events : List Event) (v : Wave) (run : RegisterRun r key events v) (t k : ℕ) → k < length r.q → kept_run run.state (key 0) r t k ≡ bit_at (run.state t) k
unfolding kept_run
kept_is r key events v run zero k h = sym (ap (λ a. bit_at a k) run.starts ∙ bit_made (λ j. taken (start_key (key 0)) j (tri_at r.init j)) (length r.q) k h)
kept_is r key events v run (suc t) k h = refl

pub allowed : RegisterRunIsAllowed
unfolding kept_run
allowed inputs r key events v edges run = record {
  kept = kept_run run.state (key 0) r;
  starts = λ k. agrees_taken (start_key (key 0)) k (tri_at r.init k);
  shows = λ t h at k n there.
      let w = back (happening_of inputs) events t h at in
      let kept = kept_is r key events v run t k (get_below r.q k n there) in
      let own : Bool → Tri = λ b. cond (in_arst r (v t)) (tri_at r.arst_value k) (tri_of b) in
      agrees_along (key t) k (own (kept_run run.state (key 0) r t k)) (v t n) (run.shows t w.0 w.1.0 k n there ∙ ap (λ b. taken (key t) k (own b)) (sym kept));
  steps = λ t h at k q d here there.
      let w = back (happening_of inputs) events t h at in
      let e = w.0 in
      let within = get_below r.q k q here in
      let kept = kept_is r key events v run t k within in
      let net : slice_index r.q k ≡ q = get_or_from_slice_get r.q k q 0 here in
      let bit : slice_index_or r.d k Low ≡ d = get_or_from_slice_get r.d k d Low there in
      let alike : SeesAlike (inputs_alone e) (moment_of e) inputs (happening_of inputs e) = λ c. sym (edge_same inputs e.edge (edges t e w.1.0) c) in
      let state = run.state t in
      let tri : reg_next_tri r (v t) e state k ≡ reg_next inputs r h (v t) (kept_run run.state (key 0) r t) k q d =
      ap (λ n. reg_next (inputs_alone e) r (moment_of e) (v t) (bit_at state) k n (slice_index_or r.d k Low)) net
      ∙ ap (reg_next (inputs_alone e) r (moment_of e) (v t) (bit_at state) k q) bit
      ∙ reg_next_same (inputs_alone e) r (moment_of e) (v t) (bit_at state) (kept_run run.state (key 0) r t) k q d (sym kept)
      ∙ reg_next_seen (inputs_alone e) inputs r (moment_of e) (happening_of inputs e) (v t) (kept_run run.state (key 0) r t) k q d alike
      ∙ ap (λ z. reg_next inputs r z (v t) (kept_run run.state (key 0) r t) k q d) w.1.1 in
      let stepped : bit_at (run.state (suc t)) k ≡ taken (key t) k (reg_next_tri r (v t) e state k) =
      ap (λ a. bit_at a k) (run.steps t e w.1.0) ∙ bit_made (λ j. taken (key t) j (reg_next_tri r (v t) e state j)) (length r.q) k within in
      agrees_along (key t) k (reg_next inputs r h (v t) (kept_run run.state (key 0) r t) k q d) (kept_run run.state (key 0) r (suc t) k) (stepped ∙ ap (taken (key t) k) tri);
}
