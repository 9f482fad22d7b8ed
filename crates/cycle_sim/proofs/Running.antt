-- What is shown event by event from the start on is what a picked run shows.
use Rattle.std.proofs.Common.{◌≡◌, ℕ, zero, suc, ◌+◌, ◌<◌, ◌≤◌, Bool, false, List, [], ◌∷◌, ◌++◌, map, length, drop, get_or, Some, refl, sym, ap, subst, add-one, drop-cons, append_assoc, ◌∙◌, arith}
use Rattle.std.specs.Prelude.{slice_get}
use Rattle.std.proofs.lemmas.Option.{same_Some, slice_get-get_or}
use Rattle.lib_core.specs.declared.library.Library.{Library}
use Rattle.net_core.specs.declared.bits.Bit.{Bit}
use Rattle.net_core.specs.declared.bits.Event.{Event}
use Rattle.net_core.specs.declared.modules.Module.{Module}
use Rattle.net_core.specs.Values.{Valuation, Wave, values_of}
use Rattle.net_core.specs.Ports.{inputs_of, outputs_of, happening_of}
use Rattle.net_core.specs.Runs.{shown}
use Rattle.ram_step.specs.Moments.{valuation}
use Rattle.picked_run.specs.Settled.{IsSettled}
use Rattle.picked_run.specs.States.{SimLook, sim_start, sim_stepped}
use Rattle.picked_run.specs.PickedRuns.{IsShown}
use Rattle.cycle_sim.specs.Views.{SimView, first_view, HasInputs}
use Rattle.cycle_sim.specs.Traces.{HaveInputs, ShowsFrom, ShowsEvent}

module _ (lib : Library) (m : Module) (seed : ℕ) where
  -- the values and the states, counted from the first event
  abbrev wave_of : (t : ℕ) (s : SimLook) (es : List Event) (outs : List (List Bool)) → ShowsFrom lib m seed t s es outs → ℕ → Valuation
  wave_of t s [] outs r k = λ n. false
  wave_of t s (e ∷ es) outs r zero = r.0
  wave_of t s (e ∷ es) outs r (suc k) = wave_of (t + 1) (sim_stepped m seed t e r.0 s) es r.1 r.4 k

  abbrev state_of : (t : ℕ) (s : SimLook) (es : List Event) (outs : List (List Bool)) → ShowsFrom lib m seed t s es outs → ℕ → SimLook
  state_of t s [] outs r k = s
  state_of t s (e ∷ es) outs r zero = s
  state_of t s (e ∷ es) outs r (suc k) = state_of (t + 1) (sim_stepped m seed t e r.0 s) es r.1 r.4 k

  state_first : (t : ℕ) (s : SimLook) (es : List Event) (outs : List (List Bool)) (r : ShowsFrom lib m seed t s es outs) → state_of t s es outs r 0 ≡ s
  state_first t s [] outs r = refl
  state_first t s (e ∷ es) outs r = refl

  settled_at : (t : ℕ) (s : SimLook) (es : List Event) (outs : List (List Bool)) (r : ShowsFrom lib m seed t s es outs) (k : ℕ) (e : Event) → slice_get es k ≡ Some e → IsSettled lib m seed (t + k) e (state_of t s es outs r k) (wave_of t s es outs r k)
  settled_at t s [] outs r k e h = cc
  settled_at t s (x ∷ es) outs r zero e h =
      let z : t ≡ t + 0 = omega arith in
      let P : ℕ → Type 0 = λ n. IsSettled lib m seed n x s r.0 in
      let Q : Event → Type 0 = λ y. IsSettled lib m seed (t + 0) y s r.0 in
      subst Q (same_Some x e h) (subst P z r.2)
  settled_at t s (x ∷ es) outs r (suc k) e h =
      let z : t + 1 + k ≡ t + suc k = omega arith in
      let next = sim_stepped m seed t x r.0 s in
      let P : ℕ → Type 0 = λ n. IsSettled lib m seed n e (state_of (t + 1) next es r.1 r.4 k) (wave_of (t + 1) next es r.1 r.4 k) in
      subst P z (settled_at (t + 1) next es r.1 r.4 k e h)

  steps_at : (t : ℕ) (s : SimLook) (es : List Event) (outs : List (List Bool)) (r : ShowsFrom lib m seed t s es outs) (k : ℕ) (e : Event) → slice_get es k ≡ Some e → state_of t s es outs r (suc k) ≡ sim_stepped m seed (t + k) e (wave_of t s es outs r k) (state_of t s es outs r k)
  steps_at t s [] outs r k e h = cc
  steps_at t s (x ∷ es) outs r zero e h =
      let z : t ≡ t + 0 = omega arith in
      state_first (t + 1) (sim_stepped m seed t x r.0 s) es r.1 r.4
      ∙ ap (λ n. sim_stepped m seed n x r.0 s) z
      ∙ ap (λ y. sim_stepped m seed (t + 0) y r.0 s) (same_Some x e h)
  steps_at t s (x ∷ es) outs r (suc k) e h =
      let z : t + 1 + k ≡ t + suc k = omega arith in
      let next = sim_stepped m seed t x r.0 s in
      steps_at (t + 1) next es r.1 r.4 k e h
      ∙ ap (λ n. sim_stepped m seed n e (wave_of (t + 1) next es r.1 r.4 k) (state_of (t + 1) next es r.1 r.4 k)) z

  shown_at : (w : Wave) (t : ℕ) (s : SimLook) (es : List Event) (outs : List (List Bool)) (r : ShowsFrom lib m seed t s es outs) → ((k : ℕ) → w (t + k) ≡ wave_of t s es outs r k) → outs ≡ shown (outputs_of m) w t (map (happening_of (inputs_of m)) es)
  shown_at w t s [] outs r same = r
  shown_at w t s (e ∷ es) outs r same =
      let z : t ≡ t + 0 = omega arith in
      let now : r.0 ≡ w t = sym (ap w z ∙ same 0) in
      let later : (k : ℕ) → w (t + 1 + k) ≡ wave_of (t + 1) (sim_stepped m seed t e r.0 s) es r.1 r.4 k = λ k. (let q : t + 1 + k ≡ t + suc k = omega arith in ap w q ∙ same (suc k)) in
      let rest = shown_at w (t + 1) (sim_stepped m seed t e r.0 s) es r.1 r.4 later in
      r.3
      ∙ ap (λ v. values_of v (outputs_of m) ∷ r.1) now
      ∙ ap (λ l. values_of (w t) (outputs_of m) ∷ l) rest
      ∙ ap (λ n. values_of (w t) (outputs_of m) ∷ shown (outputs_of m) w n (map (happening_of (inputs_of m)) es)) (add-one t)

  pub is_shown : (es : List Event) (outs : List (List Bool)) → ShowsFrom lib m seed 0 (sim_start lib m seed) es outs → IsShown lib m seed es outs
  is_shown es outs r =
      let start = sim_start lib m seed in
      let wave = wave_of 0 start es outs r in
      let state = state_of 0 start es outs r in
      record {
        wave = wave;
        run = record {
          state = state;
          starts = state_first 0 start es outs r;
          settled = λ t e h.
              let z : 0 + t ≡ t = omega arith in
              let P : ℕ → Type 0 = λ n. IsSettled lib m seed n e (state t) (wave t) in
              subst P z (settled_at 0 start es outs r t e h);
          steps = λ t e h.
              let z : 0 + t ≡ t = omega arith in
              steps_at 0 start es outs r t e h ∙ ap (λ n. sim_stepped m seed n e (wave t) (state t)) z;
        };
        shows = shown_at wave 0 start es outs r (λ k. let z : 0 + k ≡ k = omega arith in ap wave z);
      }

-- the rest, shown from here, is the whole
pub record Follows (first : SimView) (events : List Event) (i : ℕ) (now : SimView) (lines : List (List Bool)) : Type 0 where
  pub unit : now.unit ≡ first.unit
  pub library : now.library ≡ first.library
  pub seed : now.seed ≡ first.seed
  pub steps : now.steps ≡ first.steps + i
  pub shows : (rest : List (List Bool)) → ShowsFrom first.library first.unit first.seed (first.steps + i) now.state (drop i events) rest → ShowsFrom first.library first.unit first.seed first.steps first.state events (lines ++ rest)

pub follows_first : (first : SimView) (events : List Event) → Follows first events 0 first []
follows_first first events =
    let z : first.steps + 0 ≡ first.steps = omega arith in
    record {
      unit = refl;
      library = refl;
      seed = refl;
      steps = sym z;
      shows = λ rest h.
          let P : ℕ → Type 0 = λ n. ShowsFrom first.library first.unit first.seed n first.state events rest in
          subst P z h;
    }

-- an event is shown at the same event of an equal view
shows_like : (first now : SimView) (i : ℕ) (e : Event) (v : Valuation) → now.unit ≡ first.unit → now.library ≡ first.library → now.seed ≡ first.seed → now.steps ≡ first.steps + i → IsSettled now.library now.unit now.seed now.steps e now.state v → IsSettled first.library first.unit first.seed (first.steps + i) e now.state v
shows_like first now i e v unit library seed steps h =
    let L : Library → Type 0 = λ z. IsSettled z now.unit now.seed now.steps e now.state v in
    let U : Module → Type 0 = λ z. IsSettled first.library z now.seed now.steps e now.state v in
    let S : ℕ → Type 0 = λ z. IsSettled first.library first.unit z now.steps e now.state v in
    let T : ℕ → Type 0 = λ z. IsSettled first.library first.unit first.seed z e now.state v in
    subst T steps (subst S seed (subst U unit (subst L library h)))

pub follows_more : (first now next : SimView) (events : List Event) (i : ℕ) (e : Event) (bits : List Bit) (line : List Bool) (lines more : List (List Bool)) → i < length events → e ≡ get_or events i e → bits ≡ outputs_of first.unit → ShowsEvent now next e bits line → more ≡ lines ++ line ∷ [] → Follows first events i now lines → Follows first events (i + 1) next more
follows_more first now next events i e bits line lines more lt is same (values, settled, shows, stepped) pushed f =
    let v = valuation values in
    let split : drop i events ≡ e ∷ drop (suc i) events = drop-cons events i e lt ∙ ap (λ y. y ∷ drop (suc i) events) (sym is) in
    let place : drop (i + 1) events ≡ drop (suc i) events = ap (λ k. drop k events) (add-one i) in
    let count : first.steps + (i + 1) ≡ first.steps + i + 1 = omega arith in
    let state : next.state ≡ sim_stepped first.unit first.seed (first.steps + i) e v now.state =
    ap (λ (z : SimView). z.state) stepped ∙ ap (λ z. sim_stepped z now.seed now.steps e v now.state) f.unit ∙ ap (λ z. sim_stepped first.unit z now.steps e v now.state) f.seed ∙ ap (λ z. sim_stepped first.unit first.seed z e v now.state) f.steps in
    record {
      unit = ap (λ (z : SimView). z.unit) stepped ∙ f.unit;
      library = ap (λ (z : SimView). z.library) stepped ∙ f.library;
      seed = ap (λ (z : SimView). z.seed) stepped ∙ f.seed;
      steps = ap (λ (z : SimView). z.steps) stepped ∙ ap (λ n. n + 1) f.steps ∙ sym count;
      shows = λ rest h.
          let N : ℕ → Type 0 = λ n. ShowsFrom first.library first.unit first.seed n next.state (drop (i + 1) events) rest in
          let S : SimLook → Type 0 = λ z. ShowsFrom first.library first.unit first.seed (first.steps + i + 1) z (drop (i + 1) events) rest in
          let D : List Event → Type 0 = λ l. ShowsFrom first.library first.unit first.seed (first.steps + i + 1) (sim_stepped first.unit first.seed (first.steps + i) e v now.state) l rest in
          let later = subst D place (subst S state (subst N count h)) in
          let here = shows_like first now i e v f.unit f.library f.seed f.steps settled in
          let E : List Event → Type 0 = λ l. ShowsFrom first.library first.unit first.seed (first.steps + i) now.state l (line ∷ rest) in
          let whole = f.shows (line ∷ rest) (subst E (sym split) (v, rest, here, ap (λ l. l ∷ rest) (shows ∙ ap (values_of v) same), later)) in
          let J : List (List Bool) → Type 0 = λ l. ShowsFrom first.library first.unit first.seed first.steps first.state events l in
          subst J (sym (ap (λ l. l ++ rest) pushed ∙ append_assoc lines (line ∷ []) rest)) whole;
    }

nothing_left : {X : Type 0} (xs : List X) (i : ℕ) → length xs ≤ i → drop i xs ≡ []
nothing_left [] zero h = refl
nothing_left [] (suc i) h = refl
nothing_left (x ∷ xs) zero h = absurd (omega (arith, h))
nothing_left (x ∷ xs) (suc i) h = nothing_left xs i (omega (arith, h))

end_nothing : {X : Type 0} (xs : List X) → xs ++ [] ≡ xs
end_nothing [] = refl
end_nothing (x ∷ xs) = ap (λ l. x ∷ l) (end_nothing xs)

pub follows_all : (first now : SimView) (events : List Event) (i : ℕ) (lines : List (List Bool)) → length events ≤ i → Follows first events i now lines → ShowsFrom first.library first.unit first.seed first.steps first.state events lines
follows_all first now events i lines end f =
    let E : List Event → Type 0 = λ l. ShowsFrom first.library first.unit first.seed (first.steps + i) now.state l [] in
    let J : List (List Bool) → Type 0 = λ l. ShowsFrom first.library first.unit first.seed first.steps first.state events l in
    subst J (end_nothing lines) (f.shows [] (subst E (sym (nothing_left events i end)) refl))

pub inputs_there : (events : List Event) (i : ℕ) (e : Event) (first now : Module) → i < length events → e ≡ get_or events i e → now ≡ first → HaveInputs first events → HasInputs now e
inputs_there events i e first now lt is same all =
    let P : Module → Type 0 = λ m. HasInputs m e in
    subst P (sym same) (all i e (slice_get-get_or events i e lt ∙ ap Some (sym is)))

pub below_like : (first now : Module) (n : ℕ) → now ≡ first → n < first.nets → n < now.nets
below_like first now n same lt =
    let P : Module → Type 0 = λ m. n < m.nets in
    subst P (sym same) lt

-- lines that are shown from the view at the start
pub lines_shown : (lib : Library) (m : Module) (seed : ℕ) (sim : SimView) (events part : List Event) (lines : List (List Bool)) → sim ≡ first_view m lib seed → part ≡ events → ShowsFrom sim.library sim.unit sim.seed sim.steps sim.state part lines → IsShown lib m seed events lines
lines_shown lib m seed sim events part lines same all shows =
    let P : SimView → Type 0 = λ s. ShowsFrom s.library s.unit s.seed s.steps s.state part lines in
    let Q : List Event → Type 0 = λ l. ShowsFrom lib m seed 0 (sim_start lib m seed) l lines in
    is_shown lib m seed events lines (subst Q all (subst P same shows))
