-- The cells one after the other are the module with the memories bound; and what holds of it.
use Rattle.std.proofs.Common.{◌≡◌, ℕ, zero, suc, ◌+◌, List, [], ◌∷◌, ◌++◌, length, take, drop, refl, sym, ap, subst, ◌∙◌, append_assoc}
use Rattle.std.specs.Prelude.{Some, slice_get}
use Rattle.std.specs.List.{remove}
use Rattle.std.proofs.lemmas.Option.{none-some, same_Some}
use Rattle.lib_core.specs.declared.library.Library.{Library}
use Rattle.net_core.specs.declared.mems.Mem.{Mem}
use Rattle.net_core.specs.declared.modules.Module.{Module}
use Rattle.net_core.specs.Ports.{Interface}
use Rattle.net_core.specs.Runs.{RefinesModule, interfaces}
use Rattle.net_core.specs.Simulation.{Simulates, SimulationRefines, SimulatesItself, SimulationsCompose}
use Rattle.net_core.specs.Valid.{Each, MemFits}
use Rattle.geom_core.specs.declared.candidates.Candidate.{Candidate}
use Rattle.geom_core.specs.declared.candidates.Candidate.TheVariants.{Ram, Registers}
use Rattle.fit_rules.specs.declared.plans.Plan.{Plan}
use Rattle.fit_rules.specs.Limits.{LibraryLimits, MemLimits}
use Rattle.ram_emit.specs.Plain.{IsPlainCandidate}
use Rattle.ram_emit.specs.Placing.{in_place, PlacedSimulates}
use Rattle.plan_search.proofs.Walked.{append_nil}
use Rattle.plain_plan.specs.Planned.{job_of, mems_of, ArePlain}
use Rattle.plain_plan.proofs.Roomy.{plain_here, plain_there}
use Rattle.plain_plan.proofs.Roomy as roomy
use Rattle.plain_bind.specs.declared.binding.Made.{Made}
use Rattle.plain_bind.specs.Names.{front_of}
use Rattle.plain_bind.specs.Bound.{bind_mem, bound_mems, bound_module, bound_modules, nets_for, cells_for, cells_of, nets_after, made_with, made_by}
use Rattle.plain_bind.specs.Laws.{BoundRefines, IsBound, plans_at, BoundKeeps}

pub memory_within : (x : Mem) → MemFits x → MemLimits x
memory_within x h = roomy.memory_within x h

-- the module with these cells and this number of nets, and no memory
abbrev pub with_made : Module → Made → Module
with_made m s = record m { nets = s.nets; mems = []; rams = s.rams }

abbrev pub made_of : Module → Made
made_of m = record { nets = m.nets; rams = m.rams }

abbrev BindsAs : Library → List ℕ → Module → List Mem → List Plan → Type 0
BindsAs lib front m xs ps = bound_mems lib front m xs ps ≡ with_made m (made_by lib front (made_of m) xs ps)

first_bound : (lib : Library) (front : List ℕ) (m : Module) (x : Mem) (xs : List Mem) (c : Candidate) (ps : List Plan) → m.mems ≡ x ∷ xs → IsPlainCandidate lib (job_of x) c → ((n : Module) → n.mems ≡ xs → BindsAs lib front n xs ps) → bound_mems lib front (bind_mem lib front m x c) xs ps ≡ with_made m (made_by lib front (made_with lib front (made_of m) x c) xs ps)
first_bound lib front m x xs Registers ps e plain rest = absurd plain
first_bound lib front m x xs (Ram c) ps e plain rest = rest (in_place lib m 0 x c (front ++ x.name)) (ap (λ l. remove l 0) e)

binds : (lib : Library) (front : List ℕ) (m : Module) (xs : List Mem) (ps : List Plan) → m.mems ≡ xs → ArePlain lib xs ps → BindsAs lib front m xs ps
binds lib front m [] ps e plain = λ i. record m { mems = e i }
binds lib front m (x ∷ xs) [] e plain = absurd plain
binds lib front m (x ∷ xs) (p ∷ ps) e plain = first_bound lib front m x xs p.candidate ps e plain.0 (λ n f. binds lib front n xs ps f plain.1)

pub bound_is : (lib : Library) (m : Module) (ps : List Plan) (made : Made) → ArePlain lib m.mems ps → made ≡ made_by lib (front_of m) (record { nets = m.nets; rams = m.rams }) m.mems ps → with_made m made ≡ bound_module lib m ps
bound_is lib m ps made plain e = ap (with_made m) e ∙ sym (binds lib (front_of m) m m.mems ps refl plain)

pub bound_as : (lib : Library) (m : Module) (ps : List Plan) (made : Made) (mems : List Mem) → ArePlain lib m.mems ps → made ≡ made_by lib (front_of m) (record { nets = m.nets; rams = m.rams }) m.mems ps → mems ≡ [] → record m { nets = made.nets; mems = mems; rams = made.rams } ≡ bound_module lib m ps
bound_as lib m ps made mems plain e none = (λ i. record m { nets = made.nets; mems = none i; rams = made.rams }) ∙ bound_is lib m ps made plain e

-- the cells are put behind the old ones
made_rams : (lib : Library) (front : List ℕ) (s : Made) (xs : List Mem) (ps : List Plan) → (made_by lib front s xs ps).rams ≡ s.rams ++ cells_of lib front s.nets xs ps
made_rams lib front s [] ps = sym (append_nil s.rams)
made_rams lib front s (x ∷ xs) [] = sym (append_nil s.rams)
made_rams lib front s (x ∷ xs) (p ∷ ps) =
    made_rams lib front (made_with lib front s x p.candidate) xs ps
    ∙ append_assoc s.rams (cells_for lib front s.nets x p.candidate) (cells_of lib front (s.nets + nets_for lib x p.candidate) xs ps)

made_nets : (lib : Library) (front : List ℕ) (s : Made) (xs : List Mem) (ps : List Plan) → (made_by lib front s xs ps).nets ≡ nets_after lib s.nets xs ps
made_nets lib front s [] ps = refl
made_nets lib front s (x ∷ xs) [] = refl
made_nets lib front s (x ∷ xs) (p ∷ ps) = made_nets lib front (made_with lib front s x p.candidate) xs ps

is_bound : (lib : Library) (m : Module) (ps : List Plan) → ArePlain lib m.mems ps → IsBound lib m (bound_module lib m ps) ps
is_bound lib m ps plain =
    let made : Made = made_by lib (front_of m) (made_of m) m.mems ps in
    let e : with_made m made ≡ bound_module lib m ps = sym (binds lib (front_of m) m m.mems ps refl plain) in
    let whole : IsBound lib m (with_made m made) ps = record {
      mems = refl;
      rams = made_rams lib (front_of m) (made_of m) m.mems ps;
      nets = made_nets lib (front_of m) (made_of m) m.mems ps;
      name = refl;
      attrs = refl;
      wires = refl;
      declared = refl;
      parts = refl;
      combs = refl;
      regs = refl;
      carried = refl;
    } in
    subst (λ n. IsBound lib m n ps) e whole

-- the plans of a module
drop_none : {X : Type 0} (n : ℕ) → ◌≡◌ {A = List X} (drop n []) []
drop_none zero = refl
drop_none (suc n) = refl

drop_joined : {X Y : Type 0} (a b : List X) (ps : List Y) → drop (length b) (drop (length a) ps) ≡ drop (length (a ++ b)) ps
drop_joined [] b ps = refl
drop_joined (x ∷ a) b [] = drop_none (length b)
drop_joined (x ∷ a) b (p ∷ ps) = drop_joined a b ps

-- the module of a number, with its plans
record BoundAt (lib : Library) (ms : List Module) (ps : List Plan) (i : ℕ) (old new : Module) : Type 0 where
  pub is : bound_module lib old (drop (length (mems_of (take i ms))) ps) ≡ new
  pub plain : ArePlain lib old.mems (drop (length (mems_of (take i ms))) ps)

bound_at : (lib : Library) (ms : List Module) (ps : List Plan) (i : ℕ) (old new : Module) → ArePlain lib (mems_of ms) ps → slice_get ms i ≡ Some old → slice_get (bound_modules lib ms ps) i ≡ Some new → BoundAt lib ms ps i old new
bound_at lib [] ps i old new plain e f = absurd (none-some old e)
bound_at lib (m ∷ ms) ps zero old new plain e f =
    let same : m ≡ old = same_Some m old e in
    record {
      is = ap (λ n. bound_module lib n ps) (sym same) ∙ same_Some (bound_module lib m ps) new f;
      plain = subst (λ n. ArePlain lib n.mems ps) same (plain_here lib m ms ps plain);
    }
bound_at lib (m ∷ ms) ps (suc i) old new plain e f =
    let rest = bound_at lib ms (drop (length m.mems) ps) i old new (plain_there lib m ms ps plain) e f in
    let moved = drop_joined m.mems (mems_of (take i ms)) ps in
    record {
      is = ap (bound_module lib old) (sym moved) ∙ rest.is;
      plain = subst (ArePlain lib old.mems) moved rest.plain;
    }

pub bound_keeps : BoundKeeps
bound_keeps lib d plans can i old new e f =
    let at = bound_at lib d.modules plans i old new can.plain e f in
    subst (λ n. IsBound lib old n (plans_at d plans i)) at.is (is_bound lib old (plans_at d plans i) at.plain)

-- each step simulates
module _ (placed : PlacedSimulates) (itself : SimulatesItself) (compose : SimulationsCompose) (lib : Library) (limits : LibraryLimits lib) (modules : List Interface) (front : List ℕ) where
  first_simulates : (m : Module) (x : Mem) (xs : List Mem) (c : Candidate) (ps : List Plan) → m.mems ≡ x ∷ xs → MemFits x → IsPlainCandidate lib (job_of x) c → ((n : Module) → n.mems ≡ xs → Simulates lib modules [] n (bound_mems lib front n xs ps)) → Simulates lib modules [] m (bound_mems lib front (bind_mem lib front m x c) xs ps)
  first_simulates m x xs Registers ps e fits plain rest = absurd plain
  first_simulates m x xs (Ram c) ps e fits plain rest =
      let next : Module = in_place lib m 0 x c (front ++ x.name) in
      let here = placed lib modules m 0 (job_of x) c (front ++ x.name) (record { limits = limits; there = ap (λ l. slice_get l 0) e; valid = fits; plain = plain }) in
      compose lib modules [] [] m next (bound_mems lib front next xs ps) here (rest next (ap (λ l. remove l 0) e))

  simulates : (m : Module) (xs : List Mem) (ps : List Plan) → m.mems ≡ xs → Each xs MemFits → ArePlain lib xs ps → Simulates lib modules [] m (bound_mems lib front m xs ps)
  simulates m [] ps e fits plain = itself lib modules [] m
  simulates m (x ∷ xs) [] e fits plain = absurd plain
  simulates m (x ∷ xs) (p ∷ ps) e fits plain =
      first_simulates m x xs p.candidate ps e (fits 0 x refl) plain.0 (λ n f. simulates n xs ps f (λ i y there. fits (suc i) y there) plain.1)

same_count : (lib : Library) (ms : List Module) (ps : List Plan) → length (bound_modules lib ms ps) ≡ length ms
same_count lib [] ps = refl
same_count lib (m ∷ ms) ps = ap suc (same_count lib ms (drop (length m.mems) ps))

pub bound_refines : PlacedSimulates → SimulatesItself → SimulationsCompose → SimulationRefines → BoundRefines
bound_refines placed itself compose refining lib d plans can = record {
  count = same_count lib d.modules plans;
  modules = λ i a b e f.
      let at = bound_at lib d.modules plans i a b can.plain e f in
      let whole = refining lib (interfaces d) [] a (bound_module lib a (plans_at d plans i)) (simulates placed itself compose lib can.limits (interfaces d) (front_of a) a a.mems (plans_at d plans i) refl (can.fits i a e) at.plain) in
      subst (RefinesModule lib (interfaces d) a) at.is whole;
}
