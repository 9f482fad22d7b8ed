-- The traces of seeds that follow each other.
use Rattle.std.proofs.Common.{◌≡◌, ℕ, zero, suc, ◌+◌, ◌-◌, ◌/◌, ◌≤◌, Bool, inl, inr, List, [], ◌∷◌, ◌++◌, Some, refl, sym, subst, arith, length-append}
use Rattle.std.specs.Prelude.{slice_get, Result, Ok, IfOk}
use Rattle.std.proofs.lemmas.Option.{same_Some}
use Rattle.lib_core.specs.declared.library.Library.{Library}
use Rattle.net_core.specs.declared.bits.Event.{Event}
use Rattle.net_core.specs.declared.modules.Module.{Module}
use Rattle.net_core.proofs.Basics.{get_joined}
use Rattle.picked_run.specs.PickedRuns.{IsShown}
use Rattle.cycle_sim.specs.Traces.{AreShown, IsJob}

module _ (lib : Library) (m : Module) (events : List Event) where
  pub joined_shown : (first low high : ℕ) (front back all : List (List (List Bool))) → AreShown lib m events first low front → AreShown lib m events (first + low) high back → all ≡ front ++ back → AreShown lib m events first (low + high) all
  joined_shown first low high front back all a b e =
      let P : List (List (List Bool)) → Type 0 = λ l. AreShown lib m events first (low + high) l in
      subst P (sym e) (record {
        count = (let joined = length-append front back in let one = a.count in let two = b.count in omega (arith, joined, one, two));
        each = λ k outs h. elim (get_joined front back k outs h) [
          | inl g ↦ a.each k outs g
          | inr (j, at, g) ↦
              let one = a.count in
              let place : first + low + j ≡ first + k = omega (arith, at, one) in
              let Q : ℕ → Type 0 = λ seed. IsShown lib m seed events outs in
              subst Q place (b.each j outs g)
        ];
      })

  pub halves_shown : (first low count : ℕ) (front back all : List (List (List Bool))) → low ≤ count → AreShown lib m events first low front → AreShown lib m events (first + low) (count - low) back → all ≡ front ++ back → AreShown lib m events first count all
  halves_shown first low count front back all le a b e =
      let z : low + (count - low) ≡ count = omega (arith, le) in
      let P : ℕ → Type 0 = λ n. AreShown lib m events first n all in
      subst P z (joined_shown first low (count - low) front back all a b e)

  pub one_shown : (seed : ℕ) (outs : List (List Bool)) → IsShown lib m seed events outs → AreShown lib m events seed 1 (outs ∷ [])
  one_shown seed outs is = record {
    count = refl;
    each = λ k x h. only k x h;
  }
    where
      only : (k : ℕ) (x : List (List Bool)) → slice_get (outs ∷ []) k ≡ Some x → IsShown lib m (seed + k) events x
      only zero x h =
          let z : seed ≡ seed + 0 = omega arith in
          let P : ℕ → Type 0 = λ n. IsShown lib m n events outs in
          let Q : List (List Bool) → Type 0 = λ l. IsShown lib m (seed + 0) events l in
          subst Q (same_Some outs x h) (subst P z is)
      only (suc k) x h = cc

  pub none_shown : (first : ℕ) → AreShown lib m events first 0 []
  none_shown first = record { count = refl; each = λ k x h. cc }

  pub more_shown : (first i : ℕ) (traces next : List (List (List Bool))) (outs : List (List Bool)) → AreShown lib m events first i traces → IsShown lib m (first + i) events outs → next ≡ traces ++ outs ∷ [] → AreShown lib m events first (i + 1) next
  more_shown first i traces next outs a is e = joined_shown first i 1 traces (outs ∷ []) next a (one_shown (first + i) outs is) e

pub part_job : (lib : Library) (m : Module) (events : List Event) (workers first count some start many : ℕ) → IsJob lib m events workers first count → 1 ≤ some → start + many ≤ first + count → IsJob lib m events some start many
part_job lib m events workers first count some start many job is within = record {
  some = is;
  runs = job.runs;
  few = job.few;
  inputs = job.inputs;
  seeds = (let below = job.seeds in omega (arith, below, within));
}

pub ok_at : {T E : Type 0} (r : Result T E) (x : T) (P : T → Type 0) → r ≡ Ok x → IfOk r P → P x
ok_at r x P e h = subst (λ z. IfOk z P) e h

pub two_halves : (lib : Library) (m : Module) (events : List Event) (first count : ℕ) (front back all : List (List (List Bool))) → AreShown lib m events first (count / 2) front → AreShown lib m events (first + count / 2) (count - count / 2) back → all ≡ front ++ back → AreShown lib m events first count all
two_halves lib m events first count front back all a b e = halves_shown lib m events first (count / 2) count front back all (omega arith) a b e
