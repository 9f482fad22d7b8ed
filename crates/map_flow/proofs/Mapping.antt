-- From the texts of a design with plans to the mapped design.
use Rattle.std.proofs.Common.{◌≡◌, ℕ, zero, suc, List, [], ◌∷◌, map, length, Some, slice_get, arith, refl, subst, ◌∙◌, ap}
use Rattle.std.proofs.lemmas.Option.{none-some}
use Rattle.lib_core.specs.declared.library.Library.{Library}
use Rattle.net_core.specs.declared.modules.Design.{Design}
use Rattle.net_core.specs.declared.modules.Module.{Module}
use Rattle.net_core.specs.Renaming.{renamed_mem}
use Rattle.net_core.specs.Runs.{Refines, RefinementsCompose}
use Rattle.net_core.specs.Valid.{Each}
use Rattle.fit_rules.specs.declared.plans.Plan.{Plan}
use Rattle.fit_rules.specs.Limits.{LibraryLimits}
use Rattle.net_live.specs.Sound.{IsSoundDesign, SoundDesignIsLive}
use Rattle.net_same.specs.Laws.{SameDesignsRefine, SameDesignsLive}
use Rattle.net_same.specs.Same.{IsSame, AllSame, AreSame}
use Rattle.plain_plan.specs.Laws.{PlannedArePlain}
use Rattle.plain_bind.specs.Bound.{CanBind}
use Rattle.plain_bind.specs.Laws.{BoundRefines, BoundKeeps}
use Rattle.map_flow.specs.Maps.{HasPlans, HasNoMemory, bound}
use Rattle.map_flow.specs.Laws.{TextsAreMapped}

some_same : {X : Type 0} (x y : X) → Some x ≡ Some y → x ≡ y
some_same x y e = cc

-- a list as long has an item at each place
there : {X Y : Type 0} (xs : List X) (ys : List Y) (i : ℕ) (y : Y) → length ys ≡ length xs → slice_get ys i ≡ Some y → (x : X) × (slice_get xs i ≡ Some x)
there [] [] i y e h = absurd (none-some y h)
there [] (z ∷ zs) i y e h = absurd (omega (arith, e))
there (x ∷ xs) [] i y e h = absurd (none-some y h)
there (x ∷ xs) (z ∷ zs) zero y e h = (x, refl)
there (x ∷ xs) (z ∷ zs) (suc i) y e h = there xs zs i y (omega (arith, e)) h

-- the memories of a module that is the same are none where the other has none
none_left : (a b : Module) → a.mems ≡ [] → IsSame a b → HasNoMemory b
none_left a b none same = record {
  mems = same.cells.mems ∙ ap (λ xs. map (renamed_mem same.f) xs) none;
  declared = same.heads.new_declared;
  parts = same.heads.new_parts;
}

none_in : (olds news : List Module) → AllSame olds news → Each olds (λ m. m.mems ≡ []) → Each news HasNoMemory
none_in [] [] same none i b h = absurd (none-some b h)
none_in [] (y ∷ ys) same none i b h = absurd same
none_in (x ∷ xs) [] same none i b h = absurd same
none_in (x ∷ xs) (y ∷ ys) same none zero b h = subst HasNoMemory (some_same y b h) (none_left x y (none 0 x refl) same.0)
none_in (x ∷ xs) (y ∷ ys) same none (suc i) b h = none_in xs ys same.1 (λ k m at. none (suc k) m at) i b h

-- the bound design has no memories
bound_none : BoundKeeps → BoundRefines → (lib : Library) (d : Design) (plans : List Plan) → CanBind lib d plans → Each (bound lib d plans).modules (λ m. m.mems ≡ [])
bound_none keeps refines lib d plans can i new at =
    let count : length (bound lib d plans).modules ≡ length d.modules = (refines lib d plans can).count in
    let old = there d.modules (bound lib d plans).modules i new count at in
    (keeps lib d plans can i old.0 new old.1 at).mems

pub can_bind : PlannedArePlain → (lib : Library) (d : Design) (plans : List Plan) → LibraryLimits lib → IsSoundDesign lib d → HasPlans lib d plans → CanBind lib d plans
can_bind plain lib d plans limits sound has = record {
  limits = limits;
  fits = λ i m at. (sound i m at).mems;
  plain = plain lib d plans has.are;
}

pub mapped : PlannedArePlain → BoundRefines → BoundKeeps → SameDesignsRefine → SameDesignsLive → SoundDesignIsLive → RefinementsCompose → TextsAreMapped
mapped plain refines keeps same_refines same_live live compose doc lib d plans made limits means sound has texts =
    let can = can_bind plain lib d plans limits sound has in
    let new = bound lib d plans in
    let inferred = texts.inferred.design in
    let netlist = texts.netlist.design in
    let to_inferred = (same_refines lib d inferred texts.inferred.same).0 in
    let from_inferred = (same_refines lib d inferred texts.inferred.same).1 in
    let to_bound = refines lib d plans can in
    let to_netlist = (same_refines lib new netlist texts.netlist.same).0 in
    let whole = compose lib d new netlist to_bound to_netlist in
    record {
      design = d;
      means = means;
      plans = plans;
      has_plans = has;
      inferred = inferred;
      inferred_means = texts.inferred.means;
      inferred_same = texts.inferred.same;
      netlist = netlist;
      netlist_means = texts.netlist.means;
      netlist_same = texts.netlist.same;
      inferred_refines = to_inferred;
      inferred_live = same_live lib d inferred texts.inferred.same (live lib d sound);
      netlist_refines_inferred = compose lib inferred d netlist from_inferred whole;
      netlist_refines = whole;
      netlist_live = same_live lib new netlist texts.netlist.same (live lib new texts.sound);
      no_memory = none_in new.modules netlist.modules texts.netlist.same.modules (bound_none keeps refines lib d plans can);
      shapes = texts.shapes;
      reported = texts.report;
    }
