-- The plans of the memories, gathered one by one.
use Rattle.std.proofs.Common.{◌≡◌, ℕ, suc, ◌-◌, ◌≤◌, cond, List, [], ◌∷◌, ◌++◌, map, flat_map, length, take, drop, take_all, get_or, refl, sym, ap, subst, ◌∙◌, append_assoc, arith}
use Rattle.std.specs.Prelude.{Option, Some, None, is_none, option_to_list}
use Rattle.std.specs.List.{find}
use Rattle.lib_core.specs.declared.library.Library.{Library}
use Rattle.net_core.specs.declared.mems.Mem.{Mem}
use Rattle.net_core.specs.declared.mems.MemJob.{MemJob}
use Rattle.net_core.specs.declared.modules.Module.{Module}
use Rattle.net_core.specs.declared.modules.Design.{Design}
use Rattle.net_core.specs.Style.{style_of_mem}
use Rattle.net_core.specs.Valid.{Each, MemFits}
use Rattle.fit_rules.specs.declared.plans.Plan.{Plan}
use Rattle.fit_rules.specs.Candidates.{candidates}
use Rattle.fit_rules.specs.Limits.{MemLimits, LibraryLimits, Limits}
use Rattle.fit_rules.proofs.Valid.{valid_is_within}
use Rattle.plan_search.specs.Chosen.{IsChoice}
use Rattle.plan_search.proofs.Walked.{append_nil}
use Rattle.ram_emit.specs.Plain.{IsPlainCandidate}
use Rattle.plain_plan.specs.declared.planning.Planned.{Planned}
use Rattle.plain_plan.specs.declared.planning.Planned.TheVariants.{Plans, NoFit}
use Rattle.plain_plan.specs.Chosen.{plain_score}
use Rattle.plain_plan.specs.Planned.{job_of, plan_of, Owned, owned_in, owned_by, has_none, plan_list, planned_as, planned, planned_from, no_fit, mems_of, ArePlain}
use Rattle.plain_plan.specs.Laws.{PlannedArePlain}
use Rattle.plain_plan.proofs.Scored.{scored_is_plain}
use Rattle.plain_plan.proofs.Walked.{least_is_chosen}

-- the limits under which a memory's candidates are judged
pub limits_met : (lib : Library) (x : Mem) (job : MemJob) → LibraryLimits lib → MemFits x → job.mem ≡ x → Limits job lib
limits_met lib x job limits fits e = record { memory = subst MemLimits (sym e) (valid_is_within x fits); library = limits }

-- a memory of a module
abbrev pub own : List ℕ → Mem → Owned
own name x = record { module_name = name; mem = x }

pub none_left : (lib : Library) (plans : List Plan) → planned_from lib plans [] ≡ Plans plans
unfolding planned_from
none_left lib plans = ap (λ p. Plans p) (append_nil plans)

-- by whether the first memory has a plan
abbrev by_plan : (lib : Library) (plans more : List Plan) (o : Owned) (found : Option Owned) (q : Option Plan) → Planned
by_plan lib plans more o found q = planned_as (cond (is_none q) (Some o) found) (plans ++ (option_to_list q ++ more))

pub next_planned : (lib : Library) (plans : List Plan) (o : Owned) (os : List Owned) (p : Plan) → plan_of lib o.mem ≡ Some p → planned_from lib plans (o ∷ os) ≡ planned_from lib (plans ++ p ∷ []) os
unfolding planned_from
next_planned lib plans o os p e =
    ap (by_plan lib plans (flat_map (plan_list lib) os) o (find (has_none lib) os)) e
    ∙ ap (planned_as (find (has_none lib) os)) (sym (append_assoc plans (p ∷ []) (flat_map (plan_list lib) os)))

pub next_unfit : (lib : Library) (plans : List Plan) (o : Owned) (os : List Owned) → plan_of lib o.mem ≡ None → planned_from lib plans (o ∷ os) ≡ NoFit o.module_name o.mem.name
unfolding planned_from
next_unfit lib plans o os e = ap (by_plan lib plans (flat_map (plan_list lib) os) o (find (has_none lib) os)) e

-- the memories of a module, then those of others
abbrev pub then_from : Library → Planned → List Owned → Planned
then_from lib (Plans plans) os = planned_from lib plans os
then_from lib (NoFit a b) os = NoFit a b

join_first : (lib : Library) (plans : List Plan) (x : Owned) (xs ys : List Owned) (q : Option Plan) → plan_of lib x.mem ≡ q → ((ps : List Plan) → planned_from lib ps (xs ++ ys) ≡ then_from lib (planned_from lib ps xs) ys) → planned_from lib plans (x ∷ (xs ++ ys)) ≡ then_from lib (planned_from lib plans (x ∷ xs)) ys
join_first lib plans x xs ys None e rest = next_unfit lib plans x (xs ++ ys) e ∙ ap (λ p. then_from lib p ys) (sym (next_unfit lib plans x xs e))
join_first lib plans x xs ys (Some p) e rest =
    next_planned lib plans x (xs ++ ys) p e ∙ (rest (plans ++ p ∷ []) ∙ ap (λ p. then_from lib p ys) (sym (next_planned lib plans x xs p e)))

joined : (lib : Library) (plans : List Plan) (xs ys : List Owned) → planned_from lib plans (xs ++ ys) ≡ then_from lib (planned_from lib plans xs) ys
joined lib plans [] ys = ap (λ p. then_from lib p ys) (sym (none_left lib plans))
joined lib plans (x ∷ xs) ys = join_first lib plans x xs ys (plan_of lib x.mem) refl (λ ps. joined lib ps xs ys)

pub module_planned : (lib : Library) (plans more : List Plan) (m : Module) (ms : List Module) → Plans more ≡ planned_from lib plans (owned_in m) → planned_from lib plans (owned_by (m ∷ ms)) ≡ planned_from lib more (owned_by ms)
module_planned lib plans more m ms e = joined lib plans (owned_in m) (owned_by ms) ∙ ap (λ p. then_from lib p (owned_by ms)) (sym e)

pub module_unfit : (lib : Library) (plans : List Plan) (m : Module) (ms : List Module) (a b : List ℕ) → NoFit a b ≡ planned_from lib plans (owned_in m) → planned_from lib plans (owned_by (m ∷ ms)) ≡ NoFit a b
module_unfit lib plans m ms a b e = joined lib plans (owned_in m) (owned_by ms) ∙ ap (λ p. then_from lib p (owned_by ms)) (sym e)

pub from_none : (lib : Library) (ms : List Module) → planned_from lib [] (owned_by ms) ≡ planned_as (find (has_none lib) (owned_by ms)) (flat_map (plan_list lib) (owned_by ms))
unfolding planned_from
from_none lib ms = refl

tail_is : {X : Type 0} (x : X) (xs : List X) → take (length (x ∷ xs) - 1) xs ≡ xs
tail_is x xs = take_all (length (x ∷ xs) - 1) xs (omega arith)

-- the plans of the first memories of a module, and the memories that are left
pub record GatheredIn (lib : Library) (m : Module) (before plans : List Plan) (xs : List Mem) : Type 0 where
  pub planned : planned_from lib plans (map (own m.name) xs) ≡ planned_from lib before (owned_in m)
  pub fits : Each xs MemFits

pub begin_in : (lib : Library) (m : Module) (before : List Plan) (xs : List Mem) → xs ≡ m.mems → Each m.mems MemFits → GatheredIn lib m before before xs
begin_in lib m before xs e fits = record {
  planned = ap (λ l. planned_from lib before (map (own m.name) l)) e;
  fits = subst (λ l. Each l MemFits) (sym e) fits;
}

pub first_fits : (xs : List Mem) (x : Mem) → 1 ≤ length xs → x ≡ get_or xs 0 x → Each xs MemFits → MemFits x
first_fits [] x some e fits = absurd (omega (arith, some))
first_fits (y ∷ xs) x some e fits = subst MemFits (sym e) (fits 0 y refl)

pub next_in : (lib : Library) (m : Module) (before plans new : List Plan) (xs : List Mem) (x : Mem) (p : Plan) → 1 ≤ length xs → x ≡ get_or xs 0 x → plan_of lib x ≡ Some p → new ≡ plans ++ p ∷ [] → GatheredIn lib m before plans xs → GatheredIn lib m before new (take (length xs - 1) (drop 1 xs))
next_in lib m before plans new [] x p some e there put g = absurd (omega (arith, some))
next_in lib m before plans new (y ∷ xs) x p some e there put g =
    let here : plan_of lib y ≡ Some p = ap (plan_of lib) (sym e) ∙ there in
    let whole : GatheredIn lib m before new xs = record {
      planned = ap (λ l. planned_from lib l (map (own m.name) xs)) put ∙ (sym (next_planned lib plans (own m.name y) (map (own m.name) xs) p here) ∙ g.planned);
      fits = λ i z at. g.fits (suc i) z at;
    } in
    subst (GatheredIn lib m before new) (sym (tail_is y xs)) whole

pub all_in : (lib : Library) (m : Module) (before plans : List Plan) (xs : List Mem) → length xs ≤ 0 → GatheredIn lib m before plans xs → Plans plans ≡ planned_from lib before (owned_in m)
all_in lib m before plans [] none g = sym (none_left lib plans) ∙ g.planned
all_in lib m before plans (x ∷ xs) none g = absurd (omega (arith, none))

pub unfit_in : (lib : Library) (m : Module) (before plans : List Plan) (xs : List Mem) (x : Mem) → 1 ≤ length xs → x ≡ get_or xs 0 x → plan_of lib x ≡ None → GatheredIn lib m before plans xs → no_fit m x ≡ planned_from lib before (owned_in m)
unfit_in lib m before plans [] x some e none g = absurd (omega (arith, some))
unfit_in lib m before plans (y ∷ xs) x some e none g =
    let here : plan_of lib y ≡ None = ap (plan_of lib) (sym e) ∙ none in
    ap (no_fit m) e ∙ (sym (next_unfit lib plans (own m.name y) (map (own m.name) xs) here) ∙ g.planned)

-- the plans of the first modules, and the modules that are left
pub record GatheredBy (lib : Library) (d : Design) (plans : List Plan) (ms : List Module) : Type 0 where
  pub planned : planned_from lib plans (owned_by ms) ≡ planned lib d
  pub fits : Each ms (λ m. Each m.mems MemFits)

pub begin_by : (lib : Library) (d : Design) (plans : List Plan) (ms : List Module) → plans ≡ [] → ms ≡ d.modules → Each d.modules (λ m. Each m.mems MemFits) → GatheredBy lib d plans ms
begin_by lib d plans ms none e fits = record {
  planned = (λ i. planned_from lib (none i) (owned_by (e i))) ∙ from_none lib d.modules;
  fits = subst (λ l. Each l (λ m. Each m.mems MemFits)) (sym e) fits;
}

pub first_module_fits : (ms : List Module) (m : Module) → 1 ≤ length ms → m ≡ get_or ms 0 m → Each ms (λ m. Each m.mems MemFits) → Each m.mems MemFits
first_module_fits [] m some e fits = absurd (omega (arith, some))
first_module_fits (n ∷ ms) m some e fits = subst (λ (k : Module). Each k.mems MemFits) (sym e) (fits 0 n refl)

pub next_by : (lib : Library) (d : Design) (plans more : List Plan) (ms : List Module) (m : Module) → 1 ≤ length ms → m ≡ get_or ms 0 m → Plans more ≡ planned_from lib plans (owned_in m) → GatheredBy lib d plans ms → GatheredBy lib d more (take (length ms - 1) (drop 1 ms))
next_by lib d plans more [] m some e there g = absurd (omega (arith, some))
next_by lib d plans more (n ∷ ms) m some e there g =
    let here : Plans more ≡ planned_from lib plans (owned_in n) = there ∙ ap (λ k. planned_from lib plans (owned_in k)) e in
    let whole : GatheredBy lib d more ms = record {
      planned = sym (module_planned lib plans more n ms here) ∙ g.planned;
      fits = λ i k at. g.fits (suc i) k at;
    } in
    subst (GatheredBy lib d more) (sym (tail_is n ms)) whole

pub all_by : (lib : Library) (d : Design) (plans : List Plan) (ms : List Module) → length ms ≤ 0 → GatheredBy lib d plans ms → Plans plans ≡ planned lib d
all_by lib d plans [] none g = sym (none_left lib plans) ∙ g.planned
all_by lib d plans (m ∷ ms) none g = absurd (omega (arith, none))

pub unfit_by : (lib : Library) (d : Design) (plans : List Plan) (ms : List Module) (m : Module) (a b : List ℕ) → 1 ≤ length ms → m ≡ get_or ms 0 m → NoFit a b ≡ planned_from lib plans (owned_in m) → GatheredBy lib d plans ms → NoFit a b ≡ planned lib d
unfit_by lib d plans [] m a b some e there g = absurd (omega (arith, some))
unfit_by lib d plans (n ∷ ms) m a b some e there g =
    let here : NoFit a b ≡ planned_from lib plans (owned_in n) = there ∙ ap (λ k. planned_from lib plans (owned_in k)) e in
    sym (module_unfit lib plans n ms a b here) ∙ g.planned

-- each plan is plain for its memory
plan_is_plain : (lib : Library) (x : Mem) (p : Plan) → plan_of lib x ≡ Some p → IsPlainCandidate lib (job_of x) p.candidate
plan_is_plain lib x p e =
    let job : MemJob = job_of x in
    let score = plain_score job lib (style_of_mem x) in
    let chosen = subst (IsChoice score (candidates x lib)) e (least_is_chosen job lib (style_of_mem x)) in
    let fit = (scored_is_plain job lib (style_of_mem x) p.candidate p.points).0 chosen.fits in
    fit.plain

abbrev mem_of : Owned → Mem
mem_of o = o.mem

plans_same : (a b : List Plan) → Plans a ≡ Plans b → a ≡ b
plans_same a b e = cc

-- the plans behind some others are plain for their memories
abbrev HasPlain : Library → List Plan → List Plan → List Owned → Type 0
HasPlain lib before plans os = (more : List Plan) × (plans ≡ before ++ more) × ArePlain lib (map mem_of os) more

no_plans : (a b : List ℕ) (plans : List Plan) → NoFit a b ≡ Plans plans → ⊥
no_plans a b plans e = cc

plain_first : (lib : Library) (before plans : List Plan) (o : Owned) (os : List Owned) (q : Option Plan) → plan_of lib o.mem ≡ q → planned_from lib before (o ∷ os) ≡ Plans plans → ((ps : List Plan) → planned_from lib ps os ≡ Plans plans → HasPlain lib ps plans os) → HasPlain lib before plans (o ∷ os)
plain_first lib before plans o os None h e rest = absurd (no_plans o.module_name o.mem.name plans (sym (next_unfit lib before o os h) ∙ e))
plain_first lib before plans o os (Some p) h e rest =
    let (more, all, plain) = rest (before ++ p ∷ []) (sym (next_planned lib before o os p h) ∙ e) in
    (p ∷ more, all ∙ append_assoc before (p ∷ []) more, (plan_is_plain lib o.mem p h, plain))

plain_from : (lib : Library) (before plans : List Plan) (os : List Owned) → planned_from lib before os ≡ Plans plans → HasPlain lib before plans os
plain_from lib before plans [] e = ([], sym (plans_same before plans (sym (none_left lib before) ∙ e)) ∙ sym (append_nil before), tt)
plain_from lib before plans (o ∷ os) e = plain_first lib before plans o os (plan_of lib o.mem) refl e (λ ps h. plain_from lib ps plans os h)

map_joined : {X Y : Type 0} (f : X → Y) (xs ys : List X) → map f (xs ++ ys) ≡ map f xs ++ map f ys
map_joined f [] ys = refl
map_joined f (x ∷ xs) ys = ap (λ t. f x ∷ t) (map_joined f xs ys)

own_mems : (name : List ℕ) (xs : List Mem) → map mem_of (map (λ x. record { module_name = name; mem = x }) xs) ≡ xs
own_mems name [] = refl
own_mems name (x ∷ xs) = ap (λ t. x ∷ t) (own_mems name xs)

mems_owned : (ms : List Module) → map mem_of (owned_by ms) ≡ mems_of ms
mems_owned [] = refl
mems_owned (m ∷ ms) = map_joined mem_of (owned_in m) (owned_by ms) ∙ (ap (λ t. t ++ map mem_of (owned_by ms)) (own_mems m.name m.mems) ∙ ap (λ t. m.mems ++ t) (mems_owned ms))

pub planned_are_plain : PlannedArePlain
planned_are_plain lib d plans e =
    let (more, all, plain) = plain_from lib [] plans (owned_by d.modules) (from_none lib d.modules ∙ e) in
    let turned = subst (λ xs. ArePlain lib xs more) (mems_owned d.modules) plain in
    subst (ArePlain lib (mems_of d.modules)) (sym all) turned
