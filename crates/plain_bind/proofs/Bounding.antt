-- What the loops over memories and over modules keep.
use Rattle.std.proofs.Common.{◌≡◌, ℕ, suc, ◌-◌, ◌≤◌, List, [], ◌∷◌, ◌++◌, length, take, drop, take_all, get_or, refl, sym, ap, subst, ◌∙◌, append_assoc, arith}
use Rattle.lib_core.specs.declared.library.Library.{Library}
use Rattle.net_core.specs.declared.mems.Mem.{Mem}
use Rattle.net_core.specs.declared.modules.Module.{Module}
use Rattle.net_core.specs.declared.modules.Design.{Design}
use Rattle.net_core.specs.Valid.{Each, MemFits}
use Rattle.fit_rules.specs.declared.plans.Plan.{Plan}
use Rattle.plan_search.proofs.Walked.{append_nil}
use Rattle.plain_plan.specs.Planned.{mems_of, ArePlain}
use Rattle.plain_plan.proofs.Roomy as roomy
use Rattle.plain_bind.specs.declared.binding.Made.{Made}
use Rattle.plain_bind.specs.Bound.{bound_module, bound_modules, bound, made_with, made_by}

tail_is : {X : Type 0} (x : X) (xs : List X) → take (length (x ∷ xs) - 1) xs ≡ xs
tail_is x xs = take_all (length (x ∷ xs) - 1) xs (omega arith)

-- the cells of the first memories are made; those of the others, with their plans, are left
pub record Making (lib : Library) (front : List ℕ) (start : Made) (all : List Mem) (plans : List Plan) (made : Made) (xs : List Mem) (ps : List Plan) : Type 0 where
  pub same : made_by lib front made xs ps ≡ made_by lib front start all plans
  pub fits : Each xs MemFits
  pub plain : ArePlain lib xs ps

pub next_making : (lib : Library) (front : List ℕ) (start : Made) (all : List Mem) (plans : List Plan) (made new : Made) (xs : List Mem) (x : Mem) (ps : List Plan) (p : Plan) → 1 ≤ length xs → x ≡ get_or xs 0 x → 1 ≤ length ps → p ≡ get_or ps 0 p → new ≡ made_with lib front made x p.candidate → Making lib front start all plans made xs ps → Making lib front start all plans new (take (length xs - 1) (drop 1 xs)) (take (length ps - 1) (drop 1 ps))
next_making lib front start all plans made new [] x ps p some e some_plans f is m = absurd (omega (arith, some))
next_making lib front start all plans made new (y ∷ xs) x [] p some e some_plans f is m = absurd m.plain
next_making lib front start all plans made new (y ∷ xs) x (q ∷ ps) p some e some_plans f is m =
    let here : new ≡ made_with lib front made y q.candidate = is ∙ (λ i. made_with lib front made (e i) (f i).candidate) in
    let whole : Making lib front start all plans new xs ps = record {
      same = ap (λ n. made_by lib front n xs ps) here ∙ m.same;
      fits = λ i z at. m.fits (suc i) z at;
      plain = m.plain.1;
    } in
    subst (λ ys. Making lib front start all plans new ys (take (length (q ∷ ps) - 1) ps)) (sym (tail_is y xs)) (subst (Making lib front start all plans new xs) (sym (tail_is q ps)) whole)

pub all_made : (lib : Library) (front : List ℕ) (start : Made) (all : List Mem) (plans : List Plan) (made : Made) (xs : List Mem) (ps : List Plan) → length xs ≤ 0 → Making lib front start all plans made xs ps → made ≡ made_by lib front start all plans
all_made lib front start all plans made [] ps none m = m.same
all_made lib front start all plans made (x ∷ xs) ps none m = absurd (omega (arith, none))

pub run_out : (lib : Library) (front : List ℕ) (start : Made) (all : List Mem) (plans : List Plan) (made : Made) (xs : List Mem) (ps : List Plan) → length ps ≤ 0 → Making lib front start all plans made xs ps → made ≡ made_by lib front start all plans
run_out lib front start all plans made [] ps none m = m.same
run_out lib front start all plans made (x ∷ xs) [] none m = m.same
run_out lib front start all plans made (x ∷ xs) (p ∷ ps) none m = absurd (omega (arith, none))

-- the first modules are bound; the others, with their plans, are left
pub record Bounding (lib : Library) (d : Design) (plans : List Plan) (so_far ms : List Module) (ps : List Plan) : Type 0 where
  pub same : so_far ++ bound_modules lib ms ps ≡ bound_modules lib d.modules plans
  pub fits : Each ms (λ m. Each m.mems MemFits)
  pub plain : ArePlain lib (mems_of ms) ps

pub begin_bounding : (lib : Library) (d : Design) (plans : List Plan) (so_far ms : List Module) → so_far ≡ [] → ms ≡ d.modules → Each d.modules (λ m. Each m.mems MemFits) → ArePlain lib (mems_of d.modules) plans → Bounding lib d plans so_far ms plans
begin_bounding lib d plans so_far ms none e fits plain = record {
  same = λ i. none i ++ bound_modules lib (e i) plans;
  fits = subst (λ l. Each l (λ m. Each m.mems MemFits)) (sym e) fits;
  plain = subst (λ l. ArePlain lib (mems_of l) plans) (sym e) plain;
}

pub first_fits : (lib : Library) (d : Design) (plans : List Plan) (so_far : List Module) (m : Module) (ms : List Module) (ps : List Plan) → Bounding lib d plans so_far (m ∷ ms) ps → Each m.mems MemFits
first_fits lib d plans so_far m ms ps b = b.fits 0 m refl

pub first_plain : (lib : Library) (d : Design) (plans : List Plan) (so_far : List Module) (m : Module) (ms : List Module) (ps : List Plan) → Bounding lib d plans so_far (m ∷ ms) ps → ArePlain lib m.mems ps
first_plain lib d plans so_far m ms ps b = roomy.plain_here lib m ms ps b.plain

pub enough_plans : (lib : Library) (d : Design) (plans : List Plan) (so_far : List Module) (m : Module) (ms : List Module) (ps : List Plan) → Bounding lib d plans so_far (m ∷ ms) ps → length m.mems ≤ length ps
enough_plans lib d plans so_far m ms ps b = roomy.enough_plans lib m ms ps b.plain

pub next_bounding : (lib : Library) (d : Design) (plans : List Plan) (so_far new : List Module) (m made : Module) (ms : List Module) (ps tail : List Plan) (count : ℕ) → made ≡ bound_module lib m ps → new ≡ so_far ++ made ∷ [] → count ≡ length m.mems → tail ≡ drop count ps → Bounding lib d plans so_far (m ∷ ms) ps → Bounding lib d plans new ms tail
next_bounding lib d plans so_far new m made ms ps tail count is put length_is tail_here b =
    let dropped : tail ≡ drop (length m.mems) ps = tail_here ∙ ap (λ k. drop k ps) length_is in
    let front : new ≡ so_far ++ bound_module lib m ps ∷ [] = put ∙ ap (λ n. so_far ++ n ∷ []) is in
    record {
      same = (λ i. front i ++ bound_modules lib ms (dropped i)) ∙ (append_assoc so_far (bound_module lib m ps ∷ []) (bound_modules lib ms (drop (length m.mems) ps)) ∙ b.same);
      fits = λ i k at. b.fits (suc i) k at;
      plain = subst (ArePlain lib (mems_of ms)) (sym dropped) (roomy.plain_there lib m ms ps b.plain);
    }

pub all_bound : (lib : Library) (d : Design) (plans : List Plan) (so_far : List Module) (ps : List Plan) → Bounding lib d plans so_far [] ps → record { modules = so_far } ≡ bound lib d plans
all_bound lib d plans so_far ps b = ap (λ (l : List Module). record { modules = l }) (sym (append_nil so_far) ∙ b.same)
