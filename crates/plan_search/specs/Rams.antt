-- The steps over levels, folds, variants and RAMs.
use Rattle.std.specs.Prelude.{ℕ, ◌+◌, ◌&&◌, cond, Option, Some, None, List, [], ◌∷◌, fold, length}
use Rattle.lib_core.specs.declared.library.Library.{Library}
use Rattle.lib_core.specs.declared.library.RamKind.{RamKind}
use Rattle.lib_core.specs.declared.library.Variant.{Variant}
use Rattle.net_core.specs.declared.mems.Mem.{Mem}
use Rattle.net_core.specs.declared.mems.MemJob.{MemJob}
use Rattle.net_core.specs.declared.mems.Style.{Style}
use Rattle.geom_core.specs.declared.candidates.Candidate.TheVariants.{Registers}
use Rattle.fit_rules.specs.declared.plans.Plan.{Plan}
use Rattle.fit_rules.specs.declared.spots.Spot.{Spot}
use Rattle.fit_rules.specs.Candidates.{tuples, write_choices, below}
use Rattle.fit_rules.specs.Rules.{few_ports, is_aligned, style_allows, registers_fit}
use Rattle.fit_cost.specs.Points.{registers_points}
use Rattle.plan_search.specs.Choice.{offer}
use Rattle.plan_search.specs.Steps.{at_groups}

-- the best after all candidates at one spot
abbrev pub at_spot : MemJob → Variant → Spot → Option Plan → Option Plan
at_spot job v s best = fold (at_groups job v s) best (tuples (write_choices job.mem v))

abbrev pub at_level : MemJob → Variant → ℕ → ℕ → ℕ → Option Plan → ℕ → Option Plan
at_level job v ram n f best l = at_spot job v (record { ram = ram; variant = n; fold = f; level = l }) best

abbrev pub at_fold : MemJob → Variant → ℕ → ℕ → Option Plan → ℕ → Option Plan
at_fold job v ram n best f = fold (at_level job v ram n f) best (below (length v.widths))

abbrev pub at_folds : MemJob → Variant → ℕ → ℕ → Option Plan → Option Plan
at_folds job v ram n best = fold (at_fold job v ram n) best (below 7)

-- f after each item and its number, from a number on
abbrev pub fold_at : {X B : Type 0} → (B → ℕ → X → B) → B → ℕ → List X → B
fold_at step b n [] = b
fold_at step b n (x ∷ xs) = fold_at step (step b n x) (n + 1) xs

abbrev pub at_variant_number : MemJob → ℕ → Option Plan → ℕ → Variant → Option Plan
at_variant_number job ram best n v = at_folds job v ram n best

abbrev pub at_variants : MemJob → ℕ → Option Plan → RamKind → Option Plan
at_variants job ram best k = fold_at (at_variant_number job ram) best 0 k.variants

abbrev pub at_ram : MemJob → Style → Option Plan → ℕ → RamKind → Option Plan
at_ram job style best ram k = cond (style_allows style k) (at_variants job ram best k) best

abbrev pub at_rams : MemJob → Style → Library → Option Plan → Option Plan
at_rams job style lib best = fold_at (at_ram job style) best 0 lib.rams

abbrev pub at_library : MemJob → Style → Library → Option Plan → Option Plan
at_library job style lib best = cond (few_ports job.mem && is_aligned job.mem) (at_rams job style lib best) best

-- the best after the registers, the last candidate
abbrev pub with_registers : Mem → Style → Option Plan → Option Plan
with_registers m style best = offer best Registers (cond (registers_fit m style) (Some (registers_points m)) None)

-- A candidate that costs more than the registers is never the best, so the search may begin as if it had one that costs one
-- point more.
abbrev pub above_registers : Mem → Style → Option Plan
above_registers m style = cond (registers_fit m style) (Some (record { candidate = Registers; points = registers_points m + 1 })) None
