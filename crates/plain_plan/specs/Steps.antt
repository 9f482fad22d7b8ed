-- The steps of the search. Plain candidates have the fold 0 and the first width, and their variant has one width; the memory
-- has one write and one read.
use Rattle.std.specs.Prelude.{ℕ, Bool, cond, nat_eq, Option, Some, None, List, [], ◌∷◌, length, fold}
use Rattle.lib_core.specs.declared.library.RamKind.{RamKind}
use Rattle.lib_core.specs.declared.library.Variant.{Variant}
use Rattle.net_core.specs.declared.mems.Mem.{Mem}
use Rattle.net_core.specs.declared.mems.RdPort.{RdPort}
use Rattle.net_core.specs.declared.mems.WrPort.{WrPort}
use Rattle.geom_core.specs.declared.candidates.Candidate.{Candidate}
use Rattle.geom_core.specs.declared.candidates.ReadPlace.{ReadPlace}
use Rattle.geom_core.specs.declared.candidates.ReadPlace.TheVariants as place
use Rattle.fit_rules.specs.declared.plans.Plan.{Plan}
use Rattle.fit_rules.specs.declared.spots.Spot.{Spot}
use Rattle.fit_rules.specs.Candidates.{below, places, chosen}
use Rattle.plan_search.specs.Choice.{keep}
use Rattle.plan_search.specs.Rams.{fold_at}

abbrev pub first_spot : ℕ → ℕ → Spot
first_spot ram n = record { ram = ram; variant = n; fold = 0; level = 0 }

-- the best after the candidate with the write in this group and the read at this place
abbrev pub at_place : (Candidate → Option ℕ) → ℕ → ℕ → ℕ → Option Plan → ReadPlace → Option Plan
at_place score ram n group best p = keep score best (chosen (first_spot ram n) (group ∷ []) (p ∷ []))

-- a group as the place of the read
abbrev pub at_read_group : (Candidate → Option ℕ) → ℕ → ℕ → ℕ → Option Plan → ℕ → Option Plan
at_read_group score ram n group best g = at_place score ram n group best (place.Group g)

-- the name of the write as the place of the read, where the read can stand there
abbrev pub with_ride : (Candidate → Option ℕ) → ℕ → ℕ → ℕ → Option Plan → Option ℕ → Option Plan
with_ride score ram n group best None = best
with_ride score ram n group best (Some w) = at_place score ram n group best (place.Ride w)

-- the best after all places of the read
abbrev pub at_group : (Candidate → Option ℕ) → Mem → RdPort → Variant → ℕ → ℕ → Option Plan → ℕ → Option Plan
at_group score m r v ram n best group = fold (at_place score ram n group) best (places m v (group ∷ []) r)

-- the best after all groups of the write
abbrev pub at_groups : (Candidate → Option ℕ) → Mem → RdPort → Variant → ℕ → ℕ → Option Plan → Option Plan
at_groups score m r v ram n best = fold (at_group score m r v ram n) best (below (length v.groups))

abbrev pub has_one_width : Variant → Bool
has_one_width v = nat_eq (length v.widths) 1

abbrev pub at_variant : (Candidate → Option ℕ) → Mem → RdPort → ℕ → Option Plan → ℕ → Variant → Option Plan
at_variant score m r ram best n v = cond (has_one_width v) (at_groups score m r v ram n best) best

abbrev pub at_ram : (Candidate → Option ℕ) → Mem → RdPort → Option Plan → ℕ → RamKind → Option Plan
at_ram score m r best ram k = fold_at (at_variant score m r ram) best 0 k.variants

abbrev pub at_rams : (Candidate → Option ℕ) → Mem → RdPort → List RamKind → Option Plan
at_rams score m r rams = fold_at (at_ram score m r) None 0 rams

-- where the memory has one write and one read
abbrev pub at_ports : (Candidate → Option ℕ) → Mem → List RamKind → List WrPort → List RdPort → Option Plan
at_ports score m rams (w ∷ []) (r ∷ []) = at_rams score m r rams
at_ports score m rams ws rs = None
