-- One step of the search at a spot, and when a branch is cut.
use Rattle.std.specs.Prelude.{ℕ, Bool, not, ◌&&◌, cond, Option, Some, None, List, [], fold}
use Rattle.lib_core.specs.declared.library.Variant.{Variant}
use Rattle.net_core.specs.declared.mems.MemJob.{MemJob}
use Rattle.geom_core.specs.declared.candidates.ReadPlace.{ReadPlace}
use Rattle.fit_rules.specs.declared.plans.Plan.{Plan}
use Rattle.fit_rules.specs.declared.spots.Spot.{Spot}
use Rattle.fit_rules.specs.Candidates.{tuples, chosen, read_choices}
use Rattle.fit_rules.specs.Rules.{ram_fits, zip_front, zip_each_front, writes_placed, lanes_stand, order_met, is_small}
use Rattle.fit_rules.specs.Standing.{write_stands, read_stands}
use Rattle.fit_cost.specs.Points.{ram_points}
use Rattle.plan_search.specs.Choice.{offer, beats}

-- the points of a choice, where it fits
abbrev pub ram_score : MemJob → Variant → Spot → List ℕ → List ReadPlace → Option ℕ
ram_score job v s groups reads = cond (ram_fits job v s groups reads) (Some (ram_points job v s groups reads)) None

-- the best after one more candidate
abbrev pub at_reads : MemJob → Variant → Spot → List ℕ → Option Plan → List ReadPlace → Option Plan
at_reads job v s groups best reads = offer best (chosen s groups reads) (ram_score job v s groups reads)

-- the best after all candidates with these groups of the writes
abbrev pub at_groups : MemJob → Variant → Spot → Option Plan → List ℕ → Option Plan
at_groups job v s best groups = fold (at_reads job v s groups) best (tuples (read_choices job.mem v groups))

-- the reads that have places so far stand there, and what they ask of the whole is met
abbrev pub may_read : MemJob → Variant → Spot → List ℕ → List ReadPlace → Bool
may_read job v s groups so_far =
    zip_front (read_stands v s job.mem.writes groups) 0 job.mem.reads so_far && (order_met job v groups so_far && is_small job.mem v s groups so_far)

-- no candidate whose reads begin so fits and beats the best
abbrev pub cuts_reads : MemJob → Variant → Spot → List ℕ → List ReadPlace → Option Plan → Bool
cuts_reads job v s groups so_far best = not (may_read job v s groups so_far && beats (ram_points job v s groups so_far) best)

-- no candidate whose writes begin so fits and beats the best
abbrev pub cuts_writes : MemJob → Variant → Spot → List ℕ → Option Plan → Bool
cuts_writes job v s so_far best = not (zip_each_front (write_stands v s) job.mem.writes so_far && beats (ram_points job v s so_far []) best)

-- the writes stand in their groups
abbrev pub may_write : MemJob → Variant → Spot → List ℕ → Bool
may_write job v s groups = writes_placed job.mem v s groups && lanes_stand job.mem v s groups
