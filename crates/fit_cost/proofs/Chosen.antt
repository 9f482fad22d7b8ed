-- What is known of a choice that fits.
use Rattle.std.proofs.Common.{◌≡◌, ℕ, ◌≤◌, true, length}
use Rattle.std.specs.Prelude.{Some}
use Rattle.lib_core.specs.declared.library.Library.{Library}
use Rattle.lib_core.specs.declared.library.Variant.{Variant}
use Rattle.net_core.specs.declared.mems.MemJob.{MemJob}
use Rattle.net_core.specs.declared.mems.Style.TheVariants.{Auto}
use Rattle.geom_core.specs.declared.candidates.Candidate.TheVariants.{Ram}
use Rattle.geom_core.specs.declared.candidates.RamChoice.{RamChoice}
use Rattle.fit_rules.specs.Limits.{LibraryLimits, VariantLimits, IsSpot}
use Rattle.fit_rules.specs.Rules.{ports_met, rest_met, ram_fits}
use Rattle.fit_rules.specs.Fits.{spot_of, is_spot, variant_at, candidate_fits}
use Rattle.fit_rules.proofs.Lengths.{and_left, and_right, few_reads_met, few_writes_met, few_groups_met}
use Rattle.fit_rules.proofs.Chosen.{fits_here, variant_limits, spot_met, places_met}

pub variant_within : (lib : Library) (ram n : ℕ) (v : Variant) → LibraryLimits lib → variant_at lib ram n ≡ Some v → VariantLimits v
variant_within lib ram n v h e = variant_limits lib ram n v h e

pub spot_within : (job : MemJob) (lib : Library) (c : RamChoice) (v : Variant) → candidate_fits job lib Auto (Ram c) ≡ true → variant_at lib c.ram c.variant ≡ Some v → IsSpot v (spot_of c)
spot_within job lib c v e f = spot_met job lib c v e f

ports_within : (job : MemJob) (lib : Library) (c : RamChoice) (v : Variant) → candidate_fits job lib Auto (Ram c) ≡ true → variant_at lib c.ram c.variant ≡ Some v → ports_met job.mem v (spot_of c) c.writes c.reads ≡ true
unfolding ram_fits
ports_within job lib c v e f =
    and_left (ports_met job.mem v (spot_of c) c.writes c.reads) (rest_met job v (spot_of c) c.writes c.reads)
    (and_right (is_spot v (spot_of c)) (ram_fits job v (spot_of c) c.writes c.reads) (fits_here job lib c v e f))

pub reads_within : (job : MemJob) (lib : Library) (c : RamChoice) (v : Variant) → candidate_fits job lib Auto (Ram c) ≡ true → variant_at lib c.ram c.variant ≡ Some v → length job.mem.reads ≤ 8
reads_within job lib c v e f = few_reads_met job.mem v (spot_of c) c.writes c.reads (ports_within job lib c v e f)

pub writes_within : (job : MemJob) (lib : Library) (c : RamChoice) (v : Variant) → candidate_fits job lib Auto (Ram c) ≡ true → variant_at lib c.ram c.variant ≡ Some v → length job.mem.writes ≤ 4
writes_within job lib c v e f = few_writes_met job.mem v (spot_of c) c.writes c.reads (ports_within job lib c v e f)

pub groups_within : (job : MemJob) (lib : Library) (c : RamChoice) (v : Variant) → candidate_fits job lib Auto (Ram c) ≡ true → variant_at lib c.ram c.variant ≡ Some v → length c.writes ≤ 4
groups_within job lib c v e f = few_groups_met job.mem v (spot_of c) c.writes c.reads (ports_within job lib c v e f)

pub places_within : (job : MemJob) (lib : Library) (c : RamChoice) (v : Variant) → candidate_fits job lib Auto (Ram c) ≡ true → variant_at lib c.ram c.variant ≡ Some v → length c.reads ≤ 8
places_within job lib c v e f = places_met job lib c v e f
