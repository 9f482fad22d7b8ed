-- What is known of the variant of a choice that fits.
use Rattle.std.proofs.Common.{◌≡◌, ℕ, ◌≤◌, ◌<◌, true, nat_le, nat_lt, length, refl, subst, arith}
use Rattle.std.specs.Prelude.{Option, Some, None, slice_get}
use Rattle.std.proofs.lemmas.Bool.{false≢true}
use Rattle.std.proofs.lemmas.Option.{none-some}
use Rattle.lib_core.specs.declared.library.Library.{Library}
use Rattle.lib_core.specs.declared.library.RamKind.{RamKind}
use Rattle.lib_core.specs.declared.library.Variant.{Variant}
use Rattle.net_core.specs.declared.mems.MemJob.{MemJob}
use Rattle.net_core.specs.declared.mems.Style.TheVariants.{Auto}
use Rattle.geom_core.specs.declared.candidates.Candidate.TheVariants.{Ram}
use Rattle.geom_core.specs.declared.candidates.RamChoice.{RamChoice}
use Rattle.fit_rules.specs.Limits.{LibraryLimits, RamLimits, VariantLimits, IsSpot}
use Rattle.fit_rules.specs.Rules.{ports_met, rest_met, ram_fits}
use Rattle.fit_rules.specs.Fits.{spot_of, is_spot, variant_in, variant_at, fits_at, fits_variant, fits_style, candidate_fits}
use Rattle.fit_rules.proofs.Lengths.{and_left, and_right, few_places_met}

pub limits_of_ram : (lib : Library) (n : ℕ) (k : RamKind) → LibraryLimits lib → slice_get lib.rams n ≡ Some k → RamLimits k
limits_of_ram lib n k h e = h.each n k e

pub limits_of_variant : (k : RamKind) (n : ℕ) (v : Variant) → RamLimits k → slice_get k.variants n ≡ Some v → VariantLimits v
limits_of_variant k n v h e = h.each n v e

limits_in : (o : Option RamKind) (n : ℕ) (v : Variant) → ((k : RamKind) → o ≡ Some k → RamLimits k) → variant_in o n ≡ Some v → VariantLimits v
limits_in None n v h e = absurd (none-some v e)
limits_in (Some k) n v h e = (h k refl).each n v e

pub variant_limits : (lib : Library) (ram n : ℕ) (v : Variant) → LibraryLimits lib → variant_at lib ram n ≡ Some v → VariantLimits v
variant_limits lib ram n v h e = limits_in (slice_get lib.rams ram) n v (λ k f. h.each ram k f) e

fits_in : (job : MemJob) (c : RamChoice) (o : Option RamKind) (v : Variant) → fits_style job Auto c o ≡ true → variant_in o c.variant ≡ Some v → fits_at job c v ≡ true
fits_in job c None v e f = absurd (false≢true e)
fits_in job c (Some k) v e f = subst (λ o. fits_variant job c o ≡ true) f e

pub fits_here : (job : MemJob) (lib : Library) (c : RamChoice) (v : Variant) → candidate_fits job lib Auto (Ram c) ≡ true → variant_at lib c.ram c.variant ≡ Some v → fits_at job c v ≡ true
fits_here job lib c v e f = fits_in job c (slice_get lib.rams c.ram) v e f

le_true : (a b : ℕ) → nat_le a b ≡ true → a ≤ b
le_true a b e = grind arith

lt_true : (a b : ℕ) → nat_lt a b ≡ true → a < b
lt_true a b e = grind arith

pub spot_met : (job : MemJob) (lib : Library) (c : RamChoice) (v : Variant) → candidate_fits job lib Auto (Ram c) ≡ true → variant_at lib c.ram c.variant ≡ Some v → IsSpot v (spot_of c)
spot_met job lib c v e f =
    let spot = and_left (is_spot v (spot_of c)) (ram_fits job v (spot_of c) c.writes c.reads) (fits_here job lib c v e f) in
    record {
      fold = le_true c.fold 6 (and_left (nat_le c.fold 6) (nat_lt c.level (length v.widths)) spot);
      level = lt_true c.level (length v.widths) (and_right (nat_le c.fold 6) (nat_lt c.level (length v.widths)) spot);
    }

pub places_met : (job : MemJob) (lib : Library) (c : RamChoice) (v : Variant) → candidate_fits job lib Auto (Ram c) ≡ true → variant_at lib c.ram c.variant ≡ Some v → length c.reads ≤ 8
unfolding ram_fits
places_met job lib c v e f =
    let fits = and_right (is_spot v (spot_of c)) (ram_fits job v (spot_of c) c.writes c.reads) (fits_here job lib c v e f) in
    few_places_met job.mem v (spot_of c) c.writes c.reads (and_left (ports_met job.mem v (spot_of c) c.writes c.reads) (rest_met job v (spot_of c) c.writes c.reads) fits)
