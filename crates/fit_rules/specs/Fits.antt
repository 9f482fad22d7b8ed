-- Which candidates fit. One that is not among a memory's candidates does not: its RAM, variant and level have to be there,
-- its fold is at most 6, and its lists have an entry for each write and each read.
use Rattle.std.specs.Prelude.{◌≡◌, ℕ, Bool, true, false, ◌&&◌, nat_lt, nat_le, length, Option, Some, None, slice_get}
use Rattle.lib_core.specs.declared.library.Library.{Library}
use Rattle.lib_core.specs.declared.library.RamKind.{RamKind}
use Rattle.lib_core.specs.declared.library.Variant.{Variant}
use Rattle.net_core.specs.declared.mems.MemJob.{MemJob}
use Rattle.net_core.specs.declared.mems.Style.{Style}
use Rattle.geom_core.specs.declared.candidates.Candidate.{Candidate}
use Rattle.geom_core.specs.declared.candidates.Candidate.TheVariants.{Ram, Registers}
use Rattle.geom_core.specs.declared.candidates.RamChoice.{RamChoice}
use Rattle.geom_core.specs.declared.candidates.Shape.{Shape}
use Rattle.fit_rules.specs.declared.spots.Spot.{Spot}
use Rattle.fit_rules.specs.Candidates.{IsAmong, candidates}
use Rattle.fit_rules.specs.Shape.{shape_at}
use Rattle.fit_rules.specs.Rules.{ram_fits, style_allows, registers_fit}

abbrev pub spot_of : RamChoice → Spot
spot_of c = record { ram = c.ram; variant = c.variant; fold = c.fold; level = c.level }

-- the spot is one of the variant's
abbrev pub is_spot : Variant → Spot → Bool
is_spot v s = nat_le s.fold 6 && nat_lt s.level (length v.widths)

abbrev pub variant_in : Option RamKind → ℕ → Option Variant
variant_in None n = None
variant_in (Some k) n = slice_get k.variants n

-- the variant of a choice, where the library has it
abbrev pub variant_at : Library → ℕ → ℕ → Option Variant
variant_at lib ram n = variant_in (slice_get lib.rams ram) n

abbrev pub fits_at : MemJob → RamChoice → Variant → Bool
fits_at job c v = is_spot v (spot_of c) && ram_fits job v (spot_of c) c.writes c.reads

abbrev pub fits_variant : MemJob → RamChoice → Option Variant → Bool
fits_variant job c None = false
fits_variant job c (Some v) = fits_at job c v

abbrev pub fits_ram : MemJob → RamKind → RamChoice → Bool
fits_ram job k c = fits_variant job c (slice_get k.variants c.variant)

abbrev pub fits_style : MemJob → Style → RamChoice → Option RamKind → Bool
fits_style job style c None = false
fits_style job style c (Some k) = style_allows style k && fits_ram job k c

abbrev pub candidate_fits : MemJob → Library → Style → Candidate → Bool
candidate_fits job lib style Registers = registers_fit job.mem style
candidate_fits job lib style (Ram c) = fits_style job style c (slice_get lib.rams c.ram)

-- the shape of a choice whose variant is there
abbrev pub shape_in : MemJob → RamChoice → Option Variant → Shape
shape_in job c None = record { copies = 0; rows = 0; columns = 0 }
shape_in job c (Some v) = shape_at job.mem v (spot_of c) c.writes c.reads

abbrev pub shape_of : MemJob → Library → RamChoice → Shape
shape_of job lib c = shape_in job c (variant_at lib c.ram c.variant)

-- The law: what fits is one of the memory's candidates.
abbrev pub FitsIsListed : Type 0
FitsIsListed = (job : MemJob) (lib : Library) (style : Style) (c : Candidate) → candidate_fits job lib style c ≡ true → IsAmong c (candidates job.mem lib)
