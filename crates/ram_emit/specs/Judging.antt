-- Whether a choice is plain, as a test.
use Rattle.std.specs.Prelude.{ℕ, ◌^◌, Bool, false, ◌&&◌, nat_eq, length}
use Rattle.std.specs.List.{list_all}
use Rattle.lib_core.specs.declared.library.Library.{Library}
use Rattle.net_core.specs.declared.mems.Mem.{Mem}
use Rattle.net_core.specs.declared.mems.MemJob.{MemJob}
use Rattle.net_core.specs.declared.mems.Style.TheVariants.{Auto}
use Rattle.geom_core.specs.declared.candidates.Candidate.{Candidate}
use Rattle.geom_core.specs.declared.candidates.Candidate.TheVariants.{Ram, Registers}
use Rattle.geom_core.specs.declared.candidates.RamChoice.{RamChoice}
use Rattle.geom_core.specs.declared.candidates.Shape.{Shape}
use Rattle.fit_rules.specs.Fits.{variant_at, shape_of, candidate_fits}
use Rattle.ram_emit.specs.Plain.{is_plain_at, is_plain_read, is_plain_write}

abbrev pub has_plain_write : Mem → Bool
has_plain_write m = nat_eq (length m.writes) 1 && list_all is_plain_write m.writes

abbrev pub has_plain_read : Mem → Bool
has_plain_read m = nat_eq (length m.reads) 1 && list_all is_plain_read m.reads

abbrev pub is_power : ℕ → ℕ → Bool
is_power number exponent = nat_eq number (2 ^ exponent)

abbrev pub has_every_word : Mem → Bool
has_every_word m = nat_eq m.offset 0 && is_power m.size m.abits

abbrev pub is_plain_mem : Mem → Bool
is_plain_mem m = has_plain_write m && (has_plain_read m && has_every_word m)

abbrev pub is_one_cell : Shape → Bool
is_one_cell s = nat_eq s.copies 1 && (nat_eq s.rows 1 && nat_eq s.columns 1)

abbrev pub is_plain_choice : Library → MemJob → RamChoice → Bool
is_plain_choice lib job c = nat_eq c.fold 0 && (is_one_cell (shape_of job lib c) && (is_plain_at (variant_at lib c.ram c.variant) && is_plain_mem job.mem))

abbrev pub is_plain : Library → MemJob → Candidate → Bool
is_plain lib job Registers = false
is_plain lib job (Ram c) = candidate_fits job lib Auto (Ram c) && is_plain_choice lib job c
