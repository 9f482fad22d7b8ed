-- Which candidates of a memory are plain: one cell stands for the whole memory, and each port of the memory at a port of the
-- cell that does the same.
use Rattle.std.specs.Prelude.{◌≡◌, ◌^◌, Bool, true, false, not, ◌&&◌, nat_eq, length, Option, Some, None, is_none}
use Rattle.std.specs.List.{list_any, list_all}
use Rattle.lib_core.specs.declared.library.Group.{Group}
use Rattle.lib_core.specs.declared.library.PortKind.{PortKind}
use Rattle.lib_core.specs.declared.library.PortKind.TheVariants.{Ar, Sr, Sw, Arsw, Srsw}
use Rattle.lib_core.specs.declared.library.Variant.{Variant}
use Rattle.lib_core.specs.declared.library.Library.{Library}
use Rattle.net_core.specs.declared.mems.Mem.{Mem}
use Rattle.net_core.specs.declared.mems.MemJob.{MemJob}
use Rattle.net_core.specs.declared.mems.RdPort.{RdPort}
use Rattle.net_core.specs.declared.mems.WrPort.{WrPort}
use Rattle.net_core.specs.declared.mems.Style.TheVariants.{Auto}
use Rattle.geom_core.specs.declared.candidates.Candidate.{Candidate}
use Rattle.geom_core.specs.declared.candidates.Candidate.TheVariants.{Ram, Registers}
use Rattle.geom_core.specs.declared.candidates.RamChoice.{RamChoice}
use Rattle.fit_rules.specs.Fits.{variant_at, shape_of, candidate_fits}

-- the port reads at once, or writes at an edge
abbrev pub is_plain_kind : PortKind → Bool
is_plain_kind Ar = true
is_plain_kind Sr = false
is_plain_kind Sw = true
is_plain_kind Arsw = false
is_plain_kind Srsw = false

-- the ports have the variant's first width
abbrev pub has_first_level : Group → Bool
has_first_level g = list_any (nat_eq 0) g.levels

-- ports without clock enable and with one kind of write enable, of the first width
abbrev pub is_plain_group : Group → Bool
is_plain_group g = is_plain_kind g.kind && (not g.clken && (not g.separate && has_first_level g))

-- one width, which one write enable serves
abbrev pub is_plain_variant : Variant → Bool
is_plain_variant x = is_none x.byte && (nat_eq (length x.widths) 1 && list_all is_plain_group x.groups)

abbrev pub is_plain_at : Option Variant → Bool
is_plain_at None = false
is_plain_at (Some x) = is_plain_variant x

-- a read of one word, at once; a write of one word
abbrev pub is_plain_read : RdPort → Bool
is_plain_read r = is_none r.clock && nat_eq r.wide 0

abbrev pub is_plain_write : WrPort → Bool
is_plain_write w = nat_eq w.wide 0

-- the memory has one write and one read, and a word at each address
pub record IsPlainMem (m : Mem) : Type 0 where
  pub one_write : length m.writes ≡ 1
  pub write : list_all is_plain_write m.writes ≡ true
  pub one_read : length m.reads ≡ 1
  pub read : list_all is_plain_read m.reads ≡ true
  pub first : m.offset ≡ 0
  pub every : m.size ≡ 2 ^ m.abits

-- The choice fits, its rows have one word each, and one cell takes the whole memory. (Whatever style allows the RAM, the
-- choice fits under the style that allows all.)
pub record IsPlain (lib : Library) (job : MemJob) (c : RamChoice) : Type 0 where
  pub fits : candidate_fits job lib Auto (Ram c) ≡ true
  pub fold : c.fold ≡ 0
  pub one_cell : shape_of job lib c ≡ record { copies = 1; rows = 1; columns = 1 }
  pub variant : is_plain_at (variant_at lib c.ram c.variant) ≡ true
  pub memory : IsPlainMem job.mem

abbrev pub IsPlainCandidate : Library → MemJob → Candidate → Type 0
IsPlainCandidate lib job Registers = ⊥
IsPlainCandidate lib job (Ram c) = IsPlain lib job c
