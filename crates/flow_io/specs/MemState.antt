-- The desk that keeps its files in memory.
use Rattle.std.specs.Prelude.{ℕ, ◌/◌, ◌==◌, ◌||◌, Bool, if◌then◌else◌, List, [], ◌∷◌, length, take, map, is_none, slice_get, suc, nat_lt, Some, None, Result, Ok, Err}
use Rattle.std.specs.declared.option.Option.{Option}
use Rattle.std.specs.Option.{option_map}
use Rattle.std.specs.List.{list_any}
use Rattle.std.specs.Ordering.{nat_cmp, eq_by_cmp}
use Rattle.std.specs.Cmp.Lexicographic.{slice_cmp}
use Rattle.std.specs.FinMap.{from_entries}
use Rattle.flow_io.specs.Causes.{raised}
use Rattle.flow_io.specs.Files.{Files}
use Rattle.flow_io.specs.declared.desk.DeskFault.{DeskFault}
use Rattle.flow_io.specs.declared.desk.DeskFault.TheVariants.{Failed, TooLong}
use Rattle.flow_io.specs.declared.mem_desk.DeskFile.{DeskFile}

-- what a desk in memory holds: its files, the numbers of the calls that fail, how many calls were made, and the counts
pub record MemState : Type 0 where
  pub files : List DeskFile
  pub fails : List ℕ
  pub calls : ℕ
  pub read_faults : ℕ
  pub write_faults : ℕ

-- two names are one
abbrev pub same_name : List ℕ → List ℕ → Bool
same_name a b = eq_by_cmp (slice_cmp nat_cmp) a b

-- the place of the first entry of a name, or how many entries there are
abbrev pub place : List DeskFile → List ℕ → ℕ
place [] name = 0
place (file ∷ files) name = if same_name name file.name then 0 else suc (place files name)

-- what the first entry of a name holds
abbrev pub content : List DeskFile → List ℕ → Option (List ℕ)
content files name = option_map (λ file. file.bytes) (slice_get files (place files name))

-- the entries once a name holds these bytes
abbrev pub written : List DeskFile → List ℕ → List ℕ → List DeskFile
written [] name bytes = record { name = name; bytes = bytes } ∷ []
written (file ∷ files) name bytes = if same_name name file.name then record file { bytes = bytes } ∷ files else file ∷ written files name bytes

-- the map of the entries, by the first of each name
abbrev pub files_of : List DeskFile → Files
files_of files = from_entries (map (λ file. (file.name, file.bytes)) files)

-- the next call is one that fails
abbrev pub fails_next : MemState → Bool
fails_next desk = list_any (λ call. call == desk.calls) desk.fails

abbrev pub read_fails : MemState → List ℕ → Bool
read_fails desk name = fails_next desk || is_none (content desk.files name)

-- what a read that finds memory answers
abbrev pub bounded_answer : Option (List ℕ) → ℕ → Result (List ℕ) DeskFault
bounded_answer None limit = Err Failed
bounded_answer (Some bytes) limit = if nat_lt limit (length bytes) then Err (TooLong (length bytes)) else Ok bytes

abbrev pub read_answer : MemState → List ℕ → ℕ → Result (List ℕ) DeskFault
read_answer desk name limit = if fails_next desk then Err Failed else bounded_answer (content desk.files name) limit

-- the desk after a read
abbrev pub after_read : MemState → List ℕ → MemState
after_read desk name = record desk { calls = raised desk.calls; read_faults = if read_fails desk name then raised desk.read_faults else desk.read_faults }

-- the bytes that a write leaves: all, or at a call that fails the first half
abbrev pub kept : MemState → List ℕ → List ℕ
kept desk bytes = if fails_next desk then take (length bytes / 2) bytes else bytes

-- the desk after a write that finds memory
abbrev pub after_write : MemState → List ℕ → List ℕ → MemState
after_write desk name bytes = record desk {
  files = written desk.files name (kept desk bytes);
  calls = raised desk.calls;
  write_faults = if fails_next desk then raised desk.write_faults else desk.write_faults;
}
