-- When a row holds.
use Rattle.std.specs.Prelude.{ℕ, ◌==◌, ◌&&◌, Bool, true, false, List, string_bytes, is_none, Some, None}
use Rattle.std.specs.declared.option.Option.{Option}
use Rattle.std.specs.List.{list_all}
use Rattle.std.specs.Ordering.{nat_cmp, eq_by_cmp}
use Rattle.std.specs.Cmp.Lexicographic.{slice_cmp}
use Rattle.flow_io.specs.MemState.{MemState, content}
use Rattle.flow_io.specs.declared.mem_desk.DeskFile.{DeskFile}
use Rattle.rows.specs.declared.row.Told.{Told}
use Rattle.rows.specs.declared.row.ToldFile.{ToldFile}
use Rattle.rows.specs.declared.row.Seen.{Seen}

-- the same bytes in the same order
abbrev pub same_bytes : List ℕ → List ℕ → Bool
same_bytes a b = eq_by_cmp (slice_cmp nat_cmp) a b

-- a file that is there and has these bytes
abbrev pub has_bytes : Option (List ℕ) → List ℕ → Bool
has_bytes None told = false
has_bytes (Some seen) told = same_bytes seen told

-- the file holds what is told of it
abbrev pub stands : List DeskFile → ToldFile → Bool
stands files told = has_bytes (content files (string_bytes told.name)) told.bytes

-- there is no file of the name
abbrev pub is_absent : List DeskFile → List ℕ → Bool
is_absent files name = is_none (content files name)

-- every command ran; the status of the last, its line on standard error and each file are as told
abbrev pub holds : Told → Seen → MemState → Bool
holds told seen desk =
    (seen.left == 0) && (seen.status == told.status) && same_bytes seen.line told.line
    && list_all (λ file. stands desk.files file) told.files && list_all (λ name. is_absent desk.files (string_bytes name)) told.absent
