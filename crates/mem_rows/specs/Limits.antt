-- How large a memory may be.
use Rattle.std.specs.Prelude.{◌≡◌, ℕ, ◌+◌, ◌*◌, ◌≤◌, ◌||◌, Option, Some, None, nat_lt, if◌then◌else◌}
use Rattle.mem_rows.specs.declared.whole.WholeRow.{WholeRow}

-- one more than the first limit that a memory of so many words, of so many bits each, from an address on, passes
abbrev pub size_limit : ℕ → ℕ → ℕ → Option ℕ
size_limit size offset width =
    if nat_lt 1048576 (offset + size) then Some 1048577
    else (if nat_lt 1024 width then Some 1025
    else (if nat_lt 4194304 (size * width) then Some 4194305
    else None))

abbrev pub ports_limit : WholeRow → Option ℕ
ports_limit row =
    if nat_lt 32 row.abits then Some 33
    else (if nat_lt 64 row.reads || nat_lt 64 row.writes then Some 65
    else None)

abbrev pub first_of : Option ℕ → Option ℕ → Option ℕ
first_of None other = other
first_of (Some n) other = Some n

abbrev pub whole_limit : WholeRow → Option ℕ
whole_limit row = first_of (size_limit row.size row.offset row.width) (ports_limit row)

-- the memory passes none of these limits
pub record IsWithin (row : WholeRow) : Type 0 where
  pub addresses : row.offset + row.size ≤ 1048576
  pub width : row.width ≤ 1024
  pub bits : row.size * row.width ≤ 4194304
  pub abits : row.abits ≤ 32
  pub reads : row.reads ≤ 64
  pub writes : row.writes ≤ 64

-- The law: what has no limit to tell is within them.
abbrev pub NoLimitIsWithin : Type 0
NoLimitIsWithin = (row : WholeRow) → whole_limit row ≡ None → IsWithin row
