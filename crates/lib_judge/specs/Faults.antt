-- The fault of a RAM: what stands twice comes first, then what is missing, then widths that do not fit together, then
-- limits. What depends on a variant is judged in all of them, or in none where they are more than 256.
use Rattle.std.specs.Prelude.{ℕ, ◌-◌, ◌/◌, ◌^◌, ◌==◌, Bool, List, [], ◌∷◌, ◌++◌, length, map, Option, Some, None, ◌&&◌, ◌||◌, nat_lt, nat_le, if◌then◌else◌}
use Rattle.std.specs.List.{flat_map, list_any}
use Rattle.lib_core.specs.declared.library.Choice.{Choice}
use Rattle.lib_core.specs.CellNames.{is_cell}
use Rattle.lib_tree.specs.declared.fault.LibCode.{LibCode}
use Rattle.lib_tree.specs.declared.fault.LibCode.TheVariants as code
use Rattle.lib_judge.specs.declared.faults.Judged.{Judged}
use Rattle.lib_judge.specs.declared.faults.RamFault.{RamFault}
use Rattle.lib_judge.specs.declared.judge.Sizes.{Sizes}
use Rattle.lib_judge.specs.declared.raw.RawPort.{RawPort}
use Rattle.lib_judge.specs.declared.raw.RawRam.{RawRam}
use Rattle.lib_judge.specs.declared.sketch.Sketch.{Sketch}
use Rattle.lib_judge.specs.Names.{names_of_all, names_repeat}
use Rattle.lib_judge.specs.Judge.{is_bad, is_missing, is_twice, plain_sizes, sizes_from}
use Rattle.lib_judge.specs.Sketch.{sketch_of}
use Rattle.lib_judge.specs.Variants.{capped_count, has_name, rows_from}

-- ---- one variant

unfoldable pub last_from : ℕ → List ℕ → ℕ
last_from last [] = last
last_from last (w ∷ ws) = last_from w ws

-- more than 2 ^ 22 bits in 2 ^ (abits - K) words of the last width, which stands at place K
abbrev pub is_large : Sizes → Bool
is_large z = nat_le z.abits 20 && nat_lt (4194304 / 2 ^ (z.abits - (length z.widths - 1))) (last_from 0 z.widths)

abbrev pub is_wide : List ℕ → Bool
is_wide ws = list_any (λ w. nat_lt 1024 w) ws

abbrev pub judged : List (List ℕ) → List RawPort → Sketch → Sizes → Judged
judged known ports k z = record {
  twice = is_twice known ports k;
  missing = is_missing known ports k;
  bad_widths = is_bad z k;
  many_widths = nat_lt 8 (length z.widths);
  high_abits = nat_lt 20 z.abits;
  wide = is_wide z.widths;
  costly = nat_lt 1048576 z.cost;
  large = is_large z;
}

abbrev pub judge_of : RawRam → List Choice → Judged
judge_of ram row = judged (names_of_all ram.ports) ram.ports (sketch_of ram row) (sizes_from plain_sizes (sketch_of ram row).items)

abbrev pub judges_of : RawRam → List (List Choice) → List Judged
judges_of ram rows = map (λ row. judge_of ram row) rows

-- ---- some variant

abbrev pub any_twice : List Judged → Bool
any_twice js = list_any (λ j. j.twice) js

abbrev pub any_missing : List Judged → Bool
any_missing js = list_any (λ j. j.missing) js

abbrev pub any_bad : List Judged → Bool
any_bad js = list_any (λ j. j.bad_widths) js

abbrev pub any_many : List Judged → Bool
any_many js = list_any (λ j. j.many_widths) js

abbrev pub any_high : List Judged → Bool
any_high js = list_any (λ j. j.high_abits) js

abbrev pub any_wide : List Judged → Bool
any_wide js = list_any (λ j. j.wide) js

abbrev pub any_costly : List Judged → Bool
any_costly js = list_any (λ j. j.costly) js

abbrev pub any_large : List Judged → Bool
any_large js = list_any (λ j. j.large) js

-- ---- the RAM

abbrev pub many_names : List RawPort → Bool
many_names ports = list_any (λ p. nat_lt 8 (length p.names)) ports

-- the options of the RAM, then those of its ports
abbrev pub all_options : RawRam → List (List Choice)
all_options ram = ram.options ++ flat_map (λ p. p.options) ram.ports

-- more than 256 variants are not made
abbrev pub rows_to_judge : List (List Choice) → List (List Choice)
rows_to_judge options = if nat_lt 256 (capped_count 1 options) then [] else rows_from ([] ∷ []) options

-- one more than the first limit that is passed, behind so many RAMs
abbrev pub limit_of : ℕ → ℕ → List RawPort → List Judged → Option ℕ
limit_of earlier variants ports js =
    if nat_le 64 earlier then Some 65
    else (if nat_lt 256 variants then Some 257
    else (if nat_lt 4 (length ports) then Some 5
    else (if many_names ports || any_many js then Some 9
    else (if any_high js then Some 21
    else (if any_wide js then Some 1025
    else (if any_costly js then Some 1048577
    else (if any_large js then Some 4194305
    else None)))))))

abbrev pub fault : LibCode → Option RamFault
fault c = Some (record { code = c; seen = 0 })

abbrev pub limit_fault : Option ℕ → Option RamFault
limit_fault None = None
limit_fault (Some seen) = Some (record { code = code.Limit; seen = seen })

abbrev pub named_twice : List (List ℕ) → RawRam → List (List ℕ) → Bool
named_twice earlier ram names = is_cell ram.name || has_name earlier ram.name || names_repeat names

abbrev pub first_of : Bool → Bool → Bool → Option ℕ → Option RamFault
first_of twice missing bad_widths limit =
    if twice then fault code.Twice
    else (if missing then fault code.Missing
    else (if bad_widths then fault code.BadWidths
    else limit_fault limit))

abbrev pub fault_of : List (List ℕ) → RawRam → ℕ → List Judged → Option RamFault
fault_of earlier ram variants js =
    first_of (named_twice earlier ram (names_of_all ram.ports) || any_twice js) ((length ram.ports == 0) || any_missing js) (any_bad js) (limit_of (length earlier) variants ram.ports js)

-- the first fault of a RAM behind others with these names
abbrev pub ram_fault : List (List ℕ) → RawRam → Option RamFault
ram_fault earlier ram = fault_of earlier ram (capped_count 1 (all_options ram)) (judges_of ram (rows_to_judge (all_options ram)))
