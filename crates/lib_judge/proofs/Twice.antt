-- A RAM one of whose port names stands twice has the fault Twice, whatever else is wrong with it.
use Rattle.std.proofs.Common.{◌≡◌, ℕ, Bool, true, false, List, refl, ◌||◌, ◌==◌, length, Option}
use Rattle.lib_core.specs.CellNames.{is_cell}
use Rattle.lib_tree.specs.declared.fault.LibCode.TheVariants as code
use Rattle.lib_judge.specs.declared.raw.RawRam.{RawRam}
use Rattle.lib_judge.specs.Faults.{all_options, any_bad, any_missing, any_twice, fault, first_of, judges_of, limit_of, ram_fault, rows_to_judge}
use Rattle.lib_judge.specs.Names.{names_of_all, names_repeat}
use Rattle.lib_judge.specs.Variants.{capped_count, has_name}

first_twice : (a b c d m w : Bool) (l : Option ℕ) → c ≡ true → first_of ((a || b || c) || d) m w l ≡ fault code.Twice
first_twice true b c d m w l h = refl
first_twice false true c d m w l h = refl
first_twice false false true d m w l h = refl
first_twice false false false d m w l h = absurd (cc)

pub twice_of_names : (earlier : List (List ℕ)) (ram : RawRam) → names_repeat (names_of_all ram.ports) ≡ true → ram_fault earlier ram ≡ fault code.Twice
twice_of_names earlier ram h =
    let js = judges_of ram (rows_to_judge (all_options ram)) in
    first_twice (is_cell ram.name) (has_name earlier ram.name) (names_repeat (names_of_all ram.ports)) (any_twice js)
    ((length ram.ports == 0) || any_missing js) (any_bad js) (limit_of (length earlier) (capped_count 1 (all_options ram)) ram.ports js) h
