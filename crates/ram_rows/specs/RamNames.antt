-- The names of the pins and parameters of RAM cells. (Yosys, memory_libmap.)
use Rattle.std.specs.Prelude.{ℕ, Bool, false, List, ◌++◌, Option, Some, None, codes}
use Rattle.std.specs.Str.{bytes_eq}

-- the parameter of an option of the RAM
abbrev pub option_name : List ℕ → List ℕ
option_name option = codes "\\OPTION_" ++ option

-- what belongs to a port
abbrev pub slot_name : List ℕ → List ℕ → List ℕ
slot_name slot what = codes "\\PORT_" ++ (slot ++ (codes "_" ++ what))

-- the parameter of an option of a port
abbrev pub slot_option_name : List ℕ → List ℕ → List ℕ
slot_option_name slot option = slot_name slot (codes "OPTION_" ++ option)

-- what is left of a text is this
abbrev pub is_rest : Option (List ℕ) → List ℕ → Bool
is_rest None what = false
is_rest (Some rest) what = bytes_eq rest what
