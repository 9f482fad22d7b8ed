-- What the parameters of a cell say, by their names.
use Rattle.std.specs.Prelude.{ℕ, Bool, not, List, Option, Some, None, nat_eq, option_and_then, if◌then◌else◌}
use Rattle.std.specs.List.{find, list_any}
use Rattle.net_core.specs.Valid.{is_one_digit}
use Rattle.std.specs.Str.{bytes_eq}
use Rattle.lib_core.specs.declared.library.Tri.{Tri}
use Rattle.net_core.specs.declared.mems.Attr.{Attr}
use Rattle.cell_consts.specs.Consts.{attr_number, attr_bits}

-- the first parameter of a name
abbrev pub named : List Attr → List ℕ → Option Attr
named params name = find (λ (p : Attr). bytes_eq p.name name) params

abbrev pub number_at : List Attr → List ℕ → Option ℕ
number_at params name = option_and_then attr_number (named params name)

abbrev pub not_zero : Option ℕ → Option Bool
not_zero None = None
not_zero (Some n) = Some (not (nat_eq n 0))

-- a level at which a pin is active is a number: any but 0 counts as 1
abbrev pub polarity_at : List Attr → List ℕ → Option Bool
polarity_at params name = not_zero (number_at params name)

abbrev pub flag_of_found : Option Attr → Option Bool
flag_of_found None = None
flag_of_found (Some a) = if a.is_text then None else Some (list_any is_one_digit a.bits)

-- a flag is set where a bit is 1, whatever the others are; a string is none
abbrev pub flag_at : List Attr → List ℕ → Option Bool
flag_at params name = flag_of_found (named params name)

abbrev pub bits_of_found : Option Attr → Option (List Tri)
bits_of_found None = None
bits_of_found (Some a) = Some (attr_bits a)

-- the bits, also of a string
abbrev pub bits_at : List Attr → List ℕ → Option (List Tri)
bits_at params name = bits_of_found (named params name)

abbrev pub text_of_found : Option Attr → Option (List ℕ)
text_of_found None = None
text_of_found (Some a) = if a.is_text then Some a.value else None

-- the bytes of a string
abbrev pub text_at : List Attr → List ℕ → Option (List ℕ)
text_at params name = text_of_found (named params name)
