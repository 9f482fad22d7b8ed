-- What a memory asks to be mapped to, by its attributes. (The names are those of Yosys' memory_libmap.)
use Rattle.std.specs.Prelude.{ℕ, Bool, cond, if◌then◌else◌, ◌||◌, List, [], ◌∷◌, ◌++◌, length, Option, Some, None, codes, nat_eq}
use Rattle.std.specs.List.{find}
use Rattle.std.specs.Str.{bytes_eq, str_eq_ignore_ascii_case}
use Rattle.lib_core.specs.declared.library.RamClass.TheVariants.{Distributed, Block, Huge}
use Rattle.net_core.specs.declared.mems.Attr.{Attr}
use Rattle.net_core.specs.declared.mems.Mem.{Mem}
use Rattle.net_core.specs.declared.mems.WrPort.{WrPort}
use Rattle.net_core.specs.declared.mems.Style.{Style}
use Rattle.net_core.specs.declared.mems.Style.TheVariants.{Auto, Registers, Class, Word}

-- the attributes that are looked for, in this order
abbrev pub ram_names : List (List ℕ)
ram_names = codes "\\ram_style" ∷ codes "\\ramstyle" ∷ codes "\\syn_ramstyle" ∷ []

abbrev pub rom_names : List (List ℕ)
rom_names = codes "\\rom_style" ∷ codes "\\romstyle" ∷ codes "\\syn_romstyle" ∷ []

-- a memory without writes is a ROM first
abbrev pub style_names : List WrPort → List (List ℕ)
style_names [] = rom_names ++ ram_names
style_names (w ∷ ws) = ram_names

abbrev pub or_else : Option Attr → Option Attr → Option Attr
or_else None b = b
or_else (Some a) b = Some a

-- the first attribute that has the first of these names that an attribute has
abbrev pub first_attr : List (List ℕ) → List Attr → Option Attr
first_attr [] attrs = None
first_attr (n ∷ ns) attrs = or_else (find (λ a. bytes_eq a.name n) attrs) (first_attr ns attrs)

-- letters are compared without regard to their case
abbrev pub is_word : List ℕ → List ℕ → Bool
is_word a b = str_eq_ignore_ascii_case a b

abbrev pub word_style : List ℕ → Style
word_style word =
    (if is_word word (codes "auto") || nat_eq (length word) 0 then Auto
    else (if is_word word (codes "logic") || is_word word (codes "registers") then Registers
    else (if is_word word (codes "distributed") then Class Distributed
    else (if is_word word (codes "block") then Class Block
    else (if is_word word (codes "huge") then Class Huge
    else Word word)))))

-- an attribute that is no string asks for nothing
abbrev pub attr_style : Option Attr → Style
attr_style None = Auto
attr_style (Some a) = cond a.is_text (word_style a.value) Auto

abbrev pub style_of_mem : Mem → Style
style_of_mem x = attr_style (first_attr (style_names x.writes) x.attrs)
