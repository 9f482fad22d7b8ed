-- Attributes and parameters of a document as a design keeps them, and back. (Yosys manual, text representation of RTLIL.)
use Rattle.std.specs.Prelude.{◌≡◌, ℕ, true, false, List, [], ◌∷◌, map, reverse, length, Option, Some, None, nat_eq, if◌then◌else◌}
use Rattle.std.specs.Int.{w32, cast_unsigned, cast_signed}
use Rattle.std.specs.List.{flat_map}
use Rattle.lib_core.specs.declared.library.Tri.{Tri}
use Rattle.lib_core.specs.declared.library.Tri.TheVariants as tri
use Rattle.rtlil_lex.specs.declared.token.Digit.{Digit}
use Rattle.rtlil_lex.specs.declared.token.Digit.TheVariants as digit
use Rattle.rtlil_text.specs.declared.doc.DocConst.{DocConst}
use Rattle.rtlil_text.specs.declared.doc.DocConst.TheVariants as const
use Rattle.rtlil_text.specs.declared.doc.DocFlag.TheVariants as flag
use Rattle.rtlil_text.specs.declared.doc.DocAttr.{DocAttr}
use Rattle.rtlil_text.specs.declared.doc.DocParam.{DocParam}
use Rattle.rtlil_text.specs.declared.doc.CellLine.{CellLine}
use Rattle.rtlil_text.specs.declared.doc.CellLine.TheVariants as line
use Rattle.net_core.specs.declared.mems.Attr.{Attr}
use Rattle.cell_consts.specs.Consts.{low_bits, text_bits, number_of_bits, bits_attr, text_attr}

-- ---- what a document says

-- a digit that is neither 0 nor 1 leaves its bit open
abbrev pub digit_bit : Digit → Tri
digit_bit digit.Zero = tri.Zero
digit_bit digit.One = tri.One
digit_bit digit.X = tri.Any
digit_bit digit.Z = tri.Any
digit_bit digit.Dash = tri.Any

-- digits stand most significant first; a number has 32 bits, a negative one those of its two's complement
abbrev pub bits_of : DocConst → List Tri
bits_of (const.Digits ds) = map digit_bit (reverse ds)
bits_of (const.Number z) = low_bits 32 (cast_unsigned w32 z)
bits_of (const.Text bs) = text_bits bs

-- a string is kept as it is, and of every other constant its bits
abbrev pub attr : List ℕ → DocConst → Attr
attr name (const.Digits ds) = bits_attr name (bits_of (const.Digits ds))
attr name (const.Number z) = bits_attr name (bits_of (const.Number z))
attr name (const.Text bs) = text_attr name bs

-- a parameter without a value has no bits
abbrev pub attr_or_none : List ℕ → Option DocConst → Attr
attr_or_none name None = bits_attr name []
attr_or_none name (Some c) = attr name c

abbrev pub attr_of : DocAttr → Attr
attr_of a = attr a.name a.value

abbrev pub param_of : DocParam → Attr
param_of p = attr_or_none p.name p.value

abbrev pub param_of_line : CellLine → List Attr
param_of_line (line.Param p) = param_of p ∷ []
param_of_line (line.Pin n v) = []

-- the parameters among the lines of a cell
abbrev pub params_of : List CellLine → List Attr
params_of lines = flat_map param_of_line lines

abbrev pub attrs_of : List DocAttr → List Attr
attrs_of attrs = map attr_of attrs

-- ---- how it is written

-- an open bit is written as x
abbrev pub bit_digit : Tri → Digit
bit_digit tri.Zero = digit.Zero
bit_digit tri.One = digit.One
bit_digit tri.Any = digit.X

abbrev pub digits_of : List Tri → DocConst
digits_of bits = const.Digits (reverse (map bit_digit bits))

abbrev pub number_or_digits : Option ℕ → List Tri → DocConst
number_or_digits None bits = digits_of bits
number_or_digits (Some n) bits = const.Number (cast_signed w32 n)

-- 32 bits, each 0 or 1, are written as a number
unfoldable pub const_of_bits : List Tri → DocConst
const_of_bits bits = if nat_eq (length bits) 32 then number_or_digits (number_of_bits bits) bits else digits_of bits

abbrev pub const_of : Attr → DocConst
const_of a = if a.is_text then const.Text a.value else const_of_bits a.bits

abbrev pub doc_attr : Attr → DocAttr
doc_attr a = record { name = a.name; value = const_of a }

abbrev pub doc_param : Attr → DocParam
doc_param a = record { flag = flag.Plain; name = a.name; value = Some (const_of a) }

-- a string has no bits, and bits have no string
pub record IsPlain (a : Attr) : Type 0 where
  pub bits : a.is_text ≡ true → a.bits ≡ []
  pub value : a.is_text ≡ false → a.value ≡ []

-- The law: what is written is kept again.
abbrev pub AttrReadsBack : Type 0
AttrReadsBack = (a : Attr) → IsPlain a → attr a.name (const_of a) ≡ a

-- The law: what is kept is plain.
abbrev pub AttrIsPlain : Type 0
AttrIsPlain = (name : List ℕ) (c : DocConst) → IsPlain (attr name c)
