-- What is known of a module of a document that some text within the limits of a reader reads as.
use Rattle.std.specs.Prelude.{◌<◌, ◌^◌, length, Option, Some, None}
use Rattle.rtlil_lex.specs.Spelling.{IsIdentifier}
use Rattle.rtlil_text.specs.declared.doc.CellLine.{CellLine}
use Rattle.rtlil_text.specs.declared.doc.CellLine.TheVariants as line
use Rattle.rtlil_text.specs.declared.doc.DocAttr.{DocAttr}
use Rattle.rtlil_text.specs.declared.doc.DocConst.{DocConst}
use Rattle.rtlil_text.specs.declared.doc.DocConst.TheVariants as const
use Rattle.rtlil_text.specs.declared.doc.DocModule.{DocModule}
use Rattle.rtlil_text.specs.declared.place.Statement.{Statement}
use Rattle.rtlil_text.specs.declared.place.Statement.TheVariants as says
use Rattle.rtlil_text.specs.Grammar.{All, HasNewItems, module_statements}
use Rattle.rtlil_print.specs.WellFormed.{IsStatement}

-- numbers of 32 bits count the digits of a constant
abbrev pub IsShort : DocConst → Type 0
IsShort (const.Digits ds) = length ds < 2 ^ 32
IsShort (const.Number z) = Unit {0}
IsShort (const.Text t) = Unit {0}

abbrev pub MayBeShort : Option DocConst → Type 0
MayBeShort None = Unit {0}
MayBeShort (Some c) = IsShort c

abbrev pub HasShortConst : Statement → Type 0
HasShortConst (says.Attribute a) = IsShort a.value
HasShortConst (says.Parameter p) = MayBeShort p.value
HasShortConst (says.CellParameter p) = MayBeShort p.value
HasShortConst s = Unit {0}

-- The statements of a module have a text, its names that have to be new are, numbers of 31 bits count the statements, and
-- numbers of 32 bits the digits of constants.
pub record IsWritten (m : DocModule) : Type 0 where
  pub statements : All IsStatement (module_statements m)
  pub names : HasNewItems m.items
  pub short : All HasShortConst (module_statements m)
  pub count : length (module_statements m) < 2 ^ 31

-- ---- attributes and parameters

abbrev pub AttrIsWritten : DocAttr → Type 0
AttrIsWritten a = IsIdentifier a.name × IsShort a.value

abbrev pub LineIsWritten : CellLine → Type 0
LineIsWritten (line.Param p) = IsIdentifier p.name × MayBeShort p.value
LineIsWritten (line.Pin n v) = IsIdentifier n
