-- The laws of names, attributes and parameters: those of a text are such as a valid module can have.
use Rattle.std.specs.Prelude.{◌<◌, ◌^◌, ℕ, List, length}
use Rattle.rtlil_lex.specs.Spelling.{IsIdentifier}
use Rattle.rtlil_text.specs.declared.doc.CellLine.{CellLine}
use Rattle.rtlil_text.specs.declared.doc.DocAttr.{DocAttr}
use Rattle.rtlil_text.specs.declared.doc.DocModule.{DocModule}
use Rattle.rtlil_text.specs.Grammar.{All, HasNewLines}
use Rattle.net_core.specs.Valid.{AttrsFit, IsName, ParamsFit}
use Rattle.doc_params.specs.Docs.{attrs_of, params_of}
use Rattle.net_fits.specs.Written.{AttrIsWritten, IsWritten, LineIsWritten}

-- The law: an identifier of a text is the name of something.
abbrev pub IdentifiersAreNames : Type 0
IdentifiersAreNames = (n : List ℕ) → IsIdentifier n → IsName n

-- The law: attributes that a text has fit.
abbrev pub WrittenAttrsFit : Type 0
WrittenAttrsFit = (as_ : List DocAttr) → All AttrIsWritten as_ → length as_ < 2 ^ 32 → AttrsFit (attrs_of as_)

-- The law: and so do the parameters of a cell.
abbrev pub WrittenParamsFit : Type 0
WrittenParamsFit = (ls : List CellLine) → All LineIsWritten ls → HasNewLines ls → length ls < 2 ^ 32 → ParamsFit (params_of ls)

-- The law: a module of a text has a name, and its attributes fit.
abbrev pub HeadFits : Type 0
HeadFits = (m : DocModule) → IsWritten m → IsName m.name × AttrsFit (attrs_of m.attrs)
