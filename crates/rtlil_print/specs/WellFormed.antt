-- Which documents have a text, said of the document itself: names are identifiers, numbers fit where they are written, signals are
-- whole, and names that have to be new are.
use Rattle.std.specs.Prelude.{◌≡◌, ◌<◌, ◌≤◌, ◌^◌, ℕ, Bool, true, false, List, [], ◌∷◌, ◌++◌, Option, Some, None}
use Rattle.std.specs.List.{flat_map}
use Rattle.rtlil_lex.specs.Spelling.{IsIdentifier, IsInt}
use Rattle.rtlil_text.specs.declared.doc.Doc.{Doc}
use Rattle.rtlil_text.specs.declared.doc.DocConst.{DocConst}
use Rattle.rtlil_text.specs.declared.doc.DocConst.TheVariants as const
use Rattle.rtlil_text.specs.declared.doc.DocFlag.TheVariants as flag
use Rattle.rtlil_text.specs.declared.doc.DocMem.{DocMem}
use Rattle.rtlil_text.specs.declared.doc.DocWire.{DocWire}
use Rattle.rtlil_text.specs.declared.doc.Part.{Part}
use Rattle.rtlil_text.specs.declared.doc.Part.TheVariants as part
use Rattle.rtlil_text.specs.declared.place.Statement.{Statement}
use Rattle.rtlil_text.specs.declared.place.Statement.TheVariants as says
use Rattle.rtlil_text.specs.Grammar.{All, module_statements, HasNewModules}

abbrev pub IsConst : DocConst → Type 0
IsConst (const.Digits ds) = Unit {0}
IsConst (const.Number z) = IsInt z
IsConst (const.Text t) = Unit {0}

mutual
  -- one signal, with all its slices and braces
  pub data IsWhole : List Part → Type 0 where
    fixed : (c : DocConst) → IsConst c → IsWhole (part.Fixed c ∷ [])
    wire : (n : List ℕ) → IsIdentifier n → IsWhole (part.Wire n ∷ [])
    slice : {ps : List Part} (high low : ℕ) → low ≤ high → high < 2 ^ 31 → IsWhole ps → IsWhole (ps ++ part.Slice high low ∷ [])
    group : {ps : List Part} → AreWhole ps → IsWhole (part.Begin ∷ (ps ++ part.End ∷ []))

  -- signals, one behind the other
  pub data AreWhole : List Part → Type 0 where
    none : AreWhole []
    more : {ps qs : List Part} → IsWhole ps → AreWhole qs → AreWhole (ps ++ qs)

-- a wire that is no port has the number 0
abbrev pub IsPortNumber : Bool → Bool → ℕ → Type 0
IsPortNumber true output n = Unit {0}
IsPortNumber false true n = Unit {0}
IsPortNumber false false n = n ≡ 0

-- a wire whose attributes stand in front of it, but for its name
pub record IsWire (w : DocWire) : Type 0 where
  pub attrs : w.attrs ≡ []
  pub width : w.width < 2 ^ 31
  pub offset : IsInt w.offset
  pub port : w.port < 2 ^ 31
  pub number : IsPortNumber w.input w.output w.port

pub record IsMemory (m : DocMem) : Type 0 where
  pub attrs : m.attrs ≡ []
  pub width : m.width < 2 ^ 31
  pub size : m.size < 2 ^ 31
  pub offset : m.offset < 2 ^ 31

-- a parameter of a module may have a constant, one of a cell has one
abbrev pub MayHaveConst : Option DocConst → Type 0
MayHaveConst None = Unit {0}
MayHaveConst (Some c) = IsConst c

abbrev pub HasConst : Option DocConst → Type 0
HasConst None = ⊥
HasConst (Some c) = IsConst c

abbrev pub IsStatement : Statement → Type 0
IsStatement says.Blank = ⊥
IsStatement says.Autoidx = Unit {0}
IsStatement (says.Attribute a) = IsIdentifier a.name × IsConst a.value
IsStatement (says.Module n) = IsIdentifier n
-- a module's parameter is not marked
IsStatement (says.Parameter p) = (p.flag ≡ flag.Plain) × IsIdentifier p.name × MayHaveConst p.value
IsStatement (says.Wire w) = IsIdentifier w.name × IsWire w
IsStatement (says.Memory m) = IsIdentifier m.name × IsMemory m
IsStatement (says.Cell k n) = IsIdentifier k × IsIdentifier n
IsStatement (says.Connect l r) = IsWhole l × IsWhole r
IsStatement (says.CellParameter p) = IsIdentifier p.name × HasConst p.value
IsStatement (says.Pin n v) = IsIdentifier n × IsWhole v
IsStatement says.End = Unit {0}

pub record IsWellFormed (d : Doc) : Type 0 where
  pub statements : All IsStatement (flat_map module_statements d.modules)
  pub names : HasNewModules d.modules
