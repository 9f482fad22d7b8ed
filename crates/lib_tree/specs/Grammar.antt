-- The grammar of a library's text: how each statement is spelled, and where it may stand. Its names are those of
-- Yosys' memory_libmap; the options, the kinds and the properties are those that are read here.
use Rattle.std.specs.Prelude.{◌≡◌, ℕ, zero, suc, ◌+◌, Bool, true, false, List, [], ◌∷◌, ◌++◌, Option, Some, None, ◌==◌, not, ◌&&◌, map}
use Rattle.std.specs.List.{flat_map, list_all}
use Rattle.lib_core.specs.declared.library.OwnWrite.{OwnWrite}
use Rattle.lib_core.specs.declared.library.OwnWrite.TheVariants as own
use Rattle.lib_core.specs.declared.library.PortKind.{PortKind}
use Rattle.lib_core.specs.declared.library.Property.{Property}
use Rattle.lib_core.specs.declared.library.Property.TheVariants as property
use Rattle.lib_core.specs.declared.library.Seen.TheVariants as seen
use Rattle.lib_core.specs.declared.library.SrstGate.{SrstGate}
use Rattle.lib_core.specs.declared.library.Value.{Value}
use Rattle.lib_core.specs.declared.library.Value.TheVariants as value
use Rattle.lib_core.specs.Kinds.{has_property}
use Rattle.lib_tree.specs.declared.statement.Item.{Item}
use Rattle.lib_tree.specs.declared.statement.Item.TheVariants as item
use Rattle.lib_tree.specs.declared.statement.Place.{Place}
use Rattle.lib_tree.specs.declared.statement.Place.TheVariants as place
use Rattle.lib_tree.specs.declared.statement.Scope.{Scope}
use Rattle.lib_tree.specs.declared.statement.Scope.TheVariants as scope
use Rattle.lib_tree.specs.declared.statement.Setting.{Setting}
use Rattle.lib_tree.specs.declared.statement.Setting.TheVariants as setting
use Rattle.lib_tree.specs.declared.statement.Size.{Size}
use Rattle.lib_tree.specs.declared.statement.Size.TheVariants as size
use Rattle.lib_tree.specs.declared.statement.Statement.{Statement}
use Rattle.lib_tree.specs.declared.statement.Statement.TheVariants as statement
use Rattle.lib_tree.specs.declared.statement.Targets.{Targets}
use Rattle.lib_tree.specs.declared.statement.Targets.TheVariants as targets
use Rattle.lib_tree.specs.declared.token.Token.{Token}
use Rattle.lib_tree.specs.declared.token.Token.TheVariants as token
use Rattle.lib_tree.specs.declared.token.Word.{Word}
use Rattle.lib_tree.specs.declared.token.Word.TheVariants as word

-- ---- how statements are spelled

abbrev pub numbers : List ℕ → List Token
numbers ns = map (λ n. token.Number n) ns

abbrev pub texts : List (List ℕ) → List Token
texts ns = map (λ n. token.Text n) ns

abbrev pub size_word : Size → Word
size_word size.Abits = word.Abits
size_word size.Width = word.Property property.Width
size_word size.Byte = word.Byte
size_word size.Cost = word.Cost

abbrev pub sharing_word : Bool → Word
sharing_word true = word.PerPort
sharing_word false = word.Global

-- an item, without its semicolon
abbrev pub item_tokens : Item → List Token
item_tokens (item.Size s n) = token.Word (size_word s) ∷ token.Number n ∷ []
item_tokens (item.Widths ns per_port) = token.Word word.Widths ∷ (numbers ns ++ token.Word (sharing_word per_port) ∷ [])
item_tokens (item.Init f) = token.Word word.Init ∷ token.Word (word.Fill f) ∷ []
item_tokens (item.Style t) = token.Word word.Style ∷ token.Text t ∷ []

abbrev pub own_word : OwnWrite → Word
own_word own.Undefined = word.Undefined
own_word own.NoChange = word.NoChange
own_word own.Old = word.Seen seen.Old
own_word own.New = word.Seen seen.New
own_word own.NewOnly = word.NewOnly

abbrev pub target_tokens : Targets → List Token
target_tokens targets.All = token.Word word.All ∷ []
target_tokens (targets.Named ns) = texts ns

abbrev pub gate_tokens : Option SrstGate → List Token
gate_tokens None = []
gate_tokens (Some g) = token.Word (word.Gate g) ∷ []

abbrev pub tied_tokens : Bool → List Token
tied_tokens true = token.Word word.Tied ∷ []
tied_tokens false = []

abbrev pub property_of : Setting → Property
property_of (setting.Clock e) = property.Clock
property_of setting.Clken = property.Clken
property_of setting.Rden = property.Rden
property_of (setting.Rdwr o) = property.Rdwr
property_of (setting.Wrtrans t s) = property.Wrtrans
property_of (setting.Wrprio t) = property.Wrprio
property_of (setting.Rdsrst f g) = property.Rdsrst
property_of (setting.Rdarst f) = property.Rdarst
property_of (setting.Rdinit f) = property.Rdinit
property_of setting.WrbeSeparate = property.WrbeSeparate
property_of (setting.Width tied ns) = property.Width

-- what a property's word is followed by, without the semicolon
abbrev pub argument_tokens : Setting → List Token
argument_tokens (setting.Clock e) = token.Word (word.Edge e) ∷ []
argument_tokens setting.Clken = []
argument_tokens setting.Rden = []
argument_tokens (setting.Rdwr o) = token.Word (own_word o) ∷ []
argument_tokens (setting.Wrtrans t s) = target_tokens t ++ token.Word (word.Seen s) ∷ []
argument_tokens (setting.Wrprio t) = target_tokens t
argument_tokens (setting.Rdsrst f g) = token.Word (word.Fill f) ∷ gate_tokens g
argument_tokens (setting.Rdarst f) = token.Word (word.Fill f) ∷ []
argument_tokens (setting.Rdinit f) = token.Word (word.Fill f) ∷ []
argument_tokens setting.WrbeSeparate = []
argument_tokens (setting.Width tied ns) = tied_tokens tied ++ numbers ns

abbrev pub value_token : Value → Token
value_token (value.Number n) = token.Number n
value_token (value.Text t) = token.Text t

abbrev pub scope_word : Scope → Word
scope_word scope.Ram = word.RamOption
scope_word scope.Port = word.PortOption

abbrev pub spelling : Statement → List Token
spelling (statement.Ram line class name) = token.Ram line ∷ token.Word (word.Class class) ∷ token.Id name ∷ token.Open ∷ []
spelling (statement.Item i) = item_tokens i ++ token.Semicolon ∷ []
spelling (statement.Block s choice) = token.Word (scope_word s) ∷ token.Text choice.name ∷ value_token choice.value ∷ token.Open ∷ []
spelling (statement.Port kind names) = token.Word word.Port ∷ token.Word (word.Kind kind) ∷ (texts names ++ token.Open ∷ [])
spelling (statement.Setting s) = token.Word (word.Property (property_of s)) ∷ (argument_tokens s ++ token.Semicolon ∷ [])
spelling statement.End = token.Close ∷ []

-- ---- numbers that are not 0, lists that are not empty

abbrev pub is_nonempty : {A : Type 0} → List A → Bool
is_nonempty [] = false
is_nonempty (x ∷ xs) = true

abbrev pub is_nonzero : ℕ → Bool
is_nonzero n = not (n == 0)

abbrev pub are_widths : List ℕ → Bool
are_widths ns = is_nonempty ns && list_all is_nonzero ns

abbrev pub may_measure : Size → ℕ → Bool
may_measure size.Abits n = true
may_measure size.Width n = is_nonzero n
may_measure size.Byte n = is_nonzero n
may_measure size.Cost n = true

abbrev pub are_targets : Targets → Bool
are_targets targets.All = true
are_targets (targets.Named ns) = is_nonempty ns

abbrev pub is_proper_item : Item → Bool
is_proper_item (item.Size s n) = may_measure s n
is_proper_item (item.Widths ns per_port) = are_widths ns
is_proper_item (item.Init f) = true
is_proper_item (item.Style t) = true

abbrev pub is_proper_setting : Setting → Bool
is_proper_setting (setting.Wrtrans t s) = are_targets t
is_proper_setting (setting.Wrprio t) = are_targets t
is_proper_setting (setting.Width tied ns) = are_widths ns
is_proper_setting s = true

abbrev pub is_proper : Statement → Bool
is_proper (statement.Item i) = is_proper_item i
is_proper (statement.Port kind names) = is_nonempty names
is_proper (statement.Setting s) = is_proper_setting s
is_proper s = true

-- ---- where statements stand

-- what a statement is, as far as it decides where it may stand
pub data Sort : Type 0 where
  OfRam : Sort
  OfItem : Sort
  OfStyle : Sort
  OfBlock : Scope → Sort
  OfPort : Sort
  OfSetting : Property → Sort
  OfEnd : Sort

abbrev pub item_sort : Item → Sort
item_sort (item.Style t) = OfStyle
item_sort i = OfItem

abbrev pub sort_of : Statement → Sort
sort_of (statement.Ram line class name) = OfRam
sort_of (statement.Item i) = item_sort i
sort_of (statement.Block s choice) = OfBlock s
sort_of (statement.Port kind names) = OfPort
sort_of (statement.Setting s) = OfSetting (property_of s)
sort_of statement.End = OfEnd

-- in a block of an option of a RAM
abbrev pub stands_in_options : Sort → Bool
stands_in_options OfItem = true
stands_in_options (OfBlock scope.Ram) = true
stands_in_options OfEnd = true
stands_in_options s = false

-- in a RAM's own block
abbrev pub stands_in_ram : Sort → Bool
stands_in_ram OfStyle = true
stands_in_ram OfPort = true
stands_in_ram s = stands_in_options s

-- in a port, also in its blocks of options
abbrev pub stands_in_port : PortKind → Sort → Bool
stands_in_port kind (OfBlock s) = true
stands_in_port kind (OfSetting p) = has_property kind p
stands_in_port kind OfEnd = true
stands_in_port kind s = false

abbrev pub stands_outside : Sort → Bool
stands_outside OfRam = true
stands_outside s = false

abbrev pub may_stand : Place → Sort → Bool
may_stand place.Outside s = stands_outside s
may_stand place.Ram s = stands_in_ram s
may_stand (place.Options depth) s = stands_in_options s
may_stand (place.Port kind depth) s = stands_in_port kind s

-- where the statement behind one that may stand at a place stands
abbrev pub after : Place → Statement → Place
after place.Outside (statement.Ram line class name) = place.Ram
after place.Ram (statement.Block s choice) = place.Options 0
after place.Ram (statement.Port kind names) = place.Port kind 0
after place.Ram statement.End = place.Outside
after (place.Options depth) (statement.Block s choice) = place.Options (depth + 1)
after (place.Options zero) statement.End = place.Ram
after (place.Options (suc depth)) statement.End = place.Options depth
after (place.Port kind depth) (statement.Block s choice) = place.Port kind (depth + 1)
after (place.Port kind zero) statement.End = place.Ram
after (place.Port kind (suc depth)) statement.End = place.Port kind depth
after p s = p

-- each statement stands where it may, and each block ends
unfoldable pub nests : Place → List Statement → Bool
nests place.Outside [] = true
nests p [] = false
nests p (s ∷ ss) = may_stand p (sort_of s) && (is_proper s && nests (after p s) ss)

-- tokens are the statements of a library
pub record Spells (ts : List Token) (ss : List Statement) : Type 0 where
  pub spelled : ts ≡ flat_map spelling ss
  pub nested : nests place.Outside ss ≡ true
