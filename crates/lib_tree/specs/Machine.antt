-- A statement token by token: what is there so far, and which token may come next.
use Rattle.std.specs.Prelude.{◌≡◌, ℕ, Bool, true, false, List, [], ◌∷◌, ◌++◌, Option, Some, None, Result, Ok, Err, ◌==◌, if◌then◌else◌}
use Rattle.lib_core.specs.declared.library.Fill.{Fill}
use Rattle.lib_core.specs.declared.library.OwnWrite.{OwnWrite}
use Rattle.lib_core.specs.declared.library.OwnWrite.TheVariants as own
use Rattle.lib_core.specs.declared.library.PortKind.{PortKind}
use Rattle.lib_core.specs.declared.library.Property.{Property}
use Rattle.lib_core.specs.declared.library.Property.TheVariants as property
use Rattle.lib_core.specs.declared.library.Seen.TheVariants as seen
use Rattle.lib_core.specs.declared.library.Value.TheVariants as value
use Rattle.lib_core.specs.Kinds.{has_property}
use Rattle.lib_tree.specs.declared.fault.LibCode.{LibCode}
use Rattle.lib_tree.specs.declared.fault.LibCode.TheVariants as code
use Rattle.lib_tree.specs.declared.partial.BlockHead.{BlockHead}
use Rattle.lib_tree.specs.declared.partial.BlockHead.TheVariants as block
use Rattle.lib_tree.specs.declared.partial.ItemPart.{ItemPart}
use Rattle.lib_tree.specs.declared.partial.ItemPart.TheVariants as part
use Rattle.lib_tree.specs.declared.partial.Partial.{Partial}
use Rattle.lib_tree.specs.declared.partial.Partial.TheVariants as partial
use Rattle.lib_tree.specs.declared.partial.PortHead.{PortHead}
use Rattle.lib_tree.specs.declared.partial.PortHead.TheVariants as port
use Rattle.lib_tree.specs.declared.partial.RamHead.{RamHead}
use Rattle.lib_tree.specs.declared.partial.RamHead.TheVariants as ram
use Rattle.lib_tree.specs.declared.partial.SettingPart.{SettingPart}
use Rattle.lib_tree.specs.declared.partial.SettingPart.TheVariants as wants
use Rattle.lib_tree.specs.declared.partial.Step.{Step}
use Rattle.lib_tree.specs.declared.partial.Step.TheVariants as step
use Rattle.lib_tree.specs.declared.partial.Wanted.{Wanted}
use Rattle.lib_tree.specs.declared.partial.Wanted.TheVariants as wanted
use Rattle.lib_tree.specs.declared.statement.Item.TheVariants as item
use Rattle.lib_tree.specs.declared.statement.Place.{Place}
use Rattle.lib_tree.specs.declared.statement.Place.TheVariants as place
use Rattle.lib_tree.specs.declared.statement.Scope.TheVariants as scope
use Rattle.lib_tree.specs.declared.statement.Setting.TheVariants as setting
use Rattle.lib_tree.specs.declared.statement.Size.{Size}
use Rattle.lib_tree.specs.declared.statement.Size.TheVariants as size
use Rattle.lib_tree.specs.declared.statement.Statement.{Statement}
use Rattle.lib_tree.specs.declared.statement.Statement.TheVariants as statement
use Rattle.lib_tree.specs.declared.statement.Targets.TheVariants as targets
use Rattle.lib_tree.specs.declared.token.Token.{Token}
use Rattle.lib_tree.specs.declared.token.Token.TheVariants as token
use Rattle.lib_tree.specs.declared.token.Word.{Word}
use Rattle.lib_tree.specs.declared.token.Word.TheVariants as word

infixl 10 ◌>>=◌
abbrev pub ◌>>=◌ : {A B E : Type 0} → Result A E → (A → Result B E) → Result B E
(Ok x) >>= f = f x
(Err e) >>= f = Err e

-- what a function returned is what it is to, unless memory ran out
abbrev pub Fails : {X : Type 0} → LibCode → Result X LibCode → Type 0
Fails code.Memory r = Unit {0}
Fails c r = r ≡ Err c

abbrev pub Gives : {X : Type 0} → Result X LibCode → Result X LibCode → Type 0
Gives (Ok x) r = r ≡ Ok x
Gives (Err c) r = Fails c r

-- the fault of a token that its place does not have
abbrev pub refusal : Wanted → Token → LibCode
refusal wanted.Number t = code.BadNumber
refusal wanted.Words (token.Ram line) = code.UnknownWord
refusal wanted.Words (token.Word w) = code.UnknownWord
refusal wanted.WordsOrNumber (token.Ram line) = code.UnknownWord
refusal wanted.WordsOrNumber (token.Word w) = code.UnknownWord
refusal wanted.WordsOrNumber (token.Number n) = code.BadNumber
refusal wanted.WordsOrNumber token.Large = code.BadNumber
refusal wanted.MarksOrNumber (token.Number n) = code.BadNumber
refusal wanted.MarksOrNumber token.Large = code.BadNumber
refusal w t = code.Token

abbrev pub refused : Wanted → Token → Result Step LibCode
refused w t = Err (refusal w t)

abbrev pub more : Partial → Result Step LibCode
more p = Ok (step.More p)

abbrev pub done : Statement → Result Step LibCode
done s = Ok (step.Done s)

-- a statement that wants a semicolon
abbrev pub ended : Statement → Step
ended s = step.More (partial.Ended s)

abbrev pub nonzero : ℕ → Partial → Result Step LibCode
nonzero n p = if n == 0 then Err code.BadNumber else more p

abbrev pub ram_next : RamHead → Token → Result Step LibCode
ram_next (ram.Class line) (token.Word (word.Class class)) = more (partial.Ram (ram.Name line class))
ram_next (ram.Class line) t = refused wanted.Words t
ram_next (ram.Name line class) (token.Id name) = more (partial.Ram (ram.Open line class name))
ram_next (ram.Name line class) t = refused wanted.Marks t
ram_next (ram.Open line class name) token.Open = done (statement.Ram line class name)
ram_next (ram.Open line class name) t = refused wanted.Marks t

abbrev pub block_next : BlockHead → Token → Result Step LibCode
block_next (block.Name s) (token.Text name) = more (partial.Block (block.Value s name))
block_next (block.Name s) t = refused wanted.Marks t
block_next (block.Value s name) (token.Number n) = more (partial.Block (block.Open s (record { name = name; value = value.Number n })))
block_next (block.Value s name) (token.Text t) = more (partial.Block (block.Open s (record { name = name; value = value.Text t })))
block_next (block.Value s name) t = refused wanted.MarksOrNumber t
block_next (block.Open s choice) token.Open = done (statement.Block s choice)
block_next (block.Open s choice) t = refused wanted.Marks t

abbrev pub how_widths : List ℕ → Token → Result Step LibCode
how_widths [] t = refused wanted.Number t
how_widths (n ∷ ns) (token.Word word.PerPort) = Ok (ended (statement.Item (item.Widths (n ∷ ns) true)))
how_widths (n ∷ ns) (token.Word word.Global) = Ok (ended (statement.Item (item.Widths (n ∷ ns) false)))
how_widths (n ∷ ns) t = refused wanted.WordsOrNumber t

abbrev pub widths_next : List ℕ → Token → Result Step LibCode
widths_next ns (token.Number n) = nonzero n (partial.Item (part.Widths (ns ++ n ∷ [])))
widths_next ns t = how_widths ns t

abbrev pub sized : Size → ℕ → Result Step LibCode
sized size.Abits n = Ok (ended (statement.Item (item.Size size.Abits n)))
sized size.Width n = nonzero n (partial.Ended (statement.Item (item.Size size.Width n)))
sized size.Byte n = nonzero n (partial.Ended (statement.Item (item.Size size.Byte n)))
sized size.Cost n = Ok (ended (statement.Item (item.Size size.Cost n)))

abbrev pub item_next : ItemPart → Token → Result Step LibCode
item_next (part.Number s) (token.Number n) = sized s n
item_next (part.Number s) t = refused wanted.Number t
item_next (part.Widths ns) t = widths_next ns t
item_next part.Init (token.Word (word.Fill f)) = Ok (ended (statement.Item (item.Init f)))
item_next part.Init t = refused wanted.Words t
item_next part.Style (token.Text t) = Ok (ended (statement.Item (item.Style t)))
item_next part.Style t = refused wanted.Marks t

abbrev pub opened : PortKind → List (List ℕ) → Result Step LibCode
opened kind [] = Err code.Token
opened kind (n ∷ ns) = done (statement.Port kind (n ∷ ns))

abbrev pub names_next : PortKind → List (List ℕ) → Token → Result Step LibCode
names_next kind ns (token.Text n) = more (partial.Port (port.Names kind (ns ++ n ∷ [])))
names_next kind ns token.Open = opened kind ns
names_next kind ns t = refused wanted.Marks t

abbrev pub port_next : PortHead → Token → Result Step LibCode
port_next port.Kind (token.Word (word.Kind kind)) = more (partial.Port (port.Names kind []))
port_next port.Kind t = refused wanted.Words t
port_next (port.Names kind ns) t = names_next kind ns t

abbrev pub trans_end : List (List ℕ) → Token → Result Step LibCode
trans_end [] (token.Word word.All) = more (partial.Setting wants.TransAll)
trans_end [] t = refused wanted.Words t
trans_end (n ∷ ns) (token.Word (word.Seen s)) = Ok (ended (statement.Setting (setting.Wrtrans (targets.Named (n ∷ ns)) s)))
trans_end (n ∷ ns) t = refused wanted.Words t

abbrev pub trans_next : List (List ℕ) → Token → Result Step LibCode
trans_next ns (token.Text n) = more (partial.Setting (wants.Trans (ns ++ n ∷ [])))
trans_next ns t = trans_end ns t

abbrev pub prio_end : List (List ℕ) → Token → Result Step LibCode
prio_end [] (token.Word word.All) = Ok (ended (statement.Setting (setting.Wrprio targets.All)))
prio_end [] t = refused wanted.Words t
prio_end (n ∷ ns) token.Semicolon = done (statement.Setting (setting.Wrprio (targets.Named (n ∷ ns))))
prio_end (n ∷ ns) t = refused wanted.Marks t

abbrev pub prio_next : List (List ℕ) → Token → Result Step LibCode
prio_next ns (token.Text n) = more (partial.Setting (wants.Prio (ns ++ n ∷ [])))
prio_next ns t = prio_end ns t

abbrev pub port_widths_end : Bool → List ℕ → Token → Result Step LibCode
port_widths_end tied [] t = refused wanted.Number t
port_widths_end tied (n ∷ ns) token.Semicolon = done (statement.Setting (setting.Width tied (n ∷ ns)))
port_widths_end tied (n ∷ ns) t = refused wanted.MarksOrNumber t

abbrev pub port_widths_next : Bool → List ℕ → Token → Result Step LibCode
port_widths_next tied ns (token.Number n) = nonzero n (partial.Setting (wants.Widths tied (ns ++ n ∷ [])))
port_widths_next tied ns t = port_widths_end tied ns t

abbrev pub port_width_next : Token → Result Step LibCode
port_width_next (token.Word word.Tied) = more (partial.Setting (wants.Widths true []))
port_width_next (token.Number n) = nonzero n (partial.Setting (wants.Widths false (n ∷ [])))
port_width_next t = refused wanted.WordsOrNumber t

abbrev pub own_in : Token → Result OwnWrite LibCode
own_in (token.Word word.Undefined) = Ok own.Undefined
own_in (token.Word word.NoChange) = Ok own.NoChange
own_in (token.Word (word.Seen seen.Old)) = Ok own.Old
own_in (token.Word (word.Seen seen.New)) = Ok own.New
own_in (token.Word word.NewOnly) = Ok own.NewOnly
own_in t = Err (refusal wanted.Words t)

abbrev pub fill_in : Token → Result Fill LibCode
fill_in (token.Word (word.Fill f)) = Ok f
fill_in t = Err (refusal wanted.Words t)

abbrev pub gate_next : Fill → Token → Result Step LibCode
gate_next f (token.Word (word.Gate g)) = Ok (ended (statement.Setting (setting.Rdsrst f (Some g))))
gate_next f token.Semicolon = done (statement.Setting (setting.Rdsrst f None))
gate_next f t = refused wanted.Words t

abbrev pub setting_next : SettingPart → Token → Result Step LibCode
setting_next wants.Edge (token.Word (word.Edge e)) = Ok (ended (statement.Setting (setting.Clock e)))
setting_next wants.Edge t = refused wanted.Words t
setting_next wants.Own t = own_in t >>= λ o. Ok (ended (statement.Setting (setting.Rdwr o)))
setting_next (wants.Trans ns) t = trans_next ns t
setting_next wants.TransAll (token.Word (word.Seen s)) = Ok (ended (statement.Setting (setting.Wrtrans targets.All s)))
setting_next wants.TransAll t = refused wanted.Words t
setting_next (wants.Prio ns) t = prio_next ns t
setting_next wants.SrstFill t = fill_in t >>= λ f. more (partial.Setting (wants.SrstGate f))
setting_next (wants.SrstGate f) t = gate_next f t
setting_next wants.ArstFill t = fill_in t >>= λ f. Ok (ended (statement.Setting (setting.Rdarst f)))
setting_next wants.StartFill t = fill_in t >>= λ f. Ok (ended (statement.Setting (setting.Rdinit f)))
setting_next wants.Width t = port_width_next t
setting_next (wants.Widths tied ns) t = port_widths_next tied ns t

abbrev pub next : Partial → Token → Result Step LibCode
next (partial.Ram head) t = ram_next head t
next (partial.Item p) t = item_next p t
next (partial.Block head) t = block_next head t
next (partial.Port head) t = port_next head t
next (partial.Setting p) t = setting_next p t
next (partial.Ended s) token.Semicolon = done s
next (partial.Ended s) t = refused wanted.Marks t

abbrev pub size_of : Word → Option Size
size_of word.Abits = Some size.Abits
size_of (word.Property property.Width) = Some size.Width
size_of word.Byte = Some size.Byte
size_of word.Cost = Some size.Cost
size_of w = None

abbrev pub begin_item : Word → Option Partial
begin_item word.Abits = Some (partial.Item (part.Number size.Abits))
begin_item (word.Property property.Width) = Some (partial.Item (part.Number size.Width))
begin_item word.Byte = Some (partial.Item (part.Number size.Byte))
begin_item word.Cost = Some (partial.Item (part.Number size.Cost))
begin_item word.Widths = Some (partial.Item (part.Widths []))
begin_item word.Init = Some (partial.Item part.Init)
begin_item word.RamOption = Some (partial.Block (block.Name scope.Ram))
begin_item w = None

abbrev pub begin_in_ram : Word → Option Partial
begin_in_ram word.Style = Some (partial.Item part.Style)
begin_in_ram word.Port = Some (partial.Port port.Kind)
begin_in_ram w = begin_item w

abbrev pub begin_setting : Property → Partial
begin_setting property.Clock = partial.Setting wants.Edge
begin_setting property.Clken = partial.Ended (statement.Setting setting.Clken)
begin_setting property.Rden = partial.Ended (statement.Setting setting.Rden)
begin_setting property.Rdwr = partial.Setting wants.Own
begin_setting property.Wrtrans = partial.Setting (wants.Trans [])
begin_setting property.Wrprio = partial.Setting (wants.Prio [])
begin_setting property.Rdsrst = partial.Setting wants.SrstFill
begin_setting property.Rdarst = partial.Setting wants.ArstFill
begin_setting property.Rdinit = partial.Setting wants.StartFill
begin_setting property.WrbeSeparate = partial.Ended (statement.Setting setting.WrbeSeparate)
begin_setting property.Width = partial.Setting wants.Width

abbrev pub begin_in_port : PortKind → Word → Result Partial LibCode
begin_in_port kind word.RamOption = Ok (partial.Block (block.Name scope.Ram))
begin_in_port kind word.PortOption = Ok (partial.Block (block.Name scope.Port))
begin_in_port kind (word.Property p) = if has_property kind p then Ok (begin_setting p) else Err code.NotForKind
begin_in_port kind w = Err code.UnknownWord

abbrev pub known : Option Partial → Result Partial LibCode
known None = Err code.UnknownWord
known (Some p) = Ok p

abbrev pub begin_word : Place → Word → Result Partial LibCode
begin_word place.Outside w = Err code.UnknownWord
begin_word place.Ram w = known (begin_in_ram w)
begin_word (place.Options depth) w = known (begin_item w)
begin_word (place.Port kind depth) w = begin_in_port kind w

abbrev pub begin_inside : Place → Token → Result Step LibCode
begin_inside p token.Close = done statement.End
begin_inside p (token.Word w) = begin_word p w >>= more
begin_inside p t = refused wanted.Words t

abbrev pub begin : Place → Token → Result Step LibCode
begin place.Outside (token.Ram line) = more (partial.Ram (ram.Class line))
begin place.Outside t = refused wanted.Words t
begin place.Ram t = begin_inside place.Ram t
begin (place.Options depth) t = begin_inside (place.Options depth) t
begin (place.Port kind depth) t = begin_inside (place.Port kind depth) t

abbrev pub advance : Place → Option Partial → Token → Result Step LibCode
advance p None t = begin p t
advance p (Some q) t = next q t
