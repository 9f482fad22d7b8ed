-- What is spelled so far: each token that a statement takes is the next of its spelling.
use Rattle.std.proofs.Common.{◌≡◌, ℕ, Bool, true, false, List, [], ◌∷◌, ◌++◌, Some, None, Result, Ok, Err, refl, sym, ap, subst, ◌∙◌, append_assoc}
use Rattle.std.specs.Prelude.{◌==◌, ◌&&◌, cond}
use Rattle.std.specs.List.{list_all}
use Rattle.std.proofs.lemmas.List.{map-append}
use Rattle.std.proofs.lemmas.List.Folds.{list_all-append}
use Rattle.lib_core.specs.declared.library.OwnWrite.TheVariants as own
use Rattle.lib_core.specs.declared.library.PortKind.{PortKind}
use Rattle.lib_core.specs.declared.library.Property.{Property}
use Rattle.lib_core.specs.declared.library.Property.TheVariants as property
use Rattle.lib_core.specs.declared.library.Seen.TheVariants as seen
use Rattle.lib_core.specs.declared.library.Value.TheVariants as value
use Rattle.lib_tree.specs.declared.fault.LibCode.{LibCode}
use Rattle.lib_tree.specs.declared.fault.LibCode.TheVariants as code
use Rattle.lib_tree.specs.declared.partial.BlockHead.{BlockHead}
use Rattle.lib_tree.specs.declared.partial.BlockHead.TheVariants as block
use Rattle.lib_tree.specs.declared.partial.ItemPart.{ItemPart}
use Rattle.lib_tree.specs.declared.partial.ItemPart.TheVariants as part
use Rattle.lib_tree.specs.declared.partial.Partial.{Partial}
use Rattle.lib_tree.specs.declared.partial.Partial.TheVariants as partial
use Rattle.lib_tree.specs.declared.partial.PortHead.{PortHead}
use Rattle.lib_tree.specs.declared.partial.PortHead.TheVariants as port
use Rattle.lib_tree.specs.declared.partial.RamHead.{RamHead}
use Rattle.lib_tree.specs.declared.partial.RamHead.TheVariants as ram
use Rattle.lib_tree.specs.declared.partial.SettingPart.{SettingPart}
use Rattle.lib_tree.specs.declared.partial.SettingPart.TheVariants as wants
use Rattle.lib_tree.specs.declared.partial.Step.{Step}
use Rattle.lib_tree.specs.declared.partial.Step.TheVariants as step
use Rattle.lib_tree.specs.declared.statement.Item.TheVariants as item
use Rattle.lib_tree.specs.declared.statement.Setting.TheVariants as setting
use Rattle.lib_tree.specs.declared.statement.Size.{Size}
use Rattle.lib_tree.specs.declared.statement.Size.TheVariants as size
use Rattle.lib_tree.specs.declared.statement.Statement.{Statement}
use Rattle.lib_tree.specs.declared.statement.Statement.TheVariants as statement
use Rattle.lib_tree.specs.declared.statement.Targets.TheVariants as targets
use Rattle.lib_tree.specs.declared.token.Token.{Token}
use Rattle.lib_tree.specs.declared.token.Token.TheVariants as token
use Rattle.lib_tree.specs.declared.token.Word.TheVariants as word
use Rattle.lib_tree.specs.Grammar.{Sort, OfBlock, OfItem, OfPort, OfRam, OfSetting, OfStyle, argument_tokens, is_nonzero, is_proper, item_tokens, numbers, property_of, scope_word, size_word, sort_of, spelling, texts, tied_tokens, value_token}
use Rattle.lib_tree.specs.Machine.{block_next, ended, how_widths, item_next, more, names_next, next, nonzero, opened, port_next, port_width_next, port_widths_end, port_widths_next, prio_end, prio_next, ram_next, setting_next, sized, trans_end, trans_next, widths_next}

abbrev pub wanted_property : SettingPart → Property
wanted_property wants.Edge = property.Clock
wanted_property wants.Own = property.Rdwr
wanted_property (wants.Trans ns) = property.Wrtrans
wanted_property wants.TransAll = property.Wrtrans
wanted_property (wants.Prio ns) = property.Wrprio
wanted_property wants.SrstFill = property.Rdsrst
wanted_property (wants.SrstGate f) = property.Rdsrst
wanted_property wants.ArstFill = property.Rdarst
wanted_property wants.StartFill = property.Rdinit
wanted_property wants.Width = property.Width
wanted_property (wants.Widths tied ns) = property.Width

abbrev pub arguments_so_far : SettingPart → List Token
arguments_so_far wants.Edge = []
arguments_so_far wants.Own = []
arguments_so_far (wants.Trans ns) = texts ns
arguments_so_far wants.TransAll = token.Word word.All ∷ []
arguments_so_far (wants.Prio ns) = texts ns
arguments_so_far wants.SrstFill = []
arguments_so_far (wants.SrstGate f) = token.Word (word.Fill f) ∷ []
arguments_so_far wants.ArstFill = []
arguments_so_far wants.StartFill = []
arguments_so_far wants.Width = []
arguments_so_far (wants.Widths tied ns) = tied_tokens tied ++ numbers ns

-- a statement without its semicolon
abbrev pub unended : Statement → List Token
unended (statement.Item i) = item_tokens i
unended (statement.Setting s) = token.Word (word.Property (property_of s)) ∷ argument_tokens s
unended s = []

abbrev pub so_far : Partial → List Token
so_far (partial.Ram (ram.Class line)) = token.Ram line ∷ []
so_far (partial.Ram (ram.Name line c)) = token.Ram line ∷ token.Word (word.Class c) ∷ []
so_far (partial.Ram (ram.Open line c n)) = token.Ram line ∷ token.Word (word.Class c) ∷ token.Id n ∷ []
so_far (partial.Item (part.Number s)) = token.Word (size_word s) ∷ []
so_far (partial.Item (part.Widths ns)) = token.Word word.Widths ∷ numbers ns
so_far (partial.Item part.Init) = token.Word word.Init ∷ []
so_far (partial.Item part.Style) = token.Word word.Style ∷ []
so_far (partial.Block (block.Name s)) = token.Word (scope_word s) ∷ []
so_far (partial.Block (block.Value s n)) = token.Word (scope_word s) ∷ token.Text n ∷ []
so_far (partial.Block (block.Open s c)) = token.Word (scope_word s) ∷ token.Text c.name ∷ value_token c.value ∷ []
so_far (partial.Port port.Kind) = token.Word word.Port ∷ []
so_far (partial.Port (port.Names k ns)) = token.Word word.Port ∷ token.Word (word.Kind k) ∷ texts ns
so_far (partial.Setting p) = token.Word (word.Property (wanted_property p)) ∷ arguments_so_far p
so_far (partial.Ended s) = unended s

abbrev pub sort_so_far : Partial → Sort
sort_so_far (partial.Ram h) = OfRam
sort_so_far (partial.Item part.Style) = OfStyle
sort_so_far (partial.Item p) = OfItem
sort_so_far (partial.Block (block.Name s)) = OfBlock s
sort_so_far (partial.Block (block.Value s n)) = OfBlock s
sort_so_far (partial.Block (block.Open s c)) = OfBlock s
sort_so_far (partial.Port h) = OfPort
sort_so_far (partial.Setting p) = OfSetting (wanted_property p)
sort_so_far (partial.Ended s) = sort_of s

-- a statement that a semicolon ends
abbrev pub is_ended : Statement → Bool
is_ended (statement.Item i) = true
is_ended (statement.Setting s) = true
is_ended s = false

abbrev pub proper_so_far : Partial → Bool
proper_so_far (partial.Item (part.Widths ns)) = list_all is_nonzero ns
proper_so_far (partial.Setting (wants.Widths tied ns)) = list_all is_nonzero ns
proper_so_far (partial.Ended s) = is_ended s && is_proper s
proper_so_far p = true

pub record Goes (p : Partial) (t : Token) (q : Partial) : Type 0 where
  pub spelled : so_far q ≡ so_far p ++ t ∷ []
  pub sort : sort_so_far q ≡ sort_so_far p
  pub proper : proper_so_far p ≡ true → proper_so_far q ≡ true

pub record Ends (p : Partial) (t : Token) (s : Statement) : Type 0 where
  pub spelled : proper_so_far p ≡ true → spelling s ≡ so_far p ++ t ∷ []
  pub sort : sort_of s ≡ sort_so_far p
  pub proper : proper_so_far p ≡ true → is_proper s ≡ true

abbrev pub Stepped : Partial → Token → Step → Type 0
Stepped p t (step.More q) = Goes p t q
Stepped p t (step.Done s) = Ends p t s

abbrev ok_step : Step → Result Step LibCode
ok_step x = Ok x

took : (p : Partial) (t : Token) (y x : Step) → Stepped p t y → ok_step y ≡ Ok x → Stepped p t x
took p t y x h e = let same : y ≡ x = cc in subst (λ (z : Step). Stepped p t z) same h

-- ---- lists that grow

all_more : (ns : List ℕ) (n : ℕ) → is_nonzero n ≡ true → list_all is_nonzero ns ≡ true → list_all is_nonzero (ns ++ n ∷ []) ≡ true
all_more ns n h k = list_all-append is_nonzero ns (n ∷ []) ∙ rw (h, k) refl

-- a number that may stand is not 0
nonzero_ok : (n : ℕ) (q : Partial) (x : Step) (b : Bool) → (n == 0) ≡ b → cond b (Err code.BadNumber) (more q) ≡ Ok x → (is_nonzero n ≡ true) × (step.More q ≡ x)
nonzero_ok n q x true h e = absurd cc
nonzero_ok n q x false h e = (rw h refl, cc)

took_number : (p : Partial) (t : Token) (n : ℕ) (q : Partial) (x : Step) → (is_nonzero n ≡ true → Goes p t q) → nonzero n q ≡ Ok x → Stepped p t x
took_number p t n q x h e = let k = nonzero_ok n q x (n == 0) refl e in subst (λ (z : Step). Stepped p t z) k.1 (h k.0)

-- ---- steps

ram_steps : (h : RamHead) (t : Token) (x : Step) → ram_next h t ≡ Ok x → Stepped (partial.Ram h) t x
ram_steps (ram.Class line) (token.Word (word.Class c)) x e = took _ _ (step.More (partial.Ram (ram.Name line c))) x (record { spelled = refl; sort = refl; proper = λ k. k }) e
ram_steps (ram.Class line) t x e = absurd cc
ram_steps (ram.Name line c) (token.Id n) x e = took _ _ (step.More (partial.Ram (ram.Open line c n))) x (record { spelled = refl; sort = refl; proper = λ k. k }) e
ram_steps (ram.Name line c) t x e = absurd cc
ram_steps (ram.Open line c n) token.Open x e = took _ _ (step.Done (statement.Ram line c n)) x (record { spelled = λ k. refl; sort = refl; proper = λ k. refl }) e
ram_steps (ram.Open line c n) t x e = absurd cc

block_steps : (h : BlockHead) (t : Token) (x : Step) → block_next h t ≡ Ok x → Stepped (partial.Block h) t x
block_steps (block.Name s) (token.Text n) x e = took _ _ (step.More (partial.Block (block.Value s n))) x (record { spelled = refl; sort = refl; proper = λ k. k }) e
block_steps (block.Name s) t x e = absurd cc
block_steps (block.Value s n) (token.Number v) x e = took _ _ (step.More (partial.Block (block.Open s (record { name = n; value = value.Number v })))) x (record { spelled = refl; sort = refl; proper = λ k. k }) e
block_steps (block.Value s n) (token.Text v) x e = took _ _ (step.More (partial.Block (block.Open s (record { name = n; value = value.Text v })))) x (record { spelled = refl; sort = refl; proper = λ k. k }) e
block_steps (block.Value s n) t x e = absurd cc
block_steps (block.Open s c) token.Open x e = took _ _ (step.Done (statement.Block s c)) x (record { spelled = λ k. refl; sort = refl; proper = λ k. refl }) e
block_steps (block.Open s c) t x e = absurd cc

sized_steps : (s : Size) (n : ℕ) (x : Step) → sized s n ≡ Ok x → Stepped (partial.Item (part.Number s)) (token.Number n) x
sized_steps size.Abits n x e = took _ _ (ended (statement.Item (item.Size size.Abits n))) x (record { spelled = refl; sort = refl; proper = λ k. refl }) e
sized_steps size.Cost n x e = took _ _ (ended (statement.Item (item.Size size.Cost n))) x (record { spelled = refl; sort = refl; proper = λ k. refl }) e
sized_steps size.Width n x e = took_number _ _ n (partial.Ended (statement.Item (item.Size size.Width n))) x (λ h. record { spelled = refl; sort = refl; proper = λ k. h }) e
sized_steps size.Byte n x e = took_number _ _ n (partial.Ended (statement.Item (item.Size size.Byte n))) x (λ h. record { spelled = refl; sort = refl; proper = λ k. h }) e

how_steps : (ns : List ℕ) (t : Token) (x : Step) → how_widths ns t ≡ Ok x → Stepped (partial.Item (part.Widths ns)) t x
how_steps [] t x e = absurd cc
how_steps (n ∷ ns) (token.Word word.PerPort) x e = took _ _ (ended (statement.Item (item.Widths (n ∷ ns) true))) x (record { spelled = refl; sort = refl; proper = λ k. k }) e
how_steps (n ∷ ns) (token.Word word.Global) x e = took _ _ (ended (statement.Item (item.Widths (n ∷ ns) false))) x (record { spelled = refl; sort = refl; proper = λ k. k }) e
how_steps (n ∷ ns) t x e = absurd cc

widths_steps : (ns : List ℕ) (t : Token) (x : Step) → widths_next ns t ≡ Ok x → Stepped (partial.Item (part.Widths ns)) t x
widths_steps ns (token.Number n) x e = took_number _ _ n (partial.Item (part.Widths (ns ++ n ∷ []))) x (λ h. record { spelled = ap (λ (ts : List Token). token.Word word.Widths ∷ ts) (map-append (λ m. token.Number m) ns (n ∷ [])); sort = refl; proper = λ k. all_more ns n h k }) e
widths_steps ns t x e = how_steps ns _ x e

item_steps : (p : ItemPart) (t : Token) (x : Step) → item_next p t ≡ Ok x → Stepped (partial.Item p) t x
item_steps (part.Number s) (token.Number n) x e = sized_steps s n x e
item_steps (part.Number s) t x e = absurd cc
item_steps (part.Widths ns) t x e = widths_steps ns t x e
item_steps part.Init (token.Word (word.Fill f)) x e = took _ _ (ended (statement.Item (item.Init f))) x (record { spelled = refl; sort = refl; proper = λ k. refl }) e
item_steps part.Init t x e = absurd cc
item_steps part.Style (token.Text s) x e = took _ _ (ended (statement.Item (item.Style s))) x (record { spelled = refl; sort = refl; proper = λ k. refl }) e
item_steps part.Style t x e = absurd cc

opened_steps : (kind : PortKind) (ns : List (List ℕ)) (x : Step) → opened kind ns ≡ Ok x → Stepped (partial.Port (port.Names kind ns)) token.Open x
opened_steps kind [] x e = absurd cc
opened_steps kind (n ∷ ns) x e = took _ _ (step.Done (statement.Port kind (n ∷ ns))) x (record { spelled = λ k. refl; sort = refl; proper = λ k. refl }) e

names_steps : (kind : PortKind) (ns : List (List ℕ)) (t : Token) (x : Step) → names_next kind ns t ≡ Ok x → Stepped (partial.Port (port.Names kind ns)) t x
names_steps kind ns (token.Text n) x e = took _ _ (step.More (partial.Port (port.Names kind (ns ++ n ∷ [])))) x (record { spelled = ap (λ (ts : List Token). token.Word word.Port ∷ token.Word (word.Kind kind) ∷ ts) (map-append (λ m. token.Text m) ns (n ∷ [])); sort = refl; proper = λ k. k }) e
names_steps kind ns token.Open x e = opened_steps kind ns x e
names_steps kind ns t x e = absurd cc

port_steps : (h : PortHead) (t : Token) (x : Step) → port_next h t ≡ Ok x → Stepped (partial.Port h) t x
port_steps port.Kind (token.Word (word.Kind k)) x e = took _ _ (step.More (partial.Port (port.Names k []))) x (record { spelled = refl; sort = refl; proper = λ k. k }) e
port_steps port.Kind t x e = absurd cc
port_steps (port.Names kind ns) t x e = names_steps kind ns t x e

trans_end_steps : (ns : List (List ℕ)) (t : Token) (x : Step) → trans_end ns t ≡ Ok x → Stepped (partial.Setting (wants.Trans ns)) t x
trans_end_steps [] (token.Word word.All) x e = took _ _ (step.More (partial.Setting wants.TransAll)) x (record { spelled = refl; sort = refl; proper = λ k. k }) e
trans_end_steps [] t x e = absurd cc
trans_end_steps (n ∷ ns) (token.Word (word.Seen s)) x e = took _ _ (ended (statement.Setting (setting.Wrtrans (targets.Named (n ∷ ns)) s))) x (record { spelled = refl; sort = refl; proper = λ k. refl }) e
trans_end_steps (n ∷ ns) t x e = absurd cc

trans_steps : (ns : List (List ℕ)) (t : Token) (x : Step) → trans_next ns t ≡ Ok x → Stepped (partial.Setting (wants.Trans ns)) t x
trans_steps ns (token.Text n) x e = took _ _ (step.More (partial.Setting (wants.Trans (ns ++ n ∷ [])))) x (record { spelled = ap (λ (ts : List Token). token.Word (word.Property property.Wrtrans) ∷ ts) (map-append (λ m. token.Text m) ns (n ∷ [])); sort = refl; proper = λ k. k }) e
trans_steps ns t x e = trans_end_steps ns _ x e

prio_end_steps : (ns : List (List ℕ)) (t : Token) (x : Step) → prio_end ns t ≡ Ok x → Stepped (partial.Setting (wants.Prio ns)) t x
prio_end_steps [] (token.Word word.All) x e = took _ _ (ended (statement.Setting (setting.Wrprio targets.All))) x (record { spelled = refl; sort = refl; proper = λ k. refl }) e
prio_end_steps [] t x e = absurd cc
prio_end_steps (n ∷ ns) token.Semicolon x e = took _ _ (step.Done (statement.Setting (setting.Wrprio (targets.Named (n ∷ ns))))) x (record { spelled = λ k. refl; sort = refl; proper = λ k. refl }) e
prio_end_steps (n ∷ ns) t x e = absurd cc

prio_steps : (ns : List (List ℕ)) (t : Token) (x : Step) → prio_next ns t ≡ Ok x → Stepped (partial.Setting (wants.Prio ns)) t x
prio_steps ns (token.Text n) x e = took _ _ (step.More (partial.Setting (wants.Prio (ns ++ n ∷ [])))) x (record { spelled = ap (λ (ts : List Token). token.Word (word.Property property.Wrprio) ∷ ts) (map-append (λ m. token.Text m) ns (n ∷ [])); sort = refl; proper = λ k. k }) e
prio_steps ns t x e = prio_end_steps ns _ x e

port_end_steps : (tied : Bool) (ns : List ℕ) (t : Token) (x : Step) → port_widths_end tied ns t ≡ Ok x → Stepped (partial.Setting (wants.Widths tied ns)) t x
port_end_steps tied [] t x e = absurd cc
port_end_steps tied (n ∷ ns) token.Semicolon x e = took _ _ (step.Done (statement.Setting (setting.Width tied (n ∷ ns)))) x (record { spelled = λ k. refl; sort = refl; proper = λ k. k }) e
port_end_steps tied (n ∷ ns) t x e = absurd cc

port_widths_steps : (tied : Bool) (ns : List ℕ) (t : Token) (x : Step) → port_widths_next tied ns t ≡ Ok x → Stepped (partial.Setting (wants.Widths tied ns)) t x
port_widths_steps tied ns (token.Number n) x e =
    took_number _ _ n (partial.Setting (wants.Widths tied (ns ++ n ∷ []))) x
    (λ h. record { spelled = ap (λ (ts : List Token). token.Word (word.Property property.Width) ∷ (tied_tokens tied ++ ts)) (map-append (λ m. token.Number m) ns (n ∷ [])) ∙ ap (λ (ts : List Token). token.Word (word.Property property.Width) ∷ ts) (sym (append_assoc (tied_tokens tied) (numbers ns) (token.Number n ∷ []))); sort = refl; proper = λ k. all_more ns n h k }) e
port_widths_steps tied ns t x e = port_end_steps tied ns _ x e

port_width_steps : (t : Token) (x : Step) → port_width_next t ≡ Ok x → Stepped (partial.Setting wants.Width) t x
port_width_steps (token.Word word.Tied) x e = took _ _ (step.More (partial.Setting (wants.Widths true []))) x (record { spelled = refl; sort = refl; proper = λ k. refl }) e
port_width_steps (token.Number n) x e = took_number _ _ n (partial.Setting (wants.Widths false (n ∷ []))) x (λ h. record { spelled = refl; sort = refl; proper = λ k. rw h refl }) e
port_width_steps t x e = absurd cc

own_steps : (t : Token) (x : Step) → setting_next wants.Own t ≡ Ok x → Stepped (partial.Setting wants.Own) t x
own_steps (token.Word word.Undefined) x e = took _ _ (ended (statement.Setting (setting.Rdwr own.Undefined))) x (record { spelled = refl; sort = refl; proper = λ k. refl }) e
own_steps (token.Word word.NoChange) x e = took _ _ (ended (statement.Setting (setting.Rdwr own.NoChange))) x (record { spelled = refl; sort = refl; proper = λ k. refl }) e
own_steps (token.Word (word.Seen seen.Old)) x e = took _ _ (ended (statement.Setting (setting.Rdwr own.Old))) x (record { spelled = refl; sort = refl; proper = λ k. refl }) e
own_steps (token.Word (word.Seen seen.New)) x e = took _ _ (ended (statement.Setting (setting.Rdwr own.New))) x (record { spelled = refl; sort = refl; proper = λ k. refl }) e
own_steps (token.Word word.NewOnly) x e = took _ _ (ended (statement.Setting (setting.Rdwr own.NewOnly))) x (record { spelled = refl; sort = refl; proper = λ k. refl }) e
own_steps t x e = absurd cc

srst_steps : (t : Token) (x : Step) → setting_next wants.SrstFill t ≡ Ok x → Stepped (partial.Setting wants.SrstFill) t x
srst_steps (token.Word (word.Fill f)) x e = took _ _ (step.More (partial.Setting (wants.SrstGate f))) x (record { spelled = refl; sort = refl; proper = λ k. refl }) e
srst_steps t x e = absurd cc

arst_steps : (t : Token) (x : Step) → setting_next wants.ArstFill t ≡ Ok x → Stepped (partial.Setting wants.ArstFill) t x
arst_steps (token.Word (word.Fill f)) x e = took _ _ (ended (statement.Setting (setting.Rdarst f))) x (record { spelled = refl; sort = refl; proper = λ k. refl }) e
arst_steps t x e = absurd cc

start_steps : (t : Token) (x : Step) → setting_next wants.StartFill t ≡ Ok x → Stepped (partial.Setting wants.StartFill) t x
start_steps (token.Word (word.Fill f)) x e = took _ _ (ended (statement.Setting (setting.Rdinit f))) x (record { spelled = refl; sort = refl; proper = λ k. refl }) e
start_steps t x e = absurd cc

setting_steps : (p : SettingPart) (t : Token) (x : Step) → setting_next p t ≡ Ok x → Stepped (partial.Setting p) t x
setting_steps wants.Edge (token.Word (word.Edge d)) x e = took _ _ (ended (statement.Setting (setting.Clock d))) x (record { spelled = refl; sort = refl; proper = λ k. refl }) e
setting_steps wants.Edge t x e = absurd cc
setting_steps wants.Own t x e = own_steps t x e
setting_steps (wants.Trans ns) t x e = trans_steps ns t x e
setting_steps wants.TransAll (token.Word (word.Seen s)) x e = took _ _ (ended (statement.Setting (setting.Wrtrans targets.All s))) x (record { spelled = refl; sort = refl; proper = λ k. refl }) e
setting_steps wants.TransAll t x e = absurd cc
setting_steps (wants.Prio ns) t x e = prio_steps ns t x e
setting_steps wants.SrstFill t x e = srst_steps t x e
setting_steps (wants.SrstGate f) (token.Word (word.Gate g)) x e = took _ _ (ended (statement.Setting (setting.Rdsrst f (Some g)))) x (record { spelled = refl; sort = refl; proper = λ k. refl }) e
setting_steps (wants.SrstGate f) token.Semicolon x e = took _ _ (step.Done (statement.Setting (setting.Rdsrst f None))) x (record { spelled = λ k. refl; sort = refl; proper = λ k. refl }) e
setting_steps (wants.SrstGate f) t x e = absurd cc
setting_steps wants.ArstFill t x e = arst_steps t x e
setting_steps wants.StartFill t x e = start_steps t x e
setting_steps wants.Width t x e = port_width_steps t x e
setting_steps (wants.Widths tied ns) t x e = port_widths_steps tied ns t x e

ended_steps : (s : Statement) (x : Step) → ok_step (step.Done s) ≡ Ok x → Stepped (partial.Ended s) token.Semicolon x
ended_steps (statement.Item i) x e = took _ _ (step.Done (statement.Item i)) x (record { spelled = λ k. refl; sort = refl; proper = λ k. k }) e
ended_steps (statement.Setting s) x e = took _ _ (step.Done (statement.Setting s)) x (record { spelled = λ k. refl; sort = refl; proper = λ k. k }) e
ended_steps s x e = took _ _ (step.Done s) x (record { spelled = λ k. absurd cc; sort = refl; proper = λ k. absurd cc }) e

pub steps : (p : Partial) (t : Token) (x : Step) → next p t ≡ Ok x → Stepped p t x
steps (partial.Ram h) t x e = ram_steps h t x e
steps (partial.Item p) t x e = item_steps p t x e
steps (partial.Block h) t x e = block_steps h t x e
steps (partial.Port h) t x e = port_steps h t x e
steps (partial.Setting p) t x e = setting_steps p t x e
steps (partial.Ended s) token.Semicolon x e = ended_steps s x e
steps (partial.Ended s) t x e = absurd cc
