-- Each statement that may stand at a place is taken there token by token, and what has begun can be ended.
use Rattle.std.proofs.Common.{◌≡◌, ℕ, Bool, true, false, List, [], ◌∷◌, ◌++◌, Some, None, Ok, refl, sym, subst, append_assoc, append-nil}
use Rattle.std.specs.Prelude.{◌==◌, ◌&&◌, not}
use Rattle.std.specs.List.{list_all}
use Rattle.lib_core.specs.declared.library.Choice.{Choice}
use Rattle.lib_core.specs.declared.library.EdgeKind.TheVariants as edge
use Rattle.lib_core.specs.declared.library.Fill.TheVariants as fill
use Rattle.lib_core.specs.declared.library.OwnWrite.TheVariants as own
use Rattle.lib_core.specs.declared.library.PortKind.{PortKind}
use Rattle.lib_core.specs.declared.library.PortKind.TheVariants as kind
use Rattle.lib_core.specs.declared.library.RamClass.TheVariants as class
use Rattle.lib_core.specs.declared.library.Seen.{Seen}
use Rattle.lib_core.specs.declared.library.Seen.TheVariants as seen
use Rattle.lib_core.specs.declared.library.Value.{Value}
use Rattle.lib_core.specs.declared.library.Value.TheVariants as value
use Rattle.lib_tree.specs.declared.partial.BlockHead.{BlockHead}
use Rattle.lib_tree.specs.declared.partial.BlockHead.TheVariants as block
use Rattle.lib_tree.specs.declared.partial.ItemPart.{ItemPart}
use Rattle.lib_tree.specs.declared.partial.ItemPart.TheVariants as part
use Rattle.lib_tree.specs.declared.partial.Partial.{Partial}
use Rattle.lib_tree.specs.declared.partial.Partial.TheVariants as partial
use Rattle.lib_tree.specs.declared.partial.PortHead.{PortHead}
use Rattle.lib_tree.specs.declared.partial.PortHead.TheVariants as port
use Rattle.lib_tree.specs.declared.partial.RamHead.{RamHead}
use Rattle.lib_tree.specs.declared.partial.RamHead.TheVariants as ram
use Rattle.lib_tree.specs.declared.partial.SettingPart.{SettingPart}
use Rattle.lib_tree.specs.declared.partial.SettingPart.TheVariants as wants
use Rattle.lib_tree.specs.declared.partial.Step.TheVariants as step
use Rattle.lib_tree.specs.declared.statement.Item.TheVariants as item
use Rattle.lib_tree.specs.declared.statement.Place.{Place}
use Rattle.lib_tree.specs.declared.statement.Place.TheVariants as place
use Rattle.lib_tree.specs.declared.statement.Scope.{Scope}
use Rattle.lib_tree.specs.declared.statement.Scope.TheVariants as scope
use Rattle.lib_tree.specs.declared.statement.Setting.{Setting}
use Rattle.lib_tree.specs.declared.statement.Setting.TheVariants as setting
use Rattle.lib_tree.specs.declared.statement.Size.{Size}
use Rattle.lib_tree.specs.declared.statement.Size.TheVariants as size
use Rattle.lib_tree.specs.declared.statement.Statement.{Statement}
use Rattle.lib_tree.specs.declared.statement.Statement.TheVariants as statement
use Rattle.lib_tree.specs.declared.statement.Targets.TheVariants as targets
use Rattle.lib_tree.specs.declared.token.Token.{Token}
use Rattle.lib_tree.specs.declared.token.Token.TheVariants as token
use Rattle.lib_tree.specs.declared.token.Word.TheVariants as word
use Rattle.lib_tree.specs.Grammar.{argument_tokens, are_widths, is_nonempty, is_nonzero, is_proper, is_proper_item, is_proper_setting, may_stand, numbers, property_of, sharing_word, sort_of, spelling, texts, tied_tokens, value_token}
use Rattle.lib_tree.specs.Machine.{begin, begin_setting, next, nonzero}

-- the tokens end what has begun as the statement
pub data Completes : Partial → List Token → Statement → Type 0 where
  last : (p : Partial) (t : Token) (s : Statement) → next p t ≡ Ok (step.Done s) → Completes p (t ∷ []) s
  via : (p q : Partial) (t : Token) (ts : List Token) (s : Statement) → next p t ≡ Ok (step.More q) → Completes q ts s → Completes p (t ∷ ts) s

-- the tokens are the statement at the place
pub data Makes : Place → List Token → Statement → Type 0 where
  at_once : (pl : Place) (t : Token) (s : Statement) → begin pl t ≡ Ok (step.Done s) → Makes pl (t ∷ []) s
  from : (pl : Place) (p : Partial) (t : Token) (ts : List Token) (s : Statement) → begin pl t ≡ Ok (step.More p) → Completes p ts s → Makes pl (t ∷ ts) s

-- ---- lists that go on

both : (a b : Bool) → (a && b) ≡ true → (a ≡ true) × (b ≡ true)
both true b e = (refl, e)
both false b e = absurd cc

not_zero : (b : Bool) → not b ≡ true → b ≡ false
not_zero true h = absurd cc
not_zero false h = refl

takes_number : (n : ℕ) (q : Partial) → is_nonzero n ≡ true → nonzero n q ≡ Ok (step.More q)
takes_number n q h = rw (not_zero (n == 0) h) refl

semicolon : (s : Statement) → Completes (partial.Ended s) (token.Semicolon ∷ []) s
semicolon s = last (partial.Ended s) token.Semicolon s refl

widths_end : (ns : List ℕ) (b : Bool) → is_nonempty ns ≡ true → Completes (partial.Item (part.Widths ns)) (token.Word (sharing_word b) ∷ token.Semicolon ∷ []) (statement.Item (item.Widths ns b))
widths_end [] b h = absurd cc
widths_end (n ∷ ns) true h = via _ (partial.Ended (statement.Item (item.Widths (n ∷ ns) true))) _ _ _ refl (semicolon _)
widths_end (n ∷ ns) false h = via _ (partial.Ended (statement.Item (item.Widths (n ∷ ns) false))) _ _ _ refl (semicolon _)

more_of : {A : Type 0} (xs : List A) (x : A) (ys : List A) → xs ++ x ∷ ys ≡ (xs ++ x ∷ []) ++ ys
more_of xs x ys = sym (append_assoc xs (x ∷ []) ys)

widths_go : (ns ms : List ℕ) (b : Bool) → is_nonempty (ns ++ ms) ≡ true → list_all is_nonzero ms ≡ true
    → Completes (partial.Item (part.Widths ns)) (numbers ms ++ token.Word (sharing_word b) ∷ token.Semicolon ∷ []) (statement.Item (item.Widths (ns ++ ms) b))
widths_go ns [] b h k =
    subst (λ (xs : List ℕ). Completes (partial.Item (part.Widths ns)) (token.Word (sharing_word b) ∷ token.Semicolon ∷ []) (statement.Item (item.Widths xs b))) (sym (append-nil ns))
    (widths_end ns b (subst (λ (xs : List ℕ). is_nonempty xs ≡ true) (append-nil ns) h))
widths_go ns (m ∷ ms) b h k =
    let (m_ok, ms_ok) = both (is_nonzero m) (list_all is_nonzero ms) k in
    let same = more_of ns m ms in
    via _ (partial.Item (part.Widths (ns ++ m ∷ []))) _ _ _ (takes_number m (partial.Item (part.Widths (ns ++ m ∷ []))) m_ok)
    (subst (λ (xs : List ℕ). Completes (partial.Item (part.Widths (ns ++ m ∷ []))) (numbers ms ++ token.Word (sharing_word b) ∷ token.Semicolon ∷ []) (statement.Item (item.Widths xs b))) (sym same)
    (widths_go (ns ++ m ∷ []) ms b (subst (λ (xs : List ℕ). is_nonempty xs ≡ true) same h) ms_ok))

names_end : (k : PortKind) (ns : List (List ℕ)) → is_nonempty ns ≡ true → Completes (partial.Port (port.Names k ns)) (token.Open ∷ []) (statement.Port k ns)
names_end k [] h = absurd cc
names_end k (n ∷ ns) h = last _ _ _ refl

names_go : (k : PortKind) (ns ms : List (List ℕ)) → is_nonempty (ns ++ ms) ≡ true → Completes (partial.Port (port.Names k ns)) (texts ms ++ token.Open ∷ []) (statement.Port k (ns ++ ms))
names_go k ns [] h =
    subst (λ (xs : List (List ℕ)). Completes (partial.Port (port.Names k ns)) (token.Open ∷ []) (statement.Port k xs)) (sym (append-nil ns))
    (names_end k ns (subst (λ (xs : List (List ℕ)). is_nonempty xs ≡ true) (append-nil ns) h))
names_go k ns (m ∷ ms) h =
    let same = more_of ns m ms in
    via _ (partial.Port (port.Names k (ns ++ m ∷ []))) _ _ _ refl
    (subst (λ (xs : List (List ℕ)). Completes (partial.Port (port.Names k (ns ++ m ∷ []))) (texts ms ++ token.Open ∷ []) (statement.Port k xs)) (sym same)
    (names_go k (ns ++ m ∷ []) ms (subst (λ (xs : List (List ℕ)). is_nonempty xs ≡ true) same h)))

abbrev trans_of : List (List ℕ) → Seen → Statement
trans_of ns s = statement.Setting (setting.Wrtrans (targets.Named ns) s)

trans_stop : (ns : List (List ℕ)) (s : Seen) → is_nonempty ns ≡ true → Completes (partial.Setting (wants.Trans ns)) (token.Word (word.Seen s) ∷ token.Semicolon ∷ []) (trans_of ns s)
trans_stop [] s h = absurd cc
trans_stop (n ∷ ns) s h = via _ (partial.Ended (trans_of (n ∷ ns) s)) _ _ _ refl (semicolon _)

trans_go : (ns ms : List (List ℕ)) (s : Seen) → is_nonempty (ns ++ ms) ≡ true → Completes (partial.Setting (wants.Trans ns)) (texts ms ++ token.Word (word.Seen s) ∷ token.Semicolon ∷ []) (trans_of (ns ++ ms) s)
trans_go ns [] s h =
    subst (λ (xs : List (List ℕ)). Completes (partial.Setting (wants.Trans ns)) (token.Word (word.Seen s) ∷ token.Semicolon ∷ []) (trans_of xs s)) (sym (append-nil ns))
    (trans_stop ns s (subst (λ (xs : List (List ℕ)). is_nonempty xs ≡ true) (append-nil ns) h))
trans_go ns (m ∷ ms) s h =
    let same = more_of ns m ms in
    via _ (partial.Setting (wants.Trans (ns ++ m ∷ []))) _ _ _ refl
    (subst (λ (xs : List (List ℕ)). Completes (partial.Setting (wants.Trans (ns ++ m ∷ []))) (texts ms ++ token.Word (word.Seen s) ∷ token.Semicolon ∷ []) (trans_of xs s)) (sym same)
    (trans_go (ns ++ m ∷ []) ms s (subst (λ (xs : List (List ℕ)). is_nonempty xs ≡ true) same h)))

abbrev prio_of : List (List ℕ) → Statement
prio_of ns = statement.Setting (setting.Wrprio (targets.Named ns))

prio_stop : (ns : List (List ℕ)) → is_nonempty ns ≡ true → Completes (partial.Setting (wants.Prio ns)) (token.Semicolon ∷ []) (prio_of ns)
prio_stop [] h = absurd cc
prio_stop (n ∷ ns) h = last _ _ _ refl

prio_go : (ns ms : List (List ℕ)) → is_nonempty (ns ++ ms) ≡ true → Completes (partial.Setting (wants.Prio ns)) (texts ms ++ token.Semicolon ∷ []) (prio_of (ns ++ ms))
prio_go ns [] h =
    subst (λ (xs : List (List ℕ)). Completes (partial.Setting (wants.Prio ns)) (token.Semicolon ∷ []) (prio_of xs)) (sym (append-nil ns))
    (prio_stop ns (subst (λ (xs : List (List ℕ)). is_nonempty xs ≡ true) (append-nil ns) h))
prio_go ns (m ∷ ms) h =
    let same = more_of ns m ms in
    via _ (partial.Setting (wants.Prio (ns ++ m ∷ []))) _ _ _ refl
    (subst (λ (xs : List (List ℕ)). Completes (partial.Setting (wants.Prio (ns ++ m ∷ []))) (texts ms ++ token.Semicolon ∷ []) (prio_of xs)) (sym same)
    (prio_go (ns ++ m ∷ []) ms (subst (λ (xs : List (List ℕ)). is_nonempty xs ≡ true) same h)))

abbrev width_of : Bool → List ℕ → Statement
width_of tied ns = statement.Setting (setting.Width tied ns)

port_widths_stop : (tied : Bool) (ns : List ℕ) → is_nonempty ns ≡ true → Completes (partial.Setting (wants.Widths tied ns)) (token.Semicolon ∷ []) (width_of tied ns)
port_widths_stop tied [] h = absurd cc
port_widths_stop tied (n ∷ ns) h = last _ _ _ refl

port_widths_go : (tied : Bool) (ns ms : List ℕ) → is_nonempty (ns ++ ms) ≡ true → list_all is_nonzero ms ≡ true → Completes (partial.Setting (wants.Widths tied ns)) (numbers ms ++ token.Semicolon ∷ []) (width_of tied (ns ++ ms))
port_widths_go tied ns [] h k =
    subst (λ (xs : List ℕ). Completes (partial.Setting (wants.Widths tied ns)) (token.Semicolon ∷ []) (width_of tied xs)) (sym (append-nil ns))
    (port_widths_stop tied ns (subst (λ (xs : List ℕ). is_nonempty xs ≡ true) (append-nil ns) h))
port_widths_go tied ns (m ∷ ms) h k =
    let (m_ok, ms_ok) = both (is_nonzero m) (list_all is_nonzero ms) k in
    let same = more_of ns m ms in
    via _ (partial.Setting (wants.Widths tied (ns ++ m ∷ []))) _ _ _ (takes_number m (partial.Setting (wants.Widths tied (ns ++ m ∷ []))) m_ok)
    (subst (λ (xs : List ℕ). Completes (partial.Setting (wants.Widths tied (ns ++ m ∷ []))) (numbers ms ++ token.Semicolon ∷ []) (width_of tied xs)) (sym same)
    (port_widths_go tied (ns ++ m ∷ []) ms (subst (λ (xs : List ℕ). is_nonempty xs ≡ true) same h) ms_ok))

-- ---- statements

port_width_go : (tied : Bool) (ns : List ℕ) → are_widths ns ≡ true → Completes (partial.Setting wants.Width) (tied_tokens tied ++ numbers ns ++ token.Semicolon ∷ []) (width_of tied ns)
port_width_go true ns h =
    let (some, nonzeros) = both (is_nonempty ns) (list_all is_nonzero ns) h in
    via _ (partial.Setting (wants.Widths true [])) _ _ _ refl (port_widths_go true [] ns some nonzeros)
port_width_go false [] h = absurd cc
port_width_go false (n ∷ ns) h =
    let (n_ok, ns_ok) = both (is_nonzero n) (list_all is_nonzero ns) h in
    via _ (partial.Setting (wants.Widths false (n ∷ []))) _ _ _ (takes_number n (partial.Setting (wants.Widths false (n ∷ []))) n_ok) (port_widths_go false (n ∷ []) ns refl ns_ok)

setting_go : (s : Setting) → is_proper_setting s ≡ true → Completes (begin_setting (property_of s)) (argument_tokens s ++ token.Semicolon ∷ []) (statement.Setting s)
setting_go (setting.Clock e) h = via _ (partial.Ended (statement.Setting (setting.Clock e))) _ _ _ refl (semicolon _)
setting_go setting.Clken h = semicolon _
setting_go setting.Rden h = semicolon _
setting_go (setting.Rdwr own.Undefined) h = via _ (partial.Ended (statement.Setting (setting.Rdwr own.Undefined))) _ _ _ refl (semicolon _)
setting_go (setting.Rdwr own.NoChange) h = via _ (partial.Ended (statement.Setting (setting.Rdwr own.NoChange))) _ _ _ refl (semicolon _)
setting_go (setting.Rdwr own.Old) h = via _ (partial.Ended (statement.Setting (setting.Rdwr own.Old))) _ _ _ refl (semicolon _)
setting_go (setting.Rdwr own.New) h = via _ (partial.Ended (statement.Setting (setting.Rdwr own.New))) _ _ _ refl (semicolon _)
setting_go (setting.Rdwr own.NewOnly) h = via _ (partial.Ended (statement.Setting (setting.Rdwr own.NewOnly))) _ _ _ refl (semicolon _)
setting_go (setting.Wrtrans targets.All s) h = via _ (partial.Setting wants.TransAll) _ _ _ refl (via _ (partial.Ended (statement.Setting (setting.Wrtrans targets.All s))) _ _ _ refl (semicolon _))
setting_go (setting.Wrtrans (targets.Named ns) s) h = subst (λ (ts : List Token). Completes (partial.Setting (wants.Trans [])) ts (trans_of ns s)) (sym (append_assoc (texts ns) (token.Word (word.Seen s) ∷ []) (token.Semicolon ∷ []))) (trans_go [] ns s h)
setting_go (setting.Wrprio targets.All) h = via _ (partial.Ended (statement.Setting (setting.Wrprio targets.All))) _ _ _ refl (semicolon _)
setting_go (setting.Wrprio (targets.Named ns)) h = prio_go [] ns h
setting_go (setting.Rdsrst f None) h = via _ (partial.Setting (wants.SrstGate f)) _ _ _ refl (last _ _ _ refl)
setting_go (setting.Rdsrst f (Some g)) h = via _ (partial.Setting (wants.SrstGate f)) _ _ _ refl (via _ (partial.Ended (statement.Setting (setting.Rdsrst f (Some g)))) _ _ _ refl (semicolon _))
setting_go (setting.Rdarst f) h = via _ (partial.Ended (statement.Setting (setting.Rdarst f))) _ _ _ refl (semicolon _)
setting_go (setting.Rdinit f) h = via _ (partial.Ended (statement.Setting (setting.Rdinit f))) _ _ _ refl (semicolon _)
setting_go setting.WrbeSeparate h = semicolon _
setting_go (setting.Width tied ns) h = subst (λ (ts : List Token). Completes (partial.Setting wants.Width) ts (width_of tied ns)) refl (port_width_go tied ns h)

sized_makes : (s : Size) (n : ℕ) → is_proper_item (item.Size s n) ≡ true → Completes (partial.Item (part.Number s)) (token.Number n ∷ token.Semicolon ∷ []) (statement.Item (item.Size s n))
sized_makes size.Abits n h = via _ (partial.Ended (statement.Item (item.Size size.Abits n))) _ _ _ refl (semicolon _)
sized_makes size.Cost n h = via _ (partial.Ended (statement.Item (item.Size size.Cost n))) _ _ _ refl (semicolon _)
sized_makes size.Width n h = via _ (partial.Ended (statement.Item (item.Size size.Width n))) _ _ _ (takes_number n (partial.Ended (statement.Item (item.Size size.Width n))) h) (semicolon _)
sized_makes size.Byte n h = via _ (partial.Ended (statement.Item (item.Size size.Byte n))) _ _ _ (takes_number n (partial.Ended (statement.Item (item.Size size.Byte n))) h) (semicolon _)

widths_makes : (ns : List ℕ) (b : Bool) → are_widths ns ≡ true → Completes (partial.Item (part.Widths [])) ((numbers ns ++ token.Word (sharing_word b) ∷ []) ++ token.Semicolon ∷ []) (statement.Item (item.Widths ns b))
widths_makes ns b h =
    let (some, nonzeros) = both (is_nonempty ns) (list_all is_nonzero ns) h in
    subst (λ (ts : List Token). Completes (partial.Item (part.Widths [])) ts (statement.Item (item.Widths ns b))) (sym (append_assoc (numbers ns) (token.Word (sharing_word b) ∷ []) (token.Semicolon ∷ []))) (widths_go [] ns b some nonzeros)

value_makes : (s : Scope) (n : List ℕ) (v : Value) → Completes (partial.Block (block.Value s n)) (value_token v ∷ token.Open ∷ []) (statement.Block s (record { name = n; value = v }))
value_makes s n (value.Number m) = via _ (partial.Block (block.Open s (record { name = n; value = value.Number m }))) _ _ _ refl (last _ _ _ refl)
value_makes s n (value.Text t) = via _ (partial.Block (block.Open s (record { name = n; value = value.Text t }))) _ _ _ refl (last _ _ _ refl)

block_makes : (s : Scope) (c : Choice) → Completes (partial.Block (block.Name s)) (token.Text c.name ∷ value_token c.value ∷ token.Open ∷ []) (statement.Block s c)
block_makes s c = via _ (partial.Block (block.Value s c.name)) _ _ _ refl (value_makes s c.name c.value)

options_makes : (depth : ℕ) (s : Statement) → may_stand (place.Options depth) (sort_of s) ≡ true → is_proper s ≡ true → Makes (place.Options depth) (spelling s) s
options_makes depth (statement.Item (item.Size size.Abits n)) h k = from _ (partial.Item (part.Number size.Abits)) _ _ _ refl (sized_makes size.Abits n k)
options_makes depth (statement.Item (item.Size size.Width n)) h k = from _ (partial.Item (part.Number size.Width)) _ _ _ refl (sized_makes size.Width n k)
options_makes depth (statement.Item (item.Size size.Byte n)) h k = from _ (partial.Item (part.Number size.Byte)) _ _ _ refl (sized_makes size.Byte n k)
options_makes depth (statement.Item (item.Size size.Cost n)) h k = from _ (partial.Item (part.Number size.Cost)) _ _ _ refl (sized_makes size.Cost n k)
options_makes depth (statement.Item (item.Widths ns b)) h k = from _ (partial.Item (part.Widths [])) _ _ _ refl (widths_makes ns b k)
options_makes depth (statement.Item (item.Init f)) h k = from _ (partial.Item part.Init) _ _ _ refl (via _ (partial.Ended (statement.Item (item.Init f))) _ _ _ refl (semicolon _))
options_makes depth (statement.Block scope.Ram c) h k = from _ (partial.Block (block.Name scope.Ram)) _ _ _ refl (block_makes scope.Ram c)
options_makes depth statement.End h k = at_once _ _ _ refl
options_makes depth s h k = absurd cc

ram_makes : (s : Statement) → may_stand place.Ram (sort_of s) ≡ true → is_proper s ≡ true → Makes place.Ram (spelling s) s
ram_makes (statement.Item (item.Size size.Abits n)) h k = from _ (partial.Item (part.Number size.Abits)) _ _ _ refl (sized_makes size.Abits n k)
ram_makes (statement.Item (item.Size size.Width n)) h k = from _ (partial.Item (part.Number size.Width)) _ _ _ refl (sized_makes size.Width n k)
ram_makes (statement.Item (item.Size size.Byte n)) h k = from _ (partial.Item (part.Number size.Byte)) _ _ _ refl (sized_makes size.Byte n k)
ram_makes (statement.Item (item.Size size.Cost n)) h k = from _ (partial.Item (part.Number size.Cost)) _ _ _ refl (sized_makes size.Cost n k)
ram_makes (statement.Item (item.Widths ns b)) h k = from _ (partial.Item (part.Widths [])) _ _ _ refl (widths_makes ns b k)
ram_makes (statement.Item (item.Init f)) h k = from _ (partial.Item part.Init) _ _ _ refl (via _ (partial.Ended (statement.Item (item.Init f))) _ _ _ refl (semicolon _))
ram_makes (statement.Item (item.Style t)) h k = from _ (partial.Item part.Style) _ _ _ refl (via _ (partial.Ended (statement.Item (item.Style t))) _ _ _ refl (semicolon _))
ram_makes (statement.Block scope.Ram c) h k = from _ (partial.Block (block.Name scope.Ram)) _ _ _ refl (block_makes scope.Ram c)
ram_makes (statement.Port kind ns) h k = from _ (partial.Port port.Kind) _ _ _ refl (via _ (partial.Port (port.Names kind [])) _ _ _ refl (names_go kind [] ns k))
ram_makes statement.End h k = at_once _ _ _ refl
ram_makes s h k = absurd cc

port_makes : (kind : PortKind) (depth : ℕ) (s : Statement) → may_stand (place.Port kind depth) (sort_of s) ≡ true → is_proper s ≡ true → Makes (place.Port kind depth) (spelling s) s
port_makes kind depth (statement.Block scope.Ram c) h k = from _ (partial.Block (block.Name scope.Ram)) _ _ _ refl (block_makes scope.Ram c)
port_makes kind depth (statement.Block scope.Port c) h k = from _ (partial.Block (block.Name scope.Port)) _ _ _ refl (block_makes scope.Port c)
port_makes kind depth (statement.Setting s) h k = from _ (begin_setting (property_of s)) _ _ _ (rw h refl) (setting_go s k)
port_makes kind depth statement.End h k = at_once _ _ _ refl
port_makes kind depth (statement.Item (item.Style t)) h k = absurd cc
port_makes kind depth (statement.Item i) h k = absurd cc
port_makes kind depth s h k = absurd cc

pub makes : (pl : Place) (s : Statement) → may_stand pl (sort_of s) ≡ true → is_proper s ≡ true → Makes pl (spelling s) s
makes place.Outside (statement.Ram line c n) h k = from _ (partial.Ram (ram.Class line)) _ _ _ refl (via _ (partial.Ram (ram.Name line c)) _ _ _ refl (via _ (partial.Ram (ram.Open line c n)) _ _ _ refl (last _ _ _ refl)))
makes place.Outside (statement.Item (item.Style t)) h k = absurd cc
makes place.Outside s h k = absurd cc
makes place.Ram s h k = ram_makes s h k
makes (place.Options depth) s h k = options_makes depth s h k
makes (place.Port kind depth) s h k = port_makes kind depth s h k

-- ---- what has begun can be ended

pub record CanEnd (p : Partial) : Type 0 where
  pub tokens : List Token
  pub statement : Statement
  pub is : Completes p tokens statement

ended_by : (p : Partial) (ts : List Token) (s : Statement) → Completes p ts s → CanEnd p
ended_by p ts s k = record { tokens = ts; statement = s; is = k }

then_ends : (p q : Partial) (t : Token) → next p t ≡ Ok (step.More q) → CanEnd q → CanEnd p
then_ends p q t e k = record { tokens = t ∷ k.tokens; statement = k.statement; is = via p q t k.tokens k.statement e k.is }

ended_ends : (s : Statement) → CanEnd (partial.Ended s)
ended_ends s = ended_by _ _ s (semicolon s)

widths_can : (ns : List ℕ) → CanEnd (partial.Item (part.Widths ns))
widths_can [] = then_ends _ (partial.Item (part.Widths (1 ∷ []))) (token.Number 1) refl (ended_by _ _ _ (widths_end (1 ∷ []) true refl))
widths_can (n ∷ ns) = ended_by _ _ _ (widths_end (n ∷ ns) true refl)

names_can : (k : PortKind) (ns : List (List ℕ)) → CanEnd (partial.Port (port.Names k ns))
names_can k [] = then_ends _ (partial.Port (port.Names k ([] ∷ []))) (token.Text []) refl (ended_by _ _ _ (names_end k ([] ∷ []) refl))
names_can k (n ∷ ns) = ended_by _ _ _ (names_end k (n ∷ ns) refl)

trans_can : (ns : List (List ℕ)) → CanEnd (partial.Setting (wants.Trans ns))
trans_can [] = then_ends _ (partial.Setting (wants.Trans ([] ∷ []))) (token.Text []) refl (ended_by _ _ _ (trans_stop ([] ∷ []) seen.Old refl))
trans_can (n ∷ ns) = ended_by _ _ _ (trans_stop (n ∷ ns) seen.Old refl)

prio_can : (ns : List (List ℕ)) → CanEnd (partial.Setting (wants.Prio ns))
prio_can [] = then_ends _ (partial.Setting (wants.Prio ([] ∷ []))) (token.Text []) refl (ended_by _ _ _ (prio_stop ([] ∷ []) refl))
prio_can (n ∷ ns) = ended_by _ _ _ (prio_stop (n ∷ ns) refl)

port_widths_can : (tied : Bool) (ns : List ℕ) → CanEnd (partial.Setting (wants.Widths tied ns))
port_widths_can tied [] = then_ends _ (partial.Setting (wants.Widths tied (1 ∷ []))) (token.Number 1) refl (ended_by _ _ _ (port_widths_stop tied (1 ∷ []) refl))
port_widths_can tied (n ∷ ns) = ended_by _ _ _ (port_widths_stop tied (n ∷ ns) refl)

gate_can : (f : _) → CanEnd (partial.Setting (wants.SrstGate f))
gate_can f = ended_by _ (token.Semicolon ∷ []) (statement.Setting (setting.Rdsrst f None)) (last _ _ _ refl)

setting_can : (p : SettingPart) → CanEnd (partial.Setting p)
setting_can wants.Edge = then_ends _ _ (token.Word (word.Edge edge.Pos)) refl (ended_ends (statement.Setting (setting.Clock edge.Pos)))
setting_can wants.Own = then_ends _ _ (token.Word word.Undefined) refl (ended_ends (statement.Setting (setting.Rdwr own.Undefined)))
setting_can (wants.Trans ns) = trans_can ns
setting_can wants.TransAll = then_ends _ _ (token.Word (word.Seen seen.Old)) refl (ended_ends (statement.Setting (setting.Wrtrans targets.All seen.Old)))
setting_can (wants.Prio ns) = prio_can ns
setting_can wants.SrstFill = then_ends _ (partial.Setting (wants.SrstGate fill.Zero)) (token.Word (word.Fill fill.Zero)) refl (gate_can fill.Zero)
setting_can (wants.SrstGate f) = gate_can f
setting_can wants.ArstFill = then_ends _ _ (token.Word (word.Fill fill.Zero)) refl (ended_ends (statement.Setting (setting.Rdarst fill.Zero)))
setting_can wants.StartFill = then_ends _ _ (token.Word (word.Fill fill.Zero)) refl (ended_ends (statement.Setting (setting.Rdinit fill.Zero)))
setting_can wants.Width = then_ends _ (partial.Setting (wants.Widths true [])) (token.Word word.Tied) refl (port_widths_can true [])
setting_can (wants.Widths tied ns) = port_widths_can tied ns

item_can : (p : ItemPart) → CanEnd (partial.Item p)
item_can (part.Number size.Abits) = then_ends _ _ (token.Number 1) refl (ended_ends (statement.Item (item.Size size.Abits 1)))
item_can (part.Number size.Width) = then_ends _ _ (token.Number 1) refl (ended_ends (statement.Item (item.Size size.Width 1)))
item_can (part.Number size.Byte) = then_ends _ _ (token.Number 1) refl (ended_ends (statement.Item (item.Size size.Byte 1)))
item_can (part.Number size.Cost) = then_ends _ _ (token.Number 1) refl (ended_ends (statement.Item (item.Size size.Cost 1)))
item_can (part.Widths ns) = widths_can ns
item_can part.Init = then_ends _ _ (token.Word (word.Fill fill.Zero)) refl (ended_ends (statement.Item (item.Init fill.Zero)))
item_can part.Style = then_ends _ _ (token.Text []) refl (ended_ends (statement.Item (item.Style [])))

open_can : (s : Scope) (c : Choice) → CanEnd (partial.Block (block.Open s c))
open_can s c = ended_by _ (token.Open ∷ []) (statement.Block s c) (last _ _ _ refl)

value_can : (s : Scope) (n : List ℕ) → CanEnd (partial.Block (block.Value s n))
value_can s n = then_ends _ (partial.Block (block.Open s (record { name = n; value = value.Number 0 }))) (token.Number 0) refl (open_can s (record { name = n; value = value.Number 0 }))

block_can : (h : BlockHead) → CanEnd (partial.Block h)
block_can (block.Name s) = then_ends _ (partial.Block (block.Value s [])) (token.Text []) refl (value_can s [])
block_can (block.Value s n) = value_can s n
block_can (block.Open s c) = open_can s c

name_can : (line : ℕ) (c : _) → CanEnd (partial.Ram (ram.Name line c))
name_can line c = then_ends _ (partial.Ram (ram.Open line c [])) (token.Id []) refl (ended_by _ (token.Open ∷ []) (statement.Ram line c []) (last _ _ _ refl))

ram_can : (h : RamHead) → CanEnd (partial.Ram h)
ram_can (ram.Class line) = then_ends _ (partial.Ram (ram.Name line class.Block)) (token.Word (word.Class class.Block)) refl (name_can line class.Block)
ram_can (ram.Name line c) = name_can line c
ram_can (ram.Open line c n) = ended_by _ (token.Open ∷ []) (statement.Ram line c n) (last _ _ _ refl)

port_can : (h : PortHead) → CanEnd (partial.Port h)
port_can port.Kind = then_ends _ (partial.Port (port.Names kind.Ar [])) (token.Word (word.Kind kind.Ar)) refl (names_can kind.Ar [])
port_can (port.Names k ns) = names_can k ns

pub can_end : (p : Partial) → CanEnd p
can_end (partial.Ram h) = ram_can h
can_end (partial.Item p) = item_can p
can_end (partial.Block h) = block_can h
can_end (partial.Port h) = port_can h
can_end (partial.Setting p) = setting_can p
can_end (partial.Ended s) = ended_ends s
