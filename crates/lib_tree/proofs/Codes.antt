-- A refused token has the code that follows from which tokens its place takes.
use Rattle.std.proofs.Common.{◌≡◌, inl, inr, ℕ, Bool, true, false, List, [], ◌∷◌, Option, Some, None, Result, Ok, Err, refl, subst}
use Rattle.std.specs.Prelude.{◌==◌, cond}
use Rattle.lib_core.specs.declared.library.EdgeKind.TheVariants as edge
use Rattle.lib_core.specs.declared.library.Fill.TheVariants as fill
use Rattle.lib_core.specs.declared.library.PortKind.{PortKind}
use Rattle.lib_core.specs.declared.library.PortKind.TheVariants as kind
use Rattle.lib_core.specs.declared.library.Property.{Property}
use Rattle.lib_core.specs.declared.library.RamClass.TheVariants as class
use Rattle.lib_core.specs.declared.library.Seen.TheVariants as seen
use Rattle.lib_core.specs.declared.library.SrstGate.TheVariants as gate
use Rattle.lib_core.specs.Kinds.{has_property}
use Rattle.lib_tree.specs.declared.fault.LibCode.{LibCode}
use Rattle.lib_tree.specs.declared.fault.LibCode.TheVariants as code
use Rattle.lib_tree.specs.declared.partial.BlockHead.{BlockHead}
use Rattle.lib_tree.specs.declared.partial.BlockHead.TheVariants as block
use Rattle.lib_tree.specs.declared.partial.ItemPart.{ItemPart}
use Rattle.lib_tree.specs.declared.partial.ItemPart.TheVariants as part
use Rattle.lib_tree.specs.declared.partial.Partial.{Partial}
use Rattle.lib_tree.specs.declared.partial.Partial.TheVariants as partial
use Rattle.lib_tree.specs.declared.partial.PortHead.{PortHead}
use Rattle.lib_tree.specs.declared.partial.PortHead.TheVariants as port
use Rattle.lib_tree.specs.declared.partial.RamHead.{RamHead}
use Rattle.lib_tree.specs.declared.partial.RamHead.TheVariants as ram
use Rattle.lib_tree.specs.declared.partial.SettingPart.{SettingPart}
use Rattle.lib_tree.specs.declared.partial.SettingPart.TheVariants as wants
use Rattle.lib_tree.specs.declared.partial.Step.{Step}
use Rattle.lib_tree.specs.declared.partial.Wanted.{Wanted}
use Rattle.lib_tree.specs.declared.partial.Wanted.TheVariants as wanted
use Rattle.lib_tree.specs.declared.statement.Place.{Place}
use Rattle.lib_tree.specs.declared.statement.Place.TheVariants as place
use Rattle.lib_tree.specs.declared.statement.Size.{Size}
use Rattle.lib_tree.specs.declared.statement.Size.TheVariants as size
use Rattle.lib_tree.specs.declared.token.Token.{Token}
use Rattle.lib_tree.specs.declared.token.Token.TheVariants as token
use Rattle.lib_tree.specs.declared.token.Word.{Word}
use Rattle.lib_tree.specs.declared.token.Word.TheVariants as word
use Rattle.lib_tree.specs.Faults.{IsBadNumber, IsBadWord, IsCodeAt, IsNumber, IsWord, WantsNumber, WantsOnlyNumber}
use Rattle.lib_tree.specs.Machine.{◌>>=◌, advance, begin, begin_in_port, begin_in_ram, begin_item, begin_setting, block_next, item_next, known, more, names_next, next, opened, port_next, port_width_next, port_widths_next, prio_next, ram_next, refusal, setting_next, trans_next, widths_next}

-- the tokens that are taken at a place, behind what has begun there
abbrev pub Takes : Place → Option Partial → Token → Type 0
Takes pl q t = (x : Step) × (advance pl q t ≡ Ok x)

-- the tokens that a statement takes
abbrev May : Partial → Token → Type 0
May p t = (x : Step) × (next p t ≡ Ok x)

-- ---- what a place takes, by what is wanted there

abbrev NoNumber : (Token → Type 0) → Type 0
NoNumber may = (n : ℕ) → may (token.Number n) → ⊥

abbrev NoWord : (Token → Type 0) → Type 0
NoWord may = (u : Token) → IsWord u → may u → ⊥

abbrev SomeWord : (Token → Type 0) → Type 0
SomeWord may = (u : Token) × IsWord u × may u

abbrev NoOptions : (Token → Type 0) → Type 0
NoOptions may = may (token.Word word.PortOption) → ⊥

abbrev SomeMark : (Token → Type 0) → Type 0
SomeMark may = (u : Token) × may u × (IsNumber u → ⊥)

abbrev Fits : Wanted → (Token → Type 0) → Type 0
Fits wanted.Marks may = NoNumber may × NoWord may
Fits wanted.Words may = NoNumber may × SomeWord may × NoOptions may
Fits wanted.Number may = WantsOnlyNumber may
Fits wanted.WordsOrNumber may = WantsNumber may × SomeWord may × NoOptions may
Fits wanted.MarksOrNumber may = WantsNumber may × SomeMark may × NoWord may

no_wants : (may : Token → Type 0) → NoNumber may → (t : Token) → IsBadNumber may t → ⊥
no_wants may none t (inl k) = none k.0.0 k.0.1
no_wants may none t (inr k) = none k.0.0 k.0.1

no_bad_word : (may : Token → Type 0) → NoWord may → (t : Token) → IsBadWord may t → ⊥
no_bad_word may none t k = none k.1.0 k.1.1 k.1.2

word_no_number : (u : Token) → IsWord u → IsNumber u → ⊥
word_no_number (token.Ram line) w n = n
word_no_number (token.Word v) w n = n
word_no_number t w n = w

bad_word : (may : Token → Type 0) (t : Token) → IsWord t → SomeWord may → NoOptions may → IsCodeAt may t code.UnknownWord
bad_word may t w some none = ((w, some), λ k. none k.0)

-- neither a number nor a word where words stand
plain_at_words : (may : Token → Type 0) (t : Token) → NoNumber may → (IsWord t → ⊥) → IsCodeAt may t code.Token
plain_at_words may t none other = (λ k. no_wants may none t k, λ k. other k.0)

words_codes : (may : Token → Type 0) (t : Token) → Fits wanted.Words may → IsCodeAt may t (refusal wanted.Words t)
words_codes may (token.Ram line) f = bad_word may (token.Ram line) tt f.1 f.2
words_codes may (token.Word w) f = bad_word may (token.Word w) tt f.1 f.2
words_codes may (token.Number n) f = plain_at_words may (token.Number n) f.0 (λ k. k)
words_codes may token.Large f = plain_at_words may token.Large f.0 (λ k. k)
words_codes may (token.Id n) f = plain_at_words may (token.Id n) f.0 (λ k. k)
words_codes may (token.Text n) f = plain_at_words may (token.Text n) f.0 (λ k. k)
words_codes may token.Open f = plain_at_words may token.Open f.0 (λ k. k)
words_codes may token.Close f = plain_at_words may token.Close f.0 (λ k. k)
words_codes may token.Semicolon f = plain_at_words may token.Semicolon f.0 (λ k. k)
words_codes may token.Bad f = plain_at_words may token.Bad f.0 (λ k. k)

not_only : (may : Token → Type 0) (t : Token) → (IsNumber t → ⊥) → SomeMark may → IsBadNumber may t → ⊥
not_only may t other some (inl k) = other k.1
not_only may t other some (inr k) = some.2 (k.1 some.0 some.1)

some_mark_of : (may : Token → Type 0) → SomeWord may → SomeMark may
some_mark_of may some = (some.0, some.2, word_no_number some.0 some.1)

mark_at_both : (may : Token → Type 0) (t : Token) → (IsNumber t → ⊥) → (IsWord t → ⊥) → SomeMark may → IsCodeAt may t code.Token
mark_at_both may t other none some = (λ k. not_only may t other some k, λ k. none k.0)

both_codes : (may : Token → Type 0) (t : Token) → Fits wanted.WordsOrNumber may → IsCodeAt may t (refusal wanted.WordsOrNumber t)
both_codes may (token.Ram line) f = bad_word may (token.Ram line) tt f.1 f.2
both_codes may (token.Word w) f = bad_word may (token.Word w) tt f.1 f.2
both_codes may (token.Number n) f = inl (f.0, tt)
both_codes may token.Large f = inl (f.0, tt)
both_codes may (token.Id n) f = mark_at_both may (token.Id n) (λ k. k) (λ k. k) (some_mark_of may f.1)
both_codes may (token.Text n) f = mark_at_both may (token.Text n) (λ k. k) (λ k. k) (some_mark_of may f.1)
both_codes may token.Open f = mark_at_both may token.Open (λ k. k) (λ k. k) (some_mark_of may f.1)
both_codes may token.Close f = mark_at_both may token.Close (λ k. k) (λ k. k) (some_mark_of may f.1)
both_codes may token.Semicolon f = mark_at_both may token.Semicolon (λ k. k) (λ k. k) (some_mark_of may f.1)
both_codes may token.Bad f = mark_at_both may token.Bad (λ k. k) (λ k. k) (some_mark_of may f.1)

mark_or_number : (may : Token → Type 0) (t : Token) → (IsNumber t → ⊥) → Fits wanted.MarksOrNumber may → IsCodeAt may t code.Token
mark_or_number may t other f = (λ k. not_only may t other f.1 k, λ k. no_bad_word may f.2 t k)

marks_number_codes : (may : Token → Type 0) (t : Token) → Fits wanted.MarksOrNumber may → IsCodeAt may t (refusal wanted.MarksOrNumber t)
marks_number_codes may (token.Number n) f = inl (f.0, tt)
marks_number_codes may token.Large f = inl (f.0, tt)
marks_number_codes may (token.Ram line) f = mark_or_number may (token.Ram line) (λ k. k) f
marks_number_codes may (token.Word w) f = mark_or_number may (token.Word w) (λ k. k) f
marks_number_codes may (token.Id n) f = mark_or_number may (token.Id n) (λ k. k) f
marks_number_codes may (token.Text n) f = mark_or_number may (token.Text n) (λ k. k) f
marks_number_codes may token.Open f = mark_or_number may token.Open (λ k. k) f
marks_number_codes may token.Close f = mark_or_number may token.Close (λ k. k) f
marks_number_codes may token.Semicolon f = mark_or_number may token.Semicolon (λ k. k) f
marks_number_codes may token.Bad f = mark_or_number may token.Bad (λ k. k) f

refused_code : (may : Token → Type 0) (w : Wanted) (t : Token) → Fits w may → IsCodeAt may t (refusal w t)
refused_code may wanted.Marks t f = (λ k. no_wants may f.0 t k, λ k. no_bad_word may f.1 t k)
refused_code may wanted.Words t f = words_codes may t f
refused_code may wanted.Number t f = inr f
refused_code may wanted.WordsOrNumber t f = both_codes may t f
refused_code may wanted.MarksOrNumber t f = marks_number_codes may t f

abbrev err_step : LibCode → Result Step LibCode
err_step c = Err c

-- a refusal has the code that what is wanted gives
wrong : (may : Token → Type 0) (w : Wanted) (t : Token) (c : LibCode) → Fits w may → err_step (refusal w t) ≡ Err c → IsCodeAt may t c
wrong may w t c f e = let same : refusal w t ≡ c = cc in subst (λ (d : LibCode). IsCodeAt may t d) same (refused_code may w t f)

not_ok : (c : LibCode) → ((x : Step) × (err_step c ≡ Ok x)) → ⊥
not_ok c (x, e) = absurd cc

no_word : (may : Token → Type 0) → ((line : ℕ) → may (token.Ram line) → ⊥) → ((w : Word) → may (token.Word w) → ⊥) → NoWord may
no_word may a b (token.Ram line) h k = a line k
no_word may a b (token.Word w) h k = b w k
no_word may a b t h k = h

-- a number that may not stand where numbers may
zero_code : (may : Token → Type 0) (n : ℕ) (q : Partial) (c : LibCode) (b : Bool) → WantsNumber may → cond b (Err code.BadNumber) (more q) ≡ Err c → IsCodeAt may (token.Number n) c
zero_code may n q c true w e = let same : code.BadNumber ≡ c = cc in subst (λ (d : LibCode). IsCodeAt may (token.Number n) d) same (inl (w, tt))
zero_code may n q c false w e = absurd cc

-- ---- the statements so far

only_numbers : (may : Token → Type 0) → NoWord may → ((n : List ℕ) → may (token.Id n) → ⊥) → ((n : List ℕ) → may (token.Text n) → ⊥) → (may token.Open → ⊥) → (may token.Close → ⊥) → (may token.Semicolon → ⊥) → (may token.Bad → ⊥) → (u : Token) → may u → IsNumber u
only_numbers may w i t o c s b (token.Ram line) k = absurd (w (token.Ram line) tt k)
only_numbers may w i t o c s b (token.Word v) k = absurd (w (token.Word v) tt k)
only_numbers may w i t o c s b (token.Number n) k = tt
only_numbers may w i t o c s b token.Large k = tt
only_numbers may w i t o c s b (token.Id n) k = absurd (i n k)
only_numbers may w i t o c s b (token.Text n) k = absurd (t n k)
only_numbers may w i t o c s b token.Open k = absurd (o k)
only_numbers may w i t o c s b token.Close k = absurd (c k)
only_numbers may w i t o c s b token.Semicolon k = absurd (s k)
only_numbers may w i t o c s b token.Bad k = absurd (b k)

ram_codes : (h : RamHead) (t : Token) (c : LibCode) → ram_next h t ≡ Err c → IsCodeAt (May (partial.Ram h)) t c
ram_codes (ram.Class line) (token.Word (word.Class k)) c e = absurd cc
ram_codes (ram.Class line) t c e = wrong (May (partial.Ram (ram.Class line))) wanted.Words t c (λ n k. not_ok _ k, (token.Word (word.Class class.Block), tt, (_, refl)), λ k. not_ok _ k) e
ram_codes (ram.Name line k) (token.Id n) c e = absurd cc
ram_codes (ram.Name line k) t c e = wrong (May (partial.Ram (ram.Name line k))) wanted.Marks t c (λ n m. not_ok _ m, no_word _ (λ n m. not_ok _ m) (λ n m. not_ok _ m)) e
ram_codes (ram.Open line k n) token.Open c e = absurd cc
ram_codes (ram.Open line k n) t c e = wrong (May (partial.Ram (ram.Open line k n))) wanted.Marks t c (λ n m. not_ok _ m, no_word _ (λ n m. not_ok _ m) (λ n m. not_ok _ m)) e

block_codes : (h : BlockHead) (t : Token) (c : LibCode) → block_next h t ≡ Err c → IsCodeAt (May (partial.Block h)) t c
block_codes (block.Name s) (token.Text n) c e = absurd cc
block_codes (block.Name s) t c e = wrong (May (partial.Block (block.Name s))) wanted.Marks t c (λ n m. not_ok _ m, no_word _ (λ n m. not_ok _ m) (λ n m. not_ok _ m)) e
block_codes (block.Value s n) (token.Number v) c e = absurd cc
block_codes (block.Value s n) (token.Text v) c e = absurd cc
block_codes (block.Value s n) t c e = wrong (May (partial.Block (block.Value s n))) wanted.MarksOrNumber t c ((0, (_, refl)), (token.Text [], (_, refl), λ k. k), no_word _ (λ n m. not_ok _ m) (λ n m. not_ok _ m)) e
block_codes (block.Open s k) token.Open c e = absurd cc
block_codes (block.Open s k) t c e = wrong (May (partial.Block (block.Open s k))) wanted.Marks t c (λ n m. not_ok _ m, no_word _ (λ n m. not_ok _ m) (λ n m. not_ok _ m)) e

-- where only numbers are wanted
size_takes : (s : Size) → WantsNumber (May (partial.Item (part.Number s)))
size_takes size.Abits = (1, (_, refl))
size_takes size.Width = (1, (_, refl))
size_takes size.Byte = (1, (_, refl))
size_takes size.Cost = (1, (_, refl))

number_codes : (s : Size) (t : Token) (c : LibCode) → item_next (part.Number s) t ≡ Err c → IsCodeAt (May (partial.Item (part.Number s))) t c
number_codes size.Abits (token.Number n) c e = absurd cc
number_codes size.Cost (token.Number n) c e = absurd cc
number_codes size.Width (token.Number n) c e = zero_code (May (partial.Item (part.Number size.Width))) n _ c (n == 0) (1, (_, refl)) e
number_codes size.Byte (token.Number n) c e = zero_code (May (partial.Item (part.Number size.Byte))) n _ c (n == 0) (1, (_, refl)) e
number_codes s t c e = wrong (May (partial.Item (part.Number s))) wanted.Number t c (size_takes s, only_numbers (May (partial.Item (part.Number s))) (no_word _ (λ n m. not_ok _ m) (λ n m. not_ok _ m)) (λ n m. not_ok _ m) (λ n m. not_ok _ m) (λ m. not_ok _ m) (λ m. not_ok _ m) (λ m. not_ok _ m) (λ m. not_ok _ m)) e

widths_codes : (ns : List ℕ) (t : Token) (c : LibCode) → widths_next ns t ≡ Err c → IsCodeAt (May (partial.Item (part.Widths ns))) t c
widths_codes ns (token.Number n) c e = zero_code (May (partial.Item (part.Widths ns))) n _ c (n == 0) (1, (_, refl)) e
widths_codes [] t c e = wrong (May (partial.Item (part.Widths []))) wanted.Number t c ((1, (_, refl)), only_numbers (May (partial.Item (part.Widths []))) (no_word _ (λ n m. not_ok _ m) (λ n m. not_ok _ m)) (λ n m. not_ok _ m) (λ n m. not_ok _ m) (λ m. not_ok _ m) (λ m. not_ok _ m) (λ m. not_ok _ m) (λ m. not_ok _ m)) e
widths_codes (n ∷ ns) (token.Word word.PerPort) c e = absurd cc
widths_codes (n ∷ ns) (token.Word word.Global) c e = absurd cc
widths_codes (n ∷ ns) t c e = wrong (May (partial.Item (part.Widths (n ∷ ns)))) wanted.WordsOrNumber t c ((1, (_, refl)), (token.Word word.Global, tt, (_, refl)), λ m. not_ok _ m) e

item_codes : (p : ItemPart) (t : Token) (c : LibCode) → item_next p t ≡ Err c → IsCodeAt (May (partial.Item p)) t c
item_codes (part.Number s) t c e = number_codes s t c e
item_codes (part.Widths ns) t c e = widths_codes ns t c e
item_codes part.Init (token.Word (word.Fill f)) c e = absurd cc
item_codes part.Init t c e = wrong (May (partial.Item part.Init)) wanted.Words t c (λ n m. not_ok _ m, (token.Word (word.Fill fill.Zero), tt, (_, refl)), λ m. not_ok _ m) e
item_codes part.Style (token.Text s) c e = absurd cc
item_codes part.Style t c e = wrong (May (partial.Item part.Style)) wanted.Marks t c (λ n m. not_ok _ m, no_word _ (λ n m. not_ok _ m) (λ n m. not_ok _ m)) e

open_codes : (k : PortKind) (ns : List (List ℕ)) (c : LibCode) → opened k ns ≡ Err c → IsCodeAt (May (partial.Port (port.Names k ns))) token.Open c
open_codes k [] c e = wrong (May (partial.Port (port.Names k []))) wanted.Marks token.Open c (λ n m. not_ok _ m, no_word _ (λ n m. not_ok _ m) (λ n m. not_ok _ m)) e
open_codes k (n ∷ ns) c e = absurd cc

names_codes : (k : PortKind) (ns : List (List ℕ)) (t : Token) (c : LibCode) → names_next k ns t ≡ Err c → IsCodeAt (May (partial.Port (port.Names k ns))) t c
names_codes k ns (token.Text n) c e = absurd cc
names_codes k ns token.Open c e = open_codes k ns c e
names_codes k ns t c e = wrong (May (partial.Port (port.Names k ns))) wanted.Marks t c (λ n m. not_ok _ m, no_word _ (λ n m. not_ok _ m) (λ n m. not_ok _ m)) e

port_codes : (h : PortHead) (t : Token) (c : LibCode) → port_next h t ≡ Err c → IsCodeAt (May (partial.Port h)) t c
port_codes port.Kind (token.Word (word.Kind k)) c e = absurd cc
port_codes port.Kind t c e = wrong (May (partial.Port port.Kind)) wanted.Words t c (λ n m. not_ok _ m, (token.Word (word.Kind kind.Ar), tt, (_, refl)), λ m. not_ok _ m) e
port_codes (port.Names k ns) t c e = names_codes k ns t c e

trans_codes : (ns : List (List ℕ)) (t : Token) (c : LibCode) → trans_next ns t ≡ Err c → IsCodeAt (May (partial.Setting (wants.Trans ns))) t c
trans_codes ns (token.Text n) c e = absurd cc
trans_codes [] (token.Word word.All) c e = absurd cc
trans_codes [] t c e = wrong (May (partial.Setting (wants.Trans []))) wanted.Words t c (λ n m. not_ok _ m, (token.Word (word.All), tt, (_, refl)), λ m. not_ok _ m) e
trans_codes (n ∷ ns) (token.Word (word.Seen s)) c e = absurd cc
trans_codes (n ∷ ns) t c e = wrong (May (partial.Setting (wants.Trans (n ∷ ns)))) wanted.Words t c (λ n m. not_ok _ m, (token.Word (word.Seen seen.Old), tt, (_, refl)), λ m. not_ok _ m) e

prio_codes : (ns : List (List ℕ)) (t : Token) (c : LibCode) → prio_next ns t ≡ Err c → IsCodeAt (May (partial.Setting (wants.Prio ns))) t c
prio_codes ns (token.Text n) c e = absurd cc
prio_codes [] (token.Word word.All) c e = absurd cc
prio_codes [] t c e = wrong (May (partial.Setting (wants.Prio []))) wanted.Words t c (λ n m. not_ok _ m, (token.Word (word.All), tt, (_, refl)), λ m. not_ok _ m) e
prio_codes (n ∷ ns) token.Semicolon c e = absurd cc
prio_codes (n ∷ ns) t c e = wrong (May (partial.Setting (wants.Prio (n ∷ ns)))) wanted.Marks t c (λ n m. not_ok _ m, no_word _ (λ n m. not_ok _ m) (λ n m. not_ok _ m)) e

port_widths_codes : (tied : Bool) (ns : List ℕ) (t : Token) (c : LibCode) → port_widths_next tied ns t ≡ Err c → IsCodeAt (May (partial.Setting (wants.Widths tied ns))) t c
port_widths_codes tied ns (token.Number n) c e = zero_code (May (partial.Setting (wants.Widths tied ns))) n _ c (n == 0) (1, (_, refl)) e
port_widths_codes tied [] t c e = wrong (May (partial.Setting (wants.Widths tied []))) wanted.Number t c ((1, (_, refl)), only_numbers (May (partial.Setting (wants.Widths tied []))) (no_word _ (λ n m. not_ok _ m) (λ n m. not_ok _ m)) (λ n m. not_ok _ m) (λ n m. not_ok _ m) (λ m. not_ok _ m) (λ m. not_ok _ m) (λ m. not_ok _ m) (λ m. not_ok _ m)) e
port_widths_codes tied (n ∷ ns) token.Semicolon c e = absurd cc
port_widths_codes tied (n ∷ ns) t c e = wrong (May (partial.Setting (wants.Widths tied (n ∷ ns)))) wanted.MarksOrNumber t c ((1, (_, refl)), (token.Semicolon, (_, refl), λ k. k), no_word _ (λ n m. not_ok _ m) (λ n m. not_ok _ m)) e

width_codes : (t : Token) (c : LibCode) → port_width_next t ≡ Err c → IsCodeAt (May (partial.Setting wants.Width)) t c
width_codes (token.Word word.Tied) c e = absurd cc
width_codes (token.Number n) c e = zero_code (May (partial.Setting wants.Width)) n _ c (n == 0) (1, (_, refl)) e
width_codes t c e = wrong (May (partial.Setting wants.Width)) wanted.WordsOrNumber t c ((1, (_, refl)), (token.Word word.Tied, tt, (_, refl)), λ m. not_ok _ m) e

own_codes : (t : Token) (c : LibCode) → setting_next wants.Own t ≡ Err c → IsCodeAt (May (partial.Setting wants.Own)) t c
own_codes (token.Word word.Undefined) c e = absurd cc
own_codes (token.Word word.NoChange) c e = absurd cc
own_codes (token.Word (word.Seen seen.Old)) c e = absurd cc
own_codes (token.Word (word.Seen seen.New)) c e = absurd cc
own_codes (token.Word word.NewOnly) c e = absurd cc
own_codes t c e = wrong (May (partial.Setting wants.Own)) wanted.Words t c (λ n m. not_ok _ m, (token.Word (word.Undefined), tt, (_, refl)), λ m. not_ok _ m) e

setting_codes : (p : SettingPart) (t : Token) (c : LibCode) → setting_next p t ≡ Err c → IsCodeAt (May (partial.Setting p)) t c
setting_codes wants.Edge (token.Word (word.Edge d)) c e = absurd cc
setting_codes wants.Edge t c e = wrong (May (partial.Setting wants.Edge)) wanted.Words t c (λ n m. not_ok _ m, (token.Word (word.Edge edge.Pos), tt, (_, refl)), λ m. not_ok _ m) e
setting_codes wants.Own t c e = own_codes t c e
setting_codes (wants.Trans ns) t c e = trans_codes ns t c e
setting_codes wants.TransAll (token.Word (word.Seen s)) c e = absurd cc
setting_codes wants.TransAll t c e = wrong (May (partial.Setting wants.TransAll)) wanted.Words t c (λ n m. not_ok _ m, (token.Word (word.Seen seen.Old), tt, (_, refl)), λ m. not_ok _ m) e
setting_codes (wants.Prio ns) t c e = prio_codes ns t c e
setting_codes wants.SrstFill (token.Word (word.Fill f)) c e = absurd cc
setting_codes wants.SrstFill t c e = wrong (May (partial.Setting wants.SrstFill)) wanted.Words t c (λ n m. not_ok _ m, (token.Word (word.Fill fill.Zero), tt, (_, refl)), λ m. not_ok _ m) e
setting_codes (wants.SrstGate f) (token.Word (word.Gate g)) c e = absurd cc
setting_codes (wants.SrstGate f) token.Semicolon c e = absurd cc
setting_codes (wants.SrstGate f) t c e = wrong (May (partial.Setting (wants.SrstGate f))) wanted.Words t c (λ n m. not_ok _ m, (token.Word (word.Gate gate.Rden), tt, (_, refl)), λ m. not_ok _ m) e
setting_codes wants.ArstFill (token.Word (word.Fill f)) c e = absurd cc
setting_codes wants.ArstFill t c e = wrong (May (partial.Setting wants.ArstFill)) wanted.Words t c (λ n m. not_ok _ m, (token.Word (word.Fill fill.Zero), tt, (_, refl)), λ m. not_ok _ m) e
setting_codes wants.StartFill (token.Word (word.Fill f)) c e = absurd cc
setting_codes wants.StartFill t c e = wrong (May (partial.Setting wants.StartFill)) wanted.Words t c (λ n m. not_ok _ m, (token.Word (word.Fill fill.Zero), tt, (_, refl)), λ m. not_ok _ m) e
setting_codes wants.Width t c e = width_codes t c e
setting_codes (wants.Widths tied ns) t c e = port_widths_codes tied ns t c e

next_codes : (p : Partial) (t : Token) (c : LibCode) → next p t ≡ Err c → IsCodeAt (May p) t c
next_codes (partial.Ram h) t c e = ram_codes h t c e
next_codes (partial.Item p) t c e = item_codes p t c e
next_codes (partial.Block h) t c e = block_codes h t c e
next_codes (partial.Port h) t c e = port_codes h t c e
next_codes (partial.Setting p) t c e = setting_codes p t c e
next_codes (partial.Ended s) token.Semicolon c e = absurd cc
next_codes (partial.Ended s) t c e = wrong (May (partial.Ended s)) wanted.Marks t c (λ n m. not_ok _ m, no_word _ (λ n m. not_ok _ m) (λ n m. not_ok _ m)) e

-- ---- between statements

abbrev At : Place → Token → Type 0
At pl t = (x : Step) × (begin pl t ≡ Ok x)

outside_codes : (t : Token) (c : LibCode) → begin place.Outside t ≡ Err c → IsCodeAt (At place.Outside) t c
outside_codes (token.Ram line) c e = absurd cc
outside_codes t c e = wrong (At place.Outside) wanted.Words t c (λ n m. not_ok _ m, (token.Ram 0, tt, (_, refl)), λ m. not_ok _ m) e

unknown : (o : Option Partial) (c : LibCode) → (known o >>= more) ≡ Err c → code.UnknownWord ≡ c
unknown None c e = cc
unknown (Some p) c e = absurd cc

abbrev WordsAt : Place → Type 0
WordsAt pl = Fits wanted.Words (At pl)

in_ram : WordsAt place.Ram
in_ram = (λ n m. not_ok _ m, (token.Word word.Abits, tt, (_, refl)), λ m. not_ok _ m)

in_options : (depth : ℕ) → WordsAt (place.Options depth)
in_options depth = (λ n m. not_ok _ m, (token.Word word.Abits, tt, (_, refl)), λ m. not_ok _ m)

ram_place_codes : (t : Token) (c : LibCode) → begin place.Ram t ≡ Err c → IsCodeAt (At place.Ram) t c
ram_place_codes token.Close c e = absurd cc
ram_place_codes (token.Word w) c e = subst (λ (d : LibCode). IsCodeAt (At place.Ram) (token.Word w) d) (unknown (begin_in_ram w) c e) (refused_code (At place.Ram) wanted.Words (token.Word w) in_ram)
ram_place_codes t c e = wrong (At place.Ram) wanted.Words t c in_ram e

options_codes : (depth : ℕ) (t : Token) (c : LibCode) → begin (place.Options depth) t ≡ Err c → IsCodeAt (At (place.Options depth)) t c
options_codes depth token.Close c e = absurd cc
options_codes depth (token.Word w) c e = subst (λ (d : LibCode). IsCodeAt (At (place.Options depth)) (token.Word w) d) (unknown (begin_item w) c e) (refused_code (At (place.Options depth)) wanted.Words (token.Word w) (in_options depth))
options_codes depth t c e = wrong (At (place.Options depth)) wanted.Words t c (in_options depth) e

-- in a port a word that is no property's is unknown
port_word : (k : PortKind) (depth : ℕ) (t : Token) (c : LibCode) → IsWord t → ((p : Property) → t ≡ token.Word (word.Property p) → ⊥) → code.UnknownWord ≡ c → IsCodeAt (At (place.Port k depth)) t c
port_word k depth t c w other e =
    subst (λ (d : LibCode). IsCodeAt (At (place.Port k depth)) t d) e ((w, (token.Word word.RamOption, tt, (_, refl))), λ (k : _). other k.1.0 k.1.1)

property_code : (k : PortKind) (depth : ℕ) (p : Property) (c : LibCode) (b : Bool) → (cond b (Ok (begin_setting p)) (Err code.NotForKind) >>= more) ≡ Err c → IsCodeAt (At (place.Port k depth)) (token.Word (word.Property p)) c
property_code k depth p c true e = absurd cc
property_code k depth p c false e =
    let same : code.NotForKind ≡ c = cc in
    subst (λ (d : LibCode). IsCodeAt (At (place.Port k depth)) (token.Word (word.Property p)) d) same ((_, refl), (p, refl))

word_codes : (k : PortKind) (depth : ℕ) (w : Word) (c : LibCode) → (begin_in_port k w >>= more) ≡ Err c → IsCodeAt (At (place.Port k depth)) (token.Word w) c
word_codes k depth word.RamOption c e = absurd cc
word_codes k depth word.PortOption c e = absurd cc
word_codes k depth (word.Property p) c e = property_code k depth p c (has_property k p) e
word_codes k depth w c e = port_word k depth (token.Word w) c tt (λ p h. absurd cc) cc

mark_code : (k : PortKind) (depth : ℕ) (t : Token) (c : LibCode) → (IsWord t → ⊥) → code.Token ≡ c → IsCodeAt (At (place.Port k depth)) t c
mark_code k depth t c other e = subst (λ (d : LibCode). IsCodeAt (At (place.Port k depth)) t d) e (plain_at_words (At (place.Port k depth)) t (λ n m. not_ok _ m) other)

port_place_codes : (k : PortKind) (depth : ℕ) (t : Token) (c : LibCode) → begin (place.Port k depth) t ≡ Err c → IsCodeAt (At (place.Port k depth)) t c
port_place_codes k depth token.Close c e = absurd cc
port_place_codes k depth (token.Word w) c e = word_codes k depth w c e
port_place_codes k depth (token.Ram line) c e = port_word k depth (token.Ram line) c tt (λ p h. absurd cc) cc
port_place_codes k depth (token.Number n) c e = mark_code k depth (token.Number n) c (λ h. h) cc
port_place_codes k depth token.Large c e = mark_code k depth token.Large c (λ h. h) cc
port_place_codes k depth (token.Id n) c e = mark_code k depth (token.Id n) c (λ h. h) cc
port_place_codes k depth (token.Text n) c e = mark_code k depth (token.Text n) c (λ h. h) cc
port_place_codes k depth token.Open c e = mark_code k depth token.Open c (λ h. h) cc
port_place_codes k depth token.Semicolon c e = mark_code k depth token.Semicolon c (λ h. h) cc
port_place_codes k depth token.Bad c e = mark_code k depth token.Bad c (λ h. h) cc

begin_codes : (pl : Place) (t : Token) (c : LibCode) → begin pl t ≡ Err c → IsCodeAt (At pl) t c
begin_codes place.Outside t c e = outside_codes t c e
begin_codes place.Ram t c e = ram_place_codes t c e
begin_codes (place.Options depth) t c e = options_codes depth t c e
begin_codes (place.Port k depth) t c e = port_place_codes k depth t c e

pub codes_of : (pl : Place) (q : Option Partial) (t : Token) (c : LibCode) → advance pl q t ≡ Err c → IsCodeAt (Takes pl q) t c
codes_of pl None t c e = begin_codes pl t c e
codes_of pl (Some p) t c e = next_codes p t c e
