-- What the first token of a statement leads to.
use Rattle.std.proofs.Common.{◌≡◌, Bool, true, false, List, [], ◌∷◌, ◌++◌, Option, Some, None, Result, Ok, Err, refl, ap, subst, ◌∙◌}
use Rattle.std.specs.Prelude.{cond}
use Rattle.lib_core.specs.declared.library.PortKind.{PortKind}
use Rattle.lib_core.specs.declared.library.Property.{Property}
use Rattle.lib_core.specs.declared.library.Property.TheVariants as property
use Rattle.lib_core.specs.Kinds.{has_property}
use Rattle.lib_tree.specs.declared.fault.LibCode.{LibCode}
use Rattle.lib_tree.specs.declared.fault.LibCode.TheVariants as code
use Rattle.lib_tree.specs.declared.partial.Partial.{Partial}
use Rattle.lib_tree.specs.declared.partial.Step.{Step}
use Rattle.lib_tree.specs.declared.partial.Step.TheVariants as step
use Rattle.lib_tree.specs.declared.statement.Place.{Place}
use Rattle.lib_tree.specs.declared.statement.Place.TheVariants as place
use Rattle.lib_tree.specs.declared.statement.Statement.{Statement}
use Rattle.lib_tree.specs.declared.statement.Statement.TheVariants as statement
use Rattle.lib_tree.specs.declared.token.Token.{Token}
use Rattle.lib_tree.specs.declared.token.Token.TheVariants as token
use Rattle.lib_tree.specs.declared.token.Word.{Word}
use Rattle.lib_tree.specs.declared.token.Word.TheVariants as word
use Rattle.lib_tree.specs.Grammar.{Sort, OfEnd, OfPort, OfStyle, is_proper, may_stand, sort_of, spelling, stands_in_options, stands_in_port, stands_in_ram}
use Rattle.lib_tree.specs.Machine.{◌>>=◌, advance, begin, begin_in_port, begin_in_ram, begin_inside, begin_item, begin_setting, begin_word, known, more}
use Rattle.lib_tree.proofs.Spelled.{Ends, Goes, Stepped, proper_so_far, so_far, sort_so_far, steps}

-- a statement has begun that may stand at the place
pub record Stands (pl : Place) (p : Partial) : Type 0 where
  pub stands : may_stand pl (sort_so_far p) ≡ true
  pub proper : proper_so_far p ≡ true

abbrev pub Begun : Place → Option Partial → Type 0
Begun pl None = Unit {0}
Begun pl (Some p) = Stands pl p

abbrev pub spelled_so_far : Option Partial → List Token
spelled_so_far None = []
spelled_so_far (Some p) = so_far p

pub record GoesOn (pl : Place) (q : Option Partial) (t : Token) (p : Partial) : Type 0 where
  pub spelled : so_far p ≡ spelled_so_far q ++ t ∷ []
  pub begun : Stands pl p

pub record IsDone (pl : Place) (q : Option Partial) (t : Token) (s : Statement) : Type 0 where
  pub spelled : spelling s ≡ spelled_so_far q ++ t ∷ []
  pub stands : may_stand pl (sort_of s) ≡ true
  pub proper : is_proper s ≡ true

abbrev pub Moved : Place → Option Partial → Token → Step → Type 0
Moved pl q t (step.More p) = GoesOn pl q t p
Moved pl q t (step.Done s) = IsDone pl q t s

-- ---- the first token

abbrev ok_step : Step → Result Step LibCode
ok_step x = Ok x

took : (pl : Place) (q : Option Partial) (t : Token) (y x : Step) → Moved pl q t y → ok_step y ≡ Ok x → Moved pl q t x
took pl q t y x h e = let same : y ≡ x = cc in subst (λ (z : Step). Moved pl q t z) same h

record Opens (w : Word) (stands : Sort → Bool) (p : Partial) : Type 0 where
  spelled : so_far p ≡ token.Word w ∷ []
  may : stands (sort_so_far p) ≡ true
  proper : proper_so_far p ≡ true

opened : (w : Word) (stands : Sort → Bool) (p q : Partial) → Opens w stands p → Some p ≡ Some q → Opens w stands q
opened w stands p q h e = let same : p ≡ q = cc in subst (λ (z : Partial). Opens w stands z) same h

items_open : (w : Word) (p : Partial) → begin_item w ≡ Some p → Opens w stands_in_options p
items_open word.Abits p e = opened _ _ _ p (record { spelled = refl; may = refl; proper = refl }) e
items_open (word.Property property.Width) p e = opened _ _ _ p (record { spelled = refl; may = refl; proper = refl }) e
items_open word.Byte p e = opened _ _ _ p (record { spelled = refl; may = refl; proper = refl }) e
items_open word.Cost p e = opened _ _ _ p (record { spelled = refl; may = refl; proper = refl }) e
items_open word.Widths p e = opened _ _ _ p (record { spelled = refl; may = refl; proper = refl }) e
items_open word.Init p e = opened _ _ _ p (record { spelled = refl; may = refl; proper = refl }) e
items_open word.RamOption p e = opened _ _ _ p (record { spelled = refl; may = refl; proper = refl }) e
items_open w p e = absurd cc

ram_has : (s : Sort) → stands_in_options s ≡ true → stands_in_ram s ≡ true
ram_has OfStyle h = refl
ram_has OfPort h = refl
ram_has s h = h

in_ram : (w : Word) (p : Partial) → Opens w stands_in_options p → Opens w stands_in_ram p
in_ram w p o = record { spelled = o.spelled; may = ram_has (sort_so_far p) o.may; proper = o.proper }

ram_opens : (w : Word) (p : Partial) → begin_in_ram w ≡ Some p → Opens w stands_in_ram p
ram_opens word.Style p e = opened _ _ _ p (record { spelled = refl; may = refl; proper = refl }) e
ram_opens word.Port p e = opened _ _ _ p (record { spelled = refl; may = refl; proper = refl }) e
ram_opens w p e = in_ram _ p (items_open _ p e)

setting_opens : (kind : PortKind) (p : Property) → has_property kind p ≡ true → Opens (word.Property p) (stands_in_port kind) (begin_setting p)
setting_opens kind property.Clock h = record { spelled = refl; may = h; proper = refl }
setting_opens kind property.Clken h = record { spelled = refl; may = h; proper = refl }
setting_opens kind property.Rden h = record { spelled = refl; may = h; proper = refl }
setting_opens kind property.Rdwr h = record { spelled = refl; may = h; proper = refl }
setting_opens kind property.Wrtrans h = record { spelled = refl; may = h; proper = refl }
setting_opens kind property.Wrprio h = record { spelled = refl; may = h; proper = refl }
setting_opens kind property.Rdsrst h = record { spelled = refl; may = h; proper = refl }
setting_opens kind property.Rdarst h = record { spelled = refl; may = h; proper = refl }
setting_opens kind property.Rdinit h = record { spelled = refl; may = h; proper = refl }
setting_opens kind property.WrbeSeparate h = record { spelled = refl; may = h; proper = refl }
setting_opens kind property.Width h = record { spelled = refl; may = h; proper = refl }

abbrev ok_partial : Partial → Result Partial LibCode
ok_partial p = Ok p

port_opened : (kind : PortKind) (w : Word) (p q : Partial) → Opens w (stands_in_port kind) p → ok_partial p ≡ Ok q → Opens w (stands_in_port kind) q
port_opened kind w p q h e = let same : p ≡ q = cc in subst (λ (z : Partial). Opens w (stands_in_port kind) z) same h

property_opens : (kind : PortKind) (p : Property) (q : Partial) (b : Bool) → has_property kind p ≡ b → cond b (Ok (begin_setting p)) (Err code.NotForKind) ≡ Ok q → Opens (word.Property p) (stands_in_port kind) q
property_opens kind p q true h e = port_opened kind _ _ q (setting_opens kind p h) e
property_opens kind p q false h e = absurd cc

port_opens : (kind : PortKind) (w : Word) (q : Partial) → begin_in_port kind w ≡ Ok q → Opens w (stands_in_port kind) q
port_opens kind word.RamOption q e = port_opened kind _ _ q (record { spelled = refl; may = refl; proper = refl }) e
port_opens kind word.PortOption q e = port_opened kind _ _ q (record { spelled = refl; may = refl; proper = refl }) e
port_opens kind (word.Property p) q e = property_opens kind p q (has_property kind p) refl e
port_opens kind w q e = absurd cc

known_some : (o : Option Partial) (q : Partial) → known o ≡ Ok q → o ≡ Some q
known_some None q e = absurd cc
known_some (Some p) q e = let same : p ≡ q = cc in ap (λ (z : Partial). Some z) same

word_opens : (pl : Place) (w : Word) (q : Partial) → begin_word pl w ≡ Ok q → Opens w (may_stand pl) q
word_opens place.Outside w q e = absurd cc
word_opens place.Ram w q e = ram_opens w q (known_some (begin_in_ram w) q e)
word_opens (place.Options depth) w q e = items_open w q (known_some (begin_item w) q e)
word_opens (place.Port kind depth) w q e = port_opens kind w q e

then_more : (o : Result Partial LibCode) (x : Step) → (o >>= more) ≡ Ok x → (q : Partial) × (o ≡ Ok q) × (step.More q ≡ x)
then_more (Ok q) x e = (q, refl, cc)
then_more (Err c) x e = absurd cc

word_begins : (pl : Place) (w : Word) (x : Step) → (begin_word pl w >>= more) ≡ Ok x → Moved pl None (token.Word w) x
word_begins pl w x e =
    let k = then_more (begin_word pl w) x e in
    let o = word_opens pl w k.0 k.1 in
    subst (λ (z : Step). Moved pl None (token.Word w) z) k.2 (record { spelled = o.spelled; begun = record { stands = o.may; proper = o.proper } })

inside_begins : (pl : Place) → may_stand pl OfEnd ≡ true → (t : Token) (x : Step) → begin_inside pl t ≡ Ok x → Moved pl None t x
inside_begins pl h token.Close x e = took pl None _ (step.Done statement.End) x (record { spelled = refl; stands = h; proper = refl }) e
inside_begins pl h (token.Word w) x e = word_begins pl w x e
inside_begins pl h t x e = absurd cc

begins : (pl : Place) (t : Token) (x : Step) → begin pl t ≡ Ok x → Moved pl None t x
begins place.Outside (token.Ram line) x e = took place.Outside None _ _ x (record { spelled = refl; begun = record { stands = refl; proper = refl } }) e
begins place.Outside t x e = absurd cc
begins place.Ram t x e = inside_begins place.Ram refl t x e
begins (place.Options depth) t x e = inside_begins (place.Options depth) refl t x e
begins (place.Port kind depth) t x e = inside_begins (place.Port kind depth) refl t x e

-- ---- any token

goes_on : (pl : Place) (p q : Partial) (t : Token) → Stands pl p → Goes p t q → GoesOn pl (Some p) t q
goes_on pl p q t b g = record { spelled = g.spelled; begun = record { stands = ap (λ (s : Sort). may_stand pl s) g.sort ∙ b.stands; proper = g.proper b.proper } }

is_done : (pl : Place) (p : Partial) (t : Token) (s : Statement) → Stands pl p → Ends p t s → IsDone pl (Some p) t s
is_done pl p t s b g = record { spelled = g.spelled b.proper; stands = ap (λ (r : Sort). may_stand pl r) g.sort ∙ b.stands; proper = g.proper b.proper }

moved_by : (pl : Place) (p : Partial) (t : Token) (x : Step) → Stands pl p → Stepped p t x → Moved pl (Some p) t x
moved_by pl p t (step.More q) b g = goes_on pl p q t b g
moved_by pl p t (step.Done s) b g = is_done pl p t s b g

pub moved : (pl : Place) (q : Option Partial) (t : Token) (x : Step) → Begun pl q → advance pl q t ≡ Ok x → Moved pl q t x
moved pl None t x b e = begins pl t x e
moved pl (Some p) t x b e = moved_by pl p t x b (steps p t x e)
