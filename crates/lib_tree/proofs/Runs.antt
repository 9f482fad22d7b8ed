-- Tokens read one by one are a library exactly where the grammar says so.
use Rattle.std.proofs.Common.{◌≡◌, ℕ, zero, suc, Bool, true, false, List, [], ◌∷◌, ◌++◌, Option, Some, None, Result, Ok, Err, refl, sym, ap, subst, ◌∙◌, append_assoc, append-nil}
use Rattle.std.specs.Prelude.{◌&&◌}
use Rattle.std.specs.List.{flat_map}
use Rattle.lib_core.specs.declared.library.PortKind.{PortKind}
use Rattle.lib_tree.specs.declared.fault.LibCode.{LibCode}
use Rattle.lib_tree.specs.declared.fault.LibCode.TheVariants as code
use Rattle.lib_tree.specs.declared.partial.Partial.{Partial}
use Rattle.lib_tree.specs.declared.partial.Step.{Step}
use Rattle.lib_tree.specs.declared.partial.Step.TheVariants as one
use Rattle.lib_tree.specs.declared.statement.Place.{Place}
use Rattle.lib_tree.specs.declared.statement.Place.TheVariants as place
use Rattle.lib_tree.specs.declared.statement.Statement.{Statement}
use Rattle.lib_tree.specs.declared.statement.Statement.TheVariants as statement
use Rattle.lib_tree.specs.declared.text.Reading.{Reading}
use Rattle.lib_tree.specs.declared.token.Token.{Token}
use Rattle.lib_tree.specs.declared.token.Token.TheVariants as token
use Rattle.lib_tree.specs.Grammar.{Spells, after, is_proper, may_stand, nests, sort_of, spelling}
use Rattle.lib_tree.specs.Machine.{◌>>=◌, advance, begin}
use Rattle.lib_tree.specs.Reading.{settle, start, step}
use Rattle.lib_tree.proofs.Begun.{Begun, GoesOn, IsDone, Moved, moved, spelled_so_far}
use Rattle.lib_tree.proofs.Whole.{Completes, Makes, at_once, can_end, from, last, makes, via}

abbrev pub reading : List Statement → Place → Option Partial → Reading
reading st pl q = record { statements = st; place = pl; partial = q }

abbrev pub ends : Option Partial → Place → List Statement → Result (List Statement) LibCode
ends None place.Outside ss = Ok ss
ends q pl ss = Err code.Unclosed

-- what tokens are as statements, behind what was read
unfoldable pub run : Reading → List Token → Result (List Statement) LibCode
run r [] = ends r.partial r.place r.statements
run r (t ∷ ts) = step r t >>= λ b. run b ts

pub bind_ok : {A B E : Type 0} (x : Result A E) (f : A → Result B E) (b : B) → (x >>= f) ≡ Ok b → (a : A) × (x ≡ Ok a) × (f a ≡ Ok b)
bind_ok (Ok a) f b e = (a, refl, e)
bind_ok (Err c) f b e = absurd cc

abbrev ok_of : {A E : Type 0} → A → Result A E
ok_of a = Ok a

pub ok_same : {A E : Type 0} (a b : A) → ok_of {E = E} a ≡ Ok b → a ≡ b
ok_same a b e = cc

-- ---- what is read is spelled

pub record Sound (st : List Statement) (pl : Place) (q : Option Partial) (ts : List Token) (ss : List Statement) : Type 0 where
  pub more : List Statement
  pub parts : ss ≡ st ++ more
  pub spelled : spelled_so_far q ++ ts ≡ flat_map spelling more
  pub nested : nests pl more ≡ true

sound_end : (st : List Statement) (pl : Place) (q : Option Partial) (ss : List Statement) → ends q pl st ≡ Ok ss → Sound st pl q [] ss
unfolding nests
sound_end st place.Outside None ss e = record { more = []; parts = sym (ok_same st ss e) ∙ sym (append-nil st); spelled = refl; nested = refl }
sound_end st place.Ram None ss e = absurd cc
sound_end st (place.Options depth) None ss e = absurd cc
sound_end st (place.Port kind depth) None ss e = absurd cc
sound_end st pl (Some p) ss e = absurd cc

sound_more : (st : List Statement) (pl : Place) (q : Option Partial) (p : Partial) (t : Token) (ts : List Token) (ss : List Statement) → GoesOn pl q t p → Sound st pl (Some p) ts ss → Sound st pl q (t ∷ ts) ss
sound_more st pl q p t ts ss g k = record {
  more = k.more;
  parts = k.parts;
  spelled = sym (append_assoc (spelled_so_far q) (t ∷ []) ts) ∙ ap (λ (xs : List Token). xs ++ ts) (sym g.spelled) ∙ k.spelled;
  nested = k.nested;
}

all_three : (a b c : Bool) → a ≡ true → b ≡ true → c ≡ true → (a && (b && c)) ≡ true
all_three a b c p q r = rw (p, q, r) refl

nest_one : (pl : Place) (s : Statement) (ss : List Statement) → may_stand pl (sort_of s) ≡ true → is_proper s ≡ true → nests (after pl s) ss ≡ true → nests pl (s ∷ ss) ≡ true
unfolding nests
nest_one place.Outside s ss p q r = all_three _ _ _ p q r
nest_one place.Ram s ss p q r = all_three _ _ _ p q r
nest_one (place.Options depth) s ss p q r = all_three _ _ _ p q r
nest_one (place.Port kind depth) s ss p q r = all_three _ _ _ p q r

sound_done : (st : List Statement) (pl : Place) (q : Option Partial) (s : Statement) (t : Token) (ts : List Token) (ss : List Statement) → IsDone pl q t s → Sound (st ++ s ∷ []) (after pl s) None ts ss → Sound st pl q (t ∷ ts) ss
unfolding nests
sound_done st pl q s t ts ss d k = record {
  more = s ∷ k.more;
  parts = k.parts ∙ append_assoc st (s ∷ []) k.more;
  spelled = sym (append_assoc (spelled_so_far q) (t ∷ []) ts) ∙ ap (λ (xs : List Token). xs ++ ts) (sym d.spelled) ∙ ap (λ (xs : List Token). spelling s ++ xs) k.spelled;
  nested = nest_one pl s k.more d.stands d.proper k.nested;
}

sound_by : (st : List Statement) (pl : Place) (q : Option Partial) (t : Token) (ts : List Token) (ss : List Statement) (x : Step) → Moved pl q t x
    → ((st' : List Statement) (pl' : Place) (q' : Option Partial) → Begun pl' q' → run (reading st' pl' q') ts ≡ Ok ss → Sound st' pl' q' ts ss)
    → run (settle (reading st pl q) x) ts ≡ Ok ss → Sound st pl q (t ∷ ts) ss
sound_by st pl q t ts ss (one.More p) g again e = sound_more st pl q p t ts ss g (again st pl (Some p) g.begun e)
sound_by st pl q t ts ss (one.Done s) d again e = sound_done st pl q s t ts ss d (again (st ++ s ∷ []) (after pl s) None tt e)

pub sound : (st : List Statement) (pl : Place) (q : Option Partial) (ts : List Token) (ss : List Statement) → Begun pl q → run (reading st pl q) ts ≡ Ok ss → Sound st pl q ts ss
unfolding run step
sound st pl q [] ss b e = sound_end st pl q ss e
sound st pl q (t ∷ ts) ss b e =
    let one_step = bind_ok (step (reading st pl q) t) (λ next. run next ts) ss e in
    let moving = bind_ok (advance pl q t) (λ x. Ok (settle (reading st pl q) x)) one_step.0 one_step.1 in
    let settled = ok_same {E = LibCode} (settle (reading st pl q) moving.0) one_step.0 moving.2 in
    sound_by st pl q t ts ss moving.0 (moved pl q t moving.0 b moving.1) (λ st' pl' q' b' e'. sound st' pl' q' ts ss b' e') (subst (λ (r : Reading). run r ts ≡ Ok ss) (sym settled) one_step.2)

-- ---- what is spelled is read

runs_partial : (p : Partial) (ts : List Token) (s : Statement) → Completes p ts s → (st : List Statement) (pl : Place) (us : List Token) → run (reading st pl (Some p)) (ts ++ us) ≡ run (reading (st ++ s ∷ []) (after pl s) None) us
unfolding run step
runs_partial _ _ _ (last p t s e) st pl us = rw e refl
runs_partial _ _ _ (via p q t more s e k) st pl us = rw e (runs_partial q more s k st pl us)

pub runs_whole : (pl : Place) (ts : List Token) (s : Statement) → Makes pl ts s → (st : List Statement) (us : List Token) → run (reading st pl None) (ts ++ us) ≡ run (reading (st ++ s ∷ []) (after pl s) None) us
unfolding run step
runs_whole _ _ _ (at_once pl t s e) st us = rw e refl
runs_whole _ _ _ (from pl p t more s e k) st us = rw e (runs_partial p more s k st pl us)

three_of : (a b c : Bool) → (a && (b && c)) ≡ true → (a ≡ true) × (b ≡ true) × (c ≡ true)
three_of true true c e = (refl, refl, e)
three_of true false c e = absurd cc
three_of false b c e = absurd cc

nest_parts : (pl : Place) (s : Statement) (ss : List Statement) → nests pl (s ∷ ss) ≡ true → (may_stand pl (sort_of s) ≡ true) × (is_proper s ≡ true) × (nests (after pl s) ss ≡ true)
unfolding nests
nest_parts place.Outside s ss e = three_of _ _ _ e
nest_parts place.Ram s ss e = three_of _ _ _ e
nest_parts (place.Options depth) s ss e = three_of _ _ _ e
nest_parts (place.Port kind depth) s ss e = three_of _ _ _ e

reads_end : (st : List Statement) (pl : Place) → nests pl [] ≡ true → run (reading st pl None) [] ≡ Ok (st ++ [])
unfolding run nests
reads_end st place.Outside e = rw (append-nil st) refl
reads_end st place.Ram e = absurd cc
reads_end st (place.Options depth) e = absurd cc
reads_end st (place.Port kind depth) e = absurd cc

pub reads : (ss : List Statement) (st : List Statement) (pl : Place) → nests pl ss ≡ true → run (reading st pl None) (flat_map spelling ss) ≡ Ok (st ++ ss)
reads [] st pl e = reads_end st pl e
reads (s ∷ ss) st pl e =
    let n = nest_parts pl s ss e in
    runs_whole pl (spelling s) s (makes pl s n.0 n.1) st (flat_map spelling ss) ∙ reads ss (st ++ s ∷ []) (after pl s) n.2 ∙ ap (λ (xs : List Statement). Ok xs) (append_assoc st (s ∷ []) ss)

-- ---- what was read can go on

pub record CanGo (r : Reading) : Type 0 where
  pub tokens : List Token
  pub statements : List Statement
  pub is : run r tokens ≡ Ok statements

closed : (st : List Statement) → CanGo (reading st place.Outside None)
unfolding run
closed st = record { tokens = []; statements = st; is = refl }

closing : (st : List Statement) (pl to : Place) → begin pl token.Close ≡ Ok (one.Done statement.End) → after pl statement.End ≡ to → CanGo (reading (st ++ statement.End ∷ []) to None) → CanGo (reading st pl None)
unfolding run step
closing st pl to e same k = record { tokens = token.Close ∷ k.tokens; statements = k.statements; is = rw (e, same) k.is }

close_ram : (st : List Statement) → CanGo (reading st place.Ram None)
close_ram st = closing st place.Ram place.Outside refl refl (closed (st ++ statement.End ∷ []))

close_options : (depth : ℕ) (st : List Statement) → CanGo (reading st (place.Options depth) None)
close_options zero st = closing st (place.Options zero) place.Ram refl refl (close_ram (st ++ statement.End ∷ []))
close_options (suc depth) st = closing st (place.Options (suc depth)) (place.Options depth) refl refl (close_options depth (st ++ statement.End ∷ []))

close_port : (kind : PortKind) (depth : ℕ) (st : List Statement) → CanGo (reading st (place.Port kind depth) None)
close_port kind zero st = closing st (place.Port kind zero) place.Ram refl refl (close_ram (st ++ statement.End ∷ []))
close_port kind (suc depth) st = closing st (place.Port kind (suc depth)) (place.Port kind depth) refl refl (close_port kind depth (st ++ statement.End ∷ []))

close : (pl : Place) (st : List Statement) → CanGo (reading st pl None)
close place.Outside st = closed st
close place.Ram st = close_ram st
close (place.Options depth) st = close_options depth st
close (place.Port kind depth) st = close_port kind depth st

pub goes_on : (st : List Statement) (pl : Place) (q : Option Partial) → CanGo (reading st pl q)
goes_on st pl None = close pl st
goes_on st pl (Some p) =
    let k = can_end p in
    let c = close (after pl k.statement) (st ++ k.statement ∷ []) in
    record { tokens = k.tokens ++ c.tokens; statements = c.statements; is = runs_partial p k.tokens k.statement k.is st pl c.tokens ∙ c.is }

-- ---- both ways, from the start

pub spells_of : (ts : List Token) (ss : List Statement) → run start ts ≡ Ok ss → Spells ts ss
spells_of ts ss e =
    let k = sound [] place.Outside None ts ss tt e in
    let same : ss ≡ k.more = k.parts in
    record { spelled = k.spelled ∙ ap (λ (xs : List Statement). flat_map spelling xs) (sym same); nested = subst (λ (xs : List Statement). nests place.Outside xs ≡ true) (sym same) k.nested }

pub reads_spelled : (ts : List Token) (ss : List Statement) → Spells ts ss → run start ts ≡ Ok ss
reads_spelled ts ss s = ap (λ (xs : List Token). run start xs) s.spelled ∙ reads ss [] place.Outside s.nested
