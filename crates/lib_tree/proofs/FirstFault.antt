-- Reading stops at the first fault of a text, and reads what the text is.
use Rattle.std.proofs.Common.{◌≡◌, inl, inr, ℕ, ◌+◌, List, [], ◌∷◌, ◌++◌, Option, Some, None, Result, Ok, Err, length, refl, sym, ap, subst, ◌∙◌, map}
use Rattle.std.specs.Prelude.{IfErr, IfOk}
use Rattle.lib_tree.specs.declared.fault.LibCode.{LibCode}
use Rattle.lib_tree.specs.declared.fault.LibCode.TheVariants as code
use Rattle.lib_tree.specs.declared.fault.LibFault.{LibFault}
use Rattle.lib_tree.specs.declared.partial.Partial.{Partial}
use Rattle.lib_tree.specs.declared.partial.Step.{Step}
use Rattle.lib_tree.specs.declared.statement.Place.{Place}
use Rattle.lib_tree.specs.declared.statement.Place.TheVariants as place
use Rattle.lib_tree.specs.declared.statement.Statement.{Statement}
use Rattle.lib_tree.specs.declared.text.Reading.{Reading}
use Rattle.lib_tree.specs.declared.token.Token.{Token}
use Rattle.lib_tree.specs.declared.token.Token.TheVariants as token
use Rattle.lib_tree.specs.declared.token.Word.TheVariants as word
use Rattle.lib_tree.specs.Faults.{IsBadNumber, IsBadProperty, IsBadWord, IsCode, IsCodeAt, IsFirstFault, IsReadFault, IsReadFaultBy, IsText, MayFollow, Placed, WantsNumber, WantsOnlyNumber, here, in_line, line_at, placed, placed_from, text_tokens, token_of}
use Rattle.lib_tree.specs.Lex.{tokens}
use Rattle.lib_tree.specs.Machine.{◌>>=◌, advance}
use Rattle.lib_tree.specs.Reading.{FailsAt, GivesRead, at_line, fault, finish, finished, lines, read, read_line, read_lines, settle, start, step}
use Rattle.lib_tree.proofs.Codes.{Takes, codes_of}
use Rattle.lib_tree.proofs.Runs.{bind_ok, ends, goes_on, ok_same, reads_spelled, run, spells_of}

-- ---- tokens with their lines

-- what is read of placed tokens
unfoldable pub read_placed : Reading → ℕ → List Placed → Result (List Statement) LibFault
read_placed r last [] = finish r last
read_placed r last (p ∷ ps) = at_line p.0 (step r p.1) (λ b. read_placed b p.0 ps)

at_bind : {A B C : Type 0} (line : ℕ) (x : Result A LibCode) (f : A → Result B LibFault) (k : B → Result C LibFault) (g : A → Result C LibFault) → ((a : A) → (f a >>= k) ≡ g a) → (at_line line x f >>= k) ≡ at_line line x g
at_bind line (Ok a) f k g h = h a
at_bind line (Err c) f k g h = refl

line_placed : (ts : List Token) (r : Reading) (line last : ℕ) (ls : List (List ℕ)) → ((b : Reading) (m : ℕ) → read_lines b (line + 1) m ls ≡ read_placed b m (placed_from (line + 1) ls))
    → (read_line r line last ts >>= λ x. read_lines x.reading (line + 1) x.last ls) ≡ read_placed r last (map (in_line line) ts ++ placed_from (line + 1) ls)
unfolding read_line read_placed
line_placed [] r line last ls again = again r last
line_placed (t ∷ ts) r line last ls again =
    at_bind line (step r t) (λ b. read_line b line line ts) (λ x. read_lines x.reading (line + 1) x.last ls) (λ b. read_placed b line (map (in_line line) ts ++ placed_from (line + 1) ls)) (λ b. line_placed ts b line line ls again)

lines_placed : (ls : List (List ℕ)) (r : Reading) (line last : ℕ) → read_lines r line last ls ≡ read_placed r last (placed_from line ls)
unfolding read_lines read_placed placed_from
lines_placed [] r line last = refl
lines_placed (l ∷ ls) r line last = line_placed (tokens line l) r line last ls (λ b m. lines_placed ls b (line + 1) m)

-- ---- Ok

finished_ok : (p : Option Partial) (pl : Place) (st : List Statement) (last : ℕ) (ss : List Statement) → finished p pl st last ≡ Ok ss → ends p pl st ≡ Ok ss
finished_ok None place.Outside st last ss e = ap (λ (x : List Statement). Ok x) (ok_same {E = LibFault} st ss e)
finished_ok None place.Ram st last ss e = absurd cc
finished_ok None (place.Options depth) st last ss e = absurd cc
finished_ok None (place.Port kind depth) st last ss e = absurd cc
finished_ok (Some p) pl st last ss e = absurd cc

ends_ok : (p : Option Partial) (pl : Place) (st : List Statement) (last : ℕ) (ss : List Statement) → ends p pl st ≡ Ok ss → finished p pl st last ≡ Ok ss
ends_ok None place.Outside st last ss e = ap (λ (x : List Statement). Ok x) (ok_same {E = LibCode} st ss e)
ends_ok None place.Ram st last ss e = absurd cc
ends_ok None (place.Options depth) st last ss e = absurd cc
ends_ok None (place.Port kind depth) st last ss e = absurd cc
ends_ok (Some p) pl st last ss e = absurd cc

at_ok : {A B : Type 0} (line : ℕ) (x : Result A LibCode) (f : A → Result B LibFault) (b : B) → at_line line x f ≡ Ok b → (a : A) × (x ≡ Ok a) × (f a ≡ Ok b)
at_ok line (Ok a) f b e = (a, refl, e)
at_ok line (Err c) f b e = absurd cc

run_ok : (ps : List Placed) (r : Reading) (last : ℕ) (ss : List Statement) → read_placed r last ps ≡ Ok ss → run r (map token_of ps) ≡ Ok ss
unfolding read_placed run finish
run_ok [] r last ss e = finished_ok r.partial r.place r.statements last ss e
run_ok (p ∷ ps) r last ss e =
    let k = at_ok p.0 (step r p.1) (λ b. read_placed b p.0 ps) ss e in
    rw k.1 (run_ok ps k.0 p.0 ss k.2)

placed_ok : (ps : List Placed) (r : Reading) (last : ℕ) (ss : List Statement) → run r (map token_of ps) ≡ Ok ss → read_placed r last ps ≡ Ok ss
unfolding read_placed run finish
placed_ok [] r last ss e = ends_ok r.partial r.place r.statements last ss e
placed_ok (p ∷ ps) r last ss e =
    let k = bind_ok (step r p.1) (λ b. run b (map token_of ps)) ss e in
    rw k.1 (placed_ok ps k.0 p.0 ss k.2)

-- ---- the first fault

-- what may follow tokens behind what was read
abbrev Follows : Reading → List Token → Token → Type 0
Follows r front t = (more : List Token) × (ss : List Statement) × (run r (front ++ t ∷ more) ≡ Ok ss)

wants_map : (may might : Token → Type 0) → ((u : Token) → may u → might u) → WantsNumber may → WantsNumber might
wants_map may might f w = (w.0, f (token.Number w.0) w.1)

only_map : (may might : Token → Type 0) → ((u : Token) → may u → might u) → ((u : Token) → might u → may u) → WantsOnlyNumber may → WantsOnlyNumber might
only_map may might f g w = (wants_map may might f w.0, λ u k. w.1 u (g u k))

number_map : (may might : Token → Type 0) → ((u : Token) → may u → might u) → ((u : Token) → might u → may u) → (t : Token) → IsBadNumber may t → IsBadNumber might t
number_map may might f g t (inl k) = inl (wants_map may might f k.0, k.1)
number_map may might f g t (inr k) = inr (only_map may might f g k)

word_map : (may might : Token → Type 0) → ((u : Token) → may u → might u) → (t : Token) → IsBadWord may t → IsBadWord might t
word_map may might f t k = (k.0, (k.1.0, k.1.1, f k.1.0 k.1.2))

property_map : (may might : Token → Type 0) → ((u : Token) → may u → might u) → (t : Token) → IsBadProperty may t → IsBadProperty might t
property_map may might f t k = (f (token.Word word.PortOption) k.0, k.1)

code_at_map : (may might : Token → Type 0) → ((u : Token) → may u → might u) → ((u : Token) → might u → may u) → (t : Token) (c : LibCode) → IsCodeAt may t c → IsCodeAt might t c
code_at_map may might f g t code.BadNumber k = number_map may might f g t k
code_at_map may might f g t code.NotForKind k = property_map may might f t k
code_at_map may might f g t code.UnknownWord k = (word_map may might f t k.0, λ h. k.1 (property_map might may g t h))
code_at_map may might f g t code.Token k = (λ h. k.0 (number_map might may g f t h), λ h. k.1 (word_map might may g t h))
code_at_map may might f g t c k = k

code_map : (may might : Token → Type 0) → ((u : Token) → may u → might u) → ((u : Token) → might u → may u) → (ts : List Token) (c : LibCode) → IsCode may ts c → IsCode might ts c
code_map may might f g [] c k = k
code_map may might f g (t ∷ ts) c k = code_at_map may might f g t c k

pub record Refused (r : Reading) (last : ℕ) (ps : List Placed) (f : LibFault) : Type 0 where
  pub front : List Token
  pub rest : List Token
  pub parts : map token_of ps ≡ front ++ rest
  pub can : (more : List Token) × (ss : List Statement) × (run r (front ++ more) ≡ Ok ss)
  pub cannot : (more : List Token) (ss : List Statement) → run r (front ++ here rest more) ≡ Ok ss → ⊥
  pub code : IsCode (Follows r front) rest f.code
  pub line : f.line ≡ line_at last (length front) ps
  pub seen : f.seen ≡ 0

finished_err : (p : Option Partial) (pl : Place) (st : List Statement) (last : ℕ) (f : LibFault) → finished p pl st last ≡ Err f → (fault code.Unclosed last ≡ f) × ((ss : List Statement) → ends p pl st ≡ Ok ss → ⊥)
finished_err None place.Outside st last f e = absurd cc
finished_err None place.Ram st last f e = (cc, λ ss h. absurd cc)
finished_err None (place.Options depth) st last f e = (cc, λ ss h. absurd cc)
finished_err None (place.Port kind depth) st last f e = (cc, λ ss h. absurd cc)
finished_err (Some p) pl st last f e = (cc, λ ss h. absurd cc)

refused_end : (r : Reading) (last : ℕ) (f : LibFault) → finish r last ≡ Err f → Refused r last [] f
unfolding finish run line_at
refused_end r last f e =
    let k = finished_err r.partial r.place r.statements last f e in
    let g = goes_on r.statements r.place r.partial in
    record {
      front = [];
      rest = [];
      parts = refl;
      can = (g.tokens, g.statements, g.is);
      cannot = λ more ss h. k.1 ss h;
      code = ap (λ (x : LibFault). x.code) (sym k.0);
      line = ap (λ (x : LibFault). x.line) (sym k.0);
      seen = ap (λ (x : LibFault). x.seen) (sym k.0);
    }

-- what is taken may follow, since whatever was read can go on
follows : (r : Reading) (u : Token) → Takes r.place r.partial u → Follows r [] u
unfolding run step
follows r u k =
    let b = settle r k.0 in
    let g = goes_on b.statements b.place b.partial in
    (g.tokens, g.statements, rw k.1 g.is)

taken : (r : Reading) (u : Token) → Follows r [] u → Takes r.place r.partial u
unfolding run step
taken r u k =
    let a = bind_ok (step r u) (λ b. run b k.0) k.1 k.2 in
    let c = bind_ok (advance r.place r.partial u) (λ s. Ok (settle r s)) a.0 a.1 in
    (c.0, c.1)

step_err : (r : Reading) (t : Token) (c : LibCode) → step r t ≡ Err c → (x : Result Step LibCode) → advance r.place r.partial t ≡ x → advance r.place r.partial t ≡ Err c
unfolding step
step_err r t c e (Err d) h = let same : d ≡ c = cc in h ∙ ap (λ (k : LibCode). Err k) same
step_err r t c e (Ok s) h = let bad : Ok (settle r s) ≡ Err c = rw h at e in absurd cc

refused_token : (r : Reading) (last : ℕ) (p : Placed) (ps : List Placed) (c : LibCode) → step r p.1 ≡ Err c → Refused r last (p ∷ ps) (fault c p.0)
unfolding run line_at
refused_token r last p ps c e =
    let g = goes_on r.statements r.place r.partial in
    record {
      front = [];
      rest = map token_of (p ∷ ps);
      parts = refl;
      can = (g.tokens, g.statements, g.is);
      cannot = λ more ss h. let k = bind_ok (step r p.1) (λ b. run b more) ss h in let bad : Err c ≡ Ok k.0 = sym e ∙ k.1 in absurd cc;
      code = code_at_map (Takes r.place r.partial) (Follows r []) (follows r) (taken r) p.1 c (codes_of r.place r.partial p.1 c (step_err r p.1 c e (advance r.place r.partial p.1) refl));
      line = refl;
      seen = refl;
    }

refused_later : (r b : Reading) (last : ℕ) (p : Placed) (ps : List Placed) (f : LibFault) → step r p.1 ≡ Ok b → Refused b p.0 ps f → Refused r last (p ∷ ps) f
unfolding run line_at
refused_later r b last p ps f e k = record {
  front = p.1 ∷ k.front;
  rest = k.rest;
  parts = ap (λ (ts : List Token). p.1 ∷ ts) k.parts;
  can = (k.can.0, k.can.1, rw e k.can.2);
  cannot = λ more ss h. k.cannot more ss (rw e at h);
  code = code_map (Follows b k.front) (Follows r (p.1 ∷ k.front)) (λ u m. (m.0, m.1, rw e m.2)) (λ u m. (m.0, m.1, rw e at m.2)) k.rest f.code k.code;
  line = k.line;
  seen = k.seen;
}

refused_by : (r : Reading) (last : ℕ) (p : Placed) (ps : List Placed) (f : LibFault) (x : Result Reading LibCode) → step r p.1 ≡ x → at_line p.0 x (λ b. read_placed b p.0 ps) ≡ Err f
    → ((b : Reading) → read_placed b p.0 ps ≡ Err f → Refused b p.0 ps f) → Refused r last (p ∷ ps) f
refused_by r last p ps f (Ok b) e h again = refused_later r b last p ps f e (again b h)
refused_by r last p ps f (Err c) e h again = let same : fault c p.0 ≡ f = cc in subst (λ (g : LibFault). Refused r last (p ∷ ps) g) same (refused_token r last p ps c e)

refuses : (ps : List Placed) (r : Reading) (last : ℕ) (f : LibFault) → read_placed r last ps ≡ Err f → Refused r last ps f
unfolding read_placed
refuses [] r last f e = refused_end r last f e
refuses (p ∷ ps) r last f e = refused_by r last p ps f (step r p.1) refl e (λ b h. refuses ps b p.0 f h)

-- ---- texts

read_is_placed : (bs : List ℕ) → read bs ≡ read_placed start 1 (placed bs)
read_is_placed bs = lines_placed (lines bs) start 1 1

pub is_text : (bs : List ℕ) (ss : List Statement) → read bs ≡ Ok ss → IsText bs ss
is_text bs ss e = spells_of (text_tokens bs) ss (run_ok (placed bs) start 1 ss (sym (read_is_placed bs) ∙ e))

pub text_read : (bs : List ℕ) (ss : List Statement) → IsText bs ss → read bs ≡ Ok ss
text_read bs ss s = read_is_placed bs ∙ placed_ok (placed bs) start 1 ss (reads_spelled (text_tokens bs) ss s)

follows_front : (front : List Token) (u : Token) → Follows start front u → MayFollow front u
follows_front front u k = (k.0, (k.1, spells_of (front ++ u ∷ k.0) k.1 k.2))

front_follows : (front : List Token) (u : Token) → MayFollow front u → Follows start front u
front_follows front u k = (k.0, k.1.0, reads_spelled (front ++ u ∷ k.0) k.1.0 k.1.1)

first_fault : (bs : List ℕ) (f : LibFault) → read bs ≡ Err f → IsFirstFault (placed bs) f
first_fault bs f e =
    let k = refuses (placed bs) start 1 f (sym (read_is_placed bs) ∙ e) in
    record {
      front = k.front;
      rest = k.rest;
      parts = k.parts;
      can = (k.can.0, (k.can.1, spells_of (k.front ++ k.can.0) k.can.1 k.can.2));
      cannot = λ more lib. k.cannot more lib.0 (reads_spelled (k.front ++ here k.rest more) lib.0 lib.1);
      code = code_map (Follows start k.front) (MayFollow k.front) (follows_front k.front) (front_follows k.front) k.rest f.code k.code;
      line = k.line;
      seen = k.seen;
    }

fault_by : (c : LibCode) (bs : List ℕ) (f : LibFault) → FailsAt c f (read bs) → IsReadFaultBy c bs f
fault_by code.Memory bs f h = h
fault_by c bs f h = first_fault bs f h

pub is_read_fault : (bs : List ℕ) (f : LibFault) → FailsAt f.code f (read bs) → IsReadFault bs f
is_read_fault bs f h = fault_by f.code bs f h

pub only_gives : (bs : List ℕ) (x : Result (List Statement) LibFault) (ss : List Statement) → GivesRead x (read bs) → IsText bs ss → GivesRead x (Ok ss)
only_gives bs x ss g s = subst (λ (y : Result (List Statement) LibFault). GivesRead x y) (text_read bs ss s) g

pub is_found : (bs : List ℕ) (x : Result (List Statement) LibFault) → GivesRead x (read bs) → IfOk x (λ ss. IsText bs ss)
is_found bs (Ok ss) g = is_text bs ss g
is_found bs (Err f) g = tt

pub is_first : (bs : List ℕ) (x : Result (List Statement) LibFault) → GivesRead x (read bs) → IfErr x (λ f. IsReadFault bs f)
is_first bs (Ok ss) g = tt
is_first bs (Err f) g = is_read_fault bs f g
