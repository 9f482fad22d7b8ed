-- Reading a line or a text, by its first token or line.
use Rattle.std.proofs.Common.{◌≡◌, ℕ, ◌+◌, List, [], ◌∷◌, Option, None, Result, Ok, Err, refl, sym, ap, subst, ◌∙◌}
use Rattle.lib_tree.specs.declared.fault.LibCode.{LibCode}
use Rattle.lib_tree.specs.declared.fault.LibCode.TheVariants as code
use Rattle.lib_tree.specs.declared.fault.LibFault.{LibFault}
use Rattle.lib_tree.specs.declared.partial.Partial.{Partial}
use Rattle.lib_tree.specs.declared.statement.Place.{Place}
use Rattle.lib_tree.specs.declared.statement.Place.TheVariants as place
use Rattle.lib_tree.specs.declared.statement.Statement.{Statement}
use Rattle.lib_tree.specs.declared.text.LineRead.{LineRead}
use Rattle.lib_tree.specs.declared.text.Reading.{Reading}
use Rattle.lib_tree.specs.declared.token.Token.{Token}
use Rattle.lib_tree.specs.Lex.{tokens}
use Rattle.lib_tree.specs.Machine.{◌>>=◌}
use Rattle.lib_tree.specs.Reading.{FailsAt, GivesRead, at_line, fault, finish, finished, read_line, read_lines, lines, step}

-- a fault of a part is one of the whole
pub fails_map : {X Y : Type 0} (c : LibCode) (f : LibFault) (x : Result X LibFault) (y : Result Y LibFault) → (x ≡ Err f → y ≡ Err f) → FailsAt c f x → FailsAt c f y
fails_map code.Memory f x y m h = h
fails_map c f x y m h = m h

err_at : {A B : Type 0} (line : ℕ) (x : Result A LibCode) (g : A → Result B LibFault) (f : LibFault) → at_line line x Ok ≡ Err f → at_line line x g ≡ Err f
err_at line (Ok a) g f e = absurd cc
err_at line (Err c) g f e = let same : fault c line ≡ f = cc in ap (λ (k : LibFault). Err k) same

ok_at : {A : Type 0} (line : ℕ) (x : Result A LibCode) (a : A) → at_line line x Ok ≡ Ok a → x ≡ Ok a
ok_at line (Ok b) a e = let same : b ≡ a = cc in ap (λ (k : _). Ok k) same
ok_at line (Err c) a e = absurd cc

pub line_ok : (r behind : Reading) (line last : ℕ) (bs rest : List ℕ) (t : Token) → tokens line bs ≡ t ∷ tokens line rest → at_line line (step r t) Ok ≡ Ok behind
    → read_line r line last (tokens line bs) ≡ read_line behind line line (tokens line rest)
unfolding read_line
line_ok r behind line last bs rest t e s =
    ap (λ (ts : List Token). read_line r line last ts) e ∙ ap (λ (x : Result Reading LibCode). at_line line x (λ next. read_line next line line (tokens line rest))) (ok_at line (step r t) behind s)

pub line_err : (r : Reading) (f : LibFault) (line last : ℕ) (bs rest : List ℕ) (t : Token) (whole : Result LineRead LibFault) → tokens line bs ≡ t ∷ tokens line rest → FailsAt f.code f (at_line line (step r t) Ok)
    → read_line r line last (tokens line bs) ≡ whole → FailsAt f.code f whole
unfolding read_line
line_err r f line last bs rest t whole e s w =
    fails_map f.code f (at_line line (step r t) Ok) whole
    (λ failed. sym w ∙ ap (λ (ts : List Token). read_line r line last ts) e ∙ err_at line (step r t) (λ next. read_line next line line (tokens line rest)) f failed) s

pub line_end : (r : Reading) (line last : ℕ) (bs : List ℕ) → tokens line bs ≡ [] → read_line r line last (tokens line bs) ≡ Ok (record { reading = r; last = last })
unfolding read_line
line_end r line last bs e = ap (λ (ts : List Token). read_line r line last ts) e

-- ---- lines

bind_err : {A B E : Type 0} (x : Result A E) (g : A → Result B E) (e : E) → x ≡ Err e → (x >>= g) ≡ Err e
bind_err x g e h = rw h refl

pub lines_ok : (r : Reading) (x : LineRead) (line last : ℕ) (bs front : List ℕ) (behind : List (List ℕ)) → lines bs ≡ front ∷ behind → read_line r line last (tokens line front) ≡ Ok x
    → read_lines r line last (lines bs) ≡ read_lines x.reading (line + 1) x.last behind
unfolding read_lines
lines_ok r x line last bs front behind e s =
    ap (λ (ls : List (List ℕ)). read_lines r line last ls) e ∙ ap (λ (y : Result LineRead LibFault). y >>= λ z. read_lines z.reading (line + 1) z.last behind) s

pub lines_err : (r : Reading) (f : LibFault) (line last : ℕ) (bs front : List ℕ) (behind : List (List ℕ)) (whole : Result (List Statement) LibFault) → lines bs ≡ front ∷ behind
    → FailsAt f.code f (read_line r line last (tokens line front)) → read_lines r line last (lines bs) ≡ whole → FailsAt f.code f whole
unfolding read_lines
lines_err r f line last bs front behind whole e s w =
    fails_map f.code f (read_line r line last (tokens line front)) whole
    (λ failed. sym w ∙ ap (λ (ls : List (List ℕ)). read_lines r line last ls) e ∙ bind_err (read_line r line last (tokens line front)) (λ z. read_lines z.reading (line + 1) z.last behind) f failed) s

-- ---- the end of a text

finished_gives : (p : Option Partial) (pl : Place) (ss : List Statement) (last : ℕ) → GivesRead (finished p pl ss last) (finished p pl ss last)
finished_gives None place.Outside ss last = refl
finished_gives p pl ss last = refl

pub finish_gives : (r : Reading) (last : ℕ) (x whole : Result (List Statement) LibFault) → x ≡ finish r last → finish r last ≡ whole → GivesRead x whole
unfolding finish
finish_gives r last x whole e w = subst (λ (y : Result (List Statement) LibFault). GivesRead x y) w (subst (λ (y : Result (List Statement) LibFault). GivesRead y (finished r.partial r.place r.statements last)) (sym e) (finished_gives r.partial r.place r.statements last))

pub no_lines : (r : Reading) (line last : ℕ) → read_lines r line last [] ≡ finish r last
unfolding read_lines
no_lines r line last = refl
