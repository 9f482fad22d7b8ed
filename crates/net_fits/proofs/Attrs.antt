-- Attributes and parameters of a text.
use Rattle.std.proofs.Common.{◌≡◌, ℕ, zero, suc, ◌+◌, ◌≤◌, ◌<◌, ◌^◌, ◌/◌, Bool, true, false, cond, ◌||◌, List, [], ◌∷◌, ◌++◌, map, reverse, length, Option, Some, None, refl, sym, ap, ◌∙◌, subst, arith}
use Rattle.std.specs.List.{flat_map, list_any}
use Rattle.std.specs.Int.{cast_unsigned, w32}
use Rattle.std.specs.Str.{bytes_eq}
use Rattle.std.proofs.lemmas.List.{length-reverse}
use Rattle.std.proofs.lemmas.List.Folds.{list_any-append}
use Rattle.std.proofs.lemmas.Slice.Eq.{bytes_eq-Decides}
use Rattle.rtlil_lex.specs.Spelling.{IsIdentifier}
use Rattle.rtlil_text.specs.declared.doc.CellLine.{CellLine}
use Rattle.rtlil_text.specs.declared.doc.CellLine.TheVariants as line
use Rattle.rtlil_text.specs.declared.doc.DocAttr.{DocAttr}
use Rattle.rtlil_text.specs.declared.doc.DocConst.{DocConst}
use Rattle.rtlil_text.specs.declared.doc.DocConst.TheVariants as const
use Rattle.rtlil_text.specs.Grammar.{All, AreDistinct, AreNew, has, HasNewLines, parameter_name}
use Rattle.net_core.specs.declared.mems.Attr.{Attr}
use Rattle.net_core.specs.Valid.{AreApart, AttrFits, AttrsFit, ParamsFit}
use Rattle.cell_consts.specs.Consts.{low_bits}
use Rattle.doc_params.specs.Docs.{attr, attr_of, attr_or_none, attrs_of, digit_bit, params_of}
use Rattle.net_fits.specs.Written.{AttrIsWritten, IsShort, LineIsWritten, MayBeShort}
use Rattle.net_fits.proofs.Lists.{counted_apart, each_of, how_many, length_map}
use Rattle.net_fits.proofs.Naming.{identifier_is_name}

-- ---- names that are new stand once

or_false : (a b : Bool) → (a || b) ≡ false → (a ≡ false) × (b ≡ false)
or_false true b e = absurd cc
or_false false b e = (refl, e)

or_left : (a b : Bool) → a ≡ true → (a || b) ≡ true
or_left true b e = refl
or_left false b e = absurd cc

or_right : (a b : Bool) → b ≡ true → (a || b) ≡ true
or_right true b e = refl
or_right false b e = e

pub own_bytes : (n : List ℕ) → bytes_eq n n ≡ true
own_bytes n = (bytes_eq-Decides n n).1 refl

seen_before : (before : List (List ℕ)) (m n : List ℕ) → has before n ≡ true → has (before ++ m ∷ []) n ≡ true
unfolding has
seen_before before m n h = list_any-append (bytes_eq n) before (m ∷ []) ∙ or_left (list_any (bytes_eq n) before) _ h

seen_last : (before : List (List ℕ)) (m n : List ℕ) → bytes_eq n m ≡ true → has (before ++ m ∷ []) n ≡ true
unfolding has
seen_last before m n h = list_any-append (bytes_eq n) before (m ∷ []) ∙ or_right (list_any (bytes_eq n) before) _ (or_left (bytes_eq n m) false h)

count_case : (b : Bool) (k limit : ℕ) → (b ≡ true → 1 + k ≤ limit) → (b ≡ false → k ≤ limit) → cond b 1 0 + k ≤ limit
count_case true k limit f g = f refl
count_case false k limit f g = let h : k ≤ limit = g refl in omega (arith, h)

seen_never : (before ns : List (List ℕ)) (n : List ℕ) → AreNew before ns → has before n ≡ true → how_many (bytes_eq n) ns ≤ 0
seen_never before [] n new seen = omega arith
seen_never before (m ∷ ms) n new seen =
    count_case (bytes_eq n m) (how_many (bytes_eq n) ms) 0
    (λ same. absurd (let x : has before m ≡ false = new.0 in let y : has before m ≡ true = ap (has before) (sym ((bytes_eq-Decides n m).0 same)) ∙ seen in cc))
    (λ other. seen_never (before ++ m ∷ []) ms n new.1 (seen_before before m n seen))

new_once : (before ns : List (List ℕ)) (n : List ℕ) → AreNew before ns → how_many (bytes_eq n) ns ≤ 1
new_once before [] n new = omega arith
new_once before (m ∷ ms) n new =
    count_case (bytes_eq n m) (how_many (bytes_eq n) ms) 1
    (λ same. (let none : how_many (bytes_eq n) ms ≤ 0 = seen_never (before ++ m ∷ []) ms n new.1 (seen_last before m n same) in omega (arith, none)))
    (λ other. new_once (before ++ m ∷ []) ms n new.1)

pub distinct_once : (ns : List (List ℕ)) (n : List ℕ) → AreDistinct ns → how_many (bytes_eq n) ns ≤ 1
distinct_once ns n new = new_once [] ns n new

pub distinct_apart : (ns : List (List ℕ)) → AreDistinct ns → AreApart ns
distinct_apart ns new = counted_apart bytes_eq ns own_bytes (λ n. distinct_once ns n new)

-- ---- attributes

length_low : (width n : ℕ) → length (low_bits width n) ≡ width
unfolding low_bits
length_low zero n = refl
length_low (suc width) n = ap (λ k. suc k) (length_low width (n / 2))

pub attr_fits : (name : List ℕ) (c : DocConst) → IsIdentifier name → IsShort c → AttrFits (attr name c)
attr_fits name (const.Digits ds) i s =
    let long : length (map digit_bit (reverse ds)) ≡ length ds = length_map digit_bit (reverse ds) ∙ length-reverse ds in
    record { name = identifier_is_name name i; bits = λ e. absurd cc; value = λ e. refl; count = omega (arith, long, s) }
attr_fits name (const.Number z) i s = record { name = identifier_is_name name i; bits = λ e. absurd cc; value = λ e. refl; count = omega (arith, length_low 32 (cast_unsigned w32 z)) }
attr_fits name (const.Text t) i s = record { name = identifier_is_name name i; bits = λ e. refl; value = λ e. absurd cc; count = omega arith }

abbrev pub AllFit : List Attr → Type 0
AllFit as_ = All AttrFits as_

pub fit_each : (as_ : List Attr) → AllFit as_ → length as_ < 2 ^ 32 → AttrsFit as_
fit_each as_ all short = record { each = each_of AttrFits as_ all; count = short }

written_all : (as_ : List DocAttr) → All AttrIsWritten as_ → AllFit (attrs_of as_)
written_all [] w = tt
written_all (a ∷ as_) w = (attr_fits a.name a.value w.0.0 w.0.1, written_all as_ w.1)

pub attrs_fit : (as_ : List DocAttr) → All AttrIsWritten as_ → length as_ < 2 ^ 32 → AttrsFit (attrs_of as_)
attrs_fit as_ w short = let same : length (attrs_of as_) ≡ length as_ = length_map attr_of as_ in fit_each (attrs_of as_) (written_all as_ w) (omega (arith, same, short))

-- ---- parameters

attr_name : (name : List ℕ) (c : DocConst) → (attr name c).name ≡ name
attr_name name (const.Digits ds) = refl
attr_name name (const.Number z) = refl
attr_name name (const.Text t) = refl

attr_or_none_name : (name : List ℕ) (v : Option DocConst) → (attr_or_none name v).name ≡ name
attr_or_none_name name None = refl
attr_or_none_name name (Some c) = attr_name name c

param_fits : (name : List ℕ) (v : Option DocConst) → IsIdentifier name → MayBeShort v → AttrFits (attr_or_none name v)
param_fits name None i s = record { name = identifier_is_name name i; bits = λ e. refl; value = λ e. refl; count = omega arith }
param_fits name (Some c) i s = attr_fits name c i s

params_all : (ls : List CellLine) → All LineIsWritten ls → AllFit (params_of ls)
params_all [] w = tt
params_all (line.Param p ∷ ls) w = (param_fits p.name p.value w.0.0 w.0.1, params_all ls w.1)
params_all (line.Pin n v ∷ ls) w = params_all ls w.1

params_short : (ls : List CellLine) → length (params_of ls) ≤ length ls
params_short [] = omega arith
params_short (line.Param p ∷ ls) = let rest : length (params_of ls) ≤ length ls = params_short ls in omega (arith, rest)
params_short (line.Pin n v ∷ ls) = let rest : length (params_of ls) ≤ length ls = params_short ls in omega (arith, rest)

params_names : (ls : List CellLine) → map (λ (p : Attr). p.name) (params_of ls) ≡ flat_map parameter_name ls
params_names [] = refl
params_names (line.Param p ∷ ls) = ap (λ n. n ∷ map (λ (q : Attr). q.name) (params_of ls)) (attr_or_none_name p.name p.value) ∙ ap (λ ns. p.name ∷ ns) (params_names ls)
params_names (line.Pin n v ∷ ls) = params_names ls

pub params_fit : (ls : List CellLine) → All LineIsWritten ls → HasNewLines ls → length ls < 2 ^ 32 → ParamsFit (params_of ls)
params_fit ls w new short = record {
  each = (let fewer : length (params_of ls) ≤ length ls = params_short ls in fit_each (params_of ls) (params_all ls w) (omega (arith, fewer, short)));
  apart = subst AreApart (sym (params_names ls)) (distinct_apart (flat_map parameter_name ls) new.parameters);
}
