-- Names, numbers and signals: each test decides what it is for.
use Rattle.std.proofs.Common.{◌≡◌, ℕ, ℤ, pos, negsuc, zero, suc, ◌+◌, ◌≤◌, ◌<◌, Bool, true, false, List, [], ◌∷◌, ◌++◌, length, Option, Some, None, refl, sym, ap, subst, ◌∙◌, append-nil, append_assoc, arith, add-one}
use Rattle.std.specs.Prelude.{not, ◌&&◌, ◌||◌, ◌==◌, nat_lt, nat_le}
use Rattle.std.specs.Bool.{Decides}
use Rattle.std.specs.List.{list_all}
use Rattle.std.proofs.lemmas.Bool.{and_parts, and_from, eqb-true, leb-true, ltb-true, le-leb, lt-ltb}
use Rattle.std.proofs.lemmas.Bool.Decides.{Decides-and, Decides-like, Decides-ltb}
use Rattle.rtlil_lex.specs.Bytes.{is_visible, begins_identifier, is_on_line}
use Rattle.rtlil_lex.specs.Spelling.{Begins, IsIdentifier, IsInt}
use Rattle.rtlil_text.specs.declared.doc.DocConst.{DocConst}
use Rattle.rtlil_text.specs.declared.doc.DocConst.TheVariants as const
use Rattle.rtlil_text.specs.declared.doc.Part.{Part}
use Rattle.rtlil_text.specs.declared.doc.Part.TheVariants as part
use Rattle.rtlil_print.specs.WellFormed.{IsConst, IsWhole, AreWhole, fixed, wire, slice, group, none, more}
use Rattle.doc_fits.specs.declared.signal.Spot.{Spot}
use Rattle.doc_fits.specs.Tests.{is_name_byte, begins_name, is_identifier, is_count, int_fits, const_fits, spot, may_begin, goes, closed, step, on_spot, walk, ends, is_signal}

-- ---- names and numbers

decides_bytes : (bs : List ℕ) → Decides (list_all is_name_byte bs) ((list_all is_visible bs ≡ true) × (list_all is_on_line bs ≡ true))
decides_bytes [] = (λ e. (refl, refl), λ p. refl)
decides_bytes (b ∷ bs) = (
  λ e.
      let r = and_parts (is_name_byte b) (list_all is_name_byte bs) e in
      let h = and_parts (is_visible b) (is_on_line b) r.0 in
      let t = (decides_bytes bs).0 r.1 in
      (and_from (is_visible b) (list_all is_visible bs) h.0 t.0, and_from (is_on_line b) (list_all is_on_line bs) h.1 t.1),
  λ p.
      let v = and_parts (is_visible b) (list_all is_visible bs) p.0 in
      let l = and_parts (is_on_line b) (list_all is_on_line bs) p.1 in
      and_from (is_name_byte b) (list_all is_name_byte bs) (and_from (is_visible b) (is_on_line b) v.0 l.0) ((decides_bytes bs).1 (v.1, l.1)),
)

decides_begin : (n : List ℕ) → Decides (begins_name n) (Begins begins_identifier n × (2 ≤ length n))
decides_begin [] = (λ e. absurd cc, λ p. absurd p.0)
decides_begin (b ∷ []) = (λ e. absurd cc, λ p. absurd (omega arith))
decides_begin (b ∷ c ∷ bs) = (λ e. (e, omega arith), λ p. p.0)

pub decides_identifier : (n : List ℕ) → Decides (is_identifier n) (IsIdentifier n)
unfolding is_identifier
decides_identifier n =
    Decides-like (begins_name n && list_all is_name_byte n)
    (λ r. record { begins = r.0.0; long = r.0.1; visible = r.1.0; on_line = r.1.1 })
    (λ i. ((i.begins, i.long), (i.visible, i.on_line)))
    (Decides-and (begins_name n) (list_all is_name_byte n) (decides_begin n) (decides_bytes n))

pub decides_int : (z : ℤ) → Decides (int_fits z) (IsInt z)
decides_int (pos n) = Decides-ltb n 2147483648
decides_int (negsuc n) = Decides-ltb n 2147483648

pub decides_const : (c : DocConst) → Decides (const_fits c) (IsConst c)
unfolding const_fits
decides_const (const.Digits ds) = (λ e. tt, λ p. refl)
decides_const (const.Number z) = decides_int z
decides_const (const.Text t) = (λ e. tt, λ p. refl)

-- ---- signals: what a spot knows of the parts before it

-- a signal may begin behind these parts: braces are open, with signals in the innermost
abbrev Opens : ℕ → List Part → Type 0
Opens zero f = f ≡ []
Opens (suc d) f = (outer : List Part) × (inner : List Part) × (f ≡ outer ++ part.Begin ∷ inner) × Opens d outer × AreWhole inner

-- a signal ended right behind these parts
abbrev Ended : ℕ → List Part → Type 0
Ended d f = (before : List Part) × (last : List Part) × (f ≡ before ++ last) × Opens d before × IsWhole last

abbrev PlaceAt : ℕ → Bool → List Part → Type 0
PlaceAt d true f = Ended d f
PlaceAt d false f = Opens d f

abbrev Place : Spot → List Part → Type 0
Place s f = PlaceAt s.depth s.ended f

are_more : (a b : List Part) → AreWhole a → IsWhole b → AreWhole (a ++ b)
are_more a b none w = subst (λ (z : List Part). AreWhole z) (append-nil b) (more w none)
are_more a b (more {ps = x} {qs = y} is are) w = subst (λ (z : List Part). AreWhole z) (sym (append_assoc x y b)) (more is (are_more y b are w))

goes_on : (d : ℕ) (f : List Part) → Ended (suc d) f → Opens (suc d) f
goes_on d f e =
    let before = e.0 in
    let last = e.1 in
    let o = e.3 in
    (o.0, o.1 ++ last, e.2 ∙ ap (λ (z : List Part). z ++ last) o.2 ∙ append_assoc o.0 (part.Begin ∷ o.1) last, o.3, are_more o.1 last o.4 e.4)

begins_at : (d : ℕ) (e : Bool) (f : List Part) → may_begin (spot d e) ≡ true → PlaceAt d e f → Opens d f
begins_at zero true f m p = absurd cc
begins_at zero false f m p = p
begins_at (suc d) true f m p = goes_on d f p
begins_at (suc d) false f m p = p

goes_is : (b : Bool) (s t : Spot) → goes b s ≡ Some t → (b ≡ true) × (s ≡ t)
goes_is true s t e = (refl, cc)
goes_is false s t e = absurd cc

based : (s t : Spot) (f : List Part) (p : Part) → may_begin s ≡ true → IsWhole (p ∷ []) → Place s f → spot s.depth true ≡ t → Place t (f ++ p ∷ [])
based s t f p m w here e = subst (λ (z : Spot). Place z (f ++ p ∷ [])) e (f, p ∷ [], refl, begins_at s.depth s.ended f m here, w)

sliced : (d high low : ℕ) (e : Bool) (f : List Part) → e ≡ true → low ≤ high → high < 2147483648 → PlaceAt d e f → PlaceAt d e (f ++ part.Slice high low ∷ [])
sliced d high low true f e le lt (before, last, is, opens, whole) =
    (before, last ++ part.Slice high low ∷ [], ap (λ (z : List Part). z ++ part.Slice high low ∷ []) is ∙ append_assoc before last (part.Slice high low ∷ []), opens, slice high low le lt whole)
sliced d high low false f e le lt p = absurd cc

closes : (d : ℕ) (f : List Part) → Opens (suc d) f → Ended d (f ++ part.End ∷ [])
closes d f (outer, inner, is, opens, are) =
    (outer, part.Begin ∷ (inner ++ part.End ∷ []), ap (λ (z : List Part). z ++ part.End ∷ []) is ∙ append_assoc outer (part.Begin ∷ inner) (part.End ∷ []), opens, group are)

ended : (d : ℕ) (e : Bool) (t : Spot) (f : List Part) → closed d ≡ Some t → PlaceAt d e f → Place t (f ++ part.End ∷ [])
ended zero e t f h p = absurd cc
ended (suc d) true t f h p = let k : spot d true ≡ t = cc in subst (λ (z : Spot). Place z (f ++ part.End ∷ [])) k (closes d f (goes_on d f p))
ended (suc d) false t f h p = let k : spot d true ≡ t = cc in subst (λ (z : Spot). Place z (f ++ part.End ∷ [])) k (closes d f p)

opened : (s t : Spot) (f : List Part) → may_begin s ≡ true → Place s f → spot (s.depth + 1) false ≡ t → Place t (f ++ part.Begin ∷ [])
opened s t f m p e =
    let k : spot (suc s.depth) false ≡ t = ap (λ (n : ℕ). spot n false) (sym (add-one s.depth)) ∙ e in
    subst (λ (z : Spot). Place z (f ++ part.Begin ∷ [])) k (f, [], refl, begins_at s.depth s.ended f m p, none)

stepped : (s t : Spot) (p : Part) (f : List Part) → step s p ≡ Some t → Place s f → Place t (f ++ p ∷ [])
unfolding step
stepped s t (part.Fixed c) f e here =
    let g = goes_is (const_fits c && may_begin s) (spot s.depth true) t e in
    let r = and_parts (const_fits c) (may_begin s) g.0 in
    based s t f (part.Fixed c) r.1 (fixed c ((decides_const c).0 r.0)) here g.1
stepped s t (part.Wire n) f e here =
    let g = goes_is (is_identifier n && may_begin s) (spot s.depth true) t e in
    let r = and_parts (is_identifier n) (may_begin s) g.0 in
    based s t f (part.Wire n) r.1 (wire n ((decides_identifier n).0 r.0)) here g.1
stepped s t (part.Slice high low) f e here =
    let g = goes_is (s.ended && nat_le low high && is_count high) s t e in
    let r = and_parts (s.ended && nat_le low high) (is_count high) g.0 in
    let q = and_parts s.ended (nat_le low high) r.0 in
    subst (λ (z : Spot). Place z (f ++ part.Slice high low ∷ [])) g.1 (sliced s.depth high low s.ended f q.0 (leb-true low high q.1) (ltb-true high 2147483648 r.1) here)
stepped s t part.Begin f e here = let g = goes_is (may_begin s) (spot (s.depth + 1) false) t e in opened s t f g.0 here g.1
stepped s t part.End f e here = ended s.depth s.ended t f e here

goes_deep : (b : Bool) (s t : Spot) (n : ℕ) → goes b s ≡ Some t → s.depth ≤ n → t.depth ≤ n
goes_deep b s t n e le = let g = goes_is b s t e in subst (λ (z : Spot). z.depth ≤ n) g.1 le

closed_deep : (d : ℕ) (t : Spot) → closed d ≡ Some t → t.depth ≤ d + 1
closed_deep zero t e = absurd cc
closed_deep (suc d) t e = let k : spot d true ≡ t = cc in subst (λ (z : Spot). z.depth ≤ suc d + 1) k (omega arith)

-- no part opens more than one brace
pub deeper : (s t : Spot) (p : Part) → step s p ≡ Some t → t.depth ≤ s.depth + 1
unfolding step
deeper s t (part.Fixed c) e = goes_deep (const_fits c && may_begin s) (spot s.depth true) t (s.depth + 1) e (omega arith)
deeper s t (part.Wire n) e = goes_deep (is_identifier n && may_begin s) (spot s.depth true) t (s.depth + 1) e (omega arith)
deeper s t (part.Slice high low) e = goes_deep (s.ended && nat_le low high && is_count high) s t (s.depth + 1) e (omega arith)
deeper s t part.Begin e = goes_deep (may_begin s) (spot (s.depth + 1) false) t (s.depth + 1) e (omega arith)
deeper s t part.End e = closed_deep s.depth t e

on_some : (o : Option Spot) (g : Spot → Option Spot) (t : Spot) → on_spot o g ≡ Some t → (u : Spot) × (o ≡ Some u) × (g u ≡ Some t)
on_some None g t e = absurd cc
on_some (Some u) g t e = (u, refl, e)

walked : (ps : List Part) (s t : Spot) (f : List Part) → walk s ps ≡ Some t → Place s f → Place t (f ++ ps)
unfolding walk
walked [] s t f e here = let k : s ≡ t = cc in rw (append-nil f) (subst (λ (z : Spot). Place z f) k here)
walked (p ∷ ps) s t f e here =
    let k = on_some (step s p) (λ u. walk u ps) t e in
    subst (λ (z : List Part). Place t z) (append_assoc f (p ∷ []) ps) (walked ps k.0 t (f ++ p ∷ []) k.2 (stepped s k.0 p f k.1 here))

at_end : (d : ℕ) (e : Bool) (f : List Part) → d ≡ 0 → e ≡ true → PlaceAt d e f → IsWhole f
at_end zero true f h k (before, last, is, opens, whole) = subst (λ (z : List Part). IsWhole z) (sym (is ∙ ap (λ (z : List Part). z ++ last) opens)) whole
at_end zero false f h k p = absurd cc
at_end (suc d) e f h k p = absurd (omega arith)

ended_whole : (ps : List Part) (o : Option Spot) → walk (spot 0 false) ps ≡ o → ends o ≡ true → IsWhole ps
ended_whole ps None e h = absurd cc
ended_whole ps (Some t) e h =
    let r = and_parts (t.depth == 0) t.ended h in
    at_end t.depth t.ended ps (eqb-true t.depth 0 r.0) r.1 (walked ps (spot 0 false) t [] e refl)

-- ---- and a whole signal is walked through

begin_within : (d : ℕ) (e : Bool) → may_begin (spot (suc d) e) ≡ true
begin_within d e = rw (lt-ltb 0 (suc d) (omega arith)) refl

pub walk_on : (s t : Spot) (p : Part) (ps : List Part) → step s p ≡ Some t → walk s (p ∷ ps) ≡ walk t ps
unfolding walk
walk_on s t p ps e = rw e refl

goes_some : (b : Bool) (s : Spot) → b ≡ true → goes b s ≡ Some s
goes_some true s e = refl
goes_some false s e = absurd cc

step_fixed : (s : Spot) (c : DocConst) → const_fits c ≡ true → may_begin s ≡ true → step s (part.Fixed c) ≡ Some (spot s.depth true)
unfolding step
step_fixed s c f m = goes_some (const_fits c && may_begin s) (spot s.depth true) (and_from (const_fits c) (may_begin s) f m)

step_wire : (s : Spot) (n : List ℕ) → is_identifier n ≡ true → may_begin s ≡ true → step s (part.Wire n) ≡ Some (spot s.depth true)
unfolding step
step_wire s n f m = goes_some (is_identifier n && may_begin s) (spot s.depth true) (and_from (is_identifier n) (may_begin s) f m)

step_slice : (d high low : ℕ) → low ≤ high → high < 2147483648 → step (spot d true) (part.Slice high low) ≡ Some (spot d true)
unfolding step
step_slice d high low le lt = goes_some (true && nat_le low high && is_count high) (spot d true) (and_from (nat_le low high) (is_count high) (le-leb low high le) (lt-ltb high 2147483648 lt))

step_begin : (s : Spot) → may_begin s ≡ true → step s part.Begin ≡ Some (spot (suc s.depth) false)
unfolding step
step_begin s m = rw (← add-one s.depth) (goes_some (may_begin s) (spot (s.depth + 1) false) m)

step_end : (d : ℕ) (e : Bool) → step (spot (suc d) e) part.End ≡ Some (spot d true)
unfolding step
step_end d e = refl

mutual
  whole_walked : (ps : List Part) → IsWhole ps → (s : Spot) → may_begin s ≡ true → (rest : List Part) → walk s (ps ++ rest) ≡ walk (spot s.depth true) rest
  whole_walked ps (fixed c f) s m rest = walk_on s (spot s.depth true) (part.Fixed c) rest (step_fixed s c ((decides_const c).1 f) m)
  whole_walked ps (wire n f) s m rest = walk_on s (spot s.depth true) (part.Wire n) rest (step_wire s n ((decides_identifier n).1 f) m)
  whole_walked ps (slice {ps = xs} high low le lt is) s m rest =
      ap (walk s) (append_assoc xs (part.Slice high low ∷ []) rest)
      ∙ whole_walked xs is s m (part.Slice high low ∷ rest)
      ∙ walk_on (spot s.depth true) (spot s.depth true) (part.Slice high low) rest (step_slice s.depth high low le lt)
  whole_walked ps (group {ps = inner} are) s m rest =
      walk_on s (spot (suc s.depth) false) part.Begin ((inner ++ part.End ∷ []) ++ rest) (step_begin s m)
      ∙ ap (walk (spot (suc s.depth) false)) (append_assoc inner (part.End ∷ []) rest)
      ∙ wholes_walked inner are s.depth false rest

  wholes_walked : (ps : List Part) → AreWhole ps → (d : ℕ) (e : Bool) (rest : List Part) → walk (spot (suc d) e) (ps ++ part.End ∷ rest) ≡ walk (spot d true) rest
  wholes_walked ps none d e rest = walk_on (spot (suc d) e) (spot d true) part.End rest (step_end d e)
  wholes_walked ps (more {ps = xs} {qs = ys} is are) d e rest =
      ap (walk (spot (suc d) e)) (append_assoc xs ys (part.End ∷ rest))
      ∙ whole_walked xs is (spot (suc d) e) (begin_within d e) (ys ++ part.End ∷ rest)
      ∙ wholes_walked ys are d true rest

whole_ends : (ps : List Part) → IsWhole ps → ends (walk (spot 0 false) ps) ≡ true
unfolding walk
whole_ends ps w = ap (λ (z : List Part). ends (walk (spot 0 false) z)) (sym (append-nil ps)) ∙ ap ends (whole_walked ps w (spot 0 false) refl [])

pub decides_signal : (ps : List Part) → Decides (is_signal ps) (IsWhole ps)
unfolding is_signal
decides_signal ps = (ended_whole ps (walk (spot 0 false) ps) refl, whole_ends ps)
