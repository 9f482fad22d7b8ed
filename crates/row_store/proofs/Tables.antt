-- Rows as the lists that contracts see: their bits, and what packing and changing makes of them.
use Rattle.std.proofs.Common.{◌≡◌, ◌≢◌, ℕ, zero, suc, ◌+◌, ◌-◌, ◌*◌, ◌/◌, ◌%◌, ◌<◌, ◌≤◌, Bool, true, false, ◌&&◌, ◌||◌, cond, nat_eq, nat_lt, List, [], ◌∷◌, ◌++◌, map, length, get_or, take, drop, set, refl, sym, ap, subst, ◌∙◌, ⊎_elim, arith, eq-eqb}
use Rattle.std.specs.List.{All, range_with_len, slice_range}
use Rattle.std.proofs.lemmas.List.Elements.{All-get_or}
use Rattle.std.proofs.lemmas.List.{get_or_past, get_or-set_same, get_or-set_other, get_or-map, map-set, map-append, get_or-take, get_or-drop, length-take, length-set}
use Rattle.std.proofs.Math.Nat.{div_self}
use Rattle.std.proofs.Math.ListN.{length-map}
use Rattle.std.proofs.lemmas.List.FromFn.{get_or-map-range_with_len, map-range_with_len_more, length-map-range_with_len}
use Rattle.std.proofs.lemmas.Bool.{cases_lt, cases_order, ne_eqb, lt-ltb, le-ltb}
use Rattle.std.proofs.Math.ListN.{replicate}
use Rattle.lib_core.specs.declared.library.Tri.{Tri}
use Rattle.lib_core.specs.declared.library.Tri.TheVariants.{Zero, One, Any}
use Rattle.lib_core.specs.Rams.{tri_at}
use Rattle.row_store.specs.Limbs.{bit_in}
use Rattle.row_store.specs.Rows.{is_one, is_defined, tri_by, tri_in, row_in, IsPacked, row_of, bit_of, row_cut, rows_cut, changed_from, changed}
use Rattle.row_store.proofs.Lanes.{bit_of_limb, limb_zero}

pub tri_at_is : (xs : List Tri) (k : ℕ) → tri_at xs k ≡ get_or xs k Any
tri_at_is [] k = refl
tri_at_is (x ∷ xs) zero = refl
tri_at_is (x ∷ xs) (suc k) = tri_at_is xs k

pub same_default : (xs : List Tri) (k : ℕ) (a b : Tri) → k < length xs → get_or xs k a ≡ get_or xs k b
same_default [] k a b h = absurd (omega arith)
same_default (x ∷ xs) zero a b h = refl
same_default (x ∷ xs) (suc k) a b h = same_default xs k a b (omega arith)

-- bits of a row that is made by places
pub tri_at-made : (f : ℕ → Tri) (n k : ℕ) → k < n → tri_at (map f (range_with_len 0 n)) k ≡ f k
tri_at-made f n k h = tri_at_is (map f (range_with_len 0 n)) k ∙ get_or-map-range_with_len f 0 n k k Any h (omega arith)

pub made_same : {X : Type 0} (f g : ℕ → X) (a n : ℕ) → ((k : ℕ) → a ≤ k → k < a + n → f k ≡ g k) → map f (range_with_len a n) ≡ map g (range_with_len a n)
made_same f g a zero h = refl
made_same f g a (suc n) h =
    let here : f a ≡ g a = h a (omega arith) (omega arith) in
    let rest = made_same f g (a + 1) n (λ k low high. h k (omega arith) (omega arith)) in
    cc

pub zero_at : (count j : ℕ) → let none : ℕ = 0 in get_or (replicate count none) j none ≡ none
zero_at zero j = refl
zero_at (suc count) zero = refl
zero_at (suc count) (suc j) = zero_at count j

pub no_bit : (count k : ℕ) → bit_in (replicate count 0) k ≡ false
unfolding bit_in
no_bit count k = ap (λ n. bit_of_limb n (k % 64)) (zero_at count (k / 64)) ∙ limb_zero (k % 64)

-- the bits so far of a packed row
pub none_yet : (count k : ℕ) (b : Bool) → bit_in (replicate count 0) k ≡ (nat_lt k 0 && b)
none_yet count k b = no_bit count k ∙ sym (ap (λ t. t && b) (le-ltb k 0 (omega arith)))

pub or_false : (c : Bool) → (c || false) ≡ c
or_false true = refl
or_false false = refl

pub one_more : (old new : Bool) (at k : ℕ) (b c : Bool) → old ≡ (nat_lt k at && b) → (k ≡ at → c ≡ b) → new ≡ ((nat_eq k at && c) || old) → new ≡ (nat_lt k (at + 1) && b)
one_more old new at k b c e here n =
    ⊎_elim
    (λ same. n ∙ ap (λ t. (t && c) || old) (eq-eqb k at same) ∙ ap (λ t. c || t) (e ∙ ap (λ t. t && b) (le-ltb k at (omega arith))) ∙ or_false c ∙ here same ∙ sym (ap (λ t. t && b) (lt-ltb k (at + 1) (omega arith))))
    (λ order. ⊎_elim
    (λ less. n ∙ ap (λ t. (t && c) || old) (ne_eqb k at (λ f. absurd (omega arith))) ∙ e ∙ ap (λ t. t && b) (lt-ltb k at less ∙ sym (lt-ltb k (at + 1) (omega arith))))
    (λ more. n ∙ ap (λ t. (t && c) || old) (ne_eqb k at (λ f. absurd (omega arith))) ∙ e ∙ ap (λ t. t && b) (le-ltb k at (omega arith) ∙ sym (le-ltb k (at + 1) (omega arith))))
    order)
    (cases_order k at)

pub tri_by_parts : (t : Tri) → tri_by (is_one t) (is_defined t) ≡ t
tri_by_parts Zero = refl
tri_by_parts One = refl
tri_by_parts Any = refl

pub put_tri : (bits : List Tri) (at k : ℕ) (d : Tri) → at < length bits → k ≡ at → get_or bits at d ≡ tri_at bits k
put_tri bits at k d h same = same_default bits at d Any h ∙ sym (tri_at_is bits at) ∙ ap (tri_at bits) (sym same)

-- a packed row, when all its bits are in
pub all_values : (values : List ℕ) (bits : List Tri) (k : ℕ) → bit_in values k ≡ (nat_lt k (length bits) && is_one (tri_at bits k)) → bit_in values k ≡ is_one (tri_at bits k)
all_values values bits k v =
    ⊎_elim
    (λ inside. v ∙ ap (λ t. t && is_one (tri_at bits k)) (lt-ltb k (length bits) inside))
    (λ beyond. v ∙ ap (λ t. t && is_one (tri_at bits k)) (le-ltb k (length bits) beyond) ∙ sym (ap is_one (tri_at_is bits k ∙ get_or_past bits k Any beyond)))
    (cases_lt k (length bits))

pub all_known : (known : List ℕ) (bits : List Tri) (k : ℕ) → bit_in known k ≡ (nat_lt k (length bits) && is_defined (tri_at bits k)) → bit_in known k ≡ is_defined (tri_at bits k)
all_known known bits k v =
    ⊎_elim
    (λ inside. v ∙ ap (λ t. t && is_defined (tri_at bits k)) (lt-ltb k (length bits) inside))
    (λ beyond. v ∙ ap (λ t. t && is_defined (tri_at bits k)) (le-ltb k (length bits) beyond) ∙ sym (ap is_defined (tri_at_is bits k ∙ get_or_past bits k Any beyond)))
    (cases_lt k (length bits))

pub tri_packed : (values known : List ℕ) (bits : List Tri) (k : ℕ) → bit_in values k ≡ is_one (tri_at bits k) → bit_in known k ≡ is_defined (tri_at bits k) → tri_in values known k ≡ tri_at bits k
tri_packed values known bits k v n = ap (λ t. tri_by t (bit_in known k)) v ∙ ap (λ t. tri_by (is_one (tri_at bits k)) t) n ∙ tri_by_parts (tri_at bits k)

pub packed_is : (width : ℕ) (values known : List ℕ) (bits : List Tri) → length bits ≤ width → ((k : ℕ) → bit_in values k ≡ is_one (tri_at bits k)) → ((k : ℕ) → bit_in known k ≡ is_defined (tri_at bits k)) → IsPacked width values known
packed_is width values known bits e v n k =
    let same : tri_in values known k ≡ tri_at bits k = tri_packed values known bits k (v k) (n k) in
    ⊎_elim
    (λ inside. (
      v k ∙ sym (ap (λ t. t && is_one (tri_in values known k)) (lt-ltb k width inside) ∙ ap is_one same),
      n k ∙ sym (ap (λ t. t && is_defined (tri_in values known k)) (lt-ltb k width inside) ∙ ap is_defined same),
    ))
    (λ beyond.
    let none : tri_at bits k ≡ Any = tri_at_is bits k ∙ get_or_past bits k Any (omega (arith, e, beyond)) in (
      v k ∙ ap is_one none ∙ sym (ap (λ t. t && is_one (tri_in values known k)) (le-ltb k width beyond)),
      n k ∙ ap is_defined none ∙ sym (ap (λ t. t && is_defined (tri_in values known k)) (le-ltb k width beyond)),
    ))
    (cases_lt k width)

pub in_range : (xs : List Tri) (from width k : ℕ) → k < width → get_or (slice_range xs from (from + width)) k Any ≡ get_or xs (from + k) Any
in_range xs from width k h =
    let e : from + width - from ≡ width = omega arith in
    ap (λ n. get_or (take n (drop from xs)) k Any) e ∙ get_or-take width (drop from xs) k Any h ∙ get_or-drop from xs k Any

pub range_short : (xs : List Tri) (from width : ℕ) → length (slice_range xs from (from + width)) ≤ width
range_short xs from width =
    let e : from + width - from ≡ width = omega arith in
    let few : length (take (from + width - from) (drop from xs)) ≤ from + width - from = omega (arith, length-take (from + width - from) (drop from xs)) in
    omega (arith, e, few)

-- a row of the list that contracts see
pub row_seen : {X : Type 0} (width : ℕ) (vs ks : X → List ℕ) (items : List X) (now : List (List Tri)) (i : ℕ) (x : X) → map (λ r. row_in width (vs r) (ks r)) items ≡ now → i < length now → x ≡ get_or items i x → row_of now i ≡ row_in width (vs x) (ks x)
row_seen width vs ks items now i x e h same =
    let count : length items ≡ length now = sym (simp length-map) ∙ ap length e in
    let inside : i < length items = omega (arith, count) in
    ap (λ l. row_of l i) (sym e) ∙ get_or-map (λ r. row_in width (vs r) (ks r)) items i x [] inside ∙ ap (λ r. row_in width (vs r) (ks r)) (sym same)

pub length-row_in : (width : ℕ) (values known : List ℕ) → length (row_in width values known) ≡ width
length-row_in width values known = length-map-range_with_len (tri_in values known) 0 width

pub width_seen : {X : Type 0} (width : ℕ) (vs ks : X → List ℕ) (items : List X) (now : List (List Tri)) (i k : ℕ) (x : X) → map (λ r. row_in width (vs r) (ks r)) items ≡ now → i < length now → x ≡ get_or items i x → k < length (row_of now i) → k < width
width_seen width vs ks items now i k x e h same inside =
    let count : length (row_of now i) ≡ width = ap length (row_seen width vs ks items now i x e h same) ∙ length-row_in width (vs x) (ks x) in
    omega (arith, count)

pub bit_seen : {X : Type 0} (width : ℕ) (vs ks : X → List ℕ) (items : List X) (now : List (List Tri)) (i k : ℕ) (x : X) → map (λ r. row_in width (vs r) (ks r)) items ≡ now → i < length now → x ≡ get_or items i x → k < length (row_of now i) → tri_in (vs x) (ks x) k ≡ bit_of now i k
bit_seen width vs ks items now i k x e h same inside =
    let below = width_seen width vs ks items now i k x e h same inside in
    sym (ap (λ r. tri_at r k) (row_seen width vs ks items now i x e h same) ∙ tri_at-made (tri_in (vs x) (ks x)) width k below)

-- the rows that are packed
pub cut_piece : (values known : List ℕ) (init piece : List Tri) (width row : ℕ) → piece ≡ slice_range init (row * width) (row * width + width) → ((k : ℕ) → tri_in values known k ≡ tri_at piece k) → row_in width values known ≡ row_cut init width row
cut_piece values known init piece width row e each =
    made_same (tri_in values known) (λ k. tri_at init (row * width + k)) 0 width (λ k low high.
    each k ∙ ap (λ p. tri_at p k) e ∙ tri_at_is (slice_range init (row * width) (row * width + width)) k
    ∙ in_range init (row * width) width k (omega arith) ∙ sym (tri_at_is init (row * width + k)))

pub cut_more : {X : Type 0} (width : ℕ) (vs ks : X → List ℕ) (items more : List X) (x : X) (init piece : List Tri) (row : ℕ) → more ≡ items ++ x ∷ [] → map (λ r. row_in width (vs r) (ks r)) items ≡ map (row_cut init width) (range_with_len 0 row) → piece ≡ slice_range init (row * width) (row * width + width) → ((k : ℕ) → tri_in (vs x) (ks x) k ≡ tri_at piece k) → map (λ r. row_in width (vs r) (ks r)) more ≡ map (row_cut init width) (range_with_len 0 (row + 1))
cut_more width vs ks items more x init piece row pushed e cut each =
    let last : row_in width (vs x) (ks x) ≡ row_cut init width row = cut_piece (vs x) (ks x) init piece width row cut each in
    ap (map (λ r. row_in width (vs r) (ks r))) pushed
    ∙ map-append (λ r. row_in width (vs r) (ks r)) items (x ∷ [])
    ∙ ap (λ l. l ++ row_in width (vs x) (ks x) ∷ []) e
    ∙ ap (λ r. map (row_cut init width) (range_with_len 0 row) ++ r ∷ []) last
    ∙ sym (map-range_with_len_more (row_cut init width) 0 row row (omega arith))

-- what is changed in a row: the masked bits inside it take the known values
pub lane_tri : (m i v kn ov ok nv nk : Bool) → i ≡ true → nv ≡ cond (m && i) (v && kn) ov → nk ≡ cond (m && i) kn ok → cond m (tri_by v kn) (tri_by ov ok) ≡ tri_by nv nk
lane_tri true true true true ov ok nv nk h e f = cc
lane_tri true true true false ov ok nv nk h e f = cc
lane_tri true true false true ov ok nv nk h e f = cc
lane_tri true true false false ov ok nv nk h e f = cc
lane_tri true false v kn ov ok nv nk h e f = absurd (cc)
lane_tri false i v kn ov ok nv nk h e f = cc

-- a lane is well packed
abbrev pub IsLane : Bool → Bool → Bool → Type 0
IsLane i v n = (v ≡ (i && is_one (tri_by v n))) × (n ≡ (i && is_defined (tri_by v n)))

pub new_lane : (i v n : Bool) → IsLane i (i && (v && n)) (i && n)
new_lane true true true = (refl, refl)
new_lane true true false = (refl, refl)
new_lane true false true = (refl, refl)
new_lane true false false = (refl, refl)
new_lane false v n = (refl, refl)

pub kept_lane : (m i v kn ov ok : Bool) → IsLane i ov ok → IsLane i (cond (m && i) (v && kn) ov) (cond (m && i) kn ok)
kept_lane true true v kn ov ok old = new_lane true v kn
kept_lane true false v kn ov ok old = old
kept_lane false i v kn ov ok old = old

pub packed_lane : (m i v kn ov ok nv nk : Bool) → nv ≡ cond (m && i) (v && kn) ov → nk ≡ cond (m && i) kn ok → IsLane i ov ok → IsLane i nv nk
packed_lane m i v kn ov ok nv nk e f old =
    let made : IsLane i (cond (m && i) (v && kn) ov) (cond (m && i) kn ok) = kept_lane m i v kn ov ok old in
    (e ∙ made.0 ∙ sym (ap (λ a. i && is_one (tri_by a nk)) e ∙ ap (λ b. i && is_one (tri_by (cond (m && i) (v && kn) ov) b)) f), f ∙ made.1 ∙ sym (ap (λ a. i && is_defined (tri_by a nk)) e ∙ ap (λ b. i && is_defined (tri_by (cond (m && i) (v && kn) ov) b)) f))

-- the bits of a row after a change: the mask without what lies past the width, and the values without what is not known
pub record IsSetTo (width : ℕ) (m v kn ov ok nv nk : List ℕ) : Type 0 where
  pub values : (k : ℕ) → bit_in nv k ≡ cond (bit_in m k && nat_lt k width) (bit_in v k && bit_in kn k) (bit_in ov k)
  pub known : (k : ℕ) → bit_in nk k ≡ cond (bit_in m k && nat_lt k width) (bit_in kn k) (bit_in ok k)

pub set_to : (width : ℕ) (m i im v kn vn ov ok nv nk : List ℕ) → ((k : ℕ) → bit_in i k ≡ nat_lt k width) → ((k : ℕ) → bit_in im k ≡ (bit_in m k && bit_in i k)) → ((k : ℕ) → bit_in vn k ≡ (bit_in v k && bit_in kn k)) → ((k : ℕ) → bit_in nv k ≡ cond (bit_in im k) (bit_in vn k) (bit_in ov k)) → ((k : ℕ) → bit_in nk k ≡ cond (bit_in im k) (bit_in kn k) (bit_in ok k)) → IsSetTo width m v kn ov ok nv nk
set_to width m i im v kn vn ov ok nv nk inside masked valued e f = record {
  values = λ k. e k ∙ ap (λ t. cond t (bit_in vn k) (bit_in ov k)) (masked k ∙ ap (λ t. bit_in m k && t) (inside k)) ∙ ap (λ t. cond (bit_in m k && nat_lt k width) t (bit_in ov k)) (valued k);
  known = λ k. f k ∙ ap (λ t. cond t (bit_in kn k) (bit_in ok k)) (masked k ∙ ap (λ t. bit_in m k && t) (inside k));
}

pub set_packed : (width : ℕ) (m v kn ov ok nv nk : List ℕ) → IsSetTo width m v kn ov ok nv nk → IsPacked width ov ok → IsPacked width nv nk
set_packed width m v kn ov ok nv nk made old k = packed_lane (bit_in m k) (nat_lt k width) (bit_in v k) (bit_in kn k) (bit_in ov k) (bit_in ok k) (bit_in nv k) (bit_in nk k) (made.values k) (made.known k) (old k)

pub changed_row : (width at n : ℕ) (m v kn ov ok nv nk : List ℕ) → at + n ≤ width → IsSetTo width m v kn ov ok nv nk → changed_from at m v kn (map (tri_in ov ok) (range_with_len at n)) ≡ map (tri_in nv nk) (range_with_len at n)
changed_row width at zero m v kn ov ok nv nk h made = refl
changed_row width at (suc n) m v kn ov ok nv nk h made =
    let here : cond (bit_in m at) (tri_in v kn at) (tri_in ov ok at) ≡ tri_in nv nk at = lane_tri (bit_in m at) (nat_lt at width) (bit_in v at) (bit_in kn at) (bit_in ov at) (bit_in ok at) (bit_in nv at) (bit_in nk at) (lt-ltb at width (omega arith)) (made.values at) (made.known at) in
    let rest = changed_row width (at + 1) n m v kn ov ok nv nk (omega arith) made in
    cc

pub set_seen : {X : Type 0} (width : ℕ) (vs ks : X → List ℕ) (items : List X) (now : List (List Tri)) (i : ℕ) (x new : X) (m v kn : List ℕ) → map (λ r. row_in width (vs r) (ks r)) items ≡ now → i < length now → x ≡ get_or items i x → IsSetTo width m v kn (vs x) (ks x) (vs new) (ks new) → map (λ r. row_in width (vs r) (ks r)) (set items i new) ≡ set now i (changed m v kn (row_of now i))
set_seen width vs ks items now i x new m v kn e h same made =
    let row : changed m v kn (row_of now i) ≡ row_in width (vs new) (ks new) =
    ap (changed m v kn) (row_seen width vs ks items now i x e h same) ∙ changed_row width 0 width m v kn (vs x) (ks x) (vs new) (ks new) (omega arith) made in
    map-set (λ r. row_in width (vs r) (ks r)) items i new ∙ ap (λ l. set l i (row_in width (vs new) (ks new))) e ∙ ap (λ r. set now i r) (sym row)

-- the row at a place is packed
pub packed_at : {X : Type 0} (width : ℕ) (vs ks : X → List ℕ) (items : List X) (now : List (List Tri)) (i : ℕ) (x : X) → map (λ r. row_in width (vs r) (ks r)) items ≡ now → i < length now → x ≡ get_or items i x → All (λ r. IsPacked width (vs r) (ks r)) items → IsPacked width (vs x) (ks x)
packed_at width vs ks items now i x e h same all =
    let count : length items ≡ length now = sym (simp length-map) ∙ ap length e in
    subst (λ r. IsPacked width (vs r) (ks r)) (sym same) (All-get_or (λ r. IsPacked width (vs r) (ks r)) items i x (omega (arith, count)) all)

-- the words of a row tell its bits
pub word_tri : (width : ℕ) (values known : List ℕ) (k : ℕ) → IsPacked width values known → (bit_in values k ≡ is_one (tri_at (row_in width values known) k)) × (bit_in known k ≡ is_defined (tri_at (row_in width values known) k))
word_tri width values known k is =
    ⊎_elim
    (λ inside.
    let same : tri_at (row_in width values known) k ≡ tri_in values known k = tri_at-made (tri_in values known) width k inside in (
      (is k).0 ∙ ap (λ t. t && is_one (tri_in values known k)) (lt-ltb k width inside) ∙ ap is_one (sym same),
      (is k).1 ∙ ap (λ t. t && is_defined (tri_in values known k)) (lt-ltb k width inside) ∙ ap is_defined (sym same),
    ))
    (λ beyond.
    let past : length (row_in width values known) ≤ k = omega (arith, length-row_in width values known, beyond) in
    let none : tri_at (row_in width values known) k ≡ Any = tri_at_is (row_in width values known) k ∙ get_or_past (row_in width values known) k Any past in (
      (is k).0 ∙ ap (λ t. t && is_one (tri_in values known k)) (le-ltb k width beyond) ∙ ap is_one (sym none),
      (is k).1 ∙ ap (λ t. t && is_defined (tri_in values known k)) (le-ltb k width beyond) ∙ ap is_defined (sym none),
    ))
    (cases_lt k width)

pub word_seen : {X : Type 0} (width : ℕ) (vs ks : X → List ℕ) (items : List X) (now : List (List Tri)) (i k : ℕ) (x : X) → map (λ r. row_in width (vs r) (ks r)) items ≡ now → i < length now → x ≡ get_or items i x → All (λ r. IsPacked width (vs r) (ks r)) items → (bit_in (vs x) k ≡ is_one (bit_of now i k)) × (bit_in (ks x) k ≡ is_defined (bit_of now i k))
word_seen width vs ks items now i k x e h same all =
    let row : row_of now i ≡ row_in width (vs x) (ks x) = row_seen width vs ks items now i x e h same in
    let words = word_tri width (vs x) (ks x) k (packed_at width vs ks items now i x e h same all) in
    (words.0 ∙ ap (λ r. is_one (tri_at r k)) (sym row), words.1 ∙ ap (λ r. is_defined (tri_at r k)) (sym row))

-- the lanes below a width
pub below_more : (old new : Bool) (at k : ℕ) → old ≡ nat_lt k at → new ≡ (nat_eq k at || old) → new ≡ nat_lt k (at + 1)
below_more old new at k e n =
    ⊎_elim
    (λ same. n ∙ ap (λ t. t || old) (eq-eqb k at same) ∙ sym (lt-ltb k (at + 1) (omega arith)))
    (λ order. ⊎_elim
    (λ less. n ∙ ap (λ t. t || old) (ne_eqb k at (λ f. absurd (omega arith))) ∙ e ∙ lt-ltb k at less ∙ sym (lt-ltb k (at + 1) (omega arith)))
    (λ more. n ∙ ap (λ t. t || old) (ne_eqb k at (λ f. absurd (omega arith))) ∙ e ∙ le-ltb k at (omega arith) ∙ sym (le-ltb k (at + 1) (omega arith)))
    order)
    (cases_order k at)

pub no_lane : (count k : ℕ) → bit_in (replicate count 0) k ≡ nat_lt k 0
no_lane count k = no_bit count k ∙ sym (le-ltb k 0 (omega arith))

-- what a caller sees of a changed row
pub length-changed_from : (at : ℕ) (m v kn : List ℕ) (row : List Tri) → length (changed_from at m v kn row) ≡ length row
length-changed_from at m v kn [] = refl
length-changed_from at m v kn (t ∷ ts) = ap suc (length-changed_from (at + 1) m v kn ts)

pub changed_from_at : (at : ℕ) (m v kn : List ℕ) (row : List Tri) (k : ℕ) → k < length row → tri_at (changed_from at m v kn row) k ≡ cond (bit_in m (at + k)) (tri_in v kn (at + k)) (tri_at row k)
changed_from_at at m v kn [] k h = absurd (omega arith)
changed_from_at at m v kn (t ∷ ts) zero h = ap (λ n. cond (bit_in m n) (tri_in v kn n) t) (let e : at ≡ at + 0 = omega arith in e)
changed_from_at at m v kn (t ∷ ts) (suc k) h =
    changed_from_at (at + 1) m v kn ts k (omega arith) ∙ ap (λ n. cond (bit_in m n) (tri_in v kn n) (tri_at ts k)) (let e : at + 1 + k ≡ at + suc k = omega arith in e)

pub changed_at : (m v kn : List ℕ) (row : List Tri) (k : ℕ) → k < length row → tri_at (changed m v kn row) k ≡ cond (bit_in m k) (tri_in v kn k) (tri_at row k)
changed_at m v kn row k h =
    changed_from_at 0 m v kn row k h ∙ ap (λ n. cond (bit_in m n) (tri_in v kn n) (tri_at row k)) (let e : 0 + k ≡ k = omega arith in e)

pub bit_of-set_same : (rows : List (List Tri)) (at : ℕ) (row : List Tri) (k : ℕ) → at < length rows → bit_of (set rows at row) at k ≡ tri_at row k
bit_of-set_same rows at row k h = ap (λ r. tri_at r k) (get_or-set_same rows at row [] h)

pub bit_of-set_other : (rows : List (List Tri)) (at : ℕ) (row : List Tri) (other k : ℕ) → other ≢ at → bit_of (set rows at row) other k ≡ bit_of rows other k
bit_of-set_other rows at row other k h = ap (λ r. tri_at r k) (get_or-set_other rows at other row [] h)

-- one row alone, and what it is after a change
pub one_row : (init : List Tri) (width : ℕ) → length init ≡ width → 1 ≤ width → (length (rows_cut init width) ≡ 1) × (length (row_of (rows_cut init width) 0) ≡ width)
one_row init width e h =
    let count : length init / width ≡ 1 = ap (λ n. n / width) e ∙ div_self h in
    let rows : length (rows_cut init width) ≡ 1 = length-map-range_with_len (row_cut init width) 0 (length init / width) ∙ count in
    let first : row_of (rows_cut init width) 0 ≡ row_cut init width 0 = get_or-map-range_with_len (row_cut init width) 0 (length init / width) 0 0 [] (omega (arith, count)) refl in
    (rows, ap length first ∙ length-map-range_with_len (λ k. tri_at init (0 * width + k)) 0 width)

pub one_row_changed : (rows : List (List Tri)) (m v kn : List ℕ) (width : ℕ) → length rows ≡ 1 → length (row_of rows 0) ≡ width → (length (set rows 0 (changed m v kn (row_of rows 0))) ≡ 1) × (length (row_of (set rows 0 (changed m v kn (row_of rows 0))) 0) ≡ width)
one_row_changed rows m v kn width e f = (
  length-set rows 0 _ ∙ e,
  ap length (get_or-set_same rows 0 (changed m v kn (row_of rows 0)) [] (omega (arith, e))) ∙ length-changed_from 0 m v kn (row_of rows 0) ∙ f,
)
