-- The parts of a step, slot by slot.
use Rattle.std.proofs.Common.{◌≡◌, ◌≢◌, ℕ, zero, suc, ◌+◌, ◌<◌, ◌≤◌, Bool, true, false, ◌&&◌, ◌||◌, cond, nat_eq, List, [], ◌∷◌, map, length, get_or, set, take, Option, Some, None, refl, sym, ap, subst, ◌∙◌, ⊎_elim, arith, eq-eqb}
use Rattle.std.specs.Prelude.{slice_get}
use Rattle.std.proofs.lemmas.List.{get_or-set_same, get_or-set_other, length-set}
use Rattle.std.proofs.lemmas.Option.{same_Some}
use Rattle.std.proofs.lemmas.Bool.{cases_eq, ne_eqb}
use Rattle.lib_core.specs.declared.library.Tri.{Tri}
use Rattle.lib_core.specs.declared.library.Variant.{Variant}
use Rattle.lib_core.specs.Rams.{last_width, last_words}
use Rattle.net_core.specs.Memory.{is_hit, any_hit}
use Rattle.net_core.specs.Values.{Valuation, Happening}
use Rattle.net_core.specs.Ram.{Slot, slot_hit, slot_hits}
use Rattle.row_store.specs.Limbs.{bit_in}
use Rattle.row_store.specs.Rows.{row_of, bit_of, tri_in, changed}
use Rattle.row_store.proofs.Tables.{changed_at, length-changed_from, bit_of-set_same, bit_of-set_other}
use Rattle.ram_step.specs.declared.hits.Hit.{Hit}
use Rattle.ram_step.specs.Hits.{hit_bit}
use Rattle.ram_step.specs.Nexts.{AreWords}

pub below_other : (j at : ℕ) → j < at + 1 → j ≢ at → j < at
below_other j at h apart = omega arith

-- one element more is as it is to be
pub set_more : {X : Type 0} (P : ℕ → X → Type 0) (xs : List X) (at : ℕ) (x d : X) → at < length xs → P at x → ((i : ℕ) → i < at → P i (get_or xs i d)) → (i : ℕ) → i < at + 1 → P i (get_or (set xs at x) i d)
set_more P xs at x d inside here each i h =
    ⊎_elim
    (λ (same : i ≡ at). subst (λ j. P j (get_or (set xs at x) j d)) (sym same) (subst (P at) (sym (get_or-set_same xs at x d inside)) here))
    (λ apart. subst (P i) (sym (get_or-set_other xs at i x d apart)) (each i (below_other i at h apart)))
    (cases_eq i at)

pub set_above : {X : Type 0} (old xs : List X) (at : ℕ) (x d : X) → ((i : ℕ) → at ≤ i → get_or xs i d ≡ get_or old i d) → (i : ℕ) → at + 1 ≤ i → get_or (set xs at x) i d ≡ get_or old i d
set_above old xs at x d each i h = get_or-set_other xs at i x d (λ e. absurd (omega arith)) ∙ each i (omega arith)

-- hits that agree slot by slot
pub hits_listed : {limbs : ℕ} (inputs : List ℕ) (x : Variant) (e : Happening) (v : Valuation) (word k : ℕ) (all : List Slot) (hits : List (Option (Hit limbs))) → length hits ≡ length all → ((i : ℕ) (s : Slot) → slice_get all i ≡ Some s → hit_bit word k (get_or hits i None) ≡ slot_hit inputs x e v word k s) → slot_hits inputs x e v word k all ≡ map (hit_bit word k) hits
hits_listed inputs x e v word k [] [] count each = refl
hits_listed inputs x e v word k [] (h ∷ hs) count each = absurd (omega (arith, count))
hits_listed inputs x e v word k (s ∷ ss) [] count each = absurd (omega (arith, count))
hits_listed inputs x e v word k (s ∷ ss) (h ∷ hs) count each =
    let here = each 0 s refl in
    let rest = hits_listed inputs x e v word k ss hs (omega (arith, count)) (λ i t found. each (suc i) t found) in
    λ i. sym here i ∷ rest i

pub or_none : (a : Bool) → (a || false) ≡ a
or_none true = refl
or_none false = refl

pub or_assoc : (a b c : Bool) → (a || (b || c)) ≡ ((a || b) || c)
or_assoc true b c = refl
or_assoc false b c = refl

pub any_take : (hs : List (Option Bool)) (n : ℕ) (h : Option Bool) → slice_get hs n ≡ Some h → any_hit (take (n + 1) hs) ≡ (any_hit (take n hs) || is_hit h)
any_take [] n h e = cc
any_take (g ∷ gs) zero h e = let same = same_Some g h e in ap (λ t. t || false) (ap is_hit same) ∙ or_none (is_hit h)
any_take (g ∷ gs) (suc n) h e = ap (λ m. any_hit (take m (g ∷ gs))) (let z : suc n + 1 ≡ suc (n + 1) = omega arith in z) ∙ ap (λ t. is_hit g || t) (any_take gs n h e) ∙ or_assoc (is_hit g) (any_hit (take n gs)) (is_hit h)

pub written_more : (hit any whole : Bool) (new w before old : Tri) → whole ≡ (any || hit) → new ≡ cond hit w before → before ≡ cond any w old → new ≡ cond whole w old
written_more true true whole new w before old e f g = f ∙ ap (λ t. cond t w old) (sym e)
written_more true false whole new w before old e f g = f ∙ ap (λ t. cond t w old) (sym e)
written_more false true whole new w before old e f g = f ∙ g ∙ ap (λ t. cond t w old) (sym e)
written_more false false whole new w before old e f g = f ∙ g ∙ ap (λ t. cond t w old) (sym e)

-- the rows after a hit is written
pub words_set : (x : Variant) (rows new : List (List Tri)) (row : ℕ) (m v kn : List ℕ) → AreWords x rows → row < last_words x → new ≡ set rows row (changed m v kn (row_of rows row)) → AreWords x new
words_set x rows new row m v kn are inside e =
    record {
      count = ap length e ∙ length-set rows row (changed m v kn (row_of rows row)) ∙ are.count;
      widths = λ word h.
          ap (λ l. length (row_of l word)) e
          ∙ ⊎_elim
          (λ (same : word ≡ row).
          ap (λ w. length (row_of (set rows row (changed m v kn (row_of rows row))) w)) same
          ∙ ap length (get_or-set_same rows row (changed m v kn (row_of rows row)) [] (let count = are.count in omega (arith, count)))
          ∙ length-changed_from 0 m v kn (row_of rows row) ∙ are.widths row inside)
          (λ apart. ap length (get_or-set_other rows row word (changed m v kn (row_of rows row)) [] apart) ∙ are.widths word h)
          (cases_eq word row);
    }

pub hit_there : (c v : Bool) → is_hit (cond c (Some v) None) ≡ c
hit_there true v = refl
hit_there false v = refl

pub bits_set : (x : Variant) (rows new : List (List Tri)) (row : ℕ) (m v kn : List ℕ) (b : Bool) (won : ℕ → ℕ → Tri) → AreWords x rows → row < last_words x → new ≡ set rows row (changed m v kn (row_of rows row)) → ((k : ℕ) → tri_in v kn k ≡ won row k) → (word k : ℕ) → word < last_words x → k < last_width x → bit_of new word k ≡ cond (is_hit (cond (nat_eq row word && bit_in m k) (Some b) None)) (won word k) (bit_of rows word k)
bits_set x rows new row m v kn b won are inside e each word k below within =
    let long = are.widths row inside in
    let count = are.count in
    ap (λ l. bit_of l word k) e
    ∙ ⊎_elim
    (λ (same : word ≡ row).
    ap (λ w. bit_of (set rows row (changed m v kn (row_of rows row))) w k) same
    ∙ bit_of-set_same rows row (changed m v kn (row_of rows row)) k (omega (arith, count))
    ∙ changed_at m v kn (row_of rows row) k (omega (arith, long))
    ∙ ap (λ t. cond (bit_in m k) t (bit_of rows row k)) (each k)
    ∙ ap (λ w. cond (bit_in m k) (won w k) (bit_of rows w k)) (sym same)
    ∙ sym (ap (λ t. cond t (won word k) (bit_of rows word k)) (hit_there (nat_eq row word && bit_in m k) b ∙ ap (λ t. t && bit_in m k) (eq-eqb row word (sym same)))))
    (λ apart.
    bit_of-set_other rows row (changed m v kn (row_of rows row)) word k apart
    ∙ sym (ap (λ t. cond t (won word k) (bit_of rows word k)) (hit_there (nat_eq row word && bit_in m k) b ∙ ap (λ t. t && bit_in m k) (ne_eqb row word (λ f. apart (sym f))))))
    (cases_eq word row)
