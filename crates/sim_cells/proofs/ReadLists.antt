-- What the read ports keep, port by port.
use Rattle.std.proofs.Common.{◌≡◌, ◌≢◌, ℕ, zero, suc, ◌+◌, ◌<◌, ◌≤◌, Bool, List, [], ◌∷◌, ◌++◌, length, get_or, set, take, Some, refl, sym, ap, subst, ◌∙◌, ⊎_elim, arith}
use Rattle.std.specs.Prelude.{slice_get, Vec}
use Rattle.std.specs.Global.{Global}
use Rattle.std.proofs.lemmas.List.{get_or-set_same, get_or-set_other, get_or-map, map-set, map-append}
use Rattle.std.proofs.lemmas.Bool.{cases_eq}
use Rattle.std.proofs.lemmas.Option.{same_Some, slice_get-get_or}
use Rattle.net_core.specs.declared.mems.RdPort.{RdPort}
use Rattle.sim_cells.specs.Memories.{each_read}
use Rattle.sim_cells.specs.KeptBits.{bit_lists}

pub each_take : (f : ℕ → RdPort → List Bool) (from : ℕ) (xs : List RdPort) (n : ℕ) (r : RdPort) → slice_get xs n ≡ Some r → each_read f from (take (n + 1) xs) ≡ each_read f from (take n xs) ++ f (from + n) r ∷ []
each_take f from [] n r e = cc
each_take f from (x ∷ xs) zero r e =
    let z : from ≡ from + 0 = omega arith in
    ap (λ y. f from y ∷ []) (same_Some x r e) ∙ ap (λ m. f m r ∷ []) z
each_take f from (x ∷ xs) (suc n) r e =
    let y : suc n + 1 ≡ suc (n + 1) = omega arith in
    let z : from + 1 + n ≡ from + suc n = omega arith in
    ap (λ m. each_read f from (take m (x ∷ xs))) y ∙ ap (λ l. f from x ∷ l) (each_take f (from + 1) xs n r e ∙ ap (λ m. each_read f (from + 1) (take n xs) ++ f m r ∷ []) z)

pub each_listed : (f : ℕ → RdPort → List Bool) (from : ℕ) (xs : List RdPort) (ks : List (List Bool)) → length ks ≡ length xs → ((i : ℕ) (r : RdPort) → slice_get xs i ≡ Some r → get_or ks i [] ≡ f (from + i) r) → ks ≡ each_read f from xs
each_listed f from [] [] long h = refl
each_listed f from [] (k ∷ ks) long h = absurd (omega (arith, long))
each_listed f from (x ∷ xs) [] long h = absurd (omega (arith, long))
each_listed f from (x ∷ xs) (k ∷ ks) long h =
    let z : from + 0 ≡ from = omega arith in
    let here : k ≡ f from x = h 0 x refl ∙ ap (λ m. f m x) z in
    let rest = each_listed f (from + 1) xs ks (omega (arith, long)) (λ i r e. h (suc i) r e ∙ ap (λ m. f m r) (let y : from + suc i ≡ from + 1 + i = omega arith in y)) in
    λ i. here i ∷ rest i

pub element : {X : Type 0} (xs : List X) (n : ℕ) (x : X) → n < length xs → x ≡ get_or xs n x → slice_get xs n ≡ Some x
element xs n x h e = slice_get-get_or xs n x h ∙ ap (λ z. Some z) (sym e)

below_other : (j at : ℕ) → j < at + 1 → j ≢ at → j < at
below_other j at h apart = omega arith

-- one element more is as it is to be
pub set_more : {X : Type 0} (P : ℕ → X → Type 0) (xs : List X) (at : ℕ) (x d : X) → at < length xs → P at x → ((i : ℕ) → i < at → P i (get_or xs i d)) → (i : ℕ) → i < at + 1 → P i (get_or (set xs at x) i d)
set_more P xs at x d inside here each i h =
    ⊎_elim
    (λ (same : i ≡ at). subst (λ j. P j (get_or (set xs at x) j d)) (sym same) (subst (P at) (sym (get_or-set_same xs at x d inside)) here))
    (λ apart. subst (P i) (sym (get_or-set_other xs at i x d apart)) (each i (below_other i at h apart)))
    (cases_eq i at)

pub set_above : {X : Type 0} (old xs : List X) (at : ℕ) (x d : X) → ((i : ℕ) → at ≤ i → get_or xs i d ≡ get_or old i d) → (i : ℕ) → at + 1 ≤ i → get_or (set xs at x) i d ≡ get_or old i d
set_above old xs at x d each i h = get_or-set_other xs at i x d (λ e. absurd (omega arith)) ∙ each i (omega arith)

each_at : (f : ℕ → RdPort → List Bool) (from : ℕ) (xs : List RdPort) (i : ℕ) (r : RdPort) → slice_get xs i ≡ Some r → get_or (each_read f from xs) i [] ≡ f (from + i) r
each_at f from [] i r e = cc
each_at f from (x ∷ xs) zero r e = ap (f from) (same_Some x r e) ∙ ap (λ m. f m r) (let z : from ≡ from + 0 = omega arith in z)
each_at f from (x ∷ xs) (suc i) r e = each_at f (from + 1) xs i r e ∙ ap (λ m. f m r) (let z : from + 1 + i ≡ from + suc i = omega arith in z)

pub each_at_own : (f : ℕ → RdPort → List Bool) (xs : List RdPort) (i : ℕ) (r : RdPort) → slice_get xs i ≡ Some r → get_or (each_read f 0 xs) i [] ≡ f i r
each_at_own f xs i r e = each_at f 0 xs i r e ∙ ap (λ m. f m r) (let z : 0 + i ≡ i = omega arith in z)

pub length_each : (f : ℕ → RdPort → List Bool) (from : ℕ) (xs : List RdPort) → length (each_read f from xs) ≡ length xs
length_each f from [] = refl
length_each f from (x ∷ xs) = ap suc (length_each f (from + 1) xs)

pub read_pushed : (f : ℕ → RdPort → List Bool) (xs : List RdPort) (n : ℕ) (r : RdPort) (kept new : List (Vec Bool Global)) (bits : Vec Bool Global) → slice_get xs n ≡ Some r → bit_lists kept ≡ each_read f 0 (take n xs) → new ≡ kept ++ bits ∷ [] → bits.items ≡ f n r → bit_lists new ≡ each_read f 0 (take (n + 1) xs)
read_pushed f xs n r kept new bits found was pushed made =
    let z : 0 + n ≡ n = omega arith in
    ap bit_lists pushed ∙ map-append (λ (l : Vec Bool Global). l.items) kept (bits ∷ [])
    ∙ ap (λ l. l ++ bits.items ∷ []) was
    ∙ ap (λ l. each_read f 0 (take n xs) ++ l ∷ []) (made ∙ ap (λ m. f m r) (sym z))
    ∙ sym (each_take f 0 xs n r found)

pub length_lists : (kept : List (Vec Bool Global)) → length (bit_lists kept) ≡ length kept
length_lists [] = refl
length_lists (k ∷ ks) = ap suc (length_lists ks)

-- a port more keeps what comes next
pub keep_more : (f : ℕ → RdPort → List Bool) (xs : List RdPort) (old kept : List (Vec Bool Global)) (n : ℕ) (bits : Vec Bool Global) → n < length kept → ((r : RdPort) → slice_get xs n ≡ Some r → bits.items ≡ f n r) → ((i : ℕ) → i < n → (r : RdPort) → slice_get xs i ≡ Some r → get_or (bit_lists kept) i [] ≡ f i r) → (i : ℕ) → i < n + 1 → (r : RdPort) → slice_get xs i ≡ Some r → get_or (bit_lists (set kept n bits)) i [] ≡ f i r
keep_more f xs old kept n bits inside here each i h r found =
    let P : ℕ → List Bool → Type 0 = λ j l. (s : RdPort) → slice_get xs j ≡ Some s → l ≡ f j s in
    let count : length (bit_lists kept) ≡ length kept = length_lists kept in
    ap (λ l. get_or l i []) (map-set (λ (l : Vec Bool Global). l.items) kept n bits)
    ∙ set_more P (bit_lists kept) n bits.items [] (omega (arith, inside, count)) here (λ j below s at. each j below s at) i h r found

pub keep_above : (old kept : List (Vec Bool Global)) (n : ℕ) (bits : Vec Bool Global) → ((i : ℕ) → n ≤ i → get_or (bit_lists kept) i [] ≡ get_or (bit_lists old) i []) → (i : ℕ) → n + 1 ≤ i → get_or (bit_lists (set kept n bits)) i [] ≡ get_or (bit_lists old) i []
keep_above old kept n bits each i h =
    ap (λ l. get_or l i []) (map-set (λ (l : Vec Bool Global). l.items) kept n bits) ∙ set_above (bit_lists old) (bit_lists kept) n bits.items [] each i h

-- what stands at a place of the buffers
pub kept_there : (kept : List (Vec Bool Global)) (n : ℕ) (bits : Vec Bool Global) → n < length kept → bits ≡ get_or kept n bits → get_or (bit_lists kept) n [] ≡ bits.items
kept_there kept n bits h e = get_or-map (λ (l : Vec Bool Global). l.items) kept n bits [] h ∙ ap (λ (l : Vec Bool Global). l.items) (sym e)
