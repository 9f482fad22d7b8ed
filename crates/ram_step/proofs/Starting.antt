-- The parts of the state at the start.
use Rattle.std.proofs.Common.{◌≡◌, ℕ, zero, suc, ◌+◌, ◌-◌, ◌*◌, ◌/◌, ◌%◌, ◌^◌, ◌<◌, ◌≤◌, ◌⊎◌, ⊎_elim, true, ◌&&◌, ◌||◌, cond, List, [], ◌∷◌, ◌++◌, map, length, take, Some, refl, sym, ap, ◌∙◌, arith}
use Rattle.std.specs.Prelude.{slice_get}
use Rattle.std.specs.List.{range_with_len}
use Rattle.std.proofs.Math.Pow.{pow_mono}
use Rattle.std.proofs.Math.ListN.{replicate}
use Rattle.std.proofs.Math.Nat.{mul-mod_left, mul_comm}
use Rattle.std.proofs.lemmas.Nat.{div-mul-add, mul-add-lt, mul-le}
use Rattle.std.proofs.lemmas.Bool.{eqb-true}
use Rattle.std.proofs.lemmas.List.{map-append}
use Rattle.std.proofs.lemmas.Option.{same_Some}
use Rattle.lib_core.specs.declared.library.Tri.{Tri}
use Rattle.lib_core.specs.declared.library.Tri.TheVariants.{Zero, Any}
use Rattle.lib_core.specs.declared.library.Fill.TheVariants as fill
use Rattle.lib_core.specs.declared.library.Variant.{Variant}
use Rattle.lib_core.specs.Rams.{tri_at, last_width, last_words, filled, takes_value}
use Rattle.net_core.specs.declared.rams.RamCell.{RamCell}
use Rattle.net_core.specs.Shape.{fits_variant, slots_fit, levels_alike, contents_fit, has_where, written_out}
use Rattle.net_core.proofs.Basics.{and_left, and_right}
use Rattle.ram_step.specs.States.{words_by, start_bit}
use Rattle.row_store.specs.Rows.{row_cut, rows_cut}
use Rattle.row_store.proofs.Tables.{made_same}
use Rattle.ram_step.specs.Owners.{so_many}

pub so_many_more : (n g : ℕ) → so_many n g ++ g ∷ [] ≡ so_many (n + 1) g
so_many_more zero g = refl
so_many_more (suc n) g = ap (λ l. g ∷ l) (so_many_more n g) ∙ ap (λ m. so_many m g) (let z : suc (n + 1) ≡ suc n + 1 = omega arith in z)

pub replicate_more : {X : Type 0} (n : ℕ) (x : X) → replicate n x ++ x ∷ [] ≡ replicate (n + 1) x
replicate_more zero x = refl
replicate_more (suc n) x = ap (λ l. x ∷ l) (replicate_more n x) ∙ ap (λ m. replicate m x) (let z : suc (n + 1) ≡ suc n + 1 = omega arith in z)

pub length-replicate' : {X : Type 0} (n : ℕ) (x : X) → length (replicate n x) ≡ n
length-replicate' zero x = refl
length-replicate' (suc n) x = ap suc (length-replicate' n x)

pub append_assoc' : {X : Type 0} (xs ys zs : List X) → (xs ++ ys) ++ zs ≡ xs ++ (ys ++ zs)
append_assoc' [] ys zs = refl
append_assoc' (x ∷ xs) ys zs = ap (λ l. x ∷ l) (append_assoc' xs ys zs)

pub cut_rows : (init : List Tri) (width words : ℕ) → 1 ≤ width → length init ≡ words * width → rows_cut init width ≡ map (row_cut init width) (range_with_len 0 words)
cut_rows init width words some whole =
    let z : words * width ≡ words * width + 0 = omega arith in
    let count : length init / width ≡ words = ap (λ n. n / width) (whole ∙ z) ∙ div-mul-add words width 0 (omega arith) in
    ap (λ n. map (row_cut init width) (range_with_len 0 n)) count

pub whole_rows : (init : List Tri) (width words : ℕ) → length init ≡ words * width → length init % width ≡ 0
whole_rows init width words whole = ap (λ n. n % width) whole ∙ mul-mod_left words width

pub same_at : (n : ℕ) (t : Tri) (k : ℕ) → k < n → tri_at (replicate n t) k ≡ t
same_at zero t k h = absurd (omega arith)
same_at (suc n) t zero h = refl
same_at (suc n) t (suc k) h = same_at n t k (omega arith)

pub place_below : (word k words width : ℕ) → word < words → k < width → word * width + k < words * width
place_below word k words width h l = let p = mul-add-lt word width k words h l in rw (mul_comm words width) p

pub same_cut : (width words : ℕ) (t : Tri) → map (row_cut (replicate (words * width) t) width) (range_with_len 0 words) ≡ map (λ (word : ℕ). map (λ (k : ℕ). t) (range_with_len 0 width)) (range_with_len 0 words)
same_cut width words t =
    made_same (row_cut (replicate (words * width) t) width) (λ word. map (λ k. t) (range_with_len 0 width)) 0 words (λ word low high.
    made_same (λ k. tri_at (replicate (words * width) t) (word * width + k)) (λ k. t) 0 width (λ k less more.
    same_at (words * width) t (word * width + k) (place_below word k words width (omega arith) (omega arith))))

abbrev pub rows_by : ℕ → ℕ → (ℕ → ℕ → Tri) → List (List Tri)
rows_by width words bits = map (λ word. map (bits word) (range_with_len 0 width)) (range_with_len 0 words)

pub rows_same : (x : Variant) (width words : ℕ) (bits : ℕ → ℕ → Tri) → width ≡ last_width x → words ≡ last_words x → rows_by width words bits ≡ words_by x bits
rows_same x width words bits e f = ap (λ w. rows_by w words bits) e ∙ ap (λ n. rows_by (last_width x) n bits) f

pub start_nothing : (x : Variant) (cell : RamCell) (width words : ℕ) → width ≡ last_width x → words ≡ last_words x → x.fill ≡ fill.Nothing → rows_by width words (λ word k. Any) ≡ words_by x (start_bit x cell)
start_nothing x cell width words e f g =
    rows_same x width words (λ word k. Any) e f
    ∙ ap (λ t. words_by x (λ word k. filled t cell.init (word * last_width x + k))) (sym g)

pub start_zero : (x : Variant) (cell : RamCell) (width words : ℕ) → width ≡ last_width x → words ≡ last_words x → x.fill ≡ fill.Zero → rows_by width words (λ word k. Zero) ≡ words_by x (start_bit x cell)
start_zero x cell width words e f g =
    rows_same x width words (λ word k. Zero) e f
    ∙ ap (λ t. words_by x (λ word k. filled t cell.init (word * last_width x + k))) (sym g)

pub start_given : (x : Variant) (cell : RamCell) (width words : ℕ) → width ≡ last_width x → words ≡ last_words x → (x.fill ≡ fill.Any) ⊎ (x.fill ≡ fill.NoUndef) → map (row_cut cell.init width) (range_with_len 0 words) ≡ words_by x (start_bit x cell)
start_given x cell width words e f g =
    ap (λ w. map (row_cut cell.init w) (range_with_len 0 words)) e ∙ ap (λ n. map (row_cut cell.init (last_width x)) (range_with_len 0 n)) f
    ∙ ⊎_elim
    (λ (any : x.fill ≡ fill.Any). ap (λ t. words_by x (λ word k. filled t cell.init (word * last_width x + k))) (sym any))
    (λ (no : x.fill ≡ fill.NoUndef). ap (λ t. words_by x (λ word k. filled t cell.init (word * last_width x + k))) (sym no))
    g

pub given_length : (x : Variant) (cell : RamCell) → fits_variant cell (Some x) ≡ true → (x.fill ≡ fill.Any) ⊎ (x.fill ≡ fill.NoUndef) → length cell.init ≡ last_words x * last_width x
given_length x cell fit g =
    let rest = and_right (slots_fit x x.groups cell.slots) ((x.per_port || levels_alike cell.slots) && contents_fit x cell.init) fit in
    let contents = and_right (x.per_port || levels_alike cell.slots) (contents_fit x cell.init) rest in
    let long = eqb-true (length cell.init) (cond (takes_value x.fill) (last_words x * last_width x) 0) (and_left (has_where (takes_value x.fill) cell.init (last_words x * last_width x)) (written_out x.fill cell.init) contents) in
    long ∙ ⊎_elim
    (λ (any : x.fill ≡ fill.Any). ap (λ t. cond (takes_value t) (last_words x * last_width x) 0) any)
    (λ (no : x.fill ≡ fill.NoUndef). ap (λ t. cond (takes_value t) (last_words x * last_width x) 0) no)
    g

pub few_of : (words width : ℕ) → words ≤ 2 ^ 20 → width ≤ 1024 → words * width < 2 ^ 32
few_of words width h l = let p = mul-le words width (2 ^ 20) 1024 h l in omega (arith, p)

pub few_rows : (abits level : ℕ) → abits ≤ 20 → 2 ^ (abits - level) ≤ 2 ^ 20
few_rows abits level h = pow_mono {i = abits - level} {j = 20} (omega arith)

pub take_at : {X : Type 0} (xs : List X) (n : ℕ) (x : X) → slice_get xs n ≡ Some x → take (n + 1) xs ≡ take n xs ++ x ∷ []
take_at [] n x e = cc
take_at (y ∷ ys) zero x e = ap (λ z. z ∷ []) (same_Some y x e)
take_at (y ∷ ys) (suc n) x e = ap (λ m. take m (y ∷ ys)) (let z : suc n + 1 ≡ suc (n + 1) = omega arith in z) ∙ ap (λ l. y ∷ l) (take_at ys n x e)

pub kept_more : {X Y : Type 0} (f : X → Y) (xs : List X) (n : ℕ) (x : X) (kept new : List Y) (y : Y) → slice_get xs n ≡ Some x → new ≡ kept ++ y ∷ [] → y ≡ f x → kept ≡ map f (take n xs) → new ≡ map f (take (n + 1) xs)
kept_more f xs n x kept new y e pushed made was =
    pushed ∙ ap (λ l. l ++ y ∷ []) was ∙ ap (λ z. map f (take n xs) ++ z ∷ []) made ∙ sym (ap (map f) (take_at xs n x e) ∙ map-append f (take n xs) (x ∷ []))
