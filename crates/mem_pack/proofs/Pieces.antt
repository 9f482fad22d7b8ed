-- Lists that are made port by port, at one of the ports.
use Rattle.std.proofs.Common.{◌≡◌, ℕ, suc, ◌+◌, ◌-◌, ◌*◌, ◌^◌, List, [], ◌∷◌, ◌++◌, map, take, drop, replicate, length, get_or, Some, refl, ap, ◌∙◌, sym, arith}
use Rattle.std.specs.Prelude.{slice_get}
use Rattle.std.specs.List.{AllByRecursion as Every, flat_map}
use Rattle.std.proofs.Math.Nat.{add-mul}
use Rattle.std.proofs.lemmas.List.{drop_at, get_or-append-add, length-append, length-replicate, take_at}
use Rattle.std.proofs.lemmas.List.Concat.{flat_map-append}
use Rattle.std.proofs.lemmas.Nat.{pow_pos}
use Rattle.net_core.specs.Valid.{Each}
use Rattle.mem_collect.specs.Pieces.{cut}
use Rattle.mem_pack.specs.Numbers.{numbers, each_number}
use Rattle.mem_pack.proofs.Steps.{times_step}

-- ---- what holds of every port

pub every : {X : Type 0} (P : X → Type 0) (xs : List X) → Each xs P → Every P xs
every P [] h = tt
every P (x ∷ xs) h = (h 0 x refl, every P xs (λ i y e. h (suc i) y e))

pub every_front : {X : Type 0} (P : X → Type 0) (b xs : List X) → Every P (b ++ xs) → Every P b
every_front P [] xs h = tt
every_front P (q ∷ qs) xs h = (h.0, every_front P qs xs h.1)

pub every_at : {X : Type 0} (P : X → Type 0) (b : List X) (p : X) (a : List X) → Every P (b ++ p ∷ a) → P p
every_at P [] p a h = h.0
every_at P (q ∷ qs) p a h = every_at P qs p a h.1

pub every_weaker : {X : Type 0} (P Q : X → Type 0) → ((x : X) → P x → Q x) → (xs : List X) → Every P xs → Every Q xs
every_weaker P Q f [] h = tt
every_weaker P Q f (x ∷ xs) h = (f x h.0, every_weaker P Q f xs h.1)

pub found_at : {X : Type 0} (b : List X) (p : X) (a : List X) → slice_get (b ++ p ∷ a) (length b) ≡ Some p
found_at [] p a = refl
found_at (q ∷ qs) p a = found_at qs p a

-- ---- lengths

pub words_first : {X : Type 0} (k : ℕ) (x : X) → replicate (2 ^ k) x ≡ x ∷ replicate (2 ^ k - 1) x
words_first k x = times_step (2 ^ k) x (pow_pos k)

pub each_flat : {A X : Type 0} (w : A → ℕ) (f : A → X) (xs : List A) → each_number (map w xs) (map f xs) ≡ flat_map (λ x. replicate (2 ^ w x) (f x)) xs
each_flat w f [] = refl
each_flat w f (x ∷ xs) = ap (λ ys. replicate (2 ^ w x) (f x) ++ ys) (each_flat w f xs)

pub pieces_length : {A X : Type 0} (g : A → List X) (w : A → ℕ) (c : ℕ) (xs : List A) → Every (λ x. length (g x) ≡ 2 ^ w x * c) xs → length (flat_map g xs) ≡ numbers (map w xs) * c
pieces_length g w c [] h = omega arith
pieces_length g w c (x ∷ xs) h =
    length-append (g x) (flat_map g xs)
    ∙ (λ i. h.0 i + pieces_length g w c xs h.1 i)
    ∙ sym (add-mul (2 ^ w x) (numbers (map w xs)) c)

pub each_length : {A X : Type 0} (w : A → ℕ) (f : A → X) (xs : List A) → length (each_number (map w xs) (map f xs)) ≡ numbers (map w xs)
each_length w f [] = refl
each_length w f (x ∷ xs) =
    length-append (replicate (2 ^ w x) (f x)) (each_number (map w xs) (map f xs))
    ∙ (λ i. length-replicate (2 ^ w x) (f x) i + each_length w f xs i)

pub row_length : {X : Type 0} (ks : List ℕ) (bs : List X) → length bs ≡ length ks → length (each_number ks bs) ≡ numbers ks
row_length [] bs h = refl
row_length (k ∷ ks) [] h = absurd (omega arith)
row_length (k ∷ ks) (b ∷ bs) h =
    length-append (replicate (2 ^ k) b) (each_number ks bs)
    ∙ (λ i. length-replicate (2 ^ k) b i + row_length ks bs (omega arith) i)

-- ---- at one port

pub piece : {A X : Type 0} (g : A → List X) (b : List A) (p : A) (a : List A) (n m : ℕ) → length (flat_map g b) ≡ n → length (g p) ≡ m → cut n m (flat_map g (b ++ p ∷ a)) ≡ g p
piece g b p a n m e f =
    ap (λ xs. take m (drop n xs)) (flat_map-append g b (p ∷ a))
    ∙ ap (take m) (drop_at (flat_map g b) (g p ++ flat_map g a) n e)
    ∙ take_at (g p) (flat_map g a) m f

pub skipped : {X : Type 0} (xs ys : List X) (n m : ℕ) (d : X) → length xs ≡ n → get_or (xs ++ ys) (n + m) d ≡ get_or ys m d
skipped xs ys n m d e = ap (λ k. get_or (xs ++ ys) (k + m) d) (sym e) ∙ get_or-append-add xs ys m d

pub item : {A X : Type 0} (w : A → ℕ) (f : A → X) (b : List A) (p : A) (a : List A) (d : X) → get_or (each_number (map w (b ++ p ∷ a)) (map f (b ++ p ∷ a))) (numbers (map w b)) d ≡ f p
item w f [] p a d = ap (λ xs. get_or (xs ++ each_number (map w a) (map f a)) 0 d) (words_first (w p) (f p))
item w f (q ∷ qs) p a d =
    let rest = each_number (map w (qs ++ p ∷ a)) (map f (qs ++ p ∷ a)) in
    skipped (replicate (2 ^ w q) (f q)) rest (2 ^ w q) (numbers (map w qs)) d (length-replicate (2 ^ w q) (f q)) ∙ item w f qs p a d
