-- The address of a port, found again as that of its first word.
use Rattle.std.proofs.Common.{◌≡◌, ℕ, zero, suc, ◌+◌, ◌-◌, ◌*◌, ◌/◌, ◌^◌, ◌<◌, List, [], ◌∷◌, ◌++◌, map, take, drop, replicate, length, min, Some, refl, ap, ◌∙◌, sym, arith, append_assoc}
use Rattle.std.specs.Prelude.{slice_get}
use Rattle.std.specs.List.{AllByRecursion as Every, flat_map}
use Rattle.std.proofs.Math.Nat.{suc-mul}
use Rattle.std.proofs.lemmas.List.{drop_at, length-append, length-drop, length-map, length-take, take_at}
use Rattle.std.proofs.lemmas.List.Concat.{flat_map-append}
use Rattle.std.proofs.lemmas.Nat.{pow_pos}
use Rattle.net_core.specs.declared.bits.Bit.{Bit}
use Rattle.net_core.specs.declared.bits.Bit.TheVariants.{Zero}
use Rattle.cell_consts.specs.Consts.{low_bits}
use Rattle.mem_collect.specs.Pieces.{address, cut}
use Rattle.mem_pack.specs.Numbers.{addresses_from, numbers, place_bits, word_address, word_addresses}
use Rattle.mem_pack.proofs.Pieces.{pieces_length}

-- the low bits of an address are 0
abbrev pub LowZero : ℕ → List Bit → Type 0
LowZero wide addr = (k : ℕ) (b : Bit) → k < wide → slice_get addr k ≡ Some b → b ≡ Zero

low_place : (wide : ℕ) (addr : List Bit) → LowZero wide addr → take (length addr) (place_bits wide 0) ++ drop wide addr ≡ addr
unfolding low_bits
low_place zero [] h = refl
low_place zero (b ∷ bs) h = refl
low_place (suc w) [] h = refl
low_place (suc w) (b ∷ bs) h = λ i. sym (h 0 b (omega arith) refl) i ∷ low_place w bs (λ k c l e. h (suc k) c (omega (arith, l)) e) i

first_address : (wide : ℕ) (addr : List Bit) → LowZero wide addr → word_address wide addr 0 ≡ addr
unfolding word_address
first_address wide addr h = low_place wide addr h

low_kept : (wide : ℕ) (addr : List Bit) → LowZero wide addr → replicate (min wide (length addr)) Zero ++ drop wide addr ≡ addr
low_kept zero addr h = let e : min 0 (length addr) ≡ 0 = omega arith in ap (λ n. replicate n Zero ++ addr) e
low_kept (suc w) [] h = let e : min (suc w) 0 ≡ 0 = omega arith in ap (λ n. replicate n Zero ++ []) e
low_kept (suc w) (b ∷ bs) h =
    let e : min (suc w) (suc (length bs)) ≡ suc (min w (length bs)) = omega arith in
    let more = low_kept w bs (λ k c l f. h (suc k) c (omega (arith, l)) f) in
    ap (λ n. replicate n Zero ++ drop w bs) e ∙ (λ i. sym (h 0 b (omega arith) refl) i ∷ more i)

address_kept : (wide : ℕ) (addr : List Bit) → LowZero wide addr → address wide addr ≡ addr
unfolding address
address_kept wide addr h = low_kept wide addr h

-- ---- lengths

times_suc : (n m : ℕ) → m + n * m ≡ suc n * m
times_suc n m = let e = suc-mul n m in omega (arith, e)

low_bits_length : (wide n : ℕ) → length (low_bits wide n) ≡ wide
unfolding low_bits
low_bits_length zero n = refl
low_bits_length (suc w) n = ap suc (low_bits_length w (n / 2))

one_length : (wide : ℕ) (addr : List Bit) (place : ℕ) → length (word_address wide addr place) ≡ length addr
unfolding word_address
one_length wide addr place =
    let bits : length (place_bits wide place) ≡ wide = length-map (low_bits wide place) _ ∙ low_bits_length wide place in
    let front = length-take (length addr) (place_bits wide place) in
    let back = length-drop wide addr in
    length-append (take (length addr) (place_bits wide place)) (drop wide addr) ∙ omega (arith, bits, front, back)

each_one : (wide : ℕ) (addr : List Bit) (from count : ℕ) → length (addresses_from wide addr from count) ≡ count * length addr
each_one wide addr from zero = omega arith
each_one wide addr from (suc n) =
    length-append (word_address wide addr from) (addresses_from wide addr (from + 1) n)
    ∙ (λ i. one_length wide addr from i + each_one wide addr (from + 1) n i)
    ∙ times_suc n (length addr)

pub addresses_length : (wide : ℕ) (addr : List Bit) → length (word_addresses wide addr) ≡ 2 ^ wide * length addr
unfolding word_addresses
addresses_length wide addr = each_one wide addr 0 (2 ^ wide)

-- ---- the address of one port

behind_first : (wide : ℕ) (addr : List Bit) → word_addresses wide addr ≡ word_address wide addr 0 ++ addresses_from wide addr 1 (2 ^ wide - 1)
unfolding word_addresses
behind_first wide addr =
    let e : 2 ^ wide ≡ suc (2 ^ wide - 1) = omega (arith, pow_pos wide) in
    ap (λ n. addresses_from wide addr 0 n) e

lengths_all : {A : Type 0} (w : A → ℕ) (f : A → List Bit) (abits : ℕ) (xs : List A) → Every (λ q. length (f q) ≡ abits) xs → Every (λ q. length (word_addresses (w q) (f q)) ≡ 2 ^ w q * abits) xs
lengths_all w f abits [] h = tt
lengths_all w f abits (x ∷ xs) h = (addresses_length (w x) (f x) ∙ ap (λ n. 2 ^ w x * n) h.0, lengths_all w f abits xs h.1)

pub all_addresses_length : {A : Type 0} (w : A → ℕ) (f : A → List Bit) (abits : ℕ) (xs : List A) → Every (λ q. length (f q) ≡ abits) xs → length (flat_map (λ q. word_addresses (w q) (f q)) xs) ≡ numbers (map w xs) * abits
all_addresses_length w f abits xs h = pieces_length (λ q. word_addresses (w q) (f q)) w abits xs (lengths_all w f abits xs h)

pub address_back : {A : Type 0} (w : A → ℕ) (f : A → List Bit) (abits : ℕ) (b : List A) (p : A) (a : List A) → Every (λ q. length (f q) ≡ abits) b → length (f p) ≡ abits → LowZero (w p) (f p)
    → address (w p) (cut (numbers (map w b) * abits) abits (flat_map (λ q. word_addresses (w q) (f q)) (b ++ p ∷ a))) ≡ f p
address_back w f abits b p a h e low =
    let front = flat_map (λ q. word_addresses (w q) (f q)) b in
    let rest = addresses_from (w p) (f p) 1 (2 ^ w p - 1) ++ flat_map (λ q. word_addresses (w q) (f q)) a in
    let split : flat_map (λ q. word_addresses (w q) (f q)) (b ++ p ∷ a) ≡ front ++ (f p ++ rest) =
    flat_map-append (λ q. word_addresses (w q) (f q)) b (p ∷ a)
    ∙ ap (λ xs. front ++ (xs ++ flat_map (λ q. word_addresses (w q) (f q)) a)) (behind_first (w p) (f p))
    ∙ ap (λ xs. front ++ ((xs ++ addresses_from (w p) (f p) 1 (2 ^ w p - 1)) ++ flat_map (λ q. word_addresses (w q) (f q)) a)) (first_address (w p) (f p) low)
    ∙ ap (λ xs. front ++ xs) (append_assoc (f p) (addresses_from (w p) (f p) 1 (2 ^ w p - 1)) (flat_map (λ q. word_addresses (w q) (f q)) a)) in
    let found : cut (numbers (map w b) * abits) abits (flat_map (λ q. word_addresses (w q) (f q)) (b ++ p ∷ a)) ≡ f p =
    ap (λ xs. take abits (drop (numbers (map w b) * abits) xs)) split
    ∙ ap (take abits) (drop_at front (f p ++ rest) (numbers (map w b) * abits) (all_addresses_length w f abits b h))
    ∙ take_at (f p) rest abits e in
    ap (address (w p)) found ∙ address_kept (w p) (f p) low
