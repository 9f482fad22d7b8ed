-- The table that is filled wire by wire has the values of the definition.
use Rattle.std.proofs.Common.{◌≡◌, ℕ, zero, suc, ◌<◌, Bool, true, false, List, [], ◌∷◌, length, replicate, get_or, refl, sym, ap, ◌∙◌, arith}
use Rattle.std.specs.Prelude.{slice_set, nat_eq, Some, if◌then◌else◌}
use Rattle.std.proofs.lemmas.Bool.Decides.{nat_tests}
use Rattle.std.proofs.lemmas.List.{length-set}
use Rattle.std.proofs.lemmas.Option.{slice_get-get_or}
use Rattle.lib_core.specs.declared.library.Tri.{Tri}
use Rattle.lib_core.specs.declared.library.Tri.TheVariants as tri
use Rattle.net_core.specs.declared.bits.Bit.{Bit}
use Rattle.net_core.specs.declared.bits.Bit.TheVariants as bits
use Rattle.net_core.specs.declared.modules.Wire.{Wire}
use Rattle.net_cells.specs.Starts.{put_start, put_starts, put_wire, put_wires}
use Rattle.net_cells.specs.Wires.{AreStarts, bit_start, inits_of, or_else, start_in, start_of}

-- of three the first that is 0 or 1
thrice : (a b c : Tri) → or_else (or_else a b) c ≡ or_else a (or_else b c)
thrice tri.Zero b c = refl
thrice tri.One b c = refl
thrice tri.Any b c = refl

open_last : (a : Tri) → or_else a tri.Any ≡ a
open_last tri.Zero = refl
open_last tri.One = refl
open_last tri.Any = refl

-- ---- one bit

-- two tests that follow from each other are the same
bool_same : (a b : Bool) → (a ≡ true → b ≡ true) → (b ≡ true → a ≡ true) → a ≡ b
bool_same true b f g = sym (f refl)
bool_same false true f g = g refl
bool_same false false f g = refl

down : (m n : ℕ) → nat_eq (suc m) (suc n) ≡ true → nat_eq m n ≡ true
down m n h = grind (arith, nat_tests)

up : (m n : ℕ) → nat_eq m n ≡ true → nat_eq (suc m) (suc n) ≡ true
up m n h = grind (arith, nat_tests)

zero_first : (n : ℕ) → nat_eq 0 (suc n) ≡ false
zero_first n = grind (arith, nat_tests)

zero_last : (m : ℕ) → nat_eq (suc m) 0 ≡ false
zero_last m = grind (arith, nat_tests)

same_here : nat_eq 0 0 ≡ true
same_here = refl

same_next : (m n : ℕ) → nat_eq (suc m) (suc n) ≡ nat_eq m n
same_next m n = bool_same (nat_eq (suc m) (suc n)) (nat_eq m n) (λ h. down m n h) (λ h. up m n h)

one_put : (l : List Tri) (m n : ℕ) (t rest : Tri) → n < length l
    → or_else (get_or (slice_set l m (or_else (get_or l m tri.Any) t)) n tri.Any) rest ≡ or_else (get_or l n tri.Any) (if nat_eq m n then or_else t rest else rest)
one_put [] m n t rest h = absurd (omega arith)
one_put (x ∷ xs) zero zero t rest h = thrice x t rest
one_put (x ∷ xs) zero (suc n) t rest h = ap (λ same. or_else (get_or xs n tri.Any) (if same then or_else t rest else rest)) (sym (zero_first n))
one_put (x ∷ xs) (suc m) zero t rest h = ap (λ same. or_else x (if same then or_else t rest else rest)) (sym (zero_last m))
one_put (x ∷ xs) (suc m) (suc n) t rest h =
    one_put xs m n t rest (omega arith) ∙ ap (λ same. or_else (get_or xs n tri.Any) (if same then or_else t rest else rest)) (sym (same_next m n))

bit_put : (l : List Tri) (b : Bit) (t : Tri) (n : ℕ) (rest : Tri) → n < length l → or_else (get_or (put_start l b t) n tri.Any) rest ≡ or_else (get_or l n tri.Any) (bit_start b t n rest)
bit_put l bits.Zero t n rest h = refl
bit_put l bits.One t n rest h = refl
bit_put l (bits.Net m) t n rest h = one_put l m n t rest h

set_long : (l : List Tri) (m : ℕ) (v : Tri) → length (slice_set l m v) ≡ length l
set_long l m v = length-set l m v

bit_long : (l : List Tri) (b : Bit) (t : Tri) → length (put_start l b t) ≡ length l
bit_long l bits.Zero t = refl
bit_long l bits.One t = refl
bit_long l (bits.Net m) t = set_long l m (or_else (get_or l m tri.Any) t)

-- ---- the bits of a wire

bits_long : (l : List Tri) (bs : List Bit) (ts : List Tri) → length (put_starts l bs ts) ≡ length l
unfolding put_starts
bits_long l [] ts = refl
bits_long l (b ∷ bs) [] = refl
bits_long l (b ∷ bs) (t ∷ ts) = bits_long (put_start l b t) bs ts ∙ bit_long l b t

within : (n a b : ℕ) → a ≡ b → n < b → n < a
within n a b e h = omega arith

bits_put : (l : List Tri) (bs : List Bit) (ts : List Tri) (n : ℕ) (rest : Tri) → n < length l → or_else (get_or (put_starts l bs ts) n tri.Any) rest ≡ or_else (get_or l n tri.Any) (start_in bs ts n rest)
unfolding put_starts start_in
bits_put l [] ts n rest h = refl
bits_put l (b ∷ bs) [] n rest h = refl
bits_put l (b ∷ bs) (t ∷ ts) n rest h =
    bits_put (put_start l b t) bs ts n rest (within n (length (put_start l b t)) (length l) (bit_long l b t) h)
    ∙ bit_put l b t n (start_in bs ts n rest) h

-- ---- wires

wires_long : (l : List Tri) (ws : List Wire) → length (put_wires l ws) ≡ length l
unfolding put_wires
wires_long l [] = refl
wires_long l (w ∷ ws) = wires_long (put_wire l w) ws ∙ bits_long l w.bits (inits_of w.attrs (length w.bits))

wires_put : (l : List Tri) (ws : List Wire) (n : ℕ) → n < length l → get_or (put_wires l ws) n tri.Any ≡ or_else (get_or l n tri.Any) (start_of ws n)
unfolding put_wires start_of
wires_put l [] n h = sym (open_last (get_or l n tri.Any))
wires_put l (w ∷ ws) n h =
    wires_put (put_wire l w) ws n (within n (length (put_wire l w)) (length l) (bits_long l w.bits (inits_of w.attrs (length w.bits))) h)
    ∙ bits_put l w.bits (inits_of w.attrs (length w.bits)) n (start_of ws n) h

open_table : (nets n : ℕ) → get_or (replicate nets tri.Any) n tri.Any ≡ tri.Any
open_table zero n = refl
open_table (suc nets) zero = refl
open_table (suc nets) (suc n) = open_table nets n

table_long : (nets : ℕ) → length (replicate nets tri.Any) ≡ nets
table_long zero = refl
table_long (suc nets) = ap suc (table_long nets)

pub are_starts : (nets : ℕ) (ws : List Wire) → AreStarts nets ws (put_wires (replicate nets tri.Any) ws)
are_starts nets ws =
    let long : length (put_wires (replicate nets tri.Any) ws) ≡ nets = wires_long (replicate nets tri.Any) ws ∙ table_long nets in
    record {
      long = long;
      each = λ n h.
          slice_get-get_or (put_wires (replicate nets tri.Any) ws) n tri.Any (within n (length (put_wires (replicate nets tri.Any) ws)) nets long h)
          ∙ ap Some (wires_put (replicate nets tri.Any) ws n (within n (length (replicate nets tri.Any)) nets (table_long nets) h) ∙ ap (λ t. or_else t (start_of ws n)) (open_table nets n));
    }
