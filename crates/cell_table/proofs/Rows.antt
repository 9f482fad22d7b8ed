-- Bits of the rows of the table.
use Rattle.std.proofs.Common.{◌≡◌, ℕ, zero, suc, ◌+◌, ◌-◌, ◌*◌, ◌<◌, ◌≤◌, Bool, true, false, ◌&&◌, cond, List, [], ◌∷◌, ◌++◌, length, min, refl, ap, ◌∙◌, sym, arith, ⊎_elim}
use Rattle.std.specs.Prelude.{nat_le, nat_lt, slice_get, Some}
use Rattle.net_core.specs.declared.bits.Bit.{Bit}
use Rattle.net_core.specs.declared.bits.Bit.TheVariants.{Net}
use Rattle.net_core.specs.Nodes.{HasNet}
use Rattle.std.proofs.lemmas.Bool.{cases_lt}
use Rattle.std.proofs.lemmas.Bool.Decides.{nat_tests}
use Rattle.net_core.specs.Values.{bit_at, tri_of}
use Rattle.net_core.specs.Logic.{extended, set_places, selected, row_bit}
use Rattle.net_core.specs.declared.cells.CombKind.{CombKind}
use Rattle.net_core.specs.declared.cells.CombKind.TheVariants.{Pmux}
use Rattle.cell_table.specs.declared.selector.Selection.TheVariants.{One}
use Rattle.cell_table.specs.Selection.{selection_of}
use Rattle.cell_table.specs.Row.{chosen}
use Rattle.cell_table.proofs.Operands.{bit_at_past}

-- an operand that is extended by 0
pub extended_by_zero : (xs : List Bool) (k : ℕ) → extended false xs k ≡ bit_at xs k
extended_by_zero xs k = ⊎_elim (λ low. ap (λ b. cond b (bit_at xs k) false) (below k (length xs) low)) (λ high. ap (λ b. cond b (bit_at xs k) false) (above k (length xs) high) ∙ sym (bit_at_past xs k high)) (cases_lt k (length xs))
  where
    below : (k n : ℕ) → k < n → nat_lt k n ≡ true
    below k n h = grind (arith, nat_tests)

    above : (k n : ℕ) → n ≤ k → nat_lt k n ≡ false
    above k n h = grind (arith, nat_tests)

-- a start past the end is as good as one at the end
pub bit_at_capped : (xs : List Bool) (n start k : ℕ) → start ≡ min n (length xs) → bit_at xs (start + k) ≡ bit_at xs (n + k)
bit_at_capped xs n start k h = ⊎_elim (λ low. let e : start + k ≡ n + k = omega arith in ap (bit_at xs) e) (λ high. bit_at_past xs (start + k) (omega arith) ∙ sym (bit_at_past xs (n + k) (omega arith))) (cases_lt n (length xs))

pub shifted_down : (xs : List Bool) (n k : ℕ) → bit_at xs (n + k) ≡ extended false xs (k + n)
shifted_down xs n k = let e : n + k ≡ k + n = omega arith in ap (bit_at xs) e ∙ sym (extended_by_zero xs (k + n))

-- an amount that no place reaches is as good as the greatest one
pub shift_up_capped : (xs : List Bool) (n most amount k : ℕ) → amount ≡ min n most → k < most → (nat_le amount k && bit_at xs (k - amount)) ≡ (nat_le n k && extended false xs (k - n))
shift_up_capped xs n most amount k h low = ⊎_elim (λ less. let e : amount ≡ n = omega arith in ap (λ m. nat_le m k && bit_at xs (k - m)) e ∙ ap (λ b. nat_le n k && b) (sym (extended_by_zero xs (k - n)))) (λ more. ap (λ b. b && bit_at xs (k - amount)) (above amount k (omega arith)) ∙ sym (ap (λ b. b && extended false xs (k - n)) (above n k (omega arith)))) (cases_lt n most)
  where
    above : (n k : ℕ) → k < n → nat_le n k ≡ false
    above n k h = grind (arith, nat_tests)

-- a net of one list of bits is one of both
pub net_left : (xs ys : List Bit) (n : ℕ) → HasNet xs n → HasNet (xs ++ ys) n
net_left xs ys n (k, h) = (k, slice_get_left xs ys k h)
  where
    slice_get_left : (xs ys : List Bit) (k : ℕ) → slice_get xs k ≡ Some (Net n) → slice_get (xs ++ ys) k ≡ Some (Net n)
    slice_get_left [] ys k h = absurd (cc)
    slice_get_left (x ∷ xs) ys zero h = h
    slice_get_left (x ∷ xs) ys (suc k) h = slice_get_left xs ys k h

pub net_right : (xs ys : List Bit) (n : ℕ) → HasNet ys n → HasNet (xs ++ ys) n
net_right [] ys n h = h
net_right (x ∷ xs) ys n h = let rest = net_right xs ys n h in (suc rest.0, rest.1)

chosen_tri : (bit free : Bool) → chosen (tri_of bit) free ≡ bit
chosen_tri true free = refl
chosen_tri false free = refl

selected_one : (a b : List Bool) (places : List ℕ) (i k : ℕ) → One i ≡ selection_of places → selected a b places k ≡ tri_of (bit_at b (i * length a + k))
selected_one a b [] i k h = absurd (cc)
selected_one a b (p ∷ []) i k h = let e : p ≡ i = cc in ap (λ j. tri_of (bit_at b (j * length a + k))) e
selected_one a b (p ∷ q ∷ rest) i k h = absurd (cc)

-- the slice that the one selector which is set names
pub selected_row : (kind : CombKind) (signed : Bool) (a b s : List Bool) (width i k : ℕ) (free bit : Bool) → kind ≡ Pmux → One i ≡ selection_of (set_places s 0) → bit ≡ bit_at b (i * length a + k) → bit ≡ chosen (row_bit kind signed a b s width k) free
selected_row kind signed a b s width i k free bit is one h =
    h ∙ sym (ap (λ other. chosen (row_bit other signed a b s width k) free) is ∙ ap (λ t. chosen t free) (selected_one a b (set_places s 0) i k one) ∙ chosen_tri (bit_at b (i * length a + k)) free)
