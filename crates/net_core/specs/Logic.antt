-- The combinational cells: the bit at each place of Y. (Yosys manual, word-level cells.)
use Rattle.std.specs.Prelude.{ℕ, zero, suc, ◌+◌, ◌-◌, ◌*◌, ◌%◌, ◌^◌, Bool, true, false, cond, not, ◌&&◌, ◌||◌, List, [], ◌∷◌, map, length, nat_eq, nat_lt, nat_le, max}
use Rattle.std.specs.List.{range_with_len, list_all, list_any}
use Rattle.lib_core.specs.declared.library.Tri.{Tri}
use Rattle.lib_core.specs.declared.library.Tri.TheVariants.{Any}
use Rattle.net_core.specs.declared.cells.Comb.{Comb}
use Rattle.net_core.specs.declared.cells.CombKind.{CombKind}
use Rattle.net_core.specs.declared.cells.CombKind.TheVariants.{Not, And, Or, Xor, Xnor, ReduceAnd, ReduceOr, ReduceBool, ReduceXor, ReduceXnor, LogicNot, LogicAnd, LogicOr, Eq, Ne, Lt, Le, Gt, Ge, Add, Sub, Shl, Shr, Mux, Pmux}
use Rattle.net_core.specs.Values.{number_of, bit_at, nat_bit, tri_of, same_bool, Valuation, values_of}

abbrev pub xor : Bool → Bool → Bool
xor a b = not (same_bool a b)

-- the last bit, false where there is none
abbrev pub sign_of : List Bool → Bool
sign_of xs = bit_at xs (length xs - 1)

-- the bit at a place of an operand that is extended by its sign or by 0
abbrev pub extended : Bool → List Bool → ℕ → Bool
extended signed xs k = cond (nat_lt k (length xs)) (bit_at xs k) (signed && sign_of xs)

-- an operand of a width, as a number
abbrev pub number_at : Bool → List Bool → ℕ → ℕ
number_at signed xs width = number_of (map (extended signed xs) (range_with_len 0 width))

abbrev pub is_odd : List Bool → Bool
is_odd [] = false
is_odd (x ∷ xs) = xor x (is_odd xs)

abbrev pub all_set : List Bool → Bool
all_set xs = list_all (λ x. x) xs

abbrev pub some_set : List Bool → Bool
some_set xs = list_any (λ x. x) xs

-- a one-bit result: bit 0, and zeros above
abbrev pub lone : Bool → ℕ → Bool
lone b zero = b
lone b (suc k) = false

-- both operands are alike in the larger of their widths
abbrev pub is_equal : Bool → List Bool → List Bool → Bool
is_equal signed a b = nat_eq (number_at signed a (max (length a) (length b))) (number_at signed b (max (length a) (length b)))

-- a number that orders operands of a width as signed or unsigned numbers
abbrev pub order_number : Bool → List Bool → ℕ → ℕ
order_number signed xs width =
    cond signed ((number_at true xs width + 2 ^ (width - 1)) % 2 ^ width) (number_at false xs width)

abbrev pub is_less : Bool → List Bool → List Bool → Bool
is_less signed a b =
    let width = max (length a) (length b) in
    nat_lt (order_number signed a width) (order_number signed b width)

-- the places of the bits that are set
abbrev pub set_places : List Bool → ℕ → List ℕ
set_places [] at = []
set_places (x ∷ xs) at = cond x (at ∷ set_places xs (at + 1)) (set_places xs (at + 1))

-- a slice for the one selector that is set, A where none is, and anything where several are
abbrev pub selected : List Bool → List Bool → List ℕ → ℕ → Tri
selected a b [] k = tri_of (bit_at a k)
selected a b (i ∷ []) k = tri_of (bit_at b (i * length a + k))
selected a b (i ∷ j ∷ rest) k = Any

-- the bit at a place below width
abbrev pub row_bit : CombKind → Bool → List Bool → List Bool → List Bool → ℕ → ℕ → Tri
row_bit Not signed a b s width k = tri_of (not (extended signed a k))
row_bit And signed a b s width k = tri_of (extended signed a k && extended signed b k)
row_bit Or signed a b s width k = tri_of (extended signed a k || extended signed b k)
row_bit Xor signed a b s width k = tri_of (xor (extended signed a k) (extended signed b k))
row_bit Xnor signed a b s width k = tri_of (same_bool (extended signed a k) (extended signed b k))
row_bit ReduceAnd signed a b s width k = tri_of (lone (all_set a) k)
row_bit ReduceOr signed a b s width k = tri_of (lone (some_set a) k)
row_bit ReduceBool signed a b s width k = tri_of (lone (some_set a) k)
row_bit ReduceXor signed a b s width k = tri_of (lone (is_odd a) k)
row_bit ReduceXnor signed a b s width k = tri_of (lone (not (is_odd a)) k)
row_bit LogicNot signed a b s width k = tri_of (lone (not (some_set a)) k)
row_bit LogicAnd signed a b s width k = tri_of (lone (some_set a && some_set b) k)
row_bit LogicOr signed a b s width k = tri_of (lone (some_set a || some_set b) k)
row_bit Eq signed a b s width k = tri_of (lone (is_equal signed a b) k)
row_bit Ne signed a b s width k = tri_of (lone (not (is_equal signed a b)) k)
row_bit Lt signed a b s width k = tri_of (lone (is_less signed a b) k)
row_bit Le signed a b s width k = tri_of (lone (not (is_less signed b a)) k)
row_bit Gt signed a b s width k = tri_of (lone (is_less signed b a) k)
row_bit Ge signed a b s width k = tri_of (lone (not (is_less signed a b)) k)
row_bit Add signed a b s width k = tri_of (nat_bit (number_at signed a width + number_at signed b width) k)
row_bit Sub signed a b s width k = tri_of (nat_bit (number_at signed a width + (2 ^ width - number_at signed b width)) k)
row_bit Shl signed a b s width k = tri_of (nat_le (number_of b) k && extended false a (k - number_of b))
row_bit Shr signed a b s width k = tri_of (extended false a (k + number_of b))
row_bit Mux signed a b s width k = tri_of (cond (bit_at s 0) (bit_at b k) (bit_at a k))
row_bit Pmux signed a b s width k = selected a b (set_places s 0) k

-- what a combinational cell shows at a place of Y
abbrev pub comb_shows : Comb → Valuation → ℕ → Tri
comb_shows c v k = row_bit c.kind c.signed (values_of v c.a) (values_of v c.b) (values_of v c.s) (length c.y) k
