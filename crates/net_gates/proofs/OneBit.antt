-- What gates of one bit show.
use Rattle.std.proofs.Common.{◌≡◌, ℕ, zero, suc, ◌+◌, ◌<◌, Bool, false, not, ◌&&◌, ◌||◌, List, [], ◌∷◌, ◌++◌, refl, sym, ap, subst, arith, append-nil}
use Rattle.net_core.specs.declared.bits.Bit.{Bit}
use Rattle.net_core.specs.declared.bits.Bit.TheVariants.{Net}
use Rattle.net_core.specs.declared.cells.CombKind.{CombKind}
use Rattle.net_core.specs.declared.cells.CombKind.TheVariants.{Not, And, Or, Xor, ReduceAnd, ReduceOr}
use Rattle.net_core.specs.Logic.{row_bit, all_set, some_set}
use Rattle.net_core.specs.Values.{Valuation, values_of, value_of, tri_of}
use Rattle.net_edit.specs.Edits.{Editing}
use Rattle.net_gates.specs.Adds.{Adds, AddsBit, IsReady}
use Rattle.net_gates.specs.Cells.{AddsLogic}
use Rattle.net_gates.specs.Meanings.{both_of, either_of, differ, all_of, some_of}
use Rattle.net_gates.proofs.NewCell.{logic_adds}

-- a gate of one bit, by its row
pub gate_adds : (old new : Editing) (kind : CombKind) (a b : List Bit) (y : Bit) (g : Valuation → Bool) → y ≡ Net old.netlist.nets → AddsLogic old new kind a b [] 1 → IsReady old (a ++ b) → ((u : Valuation) → row_bit kind false (values_of u a) (values_of u b) [] 1 0 ≡ tri_of (g u)) → AddsBit old new (a ++ b) y g
gate_adds old new kind a b y g is logic ready row =
    let e : a ++ b ++ [] ≡ a ++ b = append-nil (a ++ b) in
    let first : Adds old new (a ++ b ++ []) (Net old.netlist.nets ∷ []) (λ u. g u ∷ []) = logic_adds old new kind a b [] 1 (λ u k. g u) logic (subst (IsReady old) (sym e) ready) (λ u k l. at_first u k l) in
    subst (λ z. AddsBit old new (a ++ b) z g) (sym is) (subst (λ from. AddsBit old new from (Net old.netlist.nets) g) e first)
  where
    at_first : (u : Valuation) (k : ℕ) → k < 1 → row_bit kind false (values_of u a) (values_of u b) [] 1 k ≡ tri_of (g u)
    at_first u zero l = row u
    at_first u (suc k) l = absurd (omega (arith, l))

pub not_adds : (old new : Editing) (a y : Bit) → y ≡ Net old.netlist.nets → AddsLogic old new Not (a ∷ []) [] [] 1 → IsReady old (a ∷ []) → AddsBit old new (a ∷ []) y (λ u. not (value_of u a))
not_adds old new a y is logic ready = gate_adds old new Not (a ∷ []) [] y (λ u. not (value_of u a)) is logic ready (λ u. refl)

pub and_adds : (old new : Editing) (a b y : Bit) → y ≡ Net old.netlist.nets → AddsLogic old new And (a ∷ []) (b ∷ []) [] 1 → IsReady old (a ∷ b ∷ []) → AddsBit old new (a ∷ b ∷ []) y (both_of a b)
and_adds old new a b y is logic ready = gate_adds old new And (a ∷ []) (b ∷ []) y (both_of a b) is logic ready (λ u. refl)

pub or_adds : (old new : Editing) (a b y : Bit) → y ≡ Net old.netlist.nets → AddsLogic old new Or (a ∷ []) (b ∷ []) [] 1 → IsReady old (a ∷ b ∷ []) → AddsBit old new (a ∷ b ∷ []) y (either_of a b)
or_adds old new a b y is logic ready = gate_adds old new Or (a ∷ []) (b ∷ []) y (either_of a b) is logic ready (λ u. refl)

pub xor_adds : (old new : Editing) (a b y : Bit) → y ≡ Net old.netlist.nets → AddsLogic old new Xor (a ∷ []) (b ∷ []) [] 1 → IsReady old (a ∷ b ∷ []) → AddsBit old new (a ∷ b ∷ []) y (differ a b)
xor_adds old new a b y is logic ready = gate_adds old new Xor (a ∷ []) (b ∷ []) y (differ a b) is logic ready (λ u. refl)

all_told : (u : Valuation) (bits : List Bit) → all_set (values_of u bits) ≡ all_of bits u
all_told u [] = refl
all_told u (b ∷ bs) = ap (λ t. value_of u b && t) (all_told u bs)

some_told : (u : Valuation) (bits : List Bit) → some_set (values_of u bits) ≡ some_of bits u
some_told u [] = refl
some_told u (b ∷ bs) = ap (λ t. value_of u b || t) (some_told u bs)

pub all_adds : (old new : Editing) (bits : List Bit) (y : Bit) → y ≡ Net old.netlist.nets → AddsLogic old new ReduceAnd bits [] [] 1 → IsReady old bits → AddsBit old new bits y (all_of bits)
all_adds old new bits y is logic ready =
    let e = append-nil bits in
    subst (λ from. AddsBit old new from y (all_of bits)) e (gate_adds old new ReduceAnd bits [] y (all_of bits) is logic (subst (IsReady old) (sym e) ready) (λ u. ap tri_of (all_told u bits)))

pub some_adds : (old new : Editing) (bits : List Bit) (y : Bit) → y ≡ Net old.netlist.nets → AddsLogic old new ReduceOr bits [] [] 1 → IsReady old bits → AddsBit old new bits y (some_of bits)
some_adds old new bits y is logic ready =
    let e = append-nil bits in
    subst (λ from. AddsBit old new from y (some_of bits)) e (gate_adds old new ReduceOr bits [] y (some_of bits) is logic (subst (IsReady old) (sym e) ready) (λ u. ap tri_of (some_told u bits)))

-- how many nets there are behind a gate
pub nets_more : (old new : Editing) (kind : CombKind) (a b s : List Bit) (width : ℕ) → AddsLogic old new kind a b s width → new.netlist.nets ≡ old.netlist.nets + width
nets_more old new kind a b s width logic = ap (λ (e : Editing). e.netlist.nets) logic.added
