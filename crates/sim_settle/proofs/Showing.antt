-- What a logic cell shows does not depend on picks where its kind leaves nothing open.
use Rattle.std.proofs.Common.{◌≡◌, ℕ, Bool, true, false, List, refl}
use Rattle.lib_core.specs.declared.library.Tri.{Tri}
use Rattle.lib_core.specs.declared.library.Tri.TheVariants.{Zero, One, Any}
use Rattle.lib_core.specs.Picks.{picked}
use Rattle.net_core.specs.declared.cells.CombKind.{CombKind}
use Rattle.net_core.specs.declared.cells.CombKind.TheVariants.{Not, And, Or, Xor, Xnor, ReduceAnd, ReduceOr, ReduceBool, ReduceXor, ReduceXnor, LogicNot, LogicAnd, LogicOr, Eq, Ne, Lt, Le, Gt, Ge, Add, Sub, Shl, Shr, Mux, Pmux}
use Rattle.net_core.specs.Values.{tri_of}
use Rattle.net_core.specs.Logic.{row_bit}
use Rattle.cell_table.specs.Row.{chosen}
use Rattle.ram_step.specs.declared.picks.PickKey.{PickKey}
use Rattle.sim_cells.specs.Choices.{taken}
use Rattle.sim_settle.specs.FreeKinds.{is_free}

fixed : (b free : Bool) (key : PickKey) (k : ℕ) → chosen (tri_of b) free ≡ taken key k (tri_of b)
fixed true free key k = refl
fixed false free key k = refl

open_bit : (t : Tri) (free : Bool) (key : PickKey) (k : ℕ) → free ≡ picked key.seed key.event key.cell k → chosen t free ≡ taken key k t
open_bit Zero free key k is = refl
open_bit One free key k is = refl
open_bit Any free key k is = is

pub shown_bit : (kind : CombKind) (signed : Bool) (a b s : List Bool) (width k : ℕ) (free : Bool) (key : PickKey) → (is_free kind ≡ true → free ≡ picked key.seed key.event key.cell k) → chosen (row_bit kind signed a b s width k) free ≡ taken key k (row_bit kind signed a b s width k)
shown_bit Pmux signed a b s width k free key is = open_bit (row_bit Pmux signed a b s width k) free key k (is refl)
shown_bit Not signed a b s width k free key is = fixed _ free key k
shown_bit And signed a b s width k free key is = fixed _ free key k
shown_bit Or signed a b s width k free key is = fixed _ free key k
shown_bit Xor signed a b s width k free key is = fixed _ free key k
shown_bit Xnor signed a b s width k free key is = fixed _ free key k
shown_bit ReduceAnd signed a b s width k free key is = fixed _ free key k
shown_bit ReduceOr signed a b s width k free key is = fixed _ free key k
shown_bit ReduceBool signed a b s width k free key is = fixed _ free key k
shown_bit ReduceXor signed a b s width k free key is = fixed _ free key k
shown_bit ReduceXnor signed a b s width k free key is = fixed _ free key k
shown_bit LogicNot signed a b s width k free key is = fixed _ free key k
shown_bit LogicAnd signed a b s width k free key is = fixed _ free key k
shown_bit LogicOr signed a b s width k free key is = fixed _ free key k
shown_bit Eq signed a b s width k free key is = fixed _ free key k
shown_bit Ne signed a b s width k free key is = fixed _ free key k
shown_bit Lt signed a b s width k free key is = fixed _ free key k
shown_bit Le signed a b s width k free key is = fixed _ free key k
shown_bit Gt signed a b s width k free key is = fixed _ free key k
shown_bit Ge signed a b s width k free key is = fixed _ free key k
shown_bit Add signed a b s width k free key is = fixed _ free key k
shown_bit Sub signed a b s width k free key is = fixed _ free key k
shown_bit Shl signed a b s width k free key is = fixed _ free key k
shown_bit Shr signed a b s width k free key is = fixed _ free key k
shown_bit Mux signed a b s width k free key is = fixed _ free key k
