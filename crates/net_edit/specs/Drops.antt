-- What a module keeps that loses a cell, or has memories in the place of one.
use Rattle.std.specs.Prelude.{◌≡◌, ℕ, ◌*◌, ◌<◌, List, Some, slice_get}
use Rattle.net_core.specs.declared.mems.Mem.{Mem}
use Rattle.net_core.specs.declared.mems.RdPort.{RdPort}
use Rattle.net_core.specs.declared.modules.Module.{Module}
use Rattle.net_core.specs.Nodes.{read_node, Rises, Ordered}
use Rattle.net_edit.specs.Edits.{without_comb, without_reg, with_mems}
use Rattle.net_edit.specs.Laws.{SameRanks}

-- The laws: an order of the module is one of the module without a cell.
abbrev pub DroppedCombIsOrdered : Type 0
DroppedCombIsOrdered = (m : Module) (i : ℕ) (o : Ordered m) → SameRanks (without_comb m i) o.rank

abbrev pub DroppedRegIsOrdered : Type 0
DroppedRegIsOrdered = (m : Module) (i : ℕ) (o : Ordered m) → SameRanks (without_reg m i) o.rank

-- An order of the module is one of the module with memories in the place of one, where ranks rise along their reads.
abbrev pub SplicedIsOrdered : Type 0
SplicedIsOrdered =
    (m : Module) (i : ℕ) (mems : List Mem) (o : Ordered m) → ((a : ℕ) (x : Mem) → slice_get mems a ≡ Some x → (j : ℕ) (r : RdPort) → slice_get x.reads j ≡ Some r → Rises o.rank (read_node r)) → SameRanks (with_mems m i mems) o.rank

-- Ranks may be stretched, so that there is room between them.
abbrev pub StretchedIsOrdered : Type 0
StretchedIsOrdered = (m : Module) (room : ℕ) → 0 < room → (o : Ordered m) → SameRanks m (λ n. room * o.rank n)
