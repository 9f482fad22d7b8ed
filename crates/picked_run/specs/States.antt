-- The state of a module in a simulation: what its registers, memories and RAM cells keep, at the start and after an event, with
-- a value picked wherever any would do.
use Rattle.std.specs.Prelude.{ℕ, ◌+◌, Bool, List, [], ◌∷◌, length, Option, Some, None, slice_index_or}
use Rattle.lib_core.specs.declared.library.Library.{Library}
use Rattle.net_core.specs.declared.bits.Event.{Event}
use Rattle.net_core.specs.declared.modules.Module.{Module}
use Rattle.net_core.specs.Values.{Valuation}
use Rattle.net_core.specs.Runs.{variant_of}
use Rattle.ram_step.specs.declared.picks.PickKey.{PickKey}
use Rattle.ram_step.specs.States.{RamLook, start_of, stepped}
use Rattle.sim_cells.specs.Registers.{reg_start, reg_stepped}
use Rattle.sim_cells.specs.Memories.{MemLook, mem_start, mem_stepped}

-- what each cell keeps; nothing stands for a RAM cell that has no variant
pub record SimLook : Type 0 where
  pub regs : List (List Bool)
  pub mems : List MemLook
  pub rams : List (Option RamLook)

-- The numbers of cells: logic cells from 1, then registers, memories and RAM cells, each in module order.
abbrev pub comb_number : ℕ → ℕ
comb_number i = 1 + i

abbrev pub reg_number : Module → ℕ → ℕ
reg_number m i = 1 + length m.combs + i

abbrev pub mem_number : Module → ℕ → ℕ
mem_number m i = 1 + length m.combs + length m.regs + i

abbrev pub ram_number : Module → ℕ → ℕ
ram_number m i = 1 + length m.combs + length m.regs + length m.mems + i

-- what the picks of a cell at an event depend on
abbrev pub key_of : ℕ → ℕ → ℕ → PickKey
key_of seed t cell = record { seed = seed; event = t; cell = cell }

-- one for each cell, the cells counted from a number
abbrev pub each_cell : {X Y : Type 0} → (ℕ → X → Y) → ℕ → List X → List Y
each_cell f i [] = []
each_cell f i (x ∷ xs) = f i x ∷ each_cell f (i + 1) xs

-- the same from the states of the cells
abbrev pub each_state : {X S : Type 0} → (ℕ → X → S → S) → ℕ → List X → List S → List S
each_state f i [] states = []
each_state f i (x ∷ xs) [] = []
each_state f i (x ∷ xs) (s ∷ states) = f i x s ∷ each_state f (i + 1) xs states

abbrev pub on_some : {X Y : Type 0} → (X → Y) → Option X → Option Y
on_some f None = None
on_some f (Some x) = Some (f x)

-- the state at the start
abbrev pub sim_start : Library → Module → ℕ → SimLook
sim_start lib m seed = record {
  regs = each_cell (λ i r. reg_start r (key_of seed 0 (reg_number m i))) 0 m.regs;
  mems = each_cell (λ i x. mem_start x (key_of seed 0 (mem_number m i))) 0 m.mems;
  rams = each_cell (λ i c. on_some (λ x. start_of x c (key_of seed 0 (ram_number m i))) (variant_of lib c)) 0 m.rams;
}

-- the state after the event of a number, at these values of the nets
abbrev pub sim_stepped : Module → ℕ → ℕ → Event → Valuation → SimLook → SimLook
sim_stepped m seed t e v s = record {
  regs = each_state (λ i r kept. reg_stepped r v e (key_of seed t (reg_number m i)) kept) 0 m.regs s.regs;
  mems = each_state (λ i x a. mem_stepped a x v e (key_of seed t (mem_number m i))) 0 m.mems s.mems;
  rams = each_state (λ i c o. on_some (λ a. stepped a c v e (key_of seed t (ram_number m i))) o) 0 m.rams s.rams;
}
