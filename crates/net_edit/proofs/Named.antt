-- What a call that adds a cell gives.
use Rattle.std.proofs.Common.{◌≡◌, ℕ, ◌<◌, ◌^◌, List, [], ◌∷◌, ◌++◌, subst}
use Rattle.net_core.specs.declared.bits.Bit.{Bit}
use Rattle.net_core.specs.declared.cells.Comb.{Comb}
use Rattle.net_core.specs.declared.cells.Reg.{Reg}
use Rattle.net_core.specs.declared.modules.Module.{Module}
use Rattle.net_core.specs.Valid.{cell_names}
use Rattle.net_edit.specs.Edits.{Editing, AddsComb, AddsReg}
use Rattle.net_edit.specs.Names.{numbered, AreFree, IsFront}
use Rattle.net_edit.proofs.FreshNames.{fresh_is}

pub comb_added : (old : Editing) (m : Module) (reads : List Bit) (front : List ℕ) (count : ℕ) (name : List ℕ) (c : Comb) (combs : List Comb) → record { netlist = m; reads = reads } ≡ old → IsFront front → AreFree front count (cell_names m) → count < 2 ^ 64 → name ≡ numbered front count → combs ≡ m.combs ++ (record c { name = name }) ∷ [] → AddsComb old (record { netlist = record m { combs = combs }; reads = reads }) c
comb_added old m reads front count name c combs is front_is free small named pushed =
    let first : AddsComb (record { netlist = m; reads = reads }) (record { netlist = record m { combs = combs }; reads = reads }) c = record {
      name = name;
      fresh = fresh_is m front count name front_is free small named;
      added = λ i. record { netlist = record m { combs = pushed i }; reads = reads };
    } in
    subst (λ o. AddsComb o (record { netlist = record m { combs = combs }; reads = reads }) c) is first

pub reg_added : (old : Editing) (m : Module) (reads : List Bit) (front : List ℕ) (count : ℕ) (name : List ℕ) (r : Reg) (regs : List Reg) → record { netlist = m; reads = reads } ≡ old → IsFront front → AreFree front count (cell_names m) → count < 2 ^ 64 → name ≡ numbered front count → regs ≡ m.regs ++ (record r { name = name }) ∷ [] → AddsReg old (record { netlist = record m { regs = regs }; reads = reads }) r
reg_added old m reads front count name r regs is front_is free small named pushed =
    let first : AddsReg (record { netlist = m; reads = reads }) (record { netlist = record m { regs = regs }; reads = reads }) r = record {
      name = name;
      fresh = fresh_is m front count name front_is free small named;
      added = λ i. record { netlist = record m { regs = pushed i }; reads = reads };
    } in
    subst (λ o. AddsReg o (record { netlist = record m { regs = regs }; reads = reads }) r) is first
