-- Where the nodes of parts of a module stand.
use Rattle.std.proofs.Common.{◌≡◌, ℕ, ◌⊎◌, inl, inr, List, [], ◌∷◌, ◌++◌, map, sym, subst}
use Rattle.std.specs.List.{flat_map, remove}
use Rattle.net_core.specs.declared.cells.Comb.{Comb}
use Rattle.net_core.specs.declared.cells.Reg.{Reg}
use Rattle.net_core.specs.declared.mems.Mem.{Mem}
use Rattle.net_core.specs.declared.mems.RdPort.{RdPort}
use Rattle.net_core.specs.declared.modules.Module.{Module}
use Rattle.net_core.specs.declared.rams.RamCell.{RamCell}
use Rattle.net_core.specs.declared.rams.SlotUse.{SlotUse}
use Rattle.net_core.specs.Nodes.{Node, comb_node, reg_node, read_node, slot_node, mem_nodes, ram_nodes, nodes_of}
use Rattle.ram_emit.specs.Placing.{placed_in}
use Rattle.ram_emit.proofs.Placed.{Has, has_left, has_right, has_either, has_none, has_first, flat_has, has_flat, map_has, has_map, removed_has}

module _ (m : Module) where
  abbrev combs : List Node
  combs = map comb_node m.combs

  abbrev regs : List Node
  regs = map reg_node m.regs

  abbrev reads : List Node
  reads = flat_map mem_nodes m.mems

  abbrev slots : List Node
  slots = flat_map ram_nodes m.rams

  pub comb_there : (a : Comb) → Has m.combs a → Has (nodes_of m) (comb_node a)
  comb_there a at = has_left combs (regs ++ (reads ++ slots)) (comb_node a) (has_map comb_node m.combs a at)

  pub reg_there : (a : Reg) → Has m.regs a → Has (nodes_of m) (reg_node a)
  reg_there a at = has_right combs (regs ++ (reads ++ slots)) (reg_node a) (has_left regs (reads ++ slots) (reg_node a) (has_map reg_node m.regs a at))

  pub mem_there : (y : Mem) (p : Node) → Has m.mems y → Has (mem_nodes y) p → Has (nodes_of m) p
  mem_there y p at h = has_right combs (regs ++ (reads ++ slots)) p (has_right regs (reads ++ slots) p (has_left reads slots p (has_flat mem_nodes m.mems y p at h)))

  pub read_there : (y : Mem) (r : RdPort) → Has m.mems y → Has y.reads r → Has (nodes_of m) (read_node r)
  read_there y r at h = mem_there y (read_node r) at (has_map read_node y.reads r h)

  pub ram_there : (y : RamCell) (p : Node) → Has m.rams y → Has (ram_nodes y) p → Has (nodes_of m) p
  ram_there y p at h = has_right combs (regs ++ (reads ++ slots)) p (has_right regs (reads ++ slots) p (has_right reads slots p (has_flat ram_nodes m.rams y p at h)))

  pub slot_there : (y : RamCell) (s : SlotUse) → Has m.rams y → Has y.slots s → Has (nodes_of m) (slot_node s)
  slot_there y s at h = ram_there y (slot_node s) at (has_map slot_node y.slots s h)

  -- a node of the new module is one of the old, or of the cell
  pub node_cases : (i : ℕ) (cell : RamCell) (nets : ℕ) (p : Node) → Has (nodes_of (placed_in m i cell nets)) p → Has (nodes_of m) p ⊎ ((s : SlotUse) × Has cell.slots s × (slot_node s ≡ p))
  node_cases i cell nets p h =
      let left_reads = flat_map mem_nodes (remove m.mems i) in
      let more = flat_map ram_nodes (m.rams ++ cell ∷ []) in
      elim (has_either combs (regs ++ (left_reads ++ more)) p h) [
        | inl a ↦ inl (has_left combs (regs ++ (reads ++ slots)) p a)
        | inr b ↦ elim (has_either regs (left_reads ++ more) p b) [
          | inl a ↦ inl (has_right combs (regs ++ (reads ++ slots)) p (has_left regs (reads ++ slots) p a))
          | inr d ↦ elim (has_either left_reads more p d) [
            | inl a ↦ let (y, at, inside) = flat_has mem_nodes (remove m.mems i) p a in inl (mem_there y p (removed_has m.mems i y at) inside)
            | inr a ↦
                let (y, at, inside) = flat_has ram_nodes (m.rams ++ cell ∷ []) p a in
                elim (has_either m.rams (cell ∷ []) y at) [
                  | inl old ↦ inl (ram_there y p old inside)
                  | inr own ↦
                      let same : cell ≡ y = elim (has_first cell y [] own) [ inl e ↦ e | inr g ↦ absurd (has_none y g) ] in
                      inr (map_has slot_node cell.slots p (subst (λ (r : RamCell). Has (ram_nodes r) p) (sym same) inside))
                ]
          ]
        ]
      ]
