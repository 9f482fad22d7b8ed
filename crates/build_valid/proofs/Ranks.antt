-- The module has a combinational order, where the nodes of its cells have one.
use Rattle.std.proofs.Common.{ℕ, List, [], ◌∷◌, sym, subst}
use Rattle.lib_core.specs.declared.library.Library.{Library}
use Rattle.rtlil_text.specs.declared.doc.DocModule.{DocModule}
use Rattle.rtlil_text.specs.Grammar.{All}
use Rattle.net_core.specs.declared.cells.Comb.{Comb}
use Rattle.net_core.specs.declared.cells.Reg.{Reg}
use Rattle.net_core.specs.declared.modules.Module.{Module}
use Rattle.net_core.specs.declared.rams.RamCell.{RamCell}
use Rattle.net_core.specs.declared.rams.SlotUse.{SlotUse}
use Rattle.net_core.specs.Nodes.{comb_node, Node, Ordered, ram_nodes, reg_node, Rises, slot_node}
use Rattle.net_loops.specs.Loops.{HaveOrder, HaveRanks, RanksAgree}
use Rattle.raw_cells.specs.declared.raw.CellShape.{CellShape}
use Rattle.raw_cells.specs.declared.raw.CellShape.TheVariants as shape
use Rattle.raw_cells.specs.declared.raw.RawCell.{RawCell}
use Rattle.raw_cells.specs.declared.raw.RawPin.{RawPin}
use Rattle.net_module.specs.Assembly.{comb_by, combs_of, module_of, ram_by, rams_of, reg_by, regs_of}
use Rattle.net_module.specs.Made.{shaped, Wiring}
use Rattle.net_module.specs.Nodes.{cell_nodes, made_nodes, memories_in, nodes_in}
use Rattle.net_module.specs.PartNodes.{Memories}
use Rattle.net_build.specs.Means.{gathered_in, IsMeant, wiring_of}
use Rattle.net_fits.proofs.Lists.{all_back, all_join, all_left, all_of, all_right, each_of}

-- what rises along a cell's nodes rises along what it becomes, list by list
comb_ranks : (P : Node → Type 0) (memories : Memories) (w : Wiring) (name : List ℕ) (pins : List RawPin) (s : CellShape) → All P (made_nodes memories s (shaped w name pins s)) → All (λ c. P (comb_node c)) (comb_by w.places name s pins)
comb_ranks P memories w name pins (shape.Comb r) a = a
comb_ranks P memories w name pins (shape.Reg r) a = tt
comb_ranks P memories w name pins (shape.Carried k) a = tt
comb_ranks P memories w name pins (shape.Memory k r) a = tt
comb_ranks P memories w name pins (shape.Ram u) a = tt

reg_ranks : (P : Node → Type 0) (memories : Memories) (w : Wiring) (name : List ℕ) (pins : List RawPin) (s : CellShape) → All P (made_nodes memories s (shaped w name pins s)) → All (λ r. P (reg_node r)) (reg_by w.places w.roots w.starts name s pins)
reg_ranks P memories w name pins (shape.Comb r) a = tt
reg_ranks P memories w name pins (shape.Reg r) a = a
reg_ranks P memories w name pins (shape.Carried k) a = tt
reg_ranks P memories w name pins (shape.Memory k r) a = tt
reg_ranks P memories w name pins (shape.Ram u) a = tt

ram_ranks : (P : Node → Type 0) (memories : Memories) (w : Wiring) (name : List ℕ) (pins : List RawPin) (s : CellShape) → All P (made_nodes memories s (shaped w name pins s)) → All (λ c. All P (ram_nodes c)) (ram_by w.library w.places w.roots name s pins)
ram_ranks P memories w name pins (shape.Comb r) a = tt
ram_ranks P memories w name pins (shape.Reg r) a = tt
ram_ranks P memories w name pins (shape.Carried k) a = tt
ram_ranks P memories w name pins (shape.Memory k r) a = tt
ram_ranks P memories w name pins (shape.Ram u) a = (a, tt)

record CellRanks (P : Node → Type 0) (w : Wiring) (cs : List RawCell) : Type 0 where
  combs : All (λ c. P (comb_node c)) (combs_of w.places cs)
  regs : All (λ r. P (reg_node r)) (regs_of w.places w.roots w.starts cs)
  rams : All (λ c. All P (ram_nodes c)) (rams_of w.library w.places w.roots cs)

cell_ranks : (P : Node → Type 0) (memories : Memories) (w : Wiring) (cs : List RawCell) → All P (nodes_in memories w cs) → CellRanks P w cs
cell_ranks P memories w [] a = record { combs = tt; regs = tt; rams = tt }
cell_ranks P memories w (c ∷ cs) a =
    let here = all_left P (cell_nodes memories w c) (nodes_in memories w cs) a in
    let rest = cell_ranks P memories w cs (all_right P (cell_nodes memories w c) (nodes_in memories w cs) a) in
    record {
      combs = all_join (λ x. P (comb_node x)) (comb_by w.places c.name c.shape c.pins) (combs_of w.places cs) (comb_ranks P memories w c.name c.pins c.shape here) rest.combs;
      regs = all_join (λ x. P (reg_node x)) (reg_by w.places w.roots w.starts c.name c.shape c.pins) (regs_of w.places w.roots w.starts cs) (reg_ranks P memories w c.name c.pins c.shape here) rest.regs;
      rams = all_join (λ x. All P (ram_nodes x)) (ram_by w.library w.places w.roots c.name c.shape c.pins) (rams_of w.library w.places w.roots cs) (ram_ranks P memories w c.name c.pins c.shape here) rest.rams;
    }

pub ordered : RanksAgree → (memories : Memories) (w : Wiring) (d : DocModule) (cs : List RawCell) (count : ℕ) → HaveOrder (nodes_in memories w cs)
    → Ordered (module_of d cs w.places count w.roots w.starts (rams_of w.library w.places w.roots cs))
unfolding module_of
ordered agree memories w d cs count o =
    let ranks : HaveRanks (nodes_in memories w cs) = (agree (nodes_in memories w cs)).1 o in
    let rank = ranks.0 in
    let all = cell_ranks (Rises rank) memories w cs (all_of (Rises rank) (nodes_in memories w cs) ranks.1) in
    record {
      rank = rank;
      combs = λ i c at. each_of (λ (x : Comb). Rises rank (comb_node x)) (combs_of w.places cs) all.combs i c at;
      regs = λ i r at. each_of (λ (x : Reg). Rises rank (reg_node x)) (regs_of w.places w.roots w.starts cs) all.regs i r at;
      reads = λ i x at. absurd cc;
      slots = λ i c at j s is.
          each_of (λ (x : SlotUse). Rises rank (slot_node x)) c.slots
          (all_back (Rises rank) slot_node c.slots (each_of (λ (x : RamCell). All (Rises rank) (ram_nodes x)) (rams_of w.library w.places w.roots cs) all.rams i c at)) j s is;
    }

pub meant_ordered : RanksAgree → (lib : Library) (modules : List DocModule) (d : DocModule) (m : Module) → IsMeant lib modules d m → Ordered m
meant_ordered agree lib modules d m is =
    subst Ordered (sym is.is) (ordered agree (memories_in d.items) (wiring_of lib is.nets is.roots is.starts) d (gathered_in lib modules d).cells is.nets.count is.ordered)
