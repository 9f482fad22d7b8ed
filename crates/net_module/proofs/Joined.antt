-- A module put together of its pieces.
use Rattle.std.proofs.Common.{◌≡◌, ℕ, List, [], ◌∷◌, ◌++◌, refl, ◌∙◌}
use Rattle.std.specs.List.{flat_map}
use Rattle.lib_core.specs.declared.library.Library.{Library}
use Rattle.rtlil_text.specs.declared.doc.DocModule.{DocModule}
use Rattle.rtlil_text.specs.declared.doc.Item.{Item}
use Rattle.raw_cells.specs.declared.raw.CellShape.{CellShape}
use Rattle.raw_cells.specs.declared.raw.CellShape.TheVariants as shape
use Rattle.raw_cells.specs.declared.raw.RawCell.{RawCell}
use Rattle.raw_cells.specs.declared.raw.RawPin.{RawPin}
use Rattle.net_cells.specs.Wires.{declared, wires_from}
use Rattle.net_module.specs.declared.assembly.Shell.{Shell}
use Rattle.net_module.specs.declared.bodies.Bodies.{Bodies}
use Rattle.net_module.specs.Assembly.{carried_by, carried_cells, comb_by, combs_of, module_of, part_by, parts_of, ram_by, rams_of, reg_by, regs_of}
use Rattle.net_module.specs.Bodies.{AreOf}
use Rattle.net_module.specs.Made.{carried_in, comb_in, made_of, part_in, ram_in, reg_in, shaped, Wiring}
use Rattle.net_module.specs.Nodes.{all_made, AreMemories, joined, memories_in, shell_of}
use Rattle.net_module.specs.PartNodes.{Memories}

-- ---- what a cell becomes, list by list

comb_here : (w : Wiring) (name : List ℕ) (pins : List RawPin) (s : CellShape) → comb_in (shaped w name pins s) ≡ comb_by w.places name s pins
comb_here w name pins (shape.Comb r) = refl
comb_here w name pins (shape.Reg r) = refl
comb_here w name pins (shape.Carried k) = refl
comb_here w name pins (shape.Memory k r) = refl
comb_here w name pins (shape.Ram u) = refl

reg_here : (w : Wiring) (name : List ℕ) (pins : List RawPin) (s : CellShape) → reg_in (shaped w name pins s) ≡ reg_by w.places w.roots w.starts name s pins
reg_here w name pins (shape.Comb r) = refl
reg_here w name pins (shape.Reg r) = refl
reg_here w name pins (shape.Carried k) = refl
reg_here w name pins (shape.Memory k r) = refl
reg_here w name pins (shape.Ram u) = refl

ram_here : (w : Wiring) (name : List ℕ) (pins : List RawPin) (s : CellShape) → ram_in (shaped w name pins s) ≡ ram_by w.library w.places w.roots name s pins
ram_here w name pins (shape.Comb r) = refl
ram_here w name pins (shape.Reg r) = refl
ram_here w name pins (shape.Carried k) = refl
ram_here w name pins (shape.Memory k r) = refl
ram_here w name pins (shape.Ram u) = refl

carried_here : (w : Wiring) (name : List ℕ) (pins : List RawPin) (s : CellShape) → carried_in (shaped w name pins s) ≡ carried_by w.places name s pins
carried_here w name pins (shape.Comb r) = refl
carried_here w name pins (shape.Reg r) = refl
carried_here w name pins (shape.Carried k) = refl
carried_here w name pins (shape.Memory k r) = refl
carried_here w name pins (shape.Ram u) = refl

part_here : (w : Wiring) (name : List ℕ) (pins : List RawPin) (s : CellShape) → part_in (shaped w name pins s) ≡ part_by w.places w.roots name s pins
part_here w name pins (shape.Comb r) = refl
part_here w name pins (shape.Reg r) = refl
part_here w name pins (shape.Carried k) = refl
part_here w name pins (shape.Memory k r) = refl
part_here w name pins (shape.Ram u) = refl

-- ---- the lists

combs_are : (w : Wiring) (cs : List RawCell) → flat_map comb_in (all_made w cs) ≡ combs_of w.places cs
combs_are w [] = refl
combs_are w (c ∷ cs) = λ i. comb_here w c.name c.pins c.shape i ++ combs_are w cs i

regs_are : (w : Wiring) (cs : List RawCell) → flat_map reg_in (all_made w cs) ≡ regs_of w.places w.roots w.starts cs
regs_are w [] = refl
regs_are w (c ∷ cs) = λ i. reg_here w c.name c.pins c.shape i ++ regs_are w cs i

rams_are : (w : Wiring) (cs : List RawCell) → flat_map ram_in (all_made w cs) ≡ rams_of w.library w.places w.roots cs
rams_are w [] = refl
rams_are w (c ∷ cs) = λ i. ram_here w c.name c.pins c.shape i ++ rams_are w cs i

carried_are : (w : Wiring) (cs : List RawCell) → flat_map carried_in (all_made w cs) ≡ carried_cells w.places cs
carried_are w [] = refl
carried_are w (c ∷ cs) = λ i. carried_here w c.name c.pins c.shape i ++ carried_are w cs i

parts_are : (w : Wiring) (cs : List RawCell) → flat_map part_in (all_made w cs) ≡ parts_of w.places w.roots cs
parts_are w [] = refl
parts_are w (c ∷ cs) = λ i. part_here w c.name c.pins c.shape i ++ parts_are w cs i

-- ---- the module

pub joined_is : (w : Wiring) (nets : ℕ) (d : DocModule) (cells : List RawCell) (s : Shell) (b : Bodies) → s ≡ shell_of d (wires_from w.places d.items) (declared d.items) → AreOf (all_made w cells) b
    → joined nets s b ≡ module_of d cells w.places nets w.roots w.starts (rams_of w.library w.places w.roots cells)
unfolding joined module_of
joined_is w nets d cells s b e h = λ i. record {
  name = (e i).name;
  attrs = (e i).attrs;
  nets = nets;
  wires = (e i).wires;
  declared = (e i).declared;
  parts = (h.parts ∙ parts_are w cells) i;
  mems = [];
  combs = (h.combs ∙ combs_are w cells) i;
  regs = (h.regs ∙ regs_are w cells) i;
  rams = (h.rams ∙ rams_are w cells) i;
  carried = (h.carried ∙ carried_are w cells) i;
}

pub memories_are : (items : List Item) (m : Memories) → AreMemories (declared items) m → m ≡ memories_in items
memories_are items m h = λ i. record { place = λ name. h.place name i; widths = h.widths i }
