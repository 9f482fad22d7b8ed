-- What tests of nets and of memory cells tell.
use Rattle.std.proofs.Common.{rules, ◌≡◌, ℕ, ◌<◌, Bool, true, false, ◌&&◌, List, [], ◌∷◌, length, Option, Some, None, not, nat_lt, slice_get, refl, sym, ap, ◌∙◌, subst, arith}
use Rattle.std.specs.Option.{is_some}
use Rattle.rtlil_text.specs.Grammar.{All}
use Rattle.net_core.specs.declared.bits.Bit.{Bit}
use Rattle.net_core.specs.declared.bits.Bit.TheVariants.{Net}
use Rattle.net_core.specs.Nodes.{Node}
use Rattle.net_core.proofs.Basics.{all_at}
use Rattle.net_core.proofs.Ordering.{map_at}
use Rattle.net_loops.specs.declared.nodes.NetNode.{NetNode}
use Rattle.net_loops.specs.Loops.{NetsBelow, node_of, nodes_in}
use Rattle.mem_rows.specs.declared.row.MemRow.{MemRow}
use Rattle.mem_rows.specs.declared.row.MemRow.TheVariants as row
use Rattle.mem_rows.specs.Limits.{IsWithin, whole_limit}
use Rattle.mem_rows.proofs.Within as limits
use Rattle.raw_cells.specs.declared.raw.CellShape.{CellShape}
use Rattle.raw_cells.specs.declared.raw.CellShape.TheVariants as shape
use Rattle.raw_cells.specs.declared.raw.RawCell.{RawCell}
use Rattle.net_module.specs.Nodes.{AreShapesWithin, IsShapeWithin}
use Rattle.net_module.specs.PartNodes.{IsWithinLimits}
use Rattle.net_build.specs.Below.{all_below, is_below, is_node_below, is_row_within, is_shape_within, nets_below, nodes_below, shapes_within}

-- both of two tests pass
left : (a b : Bool) → (a && b) ≡ true → a ≡ true
left true b e = refl
left false b e = e

right : (a b : Bool) → (a && b) ≡ true → b ≡ true
right true b e = e
right false b e = absurd (search rules)

drives_below : (nets : ℕ) (p : NetNode) → is_node_below nets p ≡ true → (k n : ℕ) → slice_get p.drives k ≡ Some n → n < nets
drives_below nets p e k n there =
    let h = all_at (λ m. nat_lt m nets) p.drives (left (nets_below nets p.drives) (all_below nets p.needs) e) k n there in
    search rules

needs_below : (nets : ℕ) (p : NetNode) → is_node_below nets p ≡ true → (k n : ℕ) → slice_get p.needs k ≡ Some (Net n) → n < nets
needs_below nets p e k n there =
    let h = all_at (is_below nets) p.needs (right (nets_below nets p.drives) (all_below nets p.needs) e) k (Net n) there in
    search rules

pub below : (nets : ℕ) (nodes : List NetNode) → nodes_below nets nodes ≡ true → NetsBelow nets (nodes_in nodes)
below nets nodes e = record {
  drives = λ i p there n d.
      let m = map_at node_of nodes i p there in
      drives_below nets m.0 (all_at (is_node_below nets) nodes e i m.0 m.1) d.0 n (subst (λ (q : Node). slice_get q.drives d.0 ≡ Some n) (sym m.2) d.1);
  needs = λ i p there n d.
      let m = map_at node_of nodes i p there in
      needs_below nets m.0 (all_at (is_node_below nets) nodes e i m.0 m.1) d.0 n (subst (λ (q : Node). slice_get q.needs d.0 ≡ Some (Net n)) (sym m.2) d.1);
}

-- ---- memory cells

no_limit : (o : Option ℕ) → not (is_some o) ≡ true → o ≡ None
no_limit None e = refl
no_limit (Some n) e = absurd (search rules)

row_within : (r : MemRow) → is_row_within r ≡ true → IsWithinLimits r
row_within (row.Whole r) e = limits.within r (no_limit (whole_limit r) e)
row_within (row.Read r) e = tt
row_within (row.OldRead r) e = tt
row_within (row.Write r) e = tt
row_within (row.Init r) e = tt

shape_within : (s : CellShape) → is_shape_within s ≡ true → IsShapeWithin s
shape_within (shape.Comb r) e = tt
shape_within (shape.Reg r) e = tt
shape_within (shape.Carried k) e = tt
shape_within (shape.Memory k r) e = row_within r e
shape_within (shape.Ram u) e = tt

pub within : (cells : List RawCell) → shapes_within cells ≡ true → AreShapesWithin cells
within [] e = tt
within (c ∷ cs) e = (shape_within c.shape (left (is_shape_within c.shape) (shapes_within cs) e), within cs (right (is_shape_within c.shape) (shapes_within cs) e))
