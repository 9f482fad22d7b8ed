-- The bounds of a module that is made of gathered cells.
use Rattle.std.proofs.Common.{ℕ, ◌≤◌, ◌^◌, List, length, arith}
use Rattle.std.specs.List.{sum_by}
use Rattle.lib_core.specs.declared.library.Tri.{Tri}
use Rattle.rtlil_text.specs.declared.doc.DocModule.{DocModule}
use Rattle.net_core.specs.declared.bits.Bit.{Bit}
use Rattle.net_core.specs.declared.rams.RamCell.{RamCell}
use Rattle.net_core.specs.Valid.{ListsCounted, silent_nodes}
use Rattle.net_wires.specs.declared.clock.ClockRoot.{ClockRoot}
use Rattle.net_gather.specs.Cells.{Context}
use Rattle.net_gather.specs.Gather.{gathered}
use Rattle.net_module.specs.Assembly.{combs_of, module_of, regs_of}
use Rattle.net_fits.specs.Rams.{AreRams, ram_cells}
use Rattle.net_fits.specs.Written.{IsWritten}
use Rattle.net_fits.proofs.Sizes.{cells_counted, declared_few, items_counted, rams_as_many, shapes_counted, silent_few, wires_few}

module _ (x : Context) (m : DocModule) (places : List Bit) (count : ℕ) (roots : List ClockRoot) (starts : List Tri) (rams : List RamCell) (w : IsWritten m) (are : AreRams places count (gathered x m.items).cells rams) where
  pub lists_counted : ListsCounted (module_of m (gathered x m.items).cells places count roots starts rams)
  unfolding module_of
  lists_counted =
      let cs = (gathered x m.items).cells in
      let items = items_counted m w in
      let cells = cells_counted x m w in
      let shapes = shapes_counted places roots starts cs in
      let as_many = rams_as_many places count (ram_cells cs) rams are in
      let wires = wires_few places m.items in
      let mems = declared_few m.items in
      record {
        wires = omega (arith, wires, items);
        declared = omega (arith, mems, items);
        parts = omega (arith, shapes, cells);
        mems = omega arith;
        combs = omega (arith, shapes, cells);
        regs = omega (arith, shapes, cells);
        rams = omega (arith, shapes, cells, as_many);
        carried = omega (arith, shapes, cells);
      }

  pub few_silent : sum_by (λ (c : RamCell). length c.slots) rams ≤ 2 ^ 30 → silent_nodes (module_of m (gathered x m.items).cells places count roots starts rams) ≤ 3221225472
  unfolding module_of
  few_silent slots =
      let cs = (gathered x m.items).cells in
      let cells = cells_counted x m w in
      let shapes = shapes_counted places roots starts cs in
      let few = silent_few (combs_of places cs) (regs_of places roots starts cs) in
      omega (arith, cells, shapes, few, slots)
