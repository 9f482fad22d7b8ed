-- A property of each kind of port is one of all ports of the cell.
use Rattle.std.proofs.Common.{◌≡◌, ℕ, zero, suc, ◌+◌, ◌*◌, ◌≤◌, inl, inr, List, [], ◌∷◌, length, Option, Some, None, refl, subst, arith}
use Rattle.std.specs.Prelude.{slice_get}
use Rattle.std.proofs.lemmas.Option.{same_Some}
use Rattle.lib_core.specs.declared.library.Group.{Group}
use Rattle.lib_core.specs.declared.library.Variant.{Variant}
use Rattle.net_core.specs.declared.mems.Mem.{Mem}
use Rattle.net_core.specs.declared.mems.RdPort.{RdPort}
use Rattle.net_core.specs.declared.mems.WrPort.{WrPort}
use Rattle.net_core.specs.declared.rams.SlotUse.{SlotUse}
use Rattle.net_core.proofs.Basics.{get_joined}
use Rattle.geom_core.specs.declared.candidates.RamChoice.{RamChoice}
use Rattle.ram_emit.specs.Cell.{left_bits, idle_use, write_use, read_use, first_use, idle_nets, first_nets, write_in, read_in, idle_uses, group_uses, group_nets, uses_from, nets_from}
use Rattle.ram_emit.proofs.Given.{GroupMet}
use Rattle.ram_emit.proofs.Fitting.{GroupStands, Stand, stand_here, stand_later}

module _ (x : Variant) (byte : x.byte ≡ None) (m : Mem) (c : RamChoice) (low high : ℕ) (P : SlotUse → Type 0) where
  -- what is shown of each kind; its new nets lie from low on, below high
  pub record EachKind : Type 0 where
    pub idle : (g : Group) (next : ℕ) → GroupMet g → low ≤ next → next + idle_nets x g ≤ high → P (idle_use x g next)
    pub write : (g : Group) (next n : ℕ) (p : WrPort) (r : Option RdPort) → GroupStands x g (Some p) r → write_in n m.writes c.writes ≡ Some p → low ≤ next → next + idle_nets x g ≤ high → P (write_use x g next p)
    pub read : (g : Group) (next n : ℕ) (p : RdPort) → GroupStands x g None (Some p) → read_in n m.reads c.reads ≡ Some p → low ≤ next → next + left_bits x p.out ≤ high → P (read_use x g next p)

  module _ (kinds : EachKind) where
    idle_each : (g : Group) (count next : ℕ) → GroupMet g → low ≤ next → next + count * idle_nets x g ≤ high → (j : ℕ) (s : SlotUse) → slice_get (idle_uses x g count next) j ≡ Some s → P s
    idle_each g zero next met lower upper j s h = cc
    idle_each g (suc count) next met lower upper zero s h = subst P (same_Some (idle_use x g next) s h) (kinds.idle g next met lower (omega (arith, upper)))
    idle_each g (suc count) next met lower upper (suc j) s h = idle_each g count (next + idle_nets x g) met (omega (arith, lower)) (omega (arith, upper)) j s h

    first_each : (g : Group) (n next : ℕ) (w : Option WrPort) (r : Option RdPort) → GroupStands x g w r → write_in n m.writes c.writes ≡ w → read_in n m.reads c.reads ≡ r → low ≤ next → next + first_nets x g w r ≤ high → P (first_use x g next w r)
    first_each g n next (Some p) r stands wh rh lower upper = kinds.write g next n p r stands wh lower upper
    first_each g n next None (Some p) stands wh rh lower upper = kinds.read g next n p stands rh lower upper
    first_each g n next None None stands wh rh lower upper = kinds.idle g next stands.met lower upper

    group_each : (g : Group) (n : ℕ) (w : Option WrPort) (r : Option RdPort) (count next : ℕ) → GroupStands x g w r → write_in n m.writes c.writes ≡ w → read_in n m.reads c.reads ≡ r → low ≤ next → next + group_nets x g w r count ≤ high → (j : ℕ) (s : SlotUse) → slice_get (group_uses x g w r count next) j ≡ Some s → P s
    group_each g n w r zero next stands wh rh lower upper j s h = cc
    group_each g n w r (suc count) next stands wh rh lower upper zero s h = subst P (same_Some (first_use x g next w r) s h) (first_each g n next w r stands wh rh lower (omega (arith, upper)))
    group_each g n w r (suc count) next stands wh rh lower upper (suc j) s h = idle_each g count (next + first_nets x g w r) stands.met (omega (arith, lower)) (omega (arith, upper)) j s h

    pub every_use : (gs : List Group) (n next : ℕ) → Stand x byte m c n gs → low ≤ next → next + nets_from x m c n gs ≤ high → (j : ℕ) (s : SlotUse) → slice_get (uses_from x m c n gs next) j ≡ Some s → P s
    every_use [] n next all lower upper j s h = cc
    every_use (g ∷ gs) n next all lower upper j s h =
        let w = write_in n m.writes c.writes in
        let r = read_in n m.reads c.reads in
        let here = group_uses x g w r (length g.names) next in
        let later = uses_from x m c (n + 1) gs (next + group_nets x g w r (length g.names)) in
        elim (get_joined here later j s h) [
          | inl at ↦ group_each g n w r (length g.names) next (stand_here x byte m c n g gs all) refl refl lower (omega (arith, upper)) j s at
          | inr (k, e, at) ↦ every_use gs (n + 1) (next + group_nets x g w r (length g.names)) (stand_later x byte m c n g gs all) (omega (arith, lower)) (omega (arith, upper)) k s at
        ]
