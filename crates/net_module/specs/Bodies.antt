-- The cells of a module in the lists of their kinds.
use Rattle.std.specs.Prelude.{◌≡◌, List, ◌++◌}
use Rattle.std.specs.List.{flat_map}
use Rattle.net_module.specs.declared.bodies.Bodies.{Bodies}
use Rattle.net_module.specs.declared.made.Made.{Made}
use Rattle.net_module.specs.Made.{carried_in, comb_in, part_in, ram_in, reg_in}

-- the lists have this cell more, at the end of the list of its kind
pub record AreBehind (c : Made) (old now : Bodies) : Type 0 where
  pub combs : now.combs.items ≡ old.combs.items ++ comb_in c
  pub regs : now.regs.items ≡ old.regs.items ++ reg_in c
  pub rams : now.rams.items ≡ old.rams.items ++ ram_in c
  pub carried : now.carried.items ≡ old.carried.items ++ carried_in c
  pub parts : now.parts.items ≡ old.parts.items ++ part_in c

-- the lists are those of these cells
pub record AreOf (cells : List Made) (b : Bodies) : Type 0 where
  pub combs : b.combs.items ≡ flat_map comb_in cells
  pub regs : b.regs.items ≡ flat_map reg_in cells
  pub rams : b.rams.items ≡ flat_map ram_in cells
  pub carried : b.carried.items ≡ flat_map carried_in cells
  pub parts : b.parts.items ≡ flat_map part_in cells

-- with these cells still to come, the lists will be those of all cells
pub record Lead (rest cells : List Made) (b : Bodies) : Type 0 where
  pub combs : b.combs.items ++ flat_map comb_in rest ≡ flat_map comb_in cells
  pub regs : b.regs.items ++ flat_map reg_in rest ≡ flat_map reg_in cells
  pub rams : b.rams.items ++ flat_map ram_in rest ≡ flat_map ram_in cells
  pub carried : b.carried.items ++ flat_map carried_in rest ≡ flat_map carried_in cells
  pub parts : b.parts.items ++ flat_map part_in rest ≡ flat_map part_in cells
