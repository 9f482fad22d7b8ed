-- Which operands a logic cell has, and which pins a register has. (Yosys manual, word-level cells.)
use Rattle.net_core.specs.declared.cells.CombKind.{CombKind}
use Rattle.net_core.specs.declared.cells.CombKind.TheVariants as comb
use Rattle.cell_rows.specs.declared.operands.Operands.{Operands}
use Rattle.cell_rows.specs.declared.operands.Operands.TheVariants.{One, Alike, Free, Shift, Mux, Pmux}

abbrev pub operands : CombKind → Operands
operands comb.Not = One
operands comb.And = Alike
operands comb.Or = Alike
operands comb.Xor = Alike
operands comb.Xnor = Alike
operands comb.ReduceAnd = One
operands comb.ReduceOr = One
operands comb.ReduceBool = One
operands comb.ReduceXor = One
operands comb.ReduceXnor = One
operands comb.LogicNot = One
operands comb.LogicAnd = Free
operands comb.LogicOr = Free
operands comb.Eq = Alike
operands comb.Ne = Alike
operands comb.Lt = Alike
operands comb.Le = Alike
operands comb.Gt = Alike
operands comb.Ge = Alike
operands comb.Add = Alike
operands comb.Sub = Alike
operands comb.Shl = Shift
operands comb.Shr = Shift
operands comb.Mux = Mux
operands comb.Pmux = Pmux
