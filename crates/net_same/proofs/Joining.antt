-- The parts of two modules that are the same, joined.
use Rattle.net_core.specs.declared.modules.Module.{Module}
use Rattle.net_core.specs.Renaming.{IsTold}
use Rattle.net_same.specs.declared.tables.Tables.{Tables}
use Rattle.net_same.specs.Nets.{sent, told_back}
use Rattle.net_same.specs.Same.{WiresSame, CellsSame, HeadsSame, IsSame}

pub same_by : (old new : Module) (t : Tables) → HeadsSame old new → IsTold (sent t) (told_back t) → WiresSame (sent t) old.wires new.wires → CellsSame (sent t) old new → IsSame old new
same_by old new t heads told wires cells = record { f = sent t; g = told_back t; told = told; heads = heads; wires = wires; cells = cells }
