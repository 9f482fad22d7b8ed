-- What was read of a text, line by line.
use Rattle.std.specs.Prelude.{ℕ, true, false, List, [], ◌∷◌, ◌++◌}
use Rattle.rtlil_text.specs.declared.doc.CellLine.{CellLine}
use Rattle.rtlil_text.specs.declared.doc.CellLine.TheVariants as line
use Rattle.rtlil_text.specs.declared.doc.DocAttr.{DocAttr}
use Rattle.rtlil_text.specs.declared.doc.DocMem.{DocMem}
use Rattle.rtlil_text.specs.declared.doc.DocParam.{DocParam}
use Rattle.rtlil_text.specs.declared.doc.DocWire.{DocWire}
use Rattle.rtlil_text.specs.declared.doc.Item.{Item}
use Rattle.rtlil_text.specs.declared.doc.Item.TheVariants as item
use Rattle.rtlil_text.specs.declared.doc.Part.{Part}
use Rattle.rtlil_text.specs.declared.place.Statement.{Statement}
use Rattle.rtlil_text.specs.declared.place.Statement.TheVariants as says
use Rattle.rtlil_text.specs.declared.state.Open.{Open}
use Rattle.rtlil_text.specs.declared.state.Open.TheVariants as open_
use Rattle.rtlil_text.specs.declared.state.State.{State}
use Rattle.rtlil_text.specs.declared.state.Taken.{Taken}
use Rattle.rtlil_text.specs.Read.{with_name}

unfoldable pub no_names : Taken
no_names = record { modules = []; wires = []; memories = []; cells = []; parameters = []; pins = [] }

-- before the first line
unfoldable pub start : State
start = record { modules = []; current = open_.File; attrs = []; autoidx = false; names = no_names }

unfoldable pub with_item : Open → Item → Open
with_item (open_.Module m) i = open_.Module (record m { items = m.items ++ i ∷ [] })
with_item o i = o

unfoldable pub with_line : Open → CellLine → Open
with_line (open_.Cell m c) l = open_.Cell m (record c { lines = c.lines ++ l ∷ [] })
with_line o l = o

unfoldable pub with_attribute : State → DocAttr → State
with_attribute st a = record st { attrs = st.attrs ++ a ∷ [] }

unfoldable pub put_item : State → Item → State
put_item st i = record st { current = with_item st.current i }

unfoldable pub begin_module : State → List ℕ → State
begin_module st n = record st { current = open_.Module (record { attrs = st.attrs; name = n; items = [] }); attrs = []; names = record st.names { modules = with_name st.names.modules n } }

unfoldable pub put_wire : State → DocWire → State
put_wire st w = record st { current = with_item st.current (item.Wire (record w { attrs = st.attrs })); attrs = []; names = record st.names { wires = with_name st.names.wires w.name } }

unfoldable pub put_memory : State → DocMem → State
put_memory st m = record st { current = with_item st.current (item.Mem (record m { attrs = st.attrs })); attrs = []; names = record st.names { memories = with_name st.names.memories m.name } }

unfoldable pub cell_in : Open → State → List ℕ → List ℕ → State
cell_in (open_.Module m) st k n = record st { current = open_.Cell m (record { attrs = st.attrs; kind = k; name = n; lines = [] }); attrs = []; names = record st.names { cells = with_name st.names.cells n } }
cell_in o st k n = st

unfoldable pub begin_cell : State → List ℕ → List ℕ → State
begin_cell st k n = cell_in st.current st k n

unfoldable pub put_parameter : State → DocParam → State
put_parameter st p = record st { current = with_line st.current (line.Param p); names = record st.names { parameters = with_name st.names.parameters p.name } }

unfoldable pub put_pin : State → List ℕ → List Part → State
put_pin st n v = record st { current = with_line st.current (line.Pin n v); names = record st.names { pins = with_name st.names.pins n } }

unfoldable pub end_of : Open → State → State
end_of open_.File st = st
end_of (open_.Module m) st = record st { modules = st.modules ++ m ∷ []; current = open_.File; names = record no_names { modules = st.names.modules } }
end_of (open_.Cell m c) st = record st { current = open_.Module (record m { items = m.items ++ item.Cell c ∷ [] }); names = record st.names { parameters = []; pins = [] } }

-- the end of the open cell, or of the open module
unfoldable pub end : State → State
end st = end_of st.current st

-- what was read with one more line
unfoldable pub advance : State → Statement → State
advance st says.Blank = st
advance st says.Autoidx = record st { autoidx = true }
advance st (says.Attribute a) = with_attribute st a
advance st (says.Module n) = begin_module st n
advance st (says.Parameter p) = put_item st (item.Param p)
advance st (says.Wire w) = put_wire st w
advance st (says.Memory m) = put_memory st m
advance st (says.Cell k n) = begin_cell st k n
advance st (says.Connect l r) = put_item st (item.Connect l r)
advance st (says.CellParameter p) = put_parameter st p
advance st (says.Pin n v) = put_pin st n v
advance st says.End = end st
