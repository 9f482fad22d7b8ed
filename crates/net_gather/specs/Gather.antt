-- What is gathered of the items of a module, and what they break, in the order in which they are looked at: the sizes of wires
-- and memories, then the cells, and then the connects, each in file order.
use Rattle.std.specs.Prelude.{ℕ, ◌+◌, List, [], ◌∷◌, ◌++◌, Option, Some, None}
use Rattle.std.specs.List.{flat_map}
use Rattle.lib_core.specs.declared.library.Library.{Library}
use Rattle.rtlil_text.specs.declared.doc.Item.{Item}
use Rattle.rtlil_text.specs.declared.doc.Item.TheVariants as item
use Rattle.rtlil_text.specs.Grammar.{memory_name}
use Rattle.cell_rows.specs.Kinds.{found, place_of}
use Rattle.net_wires.specs.declared.breach.Breach.{Breach}
use Rattle.net_wires.specs.declared.source.Pair.{Pair}
use Rattle.net_wires.specs.Connects.{connect_breaches, connect_pairs}
use Rattle.net_wires.specs.Spans.{Entry, spans, wire_bits}
use Rattle.net_gather.specs.declared.cell.Gain.{Gain}
use Rattle.net_gather.specs.declared.counts.Counts.{Counts}
use Rattle.net_gather.specs.declared.faces.Faces.{Faces}
use Rattle.net_gather.specs.declared.fault.Fault.{Fault}
use Rattle.net_gather.specs.declared.gathering.Gathered.{Gathered}
use Rattle.raw_cells.specs.declared.raw.RawCell.{RawCell}
use Rattle.raw_cells.specs.Tied.{tied_of}
use Rattle.net_gather.specs.Cells.{cell_breaches, cell_gain, Context}
use Rattle.net_gather.specs.Counts.{tally_of}
use Rattle.net_gather.specs.Faces.{faces_drive}
use Rattle.net_gather.specs.Faults.{at}
use Rattle.net_gather.specs.Sizes.{size_faults}
use Rattle.net_gather.specs.Ties.{ties_of}

-- ---- cells

abbrev pub gained : Option Gain → List RawCell
gained None = []
gained (Some g) = g.cell ∷ []

abbrev pub counted : Counts → Option Gain → Counts
counted st None = st
counted st (Some g) = g.counts

abbrev pub item_gain : Context → Counts → Item → Option Gain
item_gain x st (item.Wire w) = None
item_gain x st (item.Param p) = None
item_gain x st (item.Mem m) = None
item_gain x st (item.Cell c) = cell_gain x st c
item_gain x st (item.Connect l r) = None

abbrev pub item_breaches : Context → Counts → Item → List Breach
item_breaches x st (item.Wire w) = []
item_breaches x st (item.Param p) = []
item_breaches x st (item.Mem m) = []
item_breaches x st (item.Cell c) = cell_breaches x st c
item_breaches x st (item.Connect l r) = []

-- the cells, under what was counted before the first of them
abbrev pub raw_cells : Context → Counts → List Item → List RawCell
raw_cells x st [] = []
raw_cells x st (i ∷ is) = gained (item_gain x st i) ++ raw_cells x (counted st (item_gain x st i)) is

abbrev pub counts_of : Context → Counts → List Item → Counts
counts_of x st [] = st
counts_of x st (i ∷ is) = counts_of x (counted st (item_gain x st i)) is

-- items are counted from k
abbrev pub cell_faults : Context → ℕ → Counts → List Item → List Fault
cell_faults x k st [] = []
cell_faults x k st (i ∷ is) = at k (item_breaches x st i) ++ cell_faults x (k + 1) (counted st (item_gain x st i)) is

-- ---- connects

abbrev pub item_pairs : List Entry → Item → List Pair
item_pairs names (item.Wire w) = []
item_pairs names (item.Param p) = []
item_pairs names (item.Mem m) = []
item_pairs names (item.Cell c) = []
item_pairs names (item.Connect l r) = connect_pairs names l r

abbrev pub item_connect_breaches : List Entry → Item → List Breach
item_connect_breaches names (item.Wire w) = []
item_connect_breaches names (item.Param p) = []
item_connect_breaches names (item.Mem m) = []
item_connect_breaches names (item.Cell c) = []
item_connect_breaches names (item.Connect l r) = connect_breaches names l r

abbrev pub pairs_of : List Entry → List Item → List Pair
pairs_of names is = flat_map (item_pairs names) is

abbrev pub connect_faults : List Entry → ℕ → List Item → List Fault
connect_faults names k [] = []
connect_faults names k (i ∷ is) = at k (item_connect_breaches names i) ++ connect_faults names (k + 1) is

-- ---- the module

-- before the first cell the bits of the wires have places
abbrev pub counts_before : List Item → Counts
counts_before is = record { places = wire_bits is; pin_bits = 0; reads = flat_map tally_of is; writes = flat_map tally_of is }

-- what stands around the cells of these items, where RAMs stand at these places, and these are the modules of the file
abbrev pub context : Library → (List ℕ → Option ℕ) → Faces → List Item → Context
context lib ram faces is = record {
  library = lib;
  names = spans 0 is;
  memory = λ n. place_of (flat_map memory_name is) n;
  ram = ram;
  instance = λ n. found faces.modules n;
  drives = λ k p. faces_drive faces k p;
  tied = tied_of (wire_bits is) (ties_of (spans 0 is) is);
}

abbrev pub gathered : Context → List Item → Gathered
gathered x is = record {
  wire_places = wire_bits is;
  places = (counts_of x (counts_before is) is).places;
  cells = raw_cells x (counts_before is) is;
  pairs = pairs_of x.names is;
}

abbrev pub faults_of : Context → List Item → List Fault
faults_of x is = size_faults 0 0 is ++ (cell_faults x 0 (counts_before is) is ++ connect_faults x.names 0 is)
