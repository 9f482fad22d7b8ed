-- What the connects of a module tie, whatever else is wrong with it, and the first of their faults.
use Rattle.std.specs.Prelude.{ℕ, List, [], ◌∷◌, Option, Some, None}
use Rattle.std.specs.List.{flat_map}
use Rattle.rtlil_text.specs.declared.doc.Item.{Item}
use Rattle.rtlil_text.specs.declared.doc.Item.TheVariants as item
use Rattle.net_wires.specs.declared.breach.Breach.{Breach}
use Rattle.net_wires.specs.declared.source.Pair.{Pair}
use Rattle.net_wires.specs.Connects.{connect_breaches, connect_pairs}
use Rattle.net_wires.specs.Spans.{Entry}
use Rattle.net_gather.specs.declared.fault.Fault.{Fault}

-- pairs, where nothing is broken
abbrev pub if_sound : List Breach → List Pair → List Pair
if_sound [] ps = ps
if_sound (b ∷ bs) ps = []

-- a connect that breaks a rule ties nothing
abbrev pub item_ties : List Entry → Item → List Pair
item_ties names (item.Wire w) = []
item_ties names (item.Param p) = []
item_ties names (item.Mem m) = []
item_ties names (item.Cell c) = []
item_ties names (item.Connect l r) = if_sound (connect_breaches names l r) (connect_pairs names l r)

abbrev pub ties_of : List Entry → List Item → List Pair
ties_of names is = flat_map (item_ties names) is

abbrev pub first_of : {X : Type 0} → List X → Option X
first_of [] = None
first_of (x ∷ xs) = Some x

-- the first fault, where this item breaks a rule first
abbrev pub or_first : Option Fault → ℕ → Option Breach → Option Fault
or_first (Some f) i b = Some f
or_first None i None = None
or_first None i (Some b) = Some (record { item = i; breach = b })
