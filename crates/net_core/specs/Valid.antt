-- What holds of every module that a design text means or a rewriting makes: names, widths, lengths, drivers and limits. It is
-- said under a library, and under the interfaces of the modules of a design, which tell the ports of instances.
use Rattle.std.specs.Prelude.{◌≡◌, ℕ, ◌+◌, ◌*◌, ◌^◌, ◌<◌, ◌≤◌, Bool, true, false, cond, not, ◌&&◌, ◌||◌, List, [], ◌∷◌, ◌++◌, map, filter, length, Option, Some, None, slice_get, nat_eq, codes}
use Rattle.std.specs.List.{flat_map, list_all, list_any, find, sum_by, count_by}
use Rattle.std.specs.Str.{bytes_eq}
use Rattle.lib_core.specs.declared.library.Tri.{Tri}
use Rattle.lib_core.specs.declared.library.Tri.TheVariants as tri
use Rattle.lib_core.specs.declared.library.EdgeKind.{EdgeKind}
use Rattle.lib_core.specs.declared.library.EdgeKind.TheVariants as edge
use Rattle.lib_core.specs.declared.library.Variant.{Variant}
use Rattle.lib_core.specs.declared.library.Library.{Library}
use Rattle.net_core.specs.declared.bits.Bit.{Bit}
use Rattle.net_core.specs.declared.bits.Bit.TheVariants.{Zero, One, Net}
use Rattle.net_core.specs.declared.bits.Clock.{Clock}
use Rattle.net_core.specs.declared.bits.Clock.TheVariants.{Root, Never}
use Rattle.net_core.specs.declared.cells.Comb.{Comb}
use Rattle.net_core.specs.declared.cells.CombKind.{CombKind}
use Rattle.net_core.specs.declared.cells.CombKind.TheVariants as kind
use Rattle.net_core.specs.declared.cells.Reg.{Reg}
use Rattle.net_core.specs.declared.cells.Pin.{Pin}
use Rattle.net_core.specs.declared.cells.Carried.{Carried}
use Rattle.net_core.specs.declared.mems.Attr.{Attr}
use Rattle.net_core.specs.declared.mems.Mem.{Mem}
use Rattle.net_core.specs.declared.mems.RdPort.{RdPort}
use Rattle.net_core.specs.declared.mems.WrPort.{WrPort}
use Rattle.net_core.specs.declared.rams.RamCell.{RamCell}
use Rattle.net_core.specs.declared.modules.Wire.{Wire}
use Rattle.net_core.specs.declared.modules.MemPart.{MemPart}
use Rattle.net_core.specs.declared.modules.Module.{Module}
use Rattle.net_core.specs.declared.modules.Design.{Design}
use Rattle.net_core.specs.Values.{bit_at}
use Rattle.net_core.specs.Cells.{has_enable, has_arst, has_srst}
use Rattle.net_core.specs.Ram.{Slot, slots_of}
use Rattle.net_core.specs.Nodes.{Node, comb_node, reg_node, mem_nodes, nodes_of, HasNet, Drives, NetsWithin, Ordered}
use Rattle.net_core.specs.Drivers.{HasOneDriver}
use Rattle.net_core.specs.Ports.{Interface, PortFace, is_input_wire, is_inout, is_port, inputs_of, clocks_of, wire_bits, inout_pin_bits}
use Rattle.net_core.specs.Pins.{all_bits, inner_bits}
use Rattle.net_core.specs.Shape.{fits_library}
use Rattle.net_core.specs.Runs.{variant_of, interfaces, ReadsAgree, Live}

-- An identifier begins with a backslash or a dollar sign, goes on with at least one more byte, and has no white space.
abbrev pub is_white : ℕ → Bool
is_white b = nat_eq b 32 || (nat_eq b 9 || (nat_eq b 10 || nat_eq b 13))

abbrev pub is_identifier : List ℕ → Bool
is_identifier [] = false
is_identifier (a ∷ []) = false
is_identifier (a ∷ b ∷ bs) = (nat_eq a 92 || nat_eq a 36) && list_all (λ x. not (is_white x)) (b ∷ bs)

-- no item stands at two places
abbrev pub AreApart : {X : Type 0} → List X → Type 0
AreApart {X} xs = (i j : ℕ) (x : X) → slice_get xs i ≡ Some x → slice_get xs j ≡ Some x → i ≡ j

-- all items of a list
abbrev pub Each : {X : Type 0} → List X → (X → Type 0) → Type 0
Each {X} xs P = (i : ℕ) (x : X) → slice_get xs i ≡ Some x → P x

-- a list whose items have numbers of 32 bits
abbrev pub IsCounted : {X : Type 0} → List X → Type 0
IsCounted xs = length xs < 2 ^ 32

abbrev pub IsName : List ℕ → Type 0
IsName name = is_identifier name ≡ true

-- attributes and parameters: a string has no bits, bits have no string
pub record AttrFits (a : Attr) : Type 0 where
  pub name : IsName a.name
  pub bits : a.is_text ≡ true → a.bits ≡ []
  pub value : a.is_text ≡ false → a.value ≡ []
  pub count : IsCounted a.bits

pub record AttrsFit (attrs : List Attr) : Type 0 where
  pub each : Each attrs AttrFits
  pub count : IsCounted attrs

-- parameters, of which no two have one name
pub record ParamsFit (params : List Attr) : Type 0 where
  pub each : AttrsFit params
  pub apart : AreApart (map (λ (p : Attr). p.name) params)

abbrev pub is_net : Bit → Bool
is_net Zero = false
is_net One = false
is_net (Net n) = true

abbrev pub are_nets : List Bit → Bool
are_nets bits = list_all is_net bits

pub record WireFits (w : Wire) : Type 0 where
  pub name : IsName w.name
  pub attrs : AttrsFit w.attrs
  pub port : w.port < 2 ^ 31
  pub width : length w.bits < 2 ^ 31
  pub no_port : is_port w ≡ false → w.port ≡ 0
  pub input : is_input_wire w ≡ true → are_nets w.bits ≡ true

-- the lengths of the operands by the kind of a logic cell
abbrev pub CombLengths : CombKind → Bool → ℕ → ℕ → ℕ → ℕ → Type 0
CombLengths kind.Not signed a b s y = (b ≡ 0) × (s ≡ 0)
CombLengths kind.ReduceAnd signed a b s y = (b ≡ 0) × (s ≡ 0)
CombLengths kind.ReduceOr signed a b s y = (b ≡ 0) × (s ≡ 0)
CombLengths kind.ReduceBool signed a b s y = (b ≡ 0) × (s ≡ 0)
CombLengths kind.ReduceXor signed a b s y = (b ≡ 0) × (s ≡ 0)
CombLengths kind.ReduceXnor signed a b s y = (b ≡ 0) × (s ≡ 0)
CombLengths kind.LogicNot signed a b s y = (b ≡ 0) × (s ≡ 0)
CombLengths kind.Shl signed a b s y = (signed ≡ false) × (s ≡ 0)
CombLengths kind.Shr signed a b s y = (signed ≡ false) × (s ≡ 0)
CombLengths kind.Mux signed a b s y = (signed ≡ false) × (a ≡ y) × (b ≡ y) × (s ≡ 1)
CombLengths kind.Pmux signed a b s y = (signed ≡ false) × (a ≡ y) × (b ≡ s * y)
CombLengths k signed a b s y = s ≡ 0

pub record CombFits (c : Comb) : Type 0 where
  pub name : IsName c.name
  pub lengths : CombLengths c.kind c.signed (length c.a) (length c.b) (length c.s) (length c.y)
  pub a : IsCounted c.a
  pub b : IsCounted c.b
  pub s : IsCounted c.s
  pub y : IsCounted c.y

-- a pin of a register that its kind lacks is 0, its polarity false and its value empty; a value has a bit for each bit of Q
pub record RegFits (r : Reg) : Type 0 where
  pub name : IsName r.name
  pub d : length r.d ≡ length r.q
  pub init : length r.init ≡ length r.q
  pub q : IsCounted r.q
  pub no_en : has_enable r.kind ≡ false → (r.en ≡ Zero) × (r.en_high ≡ false)
  pub no_arst : has_arst r.kind ≡ false → (r.arst ≡ Zero) × (r.arst_high ≡ false) × (r.arst_value ≡ [])
  pub arst : has_arst r.kind ≡ true → length r.arst_value ≡ length r.q
  pub no_srst : has_srst r.kind ≡ false → (r.srst ≡ Zero) × (r.srst_high ≡ false) × (r.srst_value ≡ [])
  pub srst : has_srst r.kind ≡ true → length r.srst_value ≡ length r.q

-- the low address bits of a wide port are 0; where there are fewer bits, all are
abbrev pub AddressFits : Mem → ℕ → List Bit → Type 0
AddressFits x wide addr = (length addr ≡ x.abits) × ((k : ℕ) (b : Bit) → k < wide → slice_get addr k ≡ Some b → b ≡ Zero)

abbrev pub data_width : Mem → ℕ → ℕ
data_width x wide = x.width * 2 ^ wide

abbrev pub NoneDefined : List Tri → Type 0
NoneDefined value = Each value (λ t. t ≡ tri.Any)

-- fields of a read port that works at once
pub record AtOnce (r : RdPort) : Type 0 where
  pub en : r.en ≡ One
  pub arst : r.arst ≡ Zero
  pub srst : r.srst ≡ Zero
  pub arst_value : NoneDefined r.arst_value
  pub srst_value : NoneDefined r.srst_value
  pub init_value : NoneDefined r.init_value
  pub order : r.ce_over_srst ≡ false
  pub trans : list_any (λ b. b) r.trans ≡ false
  pub coll : list_any (λ b. b) r.coll ≡ false

pub record ReadFits (x : Mem) (r : RdPort) : Type 0 where
  pub addr : AddressFits x r.wide r.addr
  pub out : length r.out ≡ data_width x r.wide
  pub arst_value : length r.arst_value ≡ data_width x r.wide
  pub srst_value : length r.srst_value ≡ data_width x r.wide
  pub init_value : length r.init_value ≡ data_width x r.wide
  pub trans : length r.trans ≡ length x.writes
  pub coll : length r.coll ≡ length x.writes
  pub one_mask : (j : ℕ) → (bit_at r.trans j && bit_at r.coll j) ≡ false
  pub at_once : r.clock ≡ None → AtOnce r

pub record WriteFits (x : Mem) (own : ℕ) (w : WrPort) : Type 0 where
  pub addr : AddressFits x w.wide w.addr
  pub en : length w.en ≡ data_width x w.wide
  pub value : length w.value ≡ data_width x w.wide
  pub prio : length w.prio ≡ length x.writes
  pub lower : (j : ℕ) → own ≤ j → bit_at w.prio j ≡ false

-- size and place of a memory
pub record MemSizes (x : Mem) : Type 0 where
  pub name : IsName x.name
  pub origin : IsName x.origin
  pub attrs : AttrsFit x.attrs
  pub words : (1 ≤ x.size) × (x.size ≤ 1048576)
  pub width : (1 ≤ x.width) × (x.width ≤ 65536)
  pub bits : x.size * x.width ≤ 8388608
  pub addresses : x.offset + x.size ≤ 1048576
  pub abits : x.abits ≤ 32

pub record MemFits (x : Mem) : Type 0 where
  pub sizes : MemSizes x
  pub init : length x.init ≡ x.size * x.width
  pub reads : Each x.reads (ReadFits x)
  pub writes : (j : ℕ) (w : WrPort) → slice_get x.writes j ≡ Some w → WriteFits x j w
  -- as ports of single words
  pub read_words : sum_by (λ (r : RdPort). 2 ^ r.wide) x.reads ≤ 64
  pub write_words : sum_by (λ (w : WrPort). 2 ^ w.wide) x.writes ≤ 64

-- a memory that is only declared: its ports are cells
pub record IsDeclared (x : Mem) : Type 0 where
  pub sizes : MemSizes x
  pub reads : x.reads ≡ []
  pub writes : x.writes ≡ []

-- a logic cell that inverts a net stands in the module
pub record HasInverter (m : Module) (net : ℕ) : Type 0 where
  pub number : ℕ
  pub cell : Comb
  pub place : ℕ
  pub stands : slice_get m.combs number ≡ Some cell
  pub inverts : cell.kind ≡ kind.Not
  pub read : slice_get cell.a place ≡ Some (Net net)
  pub within : place < length cell.y

-- Where the group's edges are of one kind and the slot has the other edge of its root, the text shows an inverter.
abbrev pub EdgeFits : Module → Option EdgeKind → Clock → Type 0
EdgeFits m None c = Unit {0}
EdgeFits m (Some edge.Pos) Never = Unit {0}
EdgeFits m (Some edge.Pos) (Root net true) = Unit {0}
EdgeFits m (Some edge.Pos) (Root net false) = HasInverter m net
EdgeFits m (Some edge.Neg) Never = Unit {0}
EdgeFits m (Some edge.Neg) (Root net false) = Unit {0}
EdgeFits m (Some edge.Neg) (Root net true) = HasInverter m net
EdgeFits m (Some edge.Either) c = Unit {0}

pub record RamFits (lib : Library) (m : Module) (c : RamCell) : Type 0 where
  pub name : IsName c.name
  pub shape : fits_library lib c ≡ true
  pub slots : IsCounted c.slots
  pub init : IsCounted c.init
  pub edges : (x : Variant) → variant_of lib c ≡ Some x → (j : ℕ) (s : Slot) → slice_get (slots_of x c) j ≡ Some s → EdgeFits m s.kind.edge s.pins.clock

-- The outputs of the cells that are carried by their type.
pub record CarriedKind : Type 0 where
  pub kind : List ℕ
  pub outputs : List (List ℕ)

abbrev pub with_outputs : List (List ℕ) → List (List ℕ) → List CarriedKind
with_outputs outputs kinds = map (λ k. record { kind = k; outputs = outputs }) kinds

abbrev pub carried_kinds : List CarriedKind
carried_kinds =
    with_outputs (codes "\\Y" ∷ []) (codes "$mul" ∷ codes "$div" ∷ codes "$mod" ∷ codes "$divfloor" ∷ codes "$modfloor" ∷ codes "$pow" ∷ codes "$shift" ∷ codes "$shiftx" ∷ codes "$sshl" ∷ codes "$sshr" ∷ codes "$pos" ∷ codes "$neg" ∷ codes "$slice" ∷ codes "$concat" ∷ codes "$bmux" ∷ codes "$demux" ∷ codes "$bwmux" ∷ codes "$lut" ∷ codes "$macc" ∷ codes "$anyconst" ∷ codes "$anyseq" ∷ codes "$allconst" ∷ codes "$allseq" ∷ codes "$initstate" ∷ [])
    ++ (with_outputs (codes "\\X" ∷ codes "\\Y" ∷ codes "\\CO" ∷ []) (codes "$alu" ∷ [])
    ++ (with_outputs (codes "\\X" ∷ codes "\\Y" ∷ []) (codes "$fa" ∷ [])
    ++ (with_outputs (codes "\\CO" ∷ []) (codes "$lcu" ∷ [])
    ++ (with_outputs (codes "\\Q" ∷ []) (codes "$dlatch" ∷ codes "$adlatch" ∷ codes "$dlatchsr" ∷ codes "$sr" ∷ codes "$ff" ∷ codes "$dffsr" ∷ codes "$dffsre" ∷ codes "$aldff" ∷ codes "$aldffe" ∷ [])
    ++ with_outputs [] (codes "$assert" ∷ codes "$assume" ∷ codes "$cover" ∷ codes "$live" ∷ codes "$fair" ∷ codes "$print" ∷ codes "$check" ∷ codes "$scopeinfo" ∷ [])))))

-- the logic cells that are carried where the signs of their operands differ, and those that are where an operand is signed
abbrev pub two_operands : List (List ℕ)
two_operands = codes "$and" ∷ codes "$or" ∷ codes "$xor" ∷ codes "$xnor" ∷ codes "$eq" ∷ codes "$ne" ∷ codes "$lt" ∷ codes "$le" ∷ codes "$gt" ∷ codes "$ge" ∷ codes "$add" ∷ codes "$sub" ∷ []

abbrev pub shifts : List (List ℕ)
shifts = codes "$shl" ∷ codes "$shr" ∷ []

-- a pin is an output by the type of its cell, or by the ports of the module that the cell is an instance of
abbrev pub drives_by_kind : Option CarriedKind → Option Interface → List ℕ → Bool
drives_by_kind (Some k) i pin = list_any (bytes_eq pin) k.outputs
drives_by_kind None None pin = bytes_eq pin (codes "\\Y")
drives_by_kind None (Some i) pin = list_any (λ (p : PortFace). bytes_eq p.name pin && (p.output && not p.input)) i.ports

abbrev pub instance_of : List Interface → List ℕ → Option Interface
instance_of modules name = find (λ (i : Interface). bytes_eq i.name name) modules

abbrev pub kind_of : List ℕ → Option CarriedKind
kind_of name = find (λ (k : CarriedKind). bytes_eq k.kind name) carried_kinds

-- the value of a flag among parameters
abbrev pub is_one_digit : Tri → Bool
is_one_digit tri.Zero = false
is_one_digit tri.One = true
is_one_digit tri.Any = false

abbrev pub flag_of : Option Attr → Bool
flag_of None = false
flag_of (Some a) = list_any is_one_digit a.bits

abbrev pub flag : List Attr → List ℕ → Bool
flag params name = flag_of (find (λ (p : Attr). bytes_eq p.name name) params)

abbrev pub is_carried_for_signs : List ℕ → List Attr → Bool
is_carried_for_signs name params =
    (list_any (bytes_eq name) two_operands && not (nat_eq (cond (flag params (codes "\\A_SIGNED")) 1 0) (cond (flag params (codes "\\B_SIGNED")) 1 0)))
    || (list_any (bytes_eq name) shifts && (flag params (codes "\\A_SIGNED") || flag params (codes "\\B_SIGNED")))

abbrev pub is_there : {X : Type 0} → Option X → Bool
is_there None = false
is_there (Some x) = true

pub record PinFits (modules : List Interface) (c : Carried) (p : Pin) : Type 0 where
  pub name : IsName p.name
  pub count : IsCounted p.bits
  pub drives : p.drives ≡ drives_by_kind (kind_of c.kind) (instance_of modules c.kind) p.name
  pub nets : p.drives ≡ true → are_nets p.bits ≡ true

pub record CarriedFits (modules : List Interface) (c : Carried) : Type 0 where
  pub name : IsName c.name
  pub kind : IsName c.kind
  pub known : (is_there (kind_of c.kind) || (is_there (instance_of modules c.kind) || is_carried_for_signs c.kind c.params)) ≡ true
  pub attrs : AttrsFit c.attrs
  pub params : ParamsFit c.params
  pub pins : Each c.pins (PinFits modules c)
  pub apart : AreApart (map (λ (p : Pin). p.name) c.pins)
  pub count : IsCounted c.pins

-- a memory cell whose memory is still to be gathered
pub record PartFits (p : MemPart) : Type 0 where
  pub name : IsName p.name
  pub kind : IsName p.kind
  pub attrs : AttrsFit p.attrs
  pub params : ParamsFit p.params
  pub pins : Each p.pins (λ (q : Pin). IsName q.name × IsCounted q.bits)
  pub apart : AreApart (map (λ (q : Pin). q.name) p.pins)
  pub count : IsCounted p.pins

-- the names of a module's cells
abbrev pub cell_names : Module → List (List ℕ)
cell_names m =
    map (λ (c : Comb). c.name) m.combs ++ (map (λ (r : Reg). r.name) m.regs ++ (map (λ (c : RamCell). c.name) m.rams ++ (map (λ (c : Carried). c.name) m.carried ++ map (λ (p : MemPart). p.name) m.parts)))

-- Inout bits touch nothing but carried cells: each bit of an inout wire is a net that stands in no other place of a wire, a
-- net of an inout pin stands in at most one place of a wire, and neither stands in a pin of another cell.
pub record InoutsApart (modules : List Interface) (m : Module) : Type 0 where
  pub nets : are_nets (wire_bits (filter is_inout m.wires)) ≡ true
  pub wires : (n i j : ℕ) → HasNet (wire_bits (filter is_inout m.wires)) n → slice_get (wire_bits m.wires) i ≡ Some (Net n) → slice_get (wire_bits m.wires) j ≡ Some (Net n) → i ≡ j
  pub pins : (n i j : ℕ) → HasNet (flat_map (inout_pin_bits modules) m.carried) n → slice_get (wire_bits m.wires) i ≡ Some (Net n) → slice_get (wire_bits m.wires) j ≡ Some (Net n) → i ≡ j
  pub undriven_wires : (n k : ℕ) (p : Node) → HasNet (wire_bits (filter is_inout m.wires)) n → slice_get (nodes_of m) k ≡ Some p → Drives p n → ⊥
  pub undriven_pins : (n k : ℕ) (p : Node) → HasNet (flat_map (inout_pin_bits modules) m.carried) n → slice_get (nodes_of m) k ≡ Some p → Drives p n → ⊥
  pub wires_inside : (n : ℕ) → HasNet (wire_bits (filter is_inout m.wires)) n → HasNet (inner_bits m) n → ⊥
  pub pins_inside : (n : ℕ) → HasNet (flat_map (inout_pin_bits modules) m.carried) n → HasNet (inner_bits m) n → ⊥

-- the nodes that show nothing: all slots, and the other nodes that drive no net
abbrev pub silent_nodes : Module → ℕ
silent_nodes m =
    sum_by (λ (c : RamCell). length c.slots) m.rams + count_by (λ (p : Node). nat_eq (length p.drives) 0) (map comb_node m.combs ++ (map reg_node m.regs ++ flat_map mem_nodes m.mems))

-- The lists of a module have as many items as numbers of 32 bits can name.
pub record ListsCounted (m : Module) : Type 0 where
  pub wires : IsCounted m.wires
  pub declared : IsCounted m.declared
  pub parts : IsCounted m.parts
  pub mems : IsCounted m.mems
  pub combs : IsCounted m.combs
  pub regs : IsCounted m.regs
  pub rams : IsCounted m.rams
  pub carried : IsCounted m.carried

-- the module is valid
pub record IsValid (lib : Library) (modules : List Interface) (m : Module) : Type 0 where
  pub name : IsName m.name
  pub attrs : AttrsFit m.attrs
  -- each part by itself
  pub wires : Each m.wires WireFits
  pub declared : Each m.declared IsDeclared
  pub parts : Each m.parts PartFits
  pub mems : Each m.mems MemFits
  pub combs : Each m.combs CombFits
  pub regs : Each m.regs RegFits
  pub rams : Each m.rams (RamFits lib m)
  pub reads_agree : ReadsAgree lib m
  pub carried : Each m.carried (CarriedFits modules)
  -- no two wires, no two memories, no two cells have one name
  pub wire_names : AreApart (map (λ (w : Wire). w.name) m.wires)
  pub mem_names : AreApart (map (λ (x : Mem). x.name) m.mems)
  pub cell_names : AreApart (cell_names m)
  -- every net has a number of the module, and at most one driver
  pub nets : (n : ℕ) → HasNet (all_bits m) n → n < m.nets
  pub driven : HasOneDriver m
  pub driven_nets : (k : ℕ) (p : Node) → slice_get (nodes_of m) k ≡ Some p → (n : ℕ) → Drives p n → n < m.nets
  pub inouts : InoutsApart modules m
  -- clock roots are inputs
  pub clocks : (k net : ℕ) (rising : Bool) → slice_get (clocks_of m) k ≡ Some (Root net rising) → (place : ℕ) × (slice_get (inputs_of m) place ≡ Some net)
  -- limits
  pub net_count : m.nets ≤ 67108864
  pub silent : silent_nodes m ≤ 3221225472
  pub counted : ListsCounted m

-- each module of the design is valid, under the ports of its modules, and no two have one name
pub record IsValidDesign (lib : Library) (d : Design) : Type 0 where
  pub modules : Each d.modules (IsValid lib (interfaces d))
  pub names : AreApart (map (λ (m : Module). m.name) d.modules)
  pub count : IsCounted d.modules

-- The law: a valid module has nodes that numbers of 32 bits can name, over nets of its own.
abbrev pub ValidNodes : Type 0
ValidNodes = (lib : Library) (modules : List Interface) (m : Module) → IsValid lib modules m → (length (nodes_of m) < 2 ^ 32) × NetsWithin m

-- The law: a valid module with a combinational order has a run over every list of happenings.
abbrev pub OrderedValidIsLive : Type 0
OrderedValidIsLive = (lib : Library) (modules : List Interface) (m : Module) → IsValid lib modules m → Ordered m → Live lib m
